-- What the guard's row sends.
use Rattle.ticks.proofs.LineLaws.{sends_lem}
use Rattle.ticks.proofs.line_tick.ArrayU64WORDSTicking.sending.Goals as goal

pub returns : goal.returns
returns c = let a = c.args in λ count r h. sends_lem count a.self.now a.i r _ c.sending_of.ensures h
