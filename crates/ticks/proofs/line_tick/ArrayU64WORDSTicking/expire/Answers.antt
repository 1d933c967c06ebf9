-- What the guard's row does.
use Rattle.ticks.proofs.LineLaws.{does_lem}
use Rattle.ticks.proofs.line_tick.ArrayU64WORDSTicking.expire.Goals as goal

pub returns : goal.returns
returns c = let a = c.args in λ count r h. does_lem count a.self.now a.i r _ _ (c.expire.ensures count) h
