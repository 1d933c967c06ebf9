-- By the guard.
use mathlib.Core.Path.{◌∙◌}
use Rattle.ticks.proofs.LineLaws.{is_due_lem}
use Rattle.ticks.proofs.line_tick.ArrayU64WORDSTicking.is_expiring.Goals as goal

pub returns : goal.returns
returns c = let a = c.args in c.is_expiring.ensures ∙ is_due_lem a.count a.self.now a.i
