-- By the timer that runs out.
use mathlib.Core.Path.{ap, ◌∙◌}
use Rattle.std.specs.Prelude.{is_some}
use Rattle.ticks.proofs.ClerkLaws.{is_due_lem}
use Rattle.ticks.proofs.clerk_tick.ArrayU64WORDSTicking.is_expiring.Goals as goal

pub returns : goal.returns
returns c = let a = c.args in c.is_some.ensures ∙ ap is_some c.expiring_at.ensures ∙ is_due_lem a.count a.self.now a.i
