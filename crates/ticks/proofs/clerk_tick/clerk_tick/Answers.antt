-- The one tick of both desks, at this one.
use mathlib.Core.Path.{◌∙◌}
use Rattle.ticks.proofs.ClerkLaws.{same_tick}
use Rattle.ticks.proofs.clerk_tick.clerk_tick.Goals as goal

pub returns : goal.returns
returns c = let a = c.args in c.tick.ensures ∙ same_tick a.count a.words.now a.out.now
