-- Before each turn the rest of the lines, from the place reached on, makes what all of them make from the start.
use Prim.Native.Nat.{◌+◌, ◌*◌}
use mathlib.Core.Path.{◌≡◌}
use lib.ListN.{drop}
use Rattle.line.specs.Start.{given_width, take_lines}
use Rattle.line.proofs.start.take_lines.Given as goal

abbrev pub invariant-loop-left : goal.invariant-loop-left
invariant-loop-left l = (l.k + l.left ≡ l.count) × ((l.at ≡ l.k * given_width) × (take_lines l.left l.k (drop l.at l.given) l.words ≡ take_lines l.count 0 l.given l.initial.words))

abbrev pub decreases-loop-left : goal.decreases-loop-left
decreases-loop-left l = l.left
