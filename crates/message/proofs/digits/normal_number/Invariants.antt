-- The invariant: the places from the last digit on to place i are 0, and the others are as they were.
use Prim.Native.Nat.{◌-◌, ◌≤◌}
use mathlib.Core.Path.{◌≡◌}
use lib.ListN.{length, replicate}
use lib.Seq.{paste}
use Rattle.message.proofs.digits.normal_number.Given as goal

abbrev pub invariant-loop-i : goal.invariant-loop-i
invariant-loop-i l = ((l.initial.i ≤ l.i) × (l.i ≤ 16)) × ((length l.normal ≡ 16) × (l.normal ≡ paste l.initial.normal l.initial.i (replicate 16 0) (l.i - l.initial.i)))

abbrev pub decreases-loop-i : goal.decreases-loop-i
decreases-loop-i l = 16 - l.i
