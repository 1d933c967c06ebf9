-- The invariant: from the next byte on the digits end where they do from the first one on.
use Prim.Native.Nat.{◌-◌}
use mathlib.Core.Path.{◌≡◌}
use Rattle.message.specs.Ends.{digits_end}
use Rattle.message.proofs.digits.digits_end.Given as goal

abbrev pub invariant-loop-next : goal.invariant-loop-next
invariant-loop-next l = digits_end (l.end - l.next) l.s l.next ≡ digits_end (l.end - l.at) l.s l.at

abbrev pub decreases-loop-next : goal.decreases-loop-next
decreases-loop-next l = l.end - l.next
