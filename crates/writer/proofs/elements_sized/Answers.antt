-- A numberB with a digit, then a service that is given: they take the bytes of a request's numbers and service.
use Rattle.std.specs.Prelude.{Option, Some}
use Prim.Native.Nat.{ℕ, ◌<◌}
use mathlib.Core.Path.{◌≡◌, sym, ◌∙◌}
use mathlib.Core.Bool.{true}
use mathlib.Core.List.{List}
use lib.ListN.{get_or}
use native.Mathlib.Omega.{arith}
use borrow.Author.Tests.{lt-ltb}
use Rattle.message.specs.Format.{elements_in_range}
use Rattle.message.proofs.RangeLaws.{NumbersRanged, numbers-ranged}
use Rattle.writer.proofs.elements_sized.Goals as goal

-- what the three tests say of the numbers and the service
ranged : (a b : List ℕ) (service : Option ℕ) (n : ℕ) → elements_in_range a b service ≡ true → 0 < get_or b 0 0 → service ≡ Some n → NumbersRanged a b n
ranged a b service n e h s = numbers-ranged a b n (rw s at e) (rw (lt-ltb 0 (get_or b 0 0) h))

pub numbers_size-requires : goal.numbers_size-requires
numbers_size-requires c =
    let a = c.args in
    let e = sym c.elements_in_range.ensures ∙ c.if-elements_in_range.true in
    let r = ranged a.a a.b a.service _ e (omega arith) c.in_ok-n.was in
    (r.most_a, r.most_b)
