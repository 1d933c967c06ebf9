-- Sixteen bytes are in range exactly if their length is and the digits end behind as many.
use Prim.Native.Nat.{◌+◌, ◌≤◌}
use mathlib.Core.Path.{◌≡◌, sym, ◌∙◌}
use lib.ListN.{length}
use native.Mathlib.Omega.{arith}
use Rattle.std.proofs.Common.{rules}
use Rattle.message.specs.Number.{digits_at, digits_in_range}
use Rattle.message.proofs.NumberLaws.{length-byte, scan-taken}
use Rattle.message.proofs.digits.digits_in_range.Goals as goal

pub overflow_add-end : goal.overflow_add-end
overflow_add-end c =
    let first = length-byte _ _ _ _ _ (sym c.read_field.ensures ∙ c.in-Ok.is) in
    omega arith

pub digits_end-requires : goal.digits_end-requires
digits_end-requires c =
    let first = length-byte _ _ _ _ _ (sym c.read_field.ensures ∙ c.in-Ok.is) in
    search (rules, first)

pub returns-in-Ok : goal.returns-in-Ok
unfolding digits_in_range digits_at
returns-in-Ok c =
    let e = sym c.read_field.ensures ∙ c.in-Ok.is in
    let first = length-byte _ _ _ _ _ e in
    let number = c.args.number in
    let l : length number ≡ 16 = search rules in
    let room : c.in-Ok.next + c.in-Ok.v ≤ length number = omega arith in
    rw (e, scan-taken _ _ _ room, c.digits_end.ensures)
