-- Each field is put behind those before it: the part lent to its writer starts where they end.
use Prim.Native.Nat.{ℕ, ◌+◌, ◌-◌}
use mathlib.Core.Path.{◌≡◌, sym, ◌∙◌, ap}
use mathlib.Core.List.{List, ◌++◌, append_assoc}
use lib.ListN.{length, length-append}
use borrow.Rule.Slice.PartMut.{put_mid}
use Rattle.lists.specs.Parts.{over}
use Rattle.lists.proofs.Parts.{over-next}
use Rattle.message.specs.Number.{number_bytes, digits_bytes}
use Rattle.message.proofs.RangeLaws.{digits-length}
use Rattle.std.proofs.Common.{rules}
use Rattle.writer.proofs.put_numbers.Goals as goal

pub returns : goal.returns
returns c =
    let a = c.args in
    let d = a.d.now in
    let A = digits_bytes a.a in
    let B = digits_bytes a.b in
    let N = number_bytes a.service in
    let la = digits-length a.a (search rules) c.requires.0.0 in
    let lb = digits-length a.b (search rules) c.requires.0.1.0 in
    let n1 = c.put_digits-behindA.result in
    let l1 = c.put_digits-behindA.new.d in
    let d2 = put_mid n1 (length l1 - n1) l1 c.put_digits.new.d in
    let n2 = n1 + c.put_digits.result in
    let d3 = put_mid n2 (length d2 - n2) d2 c.put_number.new.d in
    let e1 : n1 ≡ length A = c.put_digits-behindA.ensures.0 ∙ sym la in
    let e2 : n2 ≡ length (A ++ B) = rw (length-append A B, la, lb, c.put_digits-behindA.ensures.0, c.put_digits.ensures.0) in
    let e3 : n2 + c.put_number.result ≡ length ((A ++ B) ++ N) = rw (length-append (A ++ B) N, e2, c.put_number.ensures.0) in
    let s2 : d2 ≡ over (A ++ B) d = over-next d l1 c.put_digits.new.d A B n1 c.put_digits-behindA.ensures.1 c.put_digits.ensures.1 e1 in
    let s3 : d3 ≡ over ((A ++ B) ++ N) d = over-next d d2 c.put_number.new.d (A ++ B) N n2 s2 c.put_number.ensures.1 e2 in
    (e3 ∙ ap (λ (t : List ℕ). length t) (append_assoc A B N), s3 ∙ ap (λ (t : List ℕ). over t d) (append_assoc A B N))
