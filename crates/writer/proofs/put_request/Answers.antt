-- The flags behind the numbers and the service.
use Rattle.std.specs.Prelude.{Some}
use Prim.Native.Nat.{ℕ, ◌≤◌, ◌<◌}
use mathlib.Core.Path.{◌≡◌, ◌∙◌, ap}
use mathlib.Core.Bool.{true}
use mathlib.Core.List.{List, [], ◌∷◌, ◌++◌, append_assoc}
use lib.ListN.{length}
use native.Mathlib.Omega.{arith}
use Rattle.lists.specs.Parts.{over}
use Rattle.lists.proofs.Parts.{over-set}
use Rattle.message.specs.Number.{number_bytes, digits_bytes}
use Rattle.message.specs.Format.{request_in_range, request_bytes, element_bytes}
use Rattle.message.proofs.RangeLaws.{request-ranged, request-length, numbers-length, small_bytes}
use Rattle.std.proofs.Common.{rules}
use Rattle.writer.proofs.put_request.Goals as goal

-- what the requires says of the room: one byte behind the numbers
room :
    (a b : List ℕ) (service flags : ℕ) (d : List ℕ) → length a ≡ 16 → length b ≡ 16 → request_in_range a b service flags ≡ true → length (request_bytes a b service flags) ≤ length d →
    length (element_bytes a b (Some service)) < length d
room a b service flags d la lb ranged whole_room =
    let r = request-ranged a b service flags ranged in
    let whole = request-length a b service flags la lb ranged in
    let front = numbers-length a b service la lb r.most_a r.most_b in
    omega (arith, whole, front, whole_room)

pub put_numbers-behind-requires : goal.put_numbers-behind-requires
put_numbers-behind-requires c =
    let a = c.args in
    let r = request-ranged a.a a.b a.service a.flags c.requires.0 in
    ((r.most_a, (r.most_b, r.most_service)), omega (arith, room a.a a.b a.service a.flags a.d.now (search rules) (search rules) c.requires.0 c.requires.1))

pub returns : goal.returns
returns c =
    let a = c.args in
    let d = a.d.now in
    let A = digits_bytes a.a in
    let B = digits_bytes a.b in
    let N = number_bytes a.service in
    let F = a.flags ∷ [] in
    let r = request-ranged a.a a.b a.service a.flags c.requires.0 in
    let h : length (A ++ (B ++ N)) < length d = room a.a a.b a.service a.flags d (search rules) (search rules) c.requires.0 c.requires.1 in
    let fs : number_bytes a.flags ≡ F = small_bytes a.flags (omega (arith, r.most_flags)) in
    rw (c.put_numbers-behind.ensures.1, c.put_numbers-behind.ensures.0, fs)
    (over-set d (A ++ (B ++ N)) a.flags h ∙ ap (λ (t : List ℕ). over t d) (append_assoc A (B ++ N) F ∙ ap (λ (t : List ℕ). A ++ t) (append_assoc B N F)))
