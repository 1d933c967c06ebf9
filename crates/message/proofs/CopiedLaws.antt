-- What is copied: by how many bytes there are to copy; and between places that are there and no more than sixteen apart it is all that stands between them.
use Prim.Native.Nat.{ℕ, zero, suc, ◌+◌, ◌-◌, ◌≤◌, min}
use mathlib.Core.Path.{◌≡◌, ◌∙◌, ap}
use mathlib.Core.List.{List, [], ◌∷◌, append-nil}
use lib.ListN.{length, take, drop, length-drop, length-take}
use lib.Seq.{take_all, take-nil, length-take-le}
use native.Mathlib.Nat.{zero-min}
use native.Mathlib.Omega.{arith}
use Rattle.message.specs.Number.{sixteen}
use Rattle.message.specs.Wire.{between}
use Rattle.message.specs.Copied.{copied}

take_counted : {A : Type 0} (a n : ℕ) (l : List A) → take (min a (min n (length l))) l ≡ take a (take n l)
take_counted {A} zero n l = ap (λ (k : ℕ). take k l) (zero-min (min n (length l)))
take_counted {A} (suc a) zero l =
    let e : min (suc a) (min 0 (length l)) ≡ 0 = omega arith in
    ap (λ (k : ℕ). take k l) e
take_counted {A} (suc a) (suc n) [] = take-nil (min (suc a) (min (suc n) 0))
take_counted {A} (suc a) (suc n) (x ∷ xs) =
    let e : min (suc a) (min (suc n) (suc (length xs))) ≡ suc (min a (min n (length xs))) = omega arith in
    ap (λ (k : ℕ). take k (x ∷ xs)) e ∙ ap (λ (r : List A). x ∷ r) (take_counted a n xs)

apart-min : (to length from : ℕ) → min to length - from ≡ min (to - from) (length - from)
apart-min to length from = omega arith

-- so many as stand between the places, no more than sixteen, and no more than there are
pub copied-count : (s : List ℕ) (from to : ℕ) → sixteen (take (min 16 (min to (length s) - from)) (drop from s)) ≡ copied s from to
unfolding copied
copied-count s from to =
    rw (apart-min to (length s) from, ← length-drop from s) (ap sixteen (take_counted 16 (to - from) (drop from s)))

pub copied-between : (s : List ℕ) (from to : ℕ) → to ≤ from + 16 → copied s from to ≡ between s from to
unfolding copied
copied-between s from to h =
    let few : length (take (to - from) (drop from s)) ≤ 16 = omega (arith, length-take (to - from) (drop from s)) in
    ap sixteen (take_all 16 (take (to - from) (drop from s)) few)

-- sixteen bytes leave nothing to be filled up
pub copied-whole : (s : List ℕ) (at : ℕ) → at + 16 ≤ length s → copied s at (at + 16) ≡ take 16 (drop at s)
copied-whole s at h =
    let k : at + 16 - at ≡ 16 = omega arith in
    let t : length (take 16 (drop at s)) ≡ 16 = length-take-le 16 (drop at s) (omega (arith, length-drop at s)) in
    copied-between s at (at + 16) (omega arith) ∙ rw (k, t) (append-nil (take 16 (drop at s)))
