-- Laws of parts of a buffer: a part is lent, changed at its front and given back. Each by the kit's laws of `take`, `drop` and `++`.
use Prim.Native.Nat.{ℕ, suc, ◌+◌, ◌-◌, ◌≤◌, ◌<◌}
use mathlib.Core.Path.{◌≡◌, sym, ◌∙◌, ap}
use mathlib.Core.List.{List, [], ◌∷◌, ◌++◌, append_assoc, append-nil}
use lib.ListN.{length, get_or, take, drop, set, length-append, length-drop, drop_of_length-le}
use lib.Seq.{paste-suc, take_all, drop-cons, set-append_seam, append_snoc, take-append_seam, drop-append_seam, drop-drop}
use native.Mathlib.Nat.{zero-add}
use native.Mathlib.Numerals.{add-one}
use native.Mathlib.Omega.{arith}
use borrow.Rule.Slice.PartMut.{put_mid}
use Rattle.lists.specs.Parts.{over}

-- one turn of a loop that copies `from` to the front of `whole`
pub front-step :
    (whole from : List ℕ) (i : ℕ) → i < length whole → i < length from →
    set (take i from ++ drop i whole) i (get_or from i 0) ≡ take (i + 1) from ++ drop (i + 1) whole
front-step whole from i hw hf = rw add-one (simp zero-add at (paste-suc whole 0 from i 0 (rw zero-add hw) hf))

module _ {A : Type 0} where
  -- the part from a place on is lent whole
  pub tail_of_lem : (a : ℕ) (xs : List A) → take (length xs - a) (drop a xs) ≡ drop a xs
  tail_of_lem a xs = take_all (length xs - a) (drop a xs) (omega (arith, length-drop a xs))

  -- and comes back behind what stands before it
  pub mid_tail : (a : ℕ) (xs ys : List A) → put_mid a (length xs - a) xs ys ≡ take a xs ++ ys
  mid_tail a xs ys =
      let h : length (drop a xs) ≤ length xs - a = omega (arith, length-drop a xs) in
      ap (λ (t : List A). take a xs ++ (ys ++ t)) (drop_of_length-le (drop a xs) h)
      ∙ ap (λ (t : List A). take a xs ++ t) (append-nil ys)

  -- `front` stands at the front of `whole`; the part behind it is lent to one that puts `more` at its front: then both stand there
  pub over-next :
      (whole lent back front more : List A) (a : ℕ) → lent ≡ over front whole → back ≡ over more (take (length lent - a) (drop a lent)) →
      a ≡ length front → put_mid a (length lent - a) lent back ≡ over (front ++ more) whole
  over-next whole lent back front more a e1 e2 e3 =
      mid_tail a lent back
      ∙ rw (e2, tail_of_lem a lent, e1, e3, take-append_seam, drop-append_seam, drop-drop, append_assoc, length-append)

  pub length_over : (front whole : List A) → length front ≤ length whole → length (over front whole) ≡ length whole
  length_over front whole h = simp (length-append, length-drop) (omega arith)

  -- one element more
  pub over-set : (whole front : List A) (x : A) → length front < length whole → set (over front whole) (length front) x ≡ over (front ++ (x ∷ [])) whole
  over-set whole front x h =
      ap (λ (t : List A). set (front ++ t) (length front) x) (drop-cons whole (length front) x h)
      ∙ set-append_seam front (get_or whole (length front) x) (drop (suc (length front)) whole) x
      ∙ sym (append_snoc front x (drop (suc (length front)) whole))
      ∙ ap (λ (n : ℕ). (front ++ (x ∷ [])) ++ drop n whole) (sym (length-append front (x ∷ []) ∙ add-one (length front)))

  -- a cursor: what stands from a place on, and what stands behind its front
  pub at_next : (s front rest : List A) (at : ℕ) → drop at s ≡ front ++ rest → drop (at + length front) s ≡ rest
  at_next s front rest at h = sym (drop-drop (length front) at s) ∙ ap (λ (t : List A). drop (length front) t) h ∙ drop-append_seam front rest

  pub at_in : (s front rest : List A) (at : ℕ) → drop at s ≡ front ++ rest → 1 ≤ length front → at + length front ≤ length s
  at_in s front rest at h p = omega (arith, length-drop at s, ap length h ∙ length-append front rest)
