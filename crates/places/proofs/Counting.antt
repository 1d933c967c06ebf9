-- The first free place of a placed list is behind all used ones: so many are used as stand before it. Each change moves the count by one or not at all.
use Rattle.std.specs.Prelude.{Some, None}
use Prim.Native.Nat.{ℕ, zero, suc, ◌+◌, ◌≤◌, ◌<◌}
use mathlib.Core.Path.{◌≡◌, refl, sym, ap, ◌∙◌}
use mathlib.Core.Bool.{Bool, true, false}
use mathlib.Core.List.{List, [], ◌∷◌, ◌++◌, map}
use lib.ListN.{length, set}
use native.Mathlib.Omega.{arith}
use Rattle.lists.specs.Choice.{pick}
use Rattle.lists.specs.Lists.{first_from, count, without}
use Rattle.lists.proofs.Choice.{no_true}
use Rattle.places.specs.Places.{View, at, Placed, stored, unused, place_in}
use Rattle.places.specs.Claims.{Counting}
use Rattle.places.proofs.Staying.{place_inside, place-unused}

module _ {A : Type 0} (v : View A) where
  -- ---- counts
  pub stored-below : (rs : List A) → stored v rs ≤ length rs
  unfolding count
  stored-below [] = omega arith
  stored-below (r ∷ rs) = by (v.used r) (stored-below rs)
    where
      by : (b : Bool) {m n : ℕ} → m ≤ n → pick b (suc m) m ≤ suc n
      by true h = omega arith
      by false h = omega arith

  pub stored-most : (rs : List A) (n : ℕ) → length rs ≡ n → stored v rs ≤ n
  stored-most rs n l = omega (arith, stored-below rs)

  pub stored-none : (rs : List A) → ((j : ℕ) → v.used (at v rs j) ≡ false) → stored v rs ≡ 0
  unfolding count
  stored-none [] h = refl
  stored-none (r ∷ rs) h = rw (h 0) (stored-none rs (λ j. h (suc j)))

  -- a used record put over one that is not
  pub stored-filled :
      (rs : List A) (i : ℕ) (r : A) → i < length rs → v.used (at v rs i) ≡ false → v.used r ≡ true →
      stored v (set rs i r) ≡ suc (stored v rs)
  unfolding count
  stored-filled [] i r h u w = absurd (omega (arith, h))
  stored-filled (x ∷ xs) zero r h u w = rw (u, w)
  stored-filled (x ∷ xs) (suc i) r h u w = by (v.used x) (stored-filled xs i r (omega (arith, h)) u w)
    where
      by : (b : Bool) {m n : ℕ} → m ≡ suc n → pick b (suc m) m ≡ suc (pick b (suc n) n)
      by true e = ap suc e
      by false e = e

  pub stored_more : (rs : List A) (i : ℕ) (r : A) → place_in v rs ≡ Some i → v.used r ≡ true → stored v (set rs i r) ≡ suc (stored v rs)
  stored_more rs i r free w = stored-filled rs i r (place_inside v rs i free) (place-unused v rs i free) w

  -- a record put over one, where both are used or none is
  pub stored_same : (rs : List A) (i : ℕ) (r : A) → v.used r ≡ v.used (at v rs i) → stored v (set rs i r) ≡ stored v rs
  unfolding count
  stored_same [] i r e = refl
  stored_same (x ∷ xs) zero r e = rw e
  stored_same (x ∷ xs) (suc i) r e = rw (stored_same xs i r e)

  stored-behind : (rs : List A) → v.used v.blank ≡ false → stored v (rs ++ (v.blank ∷ [])) ≡ stored v rs
  unfolding count
  stored-behind [] free = rw free
  stored-behind (x ∷ xs) free = rw (stored-behind xs free)

  pub stored-fewer :
      (rs : List A) (i : ℕ) → v.used v.blank ≡ false → v.used (at v rs i) ≡ true → suc (stored v (without v.blank rs i)) ≡ stored v rs
  unfolding count without
  stored-fewer [] i free u = absurd (no_true (sym free ∙ u))
  stored-fewer (x ∷ xs) zero free u = rw (u, stored-behind xs free)
  stored-fewer (x ∷ xs) (suc i) free u = by (v.used x) (stored-fewer xs i free u)
    where
      by : (b : Bool) {m n : ℕ} → suc m ≡ n → suc (pick b (suc m) m) ≡ pick b (suc n) n
      by true e = ap suc e
      by false e = e

  -- also of a place that is not used
  pub stored-without : (rs : List A) (i : ℕ) → v.used v.blank ≡ false → stored v (without v.blank rs i) ≤ stored v rs
  unfolding count without
  stored-without [] i free = omega arith
  stored-without (x ∷ xs) zero free = rw (stored-behind xs free) (by (v.used x) (stored v xs))
    where
      by : (b : Bool) (n : ℕ) → n ≤ pick b (suc n) n
      by true n = omega arith
      by false n = omega arith
  stored-without (x ∷ xs) (suc i) free = by (v.used x) (stored-without xs i free)
    where
      by : (b : Bool) {m n : ℕ} → m ≤ n → pick b (suc m) m ≤ pick b (suc n) n
      by true h = omega arith
      by false h = omega arith

  pub stored-change : (rs : List A) (f : A → A) → ((r : A) → v.used (f r) ≡ v.used r) → stored v (map f rs) ≡ stored v rs
  unfolding count
  stored-change [] f keeps = refl
  stored-change (x ∷ xs) f keeps = rw (keeps x, stored-change xs f keeps)

  -- ---- the first free place
  room-from :
      (rs : List A) (k : ℕ) → ((i j : ℕ) → i < j → v.used (at v rs j) ≡ true → v.used (at v rs i) ≡ true) → stored v rs < length rs →
      first_from (unused v) k rs ≡ Some (k + stored v rs)
  unfolding first_from count
  room-from [] k c h = absurd (omega (arith, h))
  room-from (x ∷ xs) k c h = head (v.used x) refl (room-from xs (suc k) (λ i j g u. c (suc i) (suc j) (omega (arith, g)) u))
    where
      later : v.used x ≡ false → (j : ℕ) (b : Bool) → v.used (at v xs j) ≡ b → v.used (at v xs j) ≡ false
      later f j true t = absurd (no_true (sym f ∙ c 0 (suc j) (omega arith) t))
      later f j false e = e

      head :
          (b : Bool) → v.used x ≡ b → (stored v xs < length xs → first_from (unused v) (suc k) xs ≡ Some (suc k + stored v xs)) →
          first_from (unused v) k (x ∷ xs) ≡ Some (k + stored v (x ∷ xs))
      head true t next =
          let a : stored v (x ∷ xs) ≡ suc (stored v xs) = rw t in
          let b : first_from (unused v) k (x ∷ xs) ≡ first_from (unused v) (suc k) xs = rw t in
          let e : suc k + stored v xs ≡ k + stored v (x ∷ xs) = omega arith in
          b ∙ next (omega (arith, h)) ∙ ap Some e
      head false f next =
          let z : stored v xs ≡ 0 = stored-none xs (λ j. later f j (v.used (at v xs j)) refl) in
          let a : stored v (x ∷ xs) ≡ stored v xs = rw f in
          let b : first_from (unused v) k (x ∷ xs) ≡ Some k = rw f in
          let e : k ≡ k + stored v (x ∷ xs) = omega arith in
          b ∙ ap Some e

  full_from : (rs : List A) (k : ℕ) → stored v rs ≡ length rs → first_from (unused v) k rs ≡ None
  unfolding first_from count
  full_from [] k h = refl
  full_from (x ∷ xs) k h = head (v.used x) refl (full_from xs (suc k))
    where
      head :
          (b : Bool) → v.used x ≡ b → (stored v xs ≡ length xs → first_from (unused v) (suc k) xs ≡ None) →
          first_from (unused v) k (x ∷ xs) ≡ None
      head true t next =
          let a : stored v (x ∷ xs) ≡ suc (stored v xs) = rw t in
          let b : first_from (unused v) k (x ∷ xs) ≡ first_from (unused v) (suc k) xs = rw t in
          b ∙ next (omega (arith, h))
      head false f next =
          let a : stored v (x ∷ xs) ≡ stored v xs = rw f in
          absurd (omega (arith, h, stored-below xs))

  pub place-room : (rs : List A) (n : ℕ) → Placed v rs → length rs ≡ n → stored v rs < n → place_in v rs ≡ Some (stored v rs)
  place-room rs n placed l h = room-from rs 0 placed.compact (omega arith) ∙ ap Some (omega arith)

  pub place-full : (rs : List A) (n : ℕ) → length rs ≡ n → stored v rs ≡ n → place_in v rs ≡ None
  place-full rs n l h = full_from rs 0 (omega arith)

pub counting : {A : Type 0} (v : View A) → Counting v
counting v =
    record {
      most = stored-most v;
      room = place-room v;
      full = place-full v;
      more = stored_more v;
      same = λ rs i r was is. stored_same v rs i r (is ∙ sym was);
      fewer = stored-fewer v;
    }
