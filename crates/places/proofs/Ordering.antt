-- Used records stand in the order of storing: a put keeps the identifiers, an add puts one behind all others, a removal takes one out.
use Rattle.lists.specs.declared.words.Words.{Words}
use Rattle.std.specs.Prelude.{Option, Some}
use Prim.Native.Nat.{ℕ, zero, suc, ◌≤◌, ◌<◌}
use mathlib.Core.Path.{◌≡◌, refl}
use mathlib.Core.Bool.{Bool, true, false}
use mathlib.Core.List.{List, [], ◌∷◌, ◌++◌, map}
use lib.ListN.{length, set}
use native.Mathlib.Omega.{arith}
use Rattle.lists.specs.Choice.{pick}
use Rattle.lists.specs.Lists.{without}
use Rattle.places.specs.Places.{View, at, Placed, place_in, names, Queued, same, last, out}
use Rattle.places.specs.Claims.{Ordering}
use Rattle.places.proofs.Staying.{place_inside, place-unused, earlier-used, later-unused}

-- one more before a queue, before and after a step
pub queued_cons : {B : Type 0} (y : B) {xs ys : List B} → Queued xs ys → Queued (y ∷ xs) (y ∷ ys)
queued_cons y same = same
queued_cons y (last x) = last x
queued_cons y (out front x behind) = out (y ∷ front) x behind

module _ {A : Type 0} (v : View A) where
  -- ---- a put
  pub names-put :
      (rs : List A) (i : ℕ) (r : A) → v.used (at v rs i) ≡ true → v.used r ≡ true → v.name r ≡ v.name (at v rs i) →
      names v (set rs i r) ≡ names v rs
  unfolding names
  names-put [] i r u w e = refl
  names-put (x ∷ xs) zero r u w e = rw (u, w, e)
  names-put (x ∷ xs) (suc i) r u w e = rw (names-put xs i r u w e)

  -- ---- an add
  pub names-none : (rs : List A) → ((j : ℕ) → v.used (at v rs j) ≡ false) → names v rs ≡ []
  unfolding names
  names-none [] h = refl
  names-none (x ∷ xs) h = rw (h 0) (names-none xs (λ j. h (suc j)))

  names-behind-all :
      (rs : List A) (i : ℕ) (r : A) → i < length rs → ((j : ℕ) → j < i → v.used (at v rs j) ≡ true) →
      ((j : ℕ) → i ≤ j → v.used (at v rs j) ≡ false) → v.used r ≡ true → names v (set rs i r) ≡ names v rs ++ (v.name r ∷ [])
  unfolding names
  names-behind-all [] i r h before behind w = absurd (omega (arith, h))
  names-behind-all (x ∷ xs) zero r h before behind w =
      rw (w, behind 0 (omega arith), names-none xs (λ j. behind (suc j) (omega arith)))
  names-behind-all (x ∷ xs) (suc i) r h before behind w =
      let n : names v (set xs i r) ≡ names v xs ++ (v.name r ∷ []) =
      names-behind-all xs i r (omega (arith, h)) (λ j g. before (suc j) (omega (arith, g))) (λ j g. behind (suc j) (omega (arith, g))) w in
      rw (before 0 (omega arith), n)

  pub names-add :
      (rs : List A) (i : ℕ) (r : A) → Placed v rs → place_in v rs ≡ Some i → v.used r ≡ true → names v (set rs i r) ≡ names v rs ++ (v.name r ∷ [])
  names-add rs i r placed free w =
      names-behind-all rs i r (place_inside v rs i free) (earlier-used v rs i free) (later-unused v rs i placed (place-unused v rs i free)) w

  -- ---- a removal
  names-blank : (rs : List A) → v.used v.blank ≡ false → names v (rs ++ (v.blank ∷ [])) ≡ names v rs
  unfolding names
  names-blank [] free = rw free
  names-blank (x ∷ xs) free = rw (names-blank xs free)

  -- also of a place that is not used
  pub names-remove : (rs : List A) (i : ℕ) → v.used v.blank ≡ false → Queued (names v rs) (names v (without v.blank rs i))
  unfolding names without
  names-remove [] i free = same
  names-remove (x ∷ xs) zero free = rw (names-blank xs free) (head (v.used x))
    where
      head : (b : Bool) → Queued (pick b (v.name x ∷ names v xs) (names v xs)) (names v xs)
      head true = out [] (v.name x) (names v xs)
      head false = same
  names-remove (x ∷ xs) (suc i) free = head (v.used x) (names-remove xs i free)
    where
      head : (b : Bool) {xs ys : List (Option Words)} → Queued xs ys → Queued (pick b (v.name x ∷ xs) xs) (pick b (v.name x ∷ ys) ys)
      head true q = queued_cons (v.name x) q
      head false q = q

  -- ---- every record changed
  pub names-change :
      (rs : List A) (f : A → A) → ((r : A) → v.used (f r) ≡ v.used r) → ((r : A) → v.name (f r) ≡ v.name r) → names v (map f rs) ≡ names v rs
  unfolding names
  names-change [] f keeps named = refl
  names-change (x ∷ xs) f keeps named = rw (keeps x, named x, names-change xs f keeps named)

pub ordering : {A : Type 0} (v : View A) → Ordering v
ordering v =
    record {
      put = names-put v;
      add = names-add v;
      remove = names-remove v;
      change = names-change v;
    }
