-- What a record put, added or removed does to a list of places, over any type of record. Each claim is a type; its proof has its name.
use Rattle.std.specs.Prelude.{ℕ, suc, ◌≤◌, ◌<◌, ◌≡◌, true, false, List, [], ◌∷◌, ◌++◌, map, length, set, Option, Some, None}
use Rattle.lists.specs.Lists.{without}
use Rattle.lists.specs.declared.words.Words.{Words}
use Rattle.places.specs.Places.{View, at, Placed, stored, place_in, meant_in, known_in, names, Queued, Moved, OthersStay}

-- ---- a list stays placed
pub record StaysPlaced {A : Type 0} (v : View A) : Type 0 where
  -- all places free
  pub start : (rs : List A) → ((i : ℕ) → at v rs i ≡ v.blank) → v.used v.blank ≡ false → Placed v rs
  -- a used record put over a used one, with its identifier or none as it has none
  pub put :
      (rs : List A) (i : ℕ) (r : A) → Placed v rs → v.used (at v rs i) ≡ true → v.used r ≡ true → v.name r ≡ v.name (at v rs i) →
      Placed v (set rs i r)
  -- a record with a new identifier, or none, put at the first free place
  pub add :
      (rs : List A) (i : ℕ) (r : A) → Placed v rs → place_in v rs ≡ Some i → known_in v (v.name r) rs ≡ None → v.used r ≡ true →
      Placed v (set rs i r)
  -- a record taken out
  pub remove : (rs : List A) (i : ℕ) → Placed v rs → Placed v (without v.blank rs i)
  -- every record changed, identifier and use kept, the blank one as it was
  pub change :
      (rs : List A) (f : A → A) → Placed v rs → ((r : A) → v.used (f r) ≡ v.used r) → ((r : A) → v.name (f r) ≡ v.name r) → f v.blank ≡ v.blank →
      Placed v (map f rs)

-- ---- how many records there are
pub record Counting {A : Type 0} (v : View A) : Type 0 where
  pub most : (rs : List A) (n : ℕ) → length rs ≡ n → stored v rs ≤ n
  -- the first place that is not used is behind all that are, and there is one exactly if not all are
  pub room : (rs : List A) (n : ℕ) → Placed v rs → length rs ≡ n → stored v rs < n → place_in v rs ≡ Some (stored v rs)
  pub full : (rs : List A) (n : ℕ) → length rs ≡ n → stored v rs ≡ n → place_in v rs ≡ None
  -- a new record is one more, a record put over another is none, a removed record is one less
  pub more : (rs : List A) (i : ℕ) (r : A) → place_in v rs ≡ Some i → v.used r ≡ true → stored v (set rs i r) ≡ suc (stored v rs)
  pub same : (rs : List A) (i : ℕ) (r : A) → v.used (at v rs i) ≡ true → v.used r ≡ true → stored v (set rs i r) ≡ stored v rs
  pub fewer : (rs : List A) (i : ℕ) → v.used v.blank ≡ false → v.used (at v rs i) ≡ true → suc (stored v (without v.blank rs i)) ≡ stored v rs

-- ---- the order of storing
pub record Ordering {A : Type 0} (v : View A) : Type 0 where
  pub put :
      (rs : List A) (i : ℕ) (r : A) → v.used (at v rs i) ≡ true → v.used r ≡ true → v.name r ≡ v.name (at v rs i) →
      names v (set rs i r) ≡ names v rs
  pub add : (rs : List A) (i : ℕ) (r : A) → Placed v rs → place_in v rs ≡ Some i → v.used r ≡ true → names v (set rs i r) ≡ names v rs ++ (v.name r ∷ [])
  pub remove : (rs : List A) (i : ℕ) → v.used v.blank ≡ false → Queued (names v rs) (names v (without v.blank rs i))
  pub change : (rs : List A) (f : A → A) → ((r : A) → v.used (f r) ≡ v.used r) → ((r : A) → v.name (f r) ≡ v.name r) → names v (map f rs) ≡ names v rs

-- ---- the record with an identifier
pub record Holding {A : Type 0} (v : View A) : Type 0 where
  -- the record that is found is used and has the identifier
  pub its : (rs : List A) (identifier : Words) (i : ℕ) → meant_in v identifier rs ≡ Some i → (v.used (at v rs i) ≡ true) × (v.name (at v rs i) ≡ Some identifier)
  -- in a placed list a used record that has an identifier is found at its place
  pub own :
      (rs : List A) (identifier : Words) (i : ℕ) → Placed v rs → v.used (at v rs i) ≡ true → v.name (at v rs i) ≡ Some identifier →
      meant_in v identifier rs ≡ Some i

-- ---- a step about the record of one place
pub record Moving {A : Type 0} (v : View A) (Turn : A → A → Type 0) (Store : A → Type 0) : Type 1 where
  pub placed : {about : Option ℕ} {rs after : List A} → Placed v rs → Moved v Turn Store about rs after → Placed v after
  -- what holds of every used record, of what is put over one and of a new one, holds afterwards
  pub each :
      (Whole : A → Type 0) → ((a b : A) → Turn a b → Whole b) → ((b : A) → Store b → Whole b) → {about : Option ℕ} {rs after : List A} → Placed v rs →
      ((i : ℕ) → v.used (at v rs i) ≡ true → Whole (at v rs i)) → Moved v Turn Store about rs after →
      (i : ℕ) → v.used (at v after i) ≡ true → Whole (at v after i)
  -- the order of storing
  pub order : {about : Option ℕ} {rs after : List A} → Placed v rs → Moved v Turn Store about rs after → Queued (names v rs) (names v after)
  -- every other record stays
  pub others : {about : Option ℕ} {rs after : List A} → Moved v Turn Store about rs after → OthersStay v about rs after
