-- A desk's list of places, each with a record or free, over any type of record, and a step of it: what both desks have in common.
use Rattle.std.specs.Prelude.{ℕ, suc, ◌≤◌, ◌<◌, ◌≡◌, Bool, true, false, List, [], ◌∷◌, ◌++◌, get_or, set, Option, Some, None}
use Rattle.lists.specs.Choice.{pick}
use Rattle.lists.specs.Lists.{both, first, count, without}
use Rattle.lists.specs.declared.words.Words.{Words}
use Rattle.desk.specs.Letter.{same_identifier}

-- how a type of record is looked at: whether it is one, its identifier or that it has none, and what a free place holds
pub record View (A : Type 0) : Type 0 where
  pub used : A → Bool
  pub name : A → Option Words
  pub blank : A

-- the record of a place
abbrev pub at : {A : Type 0} → View A → List A → ℕ → A
at v rs i = get_or rs i v.blank

-- ---- what the list of a reached desk is
pub record Placed {A : Type 0} (v : View A) (rs : List A) : Type 0 where
  -- used places come first
  pub compact : (i j : ℕ) → i < j → v.used (at v rs j) ≡ true → v.used (at v rs i) ≡ true
  -- a place that is not used is blank, and the blank is no record
  pub blanks : (i : ℕ) → v.used (at v rs i) ≡ false → at v rs i ≡ v.blank
  pub free : v.used v.blank ≡ false
  -- identifiers all differ: two records that have one, and the same, are one
  pub differ :
      (i j : ℕ) → v.used (at v rs i) ≡ true → v.used (at v rs j) ≡ true →
      same_identifier (v.name (at v rs i)) (v.name (at v rs j)) ≡ true → i ≡ j

-- how many records a list has
abbrev pub stored : {A : Type 0} → View A → List A → ℕ
stored v rs = count v.used rs

-- the first place that is not used
abbrev pub unused : {A : Type 0} → View A → A → Bool
unused v r = pick (v.used r) false true

abbrev pub place_in : {A : Type 0} → View A → List A → Option ℕ
place_in v rs = first (unused v) rs

-- ---- the record with an identifier
abbrev pub identified : {A : Type 0} → View A → Words → A → Bool
identified v identifier r = both (same_identifier (v.name r) (Some identifier)) (v.used r)

abbrev pub meant_in : {A : Type 0} → View A → Words → List A → Option ℕ
meant_in v identifier rs = first (identified v identifier) rs

-- where there is none, no record has it
abbrev pub known_in : {A : Type 0} → View A → Option Words → List A → Option ℕ
known_in v None rs = None
known_in v (Some identifier) rs = meant_in v identifier rs

-- what a desk holds of a request: its record, or none
pub data Held (A : Type 0) : Type 0 where
  none : Held A
  one : A → Held A

-- ---- the order of storing
-- the identifiers of the used records, in the order of their places
unfoldable pub names : {A : Type 0} → View A → List A → List (Option Words)
names v [] = []
names v (r ∷ rs) = pick (v.used r) (v.name r ∷ names v rs) (names v rs)

-- a queue, before and after a step: the same, one more at its end, or one taken out and the others in their order
pub data Queued {B : Type 0} : List B → List B → Type 0 where
  same : {xs : List B} → Queued xs xs
  last : {xs : List B} (x : B) → Queued xs (xs ++ (x ∷ []))
  out : (front : List B) (x : B) (behind : List B) → Queued (front ++ (x ∷ behind)) (front ++ behind)

-- ---- a step about the record of one place, or about none: what it makes of the list
-- `Turn` is what holds of a used record and of the one put over it, `Store` of a new one
pub data Moved {A : Type 0} (v : View A) (Turn : A → A → Type 0) (Store : A → Type 0) (about : Option ℕ) (rs after : List A) : Type 0 where
  stays : about ≡ None → after ≡ rs → Moved v Turn Store about rs after
  -- the record of the place gives way to another that has its identifier, or has none as it has none
  turns :
      (i : ℕ) (r : A) → about ≡ Some i → v.used (at v rs i) ≡ true → v.used r ≡ true → v.name r ≡ v.name (at v rs i) →
      Turn (at v rs i) r → after ≡ set rs i r → Moved v Turn Store about rs after
  -- a new one, whose identifier no record has, is put at the first free place
  stores :
      (i : ℕ) (r : A) → about ≡ Some i → place_in v rs ≡ Some i → known_in v (v.name r) rs ≡ None → v.used r ≡ true →
      Store r → after ≡ set rs i r → Moved v Turn Store about rs after
  -- the record of the place is taken out
  removes :
      (i : ℕ) → about ≡ Some i → v.used (at v rs i) ≡ true → after ≡ without v.blank rs i → Moved v Turn Store about rs after

-- every other record stays: at its place, or, behind one that was taken out, one place further to the front
pub data OthersStay {A : Type 0} (v : View A) (about : Option ℕ) (rs after : List A) : Type 0 where
  in_place : ((j : ℕ) → (about ≡ Some j → ⊥) → at v after j ≡ at v rs j) → OthersStay v about rs after
  forward :
      (i : ℕ) → about ≡ Some i → ((j : ℕ) → j < i → at v after j ≡ at v rs j) → ((j : ℕ) → i ≤ j → at v after j ≡ at v rs (suc j)) →
      OthersStay v about rs after
