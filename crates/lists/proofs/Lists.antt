-- Laws of specs/Lists.antt, over any element type: what a loop asks at an index, and what a finished search or removal says. Each goes along the list. Assumes nothing.
use Rattle.std.specs.Prelude.{Some, None}
use Prim.Native.Nat.{ℕ, zero, suc, ◌+◌, ◌≤◌, ◌<◌}
use mathlib.Core.Bool.{Bool, true, false, false≢true}
use mathlib.Core.List.{List, [], ◌∷◌, ◌++◌, map, map-append}
use mathlib.Core.Logic.{⊎_elim}
use mathlib.Core.Path.{◌≡◌, refl, sym, ap, ◌∙◌}
use native.Mathlib.Nat.{not-suc-le-zero, le_of_suc-le-suc}
use native.Mathlib.Numerals.{add-one}
use native.Mathlib.Omega.{arith}
use borrow.Author.Tests.{ltb-true, ltb-false}
use lib.Dec.{ltb}
use lib.ListN.{length, get_or, drop, set, drop_of_length-le, length-append}
use lib.Seq.{drop-cons}
use Rattle.lists.specs.Choice.{pick}
use Rattle.lists.specs.Lists.{both, first_from, first, count, without}
use Rattle.lists.proofs.Choice.{pick_elim, pick-cases, pick-else}

-- ---- both
-- the first holds, the first fails, both hold
pub both_true : {a b : Bool} → a ≡ true → both a b ≡ b
both_true e = rw e

pub both_false : {a : Bool} (b : Bool) → a ≡ false → both a b ≡ false
both_false b e = rw e

pub both_parts : (a b : Bool) → both a b ≡ true → (a ≡ true) × (b ≡ true)
both_parts true b e = (refl, e)
both_parts false b e = absurd (false≢true e)

-- ---- get_or: within a list no default is read
pub get_d_any : {A : Type 0} (l : List A) (i : ℕ) (a b : A) → i < length l → get_or l i a ≡ get_or l i b
get_d_any [] i a b h = absurd (not-suc-le-zero h)
get_d_any (x ∷ xs) zero a b h = refl
get_d_any (x ∷ xs) (suc i) a b h = get_d_any xs i a b (le_of_suc-le-suc h)

module _ {A : Type 0} (p : A → Bool) where
  -- ---- first, a turn of its loop
  first_step :
      (xs : List A) (i : ℕ) (d : A) → i < length xs →
      first_from p i (drop i xs) ≡ pick (p (get_or xs i d)) (Some i) (first_from p (i + 1) (drop (i + 1) xs))
  unfolding first_from
  first_step xs i d h = rw (add-one, drop-cons xs i d)

  pub first_hit : (xs : List A) (i : ℕ) (d : A) → i < length xs → p (get_or xs i d) ≡ true → first_from p i (drop i xs) ≡ Some i
  first_hit xs i d h e = first_step xs i d h ∙ rw e

  pub first_miss :
      (xs : List A) (i : ℕ) (d : A) → i < length xs → p (get_or xs i d) ≡ false →
      first_from p i (drop i xs) ≡ first_from p (i + 1) (drop (i + 1) xs)
  first_miss xs i d h e = first_step xs i d h ∙ rw e

  pub first-end : (xs : List A) (i : ℕ) → length xs ≤ i → first_from p i (drop i xs) ≡ None
  unfolding first_from
  first-end xs i h = rw (drop_of_length-le xs h)

  -- ---- first, what was found
  not_found : {i : ℕ} → None ≡ Some i → ⊥
  not_found e = let z : ◌≡◌ {A = ℕ} 0 1 = cc in omega arith

  -- an index behind a head that fails
  behind-head :
      (x : A) (xs : List A) (n : ℕ) (d : A) → p x ≡ false → ((j : ℕ) → j < n → p (get_or xs j d) ≡ false) →
      (j : ℕ) → j < suc n → p (get_or (x ∷ xs) j d) ≡ false
  behind-head x xs n d e rest zero h = e
  behind-head x xs n d e rest (suc j) h = rest j (le_of_suc-le-suc h)

  -- what is found at n, counted from k, is in the list and passes, and no earlier one does
  record Finds (k : ℕ) (xs : List A) (n : ℕ) (d : A) : Type 0 where
    pub index : ℕ
    pub counted : n ≡ k + index
    pub inside : index < length xs
    pub passes : p (get_or xs index d) ≡ true
    pub earlier : (j : ℕ) → j < index → p (get_or xs j d) ≡ false

  finds : (k : ℕ) (xs : List A) (n : ℕ) (d : A) → first_from p k xs ≡ Some n → Finds k xs n d
  unfolding first_from
  finds k [] n d e = absurd (not_found e)
  finds k (x ∷ xs) n d e =
      ⊎_elim
      (λ t.
      let a = t.1 in
      let q : k ≡ n = cc in
      record { index = 0; counted = omega arith; inside = omega arith; passes = t.0; earlier = λ j h. absurd (not-suc-le-zero h) })
      (λ f.
      let r = finds (suc k) xs n d f.1 in
      record {
        index = suc r.index;
        counted = omega arith;
        inside = omega arith;
        passes = r.passes;
        earlier = behind-head x xs r.index d f.0 r.earlier;
      })
      (pick-cases (p x) (Some k) (first_from p (suc k) xs) (Some n) e)

  -- an index that is found is one of the list
  pub first_below : (k : ℕ) (xs : List A) (i : ℕ) → first_from p k xs ≡ Some i → i < k + length xs
  unfolding first_from
  first_below k [] i e = absurd (not_found e)
  first_below k (x ∷ xs) i e = let r = finds k (x ∷ xs) i x e in omega arith

  -- what is found passes
  pub first_holds : (xs : List A) (i : ℕ) (d : A) → first p xs ≡ Some i → p (get_or xs i d) ≡ true
  first_holds xs i d e = let r = finds 0 xs i d e in let q : i ≡ r.index = omega arith in rw q r.passes

  -- no earlier one passes
  pub first-earlier : (xs : List A) (i : ℕ) (d : A) → first p xs ≡ Some i → (j : ℕ) → j < i → p (get_or xs j d) ≡ false
  first-earlier xs i d e j h = let r = finds 0 xs i d e in r.earlier j (omega arith)

  -- where none is found, none passes
  none_from : (k : ℕ) (xs : List A) (d : A) → first_from p k xs ≡ None → (j : ℕ) → j < length xs → p (get_or xs j d) ≡ false
  unfolding first_from
  none_from k [] d e j h = absurd (not-suc-le-zero h)
  none_from k (x ∷ xs) d e j h =
      let r = pick-else (p x) (Some k) (first_from p (suc k) xs) None (λ q. not_found (sym q)) e in
      behind-head x xs (length xs) d r.0 (none_from (suc k) xs d r.1) j h

  pub first-none : (xs : List A) (d : A) → first p xs ≡ None → (j : ℕ) → j < length xs → p (get_or xs j d) ≡ false
  first-none xs d e = none_from 0 xs d e

  -- ---- count, a turn of its loop: n were counted before i
  count-step :
      (xs : List A) (i : ℕ) (d : A) → i < length xs →
      count p (drop i xs) ≡ pick (p (get_or xs i d)) (suc (count p (drop (i + 1) xs))) (count p (drop (i + 1) xs))
  unfolding count
  count-step xs i d h = rw (add-one, drop-cons xs i d)

  pub count_hit :
      (xs : List A) (i n : ℕ) (d : A) → i < length xs → p (get_or xs i d) ≡ true → count p xs ≡ n + count p (drop i xs) →
      count p xs ≡ n + 1 + count p (drop (i + 1) xs)
  count_hit xs i n d h e counted =
      let s : count p (drop i xs) ≡ suc (count p (drop (i + 1) xs)) = count-step xs i d h ∙ rw e in
      omega arith

  pub count_miss :
      (xs : List A) (i n : ℕ) (d : A) → i < length xs → p (get_or xs i d) ≡ false → count p xs ≡ n + count p (drop i xs) →
      count p xs ≡ n + count p (drop (i + 1) xs)
  count_miss xs i n d h e counted =
      let s : count p (drop i xs) ≡ count p (drop (i + 1) xs) = count-step xs i d h ∙ rw e in
      omega arith

  pub count-end : (xs : List A) (i n : ℕ) → length xs ≤ i → count p xs ≡ n + count p (drop i xs) → count p xs ≡ n
  unfolding count
  count-end xs i n h counted =
      let s : count p (drop i xs) ≡ 0 = rw (drop_of_length-le xs h) in
      omega arith

module _ {A : Type 0} (z : A) where
  -- ---- without, a turn of its loop
  without-moved :
      (l : List A) (k : ℕ) (d : A) → suc k < length l →
      without z (set l k (get_or l (suc k) d)) (suc k) ≡ without z l k
  unfolding without
  without-moved [] k d h = refl
  without-moved (x ∷ []) zero d h = absurd (not-suc-le-zero (le_of_suc-le-suc h))
  without-moved (x ∷ y ∷ xs) zero d h = refl
  without-moved (x ∷ xs) (suc k) d h = ap {B = List A} (λ r. x ∷ r) (without-moved xs k d (le_of_suc-le-suc h))

  pub without-next :
      (l : List A) (k : ℕ) (d : A) → k + 1 < length l →
      without z (set l k (get_or l (k + 1) d)) (k + 1) ≡ without z l k
  without-next l k d h = rw add-one (without-moved l k d (omega arith))

  pub without-last : (l : List A) (k : ℕ) → length l ≡ k + 1 → without z l k ≡ set l k z
  unfolding without
  without-last [] k e = refl
  without-last (x ∷ []) zero e = refl
  without-last (x ∷ y ∷ xs) zero e = absurd (let h : suc (suc (length xs)) ≡ 1 = e in omega arith)
  without-last (x ∷ xs) (suc k) e = ap {B = List A} (λ r. x ∷ r) (without-last xs k (omega arith))

  pub without-past : (l : List A) (i : ℕ) → length l ≤ i → without z l i ≡ l
  unfolding without
  without-past [] i h = refl
  without-past (x ∷ xs) zero h = absurd (not-suc-le-zero h)
  without-past (x ∷ xs) (suc i) h = ap {B = List A} (λ r. x ∷ r) (without-past xs i (le_of_suc-le-suc h))

  -- ---- without, what is left
  pub without-length : (l : List A) (i : ℕ) → length (without z l i) ≡ length l
  unfolding without
  without-length [] i = refl
  without-length (x ∷ xs) zero = length-append xs (z ∷ []) ∙ omega arith
  without-length (x ∷ xs) (suc i) = ap suc (without-length xs i)

  -- a list with the blank behind it
  snoc_get_or : (l : List A) (j : ℕ) (d : A) → j ≤ length l → get_or (l ++ (z ∷ [])) j d ≡ get_or l j z
  snoc_get_or [] zero d h = refl
  snoc_get_or [] (suc j) d h = absurd (not-suc-le-zero h)
  snoc_get_or (x ∷ xs) zero d h = refl
  snoc_get_or (x ∷ xs) (suc j) d h = snoc_get_or xs j d (le_of_suc-le-suc h)

  -- before the index that was taken out all are as they were
  pub get_or-without-before : (l : List A) (i j : ℕ) (d : A) → j < i → get_or (without z l i) j d ≡ get_or l j d
  unfolding without
  get_or-without-before [] i j d h = refl
  get_or-without-before (x ∷ xs) zero j d h = absurd (not-suc-le-zero h)
  get_or-without-before (x ∷ xs) (suc i) zero d h = refl
  get_or-without-before (x ∷ xs) (suc i) (suc j) d h = get_or-without-before xs i j d (le_of_suc-le-suc h)

  -- get_or-without-behind, at suc j
  behind_moved : (l : List A) (i j : ℕ) (d : A) → i ≤ j → j < length l → get_or (without z l i) j d ≡ get_or l (suc j) z
  unfolding without
  behind_moved [] i j d h b = absurd (not-suc-le-zero b)
  behind_moved (x ∷ xs) zero j d h b = snoc_get_or xs j d (le_of_suc-le-suc b)
  behind_moved (x ∷ xs) (suc i) zero d h b = absurd (not-suc-le-zero h)
  behind_moved (x ∷ xs) (suc i) (suc j) d h b = behind_moved xs i j d (le_of_suc-le-suc h) (le_of_suc-le-suc b)

  -- from it on each is the next one, and the last is the blank
  pub get_or-without-behind : (l : List A) (i j : ℕ) (d : A) → i ≤ j → j < length l → get_or (without z l i) j d ≡ get_or l (j + 1) z
  get_or-without-behind l i j d h b = rw add-one (behind_moved l i j d h b)

  -- the two in one
  pub get_or-without : (l : List A) (i j : ℕ) (d : A) → j < length l → get_or (without z l i) j d ≡ pick (ltb j i) (get_or l j d) (get_or l (j + 1) z)
  get_or-without l i j d b =
      pick_elim (λ x. get_or (without z l i) j d ≡ x) (ltb j i)
      (λ t. get_or-without-before l i j d (ltb-true j i t))
      (λ f. get_or-without-behind l i j d (ltb-false j i f) b)

-- map in a loop: from i on the elements are still to be changed
unfoldable pub map_from : {A : Type 0} → (A → A) → ℕ → List A → List A
map_from f i [] = []
map_from f zero (x ∷ xs) = f x ∷ map_from f zero xs
map_from f (suc i) (x ∷ xs) = x ∷ map_from f i xs

module _ {A : Type 0} (f : A → A) where
  -- ---- map, a turn of its loop
  pub map-start : (l : List A) → map f l ≡ map_from f 0 l
  unfolding map_from
  map-start [] = refl
  map-start (x ∷ xs) = ap {B = List A} (λ r. f x ∷ r) (map-start xs)

  map-moved : (l : List A) (i : ℕ) (d : A) → i < length l → map_from f i l ≡ map_from f (suc i) (set l i (f (get_or l i d)))
  unfolding map_from
  map-moved [] i d h = refl
  map-moved (x ∷ xs) zero d h = refl
  map-moved (x ∷ xs) (suc i) d h = ap {B = List A} (λ r. x ∷ r) (map-moved xs i d (le_of_suc-le-suc h))

  pub map_next : (l : List A) (i : ℕ) (d : A) → i < length l → map_from f i l ≡ map_from f (i + 1) (set l i (f (get_or l i d)))
  map_next l i d h = rw add-one (map-moved l i d h)

  pub map-done : (l : List A) (i : ℕ) → length l ≤ i → map_from f i l ≡ l
  unfolding map_from
  map-done [] i h = refl
  map-done (x ∷ xs) zero h = absurd (not-suc-le-zero h)
  map-done (x ∷ xs) (suc i) h = ap {B = List A} (λ r. x ∷ r) (map-done xs i (le_of_suc-le-suc h))

-- ---- a change of all elements, beside a search, a store and a removal
first-map-from :
    {A B : Type 0} (f : A → B) (p : B → Bool) (k : ℕ) (xs : List A) → first_from p k (map f xs) ≡ first_from (λ x. p (f x)) k xs
unfolding first_from
first-map-from f p k [] = refl
first-map-from f p k (x ∷ xs) = rw (first-map-from f p (suc k) xs)

-- a search in changed elements is a search by the changed test
pub first-map : {A B : Type 0} (f : A → B) (p : B → Bool) (xs : List A) → first p (map f xs) ≡ first (λ x. p (f x)) xs
first-map f p xs = first-map-from f p 0 xs

-- a search by a test with the same answers
pub first-same : {A : Type 0} (p q : A → Bool) (xs : List A) → ((x : A) → p x ≡ q x) → first p xs ≡ first q xs
first-same p q xs h = ap (λ t. first t xs) (λ i x. h x i)

-- a change of all elements beside a store, and beside a removal
pub map-set : {A B : Type 0} (f : A → B) (xs : List A) (i : ℕ) (x : A) → map f (set xs i x) ≡ set (map f xs) i (f x)
map-set f [] i x = refl
map-set f (y ∷ ys) zero x = refl
map-set {A} {B} f (y ∷ ys) (suc i) x = ap {B = List B} (λ r. f y ∷ r) (map-set f ys i x)

pub map-without : {A B : Type 0} (f : A → B) (z : A) (xs : List A) (i : ℕ) → map f (without z xs i) ≡ without (f z) (map f xs) i
unfolding without
map-without f z [] i = refl
map-without f z (y ∷ ys) zero = map-append f ys (z ∷ [])
map-without {A} {B} f z (y ∷ ys) (suc i) = ap {B = List B} (λ r. f y ∷ r) (map-without f z ys i)
