-- Each kind of change keeps a list of records placed: a put keeps use and identifier of every place, an add fills the first free place with a new identifier or none, a removal keeps the order.
use Rattle.std.specs.Prelude.{Option, Some, None}
use Prim.Native.Nat.{ℕ, zero, suc, ◌+◌, ◌≤◌, ◌<◌}
use mathlib.Core.Path.{◌≡◌, refl, sym, ap, ap₂, ◌∙◌, subst}
use mathlib.Core.Bool.{Bool, true, false}
use mathlib.Core.List.{List, [], ◌∷◌, map}
use lib.ListN.{length, get_or, set, get_or-eq_default}
use lib.Seq.{get_or-set_same, get_or-set_other}
use lib.Dec.{ltb, eqb}
use native.Mathlib.Omega.{arith}
use borrow.Author.Tests.{ltb-true, ltb-false, eqb-true, eqb-false}
use Rattle.lists.specs.Choice.{pick}
use Rattle.lists.specs.Lists.{without}
use Rattle.lists.specs.declared.words.Words.{Words}
use Rattle.lists.proofs.Choice.{pick_elim, no_true}
use Rattle.lists.proofs.Lists.{both_true, first_below, first_holds, first-earlier, first-none, get_or-without-before, get_or-without-behind, without-length}
use Rattle.desk.specs.Letter.{same_identifier}
use Rattle.places.specs.Places.{View, at, Placed, unused, place_in, identified, meant_in, known_in}
use Rattle.places.specs.Claims.{StaysPlaced}
use Rattle.places.proofs.Identifiers.{same_alike, is_same}

-- ---- a test and its opposite
pub not-unused : (b : Bool) → pick b false true ≡ false → b ≡ true
not-unused true e = refl
not-unused false e = absurd (no_true (sym e))

pub not-used : (b : Bool) → pick b false true ≡ true → b ≡ false
not-used true e = absurd (no_true e)
not-used false e = refl

-- ---- where a place's record stood before one was taken out
abbrev pub shift : ℕ → ℕ → ℕ
shift i j = pick (ltb j i) j (j + 1)

pub shift_less : (i a b : ℕ) → a < b → shift i a < shift i b
shift_less i a b h =
    pick_elim (λ x. x < shift i b) (ltb a i)
    (λ t. pick_elim (λ y. a < y) (ltb b i) (λ u. h) (λ w. omega arith))
    (λ f.
    let g : i ≤ a = ltb-false a i f in
    pick_elim (λ y. a + 1 < y) (ltb b i) (λ u. absurd (omega (arith, ltb-true b i u))) (λ w. omega arith))

pub shift-tells : (i a b : ℕ) → shift i a ≡ shift i b → a ≡ b
shift-tells i a b =
    pick_elim (λ x. x ≡ shift i b → a ≡ b) (ltb a i)
    (λ t. pick_elim (λ y. a ≡ y → a ≡ b) (ltb b i) (λ u e. e) (λ w e. omega (arith, ltb-true a i t, ltb-false b i w)))
    (λ f. pick_elim (λ y. a + 1 ≡ y → a ≡ b) (ltb b i) (λ u e. omega (arith, ltb-false a i f, ltb-true b i u)) (λ w e. omega arith))

-- the place that was taken out is none of them
pub shift-never : (i j : ℕ) → shift i j ≡ i → ⊥
shift-never i j =
    pick_elim (λ x. x ≡ i → ⊥) (ltb j i) (λ t e. omega (arith, ltb-true j i t)) (λ f e. omega (arith, ltb-false j i f))

-- from the place on the one behind has moved up
pub moved_up : {A : Type 0} (z : A) (l : List A) (i j : ℕ) → i ≤ j → get_or (without z l i) j z ≡ get_or l (j + 1) z
moved_up z l i j h = by (ltb j (length l)) refl
  where
    by : (b : Bool) → ltb j (length l) ≡ b → get_or (without z l i) j z ≡ get_or l (j + 1) z
    by true t = get_or-without-behind z l i j z h (ltb-true j (length l) t)
    by false f =
        let past : length l ≤ j = ltb-false j (length l) f in
        let over : length (without z l i) ≤ j = omega (arith, without-length z l i) in
        get_or-eq_default (without z l i) z over ∙ sym (get_or-eq_default l z (omega arith))

module _ {A : Type 0} (v : View A) where
  -- ---- places
  -- past its end a list reads as blank
  pub at-past : (rs : List A) (i : ℕ) → length rs ≤ i → at v rs i ≡ v.blank
  at-past rs i h = get_or-eq_default rs v.blank h

  -- a used place is one of the list
  pub used-inside : (rs : List A) (i : ℕ) → v.used v.blank ≡ false → v.used (at v rs i) ≡ true → i < length rs
  used-inside rs i free u = inside (ltb i (length rs)) refl
    where
      inside : (b : Bool) → ltb i (length rs) ≡ b → i < length rs
      inside true t = ltb-true i (length rs) t
      inside false f = absurd (no_true (sym (ap v.used (at-past rs i (ltb-false i (length rs) f)) ∙ free) ∙ u))

  -- the first place that is not used: in the list, not used, and all before it are
  pub place_inside : (rs : List A) (i : ℕ) → place_in v rs ≡ Some i → i < length rs
  place_inside rs i free = omega (arith, first_below (unused v) 0 rs i free)

  pub place-unused : (rs : List A) (i : ℕ) → place_in v rs ≡ Some i → v.used (at v rs i) ≡ false
  place-unused rs i free = not-used (v.used (at v rs i)) (first_holds (unused v) rs i v.blank free)

  pub earlier-used : (rs : List A) (i : ℕ) → place_in v rs ≡ Some i → (j : ℕ) → j < i → v.used (at v rs j) ≡ true
  earlier-used rs i free j h = not-unused (v.used (at v rs j)) (first-earlier (unused v) rs i v.blank free j h)

  -- what a place holds after a store
  pub at_set : (rs : List A) (i : ℕ) (r : A) → i < length rs → at v (set rs i r) i ≡ r
  at_set rs i r inside = get_or-set_same rs i r v.blank inside

  pub set_elim :
      (P : A → Type 0) (rs : List A) (i j : ℕ) (r : A) → i < length rs →
      (j ≡ i → P r) → ((j ≡ i → ⊥) → P (at v rs j)) → P (at v (set rs i r) j)
  set_elim P rs i j r inside here there = decide (eqb j i) refl
    where
      decide : (b : Bool) → eqb j i ≡ b → P (at v (set rs i r) j)
      decide true t =
          let e : j ≡ i = eqb-true j i t in
          let q : at v (set rs i r) j ≡ r = ap (λ (k : ℕ). at v (set rs i r) k) e ∙ at_set rs i r inside in
          subst P (sym q) (here e)
      decide false f = subst P (sym (get_or-set_other rs i j r v.blank (eqb-false j i f))) (there (eqb-false j i f))

  -- what a place holds after a removal
  pub at-without : (rs : List A) (i j : ℕ) → at v (without v.blank rs i) j ≡ at v rs (shift i j)
  at-without rs i j =
      pick_elim (λ n. at v (without v.blank rs i) j ≡ at v rs n) (ltb j i)
      (λ t. get_or-without-before v.blank rs i j v.blank (ltb-true j i t))
      (λ f. moved_up v.blank rs i j (ltb-false j i f))

  -- what a place holds after a change of all
  pub at_map : (rs : List A) (f : A → A) → f v.blank ≡ v.blank → (i : ℕ) → at v (map f rs) i ≡ f (at v rs i)
  at_map [] f e i = sym e
  at_map (r ∷ rs) f e zero = refl
  at_map (r ∷ rs) f e (suc i) = at_map rs f e i

  -- ---- what a placed list says
  -- behind a place that is not used none is
  pub later-unused : (rs : List A) (i : ℕ) → Placed v rs → v.used (at v rs i) ≡ false → (j : ℕ) → i ≤ j → v.used (at v rs j) ≡ false
  later-unused rs i placed free j h = by (v.used (at v rs j)) refl
    where
      here : v.used (at v rs j) ≡ true → (b : Bool) → ltb i j ≡ b → v.used (at v rs i) ≡ true
      here t true l = placed.compact i j (ltb-true i j l) t
      here t false l =
          let e : j ≡ i = omega (arith, ltb-false i j l) in
          ap (λ (k : ℕ). v.used (at v rs k)) (sym e) ∙ t

      by : (b : Bool) → v.used (at v rs j) ≡ b → v.used (at v rs j) ≡ false
      by false f = f
      by true t = absurd (no_true (sym free ∙ here t (ltb i j) refl))

  -- where no record with an identifier is found, no used one has it
  pub nobody :
      (rs : List A) (identifier : Words) → v.used v.blank ≡ false → meant_in v identifier rs ≡ None →
      (j : ℕ) → v.used (at v rs j) ≡ true → v.name (at v rs j) ≡ Some identifier → ⊥
  nobody rs identifier free new j u e =
      let t : identified v identifier (at v rs j) ≡ true = both_true (is_same (v.name (at v rs j)) identifier e) ∙ u in
      no_true (sym (first-none (identified v identifier) rs v.blank new j (used-inside rs j free u)) ∙ t)

  -- ---- all places free
  pub start-placed : (rs : List A) → ((i : ℕ) → at v rs i ≡ v.blank) → v.used v.blank ≡ false → Placed v rs
  start-placed rs all free =
      record {
        compact = λ i j h u. absurd (never j u);
        blanks = λ i u. all i;
        free = free;
        differ = λ i j u w e. absurd (never i u);
      }
    where
      never : (i : ℕ) → v.used (at v rs i) ≡ true → ⊥
      never i u = no_true (sym (ap v.used (all i) ∙ free) ∙ u)

  -- ---- a used record put over a used one, with its identifier or none as it has none
  module _ (rs : List A) (i : ℕ) (r : A) (placed : Placed v rs) (was : v.used (at v rs i) ≡ true) (is : v.used r ≡ true) (same : v.name r ≡ v.name (at v rs i)) where
    put-inside : i < length rs
    put-inside = used-inside rs i placed.free was

    pub put-used : (j : ℕ) → v.used (at v (set rs i r) j) ≡ v.used (at v rs j)
    put-used j =
        set_elim (λ x. v.used x ≡ v.used (at v rs j)) rs i j r put-inside
        (λ e. is ∙ sym was ∙ ap (λ (k : ℕ). v.used (at v rs k)) (sym e))
        (λ n. refl)

    pub put-name : (j : ℕ) → v.name (at v (set rs i r) j) ≡ v.name (at v rs j)
    put-name j =
        set_elim (λ x. v.name x ≡ v.name (at v rs j)) rs i j r put-inside
        (λ e. same ∙ ap (λ (k : ℕ). v.name (at v rs k)) (sym e))
        (λ n. refl)

    pub put-placed : Placed v (set rs i r)
    put-placed =
        record {
          compact = λ a b h u. put-used a ∙ placed.compact a b h (sym (put-used b) ∙ u);
          blanks = λ a u.
              set_elim (λ x. v.used x ≡ false → x ≡ v.blank) rs i a r put-inside
              (λ e w. absurd (no_true (sym w ∙ is)))
              (λ n. placed.blanks a)
              u;
          free = placed.free;
          differ = λ a b u w e. placed.differ a b (sym (put-used a) ∙ u) (sym (put-used b) ∙ w) (sym (ap₂ same_identifier (put-name a) (put-name b)) ∙ e);
        }

  -- ---- a record with a new identifier, or none, put at the first free place
  module _ (rs : List A) (i : ℕ) (r : A) (placed : Placed v rs) (free : place_in v rs ≡ Some i) (new : known_in v (v.name r) rs ≡ None) (is : v.used r ≡ true) where
    inside : i < length rs
    inside = place_inside rs i free

    other : (j : ℕ) (words : Words) → v.used (at v rs j) ≡ true → v.name (at v rs j) ≡ Some words → v.name r ≡ Some words → ⊥
    other j words u its own = nobody rs words placed.free (subst (λ (x : Option Words). known_in v x rs ≡ None) own new) j u its

    pub add-placed : Placed v (set rs i r)
    add-placed =
        record {
          compact = λ a b h u.
              set_elim (λ x. v.used x ≡ true) rs i a r inside
              (λ e. is)
              (λ n.
              set_elim (λ x. v.used x ≡ true → v.used (at v rs a) ≡ true) rs i b r inside
              (λ e w. earlier-used rs i free a (omega arith))
              (λ m. placed.compact a b h)
              u);
          blanks = λ a u.
              set_elim (λ x. v.used x ≡ false → x ≡ v.blank) rs i a r inside
              (λ e w. absurd (no_true (sym w ∙ is)))
              (λ n. placed.blanks a)
              u;
          free = placed.free;
          differ = λ a b u w.
              set_elim (λ x. v.used x ≡ true → same_identifier (v.name x) (v.name (at v (set rs i r) b)) ≡ true → a ≡ b) rs i a r inside
              (λ e x.
              set_elim (λ y. v.used y ≡ true → same_identifier (v.name r) (v.name y) ≡ true → a ≡ b) rs i b r inside
              (λ f y q. e ∙ sym f)
              (λ m y q. let both = same_alike (v.name r) (v.name (at v rs b)) q in absurd (other b both.words y both.other both.one))
              w)
              (λ n x.
              set_elim (λ y. v.used y ≡ true → same_identifier (v.name (at v rs a)) (v.name y) ≡ true → a ≡ b) rs i b r inside
              (λ f y q. let both = same_alike (v.name (at v rs a)) (v.name r) q in absurd (other a both.words x both.one both.other))
              (λ m y q. placed.differ a b x y q)
              w)
              u;
        }

  -- ---- a record taken out
  used-without : (rs : List A) (i j : ℕ) → v.used (at v (without v.blank rs i) j) ≡ v.used (at v rs (shift i j))
  used-without rs i j = ap v.used (at-without rs i j)

  name-without : (rs : List A) (i j : ℕ) → v.name (at v (without v.blank rs i) j) ≡ v.name (at v rs (shift i j))
  name-without rs i j = ap v.name (at-without rs i j)

  pub remove-placed : (rs : List A) (i : ℕ) → Placed v rs → Placed v (without v.blank rs i)
  remove-placed rs i placed =
      record {
        compact = λ a b h u.
            used-without rs i a ∙ placed.compact (shift i a) (shift i b) (shift_less i a b h) (sym (used-without rs i b) ∙ u);
        blanks = λ a u. at-without rs i a ∙ placed.blanks (shift i a) (sym (used-without rs i a) ∙ u);
        free = placed.free;
        differ = λ a b u w e.
            shift-tells i a b
            (placed.differ (shift i a) (shift i b) (sym (used-without rs i a) ∙ u) (sym (used-without rs i b) ∙ w)
            (sym (ap₂ same_identifier (name-without rs i a) (name-without rs i b)) ∙ e));
      }

  -- ---- every record changed
  pub change-placed :
      (rs : List A) (f : A → A) → Placed v rs → ((r : A) → v.used (f r) ≡ v.used r) → ((r : A) → v.name (f r) ≡ v.name r) → f v.blank ≡ v.blank →
      Placed v (map f rs)
  change-placed rs f placed keeps named e =
      record {
        compact = λ a b h u. used-map a ∙ placed.compact a b h (sym (used-map b) ∙ u);
        blanks = λ a u. at_map rs f e a ∙ ap f (placed.blanks a (sym (used-map a) ∙ u)) ∙ e;
        free = placed.free;
        differ = λ a b u w q. placed.differ a b (sym (used-map a) ∙ u) (sym (used-map b) ∙ w) (sym (ap₂ same_identifier (name-map a) (name-map b)) ∙ q);
      }
    where
      used-map : (i : ℕ) → v.used (at v (map f rs) i) ≡ v.used (at v rs i)
      used-map i = ap v.used (at_map rs f e i) ∙ keeps (at v rs i)

      name-map : (i : ℕ) → v.name (at v (map f rs) i) ≡ v.name (at v rs i)
      name-map i = ap v.name (at_map rs f e i) ∙ named (at v rs i)

pub stays-placed : {A : Type 0} (v : View A) → StaysPlaced v
stays-placed v =
    record {
      start = start-placed v;
      put = put-placed v;
      add = add-placed v;
      remove = remove-placed v;
      change = change-placed v;
    }
