-- Where a request's record stands at a desk, by place: at one place or at none. What a step does to places tells where it stands afterwards. It is said once for both desks, over any type of record.
use Rattle.lists.specs.declared.words.Words.{Words}
use Rattle.std.specs.Prelude.{Option, Some, None}
use Prim.Native.Nat.{ℕ, zero, suc, ◌-◌, ◌≤◌, ◌<◌}
use mathlib.Core.Path.{◌≡◌, refl, sym, ap, ◌∙◌, subst}
use mathlib.Core.Bool.{Bool, true, false}
use mathlib.Core.Logic.{◌⊎◌, inl, inr}
use mathlib.Core.List.{List, [], ◌∷◌}
use lib.ListN.{length, length-set, get_or, set}
use lib.Seq.{get_or-set_same, get_or-set_other}
use lib.Dec.{ltb, eqb}
use native.Mathlib.Omega.{arith}
use borrow.Author.Tests.{ltb-false, eqb-true, eqb-false, le-ltb}
use Rattle.lists.specs.Choice.{pick}
use Rattle.lists.specs.Lists.{both, without}
use Rattle.lists.proofs.Choice.{no_true}
use Rattle.lists.proofs.Lists.{both_true, both_false, without-length}
use Rattle.desk.specs.declared.sends.Elements.{Elements}
use Rattle.places.specs.Places.{View, place_in, Held, none, one}
use Rattle.places.proofs.Staying.{shift, shift-never, shift-tells, at_set, at-without, used-inside, place_inside, place-unused, set_elim}
use Rattle.pair.specs.World.{Of, from, Naming, held_of, Touch, nothing, storing, turning, removing, origins_after, touched}
use Rattle.pair.proofs.Keys.{Tells, origins-tell, key?, key-same, key_differs}

-- how the pair looks at a record: as a desk's view does, with all that no step changes of it
pub record Sight (A : Type 0) : Type 0 where
  pub used : A → Bool
  pub elements : A → Elements
  pub blank : A

abbrev pub view : {A : Type 0} → Sight A → View A
view v = record { used = v.used; name = λ r. (v.elements r).identifier; blank = v.blank }

abbrev pub at : {A : Type 0} → Sight A → List A → ℕ → A
at v rs i = get_or rs i v.blank

-- the label of what has these elements
abbrev pub label : Of Elements → Of (Option Words)
label l = from l.origin l.it.identifier

abbrev pub key_of : {K : Type 0} → Naming K → Of Elements → K
key_of n l = n.key (label l)

abbrev pub elements_at : {A : Type 0} → Sight A → List ℕ → List A → ℕ → Of Elements
elements_at v os rs i = from (get_or os i 0) (v.elements (at v rs i))

-- the record at a place that was found, or none
abbrev pub there : {A : Type 0} → Sight A → List A → Option ℕ → Held A
there v rs None = none
there v rs (Some i) = one (at v rs i)

-- ---- what is held is one record or none
pub not-one : {A B : Type 0} {r : A} → none ≡ one r → B
not-one e = let z : ◌≡◌ {A = ℕ} 0 1 = cc in absurd (omega (arith, z))

abbrev record_in : {A : Type 0} → A → Held A → A
record_in other none = other
record_in other (one r) = r

pub the_one : {A : Type 0} (q r : A) → one q ≡ one r → q ≡ r
the_one q r e = ap (record_in q) e

pub no_place : {B : Type 0} {i : ℕ} → None ≡ Some i → B
no_place e = let z : ◌≡◌ {A = ℕ} 0 1 = cc in absurd (omega (arith, z))

pub one_place : {i j : ℕ} → Some i ≡ Some j → i ≡ j
one_place e = cc

-- what may be held of an identifier: none, or a used record that has it
abbrev pub Its : {A : Type 0} → Sight A → Elements → Held A → Type 0
Its v j none = Unit
Its v j (one r) = (v.used r ≡ true) × (v.elements r ≡ j)

-- ---- what a step did to the places of a desk, with the place that it is about and the label of what came in; and what it left there
pub data Did {A : Type 0} (v : Sight A) (rs : List A) (given : Of Elements) : Option ℕ → Touch → List A → Held A → Type 0 where
  stayed : {f : Option ℕ} → Did v rs given f nothing rs (there v rs f)
  turned :
      (i : ℕ) (r : A) → v.used (at v rs i) ≡ true → v.used r ≡ true → v.elements r ≡ v.elements (at v rs i) → Did v rs given (Some i) (turning i) (set rs i r) (one r)
  stored : (i : ℕ) (r : A) → place_in (view v) rs ≡ Some i → v.used r ≡ true → v.elements r ≡ given.it → Did v rs given None (storing i) (set rs i r) (one r)
  removed : (i : ℕ) → v.used (at v rs i) ≡ true → Did v rs given (Some i) (removing i) (without v.blank rs i) none

module _ {A K : Type 0} (v : Sight A) (n : Naming K) (k : K) where
  -- a place with a record of the request
  abbrev pub Mine : List ℕ → List A → ℕ → Type 0
  Mine os rs i = (v.used (at v rs i) ≡ true) × (n.key (label (elements_at v os rs i)) ≡ k)

  pub data Sits (os : List ℕ) (rs : List A) : Option ℕ → Type 0 where
    nowhere : ((i : ℕ) → Mine os rs i → ⊥) → Sits os rs None
    only : (i : ℕ) → Mine os rs i → ((j : ℕ) → Mine os rs j → j ≡ i) → Sits os rs (Some i)

  pub sits_at : {os : List ℕ} {rs : List A} {f : Option ℕ} → Sits os rs f → (i : ℕ) → Mine os rs i → f ≡ Some i
  sits_at (nowhere h) i m = absurd (h i m)
  sits_at (only j its alone) i m = ap Some (sym (alone i m))

  pub sits_mine : {os : List ℕ} {rs : List A} {f : Option ℕ} → Sits os rs f → (i : ℕ) → f ≡ Some i → Mine os rs i
  sits_mine (nowhere h) i e = no_place e
  sits_mine {os} {rs} (only j its alone) i e = subst (Mine os rs) (one_place e) its

  -- the same places are the request's
  pub sits_same :
      {os ps : List ℕ} {rs qs : List A} {f : Option ℕ} → ((i : ℕ) → Mine os rs i → Mine ps qs i) → ((i : ℕ) → Mine ps qs i → Mine os rs i) →
      Sits os rs f → Sits ps qs f
  sits_same to back (nowhere h) = nowhere (λ i m. h i (back i m))
  sits_same to back (only i its alone) = only i (to i its) (λ j m. alone j (back j m))

  -- where the request's record stands afterwards, and what is there
  abbrev pub After : List ℕ → List A → Held A → Type 0
  After os rs h = (f : Option ℕ) × (Sits os rs f × (there v rs f ≡ h))

-- ---- what is held of the request is what stands there
module _ {A K : Type 0} (v : Sight A) {n : Naming K} (tells : Tells n) (k : K) where
  test_off : (o : ℕ) (r : A) → ((v.used r ≡ true) × (n.key (from o (v.elements r).identifier) ≡ k) → ⊥) → both (n.same (n.key (from o (v.elements r).identifier)) k) (v.used r) ≡ false
  test_off o r d = by (v.used r) refl (key? tells (n.key (from o (v.elements r).identifier)) k)
    where
      both-off : (a : Bool) → both a false ≡ false
      both-off true = refl
      both-off false = refl

      by : (u : Bool) → v.used r ≡ u → (n.key (from o (v.elements r).identifier) ≡ k) ⊎ (n.key (from o (v.elements r).identifier) ≡ k → ⊥) → both (n.same (n.key (from o (v.elements r).identifier)) k) (v.used r) ≡ false
      by false e x = rw e (both-off (n.same (n.key (from o (v.elements r).identifier)) k))
      by true e (inl q) = absurd (d (e, q))
      by true e (inr q) = both_false (v.used r) (key_differs tells _ k q)

  test_on : (o : ℕ) (r : A) → v.used r ≡ true → n.key (from o (v.elements r).identifier) ≡ k → both (n.same (n.key (from o (v.elements r).identifier)) k) (v.used r) ≡ true
  test_on o r u q = both_true (key-same tells _ k q) ∙ u

  pub sits_held : (os : List ℕ) (rs : List A) (f : Option ℕ) → length os ≡ length rs → Sits v n k os rs f → v.used v.blank ≡ false → held_of (view v) n k os rs ≡ there v rs f
  unfolding held_of
  sits_held os [] f e (nowhere h) free = refl
  sits_held os [] f e (only i its alone) free = absurd (no_true (sym free ∙ its.0))
  sits_held [] (r ∷ rs) f e sits free = absurd (omega (arith, e))
  sits_held (o ∷ os) (r ∷ rs) f e (nowhere h) free =
      rw (test_off o r (λ m. h 0 m)) (sits_held os rs None (omega (arith, e)) (nowhere (λ i m. h (suc i) m)) free)
  sits_held (o ∷ os) (r ∷ rs) f e (only zero its alone) free = rw (test_on o r its.0 its.1) refl
  sits_held (o ∷ os) (r ∷ rs) f e (only (suc i) its alone) free =
      let off : (v.used r ≡ true) × (n.key (from o (v.elements r).identifier) ≡ k) → ⊥ = λ m. let z = alone 0 m in absurd (omega (arith, z)) in
      rw (test_off o r off)
      (sits_held os rs (Some i) (omega (arith, e)) (only i its (λ j m. let z = alone (suc j) m in omega (arith, z))) free)

-- ---- a step at a desk, for a request
-- where a record that stood behind a removed one stands now
abbrev back : ℕ → ℕ → ℕ
back i j = pick (ltb j i) j (j - 1)

shift_back : (i j : ℕ) → (j ≡ i → ⊥) → shift i (back i j) ≡ j
shift_back i j d = by (ltb j i) refl
  where
    by : (b : Bool) → ltb j i ≡ b → shift i (pick b j (j - 1)) ≡ j
    by true t = rw t
    by false f =
        let g : i ≤ j = ltb-false j i f in
        let h : i ≤ j - 1 = omega (arith, d) in
        rw (le-ltb (j - 1) i h) (omega (arith, d))

module _ {A K : Type 0} (v : Sight A) {n : Naming K} (tells : Tells n) (k : K) (free : v.used v.blank ≡ false) (os : List ℕ) (rs : List A) (full : length os ≡ length rs) where
  -- ---- a record turned: every place is used as before, with its label
  module _ (i : ℕ) (r : A) (was : v.used (at v rs i) ≡ true) (is : v.used r ≡ true) (named : v.elements r ≡ v.elements (at v rs i)) where
    turn_inside : i < length rs
    turn_inside = used-inside (view v) rs i free was

    turn-used : (j : ℕ) → v.used (at v (set rs i r) j) ≡ v.used (at v rs j)
    turn-used j =
        set_elim (view v) (λ x. v.used x ≡ v.used (at v rs j)) rs i j r turn_inside
        (λ e. is ∙ sym was ∙ ap (λ (m : ℕ). v.used (at v rs m)) (sym e))
        (λ d. refl)

    pub turn-label : (j : ℕ) → elements_at v os (set rs i r) j ≡ elements_at v os rs j
    turn-label j =
        set_elim (view v) (λ x. from (get_or os j 0) (v.elements x) ≡ elements_at v os rs j) rs i j r turn_inside
        (λ e. ap (from (get_or os j 0)) (named ∙ ap (λ (m : ℕ). v.elements (at v rs m)) (sym e)))
        (λ d. refl)

    turn_sits : {f : Option ℕ} → Sits v n k os rs f → Sits v n k os (set rs i r) f
    turn_sits =
        sits_same v n k (λ j m. (turn-used j ∙ m.0, ap (key_of n) (turn-label j) ∙ m.1))
        (λ j m. (sym (turn-used j) ∙ m.0, ap (key_of n) (sym (turn-label j)) ∙ m.1))

  -- ---- a record stored at a free place
  module _ (i : ℕ) (r : A) (given : Of Elements) (place : place_in (view v) rs ≡ Some i) (named : v.elements r ≡ given.it) where
    store-inside : i < length rs
    store-inside = place_inside (view v) rs i place

    store-here : at v (set rs i r) i ≡ r
    store-here = at_set (view v) rs i r store-inside

    pub store-label : elements_at v (set os i given.origin) (set rs i r) i ≡ given
    store-label =
        let o : get_or (set os i given.origin) i 0 ≡ given.origin = get_or-set_same os i given.origin 0 (omega (arith, full, store-inside)) in
        rw (o, store-here, named)

    pub store_other : (j : ℕ) → (j ≡ i → ⊥) → (at v (set rs i r) j ≡ at v rs j) × (elements_at v (set os i given.origin) (set rs i r) j ≡ elements_at v os rs j)
    store_other j d =
        let a : at v (set rs i r) j ≡ at v rs j = get_or-set_other rs i j r v.blank d in
        let o : get_or (set os i given.origin) j 0 ≡ get_or os j 0 = get_or-set_other os i j given.origin 0 d in
        (a, rw (a, o))

    -- the place was not used
    store_apart : (j : ℕ) → v.used (at v rs j) ≡ true → j ≡ i → ⊥
    store_apart j u e = no_true (sym (place-unused (view v) rs i place) ∙ ap (λ (m : ℕ). v.used (at v rs m)) (sym e) ∙ u)

    store-to : (j : ℕ) → Mine v n k os rs j → Mine v n k (set os i given.origin) (set rs i r) j
    store-to j m =
        let s = store_other j (store_apart j m.0) in
        (ap v.used s.0 ∙ m.0, ap (key_of n) s.1 ∙ m.1)

    store-back : (j : ℕ) → (j ≡ i → ⊥) → Mine v n k (set os i given.origin) (set rs i r) j → Mine v n k os rs j
    store-back j d m =
        let s = store_other j d in
        (ap v.used (sym s.0) ∙ m.0, ap (key_of n) (sym s.1) ∙ m.1)

    store_sits : {f : Option ℕ} → (n.key (label given) ≡ k → ⊥) → Sits v n k os rs f → Sits v n k (set os i given.origin) (set rs i r) f
    store_sits d = sits_same v n k store-to (λ j m. store-back j (λ e. d (sym (ap (key_of n) store-label) ∙ ap (λ (x : ℕ). n.key (label (elements_at v (set os i given.origin) (set rs i r) x))) (sym e) ∙ m.1)) m)

    store-own : v.used r ≡ true → n.key (label given) ≡ k → Sits v n k os rs None → Sits v n k (set os i given.origin) (set rs i r) (Some i)
    store-own u e (nowhere h) = only i (ap v.used store-here ∙ u, ap (key_of n) store-label ∙ e) alone
      where
        alone : (j : ℕ) → Mine v n k (set os i given.origin) (set rs i r) j → j ≡ i
        alone j m = by (eqb j i) refl
          where
            by : (b : Bool) → eqb j i ≡ b → j ≡ i
            by true t = eqb-true j i t
            by false f = absurd (h j (store-back j (eqb-false j i f) m))

  -- ---- a record removed
  module _ (i : ℕ) where
    abbrev origin_view : View ℕ
    origin_view = record { used = λ o. true; name = λ o. None; blank = 0 }

    pub remove-at : (j : ℕ) → (at v (without v.blank rs i) j ≡ at v rs (shift i j)) × (elements_at v (without 0 os i) (without v.blank rs i) j ≡ elements_at v os rs (shift i j))
    remove-at j =
        let a : at v (without v.blank rs i) j ≡ at v rs (shift i j) = at-without (view v) rs i j in
        let o : get_or (without 0 os i) j 0 ≡ get_or os (shift i j) 0 = at-without origin_view os i j in
        (a, λ x. from (o x) (v.elements (a x)))

    remove-mine : (j : ℕ) → Mine v n k (without 0 os i) (without v.blank rs i) j → Mine v n k os rs (shift i j)
    remove-mine j m = let s = remove-at j in (ap v.used (sym s.0) ∙ m.0, ap (key_of n) (sym s.1) ∙ m.1)

    remove-own : Sits v n k os rs (Some i) → Sits v n k (without 0 os i) (without v.blank rs i) None
    remove-own (only j its alone) = nowhere (λ x m. shift-never j x (alone (shift j x) (remove-mine x m)))

    remove-other : (n.key (label (elements_at v os rs i)) ≡ k → ⊥) → {f : Option ℕ} → Sits v n k os rs f → After v n k (without 0 os i) (without v.blank rs i) (there v rs f)
    remove-other d (nowhere h) = (None, (nowhere (λ j m. h (shift i j) (remove-mine j m)), refl))
    remove-other d (only j its alone) =
        let apart : (j ≡ i → ⊥) = λ e. d (ap (λ (x : ℕ). n.key (label (elements_at v os rs x))) (sym e) ∙ its.1) in
        let e = shift_back i j apart in
        let s = remove-at (back i j) in
        let here : at v (without v.blank rs i) (back i j) ≡ at v rs j = s.0 ∙ ap (at v rs) e in (
          Some (back i j),
          (
            only (back i j) (ap v.used here ∙ its.0, ap (key_of n) (s.1 ∙ ap (elements_at v os rs) e) ∙ its.1)
                (λ x m. shift-tells i x (back i j) (alone (shift i x) (remove-mine x m) ∙ sym e)),
            ap one here,
          ),
        )

  -- ---- every step
  -- one that is for another request, or for none
  pub did-other :
      {given : Of Elements} {f g : Option ℕ} {touch : Touch} {after : List A} {left : Held A} → Did v rs given f touch after left →
      ((l : Of (Option Words)) → touched (view v) os rs (label given) touch ≡ l ∷ [] → n.key l ≡ k → ⊥) → Sits v n k os rs g →
      After v n k (origins_after touch given.origin os) after (there v rs g)
  did-other {g = g} stayed d sits = (g, (sits, refl))
  did-other {g = g} (turned i r was is named) d sits = (g, (turn_sits i r was is named sits, kept sits))
    where
      kept : {h : Option ℕ} → Sits v n k os rs h → there v (set rs i r) h ≡ there v rs h
      kept (nowhere h) = refl
      kept (only j its alone) =
          ap one (get_or-set_other rs i j r v.blank (λ e. d (label (elements_at v os rs i)) refl (ap (λ (x : ℕ). n.key (label (elements_at v os rs x))) (sym e) ∙ its.1)))
  did-other {given} {g = g} (stored i r place is named) d sits = (g, (store_sits i r given place named (d (label given) refl) sits, kept sits))
    where
      kept : {h : Option ℕ} → Sits v n k os rs h → there v (set rs i r) h ≡ there v rs h
      kept (nowhere h) = refl
      kept (only j its alone) = ap one (store_other i r given place named j (store_apart i r given place named j its.0)).0
  did-other (removed i was) d sits = remove-other i (d (label (elements_at v os rs i)) refl) sits

  -- one that is for the request: about its place, or storing its record
  pub did-own :
      {given : Of Elements} {f : Option ℕ} {touch : Touch} {after : List A} {left : Held A} → Did v rs given f touch after left →
      Sits v n k os rs f → ((i : ℕ) → touch ≡ storing i → n.key (label given) ≡ k) → After v n k (origins_after touch given.origin os) after left
  did-own {f = f} stayed sits e = (f, (sits, refl))
  did-own (turned i r was is named) sits e = (Some i, (turn_sits i r was is named sits, ap one (at_set (view v) rs i r (turn_inside i r was is named))))
  did-own {given} (stored i r place is named) sits e =
      (Some i, (store-own i r given place named is (e i refl) sits, ap one (store-here i r given place named)))
  did-own (removed i was) sits e = (None, (remove-own i sits, refl))

-- ---- the labels beside a desk
module _ {A : Type 0} (v : Sight A) (P : Of Elements → Type 0) where
  abbrev pub All : List ℕ → List A → Type 0
  All os rs = (i : ℕ) → v.used (at v rs i) ≡ true → P (elements_at v os rs i)

  -- every label after a step was there, or is that of what came in and is stored
  pub did-all :
      (os : List ℕ) (rs : List A) → length os ≡ length rs → v.used v.blank ≡ false →
      {given : Of Elements} {f : Option ℕ} {touch : Touch} {after : List A} {left : Held A} → Did v rs given f touch after left →
      ((i : ℕ) → touch ≡ storing i → P given) → All os rs → All (origins_after touch given.origin os) after
  did-all os rs full free stayed new all i u = all i u
  did-all os rs full free (turned j r was is named) new all i u =
      let same = turn-label v origins-tell 0 free os rs full j r was is named i in
      subst P (sym same) (all i (sym (turn-used v origins-tell 0 free os rs full j r was is named i) ∙ u))
  did-all os rs full free {given} (stored j r place is named) new all i u = by (eqb i j) refl
    where
      by : (b : Bool) → eqb i j ≡ b → P (elements_at v (set os j given.origin) (set rs j r) i)
      by true t = subst P (sym (ap (elements_at v (set os j given.origin) (set rs j r)) (eqb-true i j t) ∙ store-label v origins-tell 0 free os rs full j r given place named)) (new j refl)
      by false d =
          let s = store_other v origins-tell 0 free os rs full j r given place named i (eqb-false i j d) in
          subst P (sym s.1) (all i (ap v.used (sym s.0) ∙ u))
  did-all os rs full free (removed j was) new all i u =
      let s = remove-at v origins-tell 0 free os rs full j i in
      subst P (sym s.1) (all (shift j i) (ap v.used (sym s.0) ∙ u))

pub did-length :
    {A : Type 0} {v : Sight A} {rs : List A} {given : Of Elements} {f : Option ℕ} {touch : Touch} {after : List A} {left : Held A} → Did v rs given f touch after left →
    (o : ℕ) (os : List ℕ) → length os ≡ length rs → length (origins_after touch o os) ≡ length after
did-length stayed o os e = e
did-length {rs = rs} (turned i r was is named) o os e = e ∙ sym (length-set rs i r)
did-length {rs = rs} (stored i r place is named) o os e = length-set os i o ∙ e ∙ sym (length-set rs i r)
did-length {v = v} {rs = rs} (removed i was) o os e = without-length 0 os i ∙ e ∙ sym (without-length v.blank rs i)

-- ---- whom a step is for
-- the place that it is about is the one that it turns or removes
pub data Touches (i : ℕ) : Touch → Type 0 where
  by_turn : Touches i (turning i)
  by_removal : Touches i (removing i)

pub touches_whom :
    {A : Type 0} (v : Sight A) (os : List ℕ) (rs : List A) (given : Of Elements) {i : ℕ} {touch : Touch} → Touches i touch →
    touched (view v) os rs (label given) touch ≡ label (elements_at v os rs i) ∷ []
touches_whom v os rs given by_turn = refl
touches_whom v os rs given by_removal = refl

-- ---- whom a step speaks for: the record that it turns or removes, or what came in
abbrev pub speaks : {A : Type 0} → Sight A → List ℕ → List A → Of Elements → Touch → Of Elements
speaks v os rs given nothing = given
speaks v os rs given (storing i) = given
speaks v os rs given (turning i) = elements_at v os rs i
speaks v os rs given (removing i) = elements_at v os rs i

pub speaks-label :
    {A : Type 0} (v : Sight A) (os : List ℕ) (rs : List A) (given : Of Elements) (touch : Touch) →
    get_or (touched (view v) os rs (label given) touch) 0 (label given) ≡ label (speaks v os rs given touch)
speaks-label v os rs given nothing = refl
speaks-label v os rs given (storing i) = refl
speaks-label v os rs given (turning i) = refl
speaks-label v os rs given (removing i) = refl

pub touches_speaks :
    {A : Type 0} (v : Sight A) (os : List ℕ) (rs : List A) (given : Of Elements) {i : ℕ} {touch : Touch} → Touches i touch → speaks v os rs given touch ≡ elements_at v os rs i
touches_speaks v os rs given by_turn = refl
touches_speaks v os rs given by_removal = refl

pub touches_never : {B : Type 0} {i j : ℕ} {touch : Touch} → Touches i touch → touch ≡ storing j → B
touches_never by_turn e = let z : ◌≡◌ {A = ℕ} 0 1 = cc in absurd (omega (arith, z))
touches_never by_removal e = let z : ◌≡◌ {A = ℕ} 0 1 = cc in absurd (omega (arith, z))

module _ {A : Type 0} (v : Sight A) (os : List ℕ) (rs : List A) (given : Of Elements) where
  -- it has the identifier that came in, where what is found has it
  pub speaks-name :
      {f : Option ℕ} {touch : Touch} {after : List A} {left : Held A} → Did v rs given f touch after left → (j : Elements) → given.it ≡ j → Its v j (there v rs f) →
      (speaks v os rs given touch).it ≡ j
  speaks-name stayed j came its = came
  speaks-name (turned i r was is named) j came its = its.1
  speaks-name (stored i r place is named) j came its = came
  speaks-name (removed i was) j came its = its.1

  pub speaks-all :
      {f : Option ℕ} {touch : Touch} {after : List A} {left : Held A} → Did v rs given f touch after left → (P : Of Elements → Type 0) → P given → All v P os rs →
      P (speaks v os rs given touch)
  speaks-all stayed P came all = came
  speaks-all (turned i r was is named) P came all = all i was
  speaks-all (stored i r place is named) P came all = came
  speaks-all (removed i was) P came all = all i was

  -- where it is about no place, it is what came in
  pub nowhere-speaks :
      {f : Option ℕ} {touch : Touch} {after : List A} {left : Held A} → Did v rs given f touch after left → f ≡ None → speaks v os rs given touch ≡ given
  nowhere-speaks stayed e = refl
  nowhere-speaks (turned i r was is named) e = no_place (sym e)
  nowhere-speaks (stored i r place is named) e = refl
  nowhere-speaks (removed i was) e = no_place (sym e)

  module _ {K : Type 0} (n : Naming K) (k : K) where
    pub speaks-own :
        {f : Option ℕ} {touch : Touch} {after : List A} {left : Held A} → Did v rs given f touch after left → n.key (label given) ≡ k → Sits v n k os rs f →
        n.key (label (speaks v os rs given touch)) ≡ k
    speaks-own stayed came sits = came
    speaks-own (turned i r was is named) came sits = (sits_mine v n k sits i refl).1
    speaks-own (stored i r place is named) came sits = came
    speaks-own (removed i was) came sits = (sits_mine v n k sits i refl).1

    pub speaks-other :
        {f : Option ℕ} {touch : Touch} {after : List A} {left : Held A} → Did v rs given f touch after left → (n.key (label given) ≡ k → ⊥) →
        ((i : ℕ) → f ≡ Some i → n.key (label (elements_at v os rs i)) ≡ k → ⊥) → n.key (label (speaks v os rs given touch)) ≡ k → ⊥
    speaks-other stayed came found = came
    speaks-other (turned i r was is named) came found = found i refl
    speaks-other (stored i r place is named) came found = came
    speaks-other (removed i was) came found = found i refl

    -- who is touched is who is spoken for
    pub touched-other :
        (touch : Touch) → (n.key (label (speaks v os rs given touch)) ≡ k → ⊥) → (l : Of (Option Words)) → touched (view v) os rs (label given) touch ≡ l ∷ [] → n.key l ≡ k → ⊥
    touched-other touch d l e q = d (sym (ap n.key (speaks-label v os rs given touch)) ∙ ap (λ (ls : List (Of (Option Words))). n.key (get_or ls 0 (label given))) e ∙ q)
