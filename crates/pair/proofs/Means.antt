-- Which record a message means, said once for both desks: by the identifier, by the elements in Setup, or by the place that is named. A message of a request, where none of its own means
-- another's record and a place that is named for it is its record's, means its record; or finds it in no state that the message is for; or, where the request has none, means none.
use Rattle.std.specs.Prelude.{Option, Some, None}
use Prim.Native.Nat.{ℕ}
use mathlib.Core.Path.{◌≡◌, refl, sym, ap, ◌∙◌, subst}
use mathlib.Core.Bool.{Bool, true, false}
use mathlib.Core.List.{List}
use native.Mathlib.Omega.{arith}
use borrow.Author.Tests.{eq-eqb}
use Rattle.lists.specs.Choice.{pick}
use Rattle.lists.specs.Lists.{both}
use Rattle.lists.specs.Words.{same_words}
use Rattle.lists.specs.declared.words.Words.{Words}
use Rattle.lists.proofs.Choice.{no_true}
use Rattle.lists.proofs.Lists.{both_parts}
use Rattle.lists.proofs.WordsLaws.{words_same}
use Rattle.desk.specs.declared.sends.Elements.{Elements}
use Rattle.terms.specs.Terms.{elements_of}
use Rattle.terms.specs.Means.{given, agree, not_both, fits, oldest}
use Rattle.terms.specs.declared.request.Names.{Names}
use Rattle.terms.specs.declared.Terms.{Terms}
use Rattle.terms.specs.declared.means.Means.{Means}
use Rattle.terms.specs.declared.means.Means.TheVariants.{Nothing, NotNow, At}
use Rattle.terms.proofs.MeansLaws.{oldest-at, oldest-not-now, oldest-nothing}
use Rattle.places.specs.Places.{known_in, meant_in}
use Rattle.places.proofs.Holding.{meant-its}
use Rattle.places.proofs.Staying.{nobody, used-inside}
use Rattle.pair.specs.World.{Naming}
use Rattle.pair.proofs.Letters.{full_names}
use Rattle.pair.proofs.Sits.{Sight, view, at, label, elements_at, there, Its, Sits, sits_at}

abbrev pub or_else : Option ℕ → Means → Means
or_else (Some i) otherwise = At i
or_else None otherwise = otherwise

abbrev pub place_means : {A : Type 0} → Sight A → Option Words → ℕ → List A → Means
place_means v None place rs = pick (v.used (at v rs place)) (At place) Nothing
place_means v (Some identifier) place rs = Nothing

-- `set` is whether the message has elements in Setup, `fit` and `ready` whether a record fits and is in a state that it is for
abbrev pub meaning_in : {A : Type 0} → Sight A → Option Words → Bool → (A → Bool) → (A → Bool) → ℕ → List A → Means
meaning_in v identifier set fit ready place rs = or_else (known_in (view v) identifier rs) (pick set (oldest fit ready rs) (place_means v identifier place rs))

-- ---- a record with the elements of a message fits it
agree-own : (a : Words) → agree a a ≡ true
agree-own a = by (given a)
  where
    same : same_words a a ≡ true
    same = words_same a a refl

    by : (b : Bool) → pick b (pick b (same_words a a) true) true ≡ true
    by true = same
    by false = refl

pub own-fits : (e : Elements) → e.identifier ≡ None → (t : Terms) → elements_of t ≡ e → fits (full_names e) t ≡ true
unfolding fits
own-fits e absent t same =
    let a : t.numberA ≡ e.numberA = ap (λ (x : Elements). x.numberA) same in
    let b : t.numberB ≡ e.numberB = ap (λ (x : Elements). x.numberB) same in
    let s : t.service ≡ e.service = ap (λ (x : Elements). x.service) same in
    rw (absent, a, b, s, agree-own e.numberB, eq-eqb e.service e.service refl, agree-own e.numberA)

-- ---- what a message of a request means, by where its record stands
pub data Meant {A : Type 0} (v : Sight A) (rs : List A) (set : Bool) (ready : A → Bool) : Option ℕ → Means → Type 0 where
  found : (i : ℕ) → Meant v rs set ready (Some i) (At i)
  late : (i : ℕ) → set ≡ true → ready (at v rs i) ≡ false → Meant v rs set ready (Some i) NotNow
  missed : Meant v rs set ready None Nothing
  no_longer : set ≡ true → Meant v rs set ready None NotNow

never : {B : Type 0} {i : ℕ} → At i ≡ Nothing → B
never e = let z : ◌≡◌ {A = ℕ} 0 1 = cc in absurd (omega (arith, z))

not-now : {B : Type 0} {i : ℕ} → At i ≡ NotNow → B
not-now e = let z : ◌≡◌ {A = ℕ} 0 1 = cc in absurd (omega (arith, z))

other : {B : Type 0} → Nothing ≡ NotNow → B
other e = let z : ◌≡◌ {A = ℕ} 0 1 = cc in absurd (omega (arith, z))

module _ {A : Type 0} (v : Sight A) (free : v.used v.blank ≡ false) (rs : List A) (fit ready : A → Bool) (place : ℕ) where
  abbrev means : Option Words → Bool → Means
  means identifier set = meaning_in v identifier set fit ready place rs

  -- "not now" is said of elements alone
  set-not-now : (identifier : Option Words) (set : Bool) → means identifier set ≡ NotNow → set ≡ true
  set-not-now identifier true e = refl
  set-not-now None false e = by (v.used (at v rs place)) e
    where
      by : (b : Bool) → pick b (At place) Nothing ≡ NotNow → false ≡ true
      by true q = not-now q
      by false q = other q
  set-not-now (Some identifier) false e = by (meant_in (view v) identifier rs) e
    where
      by : (g : Option ℕ) → or_else g Nothing ≡ NotNow → false ≡ true
      by (Some i) q = not-now q
      by None q = other q

  -- the identifier of a record in use is found
  known : {B : Type 0} (identifier : Words) (otherwise : Means) (i : ℕ) → v.used (at v rs i) ≡ true → (v.elements (at v rs i)).identifier ≡ Some identifier → (g : Option ℕ) → meant_in (view v) identifier rs ≡ g →
      ((j : ℕ) → or_else g otherwise ≡ At j → B) → B
  known identifier otherwise i u name (Some j) e out = out j refl
  known identifier otherwise i u name None e out = absurd (nobody (view v) rs identifier free e i u name)

  -- one that stands at a place means a record, or finds it late
  module _ (i : ℕ) (u : v.used (at v rs i) ≡ true) where
    stands-nothing :
        (identifier : Option Words) (set : Bool) → (v.elements (at v rs i)).identifier ≡ identifier → (set ≡ true → identifier ≡ None → fit (at v rs i) ≡ true) →
        (identifier ≡ None → set ≡ false → place ≡ i) → means identifier set ≡ Nothing → ⊥
    stands-nothing (Some identifier) set name fits named e =
        known identifier (pick set (oldest fit ready rs) Nothing) i u name (meant_in (view v) identifier rs) refl (λ j q. never (sym q ∙ e))
    stands-nothing None true name fits named e =
        no_true (sym (oldest-nothing fit ready rs v.blank e i (used-inside (view v) rs i free u)) ∙ fits refl refl)
    stands-nothing None false name fits named e =
        let here : v.used (at v rs place) ≡ true = ap (λ (j : ℕ). v.used (at v rs j)) (named refl refl) ∙ u in
        never (sym (ap (λ (b : Bool). pick b (At place) Nothing) here) ∙ e)

    both-off : (a b : Bool) → both a b ≡ false → a ≡ true → b ≡ false
    both-off true b e q = e
    both-off false b e q = absurd (no_true q)

    stands-late :
        (identifier : Option Words) (set : Bool) → (v.elements (at v rs i)).identifier ≡ identifier → (set ≡ true → identifier ≡ None → fit (at v rs i) ≡ true) →
        means identifier set ≡ NotNow → ready (at v rs i) ≡ false
    stands-late (Some identifier) set name fits e =
        known identifier (pick set (oldest fit ready rs) Nothing) i u name (meant_in (view v) identifier rs) refl (λ j q. not-now (sym q ∙ e))
    stands-late None true name fits e =
        let none = (oldest-not-now fit ready rs v.blank e).none_ready i (used-inside (view v) rs i free u) in
        both-off (fit (at v rs i)) (ready (at v rs i)) none (fits refl refl)
    stands-late None false name fits e = absurd (no_true (set-not-now None false e))

  module _ {K : Type 0} (n : Naming K) (k : K) (os : List ℕ) (e : Elements) (set : Bool)
      (fits : set ≡ true → e.identifier ≡ None → (r : A) → v.used r ≡ true → v.elements r ≡ e → fit r ≡ true)
      (mine : (i : ℕ) → means e.identifier set ≡ At i → (v.used (at v rs i) ≡ true) × (n.key (label (elements_at v os rs i)) ≡ k)) where
    pub own-means :
        (f : Option ℕ) → Sits v n k os rs f → Its v e (there v rs f) → (e.identifier ≡ None → set ≡ false → (i : ℕ) → f ≡ Some i → place ≡ i) →
        Meant v rs set ready f (means e.identifier set)
    own-means f sits its named = by (means e.identifier set) refl
      where
        at_place : (g : Option ℕ) → f ≡ g → (m : Means) → means e.identifier set ≡ m → Meant v rs set ready g m
        at_place g q (At i) s = subst (λ (h : Option ℕ). Meant v rs set ready h (At i)) (sym (sits_at v n k sits i (mine i s)) ∙ q) (found i)
        at_place None q NotNow s = no_longer (set-not-now e.identifier set s)
        at_place None q Nothing s = missed
        at_place (Some i) q NotNow s =
            let here = subst (λ (h : Option ℕ). Its v e (there v rs h)) q its in
            late i (set-not-now e.identifier set s) (stands-late i here.0 e.identifier set (ap (λ (x : Elements). x.identifier) here.1) (λ t a. fits t a (at v rs i) here.0 here.1) s)
        at_place (Some i) q Nothing s =
            let here = subst (λ (h : Option ℕ). Its v e (there v rs h)) q its in
            absurd (stands-nothing i here.0 e.identifier set (ap (λ (x : Elements). x.identifier) here.1) (λ t a. fits t a (at v rs i) here.0 here.1) (λ a b. named a b i q) s)

        by : (m : Means) → means e.identifier set ≡ m → Meant v rs set ready f m
        by m s = at_place f refl m s

-- ---- with an identifier, among records that have one, a message means the record that has it
named-or : {A : Type 0} (v : Sight A) (rs : List A) (fit ready : A → Bool) → ((r : A) → fit r ≡ true → (v.used r ≡ true) × ((v.elements r).identifier ≡ None)) →
    ((i : ℕ) → v.used (at v rs i) ≡ true → (v.elements (at v rs i)).identifier ≡ None → ⊥) → (set : Bool) (i : ℕ) → pick set (oldest fit ready rs) Nothing ≡ At i → ⊥
named-or v rs fit ready lone each true i e =
    let its = lone (at v rs i) (oldest-at fit ready rs v.blank i e).fitting in
    each i its.0 its.1
named-or v rs fit ready lone each false i e = let z : ◌≡◌ {A = ℕ} 0 1 = cc in omega (arith, z)

pub named-means :
    {A : Type 0} (v : Sight A) (rs : List A) (fit ready : A → Bool) (place : ℕ) → ((r : A) → fit r ≡ true → (v.used r ≡ true) × ((v.elements r).identifier ≡ None)) →
    ((i : ℕ) → v.used (at v rs i) ≡ true → (v.elements (at v rs i)).identifier ≡ None → ⊥) → (identifier : Words) (set : Bool) (i : ℕ) →
    meaning_in v (Some identifier) set fit ready place rs ≡ At i → (v.used (at v rs i) ≡ true) × ((v.elements (at v rs i)).identifier ≡ Some identifier)
named-means v rs fit ready place lone each identifier set i e = by (meant_in (view v) identifier rs) refl e
  where
    by :
        (g : Option ℕ) → meant_in (view v) identifier rs ≡ g → or_else g (pick set (oldest fit ready rs) Nothing) ≡ At i →
        (v.used (at v rs i) ≡ true) × ((v.elements (at v rs i)).identifier ≡ Some identifier)
    by (Some j) f q = let same : j ≡ i = cc in meant-its (view v) rs identifier i (f ∙ ap Some same)
    by None f q = absurd (named-or v rs fit ready lone each set i q)

-- what fits one that has an identifier has none
pub lone-fit : (names : Names) (identifier : Words) → names.identifier ≡ Some identifier → (t : Terms) → fits names t ≡ true → t.identifier ≡ None
unfolding fits
lone-fit names identifier name t e =
    by t.identifier (subst (λ (x : Option Words). not_both x t.identifier ≡ true) name (both_parts (not_both names.identifier t.identifier) _ e).0)
  where
    by : (own : Option Words) → not_both (Some identifier) own ≡ true → own ≡ None
    by None q = refl
    by (Some other) q = absurd (no_true q)
