-- What the oldest that fits says of the list: by the laws of the two searches that it is made of.
use Rattle.std.specs.Prelude.{Option, Some, None}
use Prim.Native.Nat.{ℕ, ◌<◌}
use mathlib.Core.Path.{◌≡◌, refl, sym, ◌∙◌, subst}
use mathlib.Core.Bool.{Bool}
use mathlib.Core.List.{List}
use native.Mathlib.Nat.{zero-add}
use native.Mathlib.Omega.{arith}
use lib.ListN.{length, get_or}
use Rattle.lists.specs.Lists.{both, first}
use Rattle.lists.proofs.Lists.{both_parts, first_below, first_holds, first-earlier, first-none, first-map, first-same}
use mathlib.Core.List.{map}
use Rattle.terms.specs.Means.{means_of, oldest, OldestAt, FitNotNow, NoneFits, Told}
use Rattle.terms.specs.declared.means.Means.TheVariants.{Nothing, NotNow, At}

module _ {A : Type 0} (fit ready : A → Bool) (xs : List A) (d : A) where
  abbrev now : A → Bool
  now x = both (fit x) (ready x)

  inside : (p : A → Bool) (i : ℕ) → first p xs ≡ Some i → i < length xs
  inside p i e = let h = first_below p 0 xs i e in omega (arith, zero-add (length xs))

  told : (a b : Option ℕ) → first now xs ≡ a → first fit xs ≡ b → Told fit ready xs d (means_of a b)
  told (Some i) b e f =
      let h = both_parts (fit (get_or xs i d)) (ready (get_or xs i d)) (first_holds now xs i d e) in
      record { inside = inside now i e; fitting = h.0; is_ready = h.1; earlier = first-earlier now xs i d e }
  told None (Some i) e f =
      record { index = i; inside = inside fit i f; fitting = first_holds fit xs i d f; none_ready = first-none now xs d e }
  told None None e f = first-none fit xs d f

  -- the law, once for both desks
  pub oldest-told : Told fit ready xs d (oldest fit ready xs)
  unfolding oldest
  oldest-told = told (first now xs) (first fit xs) refl refl

  -- its cases
  pub oldest-at : (i : ℕ) → oldest fit ready xs ≡ At i → OldestAt fit ready xs d i
  oldest-at i e = subst (Told fit ready xs d) e oldest-told

  pub oldest-not-now : oldest fit ready xs ≡ NotNow → FitNotNow fit ready xs d
  oldest-not-now e = subst (Told fit ready xs d) e oldest-told

  pub oldest-nothing : oldest fit ready xs ≡ Nothing → NoneFits fit ready xs d
  oldest-nothing e = subst (Told fit ready xs d) e oldest-told

-- in changed elements, by tests with the same answers
pub oldest-map :
    {A B : Type 0} (f : A → B) (fit ready : A → Bool) (fit' ready' : B → Bool) → ((x : A) → fit x ≡ fit' (f x)) → ((x : A) → ready x ≡ ready' (f x)) →
    (xs : List A) → oldest fit ready xs ≡ oldest fit' ready' (map f xs)
unfolding oldest
oldest-map f fit ready fit' ready' same_fit same_ready xs =
    let one : first (λ x. both (fit x) (ready x)) xs ≡ first (λ y. both (fit' y) (ready' y)) (map f xs) =
    first-same (λ x. both (fit x) (ready x)) (λ x. both (fit' (f x)) (ready' (f x))) xs (λ x. rw (same_fit x, same_ready x))
    ∙ sym (first-map f (λ y. both (fit' y) (ready' y)) xs) in
    let two : first fit xs ≡ first fit' (map f xs) = first-same fit (λ x. fit' (f x)) xs same_fit ∙ sym (first-map f fit' xs) in
    rw (one, two)
