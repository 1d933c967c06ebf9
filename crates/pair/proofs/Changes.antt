-- A change of a desk's records about one place: what it leaves there. It is said once for both desks, over any type of record.
use Rattle.std.specs.Prelude.{Option, Some, None}
use Prim.Native.Nat.{ℕ}
use mathlib.Core.Path.{◌≡◌, refl, sym, ◌∙◌}
use mathlib.Core.Bool.{Bool, true, false}
use mathlib.Core.List.{List}
use lib.ListN.{set}
use Rattle.lists.specs.Choice.{pick}
use Rattle.lists.specs.Lists.{without}
use Rattle.desk.specs.declared.sends.Elements.{Elements}
use Rattle.places.specs.Places.{place_in, Held, none, one}
use Rattle.pair.specs.World.{Of, Touch, nothing, storing, turning, removing}
use Rattle.pair.proofs.Sits.{Sight, view, there, Its, Did, stayed, turned, stored, removed}

-- the place that it is about, what it touches, the list afterwards and what it leaves there: nothing is changed; the record is turned, or removed; a new one is stored
pub data Own {A : Type 0} (v : Sight A) (rs : List A) : Option ℕ → Touch → List A → Held A → Type 0 where
  stays : {f : Option ℕ} → Own v rs f nothing rs (there v rs f)
  turns : (i : ℕ) (r : A) → Own v rs (Some i) (turning i) (set rs i r) (one r)
  stores : (i : ℕ) (r : A) → place_in (view v) rs ≡ Some i → Own v rs None (storing i) (set rs i r) (one r)
  removes : (i : ℕ) → Own v rs (Some i) (removing i) (without v.blank rs i) none

-- with elements that what is there before and what is left has, and that came in
pub own-did :
    {A : Type 0} (v : Sight A) (rs : List A) (j : Elements) (given : Of Elements) {f : Option ℕ} {touch : Touch} {after : List A} {left : Held A} → Own v rs f touch after left →
    Its v j (there v rs f) → Its v j left → ((i : ℕ) → touch ≡ storing i → given.it ≡ j) → Did v rs given f touch after left
own-did v rs j given stays was is came = stayed
own-did v rs j given (turns i r) was is came = turned i r was.0 is.0 (is.1 ∙ sym was.1)
own-did v rs j given (stores i r free) was is came = stored i r free is.0 (is.1 ∙ sym (came i refl))
own-did v rs j given (removes i) was is came = removed i was.0

-- ---- a function of a choice
pub pick-ap : {A B : Type 0} (f : A → B) (b : Bool) (x y : A) → f (pick b x y) ≡ pick b (f x) (f y)
pick-ap f true x y = refl
pick-ap f false x y = refl
