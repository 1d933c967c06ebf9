-- What a choice says of its test, and of what was chosen: by the two values of the test.
use mathlib.Core.Path.{◌≡◌, refl}
use mathlib.Core.Bool.{Bool, true, false}
use mathlib.Core.Logic.{◌⊎◌, inl, inr}
use Rattle.lists.specs.Choice.{pick}
use Prim.Native.Nat.{ℕ}
use native.Mathlib.Omega.{arith}

pub no_true : false ≡ true → ⊥
no_true e = let z : ◌≡◌ {A = ℕ} 0 1 = cc in omega arith

-- what holds of each arm under its test holds of the choice
pub pick_elim : {A : Type 0} (P : A → Type 0) (b : Bool) {x y : A} → (b ≡ true → P x) → (b ≡ false → P y) → P (pick b x y)
pick_elim P true f g = f refl
pick_elim P false f g = g refl

-- what holds of two choices by one test
pub pick-both : {A B : Type 0} (P : A → B → Type 0) (b : Bool) {x y : A} {v w : B} → (b ≡ true → P x v) → (b ≡ false → P y w) → P (pick b x y) (pick b v w)
pick-both P true f g = f refl
pick-both P false f g = g refl

pub pick-cases : {A : Type 0} (b : Bool) (x y z : A) → pick b x y ≡ z → ((b ≡ true) × (x ≡ z)) ⊎ ((b ≡ false) × (y ≡ z))
pick-cases true x y z e = inl (refl, e)
pick-cases false x y z e = inr (refl, e)

-- the arm that was chosen, where the other can't be meant
pub pick-else : {A : Type 0} (b : Bool) (x y z : A) → (x ≡ z → ⊥) → pick b x y ≡ z → (b ≡ false) × (y ≡ z)
pick-else true x y z never e = absurd (never e)
pick-else false x y z never e = (refl, e)

pub pick-then : {A : Type 0} (b : Bool) (x y z : A) → (y ≡ z → ⊥) → pick b x y ≡ z → (b ≡ true) × (x ≡ z)
pick-then true x y z never e = (refl, e)
pick-then false x y z never e = absurd (never e)
