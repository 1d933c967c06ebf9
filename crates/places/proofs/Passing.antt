-- A tick passes the places one after the other, and where it takes a record out those behind it move up: what is told of each place, at the place where it stands now and where it stood before.
use Prim.Native.Nat.{ℕ, zero, suc, ◌+◌, ◌≤◌, ◌<◌}
use mathlib.Core.Path.{◌≡◌, refl, sym, ap, ◌∙◌}
use mathlib.Core.Bool.{Bool, true, false}
use mathlib.Core.List.{List, [], ◌∷◌}
use lib.Dec.{ltb, eqb}
use native.Mathlib.Omega.{arith}
use borrow.Author.Tests.{ltb-true, ltb-false, eqb-true, eqb-false, ne_eqb}
use Rattle.lists.specs.Choice.{pick}
use Rattle.lists.specs.Lists.{count}
use Rattle.lists.proofs.Choice.{pick_elim, no_true}

module _ {A : Type 0} where
  -- from place `at` on it is now told what was told from place i on
  abbrev pub Alike : (ℕ → A) → ℕ → (ℕ → A) → ℕ → Type 0
  Alike now at before i = (k : ℕ) → now (at + k) ≡ before (i + k)

  pub alike-here : (now before : ℕ → A) (at i : ℕ) → Alike now at before i → now at ≡ before i
  alike-here now before at i same =
      let a : at ≡ at + 0 = omega arith in
      let b : i + 0 ≡ i = omega arith in
      ap now a ∙ same 0 ∙ ap before b

  -- the record stays
  pub alike_next : (now before : ℕ → A) (at i : ℕ) → Alike now at before i → Alike now (suc at) before (suc i)
  alike_next now before at i same k =
      let a : suc at + k ≡ at + suc k = omega arith in
      let b : i + suc k ≡ suc i + k = omega arith in
      ap now a ∙ same (suc k) ∙ ap before b

  -- it is taken out
  pub alike-gone :
      (now after before : ℕ → A) (at i : ℕ) → ((j : ℕ) → at ≤ j → after j ≡ now (j + 1)) → Alike now at before i → Alike after at before (suc i)
  alike-gone now after before at i moved same k =
      let a : at + k + 1 ≡ at + suc k = omega arith in
      let b : i + suc k ≡ suc i + k = omega arith in
      moved (at + k) (omega arith) ∙ ap now a ∙ same (suc k) ∙ ap before b

  -- ---- the same at every place below one, and at it; or at it and behind
  pub to-here : (now : ℕ → A) (x : A) (at : ℕ) → ((j : ℕ) → j < at → now j ≡ x) → now at ≡ x → (k : ℕ) → k < suc at → now k ≡ x
  to-here now x at below here k h = by (eqb k at) refl
    where
      by : (b : Bool) → eqb k at ≡ b → now k ≡ x
      by true e = ap now (eqb-true k at e) ∙ here
      by false e = below k (omega (arith, h, eqb-false k at e))

  pub everywhere : (now : ℕ → A) (x : A) (at : ℕ) → ((j : ℕ) → j < at → now j ≡ x) → ((j : ℕ) → at ≤ j → now j ≡ x) → (j : ℕ) → now j ≡ x
  everywhere now x at below above j = by (ltb j at) refl
    where
      by : (b : Bool) → ltb j at ≡ b → now j ≡ x
      by true t = below j (ltb-true j at t)
      by false f = above j (ltb-false j at f)

-- ---- a list of places, from place i on the next n that are due: one that is not due is not in it, and one that is due is in it once
module _ (due : ℕ → Bool) (listed : ℕ → ℕ → List ℕ) (none : (i : ℕ) → listed zero i ≡ []) (some : (n i : ℕ) → listed (suc n) i ≡ pick (due i) (i ∷ listed n (suc i)) (listed n (suc i))) where
  abbrev times : ℕ → List ℕ → ℕ
  times place places = count (eqb place) places

  nowhere : (place i : ℕ) → (place ≡ i → ⊥) → (places : List ℕ) → times place (i ∷ places) ≡ times place places
  unfolding count
  nowhere place i other places = rw (ne_eqb place i other)

  pub not_listed : (place : ℕ) → due place ≡ false → (n i : ℕ) → times place (listed n i) ≡ 0
  unfolding count
  not_listed place f zero i = ap (times place) (none i)
  not_listed place f (suc n) i =
      let rest = not_listed place f n (suc i) in
      ap (times place) (some n i)
      ∙ pick_elim (λ (l : List ℕ). times place l ≡ 0) (due i)
      (λ t. nowhere place i (λ e. no_true (sym f ∙ ap due e ∙ t)) (listed n (suc i)) ∙ rest)
      (λ g. rest)

  -- those before place i are not in it
  before-listed : (place n i : ℕ) → place < i → times place (listed n i) ≡ 0
  unfolding count
  before-listed place zero i h = ap (times place) (none i)
  before-listed place (suc n) i h =
      let rest = before-listed place n (suc i) (omega (arith, h)) in
      ap (times place) (some n i)
      ∙ pick_elim (λ (l : List ℕ). times place l ≡ 0) (due i) (λ t. nowhere place i (λ e. omega (arith, h, e)) (listed n (suc i)) ∙ rest) (λ g. rest)

  pub listed-once : (place : ℕ) → due place ≡ true → (n i : ℕ) → i ≤ place → place < i + n → times place (listed n i) ≡ 1
  unfolding count
  listed-once place t zero i h k = absurd (omega (arith, h, k))
  listed-once place t (suc n) i h k = ap (times place) (some n i) ∙ by (eqb place i) refl (listed-once place t n (suc i))
    where
      by :
          (b : Bool) → eqb place i ≡ b → (suc i ≤ place → place < suc i + n → times place (listed n (suc i)) ≡ 1) →
          times place (pick (due i) (i ∷ listed n (suc i)) (listed n (suc i))) ≡ 1
      by true e later =
          let same : place ≡ i = eqb-true place i e in
          let here : due i ≡ true = ap due (sym same) ∙ t in
          rw (here, e) (ap suc (before-listed place n (suc i) (omega (arith, same))))
      by false e later =
          let other = eqb-false place i e in
          let rest = later (omega (arith, h, other)) (omega (arith, k)) in
          pick_elim (λ (l : List ℕ). times place l ≡ 1) (due i) (λ d. nowhere place i other (listed n (suc i)) ∙ rest) (λ g. rest)
