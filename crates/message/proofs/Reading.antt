-- What holds of one reading that follows another, by the two cases of a reading; and that what an answer tells is one answer.
use Rattle.std.specs.Prelude.{Result, Ok, Err}
use Prim.Native.Nat.{ℕ}
use mathlib.Core.Path.{◌≡◌, refl, sym, ◌∙◌, ap}
use Rattle.lists.proofs.OneResult.{one_told}
use Rattle.message.specs.declared.Fault.{Fault}
use Rattle.message.specs.Reading.{Read, took, refused, and_then}
use Rattle.message.specs.Answers.{place_told}

pub never-took : {A : Type 0} {x : Fault} {n : ℕ} {v : A} → refused x ≡ took v n → ⊥
never-took e = cc

-- what was taken is one value, up to one place
pub took_same : {A : Type 0} {v w : A} {n m : ℕ} → took v n ≡ took w m → (v ≡ w) × (n ≡ m)
took_same {v = v} {w} {n} {m} e =
    let p : (v, n) ≡ (w, m) = cc in
    (ap (λ (x : _ × ℕ). x.0) p, ap (λ (x : _ × ℕ). x.1) p)

-- what holds of a refusal, and of what follows what was taken, holds of the whole
pub then_elim :
    {A B : Type 0} (Q : Read B → Type 0) (r : Read A) (k : A → ℕ → Read B) → ((x : Fault) → Q (refused x)) →
    ((v : A) (next : ℕ) → r ≡ took v next → Q (k v next)) → Q (and_then r k)
then_elim Q (Ok (v, next)) k refuses follows = follows v next refl
then_elim Q (Err x) k refuses follows = refuses x

-- two answers that tell the same place are the same
pub place-one : (a b : Result ℕ Fault) → place_told a ≡ place_told b → a ≡ b
place-one (Ok n) (Ok m) e = ap Ok (took_same e).1
place-one (Ok n) (Err y) e = absurd (never-took (sym e))
place-one (Err x) (Ok m) e = absurd (never-took e)
place-one (Err x) (Err y) e = cc

-- ---- so a promise of an answer, or of what it tells, allows one answer
pub one_number_lem : (r r' : Read ℕ) {definition : Read ℕ} → r ≡ definition → r' ≡ definition → r ≡ r'
one_number_lem r r' e e' = e ∙ sym e'

pub one_place : (r r' : Result ℕ Fault) {definition : Read (Unit {0})} → place_told r ≡ definition → place_told r' ≡ definition → r ≡ r'
one_place r r' = one_told place_told place-one r r'
