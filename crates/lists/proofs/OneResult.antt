-- Why a promise allows one result: both results are what the definition says, by transitivity.
use mathlib.Core.Path.{◌≡◌, sym, ◌∙◌}

-- a promise `r ≡ definition`
pub one-result : {A : Type 0} {r r' definition : A} → r ≡ definition → r' ≡ definition → r ≡ r'
one-result p q = p ∙ sym q

-- a promise `told r ≡ definition`, where what is told tells one answer from another
pub one_told :
    {A B : Type 0} (told : A → B) → ((r r' : A) → told r ≡ told r' → r ≡ r') → (r r' : A) {definition : B} →
    told r ≡ definition → told r' ≡ definition → r ≡ r'
one_told told apart r r' p q = apart r r' (p ∙ sym q)

-- a promise about two things at once, as the answer and a buffer
pub one-both :
    {A B : Type 0} {r r' answer : A} {s s' buffer : B} → (r ≡ answer) × (s ≡ buffer) → (r' ≡ answer) × (s' ≡ buffer) → (r ≡ r') × (s ≡ s')
one-both p q = (one-result p.0 q.0, one-result p.1 q.1)
