-- Lists of anything: the first that passes a test, how many do, one taken out.
use Rattle.std.specs.Prelude.{ℕ, zero, suc, Bool, true, false, List, [], ◌∷◌, ◌++◌, Option, Some, None}
use Rattle.lists.specs.Choice.{pick}

-- both tests are true
abbrev pub both : Bool → Bool → Bool
both true b = b
both false b = false

-- the index of the first that passes, where the list's first has the index k
unfoldable pub first_from : {A : Type 0} → (A → Bool) → ℕ → List A → Option ℕ
first_from p k [] = None
first_from p k (x ∷ xs) = pick (p x) (Some k) (first_from p (suc k) xs)

-- the index of the first that passes
abbrev pub first : {A : Type 0} → (A → Bool) → List A → Option ℕ
first p xs = first_from p 0 xs

-- how many pass
unfoldable pub count : {A : Type 0} → (A → Bool) → List A → ℕ
count p [] = 0
count p (x ∷ xs) = pick (p x) (suc (count p xs)) (count p xs)

-- the i-th taken out, the later ones one place to the left, the blank z at the end
unfoldable pub without : {A : Type 0} → A → List A → ℕ → List A
without z [] i = []
without z (x ∷ xs) zero = xs ++ (z ∷ [])
without z (x ∷ xs) (suc i) = x ∷ without z xs i
