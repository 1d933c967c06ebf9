-- Which record is meant by numbers and service (document 02, Ask 1; READINGS-02, "Which record is meant", (b)): when one fits, and the oldest that does.
use Rattle.std.specs.Prelude.{ℕ, ◌<◌, ◌≡◌, Bool, true, false, not, List, eqb, length, get_or, Option, Some, None}
use Rattle.lists.specs.Choice.{pick}
use Rattle.lists.specs.Lists.{both, first}
use Rattle.lists.specs.Words.{same_words}
use Rattle.lists.specs.declared.words.Words.{Words}
use Rattle.desk.specs.Sends.{no_number}
use Rattle.terms.specs.declared.Terms.{Terms}
use Rattle.terms.specs.declared.request.Names.{Names}
use Rattle.terms.specs.declared.means.Means.{Means}
use Rattle.terms.specs.declared.means.Means.TheVariants.{Nothing, NotNow, At}

-- ---- a record fits if not both have an identifier, and numberB and service are equal where both have them, and numberA is equal where both give it
-- a number of no digits is withheld, or absent
abbrev pub given : Words → Bool
given number = not (same_words number no_number)

abbrev pub agree : Words → Words → Bool
agree a b = pick (given a) (pick (given b) (same_words a b) true) true

-- a record has its service
abbrev pub service_agrees : Option ℕ → ℕ → Bool
service_agrees None own = true
service_agrees (Some service) own = eqb service own

abbrev pub not_both : Option Words → Option Words → Bool
not_both None b = true
not_both (Some own) None = true
not_both (Some own) (Some other) = false

unfoldable pub fits : Names → Terms → Bool
fits names t =
    both (not_both names.identifier t.identifier)
    (both (agree names.numberB t.numberB) (both (service_agrees names.service t.service) (agree names.numberA t.numberA)))

-- ---- which one is meant
-- what was found
abbrev pub found_means : Option ℕ → Means
found_means (Some i) = At i
found_means None = Nothing

-- the first that fits and is in a state that the message is for; else whether one fits at all
abbrev pub means_of : Option ℕ → Option ℕ → Means
means_of (Some i) fitting = At i
means_of None (Some i) = NotNow
means_of None None = Nothing

-- the first is the oldest: records stand in the order of storing
unfoldable pub oldest : {A : Type 0} → (A → Bool) → (A → Bool) → List A → Means
oldest fit ready xs = means_of (first (λ x. both (fit x) (ready x)) xs) (first fit xs)

-- ---- what the answer says of the list; proofs/MeansLaws.antt has it of `oldest`
module _ {A : Type 0} (fit ready : A → Bool) (xs : List A) (d : A) where
  -- it fits and is ready, and no earlier one is both
  pub record OldestAt (i : ℕ) : Type 0 where
    pub inside : i < length xs
    pub fitting : fit (get_or xs i d) ≡ true
    pub is_ready : ready (get_or xs i d) ≡ true
    pub earlier : (j : ℕ) → j < i → both (fit (get_or xs j d)) (ready (get_or xs j d)) ≡ false

  -- one fits, and none fits and is ready
  pub record FitNotNow : Type 0 where
    pub index : ℕ
    pub inside : index < length xs
    pub fitting : fit (get_or xs index d) ≡ true
    pub none_ready : (j : ℕ) → j < length xs → both (fit (get_or xs j d)) (ready (get_or xs j d)) ≡ false

  -- none fits
  abbrev pub NoneFits : Type 0
  NoneFits = (j : ℕ) → j < length xs → fit (get_or xs j d) ≡ false

  abbrev pub Told : Means → Type 0
  Told (At i) = OldestAt i
  Told NotNow = FitNotNow
  Told Nothing = NoneFits
