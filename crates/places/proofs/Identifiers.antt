-- Two identifiers are the same only where both are there and have the same words: by what each is.
use Rattle.std.specs.Prelude.{Option, Some, None}
use mathlib.Core.Path.{◌≡◌, refl, sym, ap, ◌∙◌}
use mathlib.Core.Bool.{true}
use Rattle.lists.specs.declared.words.Words.{Words}
use Rattle.lists.proofs.Choice.{no_true}
use Rattle.lists.proofs.WordsLaws.{same-words-true, words_same}
use Rattle.desk.specs.Letter.{same_identifier}

-- both have these words
pub record Alike (a b : Option Words) : Type 0 where
  pub words : Words
  pub one : a ≡ Some words
  pub other : b ≡ Some words

pub same_alike : (a b : Option Words) → same_identifier a b ≡ true → Alike a b
same_alike None b e = absurd (no_true e)
same_alike (Some own) None e = absurd (no_true e)
same_alike (Some own) (Some other) e = record { words = other; one = ap Some (same-words-true own other e); other = refl }

pub same-own : (words : Words) → same_identifier (Some words) (Some words) ≡ true
same-own words = words_same words words refl

-- one that has these words
pub same-is : (a : Option Words) (words : Words) → same_identifier a (Some words) ≡ true → a ≡ Some words
same-is a words e = let both = same_alike a (Some words) e in both.one ∙ sym both.other

pub is_same : (a : Option Words) (words : Words) → a ≡ Some words → same_identifier a (Some words) ≡ true
is_same a words e = ap (λ (x : Option Words). same_identifier x (Some words)) e ∙ same-own words
