-- The record that is meant is in use: it was found by its identifier among those in use, it is the oldest that fits, or it stands at the named place.
use Rattle.lists.specs.declared.words.Words.{Words}
use Rattle.std.specs.Prelude.{Option, Some, None}
use Prim.Native.Nat.{ℕ}
use mathlib.Core.Path.{◌≡◌, refl, ap, ◌∙◌, subst}
use mathlib.Core.Bool.{true}
use mathlib.Core.List.{List}
use lib.ListN.{get_or}
use native.Mathlib.Omega.{arith}
use Rattle.lists.proofs.Choice.{pick_elim}
use Rattle.lists.proofs.Lists.{both_parts, first_holds}
use Rattle.message.specs.Format.{has_elements}
use Rattle.desk.specs.Letter.{same_identifier}
use Rattle.desk.specs.declared.letter.Letter.{Letter}
use Rattle.terms.specs.Means.{fits}
use Rattle.terms.specs.Request.{letter_names}
use Rattle.terms.specs.declared.means.Means.{Means}
use Rattle.terms.specs.declared.means.Means.TheVariants.{Nothing, At}
use Rattle.terms.specs.declared.request.Name.{Name}
use Rattle.terms.proofs.MeansLaws.{oldest-at}
use Rattle.clerk_table.specs.declared.record.Record.{Record}
use Rattle.clerk_records.specs.Records.{blank, used, identified, meant}
use Rattle.clerk_records.specs.Meaning.{identifier_means, fitting, is_for, elements_mean, place_means, or_else, meaning, named}

-- what is meant, at a place, is in use
abbrev Used : List Record → Means → Type 0
Used rs means = (i : ℕ) → means ≡ At i → used (get_or rs i blank) ≡ true

nothing-used : (rs : List Record) → Used rs Nothing
nothing-used rs i e = let z : ◌≡◌ {A = ℕ} 0 1 = cc in absurd (omega arith)

-- (a)
pub identifier-used : (identifier : Option Words) (rs : List Record) (i : ℕ) → identifier_means identifier rs ≡ Some i → used (get_or rs i blank) ≡ true
unfolding meant
identifier-used None rs i e = let z : ◌≡◌ {A = ℕ} 0 1 = cc in absurd (omega arith)
identifier-used (Some identifier) rs i e =
    (both_parts (same_identifier (get_or rs i blank).terms.identifier (Some identifier)) (used (get_or rs i blank)) (first_holds (identified identifier) rs i blank e)).1

-- (b)
elements-used : (l : Letter) (rs : List Record) → Used rs (elements_mean l rs)
unfolding elements_mean
elements-used l rs i e =
    (both_parts (used (get_or rs i blank)) (fits (letter_names l) (get_or rs i blank).terms) (oldest-at (fitting (letter_names l)) (is_for l.body) rs blank i e).fitting).0

-- (c)
place-used : (identifier : Option Words) (place : ℕ) (rs : List Record) → Used rs (place_means identifier place rs)
place-used (Some identifier) place rs = nothing-used rs
place-used None place rs =
    pick_elim (Used rs) (used (get_or rs place blank))
    (λ t i e. let same : place ≡ i = cc in subst (λ (k : ℕ). used (get_or rs k blank) ≡ true) same t)
    (λ f. nothing-used rs)

-- one after the other
or-used :
    (identifier : Option Words) (rs : List Record) (f : Option ℕ) (otherwise : Means) → identifier_means identifier rs ≡ f → Used rs otherwise → Used rs (or_else f otherwise)
or-used identifier rs (Some j) otherwise e other i q =
    let same : j ≡ i = cc in
    identifier-used identifier rs i (e ∙ ap Some same)
or-used identifier rs None otherwise e other i q = other i q

pub meaning-used : (l : Letter) (place : ℕ) (rs : List Record) → (i : ℕ) → meaning l place rs ≡ At i → used (get_or rs i blank) ≡ true
unfolding meaning
meaning-used l place rs =
    or-used l.identifier rs (identifier_means l.identifier rs) _ refl
    (pick_elim (Used rs) (has_elements l.body l.carrier) (λ t. elements-used l rs) (λ f. place-used l.identifier place rs))

pub named-used : (name : Name) (rs : List Record) → (i : ℕ) → named name rs ≡ At i → used (get_or rs i blank) ≡ true
unfolding named
named-used name rs = or-used name.identifier rs (identifier_means name.identifier rs) _ refl (place-used name.identifier name.place rs)
