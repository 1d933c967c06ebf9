-- What is meant is in use: by each way to mean it in turn.
use Rattle.lists.specs.declared.words.Words.{Words}
use Rattle.std.specs.Prelude.{Option, Some, None}
use Prim.Native.Nat.{ℕ}
use mathlib.Core.Path.{◌≡◌, refl, subst}
use mathlib.Core.Bool.{true}
use mathlib.Core.List.{List}
use lib.ListN.{get_or}
use native.Mathlib.Omega.{arith}
use Rattle.lists.proofs.Choice.{pick_elim}
use Rattle.lists.proofs.Lists.{both_parts, first_holds}
use Rattle.message.specs.Format.{has_elements}
use Rattle.desk.specs.Letter.{same_identifier}
use Rattle.desk.specs.declared.letter.Letter.{Letter}
use Rattle.terms.specs.Means.{fits}
use Rattle.terms.specs.Request.{letter_names}
use Rattle.terms.specs.declared.means.Means.{Means}
use Rattle.terms.specs.declared.means.Means.TheVariants.{Nothing, At}
use Rattle.terms.specs.declared.request.Name.{Name}
use Rattle.terms.proofs.MeansLaws.{oldest-at}
use Rattle.line_table.specs.Search.{used}
use Rattle.line_table.specs.declared.record.Record.{Record}
use Rattle.line_records.specs.Records.{blank, identified, meant}
use Rattle.line_records.specs.Meaning.{identifier_means, fitting, is_for, elements_mean, place_means, or_else, meaning, named}

-- the record at the place that is meant is in use
abbrev pub Uses : List Record → Means → Type 0
Uses rs m = (i : ℕ) → m ≡ At i → used (get_or rs i blank) ≡ true

nothing-uses : (rs : List Record) → Uses rs Nothing
nothing-uses rs i e = absurd (let z : ◌≡◌ {A = ℕ} 0 1 = cc in omega arith)

at-uses : (rs : List Record) (k : ℕ) → used (get_or rs k blank) ≡ true → Uses rs (At k)
at-uses rs k u i e =
    let q : k ≡ i = cc in
    subst (λ (x : ℕ). used (get_or rs x blank) ≡ true) q u

found-used : (identifier : Option Words) (rs : List Record) (i : ℕ) → identifier_means identifier rs ≡ Some i → used (get_or rs i blank) ≡ true
unfolding meant
found-used None rs i e = absurd (let z : ◌≡◌ {A = ℕ} 0 1 = cc in omega arith)
found-used (Some identifier) rs i e =
    let r : Record = get_or rs i blank in
    (both_parts (same_identifier r.terms.identifier (Some identifier)) (used r) (first_holds (identified identifier) rs i blank e)).1

elements-use : (l : Letter) (rs : List Record) → Uses rs (elements_mean l rs)
unfolding elements_mean
elements-use l rs i e =
    let r : Record = get_or rs i blank in
    (both_parts (used r) (fits (letter_names l) r.terms) (oldest-at (fitting (letter_names l)) (is_for l.body) rs blank i e).fitting).0

place-uses : (identifier : Option Words) (place : ℕ) (rs : List Record) → Uses rs (place_means identifier place rs)
place-uses None place rs = pick_elim (Uses rs) (used (get_or rs place blank)) (λ t. at-uses rs place t) (λ f. nothing-uses rs)
place-uses (Some identifier) place rs = nothing-uses rs

or-uses : (rs : List Record) (f : Option ℕ) (m : Means) → ((i : ℕ) → f ≡ Some i → used (get_or rs i blank) ≡ true) → Uses rs m → Uses rs (or_else f m)
or-uses rs (Some k) m found otherwise = at-uses rs k (found k refl)
or-uses rs None m found otherwise = otherwise

pub meaning-uses : (l : Letter) (place : ℕ) (rs : List Record) → Uses rs (meaning l place rs)
unfolding meaning
meaning-uses l place rs =
    or-uses rs (identifier_means l.identifier rs) _ (found-used l.identifier rs)
    (pick_elim (Uses rs) (has_elements l.body l.carrier) (λ t. elements-use l rs) (λ f. place-uses l.identifier place rs))

pub named-uses : (name : Name) (rs : List Record) → Uses rs (named name rs)
unfolding named
named-uses name rs =
    or-uses rs (identifier_means name.identifier rs) _ (found-used name.identifier rs) (place-uses name.identifier name.place rs)
