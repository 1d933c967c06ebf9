-- A plan at the line desk, by the place that it is about: what it does there, and that it keeps the settings. So a plan that answers as the reading says is a step as the reading says.
use Rattle.std.specs.Prelude.{Option, Some, None}
use Prim.Native.Nat.{ℕ}
use mathlib.Core.Path.{◌≡◌, refl, sym, ap, ◌∙◌, subst}
use mathlib.Core.Bool.{Bool, true}
use mathlib.Core.List.{List}
use lib.ListN.{length, get_or}
use Rattle.desk.specs.declared.sends.Elements.{Elements}
use Rattle.places.specs.Places as P
use Rattle.line_table.specs.Search.{used}
use Rattle.line_table.specs.Step.{changed, row_taken}
use Rattle.line_table.specs.Table.{effect_of}
use Rattle.line_table.specs.declared.table.Row.{Row}
use Rattle.desk.specs.declared.plan.Next.{Next}
use Rattle.desk.specs.declared.plan.Next.TheVariants.{Gone, Same, To}
use Rattle.line_table.specs.declared.record.Record.{Record}
use Rattle.line_table.specs.declared.record.Change.{Change}
use Rattle.line_table.specs.declared.record.Change.TheVariants.{Stay}
use Rattle.desk.specs.declared.plan.Plan.{Plan}
use Rattle.line_records.specs.Layout as Layout
use Rattle.line_records.specs.Records.{blank, records}
use Rattle.line_records.specs.Change.{records_after}
use Rattle.line.proofs.StepsLaws.{records-made, keeps-made, retains-made}
use Rattle.line.specs.Steps.{made}
use Rattle.line.specs.declared.Desk.{Desk}
use Rattle.line_sound.specs.Sound.{Reached}
use Rattle.pair_request.specs.Reading as R
use Rattle.pair.specs.World.{Of, line_change, storing}
use Rattle.pair.proofs.Ends.{line_sight, line_read, policy_of, LineStep}
use Rattle.pair.proofs.Sits.{there, Its, Touches, by_turn, by_removal}
use Rattle.pair.proofs.Changes.{Own, turns, removes, own-did}
use Rattle.pair.proofs.Grounds.{line-full}
use Rattle.pair.proofs.LineRows.{leaves, Answers, answers}
use Rattle.line_table.specs.declared.table.State.{State}

pub policy-kept : (d : Desk) (count : ℕ) (plan : Plan Change) → length d.words ≡ Layout.words → policy_of (made d count plan).desk.words ≡ policy_of d.words
policy-kept d count plan full =
    rw (
      keeps-made d.words plan.change full count plan.outcome.at plan.outcome.starts,
      retains-made d.words plan.change full count plan.outcome.at plan.outcome.starts,
    )

-- what is read is used and has the identifier
pub line-its : (j : Elements) (active : Bool) (l : R.Line) → Its line_sight j (line_read j active l)
line-its j active R.none = tt
line-its j active (R.holds t own R.idle) = (refl, refl)
line-its j active (R.holds t own (R.await m)) = (refl, refl)
line-its j active (R.holds t own R.alert) = (refl, refl)

-- ---- a plan, by what is read at the place that it is about
abbrev pub OwnChange : List Record → Option ℕ → Change → Type 0
OwnChange rs f change = Own line_sight rs f (line_change change) (records_after rs change) (leaves change (there line_sight rs f))

pub plan-step :
    (d : Desk) → Reached d → (count : ℕ) (given : Of Elements) (f : Option ℕ) (j : Elements) (plan : Plan Change) (answer : R.LAnswer) (l : R.Line) (b : Bool) → OwnChange (records d.words) f plan.change →
    there line_sight (records d.words) f ≡ line_read j b l → Answers plan j b l answer → ((i : ℕ) → line_change plan.change ≡ storing i → given.it ≡ j) →
    LineStep d count given f plan j answer
plan-step d reached count given f j plan answer l b own h (answers after left sent) came =
    let rs = records d.words in
    let touch = line_change plan.change in
    let whole : Own line_sight rs f touch (records (made d count plan).desk.words) (line_read j after answer.0) =
    subst (λ (xs : List Record). Own line_sight rs f touch xs (line_read j after answer.0)) (sym (records-made d.words plan.change (line-full reached) count plan.outcome.at plan.outcome.starts))
    (subst (λ (x : P.Held Record). Own line_sight rs f touch (records_after rs plan.change) x) (ap (leaves plan.change) h ∙ left) own) in
    record { active = after; did = own-did line_sight rs j given whole (subst (Its line_sight j) (sym h) (line-its j b l)) (line-its j after answer.0) came; sends = sent }

-- ---- a row taken for the record at a place
pub own-row : (rs : List Record) (i : ℕ) (r : Record) (row : Row) → OwnChange rs (Some i) (row_taken i r row).change
unfolding row_taken
own-row rs i r row = by (effect_of row).next
  where
    by : (next : Next State) → OwnChange rs (Some i) (changed next (effect_of row) i r)
    by Gone = removes i
    by Same = turns i _
    by (To state) = turns i _

pub touches_row : (i : ℕ) (r : Record) (row : Row) → Touches i (line_change (row_taken i r row).change)
unfolding row_taken
touches_row i r row = by (effect_of row).next
  where
    by : (next : Next State) → Touches i (line_change (changed next (effect_of row) i r))
    by Gone = by_removal
    by Same = by_turn
    by (To state) = by_turn

-- ---- an act, the guard's report, a Look: refused without a word, or taken for the record at a place
pub data Acted (rs : List Record) (x : R.LAct) (plan : Plan Change) : Type 0 where
  refuses : plan.change ≡ Stay → plan.outcome.at ≡ None → plan.outcome.sending ≡ None → Acted rs x plan
  takes-row :
      (i : ℕ) → used (get_or rs i blank) ≡ true → Touches i (line_change plan.change) → OwnChange rs (Some i) plan.change →
      ((j : Elements) (l : R.Line) (b : Bool) → P.one (get_or rs i blank) ≡ line_read j b l → Answers plan j b l (R.line_acts l x)) → Acted rs x plan
