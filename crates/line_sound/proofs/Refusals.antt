-- A refusal leaves the desk as it was: of the decisions only a refusal makes a plan that refuses, and its plan changes nothing and only replies; what the entry refuses hands the desk back.
use Rattle.std.specs.Prelude.{None, Ok, Err, Result, Some}
use Prim.Native.Nat.{ℕ, ◌*◌, ◌/◌}
use mathlib.Core.Path.{◌≡◌, refl, ap, ◌∙◌}
use mathlib.Core.Bool.{Bool}
use mathlib.Core.List.{List}
use lib.ListN.{length, replicate}
use lib.Dec.{leb, eqb}
use Rattle.lists.proofs.Choice.{pick_elim}
use Rattle.message.specs.declared.refusal.Refusal.{Refusal}
use Rattle.std.proofs.lemmas.Option.{none-some}
use Rattle.desk.specs.Outcome.{refused_with}
use Rattle.desk.specs.declared.outcome.Outcome.{Outcome}
use Rattle.desk.specs.Sends.{answered}
use Rattle.line_table.specs.Inputs.{names_of}
use Rattle.line_table.specs.Step.{row_taken}
use Rattle.line_table.specs.declared.record.Decision.{Decision}
use Rattle.line_table.specs.declared.record.Decision.TheVariants.{Refuse, Deny, Take, Store, Report}
use Rattle.desk.specs.declared.plan.Plan.{Plan}
use Rattle.line_table.specs.declared.record.Change.{Change}
use Rattle.line_table.specs.declared.record.Change.TheVariants.{Stay}
use Rattle.line_table.specs.declared.inputs.Input.{Input}
use Rattle.line_records.specs.Layout as Layout
use Rattle.line_records.specs.Lines.{with_settings}
use Rattle.line_records.specs.Change.{applied}
use Rattle.line_records.specs.Deadlines.{timed}
use Rattle.line_plan.specs.Decide.{decided}
use Rattle.line_plan.specs.Plan.{plan_of, plan_for}
use Rattle.line.specs.Entry.{bytes_entry}
use Rattle.line.specs.Start.{given_width, Lines, stored, bad, take_lines, started_by, started}
use Rattle.line.specs.Steps.{made, step, entered, received_bytes}
use Rattle.line.specs.declared.Desk.{Desk}
use Rattle.desk.specs.declared.outcome.Stepped.{Stepped}
use Rattle.line_sound.specs.Sound.{Same, RefusedSame}

-- ---- a step
-- a plan that refuses stays
abbrev OnlyReplies : Refusal → Plan Change → Type 0
OnlyReplies refusal plan = (plan.change ≡ Stay) × (plan.outcome ≡ refused_with refusal plan.outcome.sending)

refused-stays : (ws : List ℕ) (input : Input) (decision : Decision) (refusal : Refusal) → (plan_of ws input decision).outcome.refusal ≡ Some refusal → OnlyReplies refusal (plan_of ws input decision)
unfolding plan_of row_taken
refused-stays ws input (Refuse told reply) refusal e = (refl, (let same : told ≡ refusal = cc in ap (λ (x : Refusal). refused_with x (answered (names_of input).identifier reply)) same))
refused-stays ws input (Deny error) refusal e = absurd (none-some refusal e)
refused-stays ws input (Take i row) refusal e = absurd (none-some refusal e)
refused-stays ws input (Store i q busy) refusal e = absurd (none-some refusal e)
refused-stays ws input (Report k busy) refusal e = absurd (none-some refusal e)

-- so its words are those before, and it starts nothing
only_same : (d : Desk) (count : ℕ) (plan : Plan Change) (refusal : Refusal) → OnlyReplies refusal plan → (made d count plan).desk ≡ d
unfolding applied timed
only_same d count plan refusal only =
    ap (λ (c : Change). record { words = timed count plan.outcome.at plan.outcome.starts (applied d.words c) }) only.0
    ∙ ap (λ (o : Outcome). record { words = timed count o.at o.starts d.words }) only.1

same_step : (d : Desk) (count : ℕ) (input : Input) → Same d (step d count input).desk (step d count input).outcome
unfolding step plan_for
same_step d count input refusal e =
    let only = refused-stays d.words input (decided d.words input) refusal e in
    (only_same d count (plan_of d.words input (decided d.words input)) refusal only, only.1)

same-entered : (d : Desk) (count : ℕ) (entry : Result Input Refusal) → Same d (entered d count entry).desk (entered d count entry).outcome
unfolding entered
same-entered d count (Err told) = λ refusal e. (refl, (let same : told ≡ refusal = cc in ap (λ (x : Refusal). refused_with x None) same))
same-entered d count (Ok input) = same_step d count input

same_bytes :
    (d : Desk) (count : ℕ) (bytes : List ℕ) (place : ℕ) → Same d (received_bytes d count bytes place).desk (received_bytes d count bytes place).outcome
unfolding received_bytes
same_bytes d count bytes place = same-entered d count (bytes_entry bytes place).entry

-- ---- a start
abbrev Blank : Stepped Desk → Type 0
Blank step = (step.outcome.refusal ≡ None → ⊥) → step.desk.words ≡ replicate Layout.words 0

blank-lines : (ls : Lines) → Blank (started_by ls)
blank-lines (stored ws) = λ never. absurd (never refl)
blank-lines bad = λ never. refl

blank-start : (given : List ℕ) (keep retain : Bool) → Blank (started given keep retain)
unfolding started
blank-start given keep retain =
    pick_elim Blank (leb (length given / given_width) Layout.line_places)
    (λ h.
    pick_elim Blank (eqb (length given / given_width * given_width) (length given))
    (λ g. blank-lines (take_lines (length given / given_width) 0 given (with_settings (replicate Layout.words 0) keep retain)))
    (λ g never. refl))
    (λ h never. refl)

pub refused-same : RefusedSame
refused-same = record { steps = same-entered; bytes = same_bytes; starts = blank-start }
