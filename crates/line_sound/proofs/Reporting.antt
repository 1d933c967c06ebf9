-- What a line report changes: the decision of a report that is not refused, and what its change is for records and lines.
use Rattle.std.specs.Prelude.{Option, Some, None}
use Prim.Native.Nat.{ℕ}
use mathlib.Core.Path.{◌≡◌, refl, ap, ◌∙◌, sym}
use mathlib.Core.Bool.{Bool, true, false}
use mathlib.Core.List.{List, [], ◌∷◌, map}
use lib.ListN.{length, get_or, set}
use native.Mathlib.Omega.{arith}
use Rattle.lists.specs.Choice.{pick}
use Rattle.lists.specs.Lists.{both}
use Rattle.lists.specs.declared.words.Words.{Words}
use Rattle.message.specs.declared.refusal.Refusal.TheVariants.{NoLine}
use Rattle.std.proofs.lemmas.Option.{none-some}
use Rattle.desk.specs.Outcome.{no_timers}
use Rattle.line_table.specs.Line.{with_status}
use Rattle.line_table.specs.Search.{marks}
use Rattle.line_table.specs.Record.{activated}
use Rattle.line_table.specs.declared.record.Record.{Record}
use Rattle.line_table.specs.declared.record.Change.TheVariants.{Report}
use Rattle.line_table.specs.declared.inputs.Input.TheVariants as Input
use Rattle.line_records.specs.Layout as Layout
use Rattle.line_records.specs.Records.{records}
use Rattle.line_records.specs.Lines.{no_line, lines, line_at}
use Rattle.line_records.specs.Change.{marking}
use Rattle.line.proofs.StepsLaws.{records-made, lines-made}
use Rattle.line_plan.specs.Decide.{report_found, report_decision, decided}
use Rattle.line_plan.specs.Plan.{plan_of, plan_for}
use Rattle.line.specs.Steps.{made, step}
use Rattle.line.specs.declared.Desk.{Desk}
use Rattle.line_sound.specs.Sound.{Reports}

-- every record, with its mark if the line is busy
abbrev marked : Words → Bool → List Record → List Record
marked number busy rs = map (λ r. pick (both busy (marks number r)) (activated r) r) rs

map_same : (rs : List Record) → rs ≡ map (λ r. r) rs
map_same [] = refl
map_same (r ∷ rs) = ap (λ (t : List Record). r ∷ t) (map_same rs)

marked-busy : (number : Words) (busy : Bool) (rs : List Record) → pick busy (map (marking number) rs) rs ≡ marked number busy rs
marked-busy number true rs = refl
marked-busy number false rs = map_same rs

module _ (d : Desk) (count : ℕ) (number : Words) (busy : Bool) (full : length d.words ≡ Layout.words) where
  marks-found :
      (f : Option ℕ) → (plan_of d.words (Input.Report number busy) (report_found busy f)).outcome.refusal ≡ None →
      records (made d count (plan_of d.words (Input.Report number busy) (report_found busy f))).desk.words ≡ marked number busy (records d.words)
  unfolding plan_of
  marks-found None taken = absurd (none-some NoLine (sym taken))
  marks-found (Some k) taken = records-made d.words (Report k number busy) full count None no_timers ∙ marked-busy number busy (records d.words)

  report-marks :
      (step d count (Input.Report number busy)).outcome.refusal ≡ None →
      records (step d count (Input.Report number busy)).desk.words ≡ marked number busy (records d.words)
  unfolding step plan_for decided report_decision
  report-marks = marks-found (line_at number (lines d.words))

report-status :
    (d : Desk) (count : ℕ) (number : Words) (busy : Bool) (k : ℕ) → length d.words ≡ Layout.words → line_at number (lines d.words) ≡ Some k →
    lines (step d count (Input.Report number busy)).desk.words ≡ set (lines d.words) k (with_status (get_or (lines d.words) k no_line) busy)
unfolding step plan_for plan_of decided report_decision
report-status d count number busy k full its = rw its (lines-made d.words (Report k number busy) full count None no_timers)

pub reports : Reports
reports = record { marks = report-marks; status = report-status }
