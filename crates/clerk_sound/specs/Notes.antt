-- What is noted beside each place of the clerk's desk over true time (document 02, Ask 6), to say what its timers promise: when each was started, for how many seconds, and when a tick heeded the record last.
use Rattle.std.specs.Prelude.{ℕ, zero, suc, Bool, List, [], ◌∷◌, get_or, set, Option, Some, None, Ok, Err, Result}
use Rattle.lists.specs.Choice.{pick}
use Rattle.lists.specs.Lists.{without}
use Rattle.message.specs.declared.Kind.{Kind}
use Rattle.message.specs.declared.Kind.TheVariants.{Ccbs, Ccnr}
use Rattle.message.specs.declared.refusal.Refusal.{Refusal}
use Rattle.clerk_table.specs.declared.inputs.Input.{Input}
use Rattle.desk.specs.declared.outcome.Timers.{Timers}
use Rattle.places.specs.Notes.{Note, unstarted, started}
use Rattle.clerk_table.specs.Step.{in_ringout}
use Rattle.clerk_table.specs.declared.table.Timer.{Timer}
use Rattle.clerk_table.specs.declared.table.Timer.TheVariants.{T1, T2, T3}
use Rattle.clerk_table.specs.declared.record.Record.{Record}
use Rattle.desk.specs.declared.plan.Plan.{Plan}
use Rattle.clerk_table.specs.declared.record.Change.{Change}
use Rattle.clerk_table.specs.declared.record.Change.TheVariants.{Stay, Put, Turn, Remove}
use Rattle.clerk_records.specs.Layout as Layout
use Rattle.clerk_records.specs.Records.{blank, records, records_after}
use Rattle.clerk_records.specs.Deadlines.{expiring_at}
use Rattle.clerk_plan.specs.Plan.{plan_for}
use Rattle.clerk.specs.Steps.{step}
use Rattle.clerk.specs.Ticks.{report, by_timer}
use Rattle.clerk.specs.declared.start.Lengths.{Lengths}
use Rattle.clerk.specs.declared.Desk.{Desk}

-- of a place: each timer of its record, and when a tick heeded the record last. In Ringout none heeds it; and where none has yet, it is the time of its storing
pub record Notes : Type 0 where
  pub t1 : Note
  pub t2 : Note
  pub t3 : Note
  pub heeded : ℕ

abbrev pub new_notes : ℕ → Notes
new_notes now = record { t1 = unstarted; t2 = unstarted; t3 = unstarted; heeded = now }

abbrev pub no_notes : Notes
no_notes = new_notes 0

abbrev pub note_in : Notes → Timer → Note
note_in n T1 = n.t1
note_in n T2 = n.t2
note_in n T3 = n.t3

abbrev pub with_note : Timer → Note → Notes → Notes
with_note T1 note n = record { t1 = note; t2 = n.t2; t3 = n.t3; heeded = n.heeded }
with_note T2 note n = record { t1 = n.t1; t2 = note; t3 = n.t3; heeded = n.heeded }
with_note T3 note n = record { t1 = n.t1; t2 = n.t2; t3 = note; heeded = n.heeded }

abbrev pub heeded_now : ℕ → Notes → Notes
heeded_now now n = record { t1 = n.t1; t2 = n.t2; t3 = n.t3; heeded = now }

-- ---- a step
-- a record that is stored has new notes; those behind one that is removed move up
abbrev pub notes_moved : Change → ℕ → List Notes → List Notes
notes_moved Stay now ns = ns
notes_moved (Put i r) now ns = set ns i (new_notes now)
notes_moved (Turn i t) now ns = ns
notes_moved (Remove i) now ns = without no_notes ns i

-- the lengths are those of the start, T2's by the kind that the record has then
abbrev pub seconds_of : Lengths → Timer → Kind → ℕ
seconds_of l T1 kind = l.t1
seconds_of l T2 Ccbs = l.t2Ccbs
seconds_of l T2 Ccnr = l.t2Ccnr
seconds_of l T3 kind = l.t3

abbrev pub notes_if : Bool → ℕ → Timer → Note → List Notes → List Notes
notes_if starts i timer note ns = pick starts (set ns i (with_note timer note (get_or ns i no_notes))) ns

-- each timer that a step starts is noted, at the place that its outcome tells
abbrev pub notes_started : Lengths → ℕ → Option ℕ → Timers → List Record → List Notes → List Notes
notes_started l now None starts rs ns = ns
notes_started l now (Some i) starts rs ns =
    notes_if starts.t3 i T3 (started now (seconds_of l T3 (get_or rs i blank).terms.kind))
    (notes_if starts.t2 i T2 (started now (seconds_of l T2 (get_or rs i blank).terms.kind))
    (notes_if starts.t1 i T1 (started now (seconds_of l T1 (get_or rs i blank).terms.kind)) ns))

-- by the plan that is made on these records
abbrev pub notes_after : Lengths → List Record → Plan Change → ℕ → List Notes → List Notes
notes_after l rs plan now ns =
    notes_started l now plan.outcome.at plan.outcome.starts (records_after rs plan.change) (notes_moved plan.change now ns)

-- bytes that are read are the step of an input, or refused
abbrev pub notes_entered : Lengths → Desk → Result Input Refusal → ℕ → List Notes → List Notes
notes_entered l d (Err refusal) now ns = ns
notes_entered l d (Ok input) now ns = notes_after l (records d.words) (plan_for (records d.words) input) now ns

-- ---- a tick: with a record that expires go its notes
-- n places are left to look at, the next is place `at`, as in `ticking`
unfoldable pub notes_left_from : ℕ → ℕ → ℕ → Desk → List Notes → List Notes
notes_left_from zero at count d ns = ns
notes_left_from (suc n) at count d ns =
    by_timer (expiring_at count d.words at)
    (λ timer. notes_left_from n at count (step d count (report at timer)).desk (without no_notes ns at))
    (notes_left_from n (suc at) count d ns)

abbrev pub notes_left : Desk → ℕ → List Notes → List Notes
notes_left d count ns = notes_left_from Layout.places 0 count d ns

-- and it heeds every record that is left and is not in Ringout
unfoldable pub notes_ticked : ℕ → List Record → List Notes → List Notes
notes_ticked now [] ns = ns
notes_ticked now (r ∷ rs) [] = []
notes_ticked now (r ∷ rs) (n ∷ ns) = pick (in_ringout r.state) n (heeded_now now n) ∷ notes_ticked now rs ns
