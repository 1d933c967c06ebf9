-- The operations of the line desk, each on every desk and at every count of seconds: the desk afterwards and the outcome.
use Rattle.std.specs.Prelude.{ℕ, Bool, List, Ok, Err, Result}
use Rattle.message.specs.declared.Message.{Message}
use Rattle.message.specs.declared.refusal.Refusal.{Refusal}
use Rattle.desk.specs.Steps.{refused_step, read_step}
use Rattle.terms.specs.declared.request.Name.{Name}
use Rattle.desk.specs.declared.plan.Plan.{Plan}
use Rattle.line_table.specs.declared.inputs.Act.{Act}
use Rattle.line_table.specs.declared.inputs.Input.{Input}
use Rattle.line_records.specs.Change.{applied}
use Rattle.line_records.specs.Deadlines.{timed}
use Rattle.line_plan.specs.Plan.{plan_for}
use Rattle.line.specs.Entry.{message_entry, act_entry, guard_entry, report_entry, look_entry, bytes_entry}
use Rattle.line.specs.declared.Desk.{Desk}
use Rattle.desk.specs.declared.outcome.Stepped.{Stepped}
use Rattle.desk.specs.declared.outcome.SteppedBytes.{SteppedBytes}
use Rattle.line_table.specs.declared.record.Change.{Change}

-- the desk of these words
abbrev pub desk_of : List ℕ → Desk
desk_of words = record { words = words }

-- ---- the one door: an input's step is its plan, made on the desk
-- a plan made on a desk at a count of seconds: the words that it changes, with the deadline of the guard that it starts, and the outcome
abbrev pub made : Desk → ℕ → Plan Change → Stepped Desk
made d count plan =
    record { desk = record { words = timed count plan.outcome.at plan.outcome.starts (applied d.words plan.change) }; outcome = plan.outcome }

unfoldable pub step : Desk → ℕ → Input → Stepped Desk
step d count input = made d count (plan_for d.words input)

unfoldable pub entered : Desk → ℕ → Result Input Refusal → Stepped Desk
entered d count (Err refusal) = refused_step d refusal
entered d count (Ok input) = step d count input

-- ---- document 01's inputs, by name
-- a message received, with the place that the host names for it: 2, 3, 6, 7, 8; a request 2, 8, then the completed steps long, short, accepted
abbrev pub received : Desk → ℕ → Message → ℕ → Stepped Desk
received d count m place = entered d count (message_entry m place)

-- a line report: 10; a Look: 10, 11; bad digits are 10
abbrev pub line_reported : Desk → ℕ → List ℕ → Bool → Stepped Desk
line_reported d count digits busy = entered d count (report_entry digits busy)

abbrev pub looked : Desk → ℕ → List ℕ → Stepped Desk
looked d count digits = entered d count (look_entry digits)

-- acts: 6, 7; the guard: 6
abbrev pub acted : Desk → ℕ → Name → Act → Stepped Desk
acted d count name act = entered d count (act_entry name act)

abbrev pub guard_reported : Desk → ℕ → Name → Stepped Desk
guard_reported d count name = entered d count (guard_entry name)

-- raw bytes: the reader's refusals change nothing, and tell the place of the fault; else the message's step, and the first unread place
unfoldable pub received_bytes : Desk → ℕ → List ℕ → ℕ → SteppedBytes Desk
received_bytes d count bytes place = read_step (entered d count) (bytes_entry bytes place)
