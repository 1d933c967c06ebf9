-- The operations of the clerk's desk, each on every desk and at every count of seconds: the desk afterwards and the outcome. An input's step is what the desk plans for it, made on its words.
use Rattle.std.specs.Prelude.{ℕ, Bool, List, Ok, Err, Result}
use Rattle.message.specs.declared.Message.{Message}
use Rattle.message.specs.declared.refusal.Refusal.{Refusal}
use Rattle.desk.specs.Steps.{refused_step, read_step}
use Rattle.terms.specs.declared.request.Name.{Name}
use Rattle.clerk_table.specs.declared.table.Timer.{Timer}
use Rattle.desk.specs.declared.plan.Plan.{Plan}
use Rattle.clerk_table.specs.declared.inputs.Act.{Act}
use Rattle.clerk_table.specs.declared.inputs.Input.{Input}
use Rattle.clerk_records.specs.Records.{records, applied}
use Rattle.clerk_records.specs.Deadlines.{timed}
use Rattle.clerk_plan.specs.Plan.{plan_for}
use Rattle.clerk.specs.Entry.{ask_entry, message_entry, act_entry, timer_entry, bytes_entry}
use Rattle.clerk.specs.declared.Desk.{Desk}
use Rattle.clerk.specs.declared.entry.Asking.{Asking}
use Rattle.desk.specs.declared.outcome.Stepped.{Stepped}
use Rattle.desk.specs.declared.outcome.SteppedBytes.{SteppedBytes}
use Rattle.clerk_table.specs.declared.record.Change.{Change}

-- the desk of these words
abbrev pub desk_of : List ℕ → Desk
desk_of words = record { words = words }

-- ---- a step
-- a plan made on a desk at a count of seconds: the words that it changes, with the deadlines of the timers that it starts, and the outcome
abbrev pub made : Desk → ℕ → Plan Change → Stepped Desk
made d count plan =
    record { desk = record { words = timed count plan.outcome.at plan.outcome.starts (applied d.words plan.change) }; outcome = plan.outcome }

unfoldable pub step : Desk → ℕ → Input → Stepped Desk
step d count input = made d count (plan_for (records d.words) input)

-- what comes in at the entry
unfoldable pub entered : Desk → ℕ → Result Input Refusal → Stepped Desk
entered d count (Err refusal) = refused_step d refusal
entered d count (Ok input) = step d count input

-- ---- document 01's inputs, by name
-- an ask: 2, 4, 5
abbrev pub asked : Desk → ℕ → Asking → Stepped Desk
asked d count a = entered d count (ask_entry a)

-- a message received, with the host's word on User A and the place that the host names for it: 2, 3, 6, 7, 8
abbrev pub received : Desk → ℕ → Message → Bool → ℕ → Stepped Desk
received d count m busy place = entered d count (message_entry m busy place)

-- User A's act: 6, 7
abbrev pub acted : Desk → ℕ → Name → Act → Stepped Desk
acted d count name act = entered d count (act_entry name act)

-- a timer that ran out at the host: 6, 9
abbrev pub reported : Desk → ℕ → Name → Timer → Stepped Desk
reported d count name timer = entered d count (timer_entry name timer)

-- raw bytes: the reader's 1 and 2 change nothing, and tell the place of the fault
unfoldable pub received_bytes : Desk → ℕ → List ℕ → Bool → ℕ → SteppedBytes Desk
received_bytes d count bytes busy place = read_step (entered d count) (bytes_entry bytes busy place)
