-- What the clerk's desk decides about each input, by the list of records: the refusals in document 01's order, then the row of the table. And what it plans: the change and the outcome that a decision means.
use Rattle.std.specs.Prelude.{ℕ, Bool, false, List, get_or, Option, Some, None}
use Rattle.lists.specs.Choice.{pick}
use Rattle.message.specs.declared.refusal.Refusal.{Refusal}
use Rattle.message.specs.declared.refusal.Refusal.TheVariants.{NotHere, Live, Full, NoRecord, NoRow, NotInCarrier, NotRunning}
use Rattle.desk.specs.Carriers.{carrier_fits}
use Rattle.desk.specs.Outcome.{no_timers, done_with}
use Rattle.desk.specs.Sends.{answered}
use Rattle.desk.specs.declared.Connection.TheVariants as Connection
use Rattle.desk.specs.declared.Keep.TheVariants as Keep
use Rattle.desk.specs.declared.letter.Letter.{Letter}
use Rattle.terms.specs.Request.{can_keep_sent, request_terms, request_letter}
use Rattle.terms.specs.declared.means.Means.{Means}
use Rattle.terms.specs.declared.means.Means.TheVariants.{Nothing, NotNow, At}
use Rattle.terms.specs.declared.request.Name.{Name}
use Rattle.terms.specs.declared.request.Names.{Names}
use Rattle.terms.specs.declared.request.Request.{Request}
use Rattle.clerk_table.specs.Table.{home_of, holds_in}
use Rattle.clerk_table.specs.Record.{refused_plan}
use Rattle.clerk_table.specs.Step.{row_taken, only}
use Rattle.clerk_table.specs.Inputs.{names_of, message_for, row_for, row_of_act, row_of_timer, reply_unmatched, reply_unfit, settled_by}
use Rattle.clerk_table.specs.declared.table.State.TheVariants.{WaitAck}
use Rattle.clerk_table.specs.declared.table.Row.{Row}
use Rattle.clerk_table.specs.declared.table.Timer.{Timer}
use Rattle.clerk_table.specs.declared.table.Timer.TheVariants.{T1}
use Rattle.clerk_table.specs.declared.record.Record.{Record}
use Rattle.clerk_table.specs.declared.record.Decision.{Decision}
use Rattle.clerk_table.specs.declared.record.Decision.TheVariants.{Refuse, Take, Store}
use Rattle.clerk_table.specs.declared.record.Change.TheVariants.{Put}
use Rattle.desk.specs.declared.plan.Plan.{Plan}
use Rattle.clerk_table.specs.declared.inputs.Act.{Act}
use Rattle.clerk_table.specs.declared.inputs.Input.{Input}
use Rattle.clerk_table.specs.declared.inputs.RecordMessage.{RecordMessage}
use Rattle.clerk_records.specs.Records.{blank, place}
use Rattle.clerk_records.specs.Meaning.{identifier_means, meaning, named}
use Rattle.clerk_table.specs.declared.record.Change.{Change}

abbrev pub holds_for : Row → Record → Bool
holds_for row r = holds_in (home_of row) r.state r.terms.connection

-- ---- ask: 4, which one without an identifier never is, 5, then stored at the first place that is not used
abbrev pub ask_place : Request → Option ℕ → Decision
ask_place q None = Refuse Full None
ask_place q (Some i) = Store i q

abbrev pub ask_found : List Record → Request → Option ℕ → Decision
ask_found rs q (Some i) = Refuse Live None
ask_found rs q None = ask_place q (place rs)

-- by the record that an ask means, which is one with its identifier
abbrev pub ask_meant : List Record → Request → Means → Decision
ask_meant rs q (At i) = Refuse Live None
ask_meant rs q NotNow = Refuse Live None
ask_meant rs q Nothing = ask_place q (place rs)

abbrev pub ask_decision : List Record → Names → Request → Decision
ask_decision rs names q = ask_found rs q (identifier_means names.identifier rs)

-- ---- messages: 3, 6, 7, 8
-- the record's state has no row for this input: 7; then the carrier isn't allowed for this type and record: 8
abbrev pub row_decision : ℕ → Record → Letter → RecordMessage → Row → Decision
row_decision i r l message row =
    pick (holds_for row r)
    (pick (carrier_fits l.body r.terms.connection l.carrier)
    (Take i row)
    (Refuse NotInCarrier (reply_unfit message l.carrier)))
    (Refuse NoRow (reply_unfit message l.carrier))

abbrev pub record_decision : ℕ → Record → Letter → Bool → RecordMessage → Decision
record_decision i r l busy message = row_decision i r l message (row_for message busy r.terms.keep r.terms.kind)

-- no record is meant: 6; some fit, and none is in a state that the message is for: 7
abbrev pub message_found : List Record → Letter → Bool → RecordMessage → Means → Decision
message_found rs l busy message Nothing = Refuse NoRecord (reply_unmatched message)
message_found rs l busy message NotNow = Refuse NoRow (reply_unfit message l.carrier)
message_found rs l busy message (At i) = record_decision i (get_or rs i blank) l busy message

abbrev pub message_meant : List Record → Letter → Bool → Means → Option RecordMessage → Decision
message_meant rs l busy means None = Refuse NotHere None
message_meant rs l busy means (Some message) = message_found rs l busy message means

abbrev pub message_decision : List Record → Letter → Bool → ℕ → Decision
message_decision rs l busy place = message_meant rs l busy (meaning l place rs) (message_for l.body)

-- ---- acts: 6, 7; timers: 6, 9. A name fits nothing, so it never means "not now"
abbrev pub own_found : List Record → Row → Refusal → Means → Decision
own_found rs row refusal Nothing = Refuse NoRecord None
own_found rs row refusal NotNow = Refuse refusal None
own_found rs row refusal (At i) = pick (holds_for row (get_or rs i blank)) (Take i row) (Refuse refusal None)

abbrev pub act_decision : List Record → Name → Act → Decision
act_decision rs name act = own_found rs (row_of_act act) NoRow (named name rs)

abbrev pub timer_decision : List Record → Name → Timer → Decision
timer_decision rs name timer = own_found rs (row_of_timer timer) NotRunning (named name rs)

-- ---- every input
unfoldable pub decided : List Record → Input → Decision
decided rs (Input.Ask names q) = ask_decision rs names q
decided rs (Input.Message l busy place) = message_decision rs l busy place
decided rs (Input.Act name act) = act_decision rs name act
decided rs (Input.Timer name timer) = timer_decision rs name timer

-- ---- what a decision means
-- a new record is in Wait-Ack, its choices empty, with the can-keep that is sent
abbrev pub new_record : Names → Request → Record
new_record names q = record { terms = request_terms names q Keep.Empty Connection.Empty; state = WaitAck; canKeep = can_keep_sent q.flags; down = false }

-- the request is sent, T1 starts (8.1.1.1 to 8.1.1.3, 11.4.1)
abbrev pub stored_plan : ℕ → Names → Request → Plan Change
stored_plan i names q = record { change = Put i (new_record names q); outcome = done_with (Some (request_letter names q)) (only T1) no_timers (Some i) }

-- the row finds the record with the choices that a result brings
abbrev pub taken_plan : List Record → Input → ℕ → Row → Plan Change
taken_plan rs input i row = row_taken i (settled_by input (get_or rs i blank)) row

unfoldable pub plan_of : List Record → Input → Decision → Plan Change
plan_of rs input (Refuse refusal reply) = refused_plan refusal (answered (names_of input).identifier reply)
plan_of rs input (Take i row) = taken_plan rs input i row
plan_of rs input (Store i q) = stored_plan i (names_of input) q

unfoldable pub plan_for : List Record → Input → Plan Change
plan_for rs input = plan_of rs input (decided rs input)
