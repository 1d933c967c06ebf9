-- One request's records and messages, read in the words of crate pair_request; and what it is for a step of a desk to do what the reading says.
use Rattle.lists.specs.declared.words.Words.{Words}
use Rattle.std.specs.Prelude.{Option, None, is_none}
use Prim.Native.Nat.{ℕ, ◌/◌, ◌<◌}
use mathlib.Core.Path.{◌≡◌}
use mathlib.Core.Bool.{Bool, true, false}
use mathlib.Core.List.{List, map}
use Rattle.lists.specs.Choice.{pick}
use Rattle.lists.specs.Words.{bytes_of}
use Rattle.message.specs.Number.{digits_in_range}
use Rattle.message.specs.Format.{has_elements, in_range}
use Rattle.message.specs.declared.Carrier.TheVariants as Carrier
use Rattle.message.specs.declared.Body.TheVariants as Body
use Rattle.message.specs.declared.Kind.{Kind}
use Rattle.message.specs.declared.Message.{Message}
use Rattle.desk.specs.Letter.{identifier_of, is_identified, identifier_words, number_words, letter_of, message_of}
use Rattle.desk.specs.Sends.{plain_letter, record_letter}
use Rattle.desk.specs.declared.Connection.{Connection}
use Rattle.desk.specs.declared.Keep.{Keep}
use Rattle.desk.specs.declared.letter.Letter.{Letter}
use Rattle.desk.specs.declared.outcome.Outcome.{Outcome}
use Rattle.desk.specs.declared.plan.Plan.{Plan}
use Rattle.desk.specs.declared.sends.Elements.{Elements}
use Rattle.terms.specs.Request.{can_keep_sent, request_letter}
use Rattle.terms.specs.Terms.{elements_of}
use Rattle.terms.specs.declared.Terms.{Terms}
use Rattle.terms.specs.declared.request.Names.{Names}
use Rattle.terms.specs.declared.request.Request.{Request}
use Rattle.places.specs.Places as P
use Rattle.clerk_table.specs.declared.table.State as ClerkStates
use Rattle.clerk_table.specs.declared.table.State.TheVariants as ClerkState
use Rattle.clerk_table.specs.declared.record.Record as ClerkRecord
use Rattle.clerk_records.specs.Records as ClerkRecords
use Rattle.clerk.specs.Entry.{ask_flags}
use Rattle.clerk_table.specs.declared.record.Change as ClerkChanges
use Rattle.clerk.specs.Steps as ClerkSteps
use Rattle.clerk.specs.declared.Desk as ClerkDesk
use Rattle.line_table.specs.declared.table.State as LineStates
use Rattle.line_table.specs.declared.table.State.TheVariants as LineState
use Rattle.line_table.specs.declared.record.Record as LineRecord
use Rattle.line_table.specs.declared.inputs.Act as LineActs
use Rattle.line_table.specs.declared.inputs.Act.TheVariants as LineAct
use Rattle.line_records.specs.Records as LineRecords
use Rattle.line_records.specs.Lines.{keeps, retains}
use Rattle.line_table.specs.declared.record.Change as LineChanges
use Rattle.line.specs.Steps as LineSteps
use Rattle.line.specs.declared.Desk as LineDesk
use Rattle.line_table.specs.Search as LineSearch
use Rattle.pair_request.specs.Reading as R
use Rattle.pair.specs.World.{Of, clerk_change, line_change, sent_by}
use Rattle.pair.proofs.Sits.{Sight, Did}

-- a step that is not refused
abbrev pub done : Outcome → Bool
done outcome = is_none outcome.refusal

-- ---- choices and states
abbrev pub keep_read : Bool → Keep
keep_read true = Keep.Keeps
keep_read false = Keep.Ends

abbrev pub conn_read : R.Conn → Connection
conn_read R.ret = Connection.Ret
conn_read R.rls = Connection.Rls

abbrev pub clerk_state_read : R.CState → ClerkStates.State
clerk_state_read R.invoked = ClerkState.Invoked
clerk_state_read R.wait_answer = ClerkState.WaitAnswer
clerk_state_read R.ringing = ClerkState.Ringout
clerk_state_read R.suspended = ClerkState.Suspended

abbrev pub line_state_read : R.LState → LineStates.State
line_state_read R.idle = LineState.Invoked
line_state_read (R.await m) = LineState.Await
line_state_read R.alert = LineState.Alert

abbrev pub suspended_read : R.LState → Bool
suspended_read R.idle = false
suspended_read (R.await m) = m
suspended_read R.alert = false

-- ---- how a record of each desk is looked at
abbrev pub clerk_sight : Sight ClerkRecord.Record
clerk_sight = record { used = ClerkRecords.used; elements = λ r. elements_of r.terms; blank = ClerkRecords.blank }

abbrev pub line_sight : Sight LineRecord.Record
line_sight = record { used = LineSearch.used; elements = λ r. elements_of r.terms; blank = LineRecords.blank }

-- ---- what an end holds of the request with these elements: its identifier or none, its numbers and service
abbrev pub terms_read : Elements → Kind → Keep → Connection → Terms
terms_read e kind keep connection =
    record {
      identifier = e.identifier;
      numberA = e.numberA;
      numberB = e.numberB;
      service = e.service;
      kind = kind;
      keep = keep;
      connection = connection;
    }

-- once the choices are made they are the same at both ends
abbrev pub chosen_read : Elements → R.Terms → Kind → Terms
chosen_read e t kind = terms_read e kind (keep_read (R.keep t)) (conn_read (R.conn t))

abbrev pub waiting_record : Elements → R.Data → Kind → ClerkRecord.Record
waiting_record e d kind = record { terms = terms_read e kind Keep.Empty Connection.Empty; state = ClerkState.WaitAck; canKeep = d.canKeep; down = false }

abbrev pub live_record : Elements → R.Terms → R.Own → R.CState → ClerkRecord.Record
live_record e t own s =
    record { terms = chosen_read e t (R.kind_of own); state = clerk_state_read s; canKeep = (R.asked t).canKeep; down = R.down_of own }

abbrev pub clerk_read : Elements → R.Clerk → P.Held ClerkRecord.Record
clerk_read e R.absent = P.none
clerk_read e (R.waiting d kind) = P.one (waiting_record e d kind)
clerk_read e (R.live t own s) = P.one (live_record e t own s)

-- the activity mark is no part of the reading
abbrev pub line_record : Elements → Bool → R.Terms → R.Own → R.LState → LineRecord.Record
line_record e active t own s =
    record { terms = chosen_read e t (R.kind_of own); state = line_state_read s; active = active; suspended = suspended_read s; down = R.down_of own }

abbrev pub line_read : Elements → Bool → R.Line → P.Held LineRecord.Record
line_read e active R.none = P.none
line_read e active (R.holds t own s) = P.one (line_record e active t own s)

-- ---- its messages
abbrev pub by_conn : {A : Type 0} → R.Conn → A → A → A
by_conn R.ret retained released = retained
by_conn R.rls retained released = released

-- whom a request names, and what it asks for
abbrev pub names_read : Elements → Names
names_read e = record { identifier = e.identifier; numberA = e.numberA; numberB = e.numberB; service = None }

abbrev pub request_read : Elements → R.Data → Kind → ℕ → Request
request_read e d kind q = record { kind = kind; service = e.service; flags = ask_flags d.canKeep q }

abbrev pub letter_read : Elements → R.Msg → Letter
letter_read e (R.request d kind q) = request_letter (names_read e) (request_read e d kind q)
letter_read e (R.result k n) = plain_letter e.identifier (by_conn n Carrier.Connect Carrier.ReleaseComplete) (Body.RequestResult (pick k 1 0))
letter_read e (R.denied short) = plain_letter e.identifier Carrier.ReleaseComplete (Body.RequestError (pick short 1 2))
letter_read e (R.exec n) = record_letter e (by_conn n Carrier.Facility Carrier.Setup) Body.CcExecPossible
letter_read e R.ringout = record_letter e Carrier.Setup Body.CcRingout
letter_read e R.busy_again = plain_letter e.identifier Carrier.ReleaseComplete (Body.RingoutError 1)
letter_read e R.no_match = plain_letter e.identifier Carrier.ReleaseComplete (Body.RingoutError 2)
letter_read e (R.suspend n) = plain_letter e.identifier (by_conn n Carrier.Facility Carrier.ReleaseComplete) Body.CcSuspend
letter_read e (R.resume n) = record_letter e (by_conn n Carrier.Facility Carrier.Setup) Body.CcResume
letter_read e (R.cancel n) = record_letter e (by_conn n Carrier.ReleaseComplete Carrier.Setup) Body.CcCancel
letter_read e R.alerts = plain_letter e.identifier Carrier.Alerting Body.CallAlerts
letter_read e R.failed = plain_letter e.identifier Carrier.ReleaseComplete Body.CallFailed

-- whether it has elements, in Setup
abbrev pub set_of : Elements → R.Msg → Bool
set_of e m = has_elements (letter_read e m).body (letter_read e m).carrier

abbrev pub message_read : Elements → R.Msg → Message
message_read e m = message_of (letter_read e m)

-- a message as it was sent: it is in range, and read as a letter it is the letter that was sent
pub record ClearLetter (l : Letter) : Type 0 where
  pub back : letter_of (message_of l) ≡ l
  pub ranged : in_range (message_of l) ≡ true

abbrev pub Clear : Elements → R.Msg → Type 0
Clear e m = ClearLetter (letter_read e m)

-- an identifier, or none, that its bytes give back
abbrev pub KeptName : Option Words → Type 0
KeptName identifier = identifier_of (is_identified identifier) (bytes_of (identifier_words identifier)) ≡ identifier

-- elements that their bytes give back, in range
pub record Kept (e : Elements) : Type 0 where
  pub identifier : KeptName e.identifier
  pub numberA : number_words (bytes_of e.numberA) ≡ e.numberA
  pub numberB : number_words (bytes_of e.numberB) ≡ e.numberB
  pub range_a : digits_in_range 0 (bytes_of e.numberA) ≡ true
  pub range_b : digits_in_range 1 (bytes_of e.numberB) ≡ true
  pub service : e.service < 16384

-- an ask's elements, its data, and its message
abbrev pub ask_elements : Names → Request → Elements
ask_elements names q = record { identifier = names.identifier; numberA = names.numberA; numberB = names.numberB; service = q.service }

abbrev pub data_of : Request → R.Data
data_of q = record { canKeep = can_keep_sent q.flags }

abbrev pub ask_read : Request → R.Msg
ask_read q = R.request (data_of q) q.kind (q.flags / 2)

-- ---- inputs
abbrev pub line_act_read : LineActs.Act → R.LAct
line_act_read LineAct.Alerted = R.alerted
line_act_read LineAct.CallFailed = R.call_failed
line_act_read LineAct.Cancel = R.cancels
line_act_read LineAct.Fell = R.falls

abbrev pub policy_of : List ℕ → R.Policy
policy_of words = record { keeps = keeps words; default = pick (retains words) R.ret R.rls }

-- ---- what a step of a desk does to the place that it is about, by what is read there, and what it sends
pub record ClerkStep (d : ClerkDesk.Desk) (count : ℕ) (given : Of Elements) (f : Option ℕ) (plan : Plan ClerkChanges.Change) (e : Elements) (answer : R.CAnswer) : Type 0 where
  pub did :
      Did clerk_sight (ClerkRecords.records d.words) given f (clerk_change plan.change) (ClerkRecords.records (ClerkSteps.made d count plan).desk.words)
      (clerk_read e answer.0)
  pub sends : sent_by plan.outcome.sending ≡ map (message_read e) answer.1

pub record LineStep (d : LineDesk.Desk) (count : ℕ) (given : Of Elements) (f : Option ℕ) (plan : Plan LineChanges.Change) (e : Elements) (answer : R.LAnswer) : Type 0 where
  pub active : Bool
  pub did :
      Did line_sight (LineRecords.records d.words) given f (line_change plan.change) (LineRecords.records (LineSteps.made d count plan).desk.words)
      (line_read e active answer.0)
  pub sends : sent_by plan.outcome.sending ≡ map (message_read e) answer.1
