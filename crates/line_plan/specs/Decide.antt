-- What is decided of each input at the line desk, by its words: the refusals in document 01's order, then the row of the table, or what becomes of the request or of the line.
use Rattle.std.specs.Prelude.{ℕ, Bool, true, List, get_or, ltb, Option, Some, None}
use Rattle.lists.specs.Choice.{pick}
use Rattle.lists.specs.Lists.{first, count}
use Rattle.lists.specs.declared.words.Words.{Words}
use Rattle.message.specs.declared.refusal.Refusal.TheVariants.{NotHere, NoRecord, NoRow, NotInCarrier, NoLine, NothingToOffer}
use Rattle.desk.specs.Carriers.{carrier_fits}
use Rattle.desk.specs.declared.Connection.TheVariants as Connection
use Rattle.desk.specs.declared.letter.Letter.{Letter}
use Rattle.terms.specs.Request.{letter_names}
use Rattle.terms.specs.declared.means.Means.{Means}
use Rattle.terms.specs.declared.request.Name.{Name}
use Rattle.terms.specs.declared.request.Names.{Names}
use Rattle.terms.specs.declared.request.Request.{Request}
use Rattle.line_table.specs.Table.{home_of, holds_in}
use Rattle.line_table.specs.Line.{allows, can_take}
use Rattle.line_table.specs.Inputs.{message_for, row_for, row_of_act, reply_missed}
use Rattle.line_table.specs.Search.{of_line, passes}
use Rattle.line_table.specs.declared.table.Row.{Row}
use Rattle.line_table.specs.declared.table.Row.TheVariants.{Offers, GuardRunsOut}
use Rattle.line_table.specs.declared.line.Line.{Line}
use Rattle.line_table.specs.declared.record.Record.{Record}
use Rattle.line_table.specs.declared.record.Decision.{Decision}
use Rattle.line_table.specs.declared.record.Decision.TheVariants.{Refuse, Deny, Take, Store, Report}
use Rattle.line_table.specs.declared.inputs.Act.{Act}
use Rattle.line_table.specs.declared.inputs.Input.{Input}
use Rattle.line_table.specs.declared.inputs.RecordMessage.{RecordMessage}
use Rattle.line_table.specs.declared.inputs.Meant.{Meant}
use Rattle.line_table.specs.declared.search.Sought.TheVariants.{Blocking, Fitting, Duplicate}
use Rattle.line_records.specs.Records.{blank, records, place}
use Rattle.line_records.specs.Lines.{no_line, lines, line_at}
use Rattle.line_records.specs.Meaning.{meaning, named}

-- at most so many records for one line
abbrev pub line_most : ℕ
line_most = 5

abbrev pub holds_for : Row → Record → Bool
holds_for row r = holds_in (home_of row) r.state r.terms.connection

-- ---- messages about a record: 6, 7, 8
-- whether the line of a number can take a call; the number of a record is a line's on every desk that is reached
abbrev pub takes_found : List ℕ → Option ℕ → Bool
takes_found ws None = true
takes_found ws (Some k) = can_take (get_or (lines ws) k no_line)

unfoldable pub takes_call : List ℕ → Words → Bool
takes_call ws number = takes_found ws (line_at number (lines ws))

-- the record's state has no row for this input: 7; then the carrier isn't allowed for this type and record: 8
abbrev pub row_decision : ℕ → Record → Letter → RecordMessage → Row → Decision
row_decision i r l message row =
    pick (holds_for row r)
    (pick (carrier_fits l.body r.terms.connection l.carrier)
    (Take i row)
    (Refuse NotInCarrier None))
    (Refuse NoRow (reply_missed message))

abbrev pub place_decision : List ℕ → ℕ → Record → Letter → RecordMessage → Decision
place_decision ws i r l message = row_decision i r l message (row_for message (takes_call ws r.terms.numberB) r.terms.keep)

-- no record is meant: 6; some fit, but none in a state that the message is for: 7
abbrev pub record_meant : List ℕ → Letter → RecordMessage → Means → Decision
record_meant ws l message Means.Nothing = Refuse NoRecord (reply_missed message)
record_meant ws l message Means.NotNow = Refuse NoRow (reply_missed message)
record_meant ws l message (Means.At i) = place_decision ws i (get_or (records ws) i blank) l message

unfoldable pub record_decision : List ℕ → Letter → ℕ → RecordMessage → Decision
record_decision ws l at message = record_meant ws l message (meaning l at (records ws))

-- ---- a request: 8; then the completed steps: long, short (8.2.2.1), accepted (8.2.1.3). 1 is short, 2 long
-- short if the line has 5, or the desk has 32
abbrev pub store_found : Request → Bool → Option ℕ → Decision
store_found q busy None = Deny 1
store_found q busy (Some i) = Store i q busy

unfoldable pub counted_decision : List ℕ → Names → Request → Bool → Decision
counted_decision ws names q busy = pick (ltb (count (of_line names.numberB) (records ws)) line_most) (store_found q busy (place (records ws))) (Deny 1)

-- short if duplicate
abbrev pub duplicate_found : List ℕ → Names → Request → Bool → Option ℕ → Decision
duplicate_found ws names q busy (Some i) = Deny 1
duplicate_found ws names q busy None = counted_decision ws names q busy

unfoldable pub admitted_decision : List ℕ → Names → Request → Bool → Decision
admitted_decision ws names q busy = duplicate_found ws names q busy (first (passes (Duplicate names)) (records ws))

-- long if numberB is no line or the kind isn't allowed
abbrev pub allowed_decision : List ℕ → Names → Request → Line → Decision
allowed_decision ws names q line = pick (allows line q.kind) (admitted_decision ws names q line.busy) (Deny 2)

abbrev pub line_found : List ℕ → Names → Request → Option ℕ → Decision
line_found ws names q None = Deny 2
line_found ws names q (Some k) = allowed_decision ws names q (get_or (lines ws) k no_line)

unfoldable pub request_decision : List ℕ → Letter → Request → Decision
request_decision ws l q =
    pick (carrier_fits l.body Connection.Empty l.carrier)
    (line_found ws (letter_names l) q (line_at l.numberB (lines ws)))
    (Refuse NotInCarrier None)

-- ---- messages: 3, then a request or a message about a record
abbrev pub meant_decision : List ℕ → Letter → ℕ → Meant → Decision
meant_decision ws l at (Meant.Request q) = request_decision ws l q
meant_decision ws l at (Meant.Record message) = record_decision ws l at message
meant_decision ws l at Meant.NotHere = Refuse NotHere None

unfoldable pub message_decision : List ℕ → Letter → ℕ → Decision
message_decision ws l at = meant_decision ws l at (message_for l.body)

-- ---- acts: 6, 7; the guard: 6
abbrev pub held_decision : List ℕ → ℕ → Row → Decision
held_decision ws i row = pick (holds_for row (get_or (records ws) i blank)) (Take i row) (Refuse NoRow None)

abbrev pub own_meant : List ℕ → Row → Means → Decision
own_meant ws row Means.Nothing = Refuse NoRecord None
own_meant ws row Means.NotNow = Refuse NoRow None
own_meant ws row (Means.At i) = held_decision ws i row

unfoldable pub own_decision : List ℕ → Name → Row → Decision
own_decision ws name row = own_meant ws row (named name (records ws))

abbrev pub act_decision : List ℕ → Name → Act → Decision
act_decision ws name act = own_decision ws name (row_of_act act)

abbrev pub guard_decision : List ℕ → Name → Decision
guard_decision ws name = own_decision ws name GuardRunsOut

-- ---- a line report: 10
abbrev pub report_found : Bool → Option ℕ → Decision
report_found busy None = Refuse NoLine None
report_found busy (Some k) = Report k busy

unfoldable pub report_decision : List ℕ → Words → Bool → Decision
report_decision ws number busy = report_found busy (line_at number (lines ws))

-- ---- Look: 10, 11
-- by a blocking record: the oldest fitting one, or none
abbrev pub offer_found : List ℕ → Words → Option ℕ → Option ℕ
offer_found ws number (Some i) = None
offer_found ws number None = first (passes (Fitting number)) (records ws)

-- nothing to offer if the line is busy
unfoldable pub offer_at : List ℕ → Line → Words → Option ℕ
offer_at ws line number = pick (can_take line) (offer_found ws number (first (passes (Blocking number)) (records ws))) None

abbrev pub offer_decision : Option ℕ → Decision
offer_decision None = Refuse NothingToOffer None
offer_decision (Some i) = Take i Offers

abbrev pub look_found : List ℕ → Words → Option ℕ → Decision
look_found ws number None = Refuse NoLine None
look_found ws number (Some k) = offer_decision (offer_at ws (get_or (lines ws) k no_line) number)

unfoldable pub look_decision : List ℕ → Words → Decision
look_decision ws number = look_found ws number (line_at number (lines ws))

-- ---- every input
unfoldable pub decided : List ℕ → Input → Decision
decided ws (Input.Message l at) = message_decision ws l at
decided ws (Input.Act name act) = act_decision ws name act
decided ws (Input.Guard name) = guard_decision ws name
decided ws (Input.Report number busy) = report_decision ws number busy
decided ws (Input.Look number) = look_decision ws number
