-- The inputs of the line desk, and what each means: whom it names; the row of each message and act; the replies that go with a refusal; the choices that a request brings.
use Rattle.std.specs.Prelude.{ℕ, ◌/◌, Bool, eqb, Option, Some, None}
use Rattle.lists.specs.Choice.{pick}
use Rattle.message.specs.declared.Kind.TheVariants.{Ccbs, Ccnr}
use Rattle.message.specs.declared.Body.{Body}
use Rattle.message.specs.declared.Body.TheVariants.{CcbsRequest, CcnrRequest, RequestResult, RequestError, CcExecPossible, CcRingout, RingoutError, CcSuspend, CcResume, CcCancel, CallAlerts, CallFailed}
use Rattle.desk.specs.declared.Connection.{Connection}
use Rattle.desk.specs.declared.Connection.TheVariants.{Ret, Rls}
use Rattle.desk.specs.declared.Keep.{Keep}
use Rattle.desk.specs.declared.Keep.TheVariants.{Empty, Ends, Keeps}
use Rattle.terms.specs.Request.{letter_names, only_identifier, only_line, can_keep_sent}
use Rattle.terms.specs.declared.request.Names.{Names}
use Rattle.line_table.specs.declared.table.Row.{Row}
use Rattle.line_table.specs.declared.table.Row.TheVariants.{Suspends, Resumes, RingsOut, BusyAgainKept, BusyAgainEnded, Alerts, CallFails, ClerkCancels, LineCancels, Falls}
use Rattle.line_table.specs.declared.inputs.Act.{Act}
use Rattle.line_table.specs.declared.inputs.Input.{Input}
use Rattle.line_table.specs.declared.inputs.RecordMessage.{RecordMessage}
use Rattle.line_table.specs.declared.inputs.RecordMessage.TheVariants.{Suspend, Resume, Ringout, Cancel}
use Rattle.line_table.specs.declared.inputs.Meant.{Meant}
use Rattle.line_table.specs.declared.inputs.Meant.TheVariants.{Request, Record, NotHere}

-- ---- whom an input names
abbrev pub names_of : Input → Names
names_of (Input.Message l place) = letter_names l
names_of (Input.Act name act) = only_identifier name.identifier
names_of (Input.Guard name) = only_identifier name.identifier
names_of (Input.Report number busy) = only_line number
names_of (Input.Look number) = only_line number

-- ---- messages: types 3, 4, 5, 7, 11 and 12 go to the clerk
abbrev pub message_for : Body → Meant
message_for (CcbsRequest flags service) = Request (record { kind = Ccbs; service = service; flags = flags })
message_for (CcnrRequest flags service) = Request (record { kind = Ccnr; service = service; flags = flags })
message_for (RequestResult keep) = NotHere
message_for (RequestError error) = NotHere
message_for CcExecPossible = NotHere
message_for CcRingout = Record Ringout
message_for (RingoutError error) = NotHere
message_for CcSuspend = Record Suspend
message_for CcResume = Record Resume
message_for CcCancel = Record Cancel
message_for CallAlerts = NotHere
message_for CallFailed = NotHere

abbrev pub busy_again_row : Keep → Row
busy_again_row Empty = BusyAgainEnded
busy_again_row Ends = BusyAgainEnded
busy_again_row Keeps = BusyAgainKept

-- by whether the line can take a call
abbrev pub ringout_row : Bool → Keep → Row
ringout_row takes keep = pick takes RingsOut (busy_again_row keep)

abbrev pub row_for : RecordMessage → Bool → Keep → Row
row_for Suspend _ _ = Suspends
row_for Resume _ _ = Resumes
row_for Ringout takes kept = ringout_row takes kept
row_for Cancel _ _ = ClerkCancels

-- ---- acts
abbrev pub row_of_act : Act → Row
row_of_act Act.Alerted = Alerts
row_of_act Act.CallFailed = CallFails
row_of_act Act.Cancel = LineCancels
row_of_act Act.Fell = Falls

-- ---- replies on 6 or 7: ringout error failureToMatch to a ccRingout, ccCancel to a ccResume (8.2.2.2)
abbrev pub reply_missed : RecordMessage → Option Body
reply_missed Suspend = None
reply_missed Resume = Some CcCancel
reply_missed Ringout = Some (RingoutError 2)
reply_missed Cancel = None

-- ---- the choices that a request brings; flags are can-keep plus 2 × preference
-- keep exactly if can-keep and the desk keeps (8.2.1.3)
abbrev pub keep_chosen : ℕ → Bool → Keep
keep_chosen flags keeps = pick (can_keep_sent flags) (pick keeps Keeps Ends) Ends

-- 1 retain, 2 release; by the desk's default if none (8.2.1.3)
abbrev pub connection_chosen : ℕ → Bool → Connection
connection_chosen flags retains = pick (eqb (flags / 2) 1) Ret (pick (eqb (flags / 2) 2) Rls (pick retains Ret Rls))

-- the keep that the result carries
abbrev pub keep_sent : Keep → ℕ
keep_sent Empty = 0
keep_sent Ends = 0
keep_sent Keeps = 1
