-- The inputs of the clerk's desk and what each means: whom it names, the row of each message, act and timer report; the replies that go with a refusal; the choices that a result brings.
use Rattle.std.specs.Prelude.{ℕ, Bool, eqb, Option, Some, None}
use Rattle.lists.specs.Choice.{pick}
use Rattle.message.specs.declared.Kind.{Kind}
use Rattle.message.specs.declared.Kind.TheVariants.{Ccbs, Ccnr}
use Rattle.message.specs.declared.Carrier.{Carrier}
use Rattle.message.specs.declared.Carrier.TheVariants.{Setup, Connect, Facility, ReleaseComplete, Alerting}
use Rattle.message.specs.declared.Body.{Body}
use Rattle.desk.specs.declared.Connection.{Connection}
use Rattle.desk.specs.declared.Connection.TheVariants.{Ret, Rls}
use Rattle.desk.specs.declared.Keep.{Keep}
use Rattle.desk.specs.declared.Keep.TheVariants.{Empty, Ends, Keeps}
use Rattle.terms.specs.Terms.{with_choices}
use Rattle.terms.specs.Request.{letter_names, only_identifier}
use Rattle.terms.specs.declared.request.Names.{Names}
use Rattle.clerk_table.specs.Record.{with_terms}
use Rattle.clerk_table.specs.declared.table.Row.{Row}
use Rattle.clerk_table.specs.declared.table.Timer.{Timer}
use Rattle.clerk_table.specs.declared.table.Timer.TheVariants.{T1, T2, T3}
use Rattle.clerk_table.specs.declared.record.Record.{Record}
use Rattle.clerk_table.specs.declared.inputs.Input.{Input}
use Rattle.clerk_table.specs.declared.inputs.Act.{Act}
use Rattle.clerk_table.specs.declared.inputs.RecordMessage.{RecordMessage}
use Rattle.clerk_table.specs.declared.inputs.RecordMessage.TheVariants as Message

-- ---- whom an input names
abbrev pub names_of : Input → Names
names_of (Input.Ask names q) = names
names_of (Input.Message l busy place) = letter_names l
names_of (Input.Act name act) = only_identifier name.identifier
names_of (Input.Timer name timer) = only_identifier name.identifier

-- ---- messages: types 1, 2, 6, 8 and 9 go to the line
abbrev pub message_for : Body → Option RecordMessage
message_for (Body.CcbsRequest flags service) = None
message_for (Body.CcnrRequest flags service) = None
message_for (Body.RequestResult keep) = Some (Message.Result keep)
message_for (Body.RequestError error) = Some (Message.Error error)
message_for Body.CcExecPossible = Some Message.ExecPossible
message_for Body.CcRingout = None
message_for (Body.RingoutError error) = Some (Message.RingoutError error)
message_for Body.CcSuspend = None
message_for Body.CcResume = None
message_for Body.CcCancel = Some Message.Cancel
message_for Body.CallAlerts = Some Message.Alerts
message_for Body.CallFailed = Some Message.Failed

-- 1 short, 2 long
abbrev pub error_row : ℕ → Row
error_row error = pick (eqb error 1) Row.DeniedShort Row.DeniedLong

-- the host's word on User A
abbrev pub possible_row : Bool → Row
possible_row busy = pick busy Row.Suspends Row.Recalls

-- kept: a no-reply request goes on as one that waits for free
abbrev pub kept_row : Kind → Row
kept_row Ccbs = Row.BusyAgainKept
kept_row Ccnr = Row.BusyAgainWaiting

abbrev pub busy_again_row : Keep → Kind → Row
busy_again_row Empty kind = Row.BusyAgainEnded
busy_again_row Ends kind = Row.BusyAgainEnded
busy_again_row Keeps kind = kept_row kind

-- 1 remoteUserBusyAgain, 2 failureToMatch
abbrev pub ringout_error_row : ℕ → Keep → Kind → Row
ringout_error_row error keep kind = pick (eqb error 1) (busy_again_row keep kind) Row.NotMatched

-- by the host's word on User A and by the record's keep choice and kind
abbrev pub row_for : RecordMessage → Bool → Keep → Kind → Row
row_for (Message.Result keep) busy chosen kind = Row.Accepted
row_for (Message.Error error) busy chosen kind = error_row error
row_for Message.ExecPossible busy chosen kind = possible_row busy
row_for (Message.RingoutError error) busy chosen kind = ringout_error_row error chosen kind
row_for Message.Cancel busy chosen kind = Row.LineCancels
row_for Message.Alerts busy chosen kind = Row.Completes
row_for Message.Failed busy chosen kind = Row.CallFails

-- ---- acts and timers
abbrev pub row_of_act : Act → Row
row_of_act Act.Accept = Row.RingsOut
row_of_act Act.Resume = Row.Resumes
row_of_act Act.GoOn = Row.GoesOn
row_of_act Act.Cancel = Row.UserCancels
row_of_act Act.Fell = Row.Falls

abbrev pub row_of_timer : Timer → Row
row_of_timer T1 = Row.T1RunsOut
row_of_timer T2 = Row.T2RunsOut
row_of_timer T3 = Row.T3RunsOut

-- ---- replies: ccCancel
-- on 6, to a result (document 01) or ccExecPossible (8.1.2.6, first paragraph)
abbrev pub reply_unmatched : RecordMessage → Option Body
reply_unmatched (Message.Result keep) = Some Body.CcCancel
reply_unmatched (Message.Error error) = None
reply_unmatched Message.ExecPossible = Some Body.CcCancel
reply_unmatched (Message.RingoutError error) = None
reply_unmatched Message.Cancel = None
reply_unmatched Message.Alerts = None
reply_unmatched Message.Failed = None

-- on 7 or 8, to a ccExecPossible in Setup (clause 8.1.2.6: mend M3). None in Setup is 8 any more (document 02, Ask 11): for 7 and 8 there is one line all the same
abbrev pub reply_in_setup : Carrier → Option Body
reply_in_setup Setup = Some Body.CcCancel
reply_in_setup Connect = None
reply_in_setup Facility = None
reply_in_setup ReleaseComplete = None
reply_in_setup Alerting = None

abbrev pub reply_unfit : RecordMessage → Carrier → Option Body
reply_unfit (Message.Result keep) carrier = None
reply_unfit (Message.Error error) carrier = None
reply_unfit Message.ExecPossible carrier = reply_in_setup carrier
reply_unfit (Message.RingoutError error) carrier = None
reply_unfit Message.Cancel carrier = None
reply_unfit Message.Alerts carrier = None
reply_unfit Message.Failed carrier = None

-- ---- the choices that a result brings (8.1.1.3): keep only if can-keep was sent true and keep is 1
abbrev pub keep_chosen : Bool → ℕ → Keep
keep_chosen canKeep keep = pick canKeep (pick (eqb keep 1) Keeps Ends) Ends

-- Connect means RET, Release Complete means RLS; no other carrier is allowed for a result
abbrev pub connection_meant : Carrier → Connection
connection_meant Setup = Rls
connection_meant Connect = Ret
connection_meant Facility = Rls
connection_meant ReleaseComplete = Rls
connection_meant Alerting = Rls

abbrev pub acknowledged : Record → ℕ → Carrier → Record
acknowledged r keep carrier = with_terms r (with_choices r.terms (keep_chosen r.canKeep keep) (connection_meant carrier))

-- every other message leaves the record as it is
abbrev pub settled : Option RecordMessage → Carrier → Record → Record
settled (Some (Message.Result keep)) carrier r = acknowledged r keep carrier
settled (Some (Message.Error error)) carrier r = r
settled (Some Message.ExecPossible) carrier r = r
settled (Some (Message.RingoutError error)) carrier r = r
settled (Some Message.Cancel) carrier r = r
settled (Some Message.Alerts) carrier r = r
settled (Some Message.Failed) carrier r = r
settled None carrier r = r

-- and so does every other input
abbrev pub settled_by : Input → Record → Record
settled_by (Input.Ask names q) r = r
settled_by (Input.Message l busy place) r = settled (message_for l.body) l.carrier r
settled_by (Input.Act name act) r = r
settled_by (Input.Timer name timer) r = r
