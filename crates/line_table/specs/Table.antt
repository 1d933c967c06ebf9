-- The line's table: document 01, "Steps at the line desk", as mended (M5). Over each row stands when it is taken, with the clause of H.450.9, and behind the dot document 01's words for what it does.
use Rattle.std.specs.Prelude.{Bool, true, false, Option, Some, None}
use Rattle.message.specs.declared.Kind.{Kind}
use Rattle.message.specs.declared.Kind.TheVariants.{Ccbs}
use Rattle.message.specs.declared.Body.{Body}
use Rattle.message.specs.declared.Body.TheVariants.{CcExecPossible, RingoutError, CallAlerts, CallFailed, CcCancel}
use Rattle.desk.specs.Carriers.{by_connection}
use Rattle.desk.specs.declared.Connection.{Connection}
use Rattle.line_table.specs.declared.table.State.{State}
use Rattle.line_table.specs.declared.table.State.TheVariants.{Free, Invoked, Await, Alert}
use Rattle.line_table.specs.declared.table.Row.{Row}
use Rattle.line_table.specs.declared.table.Row.TheVariants.{Offers, Suspends, Resumes, RingsOut, BusyAgainKept, BusyAgainEnded, Alerts, CallFails, ClerkCancels, LineCancels, Falls, GuardRunsOut}
use Rattle.line_table.specs.declared.table.Home.{Home}
use Rattle.line_table.specs.declared.table.Home.TheVariants.{InInvoked, InAwait, InAlert, WhereRetained, Always}
use Rattle.desk.specs.declared.plan.Next.{Next}
use Rattle.desk.specs.declared.plan.Next.TheVariants.{Gone, Same, To}
use Rattle.line_table.specs.declared.table.Mark.{Mark}
use Rattle.line_table.specs.declared.table.Effect.{Effect}
use Rattle.line_table.specs.declared.table.Rule.{Rule}

-- ---- the words of the table: what stands in a column, and one word for nothing in all of them
pub data Column : Type 0 where
  changing sending marking : Column

pub data Cell : Column → Type 0 where
  nothing : {column : Column} → Cell column
  becomes : Kind → Cell changing
  sends : Body → Cell sending
  sets : Cell marking
  clears : Cell marking

abbrev kept : Cell changing → Option Kind
kept nothing = None
kept (becomes kind) = Some kind

abbrev sent : Cell sending → Option Body
sent nothing = None
sent (sends body) = Some body

abbrev marked : Cell marking → Mark
marked nothing = Mark.Nothing
marked sets = Mark.Sets
marked clears = Mark.Clears

-- a row of the table: where it is taken, and what it does
abbrev pub rule : Home → Next State → Option Kind → Option Body → Mark → Mark → Mark → Rule
rule home next kind message activity suspension fall =
    record { home = home; effect = record { next = next; kind = kind; sends = message; active = activity; suspended = suspension; down = fall } }

abbrev row : Home → Next State → Cell changing → Cell sending → Cell marking → Cell marking → Cell marking → Rule
row home next kind message activity suspension fall = rule home next (kept kind) (sent message) (marked activity) (marked suspension) (marked fall)

-- ---- the table
-- taken in · then · kind · sends · activity mark · suspended mark · connection down
abbrev pub rule_of : Row → Rule
-- Look: the record is offered (8.2.1.4) · offering sends ccExecPossible; Await
rule_of Offers = row InInvoked (To Await) nothing (sends CcExecPossible) nothing nothing nothing
-- ccSuspend in Await (8.2.1.6, first paragraph) · set the suspended mark
rule_of Suspends = row InAwait (To Await) nothing nothing nothing sets nothing
-- ccResume in Await (8.2.1.6, second and third paragraphs: mend M5) · clear that mark, Invoked; the activity mark stays
rule_of Resumes = row InAwait (To Invoked) nothing nothing nothing clears nothing
-- ccRingout in Await, line free (8.2.1.5) · clear the suspended mark, Alert
rule_of RingsOut = row InAwait (To Alert) nothing nothing nothing clears nothing
-- ccRingout in Await, line busy, keep chosen (8.2.2.3) · busy again: send remoteUserBusyAgain; Invoked with activity marked and the suspended mark cleared; CCBS from now on (6.2.1.3: document 02, Ask 5)
rule_of BusyAgainKept = row InAwait (To Invoked) (becomes Ccbs) (sends (RingoutError 1)) sets clears nothing
-- ccRingout in Await, line busy, keep not chosen (8.2.2.3) · busy again: send remoteUserBusyAgain; delete
rule_of BusyAgainEnded = row InAwait Gone nothing (sends (RingoutError 1)) nothing nothing nothing
-- act alerted in Alert (8.2.1.5, last paragraph) · send type 11, call alerts, in Alerting; delete
rule_of Alerts = row InAlert Gone nothing (sends CallAlerts) nothing nothing nothing
-- act call failed in Alert (8.2.2.4; type 12 is document 01's) · send type 12, call failed; delete
rule_of CallFails = row InAlert Gone nothing (sends CallFailed) nothing nothing nothing
-- ccCancel received (8.2.1.7 a) · in any state: delete
rule_of ClerkCancels = row Always Gone nothing nothing nothing nothing nothing
-- act cancel (8.2.1.7 b) · send ccCancel, delete
rule_of LineCancels = row Always Gone nothing (sends CcCancel) nothing nothing nothing
-- the connection fell (8.2.2.5: document 02, Ask 11) · a mark "connection down" goes into the record, which stays in its state
rule_of Falls = row WhereRetained Same nothing nothing nothing nothing sets
-- guard reported (8.2.1.4, note; 8.2.1.7 b; ours, as 11.4.2 names no timer) · the guard running out: send ccCancel, delete
rule_of GuardRunsOut = row Always Gone nothing (sends CcCancel) nothing nothing nothing

abbrev pub home_of : Row → Home
home_of row = (rule_of row).home

abbrev pub effect_of : Row → Effect
effect_of row = (rule_of row).effect

-- a place is used if its record has a state
abbrev pub in_use : State → Bool
in_use Free = false
in_use Invoked = true
in_use Await = true
in_use Alert = true

-- the states in which a row is taken, and of one the connection choice too; a free place has no row
abbrev pub holds_in : Home → State → Connection → Bool
holds_in InInvoked Free connection = false
holds_in InInvoked Invoked connection = true
holds_in InInvoked Await connection = false
holds_in InInvoked Alert connection = false
holds_in InAwait Free connection = false
holds_in InAwait Invoked connection = false
holds_in InAwait Await connection = true
holds_in InAwait Alert connection = false
holds_in InAlert Free connection = false
holds_in InAlert Invoked connection = false
holds_in InAlert Await connection = false
holds_in InAlert Alert connection = true
holds_in WhereRetained state connection = by_connection connection (in_use state) false
holds_in Always Free connection = false
holds_in Always Invoked connection = true
holds_in Always Await connection = true
holds_in Always Alert connection = true
