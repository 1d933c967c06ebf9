-- The clerk's table: document 01, "Steps at the clerk's desk", as mended (M1, M2, M4), with the rows of document 02 (Asks 5 and 11) and the clause of H.450.9 beside each row.
use Rattle.std.specs.Prelude.{ℕ, Bool, true, false, eqb, Option, Some, None}
use Rattle.message.specs.declared.Kind.{Kind}
use Rattle.message.specs.declared.Kind.TheVariants.{Ccbs}
use Rattle.message.specs.declared.Body.{Body}
use Rattle.message.specs.declared.Body.TheVariants.{CcSuspend, CcRingout, CcResume, CcCancel}
use Rattle.desk.specs.Carriers.{by_connection}
use Rattle.desk.specs.declared.Connection.{Connection}
use Rattle.desk.specs.declared.outcome.Notice.{Notice}
use Rattle.desk.specs.declared.outcome.Notice.TheVariants as Says
use Rattle.clerk_table.specs.declared.table.State.{State}
use Rattle.clerk_table.specs.declared.table.Row.{Row}
use Rattle.clerk_table.specs.declared.table.Home.{Home}
use Rattle.desk.specs.declared.plan.Next.{Next}
use Rattle.clerk_table.specs.declared.table.Timer.{Timer}
use Rattle.clerk_table.specs.declared.table.Stops.{Stops}
use Rattle.clerk_table.specs.declared.table.Effect.{Effect}
use Rattle.clerk_table.specs.declared.table.Rule.{Rule}
use Rattle.clerk_table.specs.declared.table.State.TheVariants.{Free, WaitAck, Invoked, WaitAnswer, Ringout, Suspended}
use Rattle.clerk_table.specs.declared.table.Home.TheVariants.{In, WhereT2Counts, WhereRetained, Always}
use Rattle.desk.specs.declared.plan.Next.TheVariants.{Gone, Same, To}
use Rattle.clerk_table.specs.declared.table.Timer.TheVariants.{T1, T2, T3}

-- ---- the words of the table: what stands in a column, and one word for nothing in all of them
pub data Column : Type 0 where
  changing falling sending starting stopping noticing clearing : Column

pub data Cell : Column → Type 0 where
  nothing : {column : Column} → Cell column
  becomes : Kind → Cell changing
  -- the mark "connection down" is set
  falls : Cell falling
  sends : Body → Cell sending
  starts : Timer → Cell starting
  stops : Timer → Cell stopping
  -- every timer that runs, as a delete does
  all : Cell stopping
  says : Notice → Cell noticing
  -- the host is told to clear the call, where the record was in Ringout
  clears : Cell clearing

abbrev kept : Cell changing → Option Kind
kept nothing = None
kept (becomes kind) = Some kind

abbrev fallen : Cell falling → Bool
fallen nothing = false
fallen falls = true

abbrev sent : Cell sending → Option Body
sent nothing = None
sent (sends body) = Some body

abbrev started : Cell starting → Option Timer
started nothing = None
started (starts timer) = Some timer

abbrev stopped : Cell stopping → Stops
stopped nothing = Stops.Nothing
stopped (stops timer) = Stops.One timer
stopped all = Stops.Running

abbrev noticed : Cell noticing → Notice
noticed nothing = Says.Silent
noticed (says notice) = notice

abbrev cleared : Cell clearing → Bool
cleared nothing = false
cleared clears = true

-- a row of the table: where it is taken, and what it does
abbrev pub rule : Home → Next State → Option Kind → Bool → Option Body → Option Timer → Stops → Notice → Bool → Rule
rule home next kind down message start stop notice call =
    record { home = home; effect = record { next = next; kind = kind; falls = down; sends = message; starts = start; stops = stop; notice = notice; clears = call } }

abbrev row : Home → Next State → Cell changing → Cell falling → Cell sending → Cell starting → Cell stopping → Cell noticing → Cell clearing → Rule
row home next kind down message start stop notice call = rule home next (kept kind) (fallen down) (sent message) (started start) (stopped stop) (noticed notice) (cleared call)

-- ---- the table
-- taken in · then · kind · connection · sends · starts · stops · notice · clears the call
abbrev pub rule_of : Row → Rule
-- type 3, result, in Wait-Ack (8.1.1.3; T2 by 8.1.1.1 and 8.1.1.2)
rule_of Row.Accepted = row (In WaitAck) (To Invoked) nothing nothing nothing (starts T2) (stops T1) (says Says.Accepted) nothing
-- type 4, request error 1 (short), in Wait-Ack (8.1.2.1)
rule_of Row.DeniedShort = row (In WaitAck) Gone nothing nothing nothing nothing all (says Says.DeniedShort) nothing
-- type 4, request error 2 (long), in Wait-Ack (8.1.2.1)
rule_of Row.DeniedLong = row (In WaitAck) Gone nothing nothing nothing nothing all (says Says.DeniedLong) nothing
-- type 5, ccExecPossible, in Invoked, User A not busy (8.1.1.4)
rule_of Row.Recalls = row (In Invoked) (To WaitAnswer) nothing nothing nothing (starts T3) nothing (says Says.Recall) nothing
-- type 5, ccExecPossible, in Invoked, User A busy (8.1.1.5)
rule_of Row.Suspends = row (In Invoked) (To Suspended) nothing nothing (sends CcSuspend) nothing nothing nothing nothing
-- accept in Wait-Answer (8.1.1.4)
rule_of Row.RingsOut = row (In WaitAnswer) (To Ringout) nothing nothing (sends CcRingout) nothing (stops T3) nothing nothing
-- User A free in Suspended: resume (8.1.1.5, of RLS too: the connection choice is for life)
rule_of Row.Resumes = row (In Suspended) (To Invoked) nothing nothing (sends CcResume) nothing nothing nothing nothing
-- User A free in Suspended: go on to recall (8.1.1.5, last paragraph)
rule_of Row.GoesOn = row (In Suspended) (To WaitAnswer) nothing nothing nothing (starts T3) nothing (says Says.Recall) nothing
-- type 11, call alerts, in Ringout (8.1.1.4)
rule_of Row.Completes = row (In Ringout) Gone nothing nothing nothing nothing all (says Says.Completed) nothing
-- type 12, call failed, in Ringout (8.1.2.4, last paragraph, and 8.1.1.6 a: mend M2)
rule_of Row.CallFails = row (In Ringout) Gone nothing nothing (sends CcCancel) nothing all (says Says.Failed) nothing
-- type 7, ringout error 1 (busy again), in Ringout, keep chosen, CCBS (8.1.2.4)
rule_of Row.BusyAgainKept = row (In Ringout) (To Invoked) nothing nothing nothing nothing nothing (says Says.BusyAgainKept) nothing
-- type 7, ringout error 1 (busy again), in Ringout, keep chosen, CCNR, which goes on as CCBS (8.1.2.4; 6.2.1.3: document 02, Ask 5)
rule_of Row.BusyAgainWaiting = row (In Ringout) (To Invoked) (becomes Ccbs) nothing nothing nothing nothing (says Says.BusyAgainWaiting) nothing
-- type 7, ringout error 1 (busy again), in Ringout, keep not chosen (8.1.2.4)
rule_of Row.BusyAgainEnded = row (In Ringout) Gone nothing nothing nothing nothing all (says Says.BusyAgainEnded) nothing
-- type 7, ringout error 2 (failureToMatch), in Ringout (8.1.2.4)
rule_of Row.NotMatched = row (In Ringout) Gone nothing nothing nothing nothing all (says Says.Failed) nothing
-- type 10, ccCancel, received (8.1.1.6 b: mend M4)
rule_of Row.LineCancels = row Always Gone nothing nothing nothing nothing all (says Says.Failed) clears
-- user's cancel (8.1.1.6 a)
rule_of Row.UserCancels = row Always Gone nothing nothing (sends CcCancel) nothing all (says Says.Cancelled) clears
-- the connection fell (8.1.2.5 and 8.2.2.5: document 02, Ask 11); it stays in its state
rule_of Row.Falls = row WhereRetained Same nothing falls nothing nothing nothing nothing nothing
-- T1 reported (8.1.2.1; the ccCancel is document 01's)
rule_of Row.T1RunsOut = row (In WaitAck) Gone nothing nothing (sends CcCancel) nothing all (says Says.Failed) nothing
-- T2 reported (8.1.2.2; not in Ringout: mend M1)
rule_of Row.T2RunsOut = row WhereT2Counts Gone nothing nothing (sends CcCancel) nothing all (says Says.Failed) nothing
-- T3 reported (8.1.2.3)
rule_of Row.T3RunsOut = row (In WaitAnswer) Gone nothing nothing (sends CcCancel) nothing all (says Says.Failed) nothing

abbrev pub home_of : Row → Home
home_of row = (rule_of row).home

abbrev pub effect_of : Row → Effect
effect_of row = (rule_of row).effect

-- ---- states
-- a state's number: its word at rest, and what tells two states apart
abbrev pub state_code : State → ℕ
state_code Free = 0
state_code WaitAck = 1
state_code Invoked = 2
state_code WaitAnswer = 3
state_code Ringout = 4
state_code Suspended = 5

abbrev pub same_state : State → State → Bool
same_state a b = eqb (state_code a) (state_code b)

-- T2 runs in the last four, and in Ringout it doesn't count (8.1.2.2: mend M1)
abbrev pub t2_counts : State → Bool
t2_counts Free = false
t2_counts WaitAck = false
t2_counts Invoked = true
t2_counts WaitAnswer = true
t2_counts Ringout = false
t2_counts Suspended = true

-- behind the acknowledgment
abbrev pub behind : State → Bool
behind Free = false
behind WaitAck = false
behind Invoked = true
behind WaitAnswer = true
behind Ringout = true
behind Suspended = true

-- a place is used if its record has a state
abbrev pub in_use : State → Bool
in_use Free = false
in_use WaitAck = true
in_use Invoked = true
in_use WaitAnswer = true
in_use Ringout = true
in_use Suspended = true

-- the states in which a row is taken, and of one the connection choice too; a free place has no row
abbrev pub holds_in : Home → State → Connection → Bool
holds_in (In only) state connection = same_state only state
holds_in WhereT2Counts state connection = t2_counts state
holds_in WhereRetained state connection = by_connection connection (behind state) false
holds_in Always state connection = in_use state
