-- What a host is shown of a record or a line, as plain numbers.
use Rattle.std.specs.Prelude.{ℕ, ◌+◌, Bool, false, List, [], ◌∷◌}
use Rattle.lists.specs.Choice.{pick}
use Rattle.terms.specs.declared.Terms.{Terms}
use Rattle.terms.specs.Codes.{kind_code, keep_code, connection_code, flag_code}
use Rattle.told.specs.Told.{timers_number}
use Rattle.clerk_table.specs.Step.{running}
use Rattle.clerk_table.specs.declared.table.State as ClerkState
use Rattle.clerk_table.specs.declared.record.Record as ClerkRecord
use Rattle.clerk_records.specs.Codes as ClerkCodes
use Rattle.clerk_records.specs.declared.deadlines.Deadlines.{Deadlines}
use Rattle.line_table.specs.Step.{guard as the_guard}
use Rattle.line_table.specs.declared.record.Record as LineRecord
use Rattle.line_table.specs.declared.line.Line.{Line}
use Rattle.line_records.specs.Codes as LineCodes
use Rattle.host_numbers.specs.declared.shown.Running.{Running}

-- ---- the timers of a record that run, as a sum, and when each of them runs out: of one that does not run the deadline is not shown
abbrev pub if_runs : Bool → ℕ → ℕ
if_runs runs deadline = pick runs deadline 0

abbrev pub clerk_running : ClerkState.State → Deadlines → Running
clerk_running state d =
    record {
      timers = timers_number (running state);
      t1 = if_runs (running state).t1 d.t1;
      t2 = if_runs (running state).t2 d.t2;
      t3 = if_runs (running state).t3 d.t3;
      guard = 0;
    }

-- the guard runs in every state
abbrev pub line_running : ℕ → Running
line_running guard = record { timers = timers_number the_guard; t1 = 0; t2 = 0; t3 = 0; guard = guard }

-- ---- kind, service, can-keep, keep, connection, state, activity mark, suspended mark, connection down; the timers that run, and the deadlines of T1, T2, T3 and the guard
abbrev pub record_numbers : Terms → Bool → ℕ → Bool → Bool → Bool → Running → List ℕ
record_numbers t canKeep state active suspended down runs =
    kind_code t.kind
    ∷ t.service
    ∷ flag_code canKeep
    ∷ keep_code t.keep
    ∷ connection_code t.connection
    ∷ state
    ∷ flag_code active
    ∷ flag_code suspended
    ∷ flag_code down
    ∷ runs.timers
    ∷ runs.t1
    ∷ runs.t2
    ∷ runs.t3
    ∷ runs.guard
    ∷ []

-- a clerk's record has the last mark alone, a line's no can-keep
abbrev pub clerk_numbers : ClerkRecord.Record → Deadlines → List ℕ
clerk_numbers r d = record_numbers r.terms r.canKeep (ClerkCodes.state_code r.state) false false r.down (clerk_running r.state d)

abbrev pub line_numbers : LineRecord.Record → ℕ → List ℕ
line_numbers r guard = record_numbers r.terms false (LineCodes.state_code r.state) r.active r.suspended r.down (line_running guard)

-- ---- a line's kinds: 1 CCBS + 2 CCNR
abbrev pub kinds_number : Line → ℕ
kinds_number line = pick line.ccbs 1 0 + pick line.ccnr 2 0
