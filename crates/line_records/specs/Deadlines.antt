-- The deadlines of the line desk's records (document 02, Ask 6): a guard that is started has its deadline put into its record's words; and whether the guard of a record runs out in a tick.
use Rattle.std.specs.Prelude.{ℕ, ◌+◌, ◌*◌, ◌%◌, Bool, List, map, get_or, set, ltb, Option, Some, None}
use Rattle.lists.specs.Choice.{pick}
use Rattle.lists.specs.Lists.{both, without}
use Rattle.clock.specs.Clock.{turn, deadline_of, due}
use Rattle.message.specs.declared.Kind.{Kind}
use Rattle.message.specs.declared.Kind.TheVariants.{Ccbs, Ccnr}
use Rattle.desk.specs.declared.outcome.Timers.{Timers}
use Rattle.store.specs.Rows.{rows}
use Rattle.line_table.specs.Search.{used}
use Rattle.line_table.specs.declared.record.Record.{Record}
use Rattle.line_table.specs.declared.record.Change.{Change}
use Rattle.line_table.specs.declared.record.Change.TheVariants.{Stay, Put, Turn, Remove, Report}
use Rattle.line_records.specs.Layout.{width, places, guard_at}
use Rattle.line_records.specs.Records.{blank, records}

-- ---- at rest: a word for the guard; of a word that is too large the lowest 32 bits
unfoldable pub guard_of : List ℕ → ℕ
guard_of row = get_or row guard_at 0 % turn

-- the guard's deadline of each record, place by place
unfoldable pub guards : List ℕ → List ℕ
guards words = map guard_of (rows width places words)

-- ---- a guard is started
-- a guard runs for each record: CCBS 3660 s, CCNR 86460 s
abbrev pub guard_length : Kind → ℕ
guard_length Ccbs = 3660
guard_length Ccnr = 86460

-- the words with the guard's deadline, of the record at a place; a place that is not there changes nothing
unfoldable pub started_at : ℕ → ℕ → List ℕ → List ℕ
started_at count i words =
    pick (ltb i places) (set words (i * width + guard_at) (deadline_of count (guard_length (get_or (records words) i blank).terms.kind))) words

-- the guard, if a step starts it, at the place that its outcome tells
unfoldable pub timed : ℕ → Option ℕ → Timers → List ℕ → List ℕ
timed count None starts words = words
timed count (Some i) starts words = pick starts.guard (started_at count i words) words

-- ---- the same for the deadlines of a desk with all its words: one goes with its record, and a start puts one
abbrev pub guards_after : List ℕ → Change → List ℕ
guards_after gs Stay = gs
guards_after gs (Put i r) = gs
guards_after gs (Turn t i) = gs
guards_after gs (Remove i) = without 0 gs i
guards_after gs (Report k number busy) = gs

abbrev pub guards_started : ℕ → Option ℕ → Timers → List Record → List ℕ → List ℕ
guards_started count None starts rs gs = gs
guards_started count (Some i) starts rs gs = pick starts.guard (set gs i (deadline_of count (guard_length (get_or rs i blank).terms.kind))) gs

-- ---- a tick
-- the guard runs in every state: it runs out if it is due
abbrev pub expiring : ℕ → Record → ℕ → Bool
expiring count r guard = both (used r) (due count guard)

-- of the record at a place
unfoldable pub expiring_at : ℕ → List ℕ → ℕ → Bool
expiring_at count words i = expiring count (get_or (records words) i blank) (get_or (guards words) i 0)
