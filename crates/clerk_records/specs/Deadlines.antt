-- The deadlines of the clerk's records (document 02, Ask 6): a timer that is started has its deadline put into its record's words; and which timer of a record runs out in a tick.
use Rattle.std.specs.Prelude.{ℕ, ◌+◌, ◌*◌, ◌%◌, Bool, List, [], map, get_or, set, ltb, Option, Some, None}
use Rattle.lists.specs.Choice.{pick}
use Rattle.lists.specs.Lists.{both, without}
use Rattle.clock.specs.Clock.{turn, deadline_of, due}
use Rattle.message.specs.declared.Kind.{Kind}
use Rattle.message.specs.declared.Kind.TheVariants.{Ccbs, Ccnr}
use Rattle.desk.specs.declared.outcome.Timers.{Timers}
use Rattle.store.specs.Rows.{rows}
use Rattle.clerk_table.specs.Table.{home_of, holds_in}
use Rattle.clerk_table.specs.Inputs.{row_of_timer}
use Rattle.clerk_table.specs.declared.table.Timer.{Timer}
use Rattle.clerk_table.specs.declared.table.Timer.TheVariants.{T1, T2, T3}
use Rattle.clerk_table.specs.declared.record.Record.{Record}
use Rattle.clerk_table.specs.declared.record.Change.{Change}
use Rattle.clerk_table.specs.declared.record.Change.TheVariants.{Stay, Put, Turn, Remove}
use Rattle.clerk_records.specs.Layout.{width, places, deadlines_at, lengths_at}
use Rattle.clerk_records.specs.Records.{blank, records}
use Rattle.clerk_records.specs.declared.deadlines.Deadlines.{Deadlines}

-- ---- at rest: T1 is stopped where T2 is started, so they have one word; T3 has its own. Of a word that is too large the lowest 32 bits
abbrev pub deadline_at : Timer → ℕ
deadline_at T1 = deadlines_at
deadline_at T2 = deadlines_at
deadline_at T3 = deadlines_at + 1

unfoldable pub deadlines_of : List ℕ → Deadlines
deadlines_of row =
    record { t1 = get_or row (deadline_at T1) 0 % turn; t2 = get_or row (deadline_at T2) 0 % turn; t3 = get_or row (deadline_at T3) 0 % turn }

-- the deadlines of each record, place by place
unfoldable pub deadlines : List ℕ → List Deadlines
deadlines words = map deadlines_of (rows width places words)

-- what a free place has
abbrev pub no_deadlines : Deadlines
no_deadlines = deadlines_of []

-- ---- a timer is started
-- T2's length goes by the kind
abbrev pub length_at : Timer → Kind → ℕ
length_at T1 kind = lengths_at
length_at T2 Ccbs = lengths_at + 1
length_at T2 Ccnr = lengths_at + 2
length_at T3 kind = lengths_at + 3

abbrev pub length_of : List ℕ → Timer → Kind → ℕ
length_of words timer kind = get_or words (length_at timer kind) 0 % turn

-- by the kind that the record at a place has
abbrev pub new_deadline : ℕ → ℕ → Timer → List ℕ → ℕ
new_deadline count i timer words = deadline_of count (length_of words timer (get_or (records words) i blank).terms.kind)

-- the words with that timer's deadline, of the record at a place; a place that is not there changes nothing
unfoldable pub started_at : ℕ → ℕ → Timer → List ℕ → List ℕ
started_at count i timer words =
    pick (ltb i places) (set words (i * width + deadline_at timer) (new_deadline count i timer words)) words

abbrev pub started_if : Bool → ℕ → ℕ → Timer → List ℕ → List ℕ
started_if starts count i timer words = pick starts (started_at count i timer words) words

-- each timer that a step starts, at the place that its outcome tells
unfoldable pub timed : ℕ → Option ℕ → Timers → List ℕ → List ℕ
timed count None starts words = words
timed count (Some i) starts words =
    started_if starts.t3 count i T3 (started_if starts.t2 count i T2 (started_if starts.t1 count i T1 words))

-- ---- the same for the deadlines of a desk with all its words: a record's go with it, and a start puts one
abbrev pub deadlines_after : List Deadlines → Change → List Deadlines
deadlines_after ds Stay = ds
deadlines_after ds (Put i r) = ds
deadlines_after ds (Turn i t) = ds
deadlines_after ds (Remove i) = without no_deadlines ds i

-- T1 and T2 have one word
abbrev pub with_deadline : Timer → ℕ → Deadlines → Deadlines
with_deadline T1 x d = record { t1 = x; t2 = x; t3 = d.t3 }
with_deadline T2 x d = record { t1 = x; t2 = x; t3 = d.t3 }
with_deadline T3 x d = record { t1 = d.t1; t2 = d.t2; t3 = x }

abbrev pub deadlines_if : Bool → ℕ → ℕ → Timer → List ℕ → List Deadlines → List Deadlines
deadlines_if starts count i timer words ds = pick starts (set ds i (with_deadline timer (new_deadline count i timer words) (get_or ds i no_deadlines))) ds

abbrev pub deadlines_started : ℕ → Option ℕ → Timers → List ℕ → List Deadlines → List Deadlines
deadlines_started count None starts words ds = ds
deadlines_started count (Some i) starts words ds =
    deadlines_if starts.t3 count i T3 words (deadlines_if starts.t2 count i T2 words (deadlines_if starts.t1 count i T1 words ds))

-- ---- a tick
abbrev pub deadline_in : Deadlines → Timer → ℕ
deadline_in d T1 = d.t1
deadline_in d T2 = d.t2
deadline_in d T3 = d.t3

-- a timer if it is due, or else the other
abbrev pub due_or : ℕ → Deadlines → Timer → Option Timer → Option Timer
due_or count d timer other = pick (due count (deadline_in d timer)) (Some timer) other

-- a timer runs out if the table has a row for its report in the record's state, and it is due
abbrev pub runs_out : ℕ → Record → Deadlines → Timer → Bool
runs_out count r d timer = both (holds_in (home_of (row_of_timer timer)) r.state r.terms.connection) (due count (deadline_in d timer))

-- at most one of a record's: T1 before T2 before T3
unfoldable pub expiring : ℕ → Record → Deadlines → Option Timer
expiring count r d =
    pick (runs_out count r d T1) (Some T1)
    (pick (runs_out count r d T2) (Some T2)
    (pick (runs_out count r d T3) (Some T3)
    None))

-- of the record at a place
abbrev pub expiring_at : ℕ → List ℕ → ℕ → Option Timer
expiring_at count words i = expiring count (get_or (records words) i blank) (get_or (deadlines words) i no_deadlines)
