-- What a planned change makes of the words of a line desk; and what that is for its records and its lines.
use Rattle.std.specs.Prelude.{ℕ, zero, suc, Bool, List, map, get_or, set}
use Rattle.lists.specs.Choice.{pick}
use Rattle.lists.specs.Lists.{without}
use Rattle.lists.specs.declared.words.Words.{Words}
use Rattle.line_table.specs.Line.{with_status}
use Rattle.line_table.specs.Record.{turned, activity, activated}
use Rattle.line_table.specs.Search.{marks}
use Rattle.line_table.specs.declared.line.Line.{Line}
use Rattle.line_table.specs.declared.record.Record.{Record}
use Rattle.line_table.specs.declared.record.Change.{Change}
use Rattle.line_table.specs.declared.record.Change.TheVariants.{Stay, Put, Turn, Remove, Report}
use Rattle.line_records.specs.Layout.{places}
use Rattle.line_records.specs.Records.{blank, records, put_record, turn_record, removed}
use Rattle.line_records.specs.Lines.{no_line, lines, put_line}

-- ---- a report of the line at place k: its status is stored, and busy sets the activity mark of the line's Invoked records
unfoldable pub mark_place : Words → ℕ → List ℕ → List ℕ
mark_place number i words =
    pick (marks number (get_or (records words) i blank)) (turn_record words i (activity (get_or (records words) i blank))) words

-- the first n places, one after the other
unfoldable pub marked : Words → ℕ → List ℕ → List ℕ
marked number zero words = words
marked number (suc n) words = mark_place number n (marked number n words)

unfoldable pub status_stored : List ℕ → ℕ → Bool → List ℕ
status_stored words k busy = put_line words k (with_status (get_or (lines words) k no_line) busy)

unfoldable pub with_report : List ℕ → ℕ → Words → Bool → List ℕ
with_report words k number busy = pick busy (marked number places (status_stored words k busy)) (status_stored words k busy)

-- ---- every change
unfoldable pub applied : List ℕ → Change → List ℕ
applied words Stay = words
applied words (Put i r) = put_record words i r
applied words (Turn t i) = turn_record words i t
applied words (Remove i) = removed words i
applied words (Report k number busy) = with_report words k number busy

-- ---- the same for the records and for the lines of a desk with all its words
abbrev pub marking : Words → Record → Record
marking number r = pick (marks number r) (activated r) r

abbrev pub records_after : List Record → Change → List Record
records_after rs Stay = rs
records_after rs (Put i r) = set rs i r
records_after rs (Turn t i) = set rs i (turned t (get_or rs i blank))
records_after rs (Remove i) = without blank rs i
records_after rs (Report k number busy) = pick busy (map (marking number) rs) rs

abbrev pub lines_after : List Line → Change → List Line
lines_after ls Stay = ls
lines_after ls (Put i r) = ls
lines_after ls (Turn t i) = ls
lines_after ls (Remove i) = ls
lines_after ls (Report k number busy) = set ls k (with_status (get_or ls k no_line) busy)
