-- The line desk started from its lines and settings. A line is given as its number in sixteen places, and behind it the kinds that it allows.
use Rattle.std.specs.Prelude.{ℕ, zero, suc, ◌+◌, ◌*◌, ◌/◌, ◌%◌, Bool, true, false, List, length, get_or, take, drop, replicate, leb, eqb, Option, Some, None}
use Rattle.lists.specs.Choice.{pick}
use Rattle.lists.specs.Lists.{both}
use Rattle.lists.specs.declared.words.Words.{Words}
use Rattle.message.specs.Number.{digits_in_range}
use Rattle.message.specs.declared.refusal.Refusal.TheVariants.{OutOfRange}
use Rattle.desk.specs.Letter.{number_words}
use Rattle.desk.specs.Outcome.{no_timers, refused_with, done_with}
use Rattle.line_table.specs.declared.line.Line.{Line}
use Rattle.line_records.specs.Layout as Layout
use Rattle.line_records.specs.Lines.{lines, line_at, put_line, with_settings}
use Rattle.desk.specs.declared.outcome.Stepped.{Stepped}
use Rattle.line.specs.declared.Desk.{Desk}

-- the bytes of a line that is given: its number's, then one of its kinds
abbrev pub kinds_at : ℕ
kinds_at = 16

abbrev pub given_width : ℕ
given_width = kinds_at + 1

abbrev pub absent : Option ℕ → Bool
absent (Some k) = false
absent None = true

-- kinds are 1 CCBS + 2 CCNR; every line starts free
abbrev pub line_given : Words → ℕ → Line
line_given number kinds = record { number = number; ccbs = eqb (kinds % 2) 1; ccnr = leb 2 kinds; busy = false }

-- its digits and kinds are in range, and no earlier line has its number
unfoldable pub good_line : List ℕ → List ℕ → ℕ → Bool
good_line ws digits kinds = both (digits_in_range 1 digits) (both (leb kinds 3) (absent (line_at (number_words digits) (lines ws))))

-- a good line is put at place k
unfoldable pub line_taken : List ℕ → ℕ → List ℕ → ℕ → List ℕ
line_taken ws k digits kinds = pick (good_line ws digits kinds) (put_line ws k (line_given (number_words digits) kinds)) ws

-- the words with all the lines, or that one is not good
pub data Lines : Type 0 where
  stored : List ℕ → Lines
  bad : Lines

abbrev pub lines_told : Bool → List ℕ → Lines
lines_told true ws = stored ws
lines_told false ws = bad

-- so many lines from the front of the bytes, put at the places from k on, one after the other
unfoldable pub take_lines : ℕ → ℕ → List ℕ → List ℕ → Lines
take_lines zero k bytes ws = stored ws
take_lines (suc left) k bytes ws =
    pick (good_line ws (take kinds_at bytes) (get_or bytes kinds_at 0))
    (take_lines left (suc k) (drop given_width bytes) (line_taken ws k (take kinds_at bytes) (get_or bytes kinds_at 0)))
    bad

-- no desk is made: the answer has one without lines
abbrev pub refused_start : Stepped Desk
refused_start = record { desk = record { words = replicate Layout.words 0 }; outcome = refused_with OutOfRange None }

abbrev pub started_by : Lines → Stepped Desk
started_by (stored ws) = record { desk = record { words = ws }; outcome = done_with None no_timers no_timers None }
started_by bad = refused_start

-- 2 for more than 16 lines, for bytes that end inside a line, and for a line that is not good
unfoldable pub started : List ℕ → Bool → Bool → Stepped Desk
started given keep retain =
    pick (leb (length given / given_width) Layout.line_places)
    (pick (eqb (length given / given_width * given_width) (length given))
    (started_by (take_lines (length given / given_width) 0 given (with_settings (replicate Layout.words 0) keep retain)))
    refused_start)
    refused_start
