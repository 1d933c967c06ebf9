-- The lines and settings of the line desk, in the words behind the records.
use Rattle.std.specs.Prelude.{ℕ, Bool, List, [], ◌∷◌, ◌++◌, map, get_or, take, drop, set, ltb, eqb, Option}
use Rattle.lists.specs.Choice.{pick}
use Rattle.lists.specs.Lists.{first}
use Rattle.lists.specs.Words.{same_words}
use Rattle.lists.specs.declared.words.Words.{Words}
use Rattle.store.specs.Rows.{rows, put_row}
use Rattle.terms.specs.Codes.{flag_code}
use Rattle.line_table.specs.declared.line.Line.{Line}
use Rattle.line_records.specs.Layout.{line_width, line_places, lines_at, keeps_at, retains_at}

-- a row of words as a line
unfoldable pub line_of : List ℕ → Line
line_of row =
    record {
      number = record { low = get_or row 0 0; high = get_or row 1 0 };
      ccbs = eqb (get_or row 2 0) 1;
      ccnr = eqb (get_or row 3 0) 1;
      busy = eqb (get_or row 4 0) 1;
    }

-- a line as a row of words
abbrev pub line_words : Line → List ℕ
line_words line = line.number.low ∷ line.number.high ∷ flag_code line.ccbs ∷ flag_code line.ccnr ∷ flag_code line.busy ∷ []

-- what a place without a line holds, and what is read past the last
abbrev pub no_line : Line
no_line = line_of []

-- all that the other definitions see of the lines' words
unfoldable pub lines : List ℕ → List Line
lines words = map line_of (rows line_width line_places (drop lines_at words))

-- which line is meant: the one with that number
abbrev pub has_number : Words → Line → Bool
has_number number line = same_words line.number number

unfoldable pub line_at : Words → List Line → Option ℕ
line_at number ls = first (has_number number) ls

-- the words with a line at a place; a place that is not there changes nothing
unfoldable pub over_line : List ℕ → ℕ → Line → List ℕ
over_line words k line = take lines_at words ++ put_row line_width (drop lines_at words) k (line_words line)

unfoldable pub put_line : List ℕ → ℕ → Line → List ℕ
put_line words k line = pick (ltb k line_places) (over_line words k line) words

-- ---- the settings: whether the desk keeps requests, and whether it retains connections by default
unfoldable pub keeps : List ℕ → Bool
keeps words = eqb (get_or words keeps_at 0) 1

unfoldable pub retains : List ℕ → Bool
retains words = eqb (get_or words retains_at 0) 1

unfoldable pub with_settings : List ℕ → Bool → Bool → List ℕ
with_settings words keep retain = set (set words keeps_at (flag_code keep)) retains_at (flag_code retain)
