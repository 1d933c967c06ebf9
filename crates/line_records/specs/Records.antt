-- The records of the line desk: what the first words of a desk are, as a list of records, and a record put, turned or removed.
use Rattle.std.specs.Prelude.{ℕ, Bool, true, false, List, [], ◌∷◌, ◌++◌, map, get_or, ltb, eqb, Option, Some}
use Rattle.lists.specs.Choice.{pick}
use Rattle.lists.specs.Lists.{both, first}
use Rattle.lists.specs.declared.words.Words.{Words}
use Rattle.store.specs.Rows.{state_word, rows, put_row, turn_row, drop_row}
use Rattle.desk.specs.Letter.{same_identifier}
use Rattle.terms.specs.Codes.{kind_code, flag_code}
use Rattle.terms.specs.Terms.{kind_at, terms_of, terms_words}
use Rattle.line_table.specs.Search.{used}
use Rattle.line_table.specs.declared.table.State.{State}
use Rattle.line_table.specs.declared.record.Record.{Record}
use Rattle.line_table.specs.declared.record.Turned.{Turned}
use Rattle.line_records.specs.Layout.{active_at, suspended_at, down_at, width, places}
use Rattle.line_records.specs.Codes.{state_of, state_code}

-- a row of words as a record
unfoldable pub record_of : List ℕ → Record
record_of row =
    record {
      terms = terms_of row;
      state = state_of (state_word row);
      active = eqb (get_or row active_at 0) 1;
      suspended = eqb (get_or row suspended_at 0) 1;
      down = eqb (get_or row down_at 0) 1;
    }

-- a record as a row of words: its terms, and behind them its state and its marks
abbrev pub state_words : State → Bool → Bool → Bool → List ℕ
state_words state active suspended down = state_code state ∷ flag_code active ∷ flag_code suspended ∷ flag_code down ∷ []

abbrev pub record_words : Record → List ℕ
record_words r = terms_words r.terms ++ state_words r.state r.active r.suspended r.down

-- the words of a row that a turn puts anew, from the kind on, which stands last in the terms
abbrev pub turned_words : Turned → List ℕ
turned_words t = kind_code t.kind ∷ state_words t.state t.active t.suspended t.down

-- what a free place holds, and what is read past the last
abbrev pub blank : Record
blank = record_of []

-- all that the other definitions see of the records' words
unfoldable pub records : List ℕ → List Record
records words = map record_of (rows width places words)

abbrev pub unused : Record → Bool
unused r = pick (used r) false true

-- the record in use with that identifier
abbrev pub identified : Words → Record → Bool
identified identifier r = both (same_identifier r.terms.identifier (Some identifier)) (used r)

unfoldable pub meant : Words → List Record → Option ℕ
meant identifier rs = first (identified identifier) rs

-- the first place that is not used
unfoldable pub place : List Record → Option ℕ
place rs = first unused rs

-- the words with a record at a place, with a place's record turned, and with it removed; a place that is not there changes nothing
unfoldable pub put_record : List ℕ → ℕ → Record → List ℕ
put_record words i r = pick (ltb i places) (put_row width words i (record_words r)) words

unfoldable pub turn_record : List ℕ → ℕ → Turned → List ℕ
turn_record words i t = pick (ltb i places) (turn_row width words i kind_at (turned_words t)) words

unfoldable pub removed : List ℕ → ℕ → List ℕ
removed words i = pick (ltb i places) (drop_row width places words i) words
