-- The clerk's records: what the words of a desk are, as a list of sixteen records, and what a planned change makes of the words.
use Rattle.std.specs.Prelude.{ℕ, Bool, true, false, List, [], ◌∷◌, ◌++◌, map, get_or, set, ltb, eqb, Option, Some}
use Rattle.lists.specs.Choice.{pick}
use Rattle.lists.specs.Lists.{both, first, without}
use Rattle.lists.specs.declared.words.Words.{Words}
use Rattle.desk.specs.Letter.{same_identifier}
use Rattle.store.specs.Rows.{state_word, rows, put_row, turn_row, removed_row}
use Rattle.terms.specs.Codes.{flag_code}
use Rattle.terms.specs.Terms.{choices_at, terms_of, choice_words, terms_words, with_choices, with_kind}
use Rattle.clerk_table.specs.Table.{in_use}
use Rattle.clerk_table.specs.Record.{with_state, with_terms, with_down}
use Rattle.clerk_table.specs.declared.record.Record.{Record}
use Rattle.clerk_table.specs.declared.record.Turned.{Turned}
use Rattle.clerk_table.specs.declared.record.Change.{Change}
use Rattle.clerk_table.specs.declared.record.Change.TheVariants.{Stay, Put, Turn, Remove}
use Rattle.clerk_records.specs.Codes.{state_of, state_code}
use Rattle.clerk_records.specs.Layout.{width, down_at, can_keep_at, places}

-- a row of words as a record
unfoldable pub record_of : List ℕ → Record
record_of row =
    record { terms = terms_of row; state = state_of (state_word row); canKeep = eqb (get_or row can_keep_at 0) 1; down = eqb (get_or row down_at 0) 1 }

-- a record as a row of words
abbrev pub record_words : Record → List ℕ
record_words r = terms_words r.terms ++ (state_code r.state ∷ flag_code r.down ∷ flag_code r.canKeep ∷ [])

-- the words of a row that a turn puts anew, from the choices on
abbrev pub turned_words : Turned → List ℕ
turned_words t = choice_words t.keep t.connection t.kind ++ (state_code t.state ∷ flag_code t.down ∷ [])

-- what a free place holds, and what is read past the last
abbrev pub blank : Record
blank = record_of []

-- all that the other definitions see of a desk's words
unfoldable pub records : List ℕ → List Record
records words = map record_of (rows width places words)

-- a place is used if its record has a state
abbrev pub used : Record → Bool
used r = in_use r.state

abbrev pub unused : Record → Bool
unused r = pick (used r) false true

-- the record in use with that identifier
abbrev pub identified : Words → Record → Bool
identified identifier r = both (same_identifier r.terms.identifier (Some identifier)) (used r)

unfoldable pub meant : Words → List Record → Option ℕ
meant identifier rs = first (identified identifier) rs

-- the first place that is not used
unfoldable pub place : List Record → Option ℕ
place rs = first unused rs

-- ---- a planned change
-- a record with other choices, of another kind, in another state and with the mark or without it
abbrev pub turned : Turned → Record → Record
turned t r = with_down (with_state (with_terms r (with_kind (with_choices r.terms t.keep t.connection) t.kind)) t.state) t.down

-- the records afterwards
abbrev pub records_after : List Record → Change → List Record
records_after rs Stay = rs
records_after rs (Put i r) = set rs i r
records_after rs (Turn i t) = set rs i (turned t (get_or rs i blank))
records_after rs (Remove i) = without blank rs i

-- the words afterwards; a place that is not there changes nothing
unfoldable pub applied : List ℕ → Change → List ℕ
applied words Stay = words
applied words (Put i r) = pick (ltb i places) (put_row width words i (record_words r)) words
applied words (Turn i t) = pick (ltb i places) (turn_row width words i choices_at (turned_words t)) words
applied words (Remove i) = removed_row width places words i
