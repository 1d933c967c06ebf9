-- Tables of words: a text, whose entries each end with a newline, byte 10.
use Rattle.std.specs.Prelude.{ℕ, zero, suc, List, [], ◌∷◌, eqb}
use Rattle.lists.specs.Choice.{pick}

-- the table from an entry on; behind the last one there is nothing
unfoldable pub entries_from : List ℕ → ℕ → List ℕ
entries_from [] entry = []
entries_from (byte ∷ table) zero = byte ∷ table
entries_from (byte ∷ table) (suc entry) = pick (eqb byte 10) (entries_from table entry) (entries_from table (suc entry))

-- what stands in front of the first newline
unfoldable pub line_of : List ℕ → List ℕ
line_of [] = []
line_of (byte ∷ text) = pick (eqb byte 10) [] (byte ∷ line_of text)

abbrev pub entry_of : List ℕ → ℕ → List ℕ
entry_of table entry = line_of (entries_from table entry)
