-- The words of a line desk at rest, by name: records first, behind them lines, behind them the two settings (document 01, "The two desks": 32 records, 16 lines).
use Rattle.std.specs.Prelude.{ℕ, ◌+◌, ◌*◌}
use Rattle.terms.specs.Terms as Terms

-- ---- a record: its terms, its state, the activity mark, the suspended mark, the mark "connection down", and last the guard's deadline
abbrev pub active_at : ℕ
active_at = Terms.width + 1

abbrev pub suspended_at : ℕ
suspended_at = Terms.width + 2

abbrev pub down_at : ℕ
down_at = Terms.width + 3

abbrev pub guard_at : ℕ
guard_at = Terms.width + 4

abbrev pub width : ℕ
width = Terms.width + 5

abbrev pub places : ℕ
places = 32

-- the code of the last state
abbrev pub last_state : ℕ
last_state = 3

-- ---- a line: its number, two kinds, its status
abbrev pub line_width : ℕ
line_width = 5

abbrev pub line_places : ℕ
line_places = 16

abbrev pub lines_at : ℕ
lines_at = places * width

-- ---- the settings
abbrev pub keeps_at : ℕ
keeps_at = lines_at + line_places * line_width

abbrev pub retains_at : ℕ
retains_at = keeps_at + 1

-- ---- all of them
abbrev pub words : ℕ
words = retains_at + 1
