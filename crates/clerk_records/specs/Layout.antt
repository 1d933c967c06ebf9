-- How the clerk's records stand in words: each width, count and total, by name.
use Rattle.std.specs.Prelude.{ℕ, ◌+◌, ◌*◌}
use Rattle.terms.specs.Terms as Terms

-- a record's words: its terms, the state and the mark "connection down" behind them, can-keep, and last two deadlines: that of T1 or, from the result on, of T2; and that of T3
abbrev pub width : ℕ
width = Terms.width + 5

abbrev pub down_at : ℕ
down_at = Terms.width + 1

abbrev pub can_keep_at : ℕ
can_keep_at = Terms.width + 2

abbrev pub deadlines_at : ℕ
deadlines_at = Terms.width + 3

abbrev pub places : ℕ
places = 16

-- behind the records the lengths of the timers: T1, T2 of CCBS, T2 of CCNR, T3
abbrev pub lengths_at : ℕ
lengths_at = places * width

abbrev pub words : ℕ
words = lengths_at + 4

-- a state's word is from 1 to this; any other is no record
abbrev pub last_state : ℕ
last_state = 5
