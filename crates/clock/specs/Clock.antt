-- A count of seconds that runs freely and wraps to zero at 2^32 (document 02, Ask 6): when a timer runs out, and whether it has.
use Rattle.std.specs.Prelude.{ℕ, ◌+◌, ◌-◌, ◌%◌, Bool, nat_lt}

-- 2^32: the count after 4294967295 is 0
abbrev pub turn : ℕ
turn = 4294967296

-- 2^31: what is less behind the count has passed, and all else is still to come
abbrev pub half_turn : ℕ
half_turn = 2147483648

-- a timer of so many seconds that is started at a count runs out at that count and the seconds, modulo 2^32
unfoldable pub deadline_of : ℕ → ℕ → ℕ
deadline_of count seconds = (count + seconds) % turn

-- how long a deadline has passed: the count less the deadline, modulo 2^32
abbrev pub since : ℕ → ℕ → ℕ
since count deadline = (count + (turn - deadline)) % turn

-- it is due if that is under 2^31
unfoldable pub due : ℕ → ℕ → Bool
due count deadline = nat_lt (since count deadline) half_turn
