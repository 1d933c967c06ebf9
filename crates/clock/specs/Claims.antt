-- The count over true time: what "due" says of a timer that was started at a true time, where the count is the true time modulo 2^32. Each claim is a type; its proof has its name.
use Rattle.std.specs.Prelude.{◌≡◌, ℕ, ◌+◌, ◌%◌, ◌<◌, ◌≤◌, true}
use Rattle.clock.specs.Clock.{turn, half_turn, deadline_of, due}

-- a timer of so many seconds that was started at one true time, and is looked at at another
abbrev pub DueNow : ℕ → ℕ → ℕ → Type 0
DueNow started seconds now = due (now % turn) (deadline_of (started % turn) seconds) ≡ true

-- no timer of at most 2^31 seconds is due before its seconds have passed, however long ago it was looked at last
abbrev pub NeverEarly : Type 0
NeverEarly = (started seconds now : ℕ) → started ≤ now → seconds ≤ half_turn → DueNow started seconds now → started + seconds ≤ now

-- and for 2^31 seconds after they have passed it is due
abbrev pub DueInTime : Type 0
DueInTime = (started seconds now : ℕ) → started + seconds ≤ now → now < started + seconds + half_turn → DueNow started seconds now
