-- What is noted of a timer beside the place of its record, over true time (document 02, Ask 6): when it was started, and for how many seconds.
use Rattle.std.specs.Prelude.{ℕ, ◌+◌, ◌≤◌, ◌≡◌}

pub data Note : Type 0 where
  unstarted : Note
  started : ℕ → ℕ → Note

-- its seconds have passed
pub record Passed (note : Note) (now : ℕ) : Type 0 where
  pub time : ℕ
  pub seconds : ℕ
  pub noted : note ≡ started time seconds
  pub passed : time + seconds ≤ now

-- a tick is made at least once a day
abbrev pub day : ℕ
day = 86400
