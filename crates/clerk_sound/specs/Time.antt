-- The promise of time at the clerk's desk (document 02, Ask 6): over true time in seconds that never goes back, where the count is that time modulo 2^32, a tick is made at least once a day, and no record is found in Ringout by one tick after the other for more than 2^30 seconds and a day. Each claim is a type; its proof has its name.
use Rattle.std.specs.Prelude.{ℕ, ◌+◌, ◌%◌, ◌≤◌, ◌<◌, ◌≡◌, Bool, true, List, get_or, replicate, eqb, Some, None}
use Rattle.lists.specs.Lists.{count}
use Rattle.clock.specs.Clock.{turn}
use Rattle.places.specs.Notes.{Passed, day}
use Rattle.clerk_table.specs.Inputs.{row_of_timer}
use Rattle.clerk_table.specs.declared.inputs.Input.{Input}
use Rattle.clerk_table.specs.declared.table.State.TheVariants.{Ringout}
use Rattle.clerk_table.specs.declared.table.Timer.{Timer}
use Rattle.clerk_records.specs.Layout as Layout
use Rattle.clerk_records.specs.Records.{blank, records}
use Rattle.clerk_records.specs.Deadlines.{expiring_at}
use Rattle.clerk_plan.specs.Plan.{holds_for, plan_for}
use Rattle.clerk.specs.Start.{good_lengths, started_desk}
use Rattle.clerk.specs.Entry.{bytes_entry}
use Rattle.clerk.specs.Steps.{step, received_bytes}
use Rattle.clerk.specs.Ticks.{ticked}
use Rattle.clerk.specs.declared.start.Lengths.{Lengths}
use Rattle.clerk.specs.declared.Desk.{Desk}
use Rattle.clerk_sound.specs.Ticking.{places_of}
use Rattle.clerk_sound.specs.Notes.{Notes, no_notes, note_in, notes_after, notes_entered, notes_left, notes_ticked}

-- ---- a desk in true time
-- 2^30 seconds, some 34 years, and a day: no tick finds a record in Ringout when the last one that heeded it is longer ago. So it may be in Ringout for 2^30 seconds, since it came there at most a day after that one
abbrev pub long : ℕ
long = 1073741824 + day

abbrev pub NotLong : Desk → List Notes → ℕ → Type 0
NotLong d ns now = (place : ℕ) → (get_or (records d.words) place blank).state ≡ Ringout → now ≤ (get_or ns place no_notes).heeded + long

-- the notes beside the desk, the time now and that of the last tick
pub data Lasting (lengths : Lengths) : Desk → List Notes → ℕ → ℕ → Type 0 where
  begins : good_lengths lengths ≡ true → (now : ℕ) → Lasting lengths (started_desk lengths) (replicate Layout.places no_notes) now now
  passes : {d : Desk} {ns : List Notes} {now last : ℕ} (later : ℕ) → now ≤ later → Lasting lengths d ns now last → Lasting lengths d ns later last
  steps :
      {d : Desk} {ns : List Notes} {now last : ℕ} (input : Input) → Lasting lengths d ns now last →
      Lasting lengths (step d (now % turn) input).desk (notes_after lengths (records d.words) (plan_for (records d.words) input) now ns) now last
  reads :
      {d : Desk} {ns : List Notes} {now last : ℕ} (bytes : List ℕ) (busy : Bool) (place : ℕ) → Lasting lengths d ns now last →
      Lasting lengths (received_bytes d (now % turn) bytes busy place).desk (notes_entered lengths d (bytes_entry bytes busy place).entry now ns) now last
  -- a tick has been made (`TickLasts`): its reports are steps, and when it is over none is due. The one before was at most a day ago
  ticks :
      {d : Desk} {ns : List Notes} {now last : ℕ} → now ≤ last + day → ((place : ℕ) → expiring_at (now % turn) d.words place ≡ None) → NotLong d ns now →
      Lasting lengths d ns now last → Lasting lengths d (notes_ticked now (records d.words) ns) now now

-- ---- a tick carries it on
abbrev pub TickLasts : Type 0
TickLasts =
    (lengths : Lengths) (d : Desk) (ns : List Notes) (now last : ℕ) → Lasting lengths d ns now last → now ≤ last + day → NotLong d ns now →
    let after = (ticked d (now % turn)).desk in
    Lasting lengths after (notes_ticked now (records after.words) (notes_left d (now % turn) ns)) now now

-- ---- no timer runs out in a tick before its seconds have passed
abbrev pub NothingEarly : Type 0
NothingEarly =
    (lengths : Lengths) (d : Desk) (ns : List Notes) (now last : ℕ) → Lasting lengths d ns now last → (place : ℕ) (timer : Timer) →
    expiring_at (now % turn) d.words place ≡ Some timer → Passed (note_in (get_or ns place no_notes) timer) now

-- ---- and every record with a timer whose seconds have passed, in a state in which the table takes its report, is due at the next tick
pub record Due (d : Desk) (count place : ℕ) : Type 0 where
  -- that timer, or one that comes before it
  pub timer : Timer
  pub due : expiring_at count d.words place ≡ Some timer

abbrev pub DueInTick : Type 0
DueInTick =
    (lengths : Lengths) (d : Desk) (ns : List Notes) (now last : ℕ) → Lasting lengths d ns now last → now ≤ last + day → (place : ℕ) (timer : Timer) →
    holds_for (row_of_timer timer) (get_or (records d.words) place blank) ≡ true → Passed (note_in (get_or ns place no_notes) timer) now →
    Due d (now % turn) place

-- ---- so a tick takes a record exactly if it has such a timer, and takes it once
pub record Over (d : Desk) (ns : List Notes) (now place : ℕ) : Type 0 where
  pub timer : Timer
  -- a record in use, and not in Ringout
  pub its : holds_for (row_of_timer timer) (get_or (records d.words) place blank) ≡ true
  pub passed : Passed (note_in (get_or ns place no_notes) timer) now

pub record InTime (d : Desk) (ns : List Notes) (now place : ℕ) : Type 0 where
  pub early : 0 < count (eqb place) (places_of d (now % turn)) → Over d ns now place
  pub expires : Over d ns now place → count (eqb place) (places_of d (now % turn)) ≡ 1

abbrev pub TickInTime : Type 0
TickInTime =
    (lengths : Lengths) (d : Desk) (ns : List Notes) (now last : ℕ) → Lasting lengths d ns now last → now ≤ last + day → (place : ℕ) → InTime d ns now place
