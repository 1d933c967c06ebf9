-- The promise of time at the line desk (document 02, Ask 6): over true time in seconds that never goes back, where the count is that time modulo 2^32 and a tick is made at least once a day. Each claim is a type; its proof has its name.
use Rattle.std.specs.Prelude.{ℕ, zero, suc, ◌+◌, ◌%◌, ◌≤◌, ◌<◌, ◌≡◌, Bool, true, false, List, get_or, set, replicate, eqb, Ok, Err, Result}
use Rattle.lists.specs.Choice.{pick}
use Rattle.lists.specs.Lists.{count, without}
use Rattle.lists.specs.Words.{Bytes}
use Rattle.message.specs.declared.refusal.Refusal.{Refusal}
use Rattle.clock.specs.Clock.{turn}
use Rattle.places.specs.Notes.{Note, unstarted, started, Passed, day}
use Rattle.line_table.specs.Search.{used}
use Rattle.line_table.specs.declared.inputs.Input.{Input}
use Rattle.line_table.specs.declared.record.Change.{Change}
use Rattle.line_table.specs.declared.record.Change.TheVariants.{Stay, Put, Turn, Remove, Report}
use Rattle.line_records.specs.Layout as Layout
use Rattle.line_records.specs.Records.{blank, records}
use Rattle.line_records.specs.Deadlines.{guard_length, expiring_at}
use Rattle.line_plan.specs.Plan.{plan_for}
use Rattle.line.specs.Start as Start
use Rattle.line.specs.Entry.{bytes_entry}
use Rattle.line.specs.Steps.{step, received_bytes}
use Rattle.line.specs.Ticks.{report, ticked}
use Rattle.line.specs.declared.Desk.{Desk}
use Rattle.line_sound.specs.Sound.{Fair}
use Rattle.line_sound.specs.Ticking.{places_of}

-- ---- what is noted of a place: when the guard of its record was started, and for how many seconds
-- a record that is stored has its guard started; those behind one that is removed move up
abbrev pub notes_after : Change → ℕ → List Note → List Note
notes_after Stay now ns = ns
notes_after (Put i r) now ns = set ns i (started now (guard_length r.terms.kind))
notes_after (Turn t i) now ns = ns
notes_after (Remove i) now ns = without unstarted ns i
notes_after (Report k number busy) now ns = ns

-- bytes that are read are the step of an input, or refused
abbrev pub notes_entered : Desk → Result Input Refusal → ℕ → List Note → List Note
notes_entered d (Err refusal) now ns = ns
notes_entered d (Ok input) now ns = notes_after (plan_for d.words input).change now ns

-- ---- a desk in true time: the notes beside it, the time now and that of the last tick
pub data Lasting : Desk → List Note → ℕ → ℕ → Type 0 where
  begins :
      (given : List ℕ) (keep retain : Bool) → Bytes given → (now : ℕ) →
      Lasting (Start.started given keep retain).desk (replicate Layout.places unstarted) now now
  passes : {d : Desk} {ns : List Note} {now last : ℕ} (later : ℕ) → now ≤ later → Lasting d ns now last → Lasting d ns later last
  steps :
      {d : Desk} {ns : List Note} {now last : ℕ} {input : Input} → Fair input → Lasting d ns now last →
      Lasting (step d (now % turn) input).desk (notes_after (plan_for d.words input).change now ns) now last
  reads :
      {d : Desk} {ns : List Note} {now last : ℕ} (bytes : List ℕ) (place : ℕ) → Bytes bytes → Lasting d ns now last →
      Lasting (received_bytes d (now % turn) bytes place).desk (notes_entered d (bytes_entry bytes place).entry now ns) now last
  -- a tick has been made (`TickLasts`): its reports are steps, and when it is over none is due. The one before was at most a day ago
  ticks :
      {d : Desk} {ns : List Note} {now last : ℕ} → now ≤ last + day → ((place : ℕ) → expiring_at (now % turn) d.words place ≡ false) → Lasting d ns now last →
      Lasting d ns now now

-- ---- a tick carries it on: with a record that expires goes its note, and every other stays
-- n places are left to look at, the next is place `at`, as in `ticking`
unfoldable pub notes_left_from : ℕ → ℕ → ℕ → Desk → List Note → List Note
notes_left_from zero at count d ns = ns
notes_left_from (suc n) at count d ns =
    pick (expiring_at count d.words at)
    (notes_left_from n at count (step d count (report at)).desk (without unstarted ns at))
    (notes_left_from n (suc at) count d ns)

abbrev pub notes_left : Desk → ℕ → List Note → List Note
notes_left d count ns = notes_left_from Layout.places 0 count d ns

abbrev pub TickLasts : Type 0
TickLasts =
    (d : Desk) (ns : List Note) (now last : ℕ) → Lasting d ns now last → now ≤ last + day →
    Lasting (ticked d (now % turn)).desk (notes_left d (now % turn) ns) now now

-- ---- no guard runs out in a tick before its seconds have passed
abbrev pub NothingEarly : Type 0
NothingEarly =
    (d : Desk) (ns : List Note) (now last : ℕ) → Lasting d ns now last → (place : ℕ) → expiring_at (now % turn) d.words place ≡ true →
    Passed (get_or ns place unstarted) now

-- ---- and every record whose guard's seconds have passed is due at the next tick
abbrev pub DueInTick : Type 0
DueInTick =
    (d : Desk) (ns : List Note) (now last : ℕ) → Lasting d ns now last → now ≤ last + day → (place : ℕ) → used (get_or (records d.words) place blank) ≡ true →
    Passed (get_or ns place unstarted) now → expiring_at (now % turn) d.words place ≡ true

-- ---- so a tick takes a record exactly if its guard's seconds have passed, and takes it once
pub record Over (d : Desk) (ns : List Note) (now place : ℕ) : Type 0 where
  pub its : used (get_or (records d.words) place blank) ≡ true
  pub passed : Passed (get_or ns place unstarted) now

pub record InTime (d : Desk) (ns : List Note) (now place : ℕ) : Type 0 where
  pub early : 0 < count (eqb place) (places_of d (now % turn)) → Over d ns now place
  pub expires : Over d ns now place → count (eqb place) (places_of d (now % turn)) ≡ 1

abbrev pub TickInTime : Type 0
TickInTime = (d : Desk) (ns : List Note) (now last : ℕ) → Lasting d ns now last → now ≤ last + day → (place : ℕ) → InTime d ns now place
