-- The sentences of document 02, Ask 6, on one tick of the clerk's desk: which records expire and in what order, and what is left. Each claim is a type; its proof has its name.
use Rattle.std.specs.Prelude.{ℕ, zero, suc, ◌≡◌, false, List, [], ◌∷◌, map, length, get_or, eqb, Some, None}
use Rattle.lists.specs.Lists as Lists
use Rattle.lists.specs.Lists.{without}
use Rattle.desk.specs.declared.outcome.Notice.TheVariants.{Failed}
use Rattle.clerk_table.specs.declared.table.State.TheVariants.{Ringout}
use Rattle.clerk_table.specs.declared.table.Timer.{Timer}
use Rattle.clerk_records.specs.Layout as Layout
use Rattle.clerk_records.specs.Records.{blank, records}
use Rattle.clerk_records.specs.Deadlines.{no_deadlines, deadlines, expiring_at}
use Rattle.clerk.specs.Steps.{step}
use Rattle.clerk.specs.Ticks.{report, by_timer, ticked, sendings}
use Rattle.clerk.specs.declared.Desk.{Desk}
use Rattle.clerk_sound.specs.Sound.{Reached}

-- ---- a record with a timer that is due: its report is taken, User A learns that the request failed, and the record goes, its deadlines with it
pub record Expires (d : Desk) (count place : ℕ) (timer : Timer) : Type 0 where
  pub taken : (step d count (report place timer)).outcome.refusal ≡ None
  pub told : (step d count (report place timer)).outcome.notice ≡ Failed
  -- none expires in Ringout, so there is no call to clear
  pub quiet : (step d count (report place timer)).outcome.clear ≡ false
  pub gone : records (step d count (report place timer)).desk.words ≡ without blank (records d.words) place
  pub forgotten : deadlines (step d count (report place timer)).desk.words ≡ without no_deadlines (deadlines d.words) place

abbrev pub DueExpires : Type 0
DueExpires =
    (d : Desk) (count place : ℕ) (timer : Timer) → length d.words ≡ Layout.words → expiring_at count d.words place ≡ Some timer → Expires d count place timer

-- ---- a tick: every record with a timer that is due expires, once and from the oldest on, and no other
-- the places of those among the n from place i on
unfoldable pub due_from : ℕ → ℕ → ℕ → List ℕ → List ℕ
due_from zero i count words = []
due_from (suc n) i count words = by_timer (expiring_at count words i) (λ timer. i ∷ due_from n (suc i) count words) (due_from n (suc i) count words)

-- of those that expire in a tick, as they were before it
abbrev pub places_of : Desk → ℕ → List ℕ
places_of d count = map (λ expiry. expiry.place) (ticked d count).expired

abbrev pub TickExpires : Type 0
TickExpires = (d : Desk) (count : ℕ) → length d.words ≡ Layout.words → places_of d count ≡ due_from Layout.places 0 count d.words

-- what it sends is what the reports send, each by itself on the desk as it is before the tick
abbrev pub TickSends : Type 0
TickSends =
    (d : Desk) (count : ℕ) → length d.words ≡ Layout.words →
    map (λ expiry. expiry.outcome.sending) (ticked d count).expired ≡ sendings d count

-- T2 runs on in Ringout, and a record does not expire there
abbrev pub RingoutStays : Type 0
RingoutStays =
    (d : Desk) (count place : ℕ) → length d.words ≡ Layout.words → (get_or (records d.words) place blank).state ≡ Ringout →
    Lists.count (eqb place) (places_of d count) ≡ 0

-- afterwards none is due
abbrev pub NoneDue : Type 0
NoneDue = (d : Desk) (count : ℕ) → length d.words ≡ Layout.words → (place : ℕ) → expiring_at count (ticked d count).desk.words place ≡ None

-- a desk that is reached, after a tick
abbrev pub TickReached : Type 0
TickReached = (d : Desk) → Reached d → (count : ℕ) → Reached (ticked d count).desk
