-- The sentences of document 02, Ask 6, on one tick of the line desk: which records expire and in what order, and what is left. Each claim is a type; its proof has its name.
use Rattle.std.specs.Prelude.{ℕ, zero, suc, ◌≡◌, true, false, List, [], ◌∷◌, map, length, None}
use Rattle.lists.specs.Choice.{pick}
use Rattle.lists.specs.Lists.{without}
use Rattle.line_records.specs.Layout as Layout
use Rattle.line_records.specs.Records.{blank, records}
use Rattle.line_records.specs.Lines.{lines}
use Rattle.line_records.specs.Deadlines.{guards, expiring_at}
use Rattle.line.specs.Steps.{step}
use Rattle.line.specs.Ticks.{report, ticked, sendings}
use Rattle.line.specs.declared.Desk.{Desk}
use Rattle.line_sound.specs.Sound.{Reached}

-- ---- a record whose guard is due: its report is taken, and the record goes, its deadline with it
pub record Expires (d : Desk) (count place : ℕ) : Type 0 where
  pub taken : (step d count (report place)).outcome.refusal ≡ None
  pub gone : records (step d count (report place)).desk.words ≡ without blank (records d.words) place
  pub deadlines : guards (step d count (report place)).desk.words ≡ without 0 (guards d.words) place
  pub others : lines (step d count (report place)).desk.words ≡ lines d.words

abbrev pub DueExpires : Type 0
DueExpires =
    (d : Desk) (count place : ℕ) → length d.words ≡ Layout.words → expiring_at count d.words place ≡ true → Expires d count place

-- ---- a tick: every record whose guard is due expires, once and from the oldest on, and no other
-- the places of those among the n from place i on
unfoldable pub due_from : ℕ → ℕ → ℕ → List ℕ → List ℕ
due_from zero i count words = []
due_from (suc n) i count words = pick (expiring_at count words i) (i ∷ due_from n (suc i) count words) (due_from n (suc i) count words)

-- of those that expire in a tick, as they were before it
abbrev pub places_of : Desk → ℕ → List ℕ
places_of d count = map (λ expiry. expiry.place) (ticked d count).expired

abbrev pub TickExpires : Type 0
TickExpires = (d : Desk) (count : ℕ) → length d.words ≡ Layout.words → places_of d count ≡ due_from Layout.places 0 count d.words

-- what it sends is what the reports send, each by itself on the desk as it is before the tick
abbrev pub TickSends : Type 0
TickSends =
    (d : Desk) (count : ℕ) → length d.words ≡ Layout.words →
    map (λ expiry. expiry.outcome.sending) (ticked d count).expired ≡ sendings d count

-- afterwards none is due
abbrev pub NoneDue : Type 0
NoneDue = (d : Desk) (count : ℕ) → length d.words ≡ Layout.words → (place : ℕ) → expiring_at count (ticked d count).desk.words place ≡ false

-- a desk that is reached, after a tick
abbrev pub TickReached : Type 0
TickReached = (d : Desk) → Reached d → (count : ℕ) → Reached (ticked d count).desk
