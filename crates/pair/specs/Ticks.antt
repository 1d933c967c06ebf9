-- A tick as the run has it (document 02, Ask 6): its reports by hand, one after the other. So each expiry counts as its own report, and what is claimed of every run holds over ticks too.
use Rattle.std.specs.Prelude.{ℕ, zero, suc}
use mathlib.Core.{Path.◌≡◌, List.List, List.[], List.◌∷◌, List.◌++◌, List.map}
use Rattle.lists.specs.Choice.{pick}
use Rattle.message.specs.declared.Message.{Message}
use Rattle.desk.specs.declared.outcome.Outcome.{Outcome}
use Rattle.clerk_records.specs.{Layout.places as clerk_places, Deadlines.expiring_at as timer_expires}
use Rattle.clerk.specs.Ticks as Clerk
use Rattle.line_records.specs.{Layout.places as line_places, Deadlines.expiring_at as guard_expires}
use Rattle.line.specs.Ticks as Line
use Rattle.pair.specs.World.{Of, World, Event, clerk_does, line_does, sent_by, next, Allowed, Run, Any, Once, Apart}

-- the report of the timer that runs out at a place of an end, if one does
pub data Report : Type 0 where
  none : Report
  one : Event → Report

abbrev pub whether : Report → World → (Event → World) → World
whether none on ended = on
whether (one e) on ended = ended e

-- so many places are left to look at, from that one on; behind a record that ended the others move up
unfoldable pub ticking : (World → ℕ → Report) → ℕ → ℕ → World → World
ticking due zero at w = w
ticking due (suc n) at w = whether (due w at) (ticking due n (suc at) w) (λ e. ticking due n at (next w e))

-- ---- at each end
abbrev pub clerk_report : World → ℕ → Report
clerk_report w at = Clerk.by_timer (timer_expires w.count w.clerk.words at) (λ timer. one (clerk_does (Clerk.report at timer))) none

abbrev pub line_report : World → ℕ → Report
line_report w at = pick (guard_expires w.count w.line.words at) (one (line_does (Line.report at))) none

abbrev pub clerk_ticked : World → World
clerk_ticked w = ticking clerk_report clerk_places 0 w

abbrev pub line_ticked : World → World
line_ticked w = ticking line_report line_places 0 w

-- what the reports send, one behind the other
unfoldable pub sent_of : List Outcome → List Message
sent_of [] = []
sent_of (o ∷ os) = sent_by o.sending ++ sent_of os

abbrev pub carried : List (Of Message) → List Message
carried xs = map (λ x. x.it) xs

-- the run's tick is the desk's: it leaves the same desk, its messages go on the wire behind those under way, and the other end and the other wire stay
pub record ClerkTick (w : World) : Type 0 where
  pub desk : (clerk_ticked w).clerk ≡ (Clerk.ticked w.clerk w.count).desk
  pub sent : carried (clerk_ticked w).up ≡ carried w.up ++ sent_of (map (λ e. e.outcome) (Clerk.ticked w.clerk w.count).expired)
  pub line : (clerk_ticked w).line ≡ w.line
  pub down : (clerk_ticked w).down ≡ w.down

pub record LineTick (w : World) : Type 0 where
  pub desk : (line_ticked w).line ≡ (Line.ticked w.line w.count).desk
  pub sent : carried (line_ticked w).down ≡ carried w.down ++ sent_of (map (λ e. e.outcome) (Line.ticked w.line w.count).expired)
  pub clerk : (line_ticked w).clerk ≡ w.clerk
  pub up : (line_ticked w).up ≡ w.up

abbrev pub TickIsReports : Type 0
TickIsReports = (w : World) → ClerkTick w × LineTick w

-- ---- a run in which a tick at either end is an event too, at any time
pub data TickRun (Holds : World → Event → Type 0) (first : World) : World → Type 0 where
  begins : TickRun Holds first first
  goes : {w : World} → TickRun Holds first w → (e : Event) → Allowed w e → Holds w e → TickRun Holds first (next w e)
  clerk_ticks : {w : World} → TickRun Holds first w → TickRun Holds first (clerk_ticked w)
  line_ticks : {w : World} → TickRun Holds first w → TickRun Holds first (line_ticked w)

-- it is a run, under each of demand 3's premises: so what demand 3 says of every run it says of these
abbrev pub IsRun : (World → Event → Type 0) → Type 0
IsRun Holds = (first w : World) → TickRun Holds first w → Run Holds first w

pub record RunsOverTicks : Type 0 where
  pub any : IsRun Any
  pub once : IsRun Once
  pub apart : (o : ℕ) → IsRun (Apart o)
