-- The rows of the runs with ticks compute to what they say, and a run goes on over ticks.
use mathlib.Core.Path.{◌≡◌, refl}
use mathlib.Core.Bool.{Bool, true, false}
use mathlib.Core.List.{List, [], ◌∷◌}
use Rattle.lists.specs.Lists.{both}
use Rattle.lists.proofs.Lists.{both_parts}
use Rattle.clock.specs.Clock.{due}
use Rattle.clerk_records.specs.Deadlines as ClerkDeadlines
use Rattle.line_records.specs.Deadlines as LineDeadlines
use Rattle.pair.specs.World.{World, Run, Once, reached, stop, next}
use Rattle.pair.specs.Ticks.{ticking}
use Rattle.pair.proofs.Ticks.{once-on}
use Rattle.pair_runs.specs.Runs.{play, seen, usual, one_line, start}
use Rattle.pair_runs.specs.Turn.{Happening, event, clerk_ticks, line_ticks, after, goes_on, Row, over_turn, TurnShown, EachReached, TurnReached}
use Rattle.pair_runs.proofs.Allowed.{passes, runs, run-told, bytes-told}
use Rattle.pair_runs.proofs.Runs.{all}

-- all that a tick computes with
unfoldable ticks : Bool
unfolding ticking due ClerkDeadlines.deadlines_of ClerkDeadlines.deadlines ClerkDeadlines.expiring LineDeadlines.guard_of LineDeadlines.guards LineDeadlines.expiring_at all
ticks = true

pub turn-shown : TurnShown
unfolding over_turn goes_on seen ticks
turn-shown true = refl
turn-shown false = refl

-- ---- each event is one of a run, and a tick always is
unfoldable allowed_all : World → List Happening → Bool
allowed_all w [] = true
allowed_all w (event e ∷ hs) = both (runs w (e ∷ [])) (allowed_all (next w e) hs)
allowed_all w (clerk_ticks ∷ hs) = allowed_all (after w clerk_ticks) hs
allowed_all w (line_ticks ∷ hs) = allowed_all (after w line_ticks) hs

goes-told : {first : World} (w : World) (hs : List Happening) → Run Once first w → allowed_all w hs ≡ true → Run Once first (goes_on w hs)
unfolding goes_on allowed_all play
goes-told w [] before so = before
goes-told w (event e ∷ hs) before so =
    let parts = both_parts (runs w (e ∷ [])) (allowed_all (next w e) hs) so in
    goes-told (next w e) hs (run-told w (e ∷ []) before parts.0) parts.1
goes-told {first} w (clerk_ticks ∷ hs) before so = goes-told (after w clerk_ticks) hs (once-on first w before).0 so
goes-told {first} w (line_ticks ∷ hs) before so = goes-told (after w line_ticks) hs (once-on first w before).1 so

unfoldable all_run : Bool → List Row → Bool
all_run retain [] = true
all_run retain (r ∷ rs) = both (allowed_all (start retain) r.happens) (all_run retain rs)

each-reached : (retain : Bool) (rs : List Row) → all_run retain rs ≡ true → EachReached retain rs
unfolding all_run
each-reached retain [] so = tt
each-reached retain (r ∷ rs) so =
    let parts = both_parts (allowed_all (start retain) r.happens) (all_run retain rs) so in
    (reached usual one_line true retain (bytes-told one_line refl) (goes-told (start retain) r.happens stop parts.0), each-reached retain rs parts.1)

pub turn-reached : TurnReached
unfolding over_turn allowed_all all_run passes ticks
turn-reached true = each-reached true over_turn refl
turn-reached false = each-reached false over_turn refl
