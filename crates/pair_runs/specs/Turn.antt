-- Runs with ticks (document 02, Ask 6), over the turn of the count: a request is asked for ten seconds before it, and its timers run out behind it. Each row is computed on the definitions that the contracts cite.
use Rattle.std.specs.Prelude.{ℕ, ◌≡◌, Bool, true, false, List, [], ◌∷◌, ◌++◌, map}
use Rattle.message.specs.declared.Kind.TheVariants.{Ccbs}
use Rattle.clerk_table.specs.declared.inputs.Act.TheVariants as User
use Rattle.pair.specs.World.{World, Event, drops_up, counts, next, Reached, Once}
use Rattle.pair.specs.Ticks.{clerk_ticked, line_ticked}
use Rattle.pair_runs.specs.Runs.{Seen, sees, seen, first, called, start, asks, clerk_acts, line_reports, clerk_gets, line_gets, acknowledged, recalled}

-- what happens in such a run: an event, or a tick at one of the ends
pub data Happening : Type 0 where
  event : Event → Happening
  clerk_ticks : Happening
  line_ticks : Happening

abbrev pub after : World → Happening → World
after w (event e) = next w e
after w clerk_ticks = clerk_ticked w
after w line_ticks = line_ticked w

unfoldable pub goes_on : World → List Happening → World
goes_on w [] = w
goes_on w (h ∷ hs) = goes_on (after w h) hs

-- the count is now so much, and an end ticks
abbrev clerk_ticks_at : ℕ → List Happening
clerk_ticks_at count = event (counts count) ∷ clerk_ticks ∷ []

abbrev line_ticks_at : ℕ → List Happening
line_ticks_at count = event (counts count) ∷ line_ticks ∷ []

-- ---- the runs, each from a count ten seconds before it turns to 0
abbrev late : List Event → List Happening
late events = event (counts 4294967286) ∷ map event events

-- T1 of 20 seconds is due at 10; when the request is acknowledged T2 of 900 at 890, and the guard of 3660 at 3650
abbrev asked : List Happening
asked = late (asks Ccbs true first ∷ [])

abbrev waiting : List Happening
waiting = late acknowledged

-- T2 runs out, and its ccCancel is dropped
abbrev alone : List Happening
alone = waiting ++ (clerk_ticks_at 890 ++ (event (drops_up 0) ∷ []))

-- accepted: T2 runs on in Ringout. Busy again is heard, and the record is back in Invoked
abbrev ringing : List Happening
ringing = late (acknowledged ++ (recalled ++ (clerk_acts first User.Accept ∷ [])))

abbrev back : List Happening
back = ringing ++ (clerk_ticks_at 2000 ++ map event (line_reports true ∷ line_gets ∷ clerk_gets false ∷ []))

-- ---- the table: a run, and what is seen of the request at its end
pub record Row : Type 0 where
  pub happens : List Happening
  pub said : Seen

abbrev row : List Happening → Seen → Row
row happens said = record { happens = happens; said = said }

abbrev pub ends : Bool → Row → World
ends retain r = goes_on (start retain) r.happens

-- clerk, line; activity mark, suspended mark; keep at the clerk's end and at the line's; under way up and down; dropped, run out, guarded
unfoldable pub over_turn : List Row
over_turn =
    -- T1: not at 9, and at 10; the request and its ccCancel are under way
    row (asked ++ clerk_ticks_at 9) (sees 1 0 0 0 0 0 1 0 0 0 0) ∷
    row (asked ++ clerk_ticks_at 10) (sees 0 0 0 0 0 0 2 0 0 1 0) ∷
    -- a second before the turn the deadlines are smaller numbers than the count, and nothing is due
    row (waiting ++ (clerk_ticks_at 4294967295 ++ line_ticks_at 4294967295)) (sees 2 1 0 0 2 2 0 0 0 0 0) ∷
    -- T2: not at 889, and at 890; its ccCancel is under way
    row (waiting ++ clerk_ticks_at 889) (sees 2 1 0 0 2 2 0 0 0 0 0) ∷
    row (waiting ++ clerk_ticks_at 890) (sees 0 1 0 0 0 2 1 0 0 1 0) ∷
    -- the guard: not at 3649, and at 3650
    row (alone ++ line_ticks_at 3649) (sees 0 1 0 0 0 2 0 0 1 1 0) ∷
    row (alone ++ line_ticks_at 3650) (sees 0 0 0 0 0 0 0 1 1 1 1) ∷
    -- T2 in Ringout: a tick leaves the record, and takes it when it is back in Invoked
    row (ringing ++ clerk_ticks_at 2000) (sees 4 2 0 0 2 2 1 0 0 0 0) ∷
    row back (sees 2 1 1 0 2 2 0 0 0 0 0) ∷
    row (back ++ clerk_ticks_at 2000) (sees 0 1 1 0 0 2 1 0 0 1 0) ∷
    []

abbrev pub TurnShown : Type 0
TurnShown = (retain : Bool) → map (λ (r : Row). seen (ends retain r) (called first)) over_turn ≡ map (λ (r : Row). r.said) over_turn

-- every row ends in a world of a run
abbrev pub EachReached : Bool → List Row → Type 0
EachReached retain [] = Unit
EachReached retain (r ∷ rs) = Reached Once (ends retain r) × EachReached retain rs

abbrev pub TurnReached : Type 0
TurnReached = (retain : Bool) → EachReached retain over_turn
