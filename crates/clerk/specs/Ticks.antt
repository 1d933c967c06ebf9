-- A tick of the clerk's desk (document 02, Ask 6): the run of the reports of the timers that are due, at most one of each record, in the order in which the records were stored.
use Rattle.desk.specs.declared.letter.Letter.{Letter}
use Rattle.std.specs.Prelude.{ℕ, zero, suc, List, [], ◌∷◌, Option, Some, None}
use Rattle.desk.specs.Ticked.{expired_at, Ticked, noted}
use Rattle.clerk_table.specs.declared.table.Timer.{Timer}
use Rattle.clerk_table.specs.declared.inputs.Input.{Input}
use Rattle.clerk_records.specs.Layout as Layout
use Rattle.clerk_records.specs.Deadlines.{expiring_at}
use Rattle.clerk.specs.Steps.{step}
use Rattle.clerk.specs.declared.Desk.{Desk}

-- the report by hand of a timer of the record at a place
abbrev pub report : ℕ → Timer → Input
report place timer = Input.Timer (record { identifier = None; place = place }) timer

-- by the timer that runs out, if one does
abbrev pub by_timer : {A : Type 0} → Option Timer → (Timer → A) → A → A
by_timer (Some timer) out otherwise = out timer
by_timer None out otherwise = otherwise

-- n places are left to look at: the next is place i of the desk before the tick, and at place `at` now, since the records behind one that expired move up
unfoldable pub ticking : ℕ → ℕ → ℕ → ℕ → Desk → Ticked Desk
ticking zero i at count d = record { desk = d; expired = [] }
ticking (suc n) i at count d =
    by_timer (expiring_at count d.words at)
    (λ timer. noted (expired_at i (step d count (report at timer)).outcome) (ticking n (suc i) at count (step d count (report at timer)).desk))
    (ticking n (suc i) (suc at) count d)

-- every place, from the oldest record on
unfoldable pub ticked : Desk → ℕ → Ticked Desk
ticked d count = ticking Layout.places 0 0 count d

-- ---- what the reports send, each by itself on the desk as it is before the tick: so the room is known before the first record goes. The run sends the same (`TickSends`)
unfoldable pub sendings_from : ℕ → ℕ → ℕ → Desk → List (Option Letter)
sendings_from zero i count d = []
sendings_from (suc n) i count d =
    by_timer (expiring_at count d.words i)
    (λ timer. (step d count (report i timer)).outcome.sending ∷ sendings_from n (suc i) count d)
    (sendings_from n (suc i) count d)

unfoldable pub sendings : Desk → ℕ → List (Option Letter)
sendings d count = sendings_from Layout.places 0 count d
