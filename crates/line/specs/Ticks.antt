-- A tick of the line desk (document 02, Ask 6): the run of the reports of all guards that are due, in the order in which their records were stored.
use Rattle.desk.specs.declared.letter.Letter.{Letter}
use Rattle.std.specs.Prelude.{ℕ, zero, suc, List, [], ◌∷◌, Option, None}
use Rattle.lists.specs.Choice.{pick}
use Rattle.desk.specs.Ticked.{expired_at, Ticked, noted}
use Rattle.line_table.specs.declared.inputs.Input.{Input}
use Rattle.line_records.specs.Layout as Layout
use Rattle.line_records.specs.Deadlines.{expiring_at}
use Rattle.line.specs.Steps.{step}
use Rattle.line.specs.declared.Desk.{Desk}

-- the report by hand of the guard of the record at a place
abbrev pub report : ℕ → Input
report place = Input.Guard (record { identifier = None; place = place })

-- n places are left to look at: the next is place i of the desk before the tick, and at place `at` now, since the records behind one that expired move up
unfoldable pub ticking : ℕ → ℕ → ℕ → ℕ → Desk → Ticked Desk
ticking zero i at count d = record { desk = d; expired = [] }
ticking (suc n) i at count d =
    pick (expiring_at count d.words at)
    (noted (expired_at i (step d count (report at)).outcome) (ticking n (suc i) at count (step d count (report at)).desk))
    (ticking n (suc i) (suc at) count d)

-- every place, from the oldest record on
unfoldable pub ticked : Desk → ℕ → Ticked Desk
ticked d count = ticking Layout.places 0 0 count d

-- ---- what the reports send, each by itself on the desk as it is before the tick: so the room is known before the first record goes. The run sends the same (`TickSends`)
unfoldable pub sendings_from : ℕ → ℕ → ℕ → Desk → List (Option Letter)
sendings_from zero i count d = []
sendings_from (suc n) i count d =
    pick (expiring_at count d.words i) ((step d count (report i)).outcome.sending ∷ sendings_from n (suc i) count d) (sendings_from n (suc i) count d)

unfoldable pub sendings : Desk → ℕ → List (Option Letter)
sendings d count = sendings_from Layout.places 0 count d
