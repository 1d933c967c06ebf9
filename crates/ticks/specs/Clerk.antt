-- A tick of the clerk's desk as a host calls it: all that it sends has room, or nothing changes.
use Rattle.std.specs.Prelude.{ℕ, List, Option, Some, None}
use Rattle.told.specs.Face.{Face}
use Rattle.told.specs.Ticking.{end_of, tick_face}
use Rattle.clerk_records.specs.Deadlines.{expiring_at}
use Rattle.clerk.specs.Steps.{desk_of, step}
use Rattle.clerk.specs.Ticks.{report, by_timer, ticked, sendings}
use Rattle.clerk.specs.declared.Desk.{Desk}
use Rattle.desk.specs.declared.outcome.Stepped.{Stepped}

unfoldable pub clerk_ticked : List ℕ → ℕ → List ℕ → Face
clerk_ticked words count out =
    tick_face (end_of out 0 (sendings (desk_of words) count)) words out (ticked (desk_of words) count).desk.words (ticked (desk_of words) count).expired

-- ---- what the one tick of both desks goes by: the report of the timer that runs out, if one does, of the record at a place
abbrev pub stepped : Stepped Desk → Stepped (List ℕ)
stepped s = record { desk = s.desk.words; outcome = s.outcome }

unfoldable pub clerk_reported : ℕ → List ℕ → ℕ → Option (Stepped (List ℕ))
clerk_reported count words i = by_timer (expiring_at count words i) (λ timer. Some (stepped (step (desk_of words) count (report i timer)))) None
