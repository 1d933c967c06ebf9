-- A tick of the line desk as a host calls it: all that it sends has room, or nothing changes.
use Rattle.std.specs.Prelude.{ℕ, List, Option, Some, None}
use Rattle.lists.specs.Choice.{pick}
use Rattle.told.specs.Face.{Face}
use Rattle.told.specs.Ticking.{end_of, tick_face}
use Rattle.line_records.specs.Deadlines.{expiring_at}
use Rattle.line.specs.Steps.{desk_of, step}
use Rattle.line.specs.Ticks.{report, ticked, sendings}
use Rattle.line.specs.declared.Desk.{Desk}
use Rattle.desk.specs.declared.outcome.Stepped.{Stepped}

unfoldable pub line_ticked : List ℕ → ℕ → List ℕ → Face
line_ticked words count out =
    tick_face (end_of out 0 (sendings (desk_of words) count)) words out (ticked (desk_of words) count).desk.words (ticked (desk_of words) count).expired

-- ---- what the one tick of both desks goes by: the guard's report of the record at a place, if the guard is due
abbrev pub stepped : Stepped Desk → Stepped (List ℕ)
stepped s = record { desk = s.desk.words; outcome = s.outcome }

unfoldable pub line_reported : ℕ → List ℕ → ℕ → Option (Stepped (List ℕ))
line_reported count words i = pick (expiring_at count words i) (Some (stepped (step (desk_of words) count (report i)))) None
