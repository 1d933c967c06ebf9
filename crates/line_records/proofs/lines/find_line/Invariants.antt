-- The places before i hold no line with that number.
use Prim.Native.Nat.{◌≤◌, ◌-◌}
use mathlib.Core.Path.{◌≡◌}
use lib.ListN.{drop}
use Rattle.lists.specs.Lists.{first_from}
use Rattle.line_records.specs.Layout.{line_places}
use Rattle.line_records.specs.Lines.{lines, has_number, line_at}
use Rattle.line_records.proofs.lines.find_line.Given as goal

abbrev pub invariant-loop-i : goal.invariant-loop-i
invariant-loop-i l = (l.i ≤ line_places) × (line_at l.number (lines l.words) ≡ first_from (has_number l.number) l.i (drop l.i (lines l.words)))
