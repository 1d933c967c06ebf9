-- What was counted is what the places before i hold.
use Prim.Native.Nat.{◌≤◌, ◌-◌, ◌+◌}
use mathlib.Core.Path.{◌≡◌}
use lib.ListN.{drop}
use Rattle.lists.specs.Lists.{count}
use Rattle.line_table.specs.Search.{of_line}
use Rattle.line_records.specs.Layout.{places}
use Rattle.line_records.specs.Records.{records}
use Rattle.line_records.proofs.search.count_line.Given as goal

abbrev pub invariant-loop-i : goal.invariant-loop-i
invariant-loop-i l = (l.i ≤ places) × ((l.found ≤ l.i) × (count (of_line l.number) (records l.words) ≡ l.found + count (of_line l.number) (drop l.i (records l.words))))
