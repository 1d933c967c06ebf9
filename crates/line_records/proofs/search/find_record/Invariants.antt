-- The places before i hold no record that is sought.
use Prim.Native.Nat.{◌≤◌, ◌-◌}
use mathlib.Core.Path.{◌≡◌}
use lib.ListN.{drop}
use Rattle.lists.specs.Lists.{first, first_from}
use Rattle.line_table.specs.Search.{passes}
use Rattle.line_records.specs.Layout.{places}
use Rattle.line_records.specs.Records.{records}
use Rattle.line_records.proofs.search.find_record.Given as goal

abbrev pub invariant-loop-i : goal.invariant-loop-i
invariant-loop-i l = (l.i ≤ places) × (first (passes l.sought) (records l.words) ≡ first_from (passes l.sought) l.i (drop l.i (records l.words)))
