-- The entries that are left to pass, from the index on, lead to the same part of the table.
use Rattle.std.proofs.Common.{◌≡◌, drop}
use Rattle.printing.specs.Table.{entries_from}
use Rattle.printing.proofs.table.entries_from.Given as goal

abbrev pub invariant-loop-i : goal.invariant-loop-i
invariant-loop-i l = entries_from (drop l.i l.table) l.left ≡ entries_from l.table l.entry
