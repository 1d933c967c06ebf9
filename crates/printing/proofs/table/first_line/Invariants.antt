-- The line is what was passed, and the line of what was not.
use Rattle.std.proofs.Common.{◌≡◌, ◌++◌, take, drop}
use Rattle.printing.specs.Table.{line_of}
use Rattle.printing.proofs.table.first_line.Given as goal

abbrev pub invariant-loop-i : goal.invariant-loop-i
invariant-loop-i l = line_of l.text ≡ take l.i l.text ++ line_of (drop l.i l.text)
