-- Before turn i the first i places are marked.
use Prim.Native.Nat.{◌≤◌, ◌-◌}
use mathlib.Core.Path.{◌≡◌}
use Rattle.line_records.specs.Layout.{places}
use Rattle.line_records.specs.Change.{marked}
use Rattle.line_records.proofs.change.mark_line.Given as goal

abbrev pub invariant-loop-i : goal.invariant-loop-i
invariant-loop-i l = (l.i ≤ places) × (l.words ≡ marked l.number l.i l.initial.words)
