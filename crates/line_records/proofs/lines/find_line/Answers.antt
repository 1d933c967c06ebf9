-- The places before i hold no line with that number.
use mathlib.Core.Path.{sym, ◌∙◌}
use native.Mathlib.Omega.{arith}
use Rattle.lists.proofs.Lists.{first_hit, first_miss, first-end}
use Rattle.line_records.specs.Lines.{lines, has_number, no_line}
use Rattle.line_records.proofs.LinesLaws.{lines-length}
use Rattle.line_records.proofs.lines.find_line.Goals as goal

pub returns-then-has_number : goal.returns-then-has_number
returns-then-has_number c =
    let a = c.args in
    let ls = lines a.words.now in
    let k = lines-length a.words.now in
    sym (c.loop-i.invariant.1 ∙ first_hit (has_number a.number) ls c.loop-i.i no_line (omega arith) (rw c.load_line.ensures at (sym c.has_number.ensures ∙ c.if-has_number.true)))

pub loop-i-preserved : goal.loop-i-preserved
loop-i-preserved c =
    let a = c.args in
    let ls = lines a.words.now in
    let k = lines-length a.words.now in
    (omega arith, c.loop-i.invariant.1 ∙ first_miss (has_number a.number) ls c.loop-i.i no_line (omega arith) (rw c.load_line.ensures at (sym c.has_number.ensures ∙ c.if-has_number.false)))

pub returns : goal.returns
returns c =
    let a = c.args in
    let ls = lines a.words.now in
    let k = lines-length a.words.now in
    sym (c.loop-i.invariant.1 ∙ first-end (has_number a.number) ls c.loop-i.i (omega arith))
