-- Before each turn the rest of the lines, from the place reached on, makes what all of them make from the start.
use mathlib.Core.Path.{◌≡◌, sym, ◌∙◌}
use native.Mathlib.Omega.{arith}
use lib.ListN.{drop}
use Rattle.line.specs.Start.{take_lines, bad}
use Rattle.line.proofs.StartLaws.{take-good, take-bad, take-end}
use Rattle.line.proofs.start.take_lines.Goals as goal

pub returns-then-not-take_line : goal.returns-then-not-take_line
returns-then-not-take_line c =
    let l = c.loop-left in
    let t = c.loop-left-test.true in
    let e : take_lines l.left l.k (drop l.at c.args.given.now) l.words ≡ bad =
    take-bad l.left l.k l.at c.args.given.now l.words t (omega arith) (rw (← c.copy_between-digits.ensures) (sym c.take_line.ensures.0 ∙ c.if-not-take_line.true)) in
    sym e ∙ l.invariant.1.1

pub loop-left-preserved : goal.loop-left-preserved
loop-left-preserved c =
    let l = c.loop-left in
    let t = c.loop-left-test.true in
    let e = take-good l.left l.k l.at c.args.given.now l.words t (omega arith) (rw (← c.copy_between-digits.ensures) (sym c.take_line.ensures.0 ∙ c.if-not-take_line.false)) in
    (omega arith, (omega arith, rw (c.take_line.ensures.1, c.copy_between-digits.ensures) (sym e ∙ l.invariant.1.1)))

pub returns : goal.returns
returns c =
    let l = c.loop-left in
    sym (take-end l.left l.k (drop l.at c.args.given.now) l.words (omega (arith, c.loop-left-test.false))) ∙ l.invariant.1.1
