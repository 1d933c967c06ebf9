-- The word of a place, or past the last.
use mathlib.Core.Path.{sym, ◌∙◌}
use Rattle.line_records.proofs.DeadlinesLaws.{guard-at, guard-past}
use Rattle.line_records.proofs.deadlines.guard_of.Goals as goal

pub returns-then-i-lt-PLACES : goal.returns-then-i-lt-PLACES
returns-then-i-lt-PLACES c =
    let a = c.args in
    c.count_of.ensures ∙ sym (guard-at a.words.now a.i c.if-i-lt-PLACES.true)

pub returns : goal.returns
returns c = sym (guard-past c.args.words.now c.args.i c.if-i-lt-PLACES.false)
