-- The word of a timer at a place, or past the last.
use mathlib.Core.Path.{sym, ap, ◌∙◌}
use Prim.Native.Nat.{ℕ, ◌+◌, ◌*◌, ◌%◌}
use lib.ListN.{get_or}
use Rattle.clock.specs.Clock.{turn}
use Rattle.clerk_records.specs.Layout.{width}
use Rattle.clerk_records.proofs.DeadlinesLaws.{deadline-at, deadline-past}
use Rattle.clerk_records.proofs.deadlines.deadline_in.Goals as goal

pub returns-then-i-lt-PLACES : goal.returns-then-i-lt-PLACES
returns-then-i-lt-PLACES c =
    let a = c.args in
    c.count_of.ensures
    ∙ ap (λ (k : ℕ). get_or a.words.now (a.i * width + k) 0 % turn) c.deadline_at.ensures
    ∙ sym (deadline-at a.words.now a.i a.timer c.if-i-lt-PLACES.true)

pub returns : goal.returns
returns c = sym (deadline-past c.args.words.now c.args.i c.args.timer c.if-i-lt-PLACES.false)
