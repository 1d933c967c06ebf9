-- The state, by its word, then the deadline.
use mathlib.Core.Path.{sym, ◌∙◌}
use native.Mathlib.Omega.{arith}
use Rattle.line_records.specs.Deadlines.{expiring_at}
use Rattle.line_records.proofs.RecordsLaws.{live-rows}
use Rattle.line_records.proofs.deadlines.is_expiring.Goals as goal

pub returns-then-is_live_at : goal.returns-then-is_live_at
unfolding expiring_at
returns-then-is_live_at c =
    let a = c.args in
    rw (sym (live-rows a.words.now a.i (omega arith)) ∙ sym c.is_live_at.ensures ∙ c.if-is_live_at.true, ← c.guard_of.ensures) c.is_due.ensures

pub returns-else-is_live_at : goal.returns-else-is_live_at
unfolding expiring_at
returns-else-is_live_at c =
    let a = c.args in
    c.if-is_live_at.false ∙ rw (sym (live-rows a.words.now a.i (omega arith)) ∙ sym c.is_live_at.ensures ∙ c.if-is_live_at.false)
