-- The record of the place, by its words.
use mathlib.Core.Path.{sym, ◌∙◌}
use native.Mathlib.Omega.{arith}
use Rattle.line_records.proofs.RecordsLaws.{live-rows}
use Rattle.line_records.proofs.meaning.find_placed.Goals as goal

pub returns-then-is_live_at : goal.returns-then-is_live_at
returns-then-is_live_at c =
    let a = c.args in
    rw (c.in-None.is, sym (live-rows a.words.now a.place (omega arith)) ∙ sym c.is_live_at.ensures ∙ c.if-is_live_at.true)

pub returns-else-is_live_at : goal.returns-else-is_live_at
returns-else-is_live_at c =
    let a = c.args in
    rw (c.in-None.is, sym (live-rows a.words.now a.place (omega arith)) ∙ sym c.is_live_at.ensures ∙ c.if-is_live_at.false)
