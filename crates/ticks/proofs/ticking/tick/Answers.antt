-- By the room: refused, or run.
use mathlib.Core.Path.{refl, sym, ◌∙◌}
use Rattle.std.proofs.Common.{rules}
use Rattle.ticks.specs.Tick.{tick_of, tick_onwards}
use Rattle.ticks.proofs.TickLaws.{sendings_first, turns_first}
use Rattle.ticks.proofs.ticking.tick.Goals as goal

pub returns-in-Err : goal.returns-in-Err
unfolding tick_of
returns-in-Err g c =
    let a = c.args in
    let t = g.D.Ticking in
    let none = c.first_due-first.ensures in
    rw (sendings_first t.words t.reported a.desk.now t.PLACES a.count c.first_due-first.result none.0 none.1, sym c.room.ensures ∙ c.in-Err.is) (search rules)

pub returns-in-Ok : goal.returns-in-Ok
unfolding tick_of tick_onwards
returns-in-Ok g c =
    let a = c.args in
    let t = g.D.Ticking in
    let none = c.first_due-first.ensures in
    rw (sendings_first t.words t.reported a.desk.now t.PLACES a.count c.first_due-first.result none.0 none.1, sym c.room.ensures ∙ c.in-Ok.is)
    (c.run.ensures ∙ sym (turns_first t.words t.reported a.desk.now t.PLACES a.count c.first_due-first.result none.0 none.1 _ refl))
