-- The end is moved on, place by place.
use mathlib.Core.Path.{sym, ◌∙◌}
use native.Mathlib.Omega.{arith}
use Rattle.std.proofs.Common.{rules}
use Rattle.ticks.proofs.TickLaws.{room_next, room_ends}
use Rattle.ticks.proofs.ticking.room.Goals as goal

pub loop-i-preserved : goal.loop-i-preserved
loop-i-preserved g c =
    let a = c.args in
    let t = g.D.Ticking in
    let at = c.loop-i in
    at.invariant ∙ room_next t.reported t.PLACES at.i a.count a.desk.now a.out.now at.end _ (omega arith) (sym c.end_at.ensures ∙ c.in_ok-end.was)

pub returns-in_err-end : goal.returns-in_err-end
returns-in_err-end g c =
    let a = c.args in
    let t = g.D.Ticking in
    let at = c.loop-i in
    rw (at.invariant ∙ room_ends t.reported t.PLACES at.i a.count a.desk.now a.out.now at.end _ (omega arith) (sym c.end_at.ensures ∙ c.in_err-end.was)) (search rules)
