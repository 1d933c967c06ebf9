-- The row of the place; past the last place there is none.
use Rattle.std.proofs.Common.{sym, ◌∙◌}
use borrow.Author.Tests.{le-ltb}
use Rattle.store.proofs.Searches.{live_row, live_past}
use Rattle.store.proofs.is_live_at.Goals as goal

pub returns-then-i : goal.returns-then-i
returns-then-i g c =
    let a = c.args in
    let all = c.in-Some.ensures.there in
    c.is_live.ensures ∙ sym (live_row a.top g.row.WIDTH g.row.PLACES a.ws.now c.in-Some.all.now a.i all.0 all.1 c.if-i.true)

pub returns-else-i : goal.returns-else-i
returns-else-i g c =
    let a = c.args in
    le-ltb a.i g.row.PLACES c.if-i.false ∙ sym (live_past a.top g.row.WIDTH g.row.PLACES a.ws.now a.i c.if-i.false)
