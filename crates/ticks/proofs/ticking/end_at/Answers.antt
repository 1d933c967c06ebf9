-- What the report sends, or nothing.
use mathlib.Core.Path.{sym, ◌∙◌}
use Rattle.told.specs.Ticking.{end_of}
use Rattle.ticks.specs.Tick.{sendings_from}
use Rattle.ticks.proofs.TickLaws.{none-due, one-due}
use Rattle.ticks.proofs.ticking.end_at.Goals as goal

pub returns-then-is_expiring : goal.returns-then-is_expiring
unfolding sendings_from
returns-then-is_expiring g c =
    let a = c.args in
    let one = one-due (g.D.Ticking.reported a.count a.desk.now a.i) (sym c.is_expiring.ensures ∙ c.if-is_expiring.true) in
    rw (one.1, ← c.sending-sending.ensures a.count one.0 one.1) c.end_behind.ensures

pub returns : goal.returns
unfolding sendings_from end_of
returns g c =
    let a = c.args in
    rw (none-due (g.D.Ticking.reported a.count a.desk.now a.i) (sym c.is_expiring.ensures ∙ c.if-is_expiring.false))
