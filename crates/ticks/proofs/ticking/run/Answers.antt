-- What is left of the tick stays the same, turn by turn.
use native.Mathlib.Omega.{arith}
use Rattle.ticks.proofs.TickLaws.{left_ends}
use Rattle.ticks.proofs.ticking.run.Goals as goal

pub returns : goal.returns
returns g c =
    let t = g.D.Ticking in
    let at = c.loop-i in
    left_ends t.words t.reported t.PLACES at.i c.args.count at.desk _ _ (omega arith) at.invariant.1
