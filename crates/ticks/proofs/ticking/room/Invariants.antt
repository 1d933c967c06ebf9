-- The end is moved on, place by place.
use Prim.Native.Nat.{◌-◌}
use mathlib.Core.Path.{◌≡◌}
use Rattle.told.specs.Ticking.{end_of}
use Rattle.ticks.specs.Tick.{sendings_from}
use Rattle.ticks.proofs.ticking.room.Given as goal

abbrev pub invariant-loop-i : goal.invariant-loop-i
invariant-loop-i g l =
    let t = g.D.Ticking in
    end_of l.out 0 (sendings_from t.reported (t.PLACES - l.first) l.first l.count l.desk) ≡ end_of l.out l.end (sendings_from t.reported (t.PLACES - l.i) l.i l.count l.desk)
