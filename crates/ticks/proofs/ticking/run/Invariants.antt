-- What is left of the tick stays the same, turn by turn.
use Prim.Native.Nat.{◌-◌, ◌≤◌}
use mathlib.Core.Path.{◌≡◌}
use lib.ListN as ListN
use Rattle.ticks.specs.Turn.{lent_of}
use Rattle.ticks.specs.Tick.{tick_onwards}
use Rattle.ticks.proofs.ticking.run.Given as goal

abbrev pub invariant-loop-i : goal.invariant-loop-i
invariant-loop-i g l =
    let t = g.D.Ticking in
    ((l.counted.expired ≤ l.i) × (ListN.length l.out ≡ ListN.length l.initial.out)) ×
    (tick_onwards t.words t.reported (t.PLACES - l.i) l.i l.count l.desk (lent_of l.out l.told l.counted)
    ≡ tick_onwards t.words t.reported (t.PLACES - l.first) l.first l.count l.initial.desk (lent_of l.initial.out l.initial.told l.initial.counted))
