-- The record expires, is told, and the next moves up; or nothing is due.
use Rattle.std.specs.Prelude.{Some}
use Prim.Native.Nat.{◌-◌}
use mathlib.Core.Path.{sym, ap, ◌∙◌}
use native.Mathlib.Omega.{arith}
use Rattle.desk.specs.Ticked.{expired_at}
use Rattle.told.proofs.TickingLaws.{length-within}
use Rattle.ticks.specs.Turn.{lent_of}
use Rattle.ticks.proofs.TickLaws.{none-due, one-due, turn_none, turn_one}
use Rattle.ticks.proofs.ticking.turn.Goals as goal

pub overflow_add-result : goal.overflow_add-result
overflow_add-result g c =
    let a = c.args in
    let l = lent_of a.out.now a.told.now a.counted in
    let went = c.expire-outcome in
    omega (arith, length-within l _ (expired_at a.i went.result) 18446744073709551615 c.tell_next-n.ensures (omega arith) (omega (arith, c.well_formed.1.1.1.0.0)))

pub returns-then-is_expiring : goal.returns-then-is_expiring
returns-then-is_expiring g c =
    let a = c.args in
    let t = g.D.Ticking in
    let went = c.expire-outcome in
    let one = one-due (t.reported a.count a.desk.now (a.i - a.counted.expired)) (sym c.is_expiring.ensures ∙ c.if-is_expiring.true) in (
      omega arith,
      λ n. turn_one t.words t.reported n a.i a.count a.desk.now _ (lent_of a.out.now a.told.now a.counted) _ _
          (one.1 ∙ ap Some (went.ensures a.count one.0 one.1)) c.tell_next-n.ensures,
    )

pub returns : goal.returns
returns g c =
    let a = c.args in
    let t = g.D.Ticking in (
      omega arith,
      λ n. turn_none t.words t.reported n a.i a.count a.desk.now (lent_of a.out.now a.told.now a.counted) (omega arith)
          (none-due (t.reported a.count a.desk.now (a.i - a.counted.expired)) (sym c.is_expiring.ensures ∙ c.if-is_expiring.false)),
    )
