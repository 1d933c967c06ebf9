-- The later rows are moved by a row, and the last one is blanked.
use Rattle.std.proofs.Common.{◌+◌, ◌*◌, ◌≤◌, sym, ◌∙◌, arith}
use native.Mathlib.Nat.{mul-le-mul_right}
use borrow.Author.Tests.{lt-ltb}
use Rattle.store.specs.Rows.{removed_row}
use Rattle.store.proofs.RowsLaws.{fit_parts}
use Rattle.store.proofs.Removal.{row_moved, removed}
use Rattle.store.proofs.remove.Goals as goal

pub returns-after-loop-k : goal.returns-after-loop-k
unfolding removed_row
returns-after-loop-k g c =
    let a = c.args in
    let fit = sym c.rows_fit.ensures ∙ c.if-rows_fit.true in
    let l = c.loop-k in
    rw (fit, lt-ltb a.i g.row.PLACES c.if-i.true)
    (removed g.row.WIDTH g.row.PLACES a.ws.now a.i l.k l.ws c.fill.new.self c.if-i.true (omega arith) (fit_parts _ _ _ fit).1 l.invariant.1 l.invariant.0
    (c.fill.ensures.after (λ y e. e)))

pub copy_within-requires-clause-in_bounds : goal.copy_within-requires-clause-in_bounds
copy_within-requires-clause-in_bounds g c =
    let l = c.loop-k in
    let within : (l.k + 2) * g.row.WIDTH ≤ g.row.PLACES * g.row.WIDTH = mul-le-mul_right g.row.WIDTH (omega arith) in
    omega (arith, within, l.invariant.0, (fit_parts _ _ _ (sym c.rows_fit.ensures ∙ c.if-rows_fit.true)).1)

pub loop-k-preserved : goal.loop-k-preserved
loop-k-preserved g c =
    let a = c.args in
    let l = c.loop-k in
    let fit = sym c.rows_fit.ensures ∙ c.if-rows_fit.true in (
      c.copy_within.ensures.len ∙ l.invariant.0,
      c.copy_within.ensures.after
          ∙ row_moved g.row.WIDTH g.row.PLACES a.i l.k a.ws.now l.ws (omega arith) (omega arith) (fit_parts _ _ _ fit).1 l.invariant.1,
    )
