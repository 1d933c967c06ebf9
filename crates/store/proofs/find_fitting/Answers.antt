-- A chunk that comes is the first row that is left; where none comes, none is left.
use Rattle.std.proofs.Common.{◌<◌, sym, ap, ◌∙◌, arith}
use Rattle.std.specs.Iterator.Adapters.{enumerate_source, enumerate_count}
use Rattle.std.specs.Slice.Iter.{chunks_exact_rest, chunks_exact_size}
use Rattle.terms.specs.declared.means.Means.{Means}
use Rattle.store.specs.Rows.{fits_row, is_for}
use Rattle.store.proofs.Searches.{ahead_start, ahead_hit, ahead_not_ready, ahead_miss, ahead_end}
use Rattle.store.proofs.find_fitting.Goals as goal

pub loop-i-init : goal.loop-i-init
loop-i-init g c =
    let a = c.args in
    let all = c.in-Some.ensures.there in
    let same = ap enumerate_source c.into_iter-i-iterator.ensures.into_iter_gives ∙ c.enumerate-i-items.ensures.source in
    let start = ap enumerate_count c.into_iter-i-iterator.ensures.into_iter_gives ∙ c.enumerate-i-items.ensures.count in (
      ap chunks_exact_size same ∙ c.chunks_exact.ensures.size,
      ahead_start a.states a.top a.names g.row.WIDTH g.row.PLACES a.ws.now _ _ all.0 start (ap chunks_exact_rest same ∙ c.chunks_exact.ensures.rest ∙ all.1),
    )

pub returns-then-is_for : goal.returns-then-is_for
returns-then-is_for g c =
    let a = c.args in
    let l = c.loop-i in
    let wide : 0 < g.row.WIDTH = omega (arith, c.in-Some.ensures.fits.0) in
    let next = c.in-Some-2.ensures.steps in
    ap Means.At next.1
    ∙ sym
    (ahead_hit g.row.WIDTH wide (fits_row a.top a.names) (is_for a.states) l.some _ _ l.i-iterator.iter c.next.new.self.iter l.invariant.0 l.invariant.1 c.in-Some-2.row next.0
    (sym c.fits_row.ensures ∙ c.if-fits_row.true) (sym c.is_for.ensures ∙ c.if-is_for.true))

pub loop-i-preserved-then-fits_row : goal.loop-i-preserved-then-fits_row
loop-i-preserved-then-fits_row g c =
    let a = c.args in
    let l = c.loop-i in
    let wide : 0 < g.row.WIDTH = omega (arith, c.in-Some.ensures.fits.0) in
    let next = c.in-Some-2.ensures.steps in (
      next.0.0 ∙ l.invariant.0,
      ahead_not_ready g.row.WIDTH wide (fits_row a.top a.names) (is_for a.states) l.some _ _ l.i-iterator.iter c.next.new.self.iter l.invariant.0 l.invariant.1 c.in-Some-2.row next.0 _ (omega (arith, next.2))
          (sym c.fits_row.ensures ∙ c.if-fits_row.true) (sym c.is_for.ensures ∙ c.if-is_for.false),
    )

pub loop-i-preserved : goal.loop-i-preserved
loop-i-preserved g c =
    let a = c.args in
    let l = c.loop-i in
    let wide : 0 < g.row.WIDTH = omega (arith, c.in-Some.ensures.fits.0) in
    let next = c.in-Some-2.ensures.steps in (
      next.0.0 ∙ l.invariant.0,
      ahead_miss g.row.WIDTH wide (fits_row a.top a.names) (is_for a.states) l.some _ _ l.i-iterator.iter c.next.new.self.iter l.invariant.0 l.invariant.1 c.in-Some-2.row next.0 _ (omega (arith, next.2))
          (sym c.fits_row.ensures ∙ c.if-fits_row.false),
    )

pub returns-then-some : goal.returns-then-some
returns-then-some g c =
    let a = c.args in
    let l = c.loop-i in
    let wide : 0 < g.row.WIDTH = omega (arith, c.in-Some.ensures.fits.0) in
    sym
    (ahead_end g.row.WIDTH wide (fits_row a.top a.names) (is_for a.states) l.some _ _ l.i-iterator.iter c.next.new.self.iter l.invariant.0 l.invariant.1 c.in-None.ensures.steps.0 ∙ rw c.if-some.true)

pub returns-else-some : goal.returns-else-some
returns-else-some g c =
    let a = c.args in
    let l = c.loop-i in
    let wide : 0 < g.row.WIDTH = omega (arith, c.in-Some.ensures.fits.0) in
    sym
    (ahead_end g.row.WIDTH wide (fits_row a.top a.names) (is_for a.states) l.some _ _ l.i-iterator.iter c.next.new.self.iter l.invariant.0 l.invariant.1 c.in-None.ensures.steps.0 ∙ rw c.if-some.false)
