-- Before each turn the answer is what a search of the rows that are left gives, with what was seen before.
use Rattle.std.proofs.Common.{◌≡◌}
use Rattle.std.specs.Slice.Iter.{chunks_exact_rest, chunks_exact_size}
use Rattle.store.specs.Rows.{fits_row, is_for, found_fitting}
use Rattle.store.proofs.Searches.{Ahead}
use Rattle.store.proofs.find_fitting.Given as goal

abbrev pub invariant-loop-i : goal.invariant-loop-i
invariant-loop-i g l =
    (chunks_exact_size l.i-iterator.iter ≡ g.row.WIDTH)
    × Ahead g.row.WIDTH (fits_row l.top l.names) (is_for l.states) l.some l.i-iterator.count (chunks_exact_rest l.i-iterator.iter)
    (found_fitting l.states l.top l.names g.row.WIDTH g.row.PLACES l.ws)
