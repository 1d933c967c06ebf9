-- The chunks are the rows, and the closure asks each what it is asked.
use Rattle.std.proofs.Common.{rules, length, ap, ◌∙◌}
use borrow.Author.Tests.{tests}
use Rattle.store.specs.Rows.{has_identifier}
use Rattle.store.proofs.Searches.{position_found}
use Rattle.store.proofs.find.Goals as goal

pub returns : goal.returns
returns g c =
    let all = c.in_ok-rows_of.ensures in
    position_found (has_identifier c.args.top c.args.identifier) g.row.WIDTH g.row.PLACES c.args.ws.now _ _ _ _ all.there.0 (c.chunks_exact.ensures.rest ∙ all.there.1) (ap length c.chunks_exact.ensures.rest ∙ all.fits.1)
    c.chunks_exact.ensures.size c.position.ensures.ran (λ x b q k. search (rules, tests))
