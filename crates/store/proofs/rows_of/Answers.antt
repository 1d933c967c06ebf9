-- Where the rows fit, as many words are taken as they have.
use Rattle.std.proofs.Common.{◌*◌, sym, ◌∙◌}
use lib.Seq.{length-take-le}
use Rattle.store.proofs.RowsLaws.{fit_parts}
use Rattle.store.proofs.rows_of.Goals as goal

pub slice_bounds-result-end : goal.slice_bounds-result-end
slice_bounds-result-end g c =
    sym (length-take-le (g.row.PLACES * g.row.WIDTH) c.args.ws.now (fit_parts _ _ _ (sym c.rows_fit.ensures ∙ c.if-rows_fit.true)).1)

pub returns-then-rows_fit-clause-fits : goal.returns-then-rows_fit-clause-fits
returns-then-rows_fit-clause-fits g c =
    let parts = fit_parts _ _ _ (sym c.rows_fit.ensures ∙ c.if-rows_fit.true) in
    (parts.0, length-take-le (g.row.PLACES * g.row.WIDTH) c.args.ws.now parts.1)
