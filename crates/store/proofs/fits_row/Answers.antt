-- The terms of a row are those at its front.
use Rattle.std.proofs.Common.{sym, ◌∙◌, arith}
use Rattle.terms.proofs.TermsLaws.{terms-at}
use Rattle.store.specs.Rows.{fits_row}
use Rattle.store.proofs.fits_row.Goals as goal

pub returns-then-is_live : goal.returns-then-is_live
unfolding fits_row
returns-then-is_live c =
    rw (sym c.is_live.ensures ∙ c.if-is_live.true, ← terms-at c.args.row.now (omega (arith, c.requires)))
    c.fits_at.ensures
