-- The line and the state, then the kind.
use native.Mathlib.Omega.{arith}
use Rattle.terms.proofs.TermsLaws.{terms-at}
use Rattle.line_records.specs.Records.{record_of}
use Rattle.line_records.proofs.search.is_fitting.Goals as goal

pub returns-then-is_invoked_on : goal.returns-then-is_invoked_on
unfolding record_of
returns-then-is_invoked_on c = rw (← c.is_invoked_on.ensures, c.if-is_invoked_on.true, c.fits_kind.ensures, c.kind_at.ensures, terms-at c.args.row.now (omega arith))
