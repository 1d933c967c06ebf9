-- Its terms, and each word behind them from its place.
use native.Mathlib.Omega.{arith}
use Rattle.terms.proofs.TermsLaws.{terms-at}
use Rattle.line_records.specs.Records.{record_of}
use Rattle.line_records.proofs.places.record_of.Goals as goal

pub returns : goal.returns
unfolding record_of
returns c = rw (c.terms_of-agreed.ensures, terms-at c.args.row.now (omega arith), c.state_of-state.ensures)
