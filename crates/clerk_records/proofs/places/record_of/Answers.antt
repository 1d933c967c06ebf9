-- The terms are read from the front, the state and can-keep from their places.
use native.Mathlib.Omega.{arith}
use Rattle.terms.proofs.TermsLaws.{terms-at}
use Rattle.clerk_records.specs.Records.{record_of}
use Rattle.clerk_records.proofs.places.record_of.Goals as goal

pub returns : goal.returns
unfolding record_of
returns c = rw (c.terms_of-terms.ensures, terms-at c.args.row.now (omega arith), c.state_of-state.ensures)
