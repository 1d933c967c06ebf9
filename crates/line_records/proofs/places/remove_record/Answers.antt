-- The rows fit into the words of a desk.
use native.Mathlib.Omega.{arith}
use Rattle.store.specs.Rows.{removed_row}
use Rattle.line_records.specs.Records.{removed}
use Rattle.line_records.proofs.RecordsLaws.{records-fit}
use Rattle.line_records.proofs.places.remove_record.Goals as goal

pub returns : goal.returns
unfolding removed removed_row
returns c = rw (records-fit c.args.words.now (omega arith)) at c.remove.ensures
