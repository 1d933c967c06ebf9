-- A place that is there, or past the last.
use mathlib.Core.Path.{sym, ◌∙◌}
use Rattle.line_records.proofs.RecordsLaws.{record-past}
use Rattle.line_records.proofs.places.load.Goals as goal

pub returns : goal.returns
returns c = c.blank_record.ensures ∙ sym (record-past c.args.words.now c.args.i c.if-i-lt-PLACES.false)
