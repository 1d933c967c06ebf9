-- The row of a place, or past the last.
use mathlib.Core.Path.{ap, ◌∙◌}
use borrow.Author.Tests.{le-ltb}
use Rattle.line_table.specs.Search.{marks}
use Rattle.line_records.specs.Records.{record_of}
use Rattle.line_records.specs.Codes.{state_of}
use Rattle.line_records.proofs.RecordsLaws.{record-past}
use Rattle.line_records.proofs.SearchLaws.{row-record}
use Rattle.line_records.proofs.search.is_marked.Goals as goal

pub returns-then-i-lt-PLACES : goal.returns-then-i-lt-PLACES
returns-then-i-lt-PLACES c =
    let a = c.args in
    c.is_invoked_on.ensures ∙ ap (marks a.number) (row-record a.words.now _ a.i c.if-i-lt-PLACES.true c.row_of.ensures.0)

pub returns-else-i-lt-PLACES : goal.returns-else-i-lt-PLACES
unfolding record_of state_of
returns-else-i-lt-PLACES c = le-ltb _ _ c.if-i-lt-PLACES.false ∙ rw (record-past c.args.words.now c.args.i c.if-i-lt-PLACES.false)
