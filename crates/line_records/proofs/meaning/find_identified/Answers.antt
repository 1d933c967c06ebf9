-- A row with that identifier is a record with it.
use mathlib.Core.Path.{◌∙◌}
use native.Mathlib.Omega.{arith}
use Rattle.line_records.proofs.RecordsLaws.{meant-rows}
use Rattle.line_records.proofs.meaning.find_identified.Goals as goal

pub returns-in-Some : goal.returns-in-Some
returns-in-Some c =
    let a = c.args in
    rw c.in-Some.is (c.find.ensures ∙ meant-rows _ a.words.now (omega arith))
