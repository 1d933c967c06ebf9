-- The rows that fit are the records that do.
use native.Mathlib.Omega.{arith}
use Rattle.line_records.proofs.RecordsLaws.{fitting-rows}
use Rattle.line_records.proofs.meaning.find_fitting.Goals as goal

pub returns : goal.returns
returns c =
    let a = c.args in
    rw (c.find_fitting.ensures, c.letter_names-names.ensures, c.states_for-states.ensures) (fitting-rows a.l a.words.now (omega arith))
