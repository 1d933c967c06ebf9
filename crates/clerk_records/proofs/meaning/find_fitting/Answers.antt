-- A row that fits is a record that fits.
use mathlib.Core.Path.{◌∙◌}
use native.Mathlib.Omega.{arith}
use Rattle.clerk_records.proofs.RecordsLaws.{elements-found}
use Rattle.clerk_records.proofs.meaning.find_fitting.Goals as goal

pub returns : goal.returns
returns c =
    let a = c.args in
    c.find_fitting.ensures
    ∙ rw (c.states_for-states.ensures, c.letter_names-names.ensures) (elements-found a.l a.words.now (omega arith))
