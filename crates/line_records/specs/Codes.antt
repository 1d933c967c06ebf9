-- The words of a state. A word that is no code reads as the first case, so an unknown state is no record.
use Rattle.std.specs.Prelude.{ℕ, eqb}
use Rattle.lists.specs.Choice.{pick}
use Rattle.line_table.specs.declared.table.State.{State}
use Rattle.line_table.specs.declared.table.State.TheVariants.{Free, Invoked, Await, Alert}

unfoldable pub state_of : ℕ → State
state_of code = pick (eqb code 1) Invoked (pick (eqb code 2) Await (pick (eqb code 3) Alert Free))

abbrev pub state_code : State → ℕ
state_code Free = 0
state_code Invoked = 1
state_code Await = 2
state_code Alert = 3
