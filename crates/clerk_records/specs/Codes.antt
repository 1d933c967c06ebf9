-- State words and what they stand for: this is the one place that decodes them. A word that is no code reads as the first case, so an unknown state is no record.
use Rattle.std.specs.Prelude.{ℕ, eqb}
use Rattle.lists.specs.Choice.{pick}
pub use Rattle.clerk_table.specs.Table.{state_code}
use Rattle.clerk_table.specs.declared.table.State.{State}
use Rattle.clerk_table.specs.declared.table.State.TheVariants.{Free, WaitAck, Invoked, WaitAnswer, Ringout, Suspended}

unfoldable pub state_of : ℕ → State
state_of code =
    pick (eqb code 1) WaitAck
    (pick (eqb code 2) Invoked
    (pick (eqb code 3) WaitAnswer
    (pick (eqb code 4) Ringout
    (pick (eqb code 5) Suspended
    Free))))
