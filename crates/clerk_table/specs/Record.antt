-- A clerk's record in flight, in another state, with other terms or with the mark "connection down" or not; and a step that is refused: it changes nothing.
use Rattle.desk.specs.declared.letter.Letter.{Letter}
use Rattle.std.specs.Prelude.{Bool, Option}
use Rattle.message.specs.declared.refusal.Refusal.{Refusal}
use Rattle.desk.specs.Outcome.{refused_with}
use Rattle.terms.specs.declared.Terms.{Terms}
use Rattle.clerk_table.specs.declared.table.State.{State}
use Rattle.clerk_table.specs.declared.record.Record.{Record}
use Rattle.clerk_table.specs.declared.record.Change.TheVariants.{Stay}
use Rattle.desk.specs.declared.plan.Plan.{Plan}
use Rattle.clerk_table.specs.declared.record.Change.{Change}

abbrev pub with_state : Record → State → Record
with_state r state = record { terms = r.terms; state = state; canKeep = r.canKeep; down = r.down }

abbrev pub with_terms : Record → Terms → Record
with_terms r terms = record { terms = terms; state = r.state; canKeep = r.canKeep; down = r.down }

abbrev pub with_down : Record → Bool → Record
with_down r down = record { terms = r.terms; state = r.state; canKeep = r.canKeep; down = down }

abbrev pub refused_plan : Refusal → Option Letter → Plan Change
refused_plan refusal reply = record { change = Stay; outcome = refused_with refusal reply }
