-- A record of the line desk in flight, in another state, turned, and marked active or not; and a step that is refused: it changes nothing.
use Rattle.desk.specs.declared.letter.Letter.{Letter}
use Rattle.std.specs.Prelude.{Bool, true, Option}
use Rattle.message.specs.declared.refusal.Refusal.{Refusal}
use Rattle.desk.specs.Outcome.{refused_with}
use Rattle.terms.specs.Terms.{with_kind}
use Rattle.line_table.specs.declared.table.State.{State}
use Rattle.line_table.specs.declared.record.Record.{Record}
use Rattle.line_table.specs.declared.record.Turned.{Turned}
use Rattle.line_table.specs.declared.record.Change.TheVariants.{Stay}
use Rattle.desk.specs.declared.plan.Plan.{Plan}
use Rattle.line_table.specs.declared.record.Change.{Change}

abbrev pub with_state : Record → State → Record
with_state r state = record { terms = r.terms; state = state; active = r.active; suspended = r.suspended; down = r.down }

abbrev pub with_activity : Record → Bool → Record
with_activity r active = record { terms = r.terms; state = r.state; active = active; suspended = r.suspended; down = r.down }

abbrev pub turned : Turned → Record → Record
turned t r = record { terms = with_kind r.terms t.kind; state = t.state; active = t.active; suspended = t.suspended; down = t.down }

-- what a busy report of its line turns in an Invoked record
abbrev pub activity : Record → Turned
activity r = record { kind = r.terms.kind; state = r.state; active = true; suspended = r.suspended; down = r.down }

abbrev pub activated : Record → Record
activated r = with_activity r true

abbrev pub refused_plan : Refusal → Option Letter → Plan Change
refused_plan refusal reply = record { change = Stay; outcome = refused_with refusal reply }
