-- A row of the line's table taken for a record: the change of the desk and the outcome that its effect means, which tells the record's place.
use Rattle.std.specs.Prelude.{ℕ, Bool, true, false, Some}
use Rattle.desk.specs.Carriers.{sends_as}
use Rattle.desk.specs.Outcome.{no_timers, done_with}
use Rattle.desk.specs.Sends.{sent}
use Rattle.desk.specs.declared.outcome.Timers.{Timers}
use Rattle.terms.specs.Terms.{kind_after, elements_of}
use Rattle.line_table.specs.Table.{effect_of}
use Rattle.line_table.specs.declared.table.State.{State}
use Rattle.line_table.specs.declared.table.Row.{Row}
use Rattle.line_table.specs.declared.table.Effect.{Effect}
use Rattle.desk.specs.declared.plan.Next.{Next}
use Rattle.desk.specs.declared.plan.Next.TheVariants.{Gone, Same, To}
use Rattle.line_table.specs.declared.table.Mark.{Mark}
use Rattle.line_table.specs.declared.table.Mark.TheVariants.{Nothing, Sets, Clears}
use Rattle.line_table.specs.declared.record.Record.{Record}
use Rattle.line_table.specs.declared.record.Turned.{Turned}
use Rattle.line_table.specs.declared.record.Change.{Change}
use Rattle.line_table.specs.declared.record.Change.TheVariants.{Turn, Remove}
use Rattle.desk.specs.declared.plan.Plan.{Plan}

-- the line's one timer
abbrev pub guard : Timers
guard = record { t1 = false; t2 = false; t3 = false; guard = true }

abbrev pub marked_by : Mark → Bool → Bool
marked_by Nothing before = before
marked_by Sets before = true
marked_by Clears before = false

-- what a row turns in a record that goes on in a state
abbrev pub turned_to : State → Effect → Record → Turned
turned_to state effect r =
    record {
      kind = kind_after effect.kind r.terms.kind;
      state = state;
      active = marked_by effect.active r.active;
      suspended = marked_by effect.suspended r.suspended;
      down = marked_by effect.down r.down;
    }

abbrev pub changed : Next State → Effect → ℕ → Record → Change
changed Gone effect place r = Remove place
changed Same effect place r = Turn (turned_to r.state effect r) place
changed (To state) effect place r = Turn (turned_to state effect r) place

-- a delete stops the guard
abbrev pub stopped : Next State → Timers
stopped Gone = guard
stopped Same = no_timers
stopped (To state) = no_timers

unfoldable pub row_taken : ℕ → Record → Row → Plan Change
row_taken place r row =
    record {
      change = changed (effect_of row).next (effect_of row) place r;
      outcome = done_with (sent (effect_of row).sends (elements_of r.terms) (sends_as r.terms.connection r.down)) no_timers (stopped (effect_of row).next) (Some place);
    }
