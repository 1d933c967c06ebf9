-- A row of the clerk's table taken for a record: the change of the desk and the outcome that its effect means, which tells the record's place.
use Rattle.message.specs.declared.Kind.{Kind}
use Rattle.std.specs.Prelude.{ℕ, Bool, true, false, Option, Some, None}
use Rattle.lists.specs.Choice.{pick}
use Rattle.desk.specs.Carriers.{sends_as}
use Rattle.desk.specs.Outcome.{no_timers}
use Rattle.desk.specs.Sends.{sent}
use Rattle.desk.specs.declared.outcome.Timers.{Timers}
use Rattle.terms.specs.Terms.{kind_after, elements_of}
use Rattle.clerk_table.specs.Table.{effect_of}
use Rattle.clerk_table.specs.declared.table.State.{State}
use Rattle.clerk_table.specs.declared.table.State.TheVariants.{Free, WaitAck, Invoked, WaitAnswer, Ringout, Suspended}
use Rattle.clerk_table.specs.declared.table.Row.{Row}
use Rattle.desk.specs.declared.plan.Next.{Next}
use Rattle.desk.specs.declared.plan.Next.TheVariants.{Gone, Same, To}
use Rattle.clerk_table.specs.declared.table.Timer.{Timer}
use Rattle.clerk_table.specs.declared.table.Timer.TheVariants.{T1, T2, T3}
use Rattle.clerk_table.specs.declared.table.Stops.{Stops}
use Rattle.clerk_table.specs.declared.record.Record.{Record}
use Rattle.clerk_table.specs.declared.record.Turned.{Turned}
use Rattle.clerk_table.specs.declared.record.Change.{Change}
use Rattle.clerk_table.specs.declared.record.Change.TheVariants.{Turn, Remove}
use Rattle.desk.specs.declared.plan.Plan.{Plan}

-- the mark is set, and never cleared
abbrev pub down_after : Bool → Bool → Bool
down_after falls down = pick falls true down

-- what a row turns in a record that goes on in a state
abbrev pub turned_to : State → Option Kind → Bool → Record → Turned
turned_to state kind falls r =
    record {
      keep = r.terms.keep;
      connection = r.terms.connection;
      kind = kind_after kind r.terms.kind;
      state = state;
      down = down_after falls r.down;
    }

abbrev pub changed : Next State → Option Kind → Bool → ℕ → Record → Change
changed Gone kind falls place r = Remove place
changed Same kind falls place r = Turn place (turned_to r.state kind falls r)
changed (To state) kind falls place r = Turn place (turned_to state kind falls r)

abbrev pub only : Timer → Timers
only T1 = record { t1 = true; t2 = false; t3 = false; guard = false }
only T2 = record { t1 = false; t2 = true; t3 = false; guard = false }
only T3 = record { t1 = false; t2 = false; t3 = true; guard = false }

abbrev pub started : Option Timer → Timers
started None = no_timers
started (Some timer) = only timer

-- T1 runs in Wait-Ack, T3 in Wait-Answer, T2 in the last four
abbrev pub running : State → Timers
running Free = no_timers
running WaitAck = only T1
running Invoked = only T2
running WaitAnswer = record { t1 = false; t2 = true; t3 = true; guard = false }
running Ringout = only T2
running Suspended = only T2

abbrev pub stopped : Stops → State → Timers
stopped Stops.Nothing state = no_timers
stopped (Stops.One timer) state = only timer
stopped Stops.Running state = running state

-- the host is told to clear the call only in Ringout
abbrev pub in_ringout : State → Bool
in_ringout Free = false
in_ringout WaitAck = false
in_ringout Invoked = false
in_ringout WaitAnswer = false
in_ringout Ringout = true
in_ringout Suspended = false

abbrev pub cleared : Bool → State → Bool
cleared clears state = pick clears (in_ringout state) false

unfoldable pub row_taken : ℕ → Record → Row → Plan Change
row_taken place r row =
    record {
      change = changed (effect_of row).next (effect_of row).kind (effect_of row).falls place r;
      outcome = record {
        refusal = None;
        sending = sent (effect_of row).sends (elements_of r.terms) (sends_as r.terms.connection r.down);
        starts = started (effect_of row).starts;
        stops = stopped (effect_of row).stops r.state;
        notice = (effect_of row).notice;
        clear = cleared (effect_of row).clears r.state;
        at = Some place;
      };
    }
