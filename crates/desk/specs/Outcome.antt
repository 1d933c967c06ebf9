-- What a refused step is: why, its reply or none, and nothing else; and a step without a notice and without a word on the call.
use Rattle.desk.specs.declared.letter.Letter.{Letter}
use Rattle.std.specs.Prelude.{ℕ, false, Option, Some, None}
use Rattle.message.specs.declared.refusal.Refusal.{Refusal}
use Rattle.desk.specs.declared.outcome.Timers.{Timers}
use Rattle.desk.specs.declared.outcome.Notice.TheVariants.{Silent}
use Rattle.desk.specs.declared.outcome.Outcome.{Outcome}

abbrev pub no_timers : Timers
no_timers = record { t1 = false; t2 = false; t3 = false; guard = false }

-- a refusal is about no record
abbrev pub refused_with : Refusal → Option Letter → Outcome
refused_with refusal reply =
    record { refusal = Some refusal; sending = reply; starts = no_timers; stops = no_timers; notice = Silent; clear = false; at = None }

-- about the record at a place, or about none
abbrev pub done_with : Option Letter → Timers → Timers → Option ℕ → Outcome
done_with sending starts stops at =
    record { refusal = None; sending = sending; starts = starts; stops = stops; notice = Silent; clear = false; at = at }
