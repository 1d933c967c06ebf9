-- A step of either desk: the desk afterwards and the outcome, of a desk that was lent, of a refusal and of bytes.
use Rattle.std.specs.Prelude.{ℕ, Option, None}
use Rattle.message.specs.declared.refusal.Refusal.{Refusal}
use Rattle.desk.specs.Outcome.{refused_with}
use Rattle.desk.specs.declared.entry.BytesEntry.{BytesEntry}
use Rattle.desk.specs.declared.outcome.Outcome.{Outcome}
use Rattle.desk.specs.declared.outcome.BytesOutcome.{BytesOutcome}
use Rattle.desk.specs.declared.outcome.Stepped.{Stepped}
use Rattle.desk.specs.declared.outcome.SteppedBytes.{SteppedBytes}

-- a desk that was lent, as it was left, and the outcome, as one step
abbrev pub answered : {Desk : Type 0} → Desk → Outcome → Stepped Desk
answered d outcome = record { desk = d; outcome = outcome }

abbrev pub answered_bytes : {Desk : Type 0} → Desk → BytesOutcome → SteppedBytes Desk
answered_bytes d answer = record { desk = d; outcome = answer.outcome; next = answer.next; fault = answer.fault }

-- a refusal without a reply: the desk stays as it was
abbrev pub refused_step : {Desk : Type 0} → Desk → Refusal → Stepped Desk
refused_step d refusal = record { desk = d; outcome = refused_with refusal None }

abbrev pub with_next : {Desk : Type 0} → Stepped Desk → ℕ → Option ℕ → SteppedBytes Desk
with_next step next fault = record { desk = step.desk; outcome = step.outcome; next = next; fault = fault }

-- what the desk makes of the entry of bytes, with the first unread place and the fault of the bytes
abbrev pub read_step : {Desk Entry : Type 0} → (Entry → Stepped Desk) → BytesEntry Entry → SteppedBytes Desk
read_step enter read = with_next (enter read.entry) read.next read.fault
