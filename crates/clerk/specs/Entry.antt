-- What comes in at the clerk's desk: bytes and raw arrays become an input, or are refused with 1 or 2 before the desk is asked.
use Rattle.std.specs.Prelude.{ℕ, ◌+◌, ◌*◌, Bool, List, ltb, Some, None, Ok, Err, Result}
use Rattle.lists.specs.Choice.{pick}
use Rattle.message.specs.Reading.{Read}
use Rattle.message.specs.Format.{request_body, in_range}
use Rattle.message.specs.Wire.{message_at}
use Rattle.message.specs.declared.Carrier.TheVariants.{Setup}
use Rattle.message.specs.declared.Message.{Message}
use Rattle.message.specs.declared.refusal.Refusal.{Refusal}
use Rattle.message.specs.declared.refusal.Refusal.TheVariants.{OutOfRange}
use Rattle.desk.specs.Letter.{letter_of}
use Rattle.terms.specs.Request.{letter_names}
use Rattle.terms.specs.declared.request.Name.{Name}
use Rattle.terms.specs.declared.request.Names.{Names}
use Rattle.terms.specs.declared.request.Request.{Request}
use Rattle.clerk_table.specs.declared.table.Timer.{Timer}
use Rattle.clerk_table.specs.declared.inputs.Act.{Act}
use Rattle.clerk_table.specs.declared.inputs.Input.{Input}
use Rattle.clerk.specs.declared.entry.Asking.{Asking}
use Rattle.desk.specs.declared.entry.BytesEntry.{BytesEntry}

-- ---- ask: 2 (digits, service, preference)
-- can-keep (0 or 1) plus 2 × preference
abbrev pub ask_flags : Bool → ℕ → ℕ
ask_flags canKeep preference = pick canKeep (1 + 2 * preference) (2 * preference)

abbrev pub ask_request : Asking → Request
ask_request a = record { kind = a.kind; service = a.service; flags = ask_flags a.canKeep a.preference }

-- type 1 or 2 in Setup
abbrev pub request_message : Asking → Request → Message
request_message a q =
    record {
      carrier = Setup;
      identified = a.identified;
      identifier = a.identifier;
      numberA = a.numberA;
      numberB = a.numberB;
      service = None;
      body = request_body q.kind q.service q.flags;
    }

abbrev pub ask_message : Asking → Message
ask_message a = request_message a (ask_request a)

-- whom it names: as its message does
abbrev pub ask_names : Asking → Names
ask_names a = letter_names (letter_of (ask_message a))

unfoldable pub ask_entry : Asking → Result Input Refusal
ask_entry a = pick (ltb a.preference 3) (pick (in_range (ask_message a)) (Ok (Input.Ask (ask_names a) (ask_request a))) (Err OutOfRange)) (Err OutOfRange)

-- ---- a message received, with the host's word on User A and the place that the host names for it: 2
unfoldable pub message_entry : Message → Bool → ℕ → Result Input Refusal
message_entry m busy place = pick (in_range m) (Ok (Input.Message (letter_of m) busy place)) (Err OutOfRange)

-- ---- acts and timers
abbrev pub act_entry : Name → Act → Result Input Refusal
act_entry name act = Ok (Input.Act name act)

abbrev pub timer_entry : Name → Timer → Result Input Refusal
timer_entry name timer = Ok (Input.Timer name timer)

-- ---- raw bytes: the reader's 1 and 2, with the place of the fault
abbrev pub read_entry : Bool → ℕ → Read Message → BytesEntry (Result Input Refusal)
read_entry busy place (Ok (m, next)) = record { entry = message_entry m busy place; next = next; fault = None }
read_entry busy place (Err fault) = record { entry = Err fault.refusal; next = 0; fault = Some fault.place }

unfoldable pub bytes_entry : List ℕ → Bool → ℕ → BytesEntry (Result Input Refusal)
bytes_entry bytes busy place = read_entry busy place (message_at bytes)
