-- What is put in at the line desk, as a message, bytes or arrays, is made an input of the desk, or is refused with 1, 2 or 10 before the desk is asked.
use Rattle.std.specs.Prelude.{ℕ, Bool, List, Some, None, Ok, Err, Result}
use Rattle.lists.specs.Choice.{pick}
use Rattle.message.specs.Reading.{Read}
use Rattle.message.specs.Number.{digits_in_range}
use Rattle.message.specs.Format.{in_range}
use Rattle.message.specs.Wire.{message_at}
use Rattle.message.specs.declared.Message.{Message}
use Rattle.message.specs.declared.refusal.Refusal.{Refusal}
use Rattle.message.specs.declared.refusal.Refusal.TheVariants.{OutOfRange, NoLine}
use Rattle.desk.specs.Letter.{letter_of, number_words}
use Rattle.terms.specs.declared.request.Name.{Name}
use Rattle.line_table.specs.declared.inputs.Act.{Act}
use Rattle.line_table.specs.declared.inputs.Input.{Input}
use Rattle.line_table.specs.declared.inputs.Input.TheVariants as Input
use Rattle.desk.specs.declared.entry.BytesEntry.{BytesEntry}

-- ---- a message, with the place that the host names for it: 2 for a field out of range
unfoldable pub message_entry : Message → ℕ → Result Input Refusal
message_entry m place = pick (in_range m) (Ok (Input.Message (letter_of m) place)) (Err OutOfRange)

-- ---- an act, and the guard: by any identifier, or any place
abbrev pub act_entry : Name → Act → Result Input Refusal
act_entry name act = Ok (Input.Act name act)

abbrev pub guard_entry : Name → Result Input Refusal
guard_entry name = Ok (Input.Guard name)

-- ---- a line report, and a Look: 10 for bad digits
unfoldable pub report_entry : List ℕ → Bool → Result Input Refusal
report_entry digits busy = pick (digits_in_range 1 digits) (Ok (Input.Report (number_words digits) busy)) (Err NoLine)

unfoldable pub look_entry : List ℕ → Result Input Refusal
look_entry digits = pick (digits_in_range 1 digits) (Ok (Input.Look (number_words digits))) (Err NoLine)

-- ---- bytes: the reader's 1 and 2; else the message that is read, and the first unread place
abbrev pub read_entry : Read Message → ℕ → BytesEntry (Result Input Refusal)
read_entry (Ok (m, next)) place = record { entry = message_entry m place; next = next; fault = None }
read_entry (Err fault) place = record { entry = Err fault.refusal; next = 0; fault = Some fault.place }

unfoldable pub bytes_entry : List ℕ → ℕ → BytesEntry (Result Input Refusal)
bytes_entry bytes place = read_entry (message_at bytes) place
