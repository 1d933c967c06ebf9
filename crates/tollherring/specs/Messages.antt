-- Messages as a host reads and writes them: an identifier, seventeen bytes, two numbers of digits, sixteen bytes each, and four plain numbers.
use Rattle.std.specs.Prelude.{ℕ, List, get_or, Option, None, Some, Ok, Err}
use Rattle.lists.specs.Choice.{pick}
use Rattle.message.specs.Reading.{Read}
use Rattle.message.specs.Refusals.{refusal_number}
use Rattle.message.specs.Wire.{message_at}
use Rattle.message.specs.declared.Body.{Body}
use Rattle.message.specs.declared.Carrier.{Carrier}
use Rattle.message.specs.declared.Message.{Message}
use Rattle.host_numbers.specs.Identifiers.{is_identifier, is_given, bytes_given, identifier_told}
use Rattle.host_numbers.specs.Messages.{message_numbers, least, body_given, carrier_given, WriteFace, write_face, message_face}

-- ---- reading: what stands in the host's memory, and the answer
pub record ReadFace : Type 0 where
  pub identifier : List ℕ
  pub numberA : List ℕ
  pub numberB : List ℕ
  pub numbers : List ℕ
  pub taken : ℕ
  pub fault : ℕ
  pub answer : ℕ

abbrev pub read_face : List ℕ → List ℕ → List ℕ → List ℕ → ℕ → ℕ → ℕ → ReadFace
read_face identifier numberA numberB numbers taken fault answer =
    record { identifier = identifier; numberA = numberA; numberB = numberB; numbers = numbers; taken = taken; fault = fault; answer = answer }

-- a message that is read leaves the place of a fault as it was; a refusal writes that place, and leaves the rest
abbrev pub read_told : Read Message → (ℕ → ℕ → ReadFace) → ℕ → ReadFace
read_told (Ok (m, next)) as_it_was fault =
    read_face (identifier_told m.identified m.identifier) m.numberA m.numberB (message_numbers m.carrier m.service m.body) next fault 0
read_told (Err found) as_it_was fault = as_it_was found.place (refusal_number found.refusal)

unfoldable pub message_read : List ℕ → (ℕ → ℕ → ReadFace) → ℕ → ReadFace
message_read bytes as_it_was fault = read_told (message_at bytes) as_it_was fault

-- ---- writing: 2 for a length that no identifier has, or a type or a carrier that is none, and then what the writer says; what the message has no field for does not count
abbrev pub message_given : Carrier → Body → List ℕ → List ℕ → List ℕ → ℕ → Message
message_given carrier body identifier numberA numberB service =
    record { carrier = carrier; identified = is_given identifier; identifier = bytes_given identifier; numberA = numberA; numberB = numberB; service = Some service; body = body }

abbrev pub on_carrier : Option Carrier → Body → List ℕ → List ℕ → List ℕ → ℕ → List ℕ → ℕ → ℕ → WriteFace
on_carrier (Some carrier) body identifier numberA numberB service out place was = message_face out place (message_given carrier body identifier numberA numberB service) was
on_carrier None body identifier numberA numberB service out place was = write_face out was 2

abbrev pub on_body : Option Body → Option Carrier → List ℕ → List ℕ → List ℕ → ℕ → List ℕ → ℕ → ℕ → WriteFace
on_body (Some body) carrier identifier numberA numberB service out place was = on_carrier carrier body identifier numberA numberB service out place was
on_body None carrier identifier numberA numberB service out place was = write_face out was 2

-- a request has its service in its body; 5, 6, 9 and 10 in Setup have it beside it
unfoldable pub numbers_faced : List ℕ → List ℕ → List ℕ → List ℕ → List ℕ → ℕ → ℕ → WriteFace
numbers_faced identifier numberA numberB numbers out place was =
    on_body (body_given (get_or numbers 0 0) (least 16384 (get_or numbers 2 0)) (least 255 (get_or numbers 3 0))) (carrier_given (get_or numbers 1 0)) identifier numberA numberB
    (get_or numbers 2 0) out place was

unfoldable pub message_faced : List ℕ → List ℕ → List ℕ → List ℕ → List ℕ → ℕ → ℕ → WriteFace
message_faced identifier numberA numberB numbers out place was =
    pick (is_identifier identifier) (numbers_faced identifier numberA numberB numbers out place was) (write_face out was 2)
