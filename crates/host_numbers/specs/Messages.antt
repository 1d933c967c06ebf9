-- A message as plain numbers, and what numbers stand for a message.
use Rattle.std.specs.Prelude.{ℕ, List, [], ◌∷◌, eqb, ltb, Option, Some, None, Result, Ok, Err}
use Rattle.lists.specs.Choice.{pick}
use Rattle.message.specs.Format.{typeNumber, carrier_number}
use Rattle.message.specs.Refusals.{refusal_number}
use Rattle.message.specs.declared.Body.{Body}
use Rattle.message.specs.declared.Body.TheVariants.{CcbsRequest, CcnrRequest, RequestResult, RequestError, CcExecPossible, CcRingout, RingoutError, CcSuspend, CcResume, CcCancel, CallAlerts, CallFailed}
use Rattle.message.specs.declared.Carrier.{Carrier}
use Rattle.message.specs.declared.Carrier.TheVariants.{Setup, Connect, Facility, ReleaseComplete, Alerting}
use Rattle.message.specs.declared.Message.{Message}
use Rattle.writer.specs.Write.{message_written, message_buffer}
use Rattle.message.specs.declared.refusal.Refusal.{Refusal}

-- ---- the four numbers: type, carrier, service (of a request its own, of another type the one beside it: types 5, 6, 9 and 10 in Setup have one), and the one other field (flags, keep
-- or error); 0 where a message has none
abbrev pub service_told : Option ℕ → ℕ
service_told None = 0
service_told (Some number) = number

abbrev pub service_of : Body → ℕ → ℕ
service_of (CcbsRequest flags service) beside = service
service_of (CcnrRequest flags service) beside = service
service_of (RequestResult keep) beside = beside
service_of (RequestError error) beside = beside
service_of CcExecPossible beside = beside
service_of CcRingout beside = beside
service_of (RingoutError error) beside = beside
service_of CcSuspend beside = beside
service_of CcResume beside = beside
service_of CcCancel beside = beside
service_of CallAlerts beside = beside
service_of CallFailed beside = beside

abbrev pub field_of : Body → ℕ
field_of (CcbsRequest flags service) = flags
field_of (CcnrRequest flags service) = flags
field_of (RequestResult keep) = keep
field_of (RequestError error) = error
field_of CcExecPossible = 0
field_of CcRingout = 0
field_of (RingoutError error) = error
field_of CcSuspend = 0
field_of CcResume = 0
field_of CcCancel = 0
field_of CallAlerts = 0
field_of CallFailed = 0

abbrev pub message_numbers : Carrier → Option ℕ → Body → List ℕ
message_numbers carrier service body = typeNumber body ∷ carrier_number carrier ∷ service_of body (service_told service) ∷ field_of body ∷ []

-- ---- what the numbers stand for
-- a number too large for its field stays too large
unfoldable pub least : ℕ → ℕ → ℕ
least limit number = pick (ltb number limit) number limit

unfoldable pub body_given : ℕ → ℕ → ℕ → Option Body
body_given type service field =
    pick (eqb type 1) (Some (CcbsRequest field service))
    (pick (eqb type 2) (Some (CcnrRequest field service))
    (pick (eqb type 3) (Some (RequestResult field))
    (pick (eqb type 4) (Some (RequestError field))
    (pick (eqb type 5) (Some CcExecPossible)
    (pick (eqb type 6) (Some CcRingout)
    (pick (eqb type 7) (Some (RingoutError field))
    (pick (eqb type 8) (Some CcSuspend)
    (pick (eqb type 9) (Some CcResume)
    (pick (eqb type 10) (Some CcCancel)
    (pick (eqb type 11) (Some CallAlerts) (pick (eqb type 12) (Some CallFailed) None)))))))))))

unfoldable pub carrier_given : ℕ → Option Carrier
carrier_given number =
    pick (eqb number 1) (Some Setup)
    (pick (eqb number 2) (Some Connect)
    (pick (eqb number 3) (Some Facility)
    (pick (eqb number 4) (Some ReleaseComplete) (pick (eqb number 5) (Some Alerting) None))))

-- ---- a message written at a place: the buffer, its length and the answer
pub record WriteFace : Type 0 where
  pub out : List ℕ
  pub written : ℕ
  pub answer : ℕ

abbrev pub write_face : List ℕ → ℕ → ℕ → WriteFace
write_face out written answer = record { out = out; written = written; answer = answer }

-- the writer's answer: on a refusal the length stays as it was, and so does the buffer
abbrev pub wrote_face : Result ℕ Refusal → List ℕ → ℕ → WriteFace
wrote_face (Ok length) buffer was = write_face buffer length 0
wrote_face (Err refusal) buffer was = write_face buffer was (refusal_number refusal)

unfoldable pub message_face : List ℕ → ℕ → Message → ℕ → WriteFace
message_face out place m was = wrote_face (message_written out place m) (message_buffer out place m) was
