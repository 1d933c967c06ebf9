-- What an answer, an outcome and a desk tell, as plain numbers: document 01's own for refusals, types, fields and carriers, the codes of the words for what a record holds.
use Rattle.desk.specs.declared.letter.Letter.{Letter}
use Rattle.std.specs.Prelude.{ℕ, List, [], ◌∷◌, ◌++◌, get_or, Option, Some, None, Ok, Err}
use Rattle.lists.specs.Lists.{count}
use Rattle.lists.specs.Words.{words_of}
use Rattle.message.specs.Reading.{Read}
use Rattle.message.specs.Refusals.{refusal_number}
use Rattle.message.specs.Number.{number_at}
use Rattle.message.specs.Format.{typeNumber, carrier_number}
use Rattle.message.specs.Wire.{message_at}
use Rattle.message.specs.Refusals.{refusal_number}
use Rattle.message.specs.declared.refusal.Refusal.{Refusal}
use Rattle.message.specs.declared.Body.{Body}
use Rattle.message.specs.declared.Body.TheVariants.{CcbsRequest, CcnrRequest, RequestResult, RequestError, CcExecPossible, CcRingout, RingoutError, CcSuspend, CcResume, CcCancel, CallAlerts, CallFailed}
use Rattle.terms.specs.Codes.{keep_code, connection_code, flag_code}
use Rattle.desk.specs.Letter.{number_words}
use Rattle.desk.specs.declared.outcome.Outcome.{Outcome}
use Rattle.clerk_table.specs.declared.record.Record as ClerkRecord
use Rattle.clerk_records.specs.Codes as ClerkCodes
use Rattle.clerk_records.specs.Records as ClerkRecords
use Rattle.clerk.specs.declared.Desk as ClerkDesk
use Rattle.line_table.specs.Search.{used}
use Rattle.line_table.specs.declared.line.Line.{Line}
use Rattle.line_table.specs.declared.record.Record as LineRecord
use Rattle.line_records.specs.Codes as LineCodes
use Rattle.line_records.specs.Records as LineRecords
use Rattle.line_records.specs.Lines.{lines, line_at, no_line}
use Rattle.line.specs.declared.Desk as LineDesk

-- ---- the wire
-- a refusal by its number and the place of the fault; else 0 and what the value tells
abbrev pub answer : {A : Type 0} → (A → List ℕ) → Read A → List ℕ
answer tells (Ok (value, next)) = 0 ∷ tells value
answer tells (Err fault) = refusal_number fault.refusal ∷ fault.place ∷ []

-- the number at the front of some bytes
abbrev pub number_of : List ℕ → List ℕ
number_of bytes = answer (λ value. value ∷ []) (number_at bytes 0)

-- whether a message stands at the front of some bytes
abbrev pub message_of : List ℕ → List ℕ
message_of bytes = answer (λ message. []) (message_at bytes)

-- ---- what several parts tell, one after the other
unfoldable pub joined : List (List ℕ) → List ℕ
joined [] = []
joined (part ∷ parts) = part ++ joined parts

-- ---- an outcome: the refusal's number or 0; then the message sent, by type, fields and carrier, or 0 for none
abbrev pub refusal_tells : Option Refusal → ℕ
refusal_tells None = 0
refusal_tells (Some refusal) = refusal_number refusal

abbrev pub field_numbers : Body → List ℕ
field_numbers (CcbsRequest flags service) = service ∷ flags ∷ []
field_numbers (CcnrRequest flags service) = service ∷ flags ∷ []
field_numbers (RequestResult keep) = keep ∷ []
field_numbers (RequestError error) = error ∷ []
field_numbers CcExecPossible = []
field_numbers CcRingout = []
field_numbers (RingoutError error) = error ∷ []
field_numbers CcSuspend = []
field_numbers CcResume = []
field_numbers CcCancel = []
field_numbers CallAlerts = []
field_numbers CallFailed = []

abbrev pub sending_tells : Option Letter → List ℕ
sending_tells None = 0 ∷ []
sending_tells (Some l) = typeNumber l.body ∷ (field_numbers l.body ++ (carrier_number l.carrier ∷ []))

unfoldable pub outcome_tells : Outcome → List ℕ
outcome_tells outcome = refusal_tells outcome.refusal ∷ sending_tells outcome.sending

-- ---- the clerk's record of an identifier: state (1 Wait-Ack, 2 Invoked, 3 Wait-Answer, 4 Ringout, 5 Suspended), keep choice (1 ends,
-- 2 kept), connection choice (1 RET, 2 RLS); 0 for no record
abbrev pub clerk_record_tells : ClerkRecord.Record → List ℕ
clerk_record_tells r = ClerkCodes.state_code r.state ∷ keep_code r.terms.keep ∷ connection_code r.terms.connection ∷ []

abbrev pub clerk_found_tells : List ClerkRecord.Record → Option ℕ → List ℕ
clerk_found_tells rs None = 0 ∷ []
clerk_found_tells rs (Some i) = clerk_record_tells (get_or rs i ClerkRecords.blank)

abbrev pub clerk_records_tell : List ClerkRecord.Record → List ℕ → List ℕ
clerk_records_tell rs identifier = clerk_found_tells rs (ClerkRecords.meant (words_of identifier) rs)

unfoldable pub clerk_tells : ClerkDesk.Desk → List ℕ → List ℕ
clerk_tells d identifier = clerk_records_tell (ClerkRecords.records d.words) identifier

-- ---- the line desk's record of an identifier: state (1 Invoked, 2 Await, 3 Alert), then the choices as above; 0 for no record
abbrev pub line_record_tells : LineRecord.Record → List ℕ
line_record_tells r = LineCodes.state_code r.state ∷ keep_code r.terms.keep ∷ connection_code r.terms.connection ∷ []

abbrev pub line_found_tells : List LineRecord.Record → Option ℕ → List ℕ
line_found_tells rs None = 0 ∷ []
line_found_tells rs (Some i) = line_record_tells (get_or rs i LineRecords.blank)

abbrev pub line_records_tell : List LineRecord.Record → List ℕ → List ℕ
line_records_tell rs identifier = line_found_tells rs (LineRecords.meant (words_of identifier) rs)

unfoldable pub line_tells : LineDesk.Desk → List ℕ → List ℕ
line_tells d identifier = line_records_tell (LineRecords.records d.words) identifier

-- how many records the line desk holds
unfoldable pub held : LineDesk.Desk → List ℕ
held d = count used (LineRecords.records d.words) ∷ []

-- the status of a line: 0 free, 1 busy; 2 for a number that is no line
abbrev pub status_found : List Line → Option ℕ → ℕ
status_found ls None = 2
status_found ls (Some k) = flag_code (get_or ls k no_line).busy

unfoldable pub status : LineDesk.Desk → List ℕ → List ℕ
status d digits = status_found (lines d.words) (line_at (number_words digits) (lines d.words)) ∷ []
