-- What a desk sends: a message of a row of its table, or the answer to a message that it refuses or denies.
use Rattle.std.specs.Prelude.{Option, Some, None}
use Rattle.lists.specs.Choice.{pick}
use Rattle.lists.specs.declared.words.Words.{Words}
use Rattle.message.specs.Format.{has_elements}
use Rattle.message.specs.declared.Carrier.{Carrier}
use Rattle.message.specs.declared.Carrier.TheVariants.{ReleaseComplete}
use Rattle.message.specs.declared.Body.{Body}
use Rattle.desk.specs.Carriers.{sent_in}
use Rattle.desk.specs.declared.Connection.{Connection}
use Rattle.desk.specs.declared.letter.Letter.{Letter}
use Rattle.desk.specs.declared.sends.Elements.{Elements}

-- ---- a message without numbers of digits and service, and one with all that a record gives it
abbrev pub no_number : Words
no_number = record { low = 0; high = 0 }

abbrev pub plain_letter : Option Words → Carrier → Body → Letter
plain_letter identifier carrier body =
    record { carrier = carrier; identifier = identifier; numberA = no_number; numberB = no_number; service = None; body = body }

abbrev pub full_letter : Elements → Carrier → Body → Letter
full_letter elements carrier body =
    record {
      carrier = carrier;
      identifier = elements.identifier;
      numberA = elements.numberA;
      numberB = elements.numberB;
      service = Some elements.service;
      body = body;
    }

-- ---- what a record sends: its identifier, if it has one; its numbers and service in Setup, in types 5, 6, 9 and 10 (document 02, Ask 1)
abbrev pub record_letter : Elements → Carrier → Body → Letter
record_letter elements carrier body = pick (has_elements body carrier) (full_letter elements carrier body) (plain_letter elements.identifier carrier body)

-- in the carrier of its type and of the record's connection choice
abbrev pub sent : Option Body → Elements → Connection → Option Letter
sent None elements connection = None
sent (Some body) elements connection = Some (record_letter elements (sent_in body connection) body)

-- ---- an answer in Release Complete with the identifier of what it answers, or none: the reply to a refused message, the error of a request that is denied
abbrev pub replied : Option Words → Body → Option Letter
replied identifier body = Some (plain_letter identifier ReleaseComplete body)

-- the answer that goes with a refusal, or none
abbrev pub answered : Option Words → Option Body → Option Letter
answered identifier None = None
answered identifier (Some body) = replied identifier body
