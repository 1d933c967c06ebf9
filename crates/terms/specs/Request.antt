-- What a request asks for (document 01, types 1 and 2): whom it names, and what stands behind the numbers; the message that asks it, and the terms that it gives a record.
use Rattle.std.specs.Prelude.{ℕ, ◌%◌, Bool, eqb, Option, None}
use Rattle.lists.specs.declared.words.Words.{Words}
use Rattle.message.specs.Format.{request_body}
use Rattle.message.specs.declared.Carrier.TheVariants.{Setup}
use Rattle.desk.specs.Sends.{no_number}
use Rattle.desk.specs.declared.Connection.{Connection}
use Rattle.desk.specs.declared.Keep.{Keep}
use Rattle.desk.specs.declared.letter.Letter.{Letter}
use Rattle.terms.specs.declared.Terms.{Terms}
use Rattle.terms.specs.declared.request.Names.{Names}
use Rattle.terms.specs.declared.request.Request.{Request}

-- ---- whom an input names; what it does not name is absent
abbrev pub letter_names : Letter → Names
letter_names l = record { identifier = l.identifier; numberA = l.numberA; numberB = l.numberB; service = l.service }

abbrev pub only_identifier : Option Words → Names
only_identifier identifier = record { identifier = identifier; numberA = no_number; numberB = no_number; service = None }

abbrev pub only_line : Words → Names
only_line number = record { identifier = None; numberA = no_number; numberB = number; service = None }

-- ---- a request
-- flags are can-keep (0 or 1) plus 2 × preference
abbrev pub can_keep_sent : ℕ → Bool
can_keep_sent flags = eqb (flags % 2) 1

-- the terms that it gives a record, with the two choices
abbrev pub request_terms : Names → Request → Keep → Connection → Terms
request_terms names q keep connection =
    record {
      identifier = names.identifier;
      numberA = names.numberA;
      numberB = names.numberB;
      service = q.service;
      kind = q.kind;
      keep = keep;
      connection = connection;
    }

-- the message that asks it: type 1 or 2 in Setup
abbrev pub request_letter : Names → Request → Letter
request_letter names q =
    record {
      carrier = Setup;
      identifier = names.identifier;
      numberA = names.numberA;
      numberB = names.numberB;
      service = None;
      body = request_body q.kind q.service q.flags;
    }
