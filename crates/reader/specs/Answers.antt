-- What the reader's answers are: a message and the first unread place, or what is wrong.
use Rattle.std.specs.Prelude.{ℕ, ◌+◌, false, Bool, List, replicate, None, Result, Ok, Err}
use Rattle.lists.specs.Choice.{pick}
use Rattle.message.specs.Copied.{copied}
use Rattle.message.specs.Reading.{Read, took, refused}
use Rattle.message.specs.Wire.{Fields, plain_at}
use Rattle.message.specs.declared.Carrier.{Carrier}
use Rattle.message.specs.declared.Carrier.TheVariants.{Setup}
use Rattle.message.specs.declared.Body.{Body}
use Rattle.message.specs.declared.Body.TheVariants.{CallFailed}
use Rattle.message.specs.declared.Message.{Message}
use Rattle.message.specs.declared.Fault.{Fault}
use Rattle.reader.specs.declared.Numbered.{Numbered}
use Rattle.reader.specs.declared.Answer.{Answer}

abbrev pub numbered_fields : Numbered → Fields
numbered_fields read = record { behindA = read.behindA; behindB = read.behindB; service = read.service; body = read.body }

-- the fields from a place on, of a body alone: numbers that end where they begin, and no service
abbrev pub bare_told : ℕ → Result (Body × ℕ) Fault → Read Fields
bare_told at (Ok (body, next)) = plain_at at body next
bare_told at (Err fault) = refused fault

-- the fields with numbers
abbrev pub whole_told : Result (Numbered × ℕ) Fault → Read Fields
whole_told (Ok (read, next)) = took (numbered_fields read) next
whole_told (Err fault) = refused fault

-- the answer that tells of fields with numbers, wherever they begin
abbrev pub whole_read : Read Fields → Result (Numbered × ℕ) Fault
whole_read (Ok (fields, next)) = Ok (record { behindA = fields.behindA; behindB = fields.behindB; service = fields.service; body = fields.body }, next)
whole_read (Err fault) = Err fault

-- sixteen bytes where there is an identifier, and else zeros
abbrev pub identifier_copied : Bool → List ℕ → ℕ → List ℕ
identifier_copied identified s at = pick identified (copied s at (at + 16)) (replicate 16 0)

-- a message without numbers
abbrev pub bare_message : Carrier → Bool → List ℕ → Body → Message
bare_message carrier identified identifier body =
    record {
      carrier = carrier;
      identified = identified;
      identifier = identifier;
      numberA = replicate 16 0;
      numberB = replicate 16 0;
      service = None;
      body = body;
    }

-- what stands for the message beside a refusal
abbrev pub blank_message : Message
blank_message = bare_message Setup false (replicate 16 0) CallFailed

abbrev pub read_answer : Read Message → Answer
read_answer (Ok (message, next)) = record { verdict = Ok next; message = message }
read_answer (Err fault) = record { verdict = Err fault; message = blank_message }
