-- A message in flight: identifier and numbers of digits as pairs of words, 0 behind the last digit.
use Rattle.std.specs.Prelude.{ℕ, Bool, true, false, List, Option, Some, None}
use Rattle.lists.specs.Choice.{pick}
use Rattle.lists.specs.Words.{words_of, bytes_of, same_words}
use Rattle.lists.specs.declared.words.Words.{Words}
use Rattle.message.specs.Number.{digits_bytes, sixteen}
use Rattle.message.specs.declared.Message.{Message}
use Rattle.desk.specs.declared.letter.Letter.{Letter}

-- ---- identifiers: there is one, or none (document 02, Ask 1)
unfoldable pub identifier_of : Bool → List ℕ → Option Words
identifier_of identified bytes = pick identified (Some (words_of bytes)) None

abbrev pub is_identified : Option Words → Bool
is_identified None = false
is_identified (Some words) = true

-- 0 where there is none
abbrev pub identifier_words : Option Words → Words
identifier_words None = record { low = 0; high = 0 }
identifier_words (Some words) = words

-- two are the same only where both are there
abbrev pub same_identifier : Option Words → Option Words → Bool
same_identifier None b = false
same_identifier (Some own) None = false
same_identifier (Some own) (Some other) = same_words own other

-- ---- letters
-- a number of digits as words: length, digits, zeros
unfoldable pub number_words : List ℕ → Words
number_words number = words_of (sixteen (digits_bytes number))

unfoldable pub letter_of : Message → Letter
letter_of m =
    record {
      carrier = m.carrier;
      identifier = identifier_of m.identified m.identifier;
      numberA = number_words m.numberA;
      numberB = number_words m.numberB;
      service = m.service;
      body = m.body;
    }

-- the words as they stand: for a message that was read, which is its own normal form, the same letter
unfoldable pub read_letter : Message → Letter
read_letter m =
    record {
      carrier = m.carrier;
      identifier = identifier_of m.identified m.identifier;
      numberA = words_of m.numberA;
      numberB = words_of m.numberB;
      service = m.service;
      body = m.body;
    }

unfoldable pub message_of : Letter → Message
message_of l =
    record {
      carrier = l.carrier;
      identified = is_identified l.identifier;
      identifier = bytes_of (identifier_words l.identifier);
      numberA = bytes_of l.numberA;
      numberB = bytes_of l.numberB;
      service = l.service;
      body = l.body;
    }
