-- Demand 2 for the wire: "A written message reads back equal; bytes that are read are those the writer makes." Each claim is a type; its proof has its name.
use Rattle.std.specs.Prelude.{ℕ, ◌+◌, ◌≤◌, ◌≡◌, true, List, length, take, drop, Ok}
use Rattle.lists.specs.Words.{Bytes}
use Rattle.message.specs.Reading.{took}
use Rattle.message.specs.Format.{writable, message_bytes}
use Rattle.message.specs.Equality.{Same, Formed, normal}
use Rattle.message.specs.Wire.{message_at}
use Rattle.message.specs.declared.Message.{Message}
use Rattle.writer.specs.Write.{message_written, message_buffer}

-- a message that was written into a buffer, wherever it stands there and whatever follows it
pub record Back (buffer : List ℕ) (place : ℕ) (m : Message) (n : ℕ) : Type 0 where
  -- it reads back, as far as it was written, and equal
  pub read : message_at (drop place (message_buffer buffer place m)) ≡ took (normal m) n
  pub equal : Same (normal m) m
  -- it takes 3 to 54 bytes, within the buffer; every other byte stays
  pub least : 3 ≤ n
  pub most : n ≤ 54
  pub within : place + n ≤ length buffer
  pub before : take place (message_buffer buffer place m) ≡ take place buffer
  pub behind : drop (place + n) (message_buffer buffer place m) ≡ drop (place + n) buffer

abbrev pub WrittenReadsBack : Type 0
WrittenReadsBack = (buffer : List ℕ) (place : ℕ) (m : Message) (n : ℕ) → Formed m → message_written buffer place m ≡ Ok n → Back buffer place m n

-- a message that was read from some bytes
pub record Canonical (s : List ℕ) (m : Message) (n : ℕ) : Type 0 where
  -- it can be written, and is its own normal form
  pub formed : Formed m
  pub ranged : writable m ≡ true
  pub normalised : normal m ≡ m
  -- its bytes are exactly those that the writer makes
  pub bytes : take n s ≡ message_bytes m
  pub ends : n ≤ length s

abbrev pub ReadIsWritten : Type 0
ReadIsWritten = (s : List ℕ) (m : Message) (n : ℕ) → Bytes s → message_at s ≡ took m n → Canonical s m n

-- messages that can be written are equal exactly if their bytes are
abbrev pub SameByBytes : Type 0
SameByBytes = (m n : Message) → Formed m → Formed n → writable m ≡ true → writable n ≡ true → message_bytes m ≡ message_bytes n → Same m n

abbrev pub BytesOfSame : Type 0
BytesOfSame = (m n : Message) → Formed m → Formed n → writable m ≡ true → writable n ≡ true → Same m n → message_bytes m ≡ message_bytes n
