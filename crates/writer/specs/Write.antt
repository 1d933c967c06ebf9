-- What writing at a place of a buffer answers, and what the buffer holds afterwards: 2 before 12, and nothing stored on a refusal.
use Rattle.std.specs.Prelude.{ℕ, ◌+◌, Bool, false, List, ◌++◌, length, take, drop, ltb, leb, Option, Some, None, Result, Ok, Err}
use Rattle.lists.specs.Choice.{pick}
use Rattle.lists.specs.Parts.{over}
use Rattle.message.specs.Number.{number_bytes}
use Rattle.message.specs.Format.{elements_in_range, elements_complete, writable, message_bytes}
use Rattle.message.specs.declared.Message.{Message}
use Rattle.message.specs.declared.refusal.Refusal.{Refusal}
use Rattle.message.specs.declared.refusal.Refusal.TheVariants.{OutOfRange, NoRoom}

-- some bytes have room from a place of a buffer on; a place past the end has none
abbrev pub room : List ℕ → ℕ → List ℕ → Bool
room buffer place bytes = leb (place + length bytes) (length buffer)

-- the buffer with the bytes at a place, every other byte as it was
abbrev pub put_at : List ℕ → ℕ → List ℕ → List ℕ
put_at buffer place bytes = take place buffer ++ over bytes (drop place buffer)

-- the answer and the buffer, where what is written is in range, with nothing absent that the bytes have to say, and where not
abbrev pub bytes_written : Bool → List ℕ → ℕ → List ℕ → Result ℕ Refusal
bytes_written ranged buffer place bytes = pick ranged (pick (room buffer place bytes) (Ok (length bytes)) (Err NoRoom)) (Err OutOfRange)

abbrev pub bytes_buffer : Bool → List ℕ → ℕ → List ℕ → List ℕ
bytes_buffer ranged buffer place bytes = pick ranged (pick (room buffer place bytes) (put_at buffer place bytes) buffer) buffer

-- how many bytes there are, where they can be written, and where not
abbrev pub bytes_sized : Bool → List ℕ → Option ℕ
bytes_sized ranged bytes = pick ranged (Some (length bytes)) None

-- elements can be written if they are in range and numberB and service are there
abbrev pub elements_writable : List ℕ → List ℕ → Option ℕ → Bool
elements_writable numberA numberB service = pick (elements_in_range numberA numberB service) (elements_complete numberB service) false

-- a number at the front
unfoldable pub number_written : List ℕ → ℕ → Result ℕ Refusal
number_written buffer v = bytes_written (ltb v 16384) buffer 0 (number_bytes v)

unfoldable pub number_buffer : List ℕ → ℕ → List ℕ
number_buffer buffer v = bytes_buffer (ltb v 16384) buffer 0 (number_bytes v)

-- a message at a place
unfoldable pub message_written : List ℕ → ℕ → Message → Result ℕ Refusal
message_written buffer place m = bytes_written (writable m) buffer place (message_bytes m)

unfoldable pub message_buffer : List ℕ → ℕ → Message → List ℕ
message_buffer buffer place m = bytes_buffer (writable m) buffer place (message_bytes m)
