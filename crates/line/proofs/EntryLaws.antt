-- A message that was read is in range and its own normal form, so its entry is its letter as it stands.
use Rattle.std.specs.Prelude.{Ok}
use Prim.Native.Nat.{ℕ}
use mathlib.Core.Path.{◌≡◌}
use mathlib.Core.List.{List}
use Rattle.lists.specs.Words.{Bytes}
use Rattle.message.specs.Reading.{took}
use Rattle.message.specs.Wire.{message_at}
use Rattle.message.specs.declared.Message.{Message}
use Rattle.message.proofs.RangeLaws.{writable_parts}
use Rattle.writer.proofs.Claims.{read-is-written}
use Rattle.desk.specs.Letter.{read_letter}
use Rattle.desk.proofs.LetterLaws.{letter-read}
use Rattle.line_table.specs.declared.inputs.Input.TheVariants as Input
use Rattle.line.specs.Entry.{message_entry}

pub read-entry :
    (s : List ℕ) (m : Message) (next place : ℕ) → Bytes s → message_at s ≡ took m next → message_entry m place ≡ Ok (Input.Message (read_letter m) place)
unfolding message_entry
read-entry s m next place bytes e = let w = read-is-written s m next bytes e in rw ((writable_parts m w.ranged).0, letter-read m w.normalised)
