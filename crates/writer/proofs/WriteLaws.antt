-- What the answer of a write says of the buffer: by the tests in the order of its definition.
use Rattle.std.specs.Prelude.{Result, Ok, Err}
use Prim.Native.Nat.{ℕ, ◌+◌, ◌≤◌}
use mathlib.Core.Path.{◌≡◌, refl}
use mathlib.Core.Bool.{Bool, true, false}
use mathlib.Core.List.{List}
use lib.ListN.{length}
use native.Mathlib.Omega.{arith}
use lib.Dec.{leb}
use borrow.Author.Tests.{leb-true, le-leb}
use Rattle.lists.specs.Choice.{pick}
use Rattle.lists.proofs.Choice.{pick-then}
use Rattle.message.specs.Format.{writable, message_bytes}
use Rattle.message.specs.Equality.{Formed}
use Rattle.message.specs.declared.Message.{Message}
use Rattle.message.specs.declared.refusal.Refusal.{Refusal}
use Rattle.message.specs.declared.refusal.Refusal.TheVariants.{OutOfRange, NoRoom}
use Rattle.message.proofs.RangeLaws.{fields-most, identifier-few, message-length}
use Rattle.writer.specs.Write.{put_at, room, bytes_written, message_written, message_buffer}

no-wrote : {x : Refusal} {n : ℕ} → ◌≡◌ {A = Result ℕ Refusal} (Err x) (Ok n) → ⊥
no-wrote e = cc

no-refused : {x : Refusal} {n : ℕ} → ◌≡◌ {A = Result ℕ Refusal} (Ok n) (Err x) → ⊥
no-refused e = cc

-- what a taken write says
pub record Took-place (buffer : List ℕ) (place : ℕ) (m : Message) (n : ℕ) : Type 0 where
  pub ranged : writable m ≡ true
  pub fits : place + length (message_bytes m) ≤ length buffer
  pub size : length (message_bytes m) ≡ n
  pub after : message_buffer buffer place m ≡ put_at buffer place (message_bytes m)

pub took-place : (buffer : List ℕ) (place : ℕ) (m : Message) (n : ℕ) → message_written buffer place m ≡ Ok n → Took-place buffer place m n
unfolding message_written message_buffer
took-place buffer place m n e =
    let p = pick-then (writable m) _ (Err OutOfRange) (Ok n) no-wrote e in
    let q = pick-then (room buffer place (message_bytes m)) _ (Err NoRoom) (Ok n) no-wrote p.1 in
    let k = q.1 in
    record { ranged = p.0; fits = leb-true _ _ q.0; size = cc; after = rw (p.0, q.0) }

-- ---- no message has more than 54 bytes: type, carrier, an identifier of 17 and fields of 35
pub message-most : (m : Message) → Formed m → writable m ≡ true → length (message_bytes m) ≤ 54
message-most m f e = omega (arith, message-length m f.identifier, fields-most m f.numberA f.numberB e, identifier-few m.identified)

-- so where there is room for that many, the answer tells what it is at any place of another buffer: a refusal is not for the room, and is the same
pub aside-refused :
    (aside buffer : List ℕ) (place : ℕ) (m : Message) (x : Refusal) → Formed m → 54 ≤ length aside → message_written aside 0 m ≡ Err x → message_written buffer place m ≡ Err x
unfolding message_written
aside-refused aside buffer place m x f long e = by (writable m) (message-most m f) e
  where
    by :
        (ranged : Bool) → (ranged ≡ true → length (message_bytes m) ≤ 54) → bytes_written ranged aside 0 (message_bytes m) ≡ Err x →
        bytes_written ranged buffer place (message_bytes m) ≡ Err x
    by true most e =
        let fits : 0 + length (message_bytes m) ≤ length aside = omega (arith, most refl, long) in
        absurd (no-refused (rw (le-leb _ _ fits) at e))
    by false most e = e

-- and a size is the message's own
pub aside-wrote :
    (aside buffer : List ℕ) (place : ℕ) (m : Message) (n : ℕ) → message_written aside 0 m ≡ Ok n →
    message_written buffer place m ≡ pick (leb (place + n) (length buffer)) (Ok n) (Err NoRoom)
unfolding message_written
aside-wrote aside buffer place m n e =
    let t = took-place aside 0 m n e in
    rw (t.ranged, t.size)
