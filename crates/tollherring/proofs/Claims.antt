-- The writer's buffer is the old one wherever the writer refuses; what a refusal leaves out is told as 0.
use Rattle.desk.specs.declared.letter.Letter.{Letter}
use Rattle.std.specs.Prelude.{Option, Some, None, Result, Ok, Err}
use Prim.Native.Nat.{ℕ}
use mathlib.Core.Path.{◌≡◌, refl}
use mathlib.Core.Bool.{Bool, true, false}
use mathlib.Core.List.{List}
use native.Mathlib.Omega.{arith}
use Rattle.lists.specs.Choice.{pick}
use Rattle.message.specs.Format.{writable, message_bytes}
use Rattle.desk.specs.Letter.{message_of}
use Rattle.writer.specs.Write.{room, message_written, message_buffer}
use Rattle.message.specs.declared.refusal.Refusal.{Refusal}
use Rattle.message.specs.declared.refusal.Refusal.TheVariants.{OutOfRange, NoRoom}
use Rattle.told.specs.Told.{sent_written, sent_buffer}
use Rattle.tollherring.specs.Face.{faced}
use Rattle.tollherring.specs.Claims.{NoRoomNothing, RefusedTold}

refused-stays : (ranged roomy : Bool) (length : ℕ) (put out : List ℕ) (refusal : Refusal)
    → pick ranged (pick roomy (Ok length) (Err NoRoom)) (Err OutOfRange) ≡ Err refusal → pick ranged (pick roomy put out) out ≡ out
refused-stays true true length put out refusal e = absurd (let z : ◌≡◌ {A = Result ℕ Refusal} (Ok length) (Err refusal) = e in cc)
refused-stays true false length put out refusal e = refl
refused-stays false roomy length put out refusal e = refl

sent-stays : (out : List ℕ) (sending : Option Letter) (refusal : Refusal) → sent_written out 0 sending ≡ Err refusal → sent_buffer out 0 sending ≡ out
unfolding sent_written sent_buffer message_written message_buffer
sent-stays out None refusal e = absurd (let z : ◌≡◌ {A = Result ℕ Refusal} (Ok 0) (Err refusal) = e in cc)
sent-stays out (Some l) refusal e = refused-stays (writable (message_of l)) (room out 0 (message_bytes (message_of l))) _ _ out refusal e

pub no-room-nothing : NoRoomNothing
unfolding faced
no-room-nothing words after out outcome next refusal e = rw (e, sent-stays out outcome.sending refusal e)

pub refused-told : RefusedTold
refused-told refusal reply length next = refl
