-- The wires after a step hold only messages as a desk sent them, which are in range; the last is the one that the step put there.
use Rattle.desk.specs.declared.letter.Letter.{Letter}
use Rattle.std.specs.Prelude.{Option, Some, None, Ok}
use Prim.Native.Nat.{ℕ, ◌+◌, ◌≤◌}
use mathlib.Core.Path.{◌≡◌, ap, subst}
use mathlib.Core.Bool.{true}
use mathlib.Core.Logic.{◌⊎◌, inl, inr}
use mathlib.Core.List.{List, [], ◌∷◌, ◌++◌}
use lib.ListN.{length}
use native.Mathlib.Omega.{arith}
use borrow.Author.Tests.{le-leb}
use Rattle.lists.specs.Parts.{over}
use Rattle.lists.proofs.WordsLaws.{length-bytes_of}
use Rattle.message.specs.Format.{writable, message_bytes}
use Rattle.message.specs.Equality.{Formed}
use Rattle.message.specs.declared.Message.{Message}
use Rattle.desk.specs.Letter.{message_of}
use Rattle.writer.specs.Write.{message_written, message_buffer}
use Rattle.writer.proofs.Claims.{written-reads-back}
use Rattle.told.specs.Told.{sent_written, sent_buffer}
use Rattle.tollherring.specs.Face.{faced}
use Rattle.pair.specs.World.{Of, Note, sent_by, next}
use Rattle.pair.proofs.Keys.{origins-tell}
use Rattle.pair.proofs.Wires.{Worded, quiet, word}
use Rattle.pair.proofs.Sim.{Asked}
use Rattle.pair.proofs.Runs.{turned, good-world}
use Rattle.exported.proofs.Heard.{sent-writable}
use Rattle.exported.specs.Calls.{carried, clerk_end, line_end, Puts}
use Rattle.exported.specs.Claims.{AsBytes, SentAsBytes}

abbrev first : Message → List Message → Message
first m [] = m
first m (x ∷ xs) = x

abbrev later : List Message → List Message
later [] = []
later (x ∷ xs) = xs

-- the last message of such a wire
last-sent : {h : List Note} (ms : List Message) (m : Message) (xs : List (Of Message)) → carried xs ≡ ms ++ (m ∷ []) → Worded (Asked h) xs → Formed m × (writable m ≡ true)
unfolding message_of
last-sent [] m [] e quiet = let z : ◌≡◌ {A = ℕ} 0 1 = cc in absurd (omega (arith, z))
last-sent [] m (x ∷ xs) e (word l c its clear more) =
    subst (λ (y : Message). Formed y × (writable y ≡ true)) (ap (first m) e)
    (record { identifier = length-bytes_of _; numberA = length-bytes_of _; numberB = length-bytes_of _ }, sent-writable l.it c its.1 clear)
last-sent (y ∷ ms) m [] e quiet = let z : ◌≡◌ {A = ℕ} 0 1 = cc in absurd (omega (arith, z))
last-sent (y ∷ ms) m (x ∷ xs) e (word l c its clear more) = last-sent ms m xs (ap later e) more

-- a message in range that has room is written whole, at the front
front-written : (m : Message) (out : List ℕ) → writable m ≡ true → length (message_bytes m) ≤ length out → message_written out 0 m ≡ Ok (length (message_bytes m))
unfolding message_written
front-written m out ranged room =
    let roomy : 0 + length (message_bytes m) ≤ length out = omega (arith, room) in
    rw (ranged, le-leb (0 + length (message_bytes m)) (length out) roomy)

front-buffer : (m : Message) (out : List ℕ) → writable m ≡ true → length (message_bytes m) ≤ length out → message_buffer out 0 m ≡ over (message_bytes m) out
unfolding message_buffer
front-buffer m out ranged room =
    let roomy : 0 + length (message_bytes m) ≤ length out = omega (arith, room) in
    rw (ranged, le-leb (0 + length (message_bytes m)) (length out) roomy)

-- the message that an outcome sends is the one of its letter
sent_front :
    (sending : Option Letter) (m : Message) (out : List ℕ) → sent_by sending ≡ m ∷ [] →
    (sent_written out 0 sending ≡ message_written out 0 m) × (sent_buffer out 0 sending ≡ message_buffer out 0 m)
unfolding sent_written sent_buffer
sent_front None m out e = let z : ◌≡◌ {A = ℕ} 0 1 = cc in absurd (omega (arith, z))
sent_front (Some l) m out e = let same : message_of l ≡ m = ap (first m) e in (ap (message_written out 0) same, ap (message_buffer out 0) same)

as_bytes : (m : Message) → Formed m → writable m ≡ true → AsBytes m
unfolding faced
as_bytes m formed ranged =
    record {
      ranged = ranged;
      most = (written-reads-back (message_bytes m) 0 m (length (message_bytes m)) formed (front-written m (message_bytes m) ranged (omega arith))).most;
      roomy = λ words after out outcome unread e room.
          let s = sent_front outcome.sending m out e in
          rw (s.0, s.1, front-written m out ranged room, front-buffer m out ranged room);
    }

pub sent-as-bytes : SentAsBytes
sent-as-bytes w reach e allowed m puts = let s = by puts in as_bytes m s.0 s.1
  where
    by : Puts (clerk_end w) (clerk_end (next w e)) m ⊎ Puts (line_end w) (line_end (next w e)) m → Formed m × (writable m ≡ true)
    by (inl q) = last-sent (carried w.up) m (next w e).up q (turned origins-tell (good-world w reach).1 e allowed).0.up
    by (inr q) = last-sent (carried w.down) m (next w e).down q (turned origins-tell (good-world w reach).1 e allowed).0.down
