-- Laws of what a tick sends: where it ends, place after place, and that it stays within what a place can be. By what the writer's answers say.
use Rattle.std.specs.Prelude.{Option, Some, None, Result, Ok, Err}
use Prim.Native.Nat.{ℕ, ◌+◌, ◌≤◌}
use mathlib.Core.Path.{◌≡◌, refl}
use mathlib.Core.List.{List, [], ◌∷◌, ◌++◌}
use lib.ListN.{length}
use lib.Dec.{leb}
use native.Mathlib.Omega.{arith}
use Rattle.lists.specs.Choice.{pick}
use Rattle.lists.proofs.WordsLaws.{length-bytes_of}
use Rattle.message.specs.Equality.{Formed}
use Rattle.desk.specs.Letter.{message_of}
use Rattle.desk.specs.declared.letter.Letter.{Letter}
use Rattle.desk.specs.Ticked.{Expiry}
use Rattle.message.specs.declared.refusal.Refusal.{Refusal}
use Rattle.message.specs.declared.refusal.Refusal.TheVariants.{NoRoom}
use Rattle.writer.proofs.WriteLaws.{took-place, aside-refused, aside-wrote}
use Rattle.told.specs.Told.{sent_written}
use Rattle.told.specs.Ticking.{onwards, end_of, Lent, wrote, lent_after}

-- what is sent ends at a place of the buffer, or where it began
pub sent-within : (out : List ℕ) (place : ℕ) (s : Option Letter) (n most : ℕ) → place ≤ most → length out ≤ most → sent_written out place s ≡ Ok n → place + n ≤ most
unfolding sent_written
sent-within out place None n most h k e = let z : 0 ≡ n = cc in omega (arith, z)
sent-within out place (Some l) n most h k e = let t = took-place out place (message_of l) n e in omega (arith, t.fits, t.size)

pub wrote-within : (out : List ℕ) (place : ℕ) (s : Option Letter) (most : ℕ) → place ≤ most → length out ≤ most → place + wrote (sent_written out place s) ≤ most
wrote-within out place s most h k = go (sent_written out place s) refl
  where
    go : (w : Result ℕ Refusal) → sent_written out place s ≡ w → place + wrote w ≤ most
    go (Ok n) e = sent-within out place s n most h k e
    go (Err refusal) e = omega arith

pub length-within : (l m : Lent) (e : Expiry) (most : ℕ) → m ≡ lent_after l e → l.length ≤ most → length l.out ≤ most → m.length ≤ most
length-within l m e most told h k = rw told (wrote-within l.out l.length e.outcome.sending most h k)

-- ---- what is sent to a buffer with room for any message, at the front, tells the answer at any place of another
formed : (l : Letter) → Formed (message_of l)
unfolding message_of
formed l = record { identifier = length-bytes_of _; numberA = length-bytes_of _; numberB = length-bytes_of _ }

pub sent-refused : (aside out : List ℕ) (place : ℕ) (s : Option Letter) (x : Refusal) → 54 ≤ length aside → sent_written aside 0 s ≡ Err x → sent_written out place s ≡ Err x
unfolding sent_written
sent-refused aside out place None x h e = absurd (let z : ◌≡◌ {A = Result ℕ Refusal} (Ok 0) (Err x) = e in cc)
sent-refused aside out place (Some l) x h e = aside-refused aside out place (message_of l) x (formed l) h e

pub sent-wrote :
    (aside out : List ℕ) (place : ℕ) (l : Letter) (n : ℕ) → sent_written aside 0 (Some l) ≡ Ok n →
    sent_written out place (Some l) ≡ pick (leb (place + n) (length out)) (Ok n) (Err NoRoom)
unfolding sent_written
sent-wrote aside out place l n e = aside-wrote aside out place (message_of l) n e

-- ---- some sendings and then others: the others begin where the first end
pub end_of_both : (out : List ℕ) (place : ℕ) (xs ys : List (Option Letter)) → end_of out place (xs ++ ys) ≡ onwards (end_of out place xs) (λ end. end_of out end ys)
unfolding end_of
end_of_both out place [] ys = refl
end_of_both out place (s ∷ xs) ys = go (sent_written out place s) (λ n. end_of_both out (place + n) xs ys)
  where
    go :
        (w : Result ℕ Refusal) → ((n : ℕ) → end_of out (place + n) (xs ++ ys) ≡ onwards (end_of out (place + n) xs) (λ end. end_of out end ys)) →
        onwards w (λ n. end_of out (place + n) (xs ++ ys)) ≡ onwards (onwards w (λ n. end_of out (place + n) xs)) (λ end. end_of out end ys)
    go (Ok n) rest = rest n
    go (Err refusal) rest = refl
