-- 2 before 12; the room is the message's own length, and the part from the place on is lent whole.
use Rattle.std.specs.Prelude.{Option, Some, None, Result, Ok, Err, ok_or}
use Prim.Native.Nat.{ℕ, ◌+◌, ◌≤◌, ◌<◌}
use mathlib.Core.Path.{◌≡◌, refl, sym, ◌∙◌, ap}
use mathlib.Core.Bool.{true, false}
use mathlib.Core.List.{List, ◌++◌}
use lib.ListN.{length, take, length-drop}
use native.Mathlib.Omega.{arith}
use borrow.Author.Tests.{le-leb, lt-leb}
use Rattle.lists.proofs.Choice.{pick-then, pick-else}
use Rattle.lists.proofs.Parts.{tail_of_lem, mid_tail}
use Rattle.message.specs.Format.{writable, fields_of, message_bytes}
use Rattle.message.specs.declared.Message.{Message}
use Rattle.message.specs.declared.refusal.Refusal.{Refusal}
use Rattle.message.specs.declared.refusal.Refusal.TheVariants.{OutOfRange}
use Rattle.message.proofs.RangeLaws.{message-length}
use Rattle.std.proofs.Common.{rules}
use Rattle.writer.specs.Write.{bytes_sized, message_written, message_buffer}
use Rattle.writer.proofs.write.Goals as goal

never : (n : ℕ) → ◌≡◌ {A = Option ℕ} None (Some n) → ⊥
never n e = cc

-- what is no refusal was there
there : (o : Option ℕ) (r : Result ℕ Refusal) (n : ℕ) → r ≡ ok_or o OutOfRange → r ≡ Ok n → o ≡ Some n
there None r n e f = let z : ◌≡◌ {A = Result ℕ Refusal} (Err OutOfRange) (Ok n) = sym e ∙ f in cc
there (Some x) r n e f = let z : ◌≡◌ {A = Result ℕ Refusal} (Ok x) (Ok n) = sym e ∙ f in cc

-- what was counted can be written, and is as long; what was not can't
counted : (m : Message) (n : ℕ) → bytes_sized (writable m) (fields_of m) ≡ Some n → (writable m ≡ true) × (length (fields_of m) ≡ n)
counted m n e = let p = pick-then (writable m) (Some (length (fields_of m))) None (Some n) (never n) e in (p.0, (let q = p.1 in cc))

not-counted : (m : Message) → bytes_sized (writable m) (fields_of m) ≡ None → writable m ≡ false
not-counted m e = (pick-else (writable m) (Some (length (fields_of m))) None None (λ x. never (length (fields_of m)) (sym x)) e).0

pub returns-then-d-place-2 : goal.returns-then-d-place-2
unfolding message_written message_buffer
returns-then-d-place-2 c =
    let a = c.args in
    let k = counted a.m _ (sym c.behind_sized.ensures ∙ there _ _ _ c.ok_or.ensures.value c.in_ok-behind.was) in
    let h : length a.d.now < a.place + length (message_bytes a.m) = omega (arith, message-length a.m (search rules), k.1, c.head_size.ensures) in
    rw (k.0, lt-leb _ _ h) (refl, refl)

pub put_message-requires : goal.put_message-requires
put_message-requires c =
    let a = c.args in
    let k = counted a.m _ (sym c.behind_sized.ensures ∙ there _ _ _ c.ok_or.ensures.value c.in_ok-behind.was) in
    (k.0, rw (tail_of_lem a.place a.d.now) (simp length-drop (omega (arith, message-length a.m (search rules), k.1, c.head_size.ensures))))

pub returns : goal.returns
unfolding message_written message_buffer
returns c =
    let a = c.args in
    let k = counted a.m _ (sym c.behind_sized.ensures ∙ there _ _ _ c.ok_or.ensures.value c.in_ok-behind.was) in
    let n : c.head_size.result + c.in_ok-behind.behind ≡ length (message_bytes a.m) = omega (arith, message-length a.m (search rules), k.1, c.head_size.ensures) in
    let h : a.place + length (message_bytes a.m) ≤ length a.d.now = omega (arith, n) in
    rw (k.0, le-leb _ _ h, n)
    (refl, mid_tail a.place a.d.now c.put_message.new.d ∙ ap (λ (t : List ℕ). take a.place a.d.now ++ t) (rw (tail_of_lem a.place a.d.now) at c.put_message.ensures))
