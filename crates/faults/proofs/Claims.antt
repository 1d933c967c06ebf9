-- The claims of specs/Claims.antt: what the fault of a reader tells, at the reader of a message.
use Prim.Native.Nat.{ℕ, ◌+◌}
use mathlib.Core.Path.{◌≡◌, sym, ◌∙◌}
use mathlib.Core.Logic.{inl, inr, ⊎_elim}
use mathlib.Core.List.{List, [], ◌∷◌, ◌++◌}
use lib.ListN.{length, get_or, take}
use lib.Seq.{take_all, take-suc}
use native.Mathlib.Omega.{arith}
use native.Mathlib.Numerals.{add-one}
use Rattle.lists.specs.Words.{Bytes}
use Rattle.lists.proofs.WordsLaws.{bytes_take, bytes_append}
use Rattle.message.specs.Reading.{refused}
use Rattle.message.specs.Wire.{message_at}
use Rattle.message.specs.declared.Fault.{Fault}
use Rattle.writer.proofs.Claims.{read-is-written}
use Rattle.faults.specs.Claims.{PlaceWithin, NothingMends, EndedAsks, StartOf, StartOfSome, EndedInSome}
use Rattle.faults.proofs.Readers.{Open, Told}
use Rattle.faults.proofs.Messages.{message-reader}

told : (s : List ℕ) (fault : Fault) → message_at s ≡ refused fault → Told message_at 0 s fault
told s fault e = message-reader.tells s fault (omega arith) e

pub place-within : PlaceWithin
place-within s fault e = let t = told s fault e in (t.within, t.refusal)

pub nothing_mends : NothingMends
nothing_mends s more fault e h = (told s fault e).stays h more

pub ended-asks : EndedAsks
ended-asks s fault e h = let t = told s fault e in (t.one h, λ q. t.asks h (q ∙ e))

-- ---- what can be gone on with to the end of a message is the start of its bytes
start_of : (s : List ℕ) (kept : ℕ) → Bytes s → Open message_at (take kept s) → StartOf (take kept s)
start_of s kept byte o =
    let all = take kept s ++ o.more in
    let w = read-is-written all o.value (length all) (bytes_append (take kept s) o.more (bytes_take kept s byte) o.bytes) o.read in
    record { message = o.value; formed = w.formed; ranged = w.ranged; more = o.more; bytes = sym (take_all (length all) all (omega arith)) ∙ w.bytes }

pub start_of_some : StartOfSome
start_of_some s fault byte e h =
    let k = (told s fault e).keeps in
    ⊎_elim (λ whole. rw whole at (start_of s k.kept byte k.opens)) (λ half. absurd (omega arith)) k.cut

pub ended-in-some : EndedInSome
ended-in-some s fault byte e h =
    let k = (told s fault e).keeps in
    let start = start_of s k.kept byte k.opens in
    ⊎_elim
    (λ whole. inl (rw (take_all k.kept s (omega arith)) at start))
    (λ half.
    let last : k.kept + 1 ≡ length s = half.0 ∙ half.1.0 in
    let split : take (k.kept + 1) s ≡ take k.kept s ++ (get_or s k.kept 0 ∷ []) = rw (add-one k.kept) (take-suc s k.kept 0 (omega arith)) in
    inr (record { front = take k.kept s; half = get_or s k.kept 0; split = sym (take_all (k.kept + 1) s (omega arith)) ∙ split; large = half.1.1; start = start }))
    k.cut
