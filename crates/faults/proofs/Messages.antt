-- The readers of several fields, and of a message: one field behind another.
use Prim.Native.Nat.{ℕ, zero, suc, ◌+◌, ◌≤◌, ◌<◌}
use mathlib.Core.Path.{◌≡◌, refl, subst, fun_ext}
use mathlib.Core.Bool.{Bool, true, false}
use mathlib.Core.List.{List}
use lib.ListN.{length, get_or}
use lib.Dec.{ltb, leb, eqb}
use native.Mathlib.Omega.{arith}
use Rattle.lists.specs.Choice.{pick}
use Rattle.message.specs.Reading.{Read, took, refused, and_then}
use Rattle.message.specs.Number.{field_at, scan_at, digits_at}
use Rattle.message.specs.Wire.{carrier_of, identified_at, identifier_at, request_tail, request_at, elements_tail, elements_at, plain_at, bare_at, one_number, fields_at, behind_identified, behind_head, message_at}
use Rattle.message.specs.Format.{has_elements}
use Rattle.message.specs.declared.Carrier.{Carrier}
use Rattle.message.specs.declared.Fault.{Fault}
use Rattle.message.specs.declared.Kind.{Kind}
use Rattle.message.specs.declared.Kind.TheVariants.{Ccbs, Ccnr}
use Rattle.message.specs.declared.Body.{Body}
use Rattle.message.specs.declared.Body.TheVariants.{RequestResult, RequestError, CcExecPossible, CcRingout, RingoutError, CcSuspend, CcResume, CcCancel, CallAlerts, CallFailed}
use Rattle.message.proofs.NumberLaws.{field-read}
use Rattle.faults.proofs.Readers.{Steady, Reader, both, both_steady, taken, made, chosen}
use Rattle.faults.proofs.Fields.{field_steady, field-reader, digit_at, digit-ends, digit_steady, digit-reader, identified_steady, identified-reader, identifier_steady, identifier-reader}

-- ---- numbers of digits: one digit behind another
then_picks :
    {A B : Type 0} (a b : Bool) (x y : Fault) (v : A) (n : ℕ) (k : A → ℕ → Read B) →
    and_then (pick a (refused x) (pick b (refused y) (took v n))) k ≡ pick a (refused x) (pick b (refused y) (k v n))
then_picks true b x y v n k = refl
then_picks false true x y v n k = refl
then_picks false false x y v n k = refl

scan-is : (count at : ℕ) (s : List ℕ) → and_then (digit_at s at) (λ u n. scan_at count s n) ≡ scan_at (suc count) s at
unfolding digit_at scan_at
scan-is count at s = then_picks (leb (length s) at) (ltb 9 (get_or s at 0)) _ _ tt (at + 1) (λ u n. scan_at count s n)

scan-reader : (count at : ℕ) → Reader (λ s. scan_at count s at) at
unfolding scan_at
scan-reader zero at = taken (λ s. tt) at
scan-reader (suc count) at = rw (← (fun_ext (scan-is count at))) (both (λ s. digit_at s at) (λ u n s. scan_at count s n) at (digit_steady at) (digit-reader at) (λ u n. scan-reader count n))

scan_steady : (count at : ℕ) → Steady (λ s. scan_at count s at)
unfolding scan_at
scan_steady zero at = λ s t v n l e q. e
scan_steady (suc count) at =
    subst (λ (f : List ℕ → Read (Unit {0})). Steady f) (fun_ext (scan-is count at))
    (both_steady (λ s. digit_at s at) (λ u n s. scan_at count s n) (digit_steady at) (digit-ends at) (λ u n. scan-reader count n) (λ u n. scan_steady count n))

field-ends : (at low high : ℕ) (s : List ℕ) (v n : ℕ) → field_at s at low high ≡ took v n → n ≤ length s
field-ends at low high s v n e = (field-read s at low high v n e).ends

digits-reader : (at low : ℕ) → low ≤ 15 → Reader (λ s. digits_at s at low) at
unfolding digits_at
digits-reader at low h = both (λ s. field_at s at low 15) (λ count n s. scan_at count s n) at (field_steady at low 15) (field-reader at low 15 h (omega arith)) scan-reader

digits_steady : (at low : ℕ) → Steady (λ s. digits_at s at low)
unfolding digits_at
digits_steady at low = both_steady (λ s. field_at s at low 15) (λ count n s. scan_at count s n) (field_steady at low 15) (field-ends at low 15) scan-reader scan_steady

-- ---- the fields of each type
tail-reader : (kind : Kind) (behindA behindB : ℕ) → Reader (λ s. request_tail kind s behindA behindB) behindB
unfolding request_tail
tail-reader kind behindA behindB =
    both (λ s. field_at s behindB 0 16383) _ behindB (field_steady behindB 0 16383) (field-reader behindB 0 16383 (omega arith) (omega arith)) (λ service next.
    both (λ s. field_at s next 0 5) _ next (field_steady next 0 5) (field-reader next 0 5 (omega arith) (omega arith)) (λ flags behind.
    taken _ behind))

request-reader : (kind : Kind) (at : ℕ) → Reader (λ s. request_at kind s at) at
unfolding request_at
request-reader kind at =
    both (λ s. digits_at s at 0) _ at (digits_steady at 0) (digits-reader at 0 (omega arith)) (λ a behindA.
    both (λ s. digits_at s behindA 1) _ behindA (digits_steady behindA 1) (digits-reader behindA 1 (omega arith)) (λ b behindB.
    tail-reader kind behindA behindB))

one_reader : (make : ℕ → Body) (at low high : ℕ) → low ≤ high → low < 128 → Reader (λ s. one_number make s at low high) at
one_reader make at low high order small = made (λ s. field_at s at low high) _ at (field-reader at low high order small)

elements-reader : (body : Body) (at : ℕ) → Reader (λ s. elements_at body s at) at
unfolding elements_at elements_tail
elements-reader body at =
    both (λ s. digits_at s at 0) _ at (digits_steady at 0) (digits-reader at 0 (omega arith)) (λ a behindA.
    both (λ s. digits_at s behindA 1) _ behindA (digits_steady behindA 1) (digits-reader behindA 1 (omega arith)) (λ b behindB.
    made (λ s. field_at s behindB 0 16383) _ behindB (field-reader behindB 0 16383 (omega arith) (omega arith))))

fields-reader : (type : ℕ) (carrier : Carrier) (at : ℕ) → Reader (λ s. fields_at type carrier s at) at
unfolding fields_at
fields-reader type carrier at =
    let here : (body : Body) → Reader (λ s. bare_at body carrier s at) at =
    λ body. chosen (has_elements body carrier) (λ s. elements_at body s at) (λ s. plain_at at body at) at (elements-reader body at) (taken _ at) in
    chosen (eqb type 1) _ _ at (request-reader Ccbs at)
    (chosen (eqb type 2) _ _ at (request-reader Ccnr at)
    (chosen (eqb type 3) _ _ at (one_reader RequestResult at 0 1 (omega arith) (omega arith))
    (chosen (eqb type 4) _ _ at (one_reader RequestError at 1 2 (omega arith) (omega arith))
    (chosen (eqb type 5) _ _ at (here CcExecPossible)
    (chosen (eqb type 6) _ _ at (here CcRingout)
    (chosen (eqb type 7) _ _ at (one_reader RingoutError at 1 2 (omega arith) (omega arith))
    (chosen (eqb type 8) _ _ at (here CcSuspend)
    (chosen (eqb type 9) _ _ at (here CcResume)
    (chosen (eqb type 10) _ _ at (here CcCancel)
    (chosen (eqb type 11) _ _ at (here CallAlerts) (here CallFailed)))))))))))

-- ---- a message
head-reader : (type : ℕ) (carrier : Carrier) (at : ℕ) → Reader (λ s. behind_head type carrier s at) at
unfolding behind_head behind_identified
head-reader type carrier at =
    both (λ s. identified_at s at) _ at (identified_steady at) (identified-reader at) (λ identified from.
    both (λ s. identifier_at identified s from) _ from (identifier_steady identified from) (identifier-reader identified from) (λ identifier next.
    made (λ s. fields_at type carrier s next) _ next (fields-reader type carrier next)))

pub message-reader : Reader message_at 0
unfolding message_at
message-reader =
    both (λ s. field_at s 0 1 12) _ 0 (field_steady 0 1 12) (field-reader 0 1 12 (omega arith) (omega arith)) (λ type next.
    both (λ s. field_at s next 1 5) _ next (field_steady next 1 5) (field-reader next 1 5 (omega arith) (omega arith)) (λ carrier behind.
    head-reader type (carrier_of carrier) behind))
