-- Whatever the reader takes is exactly the bytes that the writer makes of the message: each field's bytes, put together along a cursor.
use Rattle.std.specs.Prelude.{Some, None}
use Prim.Native.Nat.{ℕ, ◌+◌, ◌≤◌, ◌<◌}
use mathlib.Core.Path.{◌≡◌, refl, sym, ◌∙◌, ap}
use mathlib.Core.Bool.{Bool, true, false}
use mathlib.Core.List.{List, [], ◌∷◌, ◌++◌, append_assoc}
use lib.ListN.{length, take, drop, replicate, length-drop, take-append-drop}
use lib.Seq.{drop-drop, length-take-le}
use lib.Dec.{ltb, eqb}
use native.Mathlib.Omega.{arith}
use borrow.Author.Tests.{ltb-false, lt-ltb, eqb-true, eqb-false}
use Rattle.lists.specs.Choice.{pick}
use Rattle.lists.specs.Words.{Bytes}
use Rattle.lists.proofs.Choice.{pick_elim, pick-else}
use Rattle.message.specs.Reading.{Read, took, refused, and_then, ended_in}
use Rattle.message.specs.Number.{number_bytes, field_at, digits_at, digits_bytes}
use Rattle.message.specs.Format.{request_body, has_elements, typeNumber, carrier_number, request_in_range, error_in_range, fields_in_range, elements_in_range, elements_complete, writable, identifier_bytes, request_bytes, field_bytes, fields_of, message_bytes}
use Rattle.message.specs.Equality.{Formed}
use Rattle.message.specs.Wire.{carrier_of, identified_at, identifier_at, Fields, request_tail, request_at, elements_tail, elements_at, plain_at, bare_at, fields_at, between, message_with, behind_identified, behind_head, message_at}
use Rattle.message.specs.declared.Carrier.{Carrier}
use Rattle.message.specs.declared.Kind.{Kind}
use Rattle.message.specs.declared.Kind.TheVariants.{Ccbs, Ccnr}
use Rattle.message.specs.declared.Body.{Body}
use Rattle.message.specs.declared.Body.TheVariants.{RequestResult, RequestError, CcExecPossible, CcRingout, RingoutError, CcSuspend, CcResume, CcCancel, CallAlerts, CallFailed}
use Rattle.message.specs.declared.Fault.{Fault}
use Rattle.message.specs.declared.Message.{Message}
use Rattle.message.proofs.Reading.{never-took, took_same, then_elim}
use Rattle.message.proofs.NumberLaws.{field-read}
use Rattle.message.proofs.NumberBack.{number-canonical, field-canonical, byte-canonical, digits-canonical}
use Rattle.message.proofs.IdentifierLaws.{identified-read}
use Rattle.message.proofs.RangeLaws.{digits-other, digits-few, elements-writable, fields-writable, message-bytes}
use Rattle.writer.proofs.RoundTrip.{between_none}

-- the fields that were read from a place on are of their type, can be written, and their bytes stand there
record Read-well (type : ℕ) (carrier : Carrier) (s : List ℕ) (at : ℕ) (f : Fields) (n : ℕ) : Type 0 where
  typed : typeNumber f.body ≡ type
  sixteen_a : length (between s at f.behindA) ≡ 16
  sixteen_b : length (between s f.behindA f.behindB) ≡ 16
  ranged : (identified : Bool) (identifier : List ℕ) → writable (message_with carrier identified identifier s at f) ≡ true
  bytes : (identified : Bool) (identifier : List ℕ) → drop at s ≡ fields_of (message_with carrier identified identifier s at f) ++ drop n s

abbrev Well : ℕ → Carrier → List ℕ → ℕ → Read Fields → Type 0
Well type carrier s at r = (f : Fields) (n : ℕ) → r ≡ took f n → Read-well type carrier s at f n

not_well : (type : ℕ) (carrier : Carrier) (s : List ℕ) (at : ℕ) (x : Fault) → Well type carrier s at (refused x)
not_well type carrier s at x f n e = absurd (never-took e)

well_moved :
    (type : ℕ) (carrier : Carrier) (s : List ℕ) (at : ℕ) (f g : Fields) (n m : ℕ) → took f n ≡ took g m → Read-well type carrier s at f n → Read-well type carrier s at g m
well_moved type carrier s at f g n m e w = let q = took_same e in rw (← q.0, ← q.1) w

-- a body without elements whose fields are the bytes between two places, whatever numbers of digits stand beside it
plain_well :
    (type : ℕ) (carrier : Carrier) (s : List ℕ) (at : ℕ) (body : Body) (next : ℕ) → has_elements body carrier ≡ false → typeNumber body ≡ type →
    ((a b : List ℕ) → fields_in_range a b body ≡ true) → ((a b : List ℕ) → drop at s ≡ field_bytes a b body ++ drop next s) → Well type carrier s at (plain_at at body next)
plain_well type carrier s at body next lacks typed ranged bytes f n e =
    let none : length (between s at at) ≡ 16 = rw (between_none s at) in
    well_moved type carrier s at _ f _ n e
    (record {
      typed = typed;
      sixteen_a = none;
      sixteen_b = none;
      ranged = λ identified identifier. fields-writable _ lacks (ranged _ _);
      bytes = λ identified identifier. rw lacks (bytes (between s at at) (between s at at));
    })

one_well :
    (type : ℕ) (carrier : Carrier) (make : ℕ → Body) (s : List ℕ) (at low high : ℕ) → Bytes s → high < 128 → ((v : ℕ) → has_elements (make v) carrier ≡ false) →
    ((v : ℕ) → typeNumber (make v) ≡ type) →
    ((v : ℕ) → low ≤ v → v ≤ high → (a b : List ℕ) → fields_in_range a b (make v) ≡ true) → ((v : ℕ) (a b : List ℕ) → field_bytes a b (make v) ≡ number_bytes v) →
    Well type carrier s at (and_then (field_at s at low high) (λ v next. plain_at at (make v) next))
one_well type carrier make s at low high byte small lacks typed ranged bytes =
    then_elim (Well type carrier s at) (field_at s at low high) _ (not_well type carrier s at) (λ v next e.
    let r = field-read s at low high v next e in
    plain_well type carrier s at (make v) next (lacks v) (typed v) (ranged v r.least r.most) (λ a b. rw (bytes v a b) (field-canonical s at low high v next byte e).1))

request-typed :
    (kind : Kind) (carrier : Carrier) (service flags : ℕ) (a b : List ℕ) →
    (has_elements (request_body kind service flags) carrier ≡ false) ×
    ((fields_in_range a b (request_body kind service flags) ≡ request_in_range a b service flags) × (field_bytes a b (request_body kind service flags) ≡ request_bytes a b service flags))
request-typed Ccbs carrier service flags a b = (refl, (refl, refl))
request-typed Ccnr carrier service flags a b = (refl, (refl, refl))

request_well :
    (type : ℕ) (carrier : Carrier) (kind : Kind) (s : List ℕ) (at : ℕ) → Bytes s → ((service flags : ℕ) → typeNumber (request_body kind service flags) ≡ type) →
    Well type carrier s at (request_at kind s at)
unfolding request_at request_tail
request_well type carrier kind s at byte typed =
    let no = not_well type carrier s at in
    then_elim (Well type carrier s at) (digits_at s at 0) _ no (λ u na ea.
    then_elim (Well type carrier s at) (digits_at s na 1) _ no (λ w nb eb.
    then_elim (Well type carrier s at) (field_at s nb 0 16383) _ no (λ service ns es.
    then_elim (Well type carrier s at) (field_at s ns 0 5) _ no (λ flags nf ef.
    λ f n e.
    let a = between s at na in
    let b = between s na nb in
    let ca = digits-canonical s at 0 na ea in
    let cb = digits-canonical s na 1 nb eb in
    let cs = field-canonical s nb 0 16383 service ns byte es in
    let cf = field-canonical s ns 0 5 flags nf byte ef in
    let rf = field-read s ns 0 5 flags nf ef in
    let t = request-typed kind carrier service flags a b in
    let A = digits_bytes a in
    let B = digits_bytes b in
    let N = number_bytes service in
    let F = number_bytes flags in
    let ranged : request_in_range a b service flags ≡ true = rw (ca.1.0, cb.1.0, lt-ltb service 16384 cs.0, lt-ltb flags 6 (omega (arith, rf.most))) in
    let g : request_bytes a b service flags ++ drop nf s ≡ A ++ (B ++ (N ++ (F ++ drop nf s))) = append_assoc A (B ++ (N ++ F)) (drop nf s) ∙ ap (λ (t : List ℕ). A ++ t) (append_assoc B (N ++ F) (drop nf s) ∙ ap (λ (t : List ℕ). B ++ t) (append_assoc N F (drop nf s))) in
    let whole : drop at s ≡ request_bytes a b service flags ++ drop nf s = rw g (ca.1.1 ∙ ap (λ (t : List ℕ). A ++ t) (cb.1.1 ∙ ap (λ (t : List ℕ). B ++ t) (cs.1 ∙ ap (λ (t : List ℕ). N ++ t) cf.1))) in
    well_moved type carrier s at (record { behindA = na; behindB = nb; service = None; body = request_body kind service flags }) f nf n e
    (record {
      typed = typed service flags;
      sixteen_a = ca.0;
      sixteen_b = cb.0;
      ranged = λ identified identifier. fields-writable _ t.0 (t.1.0 ∙ ranged);
      bytes = λ identified identifier. rw (t.0, t.1.1) whole;
    })))))

-- elements: numberB has a digit, and the service is there
elements_well :
    (type : ℕ) (carrier : Carrier) (body : Body) (s : List ℕ) (at : ℕ) → Bytes s → has_elements body carrier ≡ true → typeNumber body ≡ type → Well type carrier s at (elements_at body s at)
unfolding elements_at elements_tail
elements_well type carrier body s at byte has typed =
    let no = not_well type carrier s at in
    then_elim (Well type carrier s at) (digits_at s at 0) _ no (λ u na ea.
    then_elim (Well type carrier s at) (digits_at s na 1) _ no (λ w nb eb.
    then_elim (Well type carrier s at) (field_at s nb 0 16383) _ no (λ service ns es.
    λ f n e.
    let a = between s at na in
    let b = between s na nb in
    let ca = digits-canonical s at 0 na ea in
    let cb = digits-canonical s na 1 nb eb in
    let cs = field-canonical s nb 0 16383 service ns byte es in
    let A = digits_bytes a in
    let B = digits_bytes b in
    let N = number_bytes service in
    let few = (digits-few b 1 cb.1.0).0 in
    let ranged : elements_in_range a b (Some service) ≡ true = rw (ca.1.0, digits-other b 1 0 cb.1.0 (omega arith), lt-ltb service 16384 cs.0) in
    let full : elements_complete b (Some service) ≡ true = rw (lt-ltb 0 _ few) in
    let g : (A ++ (B ++ N)) ++ drop ns s ≡ A ++ (B ++ (N ++ drop ns s)) = append_assoc A (B ++ N) (drop ns s) ∙ ap (λ (t : List ℕ). A ++ t) (append_assoc B N (drop ns s)) in
    let whole : drop at s ≡ (A ++ (B ++ N)) ++ drop ns s = rw g (ca.1.1 ∙ ap (λ (t : List ℕ). A ++ t) (cb.1.1 ∙ ap (λ (t : List ℕ). B ++ t) cs.1)) in
    well_moved type carrier s at (record { behindA = na; behindB = nb; service = Some service; body = body }) f ns n e
    (record {
      typed = typed;
      sixteen_a = ca.0;
      sixteen_b = cb.0;
      ranged = λ identified identifier. elements-writable _ has ranged full;
      bytes = λ identified identifier. rw has whole;
    }))))

fields_well : (type : ℕ) (carrier : Carrier) (s : List ℕ) (at : ℕ) → Bytes s → 1 ≤ type → type ≤ 12 → Well type carrier s at (fields_at type carrier s at)
unfolding fields_at
fields_well type carrier s at byte lo hi =
    let P = Well type carrier s at in
    let here : (body : Body) → typeNumber body ≡ type → ((a b : List ℕ) → fields_in_range a b body ≡ true) → ((a b : List ℕ) → field_bytes a b body ≡ []) → P (bare_at body carrier s at) =
    λ body typed ranged bytes.
    pick_elim P (has_elements body carrier) (λ has. elements_well type carrier body s at byte has typed) (λ lacks.
    plain_well type carrier s at body at lacks typed ranged (λ a b. rw (bytes a b))) in
    let error : (v : ℕ) → 1 ≤ v → v ≤ 2 → error_in_range v ≡ true = λ v l h. rw (lt-ltb 0 v (omega arith), lt-ltb v 3 (omega arith)) in
    let none : (a b : List ℕ) → true ≡ true = λ a b. refl in
    let empty : (a b : List ℕ) → ◌≡◌ {A = List ℕ} [] [] = λ a b. refl in
    pick_elim P (eqb type 1) (λ t. request_well type carrier Ccbs s at byte (λ service flags. sym (eqb-true type 1 t))) (λ t1.
    pick_elim P (eqb type 2) (λ t. request_well type carrier Ccnr s at byte (λ service flags. sym (eqb-true type 2 t))) (λ t2.
    pick_elim P (eqb type 3) (λ t. one_well type carrier RequestResult s at 0 1 byte (omega arith) (λ v. refl) (λ v. sym (eqb-true type 3 t)) (λ v l h a b. lt-ltb v 2 (omega arith)) (λ v a b. refl)) (λ t3.
    pick_elim P (eqb type 4) (λ t. one_well type carrier RequestError s at 1 2 byte (omega arith) (λ v. refl) (λ v. sym (eqb-true type 4 t)) (λ v l h a b. error v l h) (λ v a b. refl)) (λ t4.
    pick_elim P (eqb type 5) (λ t. here CcExecPossible (sym (eqb-true type 5 t)) none empty) (λ t5.
    pick_elim P (eqb type 6) (λ t. here CcRingout (sym (eqb-true type 6 t)) none empty) (λ t6.
    pick_elim P (eqb type 7) (λ t. one_well type carrier RingoutError s at 1 2 byte (omega arith) (λ v. refl) (λ v. sym (eqb-true type 7 t)) (λ v l h a b. error v l h) (λ v a b. refl)) (λ t7.
    pick_elim P (eqb type 8) (λ t. here CcSuspend (sym (eqb-true type 8 t)) none empty) (λ t8.
    pick_elim P (eqb type 9) (λ t. here CcResume (sym (eqb-true type 9 t)) none empty) (λ t9.
    pick_elim P (eqb type 10) (λ t. here CcCancel (sym (eqb-true type 10 t)) none empty) (λ t10.
    pick_elim P (eqb type 11) (λ t. here CallAlerts (sym (eqb-true type 11 t)) none empty) (λ t11.
    let g2 : 2 ≤ type = omega (arith, eqb-false type 1 t1) in
    let g3 : 3 ≤ type = omega (arith, eqb-false type 2 t2) in
    let g4 : 4 ≤ type = omega (arith, eqb-false type 3 t3) in
    let g5 : 5 ≤ type = omega (arith, eqb-false type 4 t4) in
    let g6 : 6 ≤ type = omega (arith, eqb-false type 5 t5) in
    let g7 : 7 ≤ type = omega (arith, eqb-false type 6 t6) in
    let g8 : 8 ≤ type = omega (arith, eqb-false type 7 t7) in
    let g9 : 9 ≤ type = omega (arith, eqb-false type 8 t8) in
    let g10 : 10 ≤ type = omega (arith, eqb-false type 9 t9) in
    let g11 : 11 ≤ type = omega (arith, eqb-false type 10 t10) in
    let g12 : 12 ≤ type = omega (arith, eqb-false type 11 t11) in
    here CallFailed (omega arith) none empty)))))))))))

-- the carrier of a number from 1 to 5 has that number
carrier-canonical : (n : ℕ) → 1 ≤ n → n ≤ 5 → carrier_number (carrier_of n) ≡ n
unfolding carrier_of
carrier-canonical n lo hi =
    let P : Carrier → Type 0 = λ carrier. carrier_number carrier ≡ n in
    pick_elim P (eqb n 1) (λ t. sym (eqb-true n 1 t)) (λ t1.
    pick_elim P (eqb n 2) (λ t. sym (eqb-true n 2 t)) (λ t2.
    pick_elim P (eqb n 3) (λ t. sym (eqb-true n 3 t)) (λ t3.
    pick_elim P (eqb n 4) (λ t. sym (eqb-true n 4 t)) (λ t4. omega (arith, eqb-false n 1 t1, eqb-false n 2 t2, eqb-false n 3 t3, eqb-false n 4 t4)))))

-- n bytes of s are the message m
pub record Whole (s : List ℕ) (m : Message) (n : ℕ) : Type 0 where
  pub formed : Formed m
  pub ranged : writable m ≡ true
  pub whole : s ≡ message_bytes m ++ drop n s

-- the identifier that was read, or the one place that says that there is none
identifier_shape :
    (identified : Bool) (s : List ℕ) (from : ℕ) (identifier : List ℕ) (next : ℕ) → identifier_at identified s from ≡ took identifier next →
    (length identifier ≡ 16) × (number_bytes (pick identified 16 0) ++ drop from s ≡ identifier_bytes identified identifier ++ drop next s)
unfolding identifier_at
identifier_shape true s from identifier next e =
    let p = pick-else (ltb (length s) (from + 16)) (ended_in s) _ _ never-took e in
    let q = took_same p.1 in
    let room = ltb-false (length s) (from + 16) p.0 in
    let is = q.0 in
    let at = q.1 in
    (rw (← is) (length-take-le 16 (drop from s) (omega (arith, length-drop from s))), rw (← is, ← at, ← drop-drop 16 from s, take-append-drop 16 (drop from s)))
identifier_shape false s from identifier next e =
    let q = took_same e in
    (rw (← q.0), rw (← q.1))

head-canonical :
    (s : List ℕ) (at type number : ℕ) (carrier : Carrier) → Bytes s → s ≡ type ∷ number ∷ drop at s → carrier_number carrier ≡ number → 1 ≤ type → type ≤ 12 →
    (m : Message) (n : ℕ) → behind_head type carrier s at ≡ took m n → Whole s m n
unfolding behind_head behind_identified
head-canonical s at type number carrier byte head is lo hi =
    let Q : Read Message → Type 0 = λ r. (m : Message) (n : ℕ) → r ≡ took m n → Whole s m n in
    let no : (x : Fault) → Q (refused x) = λ x m n e. absurd (never-took e) in
    then_elim Q (identified_at s at) _ no (λ identified from ed.
    then_elim Q (identifier_at identified s from) _ no (λ identifier next ei.
    then_elim Q (fields_at type carrier s next) _ no (λ f behind ef.
    λ m n e.
    let M = message_with carrier identified identifier s next f in
    let I = identifier_bytes identified identifier in
    let F = fields_of M in
    let q = took_same e in
    let shape = identifier_shape identified s from identifier next ei in
    let long = number-canonical s at (pick identified 16 0) from byte (identified-read s at identified from ed) in
    let w = fields_well type carrier s next byte lo hi f behind ef in
    let rest : drop at s ≡ (I ++ F) ++ drop behind s =
    long.1.1 ∙ shape.1 ∙ ap (λ (t : List ℕ). I ++ t) (w.bytes identified identifier) ∙ sym (append_assoc I F (drop behind s)) in
    let bytes : message_bytes M ≡ type ∷ number ∷ (I ++ F) = rw (message-bytes M, w.typed, is) in
    rw (← q.0, ← q.1)
    (record {
      formed = record { identifier = shape.0; numberA = w.sixteen_a; numberB = w.sixteen_b };
      ranged = w.ranged identified identifier;
      whole = head ∙ rw bytes (ap (λ (t : List ℕ). type ∷ number ∷ t) rest);
    }))))

pub canonical : (s : List ℕ) → Bytes s → (m : Message) (n : ℕ) → message_at s ≡ took m n → Whole s m n
unfolding message_at
canonical s byte =
    let Q : Read Message → Type 0 = λ r. (m : Message) (n : ℕ) → r ≡ took m n → Whole s m n in
    let no : (x : Fault) → Q (refused x) = λ x m n e. absurd (never-took e) in
    then_elim Q (field_at s 0 1 12) _ no (λ type next et.
    then_elim Q (field_at s next 1 5) _ no (λ number at en.
    let rt = field-read s 0 1 12 type next et in
    let rn = field-read s next 1 5 number at en in
    let head : s ≡ type ∷ number ∷ drop at s =
    byte-canonical s 0 1 12 type next byte (omega arith) et ∙ ap (λ (t : List ℕ). type ∷ t) (byte-canonical s next 1 5 number at byte (omega arith) en) in
    head-canonical s at type number (carrier_of number) byte head (carrier-canonical number rn.least rn.most) rt.least rt.most))
