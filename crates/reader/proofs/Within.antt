-- What is read stands within the bytes: an identifier of sixteen bytes where there is one, each field ends behind where it starts, a number of digits takes at most sixteen bytes.
use Prim.Native.Nat.{ℕ, ◌+◌, ◌≤◌}
use mathlib.Core.Path.{◌≡◌, refl}
use mathlib.Core.Bool.{Bool, true, false}
use mathlib.Core.List.{List}
use lib.ListN.{length}
use lib.Dec.{eqb, ltb}
use native.Mathlib.Omega.{arith}
use borrow.Author.Tests.{ltb-false}
use Rattle.lists.specs.Choice.{pick}
use Rattle.lists.proofs.Choice.{pick_elim}
use Rattle.message.specs.Reading.{Read, took, refused, and_then}
use Rattle.message.specs.Number.{field_at, digits_at}
use Rattle.message.specs.Wire.{identified_at, identifier_at, Fields, request_tail, request_at, elements_tail, elements_at, fields_at, plain_at, bare_at}
use Rattle.message.specs.Format.{has_elements}
use Rattle.message.specs.declared.Fault.{Fault}
use Rattle.message.specs.declared.Carrier.{Carrier}
use Rattle.message.specs.declared.Kind.{Kind}
use Rattle.message.specs.declared.Kind.TheVariants.{Ccbs, Ccnr}
use Rattle.message.specs.declared.Body.{Body}
use Rattle.message.specs.declared.Body.TheVariants.{RequestResult, RequestError, CcExecPossible, CcRingout, RingoutError, CcSuspend, CcResume, CcCancel, CallAlerts, CallFailed}
use Rattle.message.proofs.Reading.{never-took, took_same, then_elim}
use Rattle.message.proofs.NumberLaws.{number-ends, field-read, digits-read}
use Rattle.message.proofs.IdentifierLaws.{identified-read}
use Rattle.reader.specs.Parts.{carrier_at, head_behind, head_at}
use Rattle.reader.specs.declared.Head.{Head}

-- ---- the head
abbrev HeadPlaces : List ℕ → Read Head → Type 0
HeadPlaces s r = (h : Head) (from : ℕ) → r ≡ took h from → (h.at + pick h.identified 16 0 ≤ length s) × (from ≤ length s)

no-head : (s : List ℕ) (x : Fault) → HeadPlaces s (refused x)
no-head s x h from e = absurd (never-took e)

one-head : (s : List ℕ) (h : Head) (from : ℕ) → h.at + pick h.identified 16 0 ≤ length s → from ≤ length s → HeadPlaces s (took h from)
one-head s h from room ends h' from' e =
    let q = took_same e in
    (rw (← q.0) room, rw (← q.1) ends)

identifier-places :
    (type : ℕ) (carrier : Carrier) (identified : Bool) (s : List ℕ) (at : ℕ) → at ≤ length s →
    HeadPlaces s (and_then (identifier_at identified s at) (λ identifier from. took (record { typeNumber = type; carrier = carrier; identified = identified; at = at }) from))
unfolding identifier_at
identifier-places type carrier false s at ends = one-head s _ at (omega arith) ends
identifier-places type carrier true s at ends = go (ltb (length s) (at + 16)) refl
  where
    go :
        (b : Bool) → ltb (length s) (at + 16) ≡ b →
        HeadPlaces s (and_then (identifier_at true s at) (λ identifier from. took (record { typeNumber = type; carrier = carrier; identified = true; at = at }) from))
    go true t = rw (t) (no-head s _)
    go false t = rw (t) (let room = ltb-false (length s) (at + 16) t in one-head s _ (at + 16) room room)

pub head-places : (s : List ℕ) → HeadPlaces s (head_at s)
unfolding head_at head_behind
head-places s =
    then_elim (HeadPlaces s) (field_at s 0 1 12) _ (no-head s) (λ type next t.
    then_elim (HeadPlaces s) (carrier_at s next) _ (no-head s) (λ carrier behind c.
    then_elim (HeadPlaces s) (identified_at s behind) _ (no-head s) (λ identified at i.
    identifier-places type carrier identified s at (number-ends _ _ _ _ (identified-read _ _ _ _ i)).1)))

-- ---- the places of the fields that stand from a place on
pub record Placed (s : List ℕ) (at : ℕ) (f : Fields) (n : ℕ) : Type 0 where
  pub start_a : at ≤ f.behindA
  pub sixteen_a : f.behindA ≤ at + 16
  pub start_b : f.behindA ≤ f.behindB
  pub sixteen_b : f.behindB ≤ f.behindA + 16
  pub last : f.behindB ≤ n
  pub ends : n ≤ length s

abbrev Places : List ℕ → ℕ → Read Fields → Type 0
Places s at r = (f : Fields) (n : ℕ) → r ≡ took f n → Placed s at f n

no-places : (s : List ℕ) (at : ℕ) (x : Fault) → Places s at (refused x)
no-places s at x f n e = absurd (never-took e)

plain-places : (s : List ℕ) (at : ℕ) (body : Body) (next : ℕ) → at ≤ next → next ≤ length s → Places s at (plain_at at body next)
plain-places s at body next h k f n e =
    let t = took_same e in
    let a : at ≡ f.behindA = cc in
    let b : at ≡ f.behindB = cc in
    let q : next ≡ n = cc in
    record { start_a = omega arith; sixteen_a = omega arith; start_b = omega arith; sixteen_b = omega arith; last = omega arith; ends = omega arith }

one-places : (make : ℕ → Body) (s : List ℕ) (at low high : ℕ) → Places s at (and_then (field_at s at low high) (λ v next. plain_at at (make v) next))
one-places make s at low high =
    then_elim (Places s at) (field_at s at low high) _ (no-places s at) (λ v next e.
    let r = field-read s at low high v next e in
    let later = r.later in
    plain-places s at (make v) next (omega arith) r.ends)

request-places : (kind : Kind) (s : List ℕ) (at : ℕ) → Places s at (request_at kind s at)
unfolding request_at request_tail
request-places kind s at =
    then_elim (Places s at) (digits_at s at 0) _ (no-places s at) (λ u na ea.
    then_elim (Places s at) (digits_at s na 1) _ (no-places s at) (λ w nb eb.
    then_elim (Places s at) (field_at s nb 0 16383) _ (no-places s at) (λ service ns es.
    then_elim (Places s at) (field_at s ns 0 5) _ (no-places s at) (λ flags nf ef.
    λ f n e.
    let t = took_same e in
    let a : na ≡ f.behindA = cc in
    let b : nb ≡ f.behindB = cc in
    let q : nf ≡ n = cc in
    let ra = digits-read s at 0 na ea in
    let rb = digits-read s na 1 nb eb in
    let rs = field-read s nb 0 16383 service ns es in
    let rf = field-read s ns 0 5 flags nf ef in
    record {
      start_a = omega (arith, ra.behind);
      sixteen_a = omega (arith, ra.behind, ra.most);
      start_b = omega (arith, rb.behind);
      sixteen_b = omega (arith, rb.behind, rb.most);
      last = omega (arith, rs.later, rf.later);
      ends = omega (arith, rf.ends);
    }))))

elements-places : (body : Body) (s : List ℕ) (at : ℕ) → Places s at (elements_at body s at)
unfolding elements_at elements_tail
elements-places body s at =
    then_elim (Places s at) (digits_at s at 0) _ (no-places s at) (λ u na ea.
    then_elim (Places s at) (digits_at s na 1) _ (no-places s at) (λ w nb eb.
    then_elim (Places s at) (field_at s nb 0 16383) _ (no-places s at) (λ service ns es.
    λ f n e.
    let t = took_same e in
    let a : na ≡ f.behindA = cc in
    let b : nb ≡ f.behindB = cc in
    let q : ns ≡ n = cc in
    let ra = digits-read s at 0 na ea in
    let rb = digits-read s na 1 nb eb in
    let rs = field-read s nb 0 16383 service ns es in
    record {
      start_a = omega (arith, ra.behind);
      sixteen_a = omega (arith, ra.behind, ra.most);
      start_b = omega (arith, rb.behind);
      sixteen_b = omega (arith, rb.behind, rb.most);
      last = omega (arith, rs.later);
      ends = omega (arith, rs.ends);
    })))

pub fields-places : (type : ℕ) (carrier : Carrier) (s : List ℕ) (at : ℕ) → at ≤ length s → Places s at (fields_at type carrier s at)
unfolding fields_at
fields-places type carrier s at h =
    let P = Places s at in
    let here : (body : Body) → P (bare_at body carrier s at) =
    λ body. pick_elim P (has_elements body carrier) (λ t. elements-places body s at) (λ t. plain-places s at body at (omega arith) h) in
    pick_elim P (eqb type 1) (λ t. request-places Ccbs s at) (λ t.
    pick_elim P (eqb type 2) (λ t. request-places Ccnr s at) (λ t.
    pick_elim P (eqb type 3) (λ t. one-places RequestResult s at 0 1) (λ t.
    pick_elim P (eqb type 4) (λ t. one-places RequestError s at 1 2) (λ t.
    pick_elim P (eqb type 5) (λ t. here CcExecPossible) (λ t.
    pick_elim P (eqb type 6) (λ t. here CcRingout) (λ t.
    pick_elim P (eqb type 7) (λ t. one-places RingoutError s at 1 2) (λ t.
    pick_elim P (eqb type 8) (λ t. here CcSuspend) (λ t.
    pick_elim P (eqb type 9) (λ t. here CcResume) (λ t.
    pick_elim P (eqb type 10) (λ t. here CcCancel) (λ t.
    pick_elim P (eqb type 11) (λ t. here CallAlerts) (λ t. here CallFailed)))))))))))
