-- What a request in range stores is in range; and a message that is read is formed, and its numbers are bytes, since it was read from bytes.
use Rattle.std.specs.Prelude.{Option, None}
use Prim.Native.Nat.{ℕ, ◌-◌, ◌/◌}
use mathlib.Core.Path.{◌≡◌, subst}
use mathlib.Core.Bool.{Bool, true}
use mathlib.Core.List.{List}
use lib.ListN.{take, drop}
use lib.Dec.{eqb}
use native.Mathlib.Omega.{arith}
use Rattle.lists.specs.Choice.{pick}
use Rattle.lists.specs.Words.{Bytes}
use Rattle.lists.proofs.Choice.{no_true, pick_elim}
use Rattle.lists.proofs.WordsLaws.{bytes_take, bytes_drop}
use Rattle.message.specs.Reading.{Read, took, refused}
use Rattle.message.specs.Number.{field_at}
use Rattle.message.specs.Format.{has_elements, request_in_range, fields_in_range, elements_in_range, in_range}
use Rattle.message.specs.Wire.{carrier_of, identified_at, identifier_at, fields_at, between, message_with, behind_identified, behind_head, message_at}
use Rattle.message.specs.declared.Carrier.{Carrier}
use Rattle.message.specs.declared.Body.{Body}
use Rattle.message.specs.declared.Body.TheVariants.{CcbsRequest, CcnrRequest, RequestResult, RequestError, CcExecPossible, CcRingout, RingoutError, CcSuspend, CcResume, CcCancel, CallAlerts, CallFailed}
use Rattle.message.specs.declared.Fault.{Fault}
use Rattle.message.specs.declared.Message.{Message}
use Rattle.message.proofs.Reading.{never-took, took_same, then_elim}
use Rattle.message.proofs.RangeLaws.{RequestRanged, request-ranged}
use Rattle.writer.proofs.Claims.{read-is-written}
use Rattle.desk.specs.Letter.{letter_of}
use Rattle.desk.specs.declared.Connection.{Connection}
use Rattle.desk.specs.declared.Keep.{Keep}
use Rattle.desk.proofs.LetterLaws.{bytes-sixteen, number-kept}
use Rattle.terms.specs.Request.{letter_names, can_keep_sent}
use Rattle.terms.specs.declared.request.Request.{Request}
use Rattle.line_table.specs.Inputs.{message_for, keep_chosen, connection_chosen}
use Rattle.line_table.specs.declared.inputs.Meant.{Meant}
use Rattle.line_records.specs.Lines.{lines, line_at, keeps, retains}
use Rattle.line_plan.specs.Plan.{new_record}
use Rattle.line_sound.specs.Sound.{Whole, Typed}

-- ---- the choices that a request brings are made
abbrev KeepMade : Keep → Type 0
KeepMade keep = keep ≡ Keep.Empty → ⊥

kept : KeepMade Keep.Keeps
kept e = let z : ◌≡◌ {A = ℕ} 0 1 = cc in omega arith

ended : KeepMade Keep.Ends
ended e = let z : ◌≡◌ {A = ℕ} 0 1 = cc in omega arith

keep-chosen : (flags : ℕ) (keeps : Bool) → KeepMade (keep_chosen flags keeps)
keep-chosen flags keeps =
    pick_elim KeepMade (can_keep_sent flags) (λ t. pick_elim KeepMade keeps (λ k. kept) (λ k. ended)) (λ f. ended)

abbrev ConnectionMade : Connection → Type 0
ConnectionMade connection = connection ≡ Connection.Empty → ⊥

retained : ConnectionMade Connection.Ret
retained e = let z : ◌≡◌ {A = ℕ} 0 1 = cc in omega arith

released : ConnectionMade Connection.Rls
released e = let z : ◌≡◌ {A = ℕ} 0 1 = cc in omega arith

connection-chosen : (flags : ℕ) (retains : Bool) → ConnectionMade (connection_chosen flags retains)
connection-chosen flags retains =
    pick_elim ConnectionMade (eqb (flags / 2) 1) (λ t. retained) (λ f.
    pick_elim ConnectionMade (eqb (flags / 2) 2) (λ t. released) (λ g.
    pick_elim ConnectionMade retains (λ t. retained) (λ h. released)))

-- ---- the fields of a request
same-request : (a b : Request) → Meant.Request a ≡ Meant.Request b → a ≡ b
same-request a b e = cc

no-request : {q : Request} → Meant.NotHere ≡ Meant.Request q → ⊥
no-request e = let z : ◌≡◌ {A = ℕ} 0 1 = cc in omega arith

request-fields :
    (a b : List ℕ) (service : Option ℕ) (carrier : Carrier) (body : Body) (q : Request) → message_for body ≡ Meant.Request q →
    pick (has_elements body carrier) (elements_in_range a b service) (fields_in_range a b body) ≡ true → request_in_range a b q.service q.flags ≡ true
request-fields a b s c (CcbsRequest flags service) q e h =
    subst (λ (x : Request). request_in_range a b x.service x.flags ≡ true) (same-request _ q e) h
request-fields a b s c (CcnrRequest flags service) q e h =
    subst (λ (x : Request). request_in_range a b x.service x.flags ≡ true) (same-request _ q e) h
request-fields a b s c (RequestResult keep) q e h = absurd (no-request e)
request-fields a b s c (RequestError error) q e h = absurd (no-request e)
request-fields a b s c CcExecPossible q e h = absurd (no-request e)
request-fields a b s c CcRingout q e h = absurd (let z : ◌≡◌ {A = ℕ} 0 1 = cc in omega arith)
request-fields a b s c (RingoutError error) q e h = absurd (no-request e)
request-fields a b s c CcSuspend q e h = absurd (let z : ◌≡◌ {A = ℕ} 0 1 = cc in omega arith)
request-fields a b s c CcResume q e h = absurd (let z : ◌≡◌ {A = ℕ} 0 1 = cc in omega arith)
request-fields a b s c CcCancel q e h = absurd (let z : ◌≡◌ {A = ℕ} 0 1 = cc in omega arith)
request-fields a b s c CallAlerts q e h = absurd (no-request e)
request-fields a b s c CallFailed q e h = absurd (no-request e)

-- a new record of a line is whole
pub request-whole :
    (ws : List ℕ) (m : Message) → Typed m → in_range m ≡ true → (q : Request) → message_for (letter_of m).body ≡ Meant.Request q →
    (busy : Bool) → (line_at (letter_of m).numberB (lines ws) ≡ None → ⊥) → Whole (lines ws) (new_record ws (letter_names (letter_of m)) q busy)
unfolding in_range letter_of
request-whole ws m typed ranged q e busy line =
    let r : RequestRanged m.numberA m.numberB q.service q.flags =
    request-ranged m.numberA m.numberB q.service q.flags (request-fields m.numberA m.numberB m.service m.carrier m.body q e ranged) in
    record {
      agreed = record {
        keep = keep-chosen q.flags (keeps ws);
        connection = connection-chosen q.flags (retains ws);
        numberA = number-kept m.numberA 0 typed.length_a typed.bytes_a r.range_a;
        numberB = number-kept m.numberB 1 typed.length_b typed.bytes_b r.range_b;
        service = r.most_service;
      };
      line = line;
      suspension = λ e. absurd (no_true e);
      fell = λ e. absurd (no_true e);
    }

-- ---- a message that is read
between-bytes : (s : List ℕ) (from to : ℕ) → Bytes s → Bytes (between s from to)
between-bytes s from to b = bytes-sixteen (take (to - from) (drop from s)) (bytes_take (to - from) (drop from s) (bytes_drop from s b))

abbrev BytesRead : Read Message → Type 0
BytesRead r = (m : Message) (n : ℕ) → r ≡ took m n → Bytes m.numberA × Bytes m.numberB

not-read : (x : Fault) → BytesRead (refused x)
not-read x m n e = absurd (never-took e)

identified-bytes : (type : ℕ) (carrier : Carrier) (identified : Bool) (s : List ℕ) (at : ℕ) → Bytes s → BytesRead (behind_identified type carrier identified s at)
unfolding behind_identified
identified-bytes type carrier identified s at b =
    then_elim BytesRead (identifier_at identified s at) _ not-read (λ identifier next ei.
    then_elim BytesRead (fields_at type carrier s next) _ not-read (λ f behind ef.
    λ m n e.
    let q = (took_same e).0 in
    rw (← q) (between-bytes s next f.behindA b, between-bytes s f.behindA f.behindB b)))

head_bytes : (type : ℕ) (carrier : Carrier) (s : List ℕ) (at : ℕ) → Bytes s → BytesRead (behind_head type carrier s at)
unfolding behind_head
head_bytes type carrier s at b =
    then_elim BytesRead (identified_at s at) _ not-read (λ identified next ei. identified-bytes type carrier identified s next b)

read-bytes : (s : List ℕ) → Bytes s → BytesRead (message_at s)
unfolding message_at
read-bytes s b =
    then_elim BytesRead (field_at s 0 1 12) _ not-read (λ type next et.
    then_elim BytesRead (field_at s next 1 5) _ not-read (λ number behind en.
    head_bytes type (carrier_of number) s behind b))

pub read-typed : (s : List ℕ) → Bytes s → (m : Message) (n : ℕ) → message_at s ≡ took m n → Typed m
read-typed s b m n e =
    let formed = (read-is-written s m n b e).formed in
    let bytes = read-bytes s b m n e in
    record { length_a = formed.numberA; bytes_a = bytes.0; length_b = formed.numberB; bytes_b = bytes.1 }
