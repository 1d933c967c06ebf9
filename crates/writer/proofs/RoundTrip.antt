-- The reader gives back what the writer made of a message in range, in its normal form, and stops where the message ends: field by field along a cursor.
use Rattle.std.specs.Prelude.{Option, Some, None}
use Prim.Native.Nat.{ℕ, ◌+◌, ◌-◌, ◌≤◌}
use mathlib.Core.Path.{◌≡◌, refl, ◌∙◌, ap}
use mathlib.Core.Bool.{Bool, true, false}
use mathlib.Core.List.{List, [], ◌∷◌, ◌++◌, append_assoc}
use lib.ListN.{length, drop, replicate, length-append}
use lib.Seq.{take_at}
use native.Mathlib.Omega.{arith}
use native.Mathlib.Nat.{add-zero}
use borrow.Author.Tests.{ltb-true, le-ltb}
use Rattle.lists.specs.Choice.{pick}
use Rattle.lists.proofs.Choice.{no_true}
use Rattle.lists.proofs.Parts.{at_next, at_in}
use Rattle.message.specs.Reading.{Read, took, and_then}
use Rattle.message.specs.Number.{number_bytes, digits_bytes, sixteen}
use Rattle.message.specs.Format.{request_body, has_elements, typeNumber, carrier_number, request_in_range, fields_in_range, elements_in_range, elements_complete, writable, identifier_bytes, request_bytes, element_bytes, field_bytes, fields_of, message_bytes}
use Rattle.message.specs.Equality.{Formed, for_request, normal_identifier, normal_number, normal_service, normal}
use Rattle.message.specs.Wire.{carrier_of, identified_at, identifier_at, Fields, request_tail, request_at, elements_tail, elements_at, fields_at, between, message_with, behind_identified, behind_head, message_at}
use Rattle.message.specs.declared.Carrier.{Carrier}
use Rattle.message.specs.declared.Carrier.TheVariants.{Setup, Connect, Facility, ReleaseComplete, Alerting}
use Rattle.message.specs.declared.Kind.{Kind}
use Rattle.message.specs.declared.Kind.TheVariants.{Ccbs, Ccnr}
use Rattle.message.specs.declared.Body.{Body}
use Rattle.message.specs.declared.Body.TheVariants.{CcbsRequest, CcnrRequest, RequestResult, RequestError, CcExecPossible, CcRingout, RingoutError, CcSuspend, CcResume, CcCancel, CallAlerts, CallFailed}
use Rattle.message.specs.declared.Message.{Message}
use Rattle.message.proofs.NumberBack.{number-back, field_back, byte-back, digits-back}
use Rattle.message.proofs.RangeLaws.{request-ranged, error-ranged, small_bytes, type-range, carrier-range, numbers-ranged, never-absent, writable-elements, writable-fields, identifier-length, message-bytes, message-length}

-- the message that the fields at a place make
abbrev made : Carrier → Bool → List ℕ → List ℕ → ℕ → Read Fields → Read Message
made carrier identified identifier s at r = and_then r (λ fields behind. took (message_with carrier identified identifier s at fields) behind)

-- what stands between two places of the cursor
between_is : (s bytes rest : List ℕ) (from to : ℕ) → drop from s ≡ bytes ++ rest → to ≡ from + length bytes → between s from to ≡ sixteen bytes
between_is s bytes rest from to e h =
    let k : to - from ≡ length bytes = omega arith in
    rw (e, k, take_at bytes rest (length bytes) refl)

pub between_none : (s : List ℕ) (at : ℕ) → between s at at ≡ replicate 16 0
between_none s at = let k : at - at ≡ 0 = omega arith in rw k

module _ (carrier : Carrier) (identified : Bool) (identifier s rest : List ℕ) (at : ℕ) where
  -- a message with numbers of digits, and one without
  abbrev numbered : List ℕ → List ℕ → Option ℕ → Body → Message
  numbered a b service body =
      record {
        carrier = carrier;
        identified = identified;
        identifier = identifier;
        numberA = sixteen (digits_bytes a);
        numberB = sixteen (digits_bytes b);
        service = service;
        body = body;
      }

  -- the four fields of a request
  request-back :
      (kind : Kind) (a b : List ℕ) (service flags : ℕ) → length a ≡ 16 → length b ≡ 16 → request_in_range a b service flags ≡ true →
      drop at s ≡ request_bytes a b service flags ++ rest →
      made carrier identified identifier s at (request_at kind s at) ≡ took (numbered a b None (request_body kind service flags)) (at + length (request_bytes a b service flags))
  unfolding request_at request_tail
  request-back kind a b service flags la lb ok e =
      let r = request-ranged a b service flags ok in
      let A = digits_bytes a in
      let B = digits_bytes b in
      let N = number_bytes service in
      let F = number_bytes flags in
      let fs : F ≡ flags ∷ [] = small_bytes flags (omega (arith, r.most_flags)) in
      let g : request_bytes a b service flags ++ rest ≡ A ++ (B ++ (N ++ (F ++ rest))) = append_assoc A (B ++ (N ++ F)) rest ∙ ap (λ (t : List ℕ). A ++ t) (append_assoc B (N ++ F) rest ∙ ap (λ (t : List ℕ). B ++ t) (append_assoc N F rest)) in
      let e0 : drop at s ≡ A ++ (B ++ (N ++ (F ++ rest))) = e ∙ g in
      let e1 : drop (at + length A) s ≡ B ++ (N ++ (F ++ rest)) = at_next s A _ at e0 in
      let e2 : drop (at + length A + length B) s ≡ N ++ (F ++ rest) = at_next s B _ (at + length A) e1 in
      let e3 : drop (at + length A + length B + length N) s ≡ F ++ rest = at_next s N _ (at + length A + length B) e2 in
      let k : at + length A + length B + length N + length F ≡ at + length (request_bytes a b service flags) = omega (arith, length-append A (B ++ (N ++ F)), length-append B (N ++ F), length-append N F) in
      rw (
        digits-back s _ at 0 a la r.range_a e0,
        digits-back s _ (at + length A) 1 b lb r.range_b e1,
        field_back s _ (at + length A + length B) service 0 16383 r.most_service (omega arith) (omega (arith, r.most_service)) e2,
        field_back s _ (at + length A + length B + length N) flags 0 5 (omega (arith, r.most_flags)) (omega arith) (omega (arith, r.most_flags)) e3,
        between_is s A _ at (at + length A) e0 refl,
        between_is s B _ (at + length A) (at + length A + length B) e1 refl,
        k,
      )

  -- elements
  elements-back :
      (body : Body) (a b : List ℕ) (service : Option ℕ) → length a ≡ 16 → length b ≡ 16 → elements_in_range a b service ≡ true → elements_complete b service ≡ true →
      drop at s ≡ element_bytes a b service ++ rest →
      made carrier identified identifier s at (elements_at body s at) ≡ took (numbered a b service body) (at + length (element_bytes a b service))
  unfolding elements_at elements_tail
  elements-back body a b None la lb ok full e = absurd (never-absent b full)
  elements-back body a b (Some service) la lb ok full e =
      let r = numbers-ranged a b service ok full in
      let A = digits_bytes a in
      let B = digits_bytes b in
      let N = number_bytes service in
      let g : (A ++ (B ++ N)) ++ rest ≡ A ++ (B ++ (N ++ rest)) = append_assoc A (B ++ N) rest ∙ ap (λ (t : List ℕ). A ++ t) (append_assoc B N rest) in
      let e0 : drop at s ≡ A ++ (B ++ (N ++ rest)) = e ∙ g in
      let e1 : drop (at + length A) s ≡ B ++ (N ++ rest) = at_next s A _ at e0 in
      let e2 : drop (at + length A + length B) s ≡ N ++ rest = at_next s B _ (at + length A) e1 in
      let k : at + length A + length B + length N ≡ at + length (A ++ (B ++ N)) = omega (arith, length-append A (B ++ N), length-append B N) in
      rw (
        digits-back s _ at 0 a la r.range_a e0,
        digits-back s _ (at + length A) 1 b lb r.range_b e1,
        field_back s _ (at + length A + length B) service 0 16383 r.most_service (omega arith) (omega (arith, r.most_service)) e2,
        between_is s A _ at (at + length A) e0 refl,
        between_is s B _ (at + length A) (at + length A + length B) e1 refl,
        k,
      )

  -- a type that has elements reads them
  elements-read : (body : Body) → has_elements body carrier ≡ true → fields_at (typeNumber body) carrier s at ≡ elements_at body s at
  unfolding fields_at
  elements-read (CcbsRequest flags service) h = absurd (no_true h)
  elements-read (CcnrRequest flags service) h = absurd (no_true h)
  elements-read (RequestResult keep) h = absurd (no_true h)
  elements-read (RequestError error) h = absurd (no_true h)
  elements-read CcExecPossible h = rw h
  elements-read CcRingout h = rw h
  elements-read (RingoutError error) h = absurd (no_true h)
  elements-read CcSuspend h = absurd (no_true h)
  elements-read CcResume h = rw h
  elements-read CcCancel h = rw h
  elements-read CallAlerts h = absurd (no_true h)
  elements-read CallFailed h = absurd (no_true h)

  -- any other its own fields
  abbrev Made : List ℕ → List ℕ → Body → Type 0
  Made a b body =
      made carrier identified identifier s at (fields_at (typeNumber body) carrier s at) ≡
      took
      (record {
        carrier = carrier;
        identified = identified;
        identifier = identifier;
        numberA = for_request body (sixteen (digits_bytes a)) (replicate 16 0);
        numberB = for_request body (sixteen (digits_bytes b)) (replicate 16 0);
        service = None;
        body = body;
      })
      (at + length (field_bytes a b body))

  fields_back :
      (a b : List ℕ) (body : Body) → length a ≡ 16 → length b ≡ 16 → has_elements body carrier ≡ false → fields_in_range a b body ≡ true → drop at s ≡ field_bytes a b body ++ rest →
      Made a b body
  unfolding fields_at
  fields_back a b (CcbsRequest flags service) la lb h ok e = request-back Ccbs a b service flags la lb ok e
  fields_back a b (CcnrRequest flags service) la lb h ok e = request-back Ccnr a b service flags la lb ok e
  fields_back a b (RequestResult v) la lb h ok e =
      let few = ltb-true v 2 ok in
      rw (field_back s rest at v 0 1 (omega arith) (omega arith) (omega arith) e, between_none s at)
  fields_back a b (RequestError v) la lb h ok e =
      let few = error-ranged v ok in
      rw (field_back s rest at v 1 2 (omega arith) (omega arith) (omega arith) e, between_none s at)
  fields_back a b CcExecPossible la lb h ok e = rw (h, add-zero, between_none s at)
  fields_back a b CcRingout la lb h ok e = rw (h, add-zero, between_none s at)
  fields_back a b (RingoutError v) la lb h ok e =
      let few = error-ranged v ok in
      rw (field_back s rest at v 1 2 (omega arith) (omega arith) (omega arith) e, between_none s at)
  fields_back a b CcSuspend la lb h ok e = rw (add-zero, between_none s at)
  fields_back a b CcResume la lb h ok e = rw (h, add-zero, between_none s at)
  fields_back a b CcCancel la lb h ok e = rw (h, add-zero, between_none s at)
  fields_back a b CallAlerts la lb h ok e = rw (add-zero, between_none s at)
  fields_back a b CallFailed la lb h ok e = rw (add-zero, between_none s at)

carrier-back : (carrier : Carrier) → carrier_of (carrier_number carrier) ≡ carrier
unfolding carrier_of
carrier-back Setup = refl
carrier-back Connect = refl
carrier-back Facility = refl
carrier-back ReleaseComplete = refl
carrier-back Alerting = refl

-- the fields of a message that can be written
abbrev Behind : Message → List ℕ → List ℕ → ℕ → Type 0
Behind m identifier s at =
    made m.carrier m.identified identifier s at (fields_at (typeNumber m.body) m.carrier s at) ≡
    took
    (record {
      carrier = m.carrier;
      identified = m.identified;
      identifier = identifier;
      numberA = normal_number m.body m.carrier m.numberA;
      numberB = normal_number m.body m.carrier m.numberB;
      service = normal_service m.body m.carrier m.service;
      body = m.body;
    })
    (at + length (fields_of m))

behind-back : (m : Message) (identifier s rest : List ℕ) (at : ℕ) → Formed m → writable m ≡ true → drop at s ≡ fields_of m ++ rest → Behind m identifier s at
behind-back m identifier s rest at f ok e = go (has_elements m.body m.carrier) refl
  where
    go : (b : Bool) → has_elements m.body m.carrier ≡ b → Behind m identifier s at
    go true h =
        let p = writable-elements m ok h in
        rw (h, elements-read m.carrier m.identified identifier s rest at m.body h)
        (elements-back m.carrier m.identified identifier s rest at m.body m.numberA m.numberB m.service f.numberA f.numberB p.0 p.1 (rw h at e))
    go false h =
        rw h
        (fields_back m.carrier m.identified identifier s rest at m.numberA m.numberB m.body f.numberA f.numberB h (writable-fields m ok h) (rw h at e))

-- the identifier behind its length, or none
identifier-back :
    (identified : Bool) (identifier s rest : List ℕ) → length identifier ≡ 16 → drop 2 s ≡ identifier_bytes identified identifier ++ rest →
    (identified_at s 2 ≡ took identified 3) × (identifier_at identified s 3 ≡ took (normal_identifier identified identifier) (2 + pick identified 17 1))
unfolding identified_at identifier_at
identifier-back true identifier s rest l e =
    let e3 : drop 3 s ≡ identifier ++ rest = at_next s (16 ∷ []) (identifier ++ rest) 2 e in
    let room : 3 + length identifier ≤ length s = at_in s identifier rest 3 e3 (omega arith) in
    (rw (number-back s (identifier ++ rest) 2 16 (omega arith) e), rw (le-ltb (length s) 19 (omega arith), e3, take_at identifier rest 16 l))
identifier-back false identifier s rest l e = (rw (number-back s rest 2 0 (omega arith) e), refl)

message-at :
    (m : Message) (s rest : List ℕ) → Formed m → writable m ≡ true →
    drop 0 s ≡ typeNumber m.body ∷ carrier_number m.carrier ∷ (identifier_bytes m.identified m.identifier ++ (fields_of m ++ rest)) →
    message_at s ≡ took (normal m) (2 + (pick m.identified 17 1 + length (fields_of m)))
unfolding message_at behind_head behind_identified normal
message-at m s rest f ok e =
    let t = typeNumber m.body in
    let c = carrier_number m.carrier in
    let I = identifier_bytes m.identified m.identifier in
    let F = fields_of m in
    let n = 2 + pick m.identified 17 1 in
    let e1 : drop 1 s ≡ c ∷ (I ++ (F ++ rest)) = at_next s (t ∷ []) _ 0 e in
    let e2 : drop 2 s ≡ I ++ (F ++ rest) = at_next s (c ∷ []) _ 1 e1 in
    let e3 : drop n s ≡ F ++ rest = rw (identifier-length m.identified m.identifier f.identifier) at (at_next s I (F ++ rest) 2 e2) in
    let tr = type-range m.body in
    let cr = carrier-range m.carrier in
    let i = identifier-back m.identified m.identifier s (F ++ rest) f.identifier e2 in
    let k : 2 + (pick m.identified 17 1 + length F) ≡ n + length F = omega arith in
    rw (
      byte-back s _ 0 t 1 12 (omega arith) tr.0 tr.1 e,
      byte-back s _ 1 c 1 5 (omega arith) cr.0 cr.1 e1,
      carrier-back m.carrier,
      i.0,
      i.1,
      k,
    )
    (behind-back m (normal_identifier m.identified m.identifier) s rest n f ok e3)

-- whatever follows the message
pub round_trip : (m : Message) (rest : List ℕ) → Formed m → writable m ≡ true → message_at (message_bytes m ++ rest) ≡ took (normal m) (length (message_bytes m))
round_trip m rest f ok =
    rw (message-length m f.identifier)
    (message-at m (message_bytes m ++ rest) rest f ok (rw (message-bytes m) (ap (λ (t : List ℕ). typeNumber m.body ∷ carrier_number m.carrier ∷ t) (append_assoc (identifier_bytes m.identified m.identifier) (fields_of m) rest))))
