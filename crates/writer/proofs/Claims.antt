-- The claims of specs/Claims.antt: by the round trip, by the canonical form, and by what the buffer of a taken write is.
use Prim.Native.Nat.{ℕ, ◌+◌, ◌≤◌}
use mathlib.Core.Path.{◌≡◌, refl, sym, ◌∙◌, ap}
use mathlib.Core.Bool.{Bool, true, false}
use mathlib.Core.List.{List, [], ◌∷◌, ◌++◌}
use lib.ListN.{length, get_or, take, drop, replicate, length-drop, length-append}
use lib.Seq.{take_at, drop_at, drop-drop, length-take-le, drop-append_seam}
use native.Mathlib.Omega.{arith}
use native.Mathlib.Numerals.{add-one}
use Rattle.message.specs.Reading.{took}
use Rattle.message.specs.Number.{digits_bytes, sixteen}
use Rattle.message.specs.Format.{has_elements, writable, request_in_range, fields_in_range, identifier_bytes, field_bytes, request_bytes, fields_of, message_bytes}
use Rattle.message.specs.Equality.{digits_of, numbers_of, for_request, Same, Formed, normal}
use Rattle.message.specs.Wire.{message_at}
use Rattle.message.specs.declared.Body.{Body}
use Rattle.message.specs.declared.Body.TheVariants.{CcbsRequest, CcnrRequest, RequestResult, RequestError, CcExecPossible, CcRingout, RingoutError, CcSuspend, CcResume, CcCancel, CallAlerts, CallFailed}
use Rattle.message.specs.declared.Message.{Message}
use Rattle.message.proofs.Reading.{took_same}
use Rattle.message.proofs.RangeLaws.{request-ranged, elements-few, writable-elements, writable-fields, identifier-few, message-length}
use Rattle.writer.specs.Write.{put_at, message_buffer}
use Rattle.writer.specs.Claims.{WrittenReadsBack, ReadIsWritten, SameByBytes, BytesOfSame}
use Rattle.writer.proofs.WriteLaws.{took-place, message-most}
use Rattle.writer.proofs.RoundTrip.{round_trip}
use Rattle.writer.proofs.CanonicalLaws.{canonical}

-- ---- equality
digits-front : (g : List ℕ) → length g ≡ 16 → digits_bytes g ≡ get_or g 0 0 ∷ digits_of g
digits-front [] l = let z : ◌≡◌ {A = ℕ} 0 16 = l in absurd (omega arith)
digits-front (x ∷ xs) l = rw (add-one x)

digits-count : (g : List ℕ) → length g ≡ 16 → get_or g 0 0 ≤ 15 → length (digits_of g) ≡ get_or g 0 0
digits-count g l h = length-take-le (get_or g 0 0) (drop 1 g) (omega (arith, length-drop 1 g))

-- the normal form has the same digits
digits-normal : (g : List ℕ) → length g ≡ 16 → get_or g 0 0 ≤ 15 → digits_of (sixteen (digits_bytes g)) ≡ digits_of g
digits-normal g l h = rw (digits-front g l) (take_at (digits_of g) _ (get_or g 0 0) (digits-count g l h))

request-numbers :
    (a b : List ℕ) (service flags : ℕ) → length a ≡ 16 → length b ≡ 16 → request_in_range a b service flags ≡ true →
    ◌≡◌ {A = List (List ℕ)} (digits_of (sixteen (digits_bytes a)) ∷ digits_of (sixteen (digits_bytes b)) ∷ []) (digits_of a ∷ digits_of b ∷ [])
request-numbers a b service flags la lb ok =
    let r = request-ranged a b service flags ok in
    rw (digits-normal a la r.most_a, digits-normal b lb r.most_b)

body-numbers :
    (a b : List ℕ) (body : Body) → length a ≡ 16 → length b ≡ 16 → fields_in_range a b body ≡ true →
    for_request body (digits_of (for_request body (sixteen (digits_bytes a)) (replicate 16 0)) ∷ digits_of (for_request body (sixteen (digits_bytes b)) (replicate 16 0)) ∷ []) [] ≡
    for_request body (digits_of a ∷ digits_of b ∷ []) []
body-numbers a b (CcbsRequest flags service) la lb ok = request-numbers a b service flags la lb ok
body-numbers a b (CcnrRequest flags service) la lb ok = request-numbers a b service flags la lb ok
body-numbers a b (RequestResult keep) la lb ok = refl
body-numbers a b (RequestError error) la lb ok = refl
body-numbers a b CcExecPossible la lb ok = refl
body-numbers a b CcRingout la lb ok = refl
body-numbers a b (RingoutError error) la lb ok = refl
body-numbers a b CcSuspend la lb ok = refl
body-numbers a b CcResume la lb ok = refl
body-numbers a b CcCancel la lb ok = refl
body-numbers a b CallAlerts la lb ok = refl
body-numbers a b CallFailed la lb ok = refl

numbers-normal : (m : Message) → Formed m → writable m ≡ true → numbers_of (normal m) ≡ numbers_of m
unfolding normal
numbers-normal m f ok = go (has_elements m.body m.carrier) refl
  where
    go : (b : Bool) → has_elements m.body m.carrier ≡ b → numbers_of (normal m) ≡ numbers_of m
    go true h =
        let few = elements-few m.numberA m.numberB m.service (writable-elements m ok h).0 in
        rw (h, digits-normal m.numberA f.numberA few.0, digits-normal m.numberB f.numberB few.1)
    go false h = rw h (body-numbers m.numberA m.numberB m.body f.numberA f.numberB (writable-fields m ok h))

same-normal : (m : Message) → Formed m → writable m ≡ true → Same (normal m) m
unfolding normal
same-normal m f ok =
    record {
      carrier = refl;
      identified = refl;
      identifier = λ h. rw h;
      body = refl;
      numbers = numbers-normal m f ok;
      service = λ h. rw h;
    }

-- two messages with one normal form
same_by : (m n : Message) → Same (normal m) m → Same (normal n) n → normal m ≡ normal n → Same m n
same_by m n p q e =
    let identified = ap (λ (x : Message). x.identified) e in
    let has = ap (λ (x : Message). has_elements x.body x.carrier) e in
    record {
      carrier = sym p.carrier ∙ ap (λ (x : Message). x.carrier) e ∙ q.carrier;
      identified = sym p.identified ∙ identified ∙ q.identified;
      identifier = λ h.
          let h' = p.identified ∙ h in
          sym (p.identifier h') ∙ ap (λ (x : Message). x.identifier) e ∙ q.identifier (sym identified ∙ h');
      body = sym p.body ∙ ap (λ (x : Message). x.body) e ∙ q.body;
      numbers = sym p.numbers ∙ ap numbers_of e ∙ q.numbers;
      service = λ h.
          let h' : has_elements (normal m).body (normal m).carrier ≡ true = rw (p.body, p.carrier) h in
          sym (p.service h') ∙ ap (λ (x : Message). x.service) e ∙ q.service (sym has ∙ h');
    }

pub same-by-bytes : SameByBytes
same-by-bytes m n fm fn om on e =
    same_by m n (same-normal m fm om) (same-normal n fn on)
    (took_same (sym (round_trip m [] fm om) ∙ ap (λ (t : List ℕ). message_at (t ++ [])) e ∙ round_trip n [] fn on)).0

digits_same : (a b : List ℕ) → length a ≡ 16 → length b ≡ 16 → get_or a 0 0 ≤ 15 → get_or b 0 0 ≤ 15 → digits_of a ≡ digits_of b → digits_bytes a ≡ digits_bytes b
digits_same a b la lb ha hb e =
    let k : get_or a 0 0 ≡ get_or b 0 0 = sym (digits-count a la ha) ∙ ap length e ∙ digits-count b lb hb in
    digits-front a la ∙ ap (λ (t : List ℕ). get_or a 0 0 ∷ t) e ∙ ap (λ (n : ℕ). n ∷ digits_of b) k ∙ sym (digits-front b lb)

request-same :
    (a b c d : List ℕ) (service flags : ℕ) → length a ≡ 16 → length b ≡ 16 → length c ≡ 16 → length d ≡ 16 →
    request_in_range a b service flags ≡ true → request_in_range c d service flags ≡ true →
    ◌≡◌ {A = List (List ℕ)} (digits_of a ∷ digits_of b ∷ []) (digits_of c ∷ digits_of d ∷ []) → request_bytes a b service flags ≡ request_bytes c d service flags
request-same a b c d service flags la lb lc ld ok ok' e =
    let r = request-ranged a b service flags ok in
    let r' = request-ranged c d service flags ok' in
    let ea : digits_of a ≡ digits_of c = cc in
    let eb : digits_of b ≡ digits_of d = cc in
    rw (digits_same a c la lc r.most_a r'.most_a ea, digits_same b d lb ld r.most_b r'.most_b eb)

body_same :
    (a b c d : List ℕ) (body : Body) → length a ≡ 16 → length b ≡ 16 → length c ≡ 16 → length d ≡ 16 → fields_in_range a b body ≡ true → fields_in_range c d body ≡ true →
    for_request body (digits_of a ∷ digits_of b ∷ []) [] ≡ for_request body (digits_of c ∷ digits_of d ∷ []) [] → field_bytes a b body ≡ field_bytes c d body
body_same a b c d (CcbsRequest flags service) la lb lc ld ok ok' e = request-same a b c d service flags la lb lc ld ok ok' e
body_same a b c d (CcnrRequest flags service) la lb lc ld ok ok' e = request-same a b c d service flags la lb lc ld ok ok' e
body_same a b c d (RequestResult keep) la lb lc ld ok ok' e = refl
body_same a b c d (RequestError error) la lb lc ld ok ok' e = refl
body_same a b c d CcExecPossible la lb lc ld ok ok' e = refl
body_same a b c d CcRingout la lb lc ld ok ok' e = refl
body_same a b c d (RingoutError error) la lb lc ld ok ok' e = refl
body_same a b c d CcSuspend la lb lc ld ok ok' e = refl
body_same a b c d CcResume la lb lc ld ok ok' e = refl
body_same a b c d CcCancel la lb lc ld ok ok' e = refl
body_same a b c d CallAlerts la lb lc ld ok ok' e = refl
body_same a b c d CallFailed la lb lc ld ok ok' e = refl

fields-same :
    (a b c d : List ℕ) (body body' : Body) → body ≡ body' → length a ≡ 16 → length b ≡ 16 → length c ≡ 16 → length d ≡ 16 →
    fields_in_range a b body ≡ true → fields_in_range c d body' ≡ true →
    for_request body (digits_of a ∷ digits_of b ∷ []) [] ≡ for_request body' (digits_of c ∷ digits_of d ∷ []) [] → field_bytes a b body ≡ field_bytes c d body'
fields-same a b c d body body' h la lb lc ld ok ok' e = rw (← h) (body_same a b c d body la lb lc ld ok (rw h ok') (rw (← h) at e))

elements_same :
    (m n : Message) → Formed m → Formed n → writable m ≡ true → writable n ≡ true → Same m n → has_elements m.body m.carrier ≡ true → fields_of m ≡ fields_of n
elements_same m n fm fn om on s h =
    let h' : has_elements n.body n.carrier ≡ true = rw (← s.body, ← s.carrier) h in
    let few = elements-few m.numberA m.numberB m.service (writable-elements m om h).0 in
    let few' = elements-few n.numberA n.numberB n.service (writable-elements n on h').0 in
    let e : ◌≡◌ {A = List (List ℕ)} (digits_of m.numberA ∷ digits_of m.numberB ∷ []) (digits_of n.numberA ∷ digits_of n.numberB ∷ []) = rw (h, h') at s.numbers in
    let ea : digits_of m.numberA ≡ digits_of n.numberA = cc in
    let eb : digits_of m.numberB ≡ digits_of n.numberB = cc in
    rw (
      h,
      h',
      digits_same m.numberA n.numberA fm.numberA fn.numberA few.0 few'.0 ea,
      digits_same m.numberB n.numberB fm.numberB fn.numberB few.1 few'.1 eb,
      s.service h,
    )

behind-same : (m n : Message) → Formed m → Formed n → writable m ≡ true → writable n ≡ true → Same m n → fields_of m ≡ fields_of n
behind-same m n fm fn om on s = go (has_elements m.body m.carrier) refl
  where
    go : (b : Bool) → has_elements m.body m.carrier ≡ b → fields_of m ≡ fields_of n
    go true h = elements_same m n fm fn om on s h
    go false h =
        let h' : has_elements n.body n.carrier ≡ false = rw (← s.body, ← s.carrier) h in
        rw (h, h')
        (fields-same m.numberA m.numberB n.numberA n.numberB m.body n.body s.body fm.numberA fm.numberB fn.numberA fn.numberB (writable-fields m om h) (writable-fields n on h') (rw (h, h') at s.numbers))

identifier-same : (b c : Bool) (i j : List ℕ) → b ≡ c → (b ≡ true → i ≡ j) → identifier_bytes b i ≡ identifier_bytes c j
identifier-same b c i j e same = rw (← e) (go b same)
  where
    go : (b : Bool) → (b ≡ true → i ≡ j) → identifier_bytes b i ≡ identifier_bytes b j
    go true same = ap (λ (t : List ℕ). 16 ∷ t) (same refl)
    go false same = refl

pub bytes_of_same : BytesOfSame
unfolding message_bytes
bytes_of_same m n fm fn om on s =
    rw (behind-same m n fm fn om on s, identifier-same m.identified n.identified m.identifier n.identifier s.identified s.identifier, s.carrier, s.body)

-- ---- written and read
put_back : (buffer bytes : List ℕ) (place : ℕ) → place + length bytes ≤ length buffer → drop place (put_at buffer place bytes) ≡ bytes ++ drop (place + length bytes) buffer
put_back buffer bytes place h =
    drop_at (take place buffer) _ place (length-take-le place buffer (omega arith)) ∙ ap (λ (t : List ℕ). bytes ++ t) (drop-drop (length bytes) place buffer)

pub written-reads-back : WrittenReadsBack
written-reads-back buffer place m n f e =
    let t = took-place buffer place m n e in
    let bytes = message_bytes m in
    let fits : place + length bytes ≤ length buffer = t.fits in
    let size : length bytes ≡ n = t.size in
    let stands : drop place (message_buffer buffer place m) ≡ bytes ++ drop (place + length bytes) buffer = ap (λ (d : List ℕ). drop place d) t.after ∙ put_back buffer bytes place fits in
    let long = message-length m f.identifier in
    let head = identifier-few m.identified in
    record {
      read = rw stands (round_trip m (drop (place + length bytes) buffer) f t.ranged ∙ ap (λ (k : ℕ). took (normal m) k) size);
      equal = same-normal m f t.ranged;
      least = omega (arith, long, size, head);
      most = omega (arith, size, message-most m f t.ranged);
      within = omega (arith, fits, size);
      before = rw t.after (take_at (take place buffer) _ place (length-take-le place buffer (omega arith)));
      behind = sym (drop-drop n place (message_buffer buffer place m)) ∙ rw (stands, ← size) (drop-append_seam bytes (drop (place + length bytes) buffer));
    }

pub read-is-written : ReadIsWritten
read-is-written s m n byte e =
    let w = canonical s byte m n e in
    let bytes = message_bytes m in
    let again : took m n ≡ took (normal m) (length bytes) = sym e ∙ ap message_at w.whole ∙ round_trip m (drop n s) w.formed w.ranged in
    let same = took_same again in
    let size = same.1 in
    let whole = w.whole in
    let total : length s ≡ length bytes + length (drop n s) = ap length whole ∙ length-append bytes (drop n s) in
    record {
      formed = w.formed;
      ranged = w.ranged;
      normalised = sym same.0;
      bytes = ap (λ (t : List ℕ). take n t) whole ∙ take_at bytes (drop n s) n (sym size);
      ends = omega (arith, total, size);
    }
