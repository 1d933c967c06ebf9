-- What a message in range says of its fields, and how many bytes they take: by the tests of the range.
use Rattle.std.specs.Prelude.{Option, Some, None, Ok, Err}
use Prim.Native.Nat.{ℕ, ◌+◌, ◌≤◌, ◌<◌}
use mathlib.Core.Path.{◌≡◌, refl, ◌∙◌}
use mathlib.Core.Bool.{Bool, true, false}
use mathlib.Core.List.{List, [], ◌∷◌, ◌++◌}
use lib.ListN.{length, get_or, length-append}
use lib.Seq.{length-take-le}
use lib.Dec.{ltb}
use native.Mathlib.Omega.{arith}
use borrow.Author.Tests.{ltb-true, lt-ltb, le-ltb, lt-leb}
use Rattle.lists.specs.Choice.{pick}
use Rattle.lists.proofs.Choice.{no_true, pick-then, pick_elim}
use Rattle.message.specs.Reading.{Read, took, refused}
use Rattle.message.specs.Number.{number_bytes, number_at, field_at, digits_at, is_taken, digits_in_range, digits_bytes}
use Rattle.message.specs.Format.{request_in_range, error_in_range, elements_in_range, fields_in_range, in_range, has_elements, elements_complete, complete, writable, identifier_bytes, request_bytes, element_bytes, typeNumber, carrier_number, field_bytes, fields_of, message_bytes}
use Rattle.message.specs.declared.Carrier.{Carrier}
use Rattle.message.specs.declared.Carrier.TheVariants.{Setup, Connect, Facility, ReleaseComplete, Alerting}
use Rattle.message.specs.declared.Body.{Body}
use Rattle.message.specs.declared.Body.TheVariants.{CcbsRequest, CcnrRequest, RequestResult, RequestError, CcExecPossible, CcRingout, RingoutError, CcSuspend, CcResume, CcCancel, CallAlerts, CallFailed}
use Rattle.message.specs.declared.Message.{Message}
use Rattle.message.proofs.NumberLaws.{DigitsRead, digits-read}

-- ---- numbers
pub small_bytes : (v : ℕ) → v < 128 → number_bytes v ≡ v ∷ []
small_bytes v h = rw (lt-ltb v 128 h)

pub number-length : (v : ℕ) → (1 ≤ length (number_bytes v)) × (length (number_bytes v) ≤ 2)
number-length v = pick_elim (λ (bytes : List ℕ). (1 ≤ length bytes) × (length bytes ≤ 2)) (ltb v 128) (λ t. omega arith) (λ t. omega arith)

pub small-length : (v : ℕ) → v < 128 → length (number_bytes v) ≡ 1
small-length v h = rw (small_bytes v h)

-- ---- numbers of digits
taken_of : (g : List ℕ) (low : ℕ) (r : Read (Unit {0})) → digits_at g 0 low ≡ r → is_taken r ≡ true → {G : Type 0} → ((n : ℕ) → DigitsRead g 0 low n → G) → G
taken_of g low (Ok (u, n)) h e k = k n (digits-read g 0 low n h)
taken_of g low (Err x) h e k = absurd (no_true e)

-- sixteen places in range read as a number of digits
pub digits-ranged : (g : List ℕ) (low : ℕ) → digits_in_range low g ≡ true → {G : Type 0} → ((n : ℕ) → DigitsRead g 0 low n → G) → G
unfolding digits_in_range
digits-ranged g low e k = taken_of g low (digits_at g 0 low) refl e k

pub digits-few : (g : List ℕ) (low : ℕ) → digits_in_range low g ≡ true → (low ≤ get_or g 0 0) × (get_or g 0 0 ≤ 15)
digits-few g low e = digits-ranged g low e (λ n r. (r.least, r.most))

pub digits-length : (g : List ℕ) → length g ≡ 16 → get_or g 0 0 ≤ 15 → length (digits_bytes g) ≡ get_or g 0 0 + 1
digits-length g l h = length-take-le (get_or g 0 0 + 1) g (omega arith)

-- a number of digits in one range is in another that its length is in
digits-again : (g : List ℕ) (low other n : ℕ) → DigitsRead g 0 low n → other ≤ get_or g 0 0 → digits_in_range other g ≡ true
unfolding digits_in_range digits_at field_at number_at
digits-again g low other n r h =
    let most = r.most in
    simp (lt-leb (length g) 0 r.room, lt-ltb (get_or g 0 0) 128 (omega arith), le-ltb (get_or g 0 0) other h, le-ltb 15 (get_or g 0 0) most, r.scanned)

pub digits-other : (g : List ℕ) (low other : ℕ) → digits_in_range low g ≡ true → other ≤ get_or g 0 0 → digits_in_range other g ≡ true
digits-other g low other e h = digits-ranged g low e (λ n r. digits-again g low other n r h)

-- ---- the fields of each type
pub record RequestRanged (a b : List ℕ) (service flags : ℕ) : Type 0 where
  pub range_a : digits_in_range 0 a ≡ true
  pub range_b : digits_in_range 1 b ≡ true
  pub most_a : get_or a 0 0 ≤ 15
  pub least_b : 1 ≤ get_or b 0 0
  pub most_b : get_or b 0 0 ≤ 15
  pub most_service : service < 16384
  pub most_flags : flags < 6

pub request-ranged : (a b : List ℕ) (service flags : ℕ) → request_in_range a b service flags ≡ true → RequestRanged a b service flags
request-ranged a b service flags e =
    let p = pick-then (digits_in_range 0 a) _ false true no_true e in
    let q = pick-then (digits_in_range 1 b) _ false true no_true p.1 in
    let r = pick-then (ltb service 16384) _ false true no_true q.1 in
    record {
      range_a = p.0;
      range_b = q.0;
      most_a = (digits-few a 0 p.0).1;
      least_b = (digits-few b 1 q.0).0;
      most_b = (digits-few b 1 q.0).1;
      most_service = ltb-true service 16384 r.0;
      most_flags = ltb-true flags 6 r.1;
    }

pub error-ranged : (v : ℕ) → error_in_range v ≡ true → (1 ≤ v) × (v ≤ 2)
error-ranged v e = let p = pick-then (ltb 0 v) (ltb v 3) false true no_true e in omega (arith, ltb-true 0 v p.0, ltb-true v 3 p.1)

pub keep-ranged : (v : ℕ) → ltb v 2 ≡ true → v < 128
keep-ranged v e = omega (arith, ltb-true v 2 e)

pub error-small : (v : ℕ) → error_in_range v ≡ true → v < 128
error-small v e = omega (arith, error-ranged v e)

pub request-length :
    (a b : List ℕ) (service flags : ℕ) → length a ≡ 16 → length b ≡ 16 → request_in_range a b service flags ≡ true →
    length (request_bytes a b service flags) ≡ (get_or a 0 0 + 1) + ((get_or b 0 0 + 1) + (length (number_bytes service) + 1))
request-length a b service flags la lb e =
    let r = request-ranged a b service flags e in
    let fs : number_bytes flags ≡ flags ∷ [] = small_bytes flags (omega (arith, r.most_flags)) in
    length-append (digits_bytes a) (digits_bytes b ++ (number_bytes service ++ number_bytes flags))
    ∙ rw (digits-length a la r.most_a, length-append (digits_bytes b) (number_bytes service ++ number_bytes flags), digits-length b lb r.most_b, length-append (number_bytes service) (number_bytes flags), fs)

request-most : (a b : List ℕ) (service flags : ℕ) → length a ≡ 16 → length b ≡ 16 → request_in_range a b service flags ≡ true → length (request_bytes a b service flags) ≤ 35
request-most a b service flags la lb e =
    let r = request-ranged a b service flags e in
    omega (arith, request-length a b service flags la lb e, r.most_a, r.most_b, number-length service)

-- the fields take at most 35 bytes: two numbers of 15 digits, a service of two bytes, flags
pub fields-length : (a b : List ℕ) (body : Body) → length a ≡ 16 → length b ≡ 16 → fields_in_range a b body ≡ true → length (field_bytes a b body) ≤ 35
fields-length a b (CcbsRequest flags service) la lb e = request-most a b service flags la lb e
fields-length a b (CcnrRequest flags service) la lb e = request-most a b service flags la lb e
fields-length a b (RequestResult keep) la lb e = omega (arith, number-length keep)
fields-length a b (RequestError error) la lb e = omega (arith, number-length error)
fields-length a b CcExecPossible la lb e = omega arith
fields-length a b CcRingout la lb e = omega arith
fields-length a b (RingoutError error) la lb e = omega (arith, number-length error)
fields-length a b CcSuspend la lb e = omega arith
fields-length a b CcResume la lb e = omega arith
fields-length a b CcCancel la lb e = omega arith
fields-length a b CallAlerts la lb e = omega arith
fields-length a b CallFailed la lb e = omega arith

-- ---- type and carrier are one byte each
pub type-range : (body : Body) → (1 ≤ typeNumber body) × (typeNumber body ≤ 12)
type-range (CcbsRequest flags service) = omega arith
type-range (CcnrRequest flags service) = omega arith
type-range (RequestResult keep) = omega arith
type-range (RequestError error) = omega arith
type-range CcExecPossible = omega arith
type-range CcRingout = omega arith
type-range (RingoutError error) = omega arith
type-range CcSuspend = omega arith
type-range CcResume = omega arith
type-range CcCancel = omega arith
type-range CallAlerts = omega arith
type-range CallFailed = omega arith

pub carrier-range : (carrier : Carrier) → (1 ≤ carrier_number carrier) × (carrier_number carrier ≤ 5)
carrier-range Setup = omega arith
carrier-range Connect = omega arith
carrier-range Facility = omega arith
carrier-range ReleaseComplete = omega arith
carrier-range Alerting = omega arith

-- ---- elements that can be written: none is absent but numberA
pub record NumbersRanged (a b : List ℕ) (service : ℕ) : Type 0 where
  pub range_a : digits_in_range 0 a ≡ true
  pub range_b : digits_in_range 1 b ≡ true
  pub most_a : get_or a 0 0 ≤ 15
  pub most_b : get_or b 0 0 ≤ 15
  pub most_service : service < 16384

pub numbers-ranged : (a b : List ℕ) (service : ℕ) → elements_in_range a b (Some service) ≡ true → elements_complete b (Some service) ≡ true → NumbersRanged a b service
numbers-ranged a b service e f =
    let p = pick-then (digits_in_range 0 a) _ false true no_true e in
    let q = pick-then (digits_in_range 0 b) _ false true no_true p.1 in
    let r = pick-then (ltb 0 (get_or b 0 0)) true false true no_true f in
    record {
      range_a = p.0;
      range_b = digits-other b 0 1 q.0 (ltb-true 0 (get_or b 0 0) r.0);
      most_a = (digits-few a 0 p.0).1;
      most_b = (digits-few b 0 q.0).1;
      most_service = ltb-true service 16384 q.1;
    }

pub elements-few : (a b : List ℕ) (service : Option ℕ) → elements_in_range a b service ≡ true → (get_or a 0 0 ≤ 15) × (get_or b 0 0 ≤ 15)
elements-few a b service e =
    let p = pick-then (digits_in_range 0 a) _ false true no_true e in
    let q = pick-then (digits_in_range 0 b) _ false true no_true p.1 in
    ((digits-few a 0 p.0).1, (digits-few b 0 q.0).1)

pub never-absent : (b : List ℕ) → elements_complete b None ≡ true → ⊥
never-absent b e = no_true (pick-then (ltb 0 (get_or b 0 0)) false false true no_true e).1

pub numbers-length :
    (a b : List ℕ) (service : ℕ) → length a ≡ 16 → length b ≡ 16 → get_or a 0 0 ≤ 15 → get_or b 0 0 ≤ 15 →
    length (element_bytes a b (Some service)) ≡ (get_or a 0 0 + 1) + ((get_or b 0 0 + 1) + length (number_bytes service))
numbers-length a b service la lb ha hb =
    length-append (digits_bytes a) (digits_bytes b ++ number_bytes service)
    ∙ rw (digits-length a la ha, length-append (digits_bytes b) (number_bytes service), digits-length b lb hb)

elements-most : (a b : List ℕ) (service : Option ℕ) → length a ≡ 16 → length b ≡ 16 → elements_in_range a b service ≡ true → elements_complete b service ≡ true → length (element_bytes a b service) ≤ 35
elements-most a b None la lb e f = absurd (never-absent b f)
elements-most a b (Some service) la lb e f =
    let r = numbers-ranged a b service e f in
    omega (arith, numbers-length a b service la lb r.most_a r.most_b, r.most_a, r.most_b, number-length service)

-- a message that can be written: by whether it has elements
pub writable_parts : (m : Message) → writable m ≡ true → (in_range m ≡ true) × (complete m ≡ true)
unfolding writable
writable_parts m e = pick-then (in_range m) (complete m) false true no_true e

pub writable-elements :
    (m : Message) → writable m ≡ true → has_elements m.body m.carrier ≡ true →
    (elements_in_range m.numberA m.numberB m.service ≡ true) × (elements_complete m.numberB m.service ≡ true)
unfolding in_range complete
writable-elements m e h = let p = writable_parts m e in (rw h at p.0, rw h at p.1)

pub writable-fields : (m : Message) → writable m ≡ true → has_elements m.body m.carrier ≡ false → fields_in_range m.numberA m.numberB m.body ≡ true
unfolding in_range
writable-fields m e h = rw h at (writable_parts m e).0

pub elements-writable :
    (m : Message) → has_elements m.body m.carrier ≡ true → elements_in_range m.numberA m.numberB m.service ≡ true →
    elements_complete m.numberB m.service ≡ true → writable m ≡ true
unfolding writable in_range complete
elements-writable m h e f = rw (h, e, f)

pub fields-writable : (m : Message) → has_elements m.body m.carrier ≡ false → fields_in_range m.numberA m.numberB m.body ≡ true → writable m ≡ true
unfolding writable in_range complete
fields-writable m h e = rw (h, e)

pub fields-most : (m : Message) → length m.numberA ≡ 16 → length m.numberB ≡ 16 → writable m ≡ true → length (fields_of m) ≤ 35
fields-most m la lb e =
    pick_elim (λ (bytes : List ℕ). length bytes ≤ 35) (has_elements m.body m.carrier)
    (λ t. let p = writable-elements m e t in elements-most m.numberA m.numberB m.service la lb p.0 p.1)
    (λ t. fields-length m.numberA m.numberB m.body la lb (writable-fields m e t))

-- ---- the bytes of a message
pub message-bytes : (m : Message) → message_bytes m ≡ typeNumber m.body ∷ carrier_number m.carrier ∷ (identifier_bytes m.identified m.identifier ++ fields_of m)
unfolding message_bytes
message-bytes m =
    let t = type-range m.body in
    let k = carrier-range m.carrier in
    rw (small_bytes (typeNumber m.body) (omega arith), small_bytes (carrier_number m.carrier) (omega arith))

-- the identifier takes 17 bytes, or one where there is none
pub identifier-length : (identified : Bool) (identifier : List ℕ) → length identifier ≡ 16 → length (identifier_bytes identified identifier) ≡ pick identified 17 1
identifier-length true identifier l = rw l
identifier-length false identifier l = refl

pub identifier-few : (identified : Bool) → (1 ≤ pick identified 17 1) × (pick identified 17 1 ≤ 17)
identifier-few true = omega arith
identifier-few false = omega arith

pub message-length : (m : Message) → length m.identifier ≡ 16 → length (message_bytes m) ≡ 2 + (pick m.identified 17 1 + length (fields_of m))
message-length m l = rw (message-bytes m, length-append (identifier_bytes m.identified m.identifier), identifier-length m.identified m.identifier l) (omega arith)
