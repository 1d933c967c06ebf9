-- Reading one message from the front of some bytes (document 01, "Messages and carriers", and request 1; first fault from the left).
use Rattle.std.specs.Prelude.{ℕ, ◌+◌, ◌-◌, Bool, true, false, List, length, take, drop, replicate, ltb, eqb, Option, Some, None}
use Rattle.lists.specs.Choice.{pick}
use Rattle.message.specs.Reading.{Read, took, and_then, wrong_at, ended_in}
use Rattle.message.specs.Number.{number_at, field_at, digits_at, sixteen}
use Rattle.message.specs.Format.{request_body, has_elements}
use Rattle.message.specs.declared.refusal.Refusal.TheVariants.{OutOfRange}
use Rattle.message.specs.declared.Carrier.{Carrier}
use Rattle.message.specs.declared.Carrier.TheVariants.{Setup, Connect, Facility, ReleaseComplete, Alerting}
use Rattle.message.specs.declared.Kind.{Kind}
use Rattle.message.specs.declared.Kind.TheVariants.{Ccbs, Ccnr}
use Rattle.message.specs.declared.Body.{Body}
use Rattle.message.specs.declared.Body.TheVariants.{RequestResult, RequestError, CcExecPossible, CcRingout, RingoutError, CcSuspend, CcResume, CcCancel, CallAlerts, CallFailed}
use Rattle.message.specs.declared.Message.{Message}

-- the carrier of a number from 1 to 5
unfoldable pub carrier_of : ℕ → Carrier
carrier_of n =
    pick (eqb n 1) Setup
    (pick (eqb n 2) Connect
    (pick (eqb n 3) Facility
    (pick (eqb n 4) ReleaseComplete
    Alerting)))

-- whether there is an identifier: its length, a number, is 16 or 0. Any other is at fault itself
unfoldable pub identified_at : List ℕ → ℕ → Read Bool
identified_at s at =
    and_then (number_at s at) (λ length next.
    pick (eqb length 16) (took true next)
    (pick (eqb length 0) (took false next)
    (wrong_at OutOfRange at)))

-- 16 raw bytes, where there is one
unfoldable pub identifier_at : Bool → List ℕ → ℕ → Read (List ℕ)
identifier_at identified s at =
    pick identified (pick (ltb (length s) (at + 16)) (ended_in s) (took (take 16 (drop at s)) (at + 16)))
    (took (replicate 16 0) at)

-- the fields of a message that stand from a place on: the places behind numberA and behind numberB, the service where it is an element, and the body
pub record Fields : Type 0 where
  pub behindA : ℕ
  pub behindB : ℕ
  pub service : Option ℕ
  pub body : Body

-- numberA, numberB, service, flags
unfoldable pub request_tail : Kind → List ℕ → ℕ → ℕ → Read Fields
request_tail kind s behindA behindB =
    and_then (field_at s behindB 0 16383) (λ service next.
    and_then (field_at s next 0 5) (λ flags behind.
    took (record { behindA = behindA; behindB = behindB; service = None; body = request_body kind service flags }) behind))

unfoldable pub request_at : Kind → List ℕ → ℕ → Read Fields
request_at kind s at =
    and_then (digits_at s at 0) (λ a behindA.
    and_then (digits_at s behindA 1) (λ b behindB.
    request_tail kind s behindA behindB))

-- numberA, numberB, service
unfoldable pub elements_tail : Body → List ℕ → ℕ → ℕ → Read Fields
elements_tail body s behindA behindB =
    and_then (field_at s behindB 0 16383) (λ service behind.
    took (record { behindA = behindA; behindB = behindB; service = Some service; body = body }) behind)

unfoldable pub elements_at : Body → List ℕ → ℕ → Read Fields
elements_at body s at =
    and_then (digits_at s at 0) (λ a behindA.
    and_then (digits_at s behindA 1) (λ b behindB.
    elements_tail body s behindA behindB))

-- a body without numbers of digits
abbrev pub plain_at : ℕ → Body → ℕ → Read Fields
plain_at at body next = took (record { behindA = at; behindB = at; service = None; body = body }) next

-- a type without fields of its own: elements where it has them, or nothing
abbrev pub bare_at : Body → Carrier → List ℕ → ℕ → Read Fields
bare_at body carrier s at = pick (has_elements body carrier) (elements_at body s at) (plain_at at body at)

-- one number, within its range
abbrev pub one_number : (ℕ → Body) → List ℕ → ℕ → ℕ → ℕ → Read Fields
one_number make s at low high = and_then (field_at s at low high) (λ value next. plain_at at (make value) next)

-- the fields of each type
unfoldable pub fields_at : ℕ → Carrier → List ℕ → ℕ → Read Fields
fields_at type carrier s at =
    pick (eqb type 1) (request_at Ccbs s at)
    (pick (eqb type 2) (request_at Ccnr s at)
    (pick (eqb type 3) (one_number RequestResult s at 0 1)
    (pick (eqb type 4) (one_number RequestError s at 1 2)
    (pick (eqb type 5) (bare_at CcExecPossible carrier s at)
    (pick (eqb type 6) (bare_at CcRingout carrier s at)
    (pick (eqb type 7) (one_number RingoutError s at 1 2)
    (pick (eqb type 8) (bare_at CcSuspend carrier s at)
    (pick (eqb type 9) (bare_at CcResume carrier s at)
    (pick (eqb type 10) (bare_at CcCancel carrier s at)
    (pick (eqb type 11) (bare_at CallAlerts carrier s at)
    (bare_at CallFailed carrier s at)))))))))))

-- the bytes between two places, kept in sixteen
abbrev pub between : List ℕ → ℕ → ℕ → List ℕ
between s from to = sixteen (take (to - from) (drop from s))

abbrev pub message_with : Carrier → Bool → List ℕ → List ℕ → ℕ → Fields → Message
message_with carrier identified identifier s at fields =
    record {
      carrier = carrier;
      identified = identified;
      identifier = identifier;
      numberA = between s at fields.behindA;
      numberB = between s fields.behindA fields.behindB;
      service = fields.service;
      body = fields.body;
    }

-- identifier and fields, behind type and carrier
unfoldable pub behind_identified : ℕ → Carrier → Bool → List ℕ → ℕ → Read Message
behind_identified type carrier identified s at =
    and_then (identifier_at identified s at) (λ identifier next.
    and_then (fields_at type carrier s next) (λ fields behind.
    took (message_with carrier identified identifier s next fields) behind))

unfoldable pub behind_head : ℕ → Carrier → List ℕ → ℕ → Read Message
behind_head type carrier s at = and_then (identified_at s at) (λ identified next. behind_identified type carrier identified s next)

-- one message from the front
unfoldable pub message_at : List ℕ → Read Message
message_at s =
    and_then (field_at s 0 1 12) (λ type next.
    and_then (field_at s next 1 5) (λ carrier behind.
    behind_head type (carrier_of carrier) s behind))
