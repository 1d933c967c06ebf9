-- The message as the reader's private functions look at it: its head, then whether it has numbers, then what stands there. proofs/PartsLaws.antt ties both to the message.
use Rattle.std.specs.Prelude.{ℕ, Bool, true, List, eqb}
use Rattle.lists.specs.Choice.{pick}
use Rattle.message.specs.Reading.{Read, took, and_then}
use Rattle.message.specs.Number.{field_at, digits_at}
use Rattle.message.specs.Format.{has_elements}
use Rattle.message.specs.Wire.{carrier_of, identified_at, identifier_at, Fields, request_tail, elements_tail, plain_at, one_number}
use Rattle.message.specs.declared.Carrier.{Carrier}
use Rattle.message.specs.declared.Kind.TheVariants.{Ccbs, Ccnr}
use Rattle.message.specs.declared.Body.{Body}
use Rattle.message.specs.declared.Body.TheVariants.{RequestResult, RequestError, CcExecPossible, CcRingout, RingoutError, CcSuspend, CcResume, CcCancel, CallAlerts, CallFailed}
use Rattle.reader.specs.declared.Head.{Head}
use Rattle.reader.specs.declared.Tail.{Tail}
use Rattle.reader.specs.declared.Tail.TheVariants.{Request, Elements}

-- ---- the head
unfoldable pub carrier_at : List ℕ → ℕ → Read Carrier
carrier_at s at = and_then (field_at s at 1 5) (λ n next. took (carrier_of n) next)

unfoldable pub head_behind : ℕ → Carrier → List ℕ → ℕ → Read Head
head_behind type carrier s place =
    and_then (identified_at s place) (λ identified at.
    and_then (identifier_at identified s at) (λ identifier from.
    took (record { typeNumber = type; carrier = carrier; identified = identified; at = at }) from))

unfoldable pub head_at : List ℕ → Read Head
head_at s =
    and_then (field_at s 0 1 12) (λ type next.
    and_then (carrier_at s next) (λ carrier behind.
    head_behind type carrier s behind))

-- ---- the fields
abbrev pub tail_at : Tail → List ℕ → ℕ → ℕ → Read Fields
tail_at (Request kind) s behindA behindB = request_tail kind s behindA behindB
tail_at (Elements body) s behindA behindB = elements_tail body s behindA behindB

unfoldable pub numbers_at : Tail → List ℕ → ℕ → Read Fields
numbers_at has s at =
    and_then (digits_at s at 0) (λ a behindA.
    and_then (digits_at s behindA 1) (λ b behindB.
    tail_at has s behindA behindB))

unfoldable pub bare_body : ℕ → Body
bare_body type =
    pick (eqb type 5) CcExecPossible
    (pick (eqb type 6) CcRingout
    (pick (eqb type 8) CcSuspend
    (pick (eqb type 9) CcResume
    (pick (eqb type 10) CcCancel
    (pick (eqb type 11) CallAlerts
    CallFailed)))))

unfoldable pub has_numbers : ℕ → Carrier → Bool
has_numbers type carrier = pick (eqb type 1) true (pick (eqb type 2) true (has_elements (bare_body type) carrier))

unfoldable pub tail_of : ℕ → Tail
tail_of type = pick (eqb type 1) (Request Ccbs) (pick (eqb type 2) (Request Ccnr) (Elements (bare_body type)))

unfoldable pub own_at : ℕ → List ℕ → ℕ → Read Fields
own_at type s at =
    pick (eqb type 3) (one_number RequestResult s at 0 1)
    (pick (eqb type 4) (one_number RequestError s at 1 2)
    (pick (eqb type 7) (one_number RingoutError s at 1 2)
    (plain_at at (bare_body type) at)))
