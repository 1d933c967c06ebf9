-- Equality of messages as document 01 and request 1 say it: of type, carrier, identifier or its absence, and the type's own fields; places behind the last digit don't count.
use Rattle.std.specs.Prelude.{ℕ, ◌≡◌, Bool, true, List, [], ◌∷◌, get_or, take, drop, replicate, length, Option, None}
use Rattle.lists.specs.Choice.{pick}
use Rattle.message.specs.Number.{digits_bytes, sixteen}
use Rattle.message.specs.Format.{has_elements}
use Rattle.message.specs.declared.Carrier.{Carrier}
use Rattle.message.specs.declared.Body.{Body}
use Rattle.message.specs.declared.Body.TheVariants.{CcbsRequest, CcnrRequest, RequestResult, RequestError, CcExecPossible, CcRingout, RingoutError, CcSuspend, CcResume, CcCancel, CallAlerts, CallFailed}
use Rattle.message.specs.declared.Message.{Message}

-- the digits of a number: as many as its length says
abbrev pub digits_of : List ℕ → List ℕ
digits_of number = take (get_or number 0 0) (drop 1 number)

abbrev pub for_request : {A : Type 0} → Body → A → A → A
for_request (CcbsRequest flags service) has lacks = has
for_request (CcnrRequest flags service) has lacks = has
for_request (RequestResult keep) has lacks = lacks
for_request (RequestError error) has lacks = lacks
for_request CcExecPossible has lacks = lacks
for_request CcRingout has lacks = lacks
for_request (RingoutError error) has lacks = lacks
for_request CcSuspend has lacks = lacks
for_request CcResume has lacks = lacks
for_request CcCancel has lacks = lacks
for_request CallAlerts has lacks = lacks
for_request CallFailed has lacks = lacks

-- the two requests have numbers of digits, and so has what has elements
abbrev pub with_numbers : {A : Type 0} → Body → Carrier → A → A → A
with_numbers body carrier has lacks = pick (has_elements body carrier) has (for_request body has lacks)

abbrev pub numbers_of : Message → List (List ℕ)
numbers_of m = with_numbers m.body m.carrier (digits_of m.numberA ∷ digits_of m.numberB ∷ []) []

-- the body holds the type and its numbers
pub record Same (m n : Message) : Type 0 where
  pub carrier : m.carrier ≡ n.carrier
  pub identified : m.identified ≡ n.identified
  pub identifier : m.identified ≡ true → m.identifier ≡ n.identifier
  pub body : m.body ≡ n.body
  pub numbers : numbers_of m ≡ numbers_of n
  pub service : has_elements m.body m.carrier ≡ true → m.service ≡ n.service

-- the one message, among those that are the same, that the reader makes: 0 in every place that doesn't count
abbrev pub normal_identifier : Bool → List ℕ → List ℕ
normal_identifier identified identifier = pick identified identifier (replicate 16 0)

abbrev pub normal_number : Body → Carrier → List ℕ → List ℕ
normal_number body carrier number = with_numbers body carrier (sixteen (digits_bytes number)) (replicate 16 0)

abbrev pub normal_service : Body → Carrier → Option ℕ → Option ℕ
normal_service body carrier service = pick (has_elements body carrier) service None

unfoldable pub normal : Message → Message
normal m =
    record {
      carrier = m.carrier;
      identified = m.identified;
      identifier = normal_identifier m.identified m.identifier;
      numberA = normal_number m.body m.carrier m.numberA;
      numberB = normal_number m.body m.carrier m.numberB;
      service = normal_service m.body m.carrier m.service;
      body = m.body;
    }

-- what a value of the code's type has: each of its arrays has sixteen places
pub record Formed (m : Message) : Type 0 where
  pub identifier : length m.identifier ≡ 16
  pub numberA : length m.numberA ≡ 16
  pub numberB : length m.numberB ≡ 16
