-- Document 01, "Messages and carriers", and request 1: the numbers of types and carriers, which messages have elements, the range of each field, the bytes of a message.
use Rattle.std.specs.Prelude.{ℕ, Bool, true, false, List, [], ◌++◌, get_or, ltb, Option, Some, None}
use Rattle.lists.specs.Choice.{pick}
use Rattle.message.specs.Number.{number_bytes, digits_bytes, digits_in_range}
use Rattle.message.specs.declared.Carrier.{Carrier}
use Rattle.message.specs.declared.Carrier.TheVariants.{Setup, Connect, Facility, ReleaseComplete, Alerting}
use Rattle.message.specs.declared.Kind.{Kind}
use Rattle.message.specs.declared.Kind.TheVariants.{Ccbs, Ccnr}
use Rattle.message.specs.declared.Body.{Body}
use Rattle.message.specs.declared.Body.TheVariants.{CcbsRequest, CcnrRequest, RequestResult, RequestError, CcExecPossible, CcRingout, RingoutError, CcSuspend, CcResume, CcCancel, CallAlerts, CallFailed}
use Rattle.message.specs.declared.Message.{Message}

abbrev pub request_body : Kind → ℕ → ℕ → Body
request_body Ccbs service flags = CcbsRequest flags service
request_body Ccnr service flags = CcnrRequest flags service

abbrev pub typeNumber : Body → ℕ
typeNumber (CcbsRequest flags service) = 1
typeNumber (CcnrRequest flags service) = 2
typeNumber (RequestResult keep) = 3
typeNumber (RequestError error) = 4
typeNumber CcExecPossible = 5
typeNumber CcRingout = 6
typeNumber (RingoutError error) = 7
typeNumber CcSuspend = 8
typeNumber CcResume = 9
typeNumber CcCancel = 10
typeNumber CallAlerts = 11
typeNumber CallFailed = 12

abbrev pub carrier_number : Carrier → ℕ
carrier_number Setup = 1
carrier_number Connect = 2
carrier_number Facility = 3
carrier_number ReleaseComplete = 4
carrier_number Alerting = 5

-- ---- request 1: types 5, 6, 9 and 10 in Setup have the elements numberA, numberB and service, by which a record can be found. Said here alone
abbrev pub in_setup : Carrier → Bool
in_setup Setup = true
in_setup Connect = false
in_setup Facility = false
in_setup ReleaseComplete = false
in_setup Alerting = false

abbrev pub has_elements : Body → Carrier → Bool
has_elements (CcbsRequest flags service) carrier = false
has_elements (CcnrRequest flags service) carrier = false
has_elements (RequestResult keep) carrier = false
has_elements (RequestError error) carrier = false
has_elements CcExecPossible carrier = in_setup carrier
has_elements CcRingout carrier = in_setup carrier
has_elements (RingoutError error) carrier = false
has_elements CcSuspend carrier = false
has_elements CcResume carrier = in_setup carrier
has_elements CcCancel carrier = in_setup carrier
has_elements CallAlerts carrier = false
has_elements CallFailed carrier = false

-- ---- the range of each field. Of a request: numberA may be withheld, numberB not; service 0 to 16383, flags 0 to 5
abbrev pub request_in_range : List ℕ → List ℕ → ℕ → ℕ → Bool
request_in_range numberA numberB service flags =
    pick (digits_in_range 0 numberA) (pick (digits_in_range 1 numberB) (pick (ltb service 16384) (ltb flags 6) false) false) false

-- 1 or 2
abbrev pub error_in_range : ℕ → Bool
error_in_range error = pick (ltb 0 error) (ltb error 3) false

abbrev pub fields_in_range : List ℕ → List ℕ → Body → Bool
fields_in_range a b (CcbsRequest flags service) = request_in_range a b service flags
fields_in_range a b (CcnrRequest flags service) = request_in_range a b service flags
fields_in_range a b (RequestResult keep) = ltb keep 2
fields_in_range a b (RequestError error) = error_in_range error
fields_in_range a b CcExecPossible = true
fields_in_range a b CcRingout = true
fields_in_range a b (RingoutError error) = error_in_range error
fields_in_range a b CcSuspend = true
fields_in_range a b CcResume = true
fields_in_range a b CcCancel = true
fields_in_range a b CallAlerts = true
fields_in_range a b CallFailed = true

-- of elements: each may be absent, a number of digits by having none
abbrev pub service_in_range : Option ℕ → Bool
service_in_range None = true
service_in_range (Some service) = ltb service 16384

abbrev pub elements_in_range : List ℕ → List ℕ → Option ℕ → Bool
elements_in_range numberA numberB service = pick (digits_in_range 0 numberA) (pick (digits_in_range 0 numberB) (service_in_range service) false) false

unfoldable pub in_range : Message → Bool
in_range m =
    pick (has_elements m.body m.carrier) (elements_in_range m.numberA m.numberB m.service)
    (fields_in_range m.numberA m.numberB m.body)

-- ---- the byte form has no way to say that numberB or service is absent
abbrev pub is_given : Option ℕ → Bool
is_given None = false
is_given (Some service) = true

abbrev pub elements_complete : List ℕ → Option ℕ → Bool
elements_complete numberB service = pick (ltb 0 (get_or numberB 0 0)) (is_given service) false

unfoldable pub complete : Message → Bool
complete m = pick (has_elements m.body m.carrier) (elements_complete m.numberB m.service) true

-- what the writer takes
unfoldable pub writable : Message → Bool
writable m = pick (in_range m) (complete m) false

-- ---- the bytes of a message: type, carrier, how long the identifier is, the identifier's bytes raw, then the fields
abbrev pub identifier_bytes : Bool → List ℕ → List ℕ
identifier_bytes identified identifier = pick identified (number_bytes 16 ++ identifier) (number_bytes 0)

abbrev pub request_bytes : List ℕ → List ℕ → ℕ → ℕ → List ℕ
request_bytes numberA numberB service flags = digits_bytes numberA ++ (digits_bytes numberB ++ (number_bytes service ++ number_bytes flags))

abbrev pub field_bytes : List ℕ → List ℕ → Body → List ℕ
field_bytes a b (CcbsRequest flags service) = request_bytes a b service flags
field_bytes a b (CcnrRequest flags service) = request_bytes a b service flags
field_bytes a b (RequestResult keep) = number_bytes keep
field_bytes a b (RequestError error) = number_bytes error
field_bytes a b CcExecPossible = []
field_bytes a b CcRingout = []
field_bytes a b (RingoutError error) = number_bytes error
field_bytes a b CcSuspend = []
field_bytes a b CcResume = []
field_bytes a b CcCancel = []
field_bytes a b CallAlerts = []
field_bytes a b CallFailed = []

-- elements go as a request's numbers and service
abbrev pub service_bytes : Option ℕ → List ℕ
service_bytes None = []
service_bytes (Some service) = number_bytes service

abbrev pub element_bytes : List ℕ → List ℕ → Option ℕ → List ℕ
element_bytes numberA numberB service = digits_bytes numberA ++ (digits_bytes numberB ++ service_bytes service)

abbrev pub fields_of : Message → List ℕ
fields_of m =
    pick (has_elements m.body m.carrier) (element_bytes m.numberA m.numberB m.service)
    (field_bytes m.numberA m.numberB m.body)

unfoldable pub message_bytes : Message → List ℕ
message_bytes m =
    number_bytes (typeNumber m.body) ++ (number_bytes (carrier_number m.carrier) ++ (identifier_bytes m.identified m.identifier ++ fields_of m))
