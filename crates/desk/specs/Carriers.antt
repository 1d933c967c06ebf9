-- Document 01, "Messages and carriers", last column, with mend M5 (clause 8.2.1.6) and document 02, Ask 11: the carriers that a type is received in, and the one it is sent in.
use Rattle.std.specs.Prelude.{Bool, true, false}
use Rattle.message.specs.declared.Carrier.{Carrier}
use Rattle.message.specs.declared.Carrier.TheVariants as C
use Rattle.message.specs.declared.Body.{Body}
use Rattle.message.specs.declared.Body.TheVariants.{CcbsRequest, CcnrRequest, RequestResult, RequestError, CcExecPossible, CcRingout, RingoutError, CcSuspend, CcResume, CcCancel, CallAlerts, CallFailed}
use Rattle.desk.specs.declared.Connection.{Connection}
use Rattle.desk.specs.declared.Connection.TheVariants.{Empty, Ret, Rls}
use Rattle.desk.specs.declared.carriers.Allowed.{Allowed}

-- by the connection choice; an empty one, of a request or before the acknowledgment, reads as RLS
abbrev pub by_connection : {A : Type 0} → Connection → A → A → A
by_connection Empty retained released = released
by_connection Ret retained released = retained
by_connection Rls retained released = released

-- ---- the carriers that a type may be received in
abbrev pub only_setup : Allowed
only_setup = record { setup = true; connect = false; facility = false; releaseComplete = false; alerting = false }

abbrev pub only_release_complete : Allowed
only_release_complete = record { setup = false; connect = false; facility = false; releaseComplete = true; alerting = false }

-- Facility, or one that RLS is received in, Release Complete or Connect
abbrev pub facility_or_released : Allowed
facility_or_released = record { setup = false; connect = true; facility = true; releaseComplete = true; alerting = false }

abbrev pub connect_or_release_complete : Allowed
connect_or_release_complete = record { setup = false; connect = true; facility = false; releaseComplete = true; alerting = false }

abbrev pub setup_or_release_complete : Allowed
setup_or_release_complete = record { setup = true; connect = false; facility = false; releaseComplete = true; alerting = false }

abbrev pub facility_or_setup : Allowed
facility_or_setup = record { setup = true; connect = false; facility = true; releaseComplete = false; alerting = false }

abbrev pub alerting_or_connect : Allowed
alerting_or_connect = record { setup = false; connect = true; facility = false; releaseComplete = false; alerting = true }

-- 8.1.1.3 to 8.1.1.6, 8.1.2.4, 8.2.1.3 to 8.2.1.7, 8.2.2.1, 8.2.2.3. For a record that is RET either carrier is taken, that of RET and that of RLS: the other end may
-- have seen the connection fall first (Ask 11)
abbrev pub allowed_for : Body → Connection → Allowed
allowed_for (CcbsRequest flags service) connection = only_setup
allowed_for (CcnrRequest flags service) connection = only_setup
allowed_for (RequestResult keep) connection = connect_or_release_complete
allowed_for (RequestError error) connection = only_release_complete
allowed_for CcExecPossible connection = by_connection connection facility_or_setup only_setup
allowed_for CcRingout connection = only_setup
allowed_for (RingoutError error) connection = only_release_complete
allowed_for CcSuspend connection = by_connection connection facility_or_released connect_or_release_complete
allowed_for CcResume connection = by_connection connection facility_or_setup only_setup
allowed_for CcCancel connection = setup_or_release_complete
allowed_for CallAlerts connection = alerting_or_connect
allowed_for CallFailed connection = only_release_complete

abbrev pub takes : Allowed → Carrier → Bool
takes allowed C.Setup = allowed.setup
takes allowed C.Connect = allowed.connect
takes allowed C.Facility = allowed.facility
takes allowed C.ReleaseComplete = allowed.releaseComplete
takes allowed C.Alerting = allowed.alerting

unfoldable pub carrier_fits : Body → Connection → Carrier → Bool
carrier_fits body connection carrier = takes (allowed_for body connection) carrier

-- a record whose retained connection fell sends by the carriers of RLS; its connection choice stays
abbrev pub sends_as : Connection → Bool → Connection
sends_as Empty down = Empty
sends_as Ret true = Rls
sends_as Ret false = Ret
sends_as Rls down = Rls

-- a ccCancel goes in Release Complete for RET or before the acknowledgment, in Setup for RLS (8.1.1.6 a, 8.2.1.7 b)
abbrev pub cancel_in : Connection → Carrier
cancel_in Empty = C.ReleaseComplete
cancel_in Ret = C.ReleaseComplete
cancel_in Rls = C.Setup

abbrev pub sent_in : Body → Connection → Carrier
sent_in (CcbsRequest flags service) connection = C.Setup
sent_in (CcnrRequest flags service) connection = C.Setup
sent_in (RequestResult keep) connection = by_connection connection C.Connect C.ReleaseComplete
sent_in (RequestError error) connection = C.ReleaseComplete
sent_in CcExecPossible connection = by_connection connection C.Facility C.Setup
sent_in CcRingout connection = C.Setup
sent_in (RingoutError error) connection = C.ReleaseComplete
sent_in CcSuspend connection = by_connection connection C.Facility C.ReleaseComplete
sent_in CcResume connection = by_connection connection C.Facility C.Setup
sent_in CcCancel connection = cancel_in connection
sent_in CallAlerts connection = C.Alerting
sent_in CallFailed connection = C.ReleaseComplete
