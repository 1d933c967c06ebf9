-- Which record is meant at the line desk (document 02, Ask 1): by its identifier (a), by the elements of a message in Setup (b), or by the place that the host names (c).
use Rattle.lists.specs.declared.words.Words.{Words}
use Rattle.std.specs.Prelude.{ℕ, Bool, true, false, List, get_or, eqb, Option, Some, None}
use Rattle.lists.specs.Choice.{pick}
use Rattle.lists.specs.Lists.{both}
use Rattle.message.specs.Format.{has_elements}
use Rattle.message.specs.declared.Body.{Body}
use Rattle.message.specs.declared.Body.TheVariants.{CcbsRequest, CcnrRequest, RequestResult, RequestError, CcExecPossible, CcRingout, RingoutError, CcSuspend, CcResume, CcCancel, CallAlerts, CallFailed}
use Rattle.desk.specs.declared.letter.Letter.{Letter}
use Rattle.terms.specs.Means.{fits, oldest}
use Rattle.terms.specs.Request.{letter_names}
use Rattle.terms.specs.declared.means.Means.{Means}
use Rattle.terms.specs.declared.means.Means.TheVariants.{Nothing, At}
use Rattle.terms.specs.declared.request.Name.{Name}
use Rattle.terms.specs.declared.request.Names.{Names}
use Rattle.store.specs.declared.For.{For}
use Rattle.store.specs.declared.For.TheVariants.{Every, State}
use Rattle.line_table.specs.Search.{used}
use Rattle.line_table.specs.declared.table.State.TheVariants.{Await}
use Rattle.line_table.specs.declared.record.Record.{Record}
use Rattle.line_records.specs.Codes.{state_code}
use Rattle.line_records.specs.Records.{blank, meant}

-- ---- (a) the record with the identifier, whatever its elements and state
abbrev pub identifier_means : Option Words → List Record → Option ℕ
identifier_means None rs = None
identifier_means (Some identifier) rs = meant identifier rs

-- ---- (b) the oldest record that fits, in a state that the message is for: types 6 and 9 Await, 10 every state. Type 5 is for the clerk's end, and no other can fit
abbrev pub is_for_await : Body → Bool
is_for_await (CcbsRequest flags service) = false
is_for_await (CcnrRequest flags service) = false
is_for_await (RequestResult keep) = false
is_for_await (RequestError error) = false
is_for_await CcExecPossible = false
is_for_await CcRingout = true
is_for_await (RingoutError error) = false
is_for_await CcSuspend = false
is_for_await CcResume = true
is_for_await CcCancel = false
is_for_await CallAlerts = false
is_for_await CallFailed = false

abbrev pub states_for : Body → For
states_for body = pick (is_for_await body) (State (state_code Await)) Every

abbrev pub fitting : Names → Record → Bool
fitting names r = both (used r) (fits names r.terms)

abbrev pub in_states : For → ℕ → Bool
in_states Every code = true
in_states (State word) code = eqb code word

abbrev pub is_for : Body → Record → Bool
is_for body r = in_states (states_for body) (state_code r.state)

unfoldable pub elements_mean : Letter → List Record → Means
elements_mean l rs = oldest (fitting (letter_names l)) (is_for l.body) rs

-- ---- (c) the record at the named place; with an identifier the place is not looked at
abbrev pub place_means : Option Words → ℕ → List Record → Means
place_means None place rs = pick (used (get_or rs place blank)) (At place) Nothing
place_means (Some identifier) place rs = Nothing

-- ---- one after the other
abbrev pub or_else : Option ℕ → Means → Means
or_else (Some i) otherwise = At i
or_else None otherwise = otherwise

-- a message
unfoldable pub meaning : Letter → ℕ → List Record → Means
meaning l place rs =
    or_else (identifier_means l.identifier rs)
    (pick (has_elements l.body l.carrier)
    (elements_mean l rs)
    (place_means l.identifier place rs))

-- an act, or the guard reported
unfoldable pub named : Name → List Record → Means
named name rs = or_else (identifier_means name.identifier rs) (place_means name.identifier name.place rs)
