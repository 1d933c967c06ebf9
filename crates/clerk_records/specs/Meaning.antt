-- Which record is meant at the clerk's desk (document 02, Ask 1): by its identifier (a), by the elements of a message in Setup (b), or by the place that the host names (c).
use Rattle.lists.specs.declared.words.Words.{Words}
use Rattle.std.specs.Prelude.{ℕ, Bool, true, List, eqb, get_or, Option, Some, None}
use Rattle.lists.specs.Choice.{pick}
use Rattle.lists.specs.Lists.{both}
use Rattle.message.specs.Format.{has_elements}
use Rattle.message.specs.declared.Body.{Body}
use Rattle.message.specs.declared.Body.TheVariants.{CcbsRequest, CcnrRequest, RequestResult, RequestError, CcExecPossible, CcRingout, RingoutError, CcSuspend, CcResume, CcCancel, CallAlerts, CallFailed}
use Rattle.desk.specs.declared.letter.Letter.{Letter}
use Rattle.terms.specs.Means.{fits, oldest}
use Rattle.terms.specs.Request.{letter_names}
use Rattle.terms.specs.declared.means.Means.{Means}
use Rattle.terms.specs.declared.means.Means.TheVariants.{Nothing, At}
use Rattle.terms.specs.declared.request.Name.{Name}
use Rattle.terms.specs.declared.request.Names.{Names}
use Rattle.store.specs.declared.For.{For}
use Rattle.store.specs.declared.For.TheVariants.{Every, State}
use Rattle.clerk_table.specs.Table.{state_code}
use Rattle.clerk_table.specs.Inputs.{names_of}
use Rattle.clerk_table.specs.declared.inputs.Input.{Input}
use Rattle.clerk_table.specs.declared.table.State.TheVariants.{Invoked}
use Rattle.clerk_table.specs.declared.record.Record.{Record}
use Rattle.clerk_records.specs.Records.{blank, used, meant}

-- ---- (a) the record with the identifier, whatever its elements and state
abbrev pub identifier_means : Option Words → List Record → Option ℕ
identifier_means None rs = None
identifier_means (Some identifier) rs = meant identifier rs

-- ---- (b) the oldest record that fits, in a state that the message is for: type 5 Invoked, 10 every state. Types 6 and 9 are for the line's end, and no other can fit
abbrev pub states_for : Body → For
states_for (CcbsRequest flags service) = Every
states_for (CcnrRequest flags service) = Every
states_for (RequestResult keep) = Every
states_for (RequestError error) = Every
states_for CcExecPossible = State (state_code Invoked)
states_for CcRingout = Every
states_for (RingoutError error) = Every
states_for CcSuspend = Every
states_for CcResume = Every
states_for CcCancel = Every
states_for CallAlerts = Every
states_for CallFailed = Every

abbrev pub fitting : Names → Record → Bool
fitting names r = both (used r) (fits names r.terms)

abbrev pub in_states : For → ℕ → Bool
in_states Every word = true
in_states (State own) word = eqb word own

abbrev pub is_for : Body → Record → Bool
is_for body r = in_states (states_for body) (state_code r.state)

unfoldable pub elements_mean : Letter → List Record → Means
elements_mean l rs = oldest (fitting (letter_names l)) (is_for l.body) rs

-- ---- (c) the record at the named place; with an identifier the place is not looked at
abbrev pub place_means : Option Words → ℕ → List Record → Means
place_means None place rs = pick (used (get_or rs place blank)) (At place) Nothing
place_means (Some identifier) place rs = Nothing

-- ---- one after the other
abbrev pub or_else : Option ℕ → Means → Means
or_else (Some i) otherwise = At i
or_else None otherwise = otherwise

-- a message
unfoldable pub meaning : Letter → ℕ → List Record → Means
meaning l place rs =
    or_else (identifier_means l.identifier rs)
    (pick (has_elements l.body l.carrier)
    (elements_mean l rs)
    (place_means l.identifier place rs))

-- an act, or a timer reported
unfoldable pub named : Name → List Record → Means
named name rs = or_else (identifier_means name.identifier rs) (place_means name.identifier name.place rs)

-- ---- every input: by the identifier that it names; otherwise a message by its elements or its place, an act or a timer by its place, an ask by nothing
abbrev pub otherwise : Input → List Record → Means
otherwise (Input.Ask names q) rs = Nothing
otherwise (Input.Message l busy place) rs = pick (has_elements l.body l.carrier) (elements_mean l rs) (place_means l.identifier place rs)
otherwise (Input.Act name act) rs = place_means name.identifier name.place rs
otherwise (Input.Timer name timer) rs = place_means name.identifier name.place rs

unfoldable pub meant_by : Input → List Record → Means
meant_by input rs = or_else (identifier_means (names_of input).identifier rs) (otherwise input rs)
