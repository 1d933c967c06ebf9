-- The clerk's desk does what the reading says: its decisions on one record by cases, and then on the desk by the place of the record that is meant.
use Rattle.lists.specs.declared.words.Words.{Words}
use Rattle.std.specs.Prelude.{Option, Some, None}
use Prim.Native.Nat.{ℕ}
use mathlib.Core.Path.{◌≡◌, refl, sym, ap, ◌∙◌, subst}
use mathlib.Core.Bool.{Bool, true, false}
use mathlib.Core.Logic.{◌⊎◌, inl, inr}
use mathlib.Core.List.{List, [], ◌∷◌, map}
use lib.ListN.{get_or}
use native.Mathlib.Omega.{arith}
use Rattle.lists.specs.Choice.{pick}
use Rattle.lists.proofs.Choice.{pick_elim, no_true}
use Rattle.lists.proofs.Lists.{both_true}
use Rattle.message.specs.Format.{request_body, has_elements}
use Rattle.message.specs.declared.Body.{Body}
use Rattle.message.specs.declared.Body.TheVariants.{CcCancel}
use Rattle.message.specs.declared.Carrier.{Carrier}
use Rattle.message.specs.declared.Kind.{Kind}
use Rattle.message.specs.declared.Kind.TheVariants.{Ccbs, Ccnr}
use Rattle.message.specs.declared.refusal.Refusal.TheVariants.{NotHere, NoRecord, NoRow, NotInCarrier, NotRunning}
use Rattle.message.specs.declared.refusal.Refusal.{Refusal}
use Rattle.desk.specs.Carriers.{carrier_fits}
use Rattle.desk.specs.Letter.{message_of}
use Rattle.desk.specs.Sends.{plain_letter, answered}
use Rattle.desk.specs.declared.Connection.{Connection}
use Rattle.desk.specs.declared.letter.Letter.{Letter}
use Rattle.desk.specs.declared.sends.Elements.{Elements}
use Rattle.terms.specs.Terms.{elements_of}
use Rattle.terms.specs.Means.{fits, oldest}
use Rattle.terms.specs.Request.{letter_names}
use Rattle.terms.specs.declared.means.Means.{Means}
use Rattle.terms.specs.declared.request.Name.{Name}
use Rattle.terms.specs.declared.request.Names.{Names}
use Rattle.terms.specs.declared.request.Request.{Request}
use Rattle.places.specs.Places.{known_in, Held, none, one}
use Rattle.clerk_table.specs.Record.{refused_plan}
use Rattle.clerk_table.specs.Step.{changed, row_taken}
use Rattle.clerk_table.specs.Table.{effect_of, holds_in}
use Rattle.clerk_table.specs.Inputs.{names_of, message_for, row_for, row_of_act, row_of_timer, reply_unmatched, reply_in_setup, reply_unfit, settled, settled_by}
use Rattle.clerk_table.specs.declared.table.Row.{Row}
use Rattle.clerk_table.specs.declared.table.Home.TheVariants.{Always}
use Rattle.desk.specs.declared.plan.Next.{Next}
use Rattle.desk.specs.declared.plan.Next.TheVariants.{Gone, Same, To}
use Rattle.clerk_table.specs.declared.table.Timer.{Timer}
use Rattle.clerk_table.specs.declared.table.Timer.TheVariants.{T1, T2, T3}
use Rattle.clerk_table.specs.declared.record.Record.{Record}
use Rattle.clerk_table.specs.declared.record.Change.{Change}
use Rattle.clerk_table.specs.declared.record.Change.TheVariants.{Stay, Put, Turn, Remove}
use Rattle.clerk_table.specs.declared.record.Decision.{Decision}
use Rattle.clerk_table.specs.declared.record.Decision.TheVariants.{Refuse, Take, Store}
use Rattle.desk.specs.declared.plan.Plan.{Plan}
use Rattle.clerk_table.specs.declared.inputs.Act.{Act}
use Rattle.clerk_table.specs.declared.inputs.Input.{Input}
use Rattle.clerk_table.specs.declared.inputs.RecordMessage.{RecordMessage}
use Rattle.clerk_table.specs.declared.inputs.RecordMessage.TheVariants as Message
use Rattle.clerk_records.specs.Records.{blank, used, records, meant, place, turned, records_after}
use Rattle.clerk_records.specs.Meaning as Meaning
use Rattle.clerk_records.specs.Meaning.{identifier_means, fitting, is_for, elements_mean, meaning, named}
use Rattle.clerk_records.proofs.MeaningLaws.{named-used}
use Rattle.clerk.proofs.StepsLaws.{records-made}
use Rattle.clerk_plan.specs.Plan.{holds_for, ask_place, ask_found, record_decision, message_meant, own_found, decided, new_record, stored_plan, plan_of, plan_for}
use Rattle.clerk.specs.Entry.{ask_flags}
use Rattle.clerk.specs.Steps.{made}
use Rattle.clerk.specs.declared.Desk.{Desk}
use Rattle.clerk_sound.specs.Sound.{Reached}
use Rattle.pair_request.specs.Signal.{call_died, rejected}
use Rattle.pair_request.specs.Reading as R
use Rattle.pair_request.specs.Listed.{NotReq, NoReq}
use Rattle.pair.specs.World.{Of, clerk_change, storing, sent_by}
use Rattle.pair.proofs.Ends.{clerk_sight, clerk_state_read, waiting_record, live_record, clerk_read, conn_read, letter_read, set_of, message_read, ask_elements, data_of, ask_read, ClerkStep}
use Rattle.pair.proofs.Sits.{view, there, Its, not-one, the_one, Touches, by_turn, by_removal}
use Rattle.pair.proofs.Changes.{Own, stays, turns, stores, removes, own-did}
use Rattle.pair.proofs.Grounds.{clerk-full}
use Rattle.pair.proofs.Means.{or_else, place_means, meaning_in, own-fits, Meant, found, late, missed, no_longer}
use Rattle.pair.proofs.Letters.{letter-name, letter-body, letter-carrier, set-names, ask-letter}
use Rattle.clerk_table.specs.declared.table.State.{State}

-- ---- what a plan says of the one request that it is about
-- what a change leaves of the record that it is about
abbrev pub leaves : Change → Held Record → Held Record
leaves Stay before = before
leaves (Put i r) before = one r
leaves (Turn i t) none = none
leaves (Turn i t) (one r) = one (turned t r)
leaves (Remove i) before = none

-- it leaves and sends what an answer of the reading says
abbrev pub Says : Elements → Plan Change → Held Record → R.CAnswer → Type 0
Says j plan before answer =
    (leaves plan.change before ≡ clerk_read j answer.0) × (sent_by plan.outcome.sending ≡ map (message_read j) answer.1)

-- a plan by the record that it is about
abbrev plan_at : Input → Record → Decision → Plan Change
plan_at input r (Refuse refusal reply) = refused_plan refusal (answered (names_of input).identifier reply)
plan_at input r (Take i row) = row_taken i (settled_by input r) row
plan_at input r (Store i q) = stored_plan i (names_of input) q

-- ---- messages, by the record
abbrev pub heard : Elements → R.Msg → Bool → ℕ → Input
heard j m busy place = Input.Message (letter_read j m) busy place

abbrev pub take_decision : ℕ → Record → Letter → Bool → Option RecordMessage → Decision
take_decision i r l busy None = Refuse NotHere None
take_decision i r l busy (Some message) = record_decision i r l busy message

abbrev take_plan : ℕ → Record → Elements → R.Msg → Bool → Plan Change
take_plan i r j m busy = plan_at (heard j m busy 0) r (take_decision i r (letter_read j m) busy (message_for (letter_read j m).body))

-- a request is for the line
pub request-away : (kind : Kind) (service flags : ℕ) → message_for (request_body kind service flags) ≡ None
request-away Ccbs service flags = refl
request-away Ccnr service flags = refl

-- no record: a result and a ccExecPossible are replied to
absent-takes :
    (j : Elements) (rs : List Record) (m : R.Msg) (busy : Bool) →
    Says j (plan_of rs (heard j m busy 0) (message_meant rs (letter_read j m) busy Means.Nothing (message_for (letter_read j m).body))) none (R.clerk_takes R.absent m busy)
unfolding plan_of R.clerk_takes R.in_ringing
absent-takes j rs (R.request d kind q) busy = rw (request-away kind j.service (ask_flags d.canKeep q)) (refl, refl)
absent-takes j rs (R.result k n) busy = (refl, refl)
absent-takes j rs (R.denied short) busy = (refl, refl)
absent-takes j rs (R.exec R.ret) busy = (refl, refl)
absent-takes j rs (R.exec R.rls) busy = (refl, refl)
absent-takes j rs R.ringout busy = (refl, refl)
absent-takes j rs R.busy_again busy = (refl, refl)
absent-takes j rs R.no_match busy = (refl, refl)
absent-takes j rs (R.suspend n) busy = (refl, refl)
absent-takes j rs (R.resume R.ret) busy = (refl, refl)
absent-takes j rs (R.resume R.rls) busy = (refl, refl)
absent-takes j rs (R.cancel R.ret) busy = (refl, refl)
absent-takes j rs (R.cancel R.rls) busy = (refl, refl)
absent-takes j rs R.alerts busy = (refl, refl)
absent-takes j rs R.failed busy = (refl, refl)

-- whether a record is in a state that a message is for
abbrev pub ready_for : Elements → R.Msg → Record → Bool
ready_for j m r = is_for (letter_read j m).body r

-- some fit, none in a state that the message is for: 7, with the reply of 7, which is that of 6
module _ (j : Elements) (rs : List Record) (busy : Bool) where
  abbrev LatePlan : R.Msg → Plan Change
  LatePlan m = plan_of rs (heard j m busy 0) (message_meant rs (letter_read j m) busy Means.NotNow (message_for (letter_read j m).body))

  gone-takes : (m : R.Msg) → set_of j m ≡ true → Says j (LatePlan m) none (R.clerk_takes R.absent m busy)
  unfolding plan_of R.clerk_takes R.in_ringing
  gone-takes (R.request d kind q) set = rw (request-away kind j.service (ask_flags d.canKeep q)) (refl, refl)
  gone-takes (R.result k n) set = absurd (no_true set)
  gone-takes (R.denied short) set = absurd (no_true set)
  gone-takes (R.exec R.ret) set = absurd (no_true set)
  gone-takes (R.exec R.rls) set = (refl, refl)
  gone-takes R.ringout set = (refl, refl)
  gone-takes R.busy_again set = absurd (no_true set)
  gone-takes R.no_match set = absurd (no_true set)
  gone-takes (R.suspend n) set = absurd (no_true set)
  gone-takes (R.resume R.ret) set = absurd (no_true set)
  gone-takes (R.resume R.rls) set = (refl, refl)
  gone-takes (R.cancel R.ret) set = absurd (no_true set)
  gone-takes (R.cancel R.rls) set = (refl, refl)
  gone-takes R.alerts set = absurd (no_true set)
  gone-takes R.failed set = absurd (no_true set)

  waiting-late :
      (d : R.Data) (kind : Kind) (m : R.Msg) → set_of j m ≡ true → ready_for j m (waiting_record j d kind) ≡ false →
      Says j (LatePlan m) (one (waiting_record j d kind)) (R.clerk_takes (R.waiting d kind) m busy)
  unfolding plan_of R.clerk_takes R.in_ringing
  waiting-late d kind (R.request e kind' q) set ready = rw (request-away kind' j.service (ask_flags e.canKeep q)) (refl, refl)
  waiting-late d kind (R.result k n) set ready = absurd (no_true set)
  waiting-late d kind (R.denied short) set ready = absurd (no_true set)
  waiting-late d kind (R.exec R.ret) set ready = absurd (no_true set)
  waiting-late d kind (R.exec R.rls) set ready = (refl, refl)
  waiting-late d kind R.ringout set ready = (refl, refl)
  waiting-late d kind R.busy_again set ready = absurd (no_true set)
  waiting-late d kind R.no_match set ready = absurd (no_true set)
  waiting-late d kind (R.suspend n) set ready = absurd (no_true set)
  waiting-late d kind (R.resume R.ret) set ready = absurd (no_true set)
  waiting-late d kind (R.resume R.rls) set ready = (refl, refl)
  waiting-late d kind (R.cancel R.ret) set ready = absurd (no_true set)
  waiting-late d kind (R.cancel R.rls) set ready = absurd (no_true (sym ready))
  waiting-late d kind R.alerts set ready = absurd (no_true set)
  waiting-late d kind R.failed set ready = absurd (no_true set)

  live-late :
      (t : R.Terms) (own : R.Own) (s : R.CState) (m : R.Msg) → set_of j m ≡ true → ready_for j m (live_record j t own s) ≡ false →
      Says j (LatePlan m) (one (live_record j t own s)) (R.clerk_takes (R.live t own s) m busy)
  unfolding plan_of R.clerk_takes R.in_ringing R.on_exec
  live-late t own s (R.request e kind' q) set ready = rw (request-away kind' j.service (ask_flags e.canKeep q)) (refl, refl)
  live-late t own s (R.result k n) set ready = absurd (no_true set)
  live-late t own s (R.denied short) set ready = absurd (no_true set)
  live-late t own s (R.exec R.ret) set ready = absurd (no_true set)
  live-late t own R.invoked (R.exec R.rls) set ready = absurd (no_true (sym ready))
  live-late t own R.wait_answer (R.exec R.rls) set ready = (refl, refl)
  live-late t own R.ringing (R.exec R.rls) set ready = (refl, refl)
  live-late t own R.suspended (R.exec R.rls) set ready = (refl, refl)
  live-late t own s R.ringout set ready = (refl, refl)
  live-late t own s R.busy_again set ready = absurd (no_true set)
  live-late t own s R.no_match set ready = absurd (no_true set)
  live-late t own s (R.suspend n) set ready = absurd (no_true set)
  live-late t own s (R.resume R.ret) set ready = absurd (no_true set)
  live-late t own s (R.resume R.rls) set ready = (refl, refl)
  live-late t own s (R.cancel R.ret) set ready = absurd (no_true set)
  live-late t own s (R.cancel R.rls) set ready = absurd (no_true (sym ready))
  live-late t own s R.alerts set ready = absurd (no_true set)
  live-late t own s R.failed set ready = absurd (no_true set)

-- a result, by what the ask could keep
waiting-result :
    (j : Elements) (i : ℕ) (d : R.Data) (kind : Kind) (ck k : Bool) (n : R.Conn) (busy : Bool) → d.canKeep ≡ ck →
    Says j (take_plan i (waiting_record j d kind) j (R.result k n) busy) (one (waiting_record j d kind)) (R.clerk_takes (R.waiting d kind) (R.result k n) busy)
unfolding row_taken carrier_fits R.clerk_takes
waiting-result j i d kind true true R.ret busy e = rw e (refl, refl)
waiting-result j i d kind true true R.rls busy e = rw e (refl, refl)
waiting-result j i d kind true false R.ret busy e = rw e (refl, refl)
waiting-result j i d kind true false R.rls busy e = rw e (refl, refl)
waiting-result j i d kind false true R.ret busy e = rw e (refl, refl)
waiting-result j i d kind false true R.rls busy e = rw e (refl, refl)
waiting-result j i d kind false false R.ret busy e = rw e (refl, refl)
waiting-result j i d kind false false R.rls busy e = rw e (refl, refl)

waiting-takes :
    (j : Elements) (i : ℕ) (d : R.Data) (kind : Kind) (m : R.Msg) (busy : Bool) →
    Says j (take_plan i (waiting_record j d kind) j m busy) (one (waiting_record j d kind)) (R.clerk_takes (R.waiting d kind) m busy)
unfolding row_taken carrier_fits R.clerk_takes R.in_ringing
waiting-takes j i d kind (R.request e kind' q) busy = rw (request-away kind' j.service (ask_flags e.canKeep q)) (refl, refl)
waiting-takes j i d kind (R.result k n) busy = waiting-result j i d kind d.canKeep k n busy refl
waiting-takes j i d kind (R.denied true) busy = (refl, refl)
waiting-takes j i d kind (R.denied false) busy = (refl, refl)
waiting-takes j i d kind (R.exec R.ret) true = (refl, refl)
waiting-takes j i d kind (R.exec R.ret) false = (refl, refl)
waiting-takes j i d kind (R.exec R.rls) true = (refl, refl)
waiting-takes j i d kind (R.exec R.rls) false = (refl, refl)
waiting-takes j i d kind R.ringout busy = (refl, refl)
waiting-takes j i d kind R.busy_again busy = (refl, refl)
waiting-takes j i d kind R.no_match busy = (refl, refl)
waiting-takes j i d kind (R.suspend n) busy = (refl, refl)
waiting-takes j i d kind (R.resume R.ret) busy = (refl, refl)
waiting-takes j i d kind (R.resume R.rls) busy = (refl, refl)
waiting-takes j i d kind (R.cancel R.ret) busy = (refl, refl)
waiting-takes j i d kind (R.cancel R.rls) busy = (refl, refl)
waiting-takes j i d kind R.alerts busy = (refl, refl)
waiting-takes j i d kind R.failed busy = (refl, refl)

live-takes :
    (j : Elements) (i : ℕ) (t : R.Terms) (own : R.Own) (s : R.CState) (m : R.Msg) (busy : Bool) →
    Says j (take_plan i (live_record j t own s) j m busy) (one (live_record j t own s)) (R.clerk_takes (R.live t own s) m busy)
unfolding row_taken carrier_fits R.clerk_takes R.in_ringing R.on_busy_again R.on_exec
live-takes j i t own s (R.request e kind' q) busy = rw (request-away kind' j.service (ask_flags e.canKeep q)) (refl, refl)
live-takes j i t own R.invoked (R.result given o) busy = (refl, refl)
live-takes j i t own R.wait_answer (R.result given o) busy = (refl, refl)
live-takes j i t own R.ringing (R.result given o) busy = (refl, refl)
live-takes j i t own R.suspended (R.result given o) busy = (refl, refl)
live-takes j i t own R.invoked (R.denied true) busy = (refl, refl)
live-takes j i t own R.invoked (R.denied false) busy = (refl, refl)
live-takes j i t own R.wait_answer (R.denied true) busy = (refl, refl)
live-takes j i t own R.wait_answer (R.denied false) busy = (refl, refl)
live-takes j i t own R.ringing (R.denied true) busy = (refl, refl)
live-takes j i t own R.ringing (R.denied false) busy = (refl, refl)
live-takes j i t own R.suspended (R.denied true) busy = (refl, refl)
live-takes j i t own R.suspended (R.denied false) busy = (refl, refl)
live-takes j i (R.chosen d k R.ret) (R.has kind true) R.invoked (R.exec R.ret) true = (refl, refl)
live-takes j i (R.chosen d k R.ret) (R.has kind false) R.invoked (R.exec R.ret) true = (refl, refl)
live-takes j i (R.chosen d k R.rls) own R.invoked (R.exec R.ret) true = (refl, refl)
live-takes j i (R.chosen d k R.ret) own R.invoked (R.exec R.ret) false = (refl, refl)
live-takes j i (R.chosen d k R.rls) own R.invoked (R.exec R.ret) false = (refl, refl)
live-takes j i (R.chosen d k R.ret) (R.has kind true) R.invoked (R.exec R.rls) true = (refl, refl)
live-takes j i (R.chosen d k R.ret) (R.has kind false) R.invoked (R.exec R.rls) true = (refl, refl)
live-takes j i (R.chosen d k R.rls) own R.invoked (R.exec R.rls) true = (refl, refl)
live-takes j i (R.chosen d k R.ret) own R.invoked (R.exec R.rls) false = (refl, refl)
live-takes j i (R.chosen d k R.rls) own R.invoked (R.exec R.rls) false = (refl, refl)
live-takes j i t own R.wait_answer (R.exec R.ret) true = (refl, refl)
live-takes j i t own R.wait_answer (R.exec R.ret) false = (refl, refl)
live-takes j i t own R.wait_answer (R.exec R.rls) true = (refl, refl)
live-takes j i t own R.wait_answer (R.exec R.rls) false = (refl, refl)
live-takes j i t own R.ringing (R.exec R.ret) true = (refl, refl)
live-takes j i t own R.ringing (R.exec R.ret) false = (refl, refl)
live-takes j i t own R.ringing (R.exec R.rls) true = (refl, refl)
live-takes j i t own R.ringing (R.exec R.rls) false = (refl, refl)
live-takes j i t own R.suspended (R.exec R.ret) true = (refl, refl)
live-takes j i t own R.suspended (R.exec R.ret) false = (refl, refl)
live-takes j i t own R.suspended (R.exec R.rls) true = (refl, refl)
live-takes j i t own R.suspended (R.exec R.rls) false = (refl, refl)
live-takes j i t own s R.ringout busy = (refl, refl)
live-takes j i (R.chosen d true n) (R.has Ccbs down) R.invoked R.busy_again busy = (refl, refl)
live-takes j i (R.chosen d true n) (R.has Ccnr down) R.invoked R.busy_again busy = (refl, refl)
live-takes j i (R.chosen d false n) own R.invoked R.busy_again busy = (refl, refl)
live-takes j i (R.chosen d true n) (R.has Ccbs down) R.wait_answer R.busy_again busy = (refl, refl)
live-takes j i (R.chosen d true n) (R.has Ccnr down) R.wait_answer R.busy_again busy = (refl, refl)
live-takes j i (R.chosen d false n) own R.wait_answer R.busy_again busy = (refl, refl)
live-takes j i (R.chosen d true n) (R.has Ccbs down) R.ringing R.busy_again busy = (refl, refl)
live-takes j i (R.chosen d true n) (R.has Ccnr down) R.ringing R.busy_again busy = (refl, refl)
live-takes j i (R.chosen d false n) own R.ringing R.busy_again busy = (refl, refl)
live-takes j i (R.chosen d true n) (R.has Ccbs down) R.suspended R.busy_again busy = (refl, refl)
live-takes j i (R.chosen d true n) (R.has Ccnr down) R.suspended R.busy_again busy = (refl, refl)
live-takes j i (R.chosen d false n) own R.suspended R.busy_again busy = (refl, refl)
live-takes j i t own R.invoked R.no_match busy = (refl, refl)
live-takes j i t own R.wait_answer R.no_match busy = (refl, refl)
live-takes j i t own R.ringing R.no_match busy = (refl, refl)
live-takes j i t own R.suspended R.no_match busy = (refl, refl)
live-takes j i t own s (R.suspend o) busy = (refl, refl)
live-takes j i t own s (R.resume R.ret) busy = (refl, refl)
live-takes j i t own s (R.resume R.rls) busy = (refl, refl)
live-takes j i t own R.invoked (R.cancel R.ret) busy = (refl, refl)
live-takes j i t own R.invoked (R.cancel R.rls) busy = (refl, refl)
live-takes j i t own R.wait_answer (R.cancel R.ret) busy = (refl, refl)
live-takes j i t own R.wait_answer (R.cancel R.rls) busy = (refl, refl)
live-takes j i t own R.ringing (R.cancel R.ret) busy = (refl, refl)
live-takes j i t own R.ringing (R.cancel R.rls) busy = (refl, refl)
live-takes j i t own R.suspended (R.cancel R.ret) busy = (refl, refl)
live-takes j i t own R.suspended (R.cancel R.rls) busy = (refl, refl)
live-takes j i t own R.invoked R.alerts busy = (refl, refl)
live-takes j i t own R.wait_answer R.alerts busy = (refl, refl)
live-takes j i t own R.ringing R.alerts busy = (refl, refl)
live-takes j i t own R.suspended R.alerts busy = (refl, refl)
live-takes j i t own R.invoked R.failed busy = (refl, refl)
live-takes j i t own R.wait_answer R.failed busy = (refl, refl)
live-takes j i (R.chosen d k R.ret) (R.has kind true) R.ringing R.failed busy = (refl, refl)
live-takes j i (R.chosen d k R.ret) (R.has kind false) R.ringing R.failed busy = (refl, refl)
live-takes j i (R.chosen d k R.rls) own R.ringing R.failed busy = (refl, refl)
live-takes j i t own R.suspended R.failed busy = (refl, refl)

-- ---- acts and timers, by the record
abbrev row_read : R.CAct → Row
row_read (R.act x) = row_of_act x
row_read (R.timer x) = row_of_timer x
row_read (R.signal call_died) = Row.CallFails
row_read (R.signal rejected) = Row.DeniedShort

abbrev own_plan : ℕ → Record → Row → Refusal → Plan Change
own_plan i r row refusal = pick (holds_for row r) (row_taken i r row) (refused_plan refusal None)

waiting-acts :
    (j : Elements) (i : ℕ) (d : R.Data) (kind : Kind) (x : R.CAct) (refusal : Refusal) →
    Says j (own_plan i (waiting_record j d kind) (row_read x) refusal) (one (waiting_record j d kind)) (R.clerk_acts (R.waiting d kind) x)
unfolding row_taken R.clerk_acts R.waiting_acts R.clerk_takes R.in_ringing
waiting-acts j i d kind (R.act Act.Accept) refusal = (refl, refl)
waiting-acts j i d kind (R.act Act.Resume) refusal = (refl, refl)
waiting-acts j i d kind (R.act Act.GoOn) refusal = (refl, refl)
waiting-acts j i d kind (R.act Act.Cancel) refusal = (refl, refl)
waiting-acts j i d kind (R.act Act.Fell) refusal = (refl, refl)
waiting-acts j i d kind (R.timer T1) refusal = (refl, refl)
waiting-acts j i d kind (R.timer T2) refusal = (refl, refl)
waiting-acts j i d kind (R.timer T3) refusal = (refl, refl)
waiting-acts j i d kind (R.signal call_died) refusal = (refl, refl)
waiting-acts j i d kind (R.signal rejected) refusal = (refl, refl)

-- a row that ends the record with a ccCancel, in a state where it is taken; and one that is always taken
live-cancels :
    (j : Elements) (i : ℕ) (t : R.Terms) (own : R.Own) (s : R.CState) (row : Row) (refusal : Refusal) →
    holds_for row (live_record j t own s) ≡ true → (effect_of row).next ≡ Gone → (effect_of row).sends ≡ Some CcCancel →
    Says j (own_plan i (live_record j t own s) row refusal) (one (live_record j t own s)) (R.absent, R.cancel (R.way t own) ∷ [])
unfolding row_taken
live-cancels j i (R.chosen d k R.ret) (R.has kind true) s row refusal held ends cancels = rw (held, ends, cancels) (refl, refl)
live-cancels j i (R.chosen d k R.ret) (R.has kind false) s row refusal held ends cancels = rw (held, ends, cancels) (refl, refl)
live-cancels j i (R.chosen d k R.rls) own s row refusal held ends cancels = rw (held, ends, cancels) (refl, refl)

always : (s : R.CState) (c : Connection) → holds_in Always (clerk_state_read s) c ≡ true
always R.invoked c = refl
always R.wait_answer c = refl
always R.ringing c = refl
always R.suspended c = refl

live-acts :
    (j : Elements) (i : ℕ) (t : R.Terms) (own : R.Own) (s : R.CState) (x : R.CAct) (refusal : Refusal) →
    Says j (own_plan i (live_record j t own s) (row_read x) refusal) (one (live_record j t own s)) (R.clerk_acts (R.live t own s) x)
unfolding row_taken R.clerk_acts R.live_acts R.clerk_takes R.in_ringing
live-acts j i t own R.invoked (R.act Act.Accept) refusal = (refl, refl)
live-acts j i t own R.wait_answer (R.act Act.Accept) refusal = (refl, refl)
live-acts j i t own R.ringing (R.act Act.Accept) refusal = (refl, refl)
live-acts j i t own R.suspended (R.act Act.Accept) refusal = (refl, refl)
live-acts j i t own R.invoked (R.act Act.Resume) refusal = (refl, refl)
live-acts j i t own R.wait_answer (R.act Act.Resume) refusal = (refl, refl)
live-acts j i t own R.ringing (R.act Act.Resume) refusal = (refl, refl)
live-acts j i (R.chosen d k R.ret) (R.has kind true) R.suspended (R.act Act.Resume) refusal = (refl, refl)
live-acts j i (R.chosen d k R.ret) (R.has kind false) R.suspended (R.act Act.Resume) refusal = (refl, refl)
live-acts j i (R.chosen d k R.rls) own R.suspended (R.act Act.Resume) refusal = (refl, refl)
live-acts j i t own R.invoked (R.act Act.GoOn) refusal = (refl, refl)
live-acts j i t own R.wait_answer (R.act Act.GoOn) refusal = (refl, refl)
live-acts j i t own R.ringing (R.act Act.GoOn) refusal = (refl, refl)
live-acts j i t own R.suspended (R.act Act.GoOn) refusal = (refl, refl)
live-acts j i t own s (R.act Act.Cancel) refusal = live-cancels j i t own s (row_of_act Act.Cancel) refusal (always s (conn_read (R.conn t))) refl refl
live-acts j i (R.chosen d k R.ret) (R.has kind down) R.invoked (R.act Act.Fell) refusal = (refl, refl)
live-acts j i (R.chosen d k R.rls) own R.invoked (R.act Act.Fell) refusal = (refl, refl)
live-acts j i (R.chosen d k R.ret) (R.has kind down) R.wait_answer (R.act Act.Fell) refusal = (refl, refl)
live-acts j i (R.chosen d k R.rls) own R.wait_answer (R.act Act.Fell) refusal = (refl, refl)
live-acts j i (R.chosen d k R.ret) (R.has kind down) R.ringing (R.act Act.Fell) refusal = (refl, refl)
live-acts j i (R.chosen d k R.rls) own R.ringing (R.act Act.Fell) refusal = (refl, refl)
live-acts j i (R.chosen d k R.ret) (R.has kind down) R.suspended (R.act Act.Fell) refusal = (refl, refl)
live-acts j i (R.chosen d k R.rls) own R.suspended (R.act Act.Fell) refusal = (refl, refl)
live-acts j i t own R.invoked (R.timer T1) refusal = (refl, refl)
live-acts j i t own R.wait_answer (R.timer T1) refusal = (refl, refl)
live-acts j i t own R.ringing (R.timer T1) refusal = (refl, refl)
live-acts j i t own R.suspended (R.timer T1) refusal = (refl, refl)
live-acts j i t own R.invoked (R.timer T2) refusal = live-cancels j i t own R.invoked (row_of_timer T2) refusal refl refl refl
live-acts j i t own R.wait_answer (R.timer T2) refusal = live-cancels j i t own R.wait_answer (row_of_timer T2) refusal refl refl refl
live-acts j i t own R.ringing (R.timer T2) refusal = (refl, refl)
live-acts j i t own R.suspended (R.timer T2) refusal = live-cancels j i t own R.suspended (row_of_timer T2) refusal refl refl refl
live-acts j i t own R.invoked (R.timer T3) refusal = (refl, refl)
live-acts j i t own R.wait_answer (R.timer T3) refusal = live-cancels j i t own R.wait_answer (row_of_timer T3) refusal refl refl refl
live-acts j i t own R.ringing (R.timer T3) refusal = (refl, refl)
live-acts j i t own R.suspended (R.timer T3) refusal = (refl, refl)
live-acts j i t own R.invoked (R.signal call_died) refusal = (refl, refl)
live-acts j i t own R.wait_answer (R.signal call_died) refusal = (refl, refl)
live-acts j i t own R.ringing (R.signal call_died) refusal = live-cancels j i t own R.ringing Row.CallFails refusal refl refl refl
live-acts j i t own R.suspended (R.signal call_died) refusal = (refl, refl)
live-acts j i t own R.invoked (R.signal rejected) refusal = (refl, refl)
live-acts j i t own R.wait_answer (R.signal rejected) refusal = (refl, refl)
live-acts j i t own R.ringing (R.signal rejected) refusal = (refl, refl)
live-acts j i t own R.suspended (R.signal rejected) refusal = (refl, refl)

-- ---- a timer's report that is taken has run out; T3 is no timer of the demand
waiting-ran-out :
    (j : Elements) (d : R.Data) (kind : Kind) (timer : Timer) → holds_for (row_of_timer timer) (waiting_record j d kind) ≡ true →
    R.runs_out (R.waiting d kind) (R.timer timer) ≡ R.is_t1_or_t2 (R.timer timer)
unfolding R.clerk_acts R.waiting_acts
waiting-ran-out j d kind T1 h = refl
waiting-ran-out j d kind T2 h = absurd (no_true h)
waiting-ran-out j d kind T3 h = refl

live-ran-out :
    (j : Elements) (t : R.Terms) (own : R.Own) (s : R.CState) (timer : Timer) → holds_for (row_of_timer timer) (live_record j t own s) ≡ true →
    R.runs_out (R.live t own s) (R.timer timer) ≡ R.is_t1_or_t2 (R.timer timer)
unfolding R.clerk_acts R.live_acts
live-ran-out j t own R.invoked T1 h = absurd (no_true h)
live-ran-out j t own R.wait_answer T1 h = absurd (no_true h)
live-ran-out j t own R.ringing T1 h = absurd (no_true h)
live-ran-out j t own R.suspended T1 h = absurd (no_true h)
live-ran-out j t own R.invoked T2 h = refl
live-ran-out j t own R.wait_answer T2 h = refl
live-ran-out j t own R.ringing T2 h = absurd (no_true h)
live-ran-out j t own R.suspended T2 h = refl
live-ran-out j t own s T3 h = refl

-- what is read is used and has the identifier
pub clerk-its : (j : Elements) (c : R.Clerk) → Its clerk_sight j (clerk_read j c)
clerk-its j R.absent = tt
clerk-its j (R.waiting d kind) = (refl, refl)
clerk-its j (R.live t own R.invoked) = (refl, refl)
clerk-its j (R.live t own R.wait_answer) = (refl, refl)
clerk-its j (R.live t own R.ringing) = (refl, refl)
clerk-its j (R.live t own R.suspended) = (refl, refl)

-- ---- the record at a place, as it is read
pub at-record : (rs : List Record) (i : ℕ) (r : Record) (P : Record → Type 0) → one (get_or rs i blank) ≡ one r → P r → P (get_or rs i blank)
at-record rs i r P h p = subst P (sym (the_one (get_or rs i blank) r h)) p

module _ (rs : List Record) (input : Input) where
  abbrev OwnChange : Option ℕ → Change → Type 0
  OwnChange f change = Own clerk_sight rs f (clerk_change change) (records_after rs change) (leaves change (there clerk_sight rs f))

  pub own-taken : (i : ℕ) (row : Row) → OwnChange (Some i) (plan_of rs input (Take i row)).change
  unfolding plan_of row_taken
  own-taken i row = by (effect_of row).next
    where
      by : (next : Next State) → OwnChange (Some i) (changed next (effect_of row).kind (effect_of row).falls i (settled_by input (get_or rs i blank)))
      by Gone = removes i
      by Same = turns i _
      by (To state) = turns i _

  pub touches_taken : (i : ℕ) (row : Row) → Touches i (clerk_change (plan_of rs input (Take i row)).change)
  unfolding plan_of row_taken
  touches_taken i row = by (effect_of row).next
    where
      by : (next : Next State) → Touches i (clerk_change (changed next (effect_of row).kind (effect_of row).falls i (settled_by input (get_or rs i blank))))
      by Gone = by_removal
      by Same = by_turn
      by (To state) = by_turn

-- ---- a message
-- the place that is named is no part of a plan, but for the record that it means
plan-place : (rs : List Record) (j : Elements) (m : R.Msg) (busy : Bool) (place : ℕ) (d : Decision) → plan_of rs (heard j m busy place) d ≡ plan_of rs (heard j m busy 0) d
unfolding plan_of
plan-place rs j m busy place (Refuse refusal reply) = refl
plan-place rs j m busy place (Take i row) = refl
plan-place rs j m busy place (Store i q) = refl

module _ (rs : List Record) (j : Elements) (m : R.Msg) (busy : Bool) where
  take_at :
      (i : ℕ) (input : Input) (l : Letter) (x : Option RecordMessage) →
      plan_of rs input (message_meant rs l busy (Means.At i) x) ≡ plan_at input (get_or rs i blank) (take_decision i (get_or rs i blank) l busy x)
  unfolding plan_of
  take_at i input l None = refl
  take_at i input l (Some message) =
      let r = get_or rs i blank in
      pick_elim (λ (d : Decision). plan_of rs input d ≡ plan_at input r d) (holds_for (row_for message busy r.terms.keep r.terms.kind) r)
      (λ h.
      pick_elim (λ (d : Decision). plan_of rs input d ≡ plan_at input r d) (carrier_fits l.body r.terms.connection l.carrier)
      (λ g. refl)
      (λ g. refl))
      (λ h. refl)

  abbrev pub takes : Means → Plan Change
  takes means = plan_of rs (heard j m busy 0) (message_meant rs (letter_read j m) busy means (message_for (letter_read j m).body))

  taken-says :
      (c : R.Clerk) (i : ℕ) (r : Record) → one (get_or rs i blank) ≡ one r → Says j (take_plan i r j m busy) (one r) (R.clerk_takes c m busy) →
      Says j (takes (Means.At i)) (one (get_or rs i blank)) (R.clerk_takes c m busy)
  taken-says c i r h says =
      subst (λ (plan : Plan Change). Says j plan (one (get_or rs i blank)) (R.clerk_takes c m busy))
      (sym (take_at i (heard j m busy 0) (letter_read j m) (message_for (letter_read j m).body)))
      (at-record rs i r (λ (x : Record). Says j (take_plan i x j m busy) (one x) (R.clerk_takes c m busy)) h says)

  late-says :
      (c : R.Clerk) (i : ℕ) (r : Record) → one (get_or rs i blank) ≡ one r → ready_for j m (get_or rs i blank) ≡ false →
      (ready_for j m r ≡ false → Says j (takes Means.NotNow) (one r) (R.clerk_takes c m busy)) → Says j (takes Means.NotNow) (one (get_or rs i blank)) (R.clerk_takes c m busy)
  late-says c i r h ready says =
      at-record rs i r (λ (x : Record). ready_for j m x ≡ false → Says j (takes Means.NotNow) (one x) (R.clerk_takes c m busy)) h says ready

  -- a row at a place, as it is read there
  pub found-says : (c : R.Clerk) (i : ℕ) → one (get_or rs i blank) ≡ clerk_read j c → Says j (takes (Means.At i)) (one (get_or rs i blank)) (R.clerk_takes c m busy)
  found-says R.absent i h = not-one (sym h)
  found-says (R.waiting d kind) i h = taken-says (R.waiting d kind) i (waiting_record j d kind) h (waiting-takes j i d kind m busy)
  found-says (R.live t own s) i h = taken-says (R.live t own s) i (live_record j t own s) h (live-takes j i t own s m busy)

  found-takes :
      (c : R.Clerk) (f : Option ℕ) (means : Means) → Meant clerk_sight rs (set_of j m) (ready_for j m) f means → there clerk_sight rs f ≡ clerk_read j c →
      Says j (takes means) (there clerk_sight rs f) (R.clerk_takes c m busy)
  found-takes c f means (found i) h = found-says c i h
  found-takes R.absent f means missed h = absent-takes j rs m busy
  found-takes (R.waiting d kind) f means missed h = not-one h
  found-takes (R.live t own s) f means missed h = not-one h
  found-takes R.absent f means (no_longer set) h = gone-takes j rs busy m set
  found-takes (R.waiting d kind) f means (no_longer set) h = not-one h
  found-takes (R.live t own s) f means (no_longer set) h = not-one h
  found-takes R.absent f means (late i set ready) h = not-one (sym h)
  found-takes (R.waiting d kind) f means (late i set ready) h =
      late-says (R.waiting d kind) i (waiting_record j d kind) h ready (waiting-late j rs busy d kind m set)
  found-takes (R.live t own s) f means (late i set ready) h =
      late-says (R.live t own s) i (live_record j t own s) h ready (live-late j rs busy t own s m set)

  stays-takes : (f : Option ℕ) (means : Means) (x : Option RecordMessage) → ((i : ℕ) → means ≡ Means.At i → f ≡ Some i) → OwnChange rs (heard j m busy 0) f (plan_of rs (heard j m busy 0) (message_meant rs (letter_read j m) busy means x)).change
  unfolding plan_of
  stays-takes f means None same = stays
  stays-takes f Means.Nothing (Some message) same = stays
  stays-takes f Means.NotNow (Some message) same = stays
  stays-takes f (Means.At i) (Some message) same =
      let r = get_or rs i blank in
      let input = heard j m busy 0 in
      let row = row_for message busy r.terms.keep r.terms.kind in
      let l = letter_read j m in
      subst (λ (g : Option ℕ). OwnChange rs input g (plan_of rs input (message_meant rs l busy (Means.At i) (Some message))).change) (sym (same i refl))
      (pick_elim (λ (d : Decision). OwnChange rs input (Some i) (plan_of rs input d).change) (holds_for row r)
      (λ h.
      pick_elim (λ (d : Decision). OwnChange rs input (Some i) (plan_of rs input d).change) (carrier_fits l.body r.terms.connection l.carrier)
      (λ g. own-taken rs input i row)
      (λ g. stays))
      (λ h. stays))

  own-takes : (f : Option ℕ) (means : Means) → Meant clerk_sight rs (set_of j m) (ready_for j m) f means → OwnChange rs (heard j m busy 0) f (takes means).change
  own-takes f means x = stays-takes f means (message_for (letter_read j m).body) (by x)
    where
      by : {g : Option ℕ} {y : Means} → Meant clerk_sight rs (set_of j m) (ready_for j m) g y → (i : ℕ) → y ≡ Means.At i → g ≡ Some i
      by (found k) i e = ap Some (let z : k ≡ i = cc in z)
      by (late k set ready) i e = let z : ◌≡◌ {A = ℕ} 0 1 = cc in absurd (omega (arith, z))
      by missed i e = let z : ◌≡◌ {A = ℕ} 0 1 = cc in absurd (omega (arith, z))
      by (no_longer set) i e = let z : ◌≡◌ {A = ℕ} 0 1 = cc in absurd (omega (arith, z))

-- ---- any message, whosever it is: refused, with a reply of its own or none; or taken for the record that it means, as if it were of that one
pub data Heard (rs : List Record) (j : Elements) (m : R.Msg) (busy : Bool) (means : Means) (plan : Plan Change) : Type 0 where
  replies : (ms : List R.Msg) → plan.change ≡ Stay → sent_by plan.outcome.sending ≡ map (message_read j) ms → NoReq ms → Heard rs j m busy means plan
  turns-row :
      (i : ℕ) → means ≡ Means.At i → Touches i (clerk_change plan.change) →
      Own clerk_sight rs (Some i) (clerk_change plan.change) (records_after rs plan.change) (leaves plan.change (one (get_or rs i blank))) →
      ((y : Elements) (c : R.Clerk) → one (get_or rs i blank) ≡ clerk_read y c → Says y plan (one (get_or rs i blank)) (R.clerk_takes c m busy)) → Heard rs j m busy means plan

-- a reply is a ccCancel, or there is none
abbrev Cancels : Option Body → Type 0
Cancels reply = (reply ≡ None) ⊎ (reply ≡ Some CcCancel)

unmatched_cancels : (message : RecordMessage) → Cancels (reply_unmatched message)
unmatched_cancels (Message.Result keep) = inr refl
unmatched_cancels (Message.Error error) = inl refl
unmatched_cancels Message.ExecPossible = inr refl
unmatched_cancels (Message.RingoutError error) = inl refl
unmatched_cancels Message.Cancel = inl refl
unmatched_cancels Message.Alerts = inl refl
unmatched_cancels Message.Failed = inl refl

setup-cancels : (carrier : Carrier) → Cancels (reply_in_setup carrier)
setup-cancels Carrier.Setup = inr refl
setup-cancels Carrier.Connect = inl refl
setup-cancels Carrier.Facility = inl refl
setup-cancels Carrier.ReleaseComplete = inl refl
setup-cancels Carrier.Alerting = inl refl

unfit-cancels : (message : RecordMessage) (carrier : Carrier) → Cancels (reply_unfit message carrier)
unfit-cancels (Message.Result keep) carrier = inl refl
unfit-cancels (Message.Error error) carrier = inl refl
unfit-cancels Message.ExecPossible carrier = setup-cancels carrier
unfit-cancels (Message.RingoutError error) carrier = inl refl
unfit-cancels Message.Cancel carrier = inl refl
unfit-cancels Message.Alerts carrier = inl refl
unfit-cancels Message.Failed carrier = inl refl

module _ (rs : List Record) (j : Elements) (m : R.Msg) (busy : Bool) where
  abbrev input : Input
  input = heard j m busy 0

  refuses-heard : (means : Means) (refusal : Refusal) (reply : Option Body) → Cancels reply → Heard rs j m busy means (plan_of rs input (Refuse refusal reply))
  unfolding plan_of
  refuses-heard means refusal reply (inl e) = replies [] refl (ap (λ (x : Option Body). sent_by (answered (letter_read j m).identifier x)) e) tt
  refuses-heard means refusal reply (inr e) =
      replies (R.cancel R.ret ∷ []) refl
      (ap (λ (x : Option Body). sent_by (answered (letter_read j m).identifier x)) e ∙ ap (λ (x : Option Words). message_of (plain_letter x Carrier.ReleaseComplete CcCancel) ∷ []) (letter-name j m)) (tt, tt)

-- a row is taken by the body and the carrier, which a message of another request has too
module _ (rs : List Record) (j : Elements) (m : R.Msg) (busy : Bool) (plain : NotReq m) where
  same_row : (y : Elements) (i : ℕ) (row : Row) → plan_of rs (heard y m busy 0) (Take i row) ≡ plan_of rs (heard j m busy 0) (Take i row)
  unfolding plan_of
  same_row y i row =
      ap (λ (b : Body). row_taken i (settled (message_for b) (letter_read y m).carrier (get_or rs i blank)) row) (letter-body y j m plain)
      ∙ ap (λ (c : Carrier). row_taken i (settled (message_for (letter_read j m).body) c (get_or rs i blank)) row) (letter-carrier y j m)

  same-decision : (y : Elements) (i : ℕ) (x : Option RecordMessage) → message_meant rs (letter_read y m) busy (Means.At i) x ≡ message_meant rs (letter_read j m) busy (Means.At i) x
  same-decision y i None = refl
  same-decision y i (Some message) = rw (letter-body y j m plain, letter-carrier y j m)

  row-heard :
      (means : Means) (i : ℕ) → means ≡ Means.At i → (message : RecordMessage) →
      ((y : Elements) (c : R.Clerk) → one (get_or rs i blank) ≡ clerk_read y c →
      Says y (plan_of rs (heard y m busy 0) (message_meant rs (letter_read j m) busy (Means.At i) (Some message))) (one (get_or rs i blank)) (R.clerk_takes c m busy)) →
      Heard rs j m busy means (plan_of rs (heard j m busy 0) (message_meant rs (letter_read j m) busy (Means.At i) (Some message)))
  row-heard means i at message =
      let r = get_or rs i blank in
      let l = letter_read j m in
      let row = row_for message busy r.terms.keep r.terms.kind in
      pick_elim
      (λ (d : Decision).
      ((y : Elements) (c : R.Clerk) → one r ≡ clerk_read y c → Says y (plan_of rs (heard y m busy 0) d) (one r) (R.clerk_takes c m busy)) → Heard rs j m busy means (plan_of rs (heard j m busy 0) d))
      (holds_for row r)
      (λ h.
      pick_elim
      (λ (d : Decision).
      ((y : Elements) (c : R.Clerk) → one r ≡ clerk_read y c → Says y (plan_of rs (heard y m busy 0) d) (one r) (R.clerk_takes c m busy)) → Heard rs j m busy means (plan_of rs (heard j m busy 0) d))
      (carrier_fits l.body r.terms.connection l.carrier)
      (λ g says.
      turns-row i at (touches_taken rs (heard j m busy 0) i row) (own-taken rs (heard j m busy 0) i row)
      (λ y c read. subst (λ (plan : Plan Change). Says y plan (one r) (R.clerk_takes c m busy)) (same_row y i row) (says y c read)))
      (λ g says. refuses-heard rs j m busy means NotInCarrier (reply_unfit message l.carrier) (unfit-cancels message l.carrier)))
      (λ h says. refuses-heard rs j m busy means NoRow (reply_unfit message l.carrier) (unfit-cancels message l.carrier))

  any-heard : (means : Means) (x : Option RecordMessage) → message_for (letter_read j m).body ≡ x → Heard rs j m busy means (plan_of rs (heard j m busy 0) (message_meant rs (letter_read j m) busy means x))
  any-heard means None e = refuses-heard rs j m busy means NotHere None (inl refl)
  any-heard Means.Nothing (Some message) e = refuses-heard rs j m busy Means.Nothing NoRecord (reply_unmatched message) (unmatched_cancels message)
  any-heard Means.NotNow (Some message) e = refuses-heard rs j m busy Means.NotNow NoRow (reply_unfit message (letter_read j m).carrier) (unfit-cancels message (letter_read j m).carrier)
  any-heard (Means.At i) (Some message) e =
      row-heard (Means.At i) i refl message
      (λ y c read.
      subst (λ (d : Decision). Says y (plan_of rs (heard y m busy 0) d) (one (get_or rs i blank)) (R.clerk_takes c m busy))
      (ap (λ (b : Body). message_meant rs (letter_read y m) busy (Means.At i) (message_for b)) (letter-body y j m plain)
      ∙ ap (message_meant rs (letter_read y m) busy (Means.At i)) e
      ∙ same-decision y i (Some message))
      (found-says rs y m busy c i read))

-- a request is for the line
pub data Sorted (j : Elements) (m : R.Msg) : Type 0 where
  ours : NotReq m → Sorted j m
  away : message_for (letter_read j m).body ≡ None → Sorted j m

sorted : (j : Elements) (m : R.Msg) → Sorted j m
sorted j (R.request d kind q) = away (request-away kind j.service (ask_flags d.canKeep q))
sorted j (R.result k n) = ours tt
sorted j (R.denied short) = ours tt
sorted j (R.exec n) = ours tt
sorted j R.ringout = ours tt
sorted j R.busy_again = ours tt
sorted j R.no_match = ours tt
sorted j (R.suspend n) = ours tt
sorted j (R.resume n) = ours tt
sorted j (R.cancel n) = ours tt
sorted j R.alerts = ours tt
sorted j R.failed = ours tt

all-heard :
    (rs : List Record) (j : Elements) (m : R.Msg) (busy : Bool) (means : Means) → Sorted j m →
    Heard rs j m busy means (plan_of rs (heard j m busy 0) (message_meant rs (letter_read j m) busy means (message_for (letter_read j m).body)))
all-heard rs j m busy means (ours plain) = any-heard rs j m busy plain means (message_for (letter_read j m).body) refl
all-heard rs j m busy means (away e) =
    subst (λ (x : Option RecordMessage). Heard rs j m busy means (plan_of rs (heard j m busy 0) (message_meant rs (letter_read j m) busy means x))) (sym e)
    (refuses-heard rs j m busy means NotHere None (inl refl))

-- ---- an act, a timer's report, a signal: refused without a word, or taken for the record at a place
pub data Acted (rs : List Record) (x : R.CAct) (plan : Plan Change) : Type 0 where
  refuses : plan.change ≡ Stay → plan.outcome.at ≡ None → plan.outcome.sending ≡ None → Acted rs x plan
  takes-row :
      (i : ℕ) → used (get_or rs i blank) ≡ true → Touches i (clerk_change plan.change) →
      Own clerk_sight rs (Some i) (clerk_change plan.change) (records_after rs plan.change) (leaves plan.change (one (get_or rs i blank))) →
      ((j : Elements) (c : R.Clerk) → one (get_or rs i blank) ≡ clerk_read j c →
      Says j plan (one (get_or rs i blank)) (R.clerk_acts c x) × (R.runs_out c x ≡ R.is_t1_or_t2 x)) → Acted rs x plan

module _ (rs : List Record) (input : Input) (settles : (r : Record) → settled_by input r ≡ r) (x : R.CAct) where
  -- the row of the record that is read
  row-says :
      (j : Elements) (c : R.Clerk) (i : ℕ) → one (get_or rs i blank) ≡ clerk_read j c →
      Says j (own_plan i (get_or rs i blank) (row_read x) NoRow) (one (get_or rs i blank)) (R.clerk_acts c x)
  row-says j R.absent i h = not-one (sym h)
  row-says j (R.waiting d kind) i h =
      at-record rs i (waiting_record j d kind) (λ (r : Record). Says j (own_plan i r (row_read x) NoRow) (one r) (R.clerk_acts (R.waiting d kind) x)) h (waiting-acts j i d kind x NoRow)
  row-says j (R.live t own s) i h =
      at-record rs i (live_record j t own s) (λ (r : Record). Says j (own_plan i r (row_read x) NoRow) (one r) (R.clerk_acts (R.live t own s) x)) h (live-acts j i t own s x NoRow)

  acted-found :
      (refusal : Refusal) (means : Means) → ((i : ℕ) → means ≡ Means.At i → used (get_or rs i blank) ≡ true) →
      ((j : Elements) (c : R.Clerk) (i : ℕ) → holds_for (row_read x) (get_or rs i blank) ≡ true → one (get_or rs i blank) ≡ clerk_read j c → R.runs_out c x ≡ R.is_t1_or_t2 x) →
      Acted rs x (plan_of rs input (own_found rs (row_read x) refusal means))
  unfolding plan_of
  acted-found refusal Means.Nothing u ends = refuses refl refl refl
  acted-found refusal Means.NotNow u ends = refuses refl refl refl
  acted-found refusal (Means.At i) u ends =
      let r = get_or rs i blank in
      pick_elim (λ (d : Decision). Acted rs x (plan_of rs input d)) (holds_for (row_read x) r)
      (λ h.
      takes-row i (u i refl) (touches_taken rs input i (row_read x)) (own-taken rs input i (row_read x))
      (λ j c read. (
        subst (λ (q : Record). Says j (row_taken i q (row_read x)) (one r) (R.clerk_acts c x)) (sym (settles r))
            (subst (λ (b : Bool). Says j (pick b (row_taken i r (row_read x)) (refused_plan NoRow None)) (one r) (R.clerk_acts c x)) h (row-says j c i read)),
        ends j c i h read,
      )))
      (λ h. refuses refl refl refl)

timer-ends :
    (rs : List Record) (timer : Timer) (j : Elements) (c : R.Clerk) (i : ℕ) → holds_for (row_of_timer timer) (get_or rs i blank) ≡ true →
    one (get_or rs i blank) ≡ clerk_read j c → R.runs_out c (R.timer timer) ≡ R.is_t1_or_t2 (R.timer timer)
timer-ends rs timer j R.absent i h read = not-one (sym read)
timer-ends rs timer j (R.waiting d kind) i h read =
    waiting-ran-out j d kind timer (subst (λ (r : Record). holds_for (row_of_timer timer) r ≡ true) (the_one (get_or rs i blank) (waiting_record j d kind) read) h)
timer-ends rs timer j (R.live t own s) i h read =
    live-ran-out j t own s timer (subst (λ (r : Record). holds_for (row_of_timer timer) r ≡ true) (the_one (get_or rs i blank) (live_record j t own s) read) h)

-- ---- which record is meant, as it is said for both desks
meaning-or : (f : Option ℕ) (otherwise : Means) → Meaning.or_else f otherwise ≡ or_else f otherwise
meaning-or (Some i) otherwise = refl
meaning-or None otherwise = refl

meaning-by :
    (identifier : Option Words) (set : Bool) (elements : Means) (place : ℕ) (rs : List Record) →
    Meaning.or_else (identifier_means identifier rs) (pick set elements (Meaning.place_means identifier place rs))
    ≡ or_else (known_in (view clerk_sight) identifier rs) (pick set elements (place_means clerk_sight identifier place rs))
unfolding meant
meaning-by None set elements place rs = refl
meaning-by (Some identifier) set elements place rs = meaning-or (meant identifier rs) (pick set elements Means.Nothing)

pub clerk-meaning :
    (l : Letter) (place : ℕ) (rs : List Record) →
    meaning l place rs ≡ meaning_in clerk_sight l.identifier (has_elements l.body l.carrier) (fitting (letter_names l)) (is_for l.body) place rs
unfolding meaning elements_mean
clerk-meaning l place rs = meaning-by l.identifier (has_elements l.body l.carrier) (oldest (fitting (letter_names l)) (is_for l.body) rs) place rs

-- a record with its elements fits a message that has them
pub clerk-fitting :
    (j : Elements) (m : R.Msg) → set_of j m ≡ true → j.identifier ≡ None → (r : Record) → used r ≡ true → elements_of r.terms ≡ j →
    fitting (letter_names (letter_read j m)) r ≡ true
clerk-fitting j m set absent r u same = both_true u ∙ ap (λ (names : Names). fits names r.terms) (set-names j m set) ∙ own-fits j absent r.terms same

-- ---- the desk
-- an ask is refused, or stored and sent
pub data AskStep (d : Desk) (count : ℕ) (names : Names) (q : Request) (plan : Plan Change) : Type 0 where
  refused : plan.change ≡ Stay → plan.outcome.at ≡ None → plan.outcome.sending ≡ None → AskStep d count names q plan
  stored :
      (i : ℕ) → clerk_change plan.change ≡ storing i → plan.outcome.refusal ≡ None →
      ((given : Of Elements) → given.it ≡ ask_elements names q →
      ClerkStep d count given None plan (ask_elements names q) (R.waiting (data_of q) q.kind, ask_read q ∷ [])) → AskStep d count names q plan

module _ (d : Desk) (reached : Reached d) (count : ℕ) where
  abbrev rs : List Record
  rs = records d.words

  -- a plan that is made is what it says of the place that it is about
  pub plan-step :
      (given : Of Elements) (f : Option ℕ) (j : Elements) (plan : Plan Change) (answer : R.CAnswer) →
      Own clerk_sight rs f (clerk_change plan.change) (records_after rs plan.change) (leaves plan.change (there clerk_sight rs f)) →
      Its clerk_sight j (there clerk_sight rs f) → Says j plan (there clerk_sight rs f) answer → ((i : ℕ) → clerk_change plan.change ≡ storing i → given.it ≡ j) →
      ClerkStep d count given f plan j answer
  plan-step given f j plan answer own its says came =
      let whole : Own clerk_sight rs f (clerk_change plan.change) (records (made d count plan).desk.words) (clerk_read j answer.0) =
      subst (λ (after : List Record). Own clerk_sight rs f (clerk_change plan.change) after (clerk_read j answer.0))
      (sym (records-made d (clerk-full reached) count plan))
      (subst (λ (left : Held Record). Own clerk_sight rs f (clerk_change plan.change) (records_after rs plan.change) left) says.0 own) in
      record { did = own-did clerk_sight rs j given whole its (clerk-its j answer.0) came; sends = says.1 }

  -- a message of a request, by what it means
  pub clerk-hears :
      (given : Of Elements) (j : Elements) (m : R.Msg) (busy : Bool) (place : ℕ) (c : R.Clerk) (f : Option ℕ) → given.it ≡ j →
      Meant clerk_sight rs (set_of j m) (ready_for j m) f (meaning (letter_read j m) place rs) → there clerk_sight rs f ≡ clerk_read j c →
      ClerkStep d count given f (plan_for rs (heard j m busy place)) j (R.clerk_takes c m busy)
  unfolding plan_for decided
  clerk-hears given j m busy place c f came means h =
      let decision = message_meant rs (letter_read j m) busy (meaning (letter_read j m) place rs) (message_for (letter_read j m).body) in
      subst (λ (plan : Plan Change). ClerkStep d count given f plan j (R.clerk_takes c m busy)) (sym (plan-place rs j m busy place decision))
      (plan-step given f j (takes rs j m busy (meaning (letter_read j m) place rs)) (R.clerk_takes c m busy) (own-takes rs j m busy f (meaning (letter_read j m) place rs) means)
      (subst (Its clerk_sight j) (sym h) (clerk-its j c)) (found-takes rs j m busy c f (meaning (letter_read j m) place rs) means h) (λ i q. came))

  -- any message
  pub clerk-heard : (j : Elements) (m : R.Msg) (busy : Bool) (place : ℕ) → Heard rs j m busy (meaning (letter_read j m) place rs) (plan_for rs (heard j m busy place))
  unfolding plan_for decided
  clerk-heard j m busy place =
      let means = meaning (letter_read j m) place rs in
      subst (Heard rs j m busy means) (sym (plan-place rs j m busy place (message_meant rs (letter_read j m) busy means (message_for (letter_read j m).body))))
      (all-heard rs j m busy means (sorted j m))

  pub clerk-acts : (name : Name) (act : Act) → Acted rs (R.act act) (plan_for rs (Input.Act name act))
  unfolding plan_for decided
  clerk-acts name act = acted-found rs (Input.Act name act) (λ r. refl) (R.act act) NoRow (named name rs) (named-used name rs) (λ y c i h read. refl)

  pub clerk-reports : (name : Name) (timer : Timer) → Acted rs (R.timer timer) (plan_for rs (Input.Timer name timer))
  unfolding plan_for decided
  clerk-reports name timer = acted-found rs (Input.Timer name timer) (λ r. refl) (R.timer timer) NotRunning (named name rs) (named-used name rs) (timer-ends rs timer)

  module _ (names : Names) (q : Request) where
    ask-place : (f : Option ℕ) → place rs ≡ f → AskStep d count names q (plan_of rs (Input.Ask names q) (ask_place q f))
    unfolding plan_of place
    ask-place None e = refused refl refl refl
    ask-place (Some i) e =
        stored i refl refl
        (λ given came.
        plan-step given None (ask_elements names q) (plan_of rs (Input.Ask names q) (Store i q)) (R.waiting (data_of q) q.kind, ask_read q ∷ [])
        (stores i (new_record names q) e) tt (refl, ap (λ (l : Letter). message_of l ∷ []) (sym (ask-letter names q))) (λ x y. came))

    ask-found : (f : Option ℕ) → AskStep d count names q (plan_of rs (Input.Ask names q) (ask_found rs q f))
    unfolding plan_of
    ask-found (Some i) = refused refl refl refl
    ask-found None = ask-place (place rs) refl

    pub clerk-asks : AskStep d count names q (plan_for rs (Input.Ask names q))
    unfolding plan_for decided
    clerk-asks = ask-found (identifier_means names.identifier rs)
