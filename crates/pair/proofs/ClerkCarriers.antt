-- The clerk's end refuses no message of a run with 8: what is sent by a connection choice is sent by one that is taken for the terms of its record.
use Rattle.std.specs.Prelude.{Option, Some, None, Result}
use Prim.Native.Nat.{ℕ}
use mathlib.Core.Path.{◌≡◌, refl, sym, ◌∙◌, ap, subst}
use mathlib.Core.Bool.{Bool, true, false, false≢true}
use mathlib.Core.List.{List, ◌∷◌}
use lib.Dec.{eqb}
use lib.ListN.{get_or}
use native.Mathlib.Omega.{arith}
use Rattle.lists.proofs.Choice.{pick_elim}
use Rattle.message.specs.declared.Kind.{Kind}
use Rattle.message.specs.declared.Message.{Message}
use Rattle.message.specs.declared.refusal.Refusal.TheVariants.{NotInCarrier}
use Rattle.message.specs.declared.refusal.Refusal.{Refusal}
use Rattle.message.specs.Refusals.{refusal_number}
use Rattle.desk.specs.Carriers.{carrier_fits}
use Rattle.desk.specs.declared.letter.Letter.{Letter}
use Rattle.desk.specs.declared.sends.Elements.{Elements}
use Rattle.terms.specs.declared.means.Means.{Means}
use Rattle.places.specs.Places as P
use Rattle.clerk_table.specs.Inputs.{message_for, row_for}
use Rattle.clerk_table.specs.Step.{row_taken}
use Rattle.clerk_table.specs.declared.inputs.Input.{Input}
use Rattle.clerk_table.specs.declared.inputs.RecordMessage.{RecordMessage}
use Rattle.clerk_table.specs.declared.record.Decision.{Decision}
use Rattle.clerk_table.specs.declared.record.Decision.TheVariants.{Refuse, Take, Store}
use Rattle.clerk_table.specs.declared.record.Record.{Record}
use Rattle.clerk_table.specs.declared.table.Row.{Row}
use Rattle.clerk_records.specs.Records.{blank, records}
use Rattle.clerk_records.specs.Meaning.{meaning}
use Rattle.clerk_plan.specs.Plan.{holds_for, row_decision, message_meant, decided, plan_of, plan_for}
use Rattle.clerk.specs.Entry.{ask_flags}
use Rattle.clerk.specs.Steps.{step, entered, received}
use Rattle.pair_request.specs.Reading as R
use Rattle.pair_request.proofs.Effects.{Carried}
use Rattle.pair_request.proofs.Claims.{clerk-carried}
use Rattle.pair.specs.World.{Of, Naming, World, clerk_hears, label_of}
use Rattle.pair.proofs.Keys.{Tells}
use Rattle.pair.proofs.Sits.{label, there, not-one}
use Rattle.pair.proofs.Ends.{clerk_sight, conn_read, waiting_record, live_record, clerk_read, letter_read, set_of}
use Rattle.pair.proofs.Letters.{clear-name}
use Rattle.pair.proofs.Means.{Meant, found, late, missed, no_longer}
use Rattle.pair.proofs.Wires.{Worded, word, worded-label}
use Rattle.pair.proofs.ClerkEnd.{take_decision, request-away, ready_for, at-record}
use Rattle.pair.proofs.ClerkSteps.{entry-as, hear_head}
use Rattle.pair.proofs.Sim.{Asked, Good, Fine}
use Rattle.pair.proofs.Runs.{Known}

-- ---- a decision that refuses with 8
abbrev is_eight : Option Refusal → Bool
is_eight None = false
is_eight (Some refusal) = eqb (refusal_number refusal) 8

abbrev eight : Decision → Bool
eight (Refuse refusal reply) = eqb (refusal_number refusal) 8
eight (Take i row) = false
eight (Store i q) = false

plan-eight : (rs : List Record) (input : Input) (d : Decision) → (plan_of rs input d).outcome.refusal ≡ Some NotInCarrier → eight d ≡ true
unfolding plan_of row_taken
plan-eight rs input (Refuse refusal reply) e = ap is_eight e
plan-eight rs input (Take i row) e = ap is_eight e
plan-eight rs input (Store i q) e = ap is_eight e

-- a carrier that is allowed is not refused
record-fits :
    (i : ℕ) (r : Record) (l : Letter) (message : RecordMessage) (row : Row) → carrier_fits l.body r.terms.connection l.carrier ≡ true →
    eight (row_decision i r l message row) ≡ false
record-fits i r l message row fits =
    rw fits (pick_elim (λ (d : Decision). eight d ≡ false) (holds_for row r) (λ h. refl) (λ h. refl))

take-fits :
    (i : ℕ) (r : Record) (l : Letter) (busy : Bool) (x : Option RecordMessage) → carrier_fits l.body r.terms.connection l.carrier ≡ true →
    eight (take_decision i r l busy x) ≡ false
take-fits i r l busy None fits = refl
take-fits i r l busy (Some message) fits = record-fits i r l message (row_for message busy r.terms.keep r.terms.kind) fits

-- ---- by the record
waiting-fits :
    (j : Elements) (i : ℕ) (d : R.Data) (kind : Kind) (m : R.Msg) (busy : Bool) →
    eight (take_decision i (waiting_record j d kind) (letter_read j m) busy (message_for (letter_read j m).body)) ≡ false
unfolding carrier_fits
waiting-fits j i d kind (R.request e kind' q) busy = rw (request-away kind' j.service (ask_flags e.canKeep q))
waiting-fits j i d kind (R.result k R.ret) busy = refl
waiting-fits j i d kind (R.result k R.rls) busy = refl
waiting-fits j i d kind (R.denied true) busy = refl
waiting-fits j i d kind (R.denied false) busy = refl
waiting-fits j i d kind (R.exec R.ret) true = refl
waiting-fits j i d kind (R.exec R.rls) true = refl
waiting-fits j i d kind (R.exec R.ret) false = refl
waiting-fits j i d kind (R.exec R.rls) false = refl
waiting-fits j i d kind R.ringout busy = refl
waiting-fits j i d kind R.busy_again busy = refl
waiting-fits j i d kind R.no_match busy = refl
waiting-fits j i d kind (R.suspend n) busy = refl
waiting-fits j i d kind (R.resume R.ret) busy = refl
waiting-fits j i d kind (R.resume R.rls) busy = refl
waiting-fits j i d kind (R.cancel R.ret) busy = refl
waiting-fits j i d kind (R.cancel R.rls) busy = refl
waiting-fits j i d kind R.alerts busy = refl
waiting-fits j i d kind R.failed busy = refl

module _ (j : Elements) (i : ℕ) (t : R.Terms) (own : R.Own) (s : R.CState) (busy : Bool) where
  abbrev Taking : R.Msg → Type 0
  Taking m = eight (take_decision i (live_record j t own s) (letter_read j m) busy (message_for (letter_read j m).body)) ≡ false

  by : (m : R.Msg) → carrier_fits (letter_read j m).body (conn_read (R.conn t)) (letter_read j m).carrier ≡ true → Taking m
  by m = take-fits i (live_record j t own s) (letter_read j m) busy (message_for (letter_read j m).body)

live-fits : (j : Elements) (i : ℕ) (t : R.Terms) (own : R.Own) (s : R.CState) (m : R.Msg) (busy : Bool) → Carried t m → Taking j i t own s busy m
unfolding carrier_fits
live-fits j i t own s (R.request e kind q) busy h = rw (request-away kind j.service (ask_flags e.canKeep q))
live-fits j i t own s (R.result k R.ret) busy h = by j i t own s busy (R.result k R.ret) refl
live-fits j i t own s (R.result k R.rls) busy h = by j i t own s busy (R.result k R.rls) refl
live-fits j i t own s (R.denied w) busy h = by j i t own s busy (R.denied w) refl
live-fits j i (R.chosen d k R.ret) own s (R.exec R.ret) busy h = by j i (R.chosen d k R.ret) own s busy (R.exec R.ret) refl
live-fits j i (R.chosen d k R.ret) own s (R.exec R.rls) busy h = by j i (R.chosen d k R.ret) own s busy (R.exec R.rls) refl
live-fits j i (R.chosen d k R.rls) own s (R.exec R.ret) busy h = absurd (false≢true h)
live-fits j i (R.chosen d k R.rls) own s (R.exec R.rls) busy h = by j i (R.chosen d k R.rls) own s busy (R.exec R.rls) refl
live-fits j i t own s R.ringout busy h = refl
live-fits j i t own s R.busy_again busy h = by j i t own s busy R.busy_again refl
live-fits j i t own s R.no_match busy h = by j i t own s busy R.no_match refl
live-fits j i t own s (R.suspend n) busy h = refl
live-fits j i t own s (R.resume R.ret) busy h = refl
live-fits j i t own s (R.resume R.rls) busy h = refl
live-fits j i t own s (R.cancel R.ret) busy h = by j i t own s busy (R.cancel R.ret) refl
live-fits j i t own s (R.cancel R.rls) busy h = by j i t own s busy (R.cancel R.rls) refl
live-fits j i t own s R.alerts busy h = by j i t own s busy R.alerts refl
live-fits j i t own s R.failed busy h = by j i t own s busy R.failed refl

-- ---- on the desk
module _ (j : Elements) (rs : List Record) (m : R.Msg) (busy : Bool) where
  missed-fits : (x : Option RecordMessage) → eight (message_meant rs (letter_read j m) busy Means.Nothing x) ≡ false
  missed-fits None = refl
  missed-fits (Some message) = refl

  late-fits : (x : Option RecordMessage) → eight (message_meant rs (letter_read j m) busy Means.NotNow x) ≡ false
  late-fits None = refl
  late-fits (Some message) = refl

  at-decision : (i : ℕ) (x : Option RecordMessage) → message_meant rs (letter_read j m) busy (Means.At i) x ≡ take_decision i (get_or rs i blank) (letter_read j m) busy x
  at-decision i None = refl
  at-decision i (Some message) = refl

  taken-fits :
      (i : ℕ) (r : Record) → P.one (get_or rs i blank) ≡ P.one r → eight (take_decision i r (letter_read j m) busy (message_for (letter_read j m).body)) ≡ false →
      eight (message_meant rs (letter_read j m) busy (Means.At i) (message_for (letter_read j m).body)) ≡ false
  taken-fits i r h fits =
      ap eight (at-decision i (message_for (letter_read j m).body))
      ∙ at-record rs i r (λ (x : Record). eight (take_decision i x (letter_read j m) busy (message_for (letter_read j m).body)) ≡ false) h fits

  found-fits :
      (c : R.Clerk) (f : Option ℕ) (means : Means) → Meant clerk_sight rs (set_of j m) (ready_for j m) f means → there clerk_sight rs f ≡ clerk_read j c →
      ((t : R.Terms) (own : R.Own) (s : R.CState) → c ≡ R.live t own s → Carried t m) → eight (message_meant rs (letter_read j m) busy means (message_for (letter_read j m).body)) ≡ false
  found-fits c f means missed h carried = missed-fits (message_for (letter_read j m).body)
  found-fits c f means (no_longer set) h carried = late-fits (message_for (letter_read j m).body)
  found-fits c f means (late i set ready) h carried = late-fits (message_for (letter_read j m).body)
  found-fits R.absent f means (found i) h carried = not-one (sym h)
  found-fits (R.waiting d kind) f means (found i) h carried = taken-fits i (waiting_record j d kind) h (waiting-fits j i d kind m busy)
  found-fits (R.live t own s) f means (found i) h carried = taken-fits i (live_record j t own s) h (live-fits j i t own s m busy (carried t own s refl))

  message-fits :
      (place : ℕ) (c : R.Clerk) (f : Option ℕ) → Meant clerk_sight rs (set_of j m) (ready_for j m) f (meaning (letter_read j m) place rs) → there clerk_sight rs f ≡ clerk_read j c →
      ((t : R.Terms) (own : R.Own) (s : R.CState) → c ≡ R.live t own s → Carried t m) → (plan_for rs (Input.Message (letter_read j m) busy place)).outcome.refusal ≡ Some NotInCarrier → ⊥
  unfolding plan_for decided
  message-fits place c f means h carried refused =
      let input = Input.Message (letter_read j m) busy place in
      false≢true (sym (found-fits c f (meaning (letter_read j m) place rs) means h carried) ∙ plan-eight rs input (decided rs input) refused)

-- ---- in a world of a run
pub clerk-fits :
    {K : Type 0} {n : Naming K} (tells : Tells n) {Inv : World → Type 0} {k : K} {p : R.Policy} {w : World} (g : Good p w) → Known n Inv k p w → (x : Of Message) (rest : List (Of Message)) (busy : Bool) (place : ℕ) →
    n.key (label_of x) ≡ k → w.down ≡ x ∷ rest → Worded (Asked w.history) (x ∷ rest) → Fine n k w (clerk_hears busy place) → (received w.clerk w.count x.it busy place).outcome.refusal ≡ Some NotInCarrier → ⊥
unfolding entered step
clerk-fits {n = n} tells {k = k} {w = w} g known x rest busy place key e (word l m taken clear others) fine refused =
    let rs = records w.clerk.words in
    let own : n.key (label l) ≡ k = sym (ap n.key (worded-label l m (clear-name l.it m clear))) ∙ key in
    let head = hear_head tells g busy place l m rest e taken clear others k known.net known.sim fine own in
    let h = head.0 in
    let heard : (plan_for rs (Input.Message (letter_read l.it m) busy place)).outcome.refusal ≡ Some NotInCarrier =
    ap (λ (y : Result Input Refusal). (entered w.clerk w.count y).outcome.refusal) (sym (entry-as tells g busy place l m rest e taken clear others)) ∙ refused in
    message-fits known.sim.name rs h.code busy place known.net.clerk known.sim.clerk_place head.1.1 known.sim.clerk
    (λ t own s q. clerk-carried t own s h.code h.left known.reach q h.whole)
    (subst (λ (y : Letter). (plan_for rs (Input.Message y busy place)).outcome.refusal ≡ Some NotInCarrier) head.1.0 heard)
