-- The line's end refuses no message of a run with 8: a request goes in Setup, and what is sent by a connection choice is sent by one that is taken for the terms of its record.
use Rattle.std.specs.Prelude.{Option, Some, None, Result}
use Prim.Native.Nat.{ℕ}
use mathlib.Core.Path.{◌≡◌, refl, sym, ◌∙◌, ap, subst}
use mathlib.Core.Bool.{Bool, true, false, false≢true}
use mathlib.Core.List.{List, ◌∷◌}
use lib.Dec.{eqb, ltb}
use lib.ListN.{get_or}
use native.Mathlib.Omega.{arith}
use Rattle.lists.specs.Lists.{first, count}
use Rattle.lists.proofs.Choice.{pick_elim}
use Rattle.message.specs.declared.Kind.{Kind}
use Rattle.message.specs.declared.Message.{Message}
use Rattle.message.specs.declared.refusal.Refusal.TheVariants.{NotInCarrier}
use Rattle.message.specs.declared.refusal.Refusal.{Refusal}
use Rattle.message.specs.Refusals.{refusal_number}
use Rattle.desk.specs.Carriers.{carrier_fits}
use Rattle.desk.specs.declared.letter.Letter.{Letter}
use Rattle.desk.specs.declared.sends.Elements.{Elements}
use Rattle.terms.specs.declared.means.Means.{Means}
use Rattle.terms.specs.declared.request.Names.{Names}
use Rattle.terms.specs.declared.request.Request.{Request}
use Rattle.line_table.specs.Inputs.{row_for}
use Rattle.line_table.specs.Line.{allows}
use Rattle.line_table.specs.Search.{of_line, passes}
use Rattle.line_table.specs.Step.{row_taken}
use Rattle.line_table.specs.declared.inputs.Input.{Input}
use Rattle.line_table.specs.declared.inputs.RecordMessage.{RecordMessage}
use Rattle.line_table.specs.declared.inputs.RecordMessage.TheVariants as Message
use Rattle.line_table.specs.declared.record.Decision.{Decision}
use Rattle.line_table.specs.declared.record.Decision.TheVariants.{Refuse, Deny, Take, Store, Report}
use Rattle.line_table.specs.declared.record.Record.{Record}
use Rattle.line_table.specs.declared.search.Sought.TheVariants.{Duplicate}
use Rattle.line_table.specs.declared.table.Row.{Row}
use Rattle.line_records.specs.Records.{blank, records, place}
use Rattle.line_records.specs.Meaning.{meaning}
use Rattle.line_records.specs.Lines.{no_line, lines, line_at}
use Rattle.line_plan.specs.Decide.{line_most, holds_for, takes_call, row_decision, record_meant, record_decision, store_found, counted_decision, duplicate_found, admitted_decision, line_found, request_decision, message_decision, decided}
use Rattle.line_plan.specs.Plan.{plan_of, plan_for}
use Rattle.clerk.specs.Entry.{ask_flags}
use Rattle.line.specs.Steps.{step, entered, received}
use Rattle.pair_request.specs.Reading as R
use Rattle.pair_request.proofs.Effects.{Carried}
use Rattle.pair_request.proofs.Claims.{line-carried}
use Rattle.pair_request.specs.Listed.{NotReq}
use Rattle.pair.specs.World.{Of, Naming, World, line_hears, label_of}
use Rattle.pair.proofs.Keys.{Tells}
use Rattle.pair.proofs.Sits.{label, there, not-one}
use Rattle.pair.proofs.Ends.{line_sight, line_record, line_read, names_read, request_read, letter_read, set_of}
use Rattle.pair.proofs.Letters.{clear-name}
use Rattle.pair.proofs.Means.{Meant, found, late, missed, no_longer}
use Rattle.pair.proofs.Wires.{Worded, word, worded-label}
use Rattle.pair.proofs.LineRows.{record_message}
use Rattle.pair.proofs.LineEnd.{found-read, ready_for, request-meant, request-carried}
use Rattle.pair.proofs.LineSteps.{entry-as, hear_head, hear_means}
use Rattle.pair.proofs.Sim.{Asked, Good, Fine}
use Rattle.pair.proofs.Runs.{Known}

-- ---- a decision that refuses with 8
abbrev is_eight : Option Refusal → Bool
is_eight None = false
is_eight (Some refusal) = eqb (refusal_number refusal) 8

abbrev eight : Decision → Bool
eight (Refuse refusal reply) = eqb (refusal_number refusal) 8
eight (Deny error) = false
eight (Take i row) = false
eight (Store i q busy) = false
eight (Report k busy) = false

plan-eight : (ws : List ℕ) (input : Input) (d : Decision) → (plan_of ws input d).outcome.refusal ≡ Some NotInCarrier → eight d ≡ true
unfolding plan_of row_taken
plan-eight ws input (Refuse refusal reply) e = ap is_eight e
plan-eight ws input (Deny error) e = ap is_eight e
plan-eight ws input (Take i row) e = ap is_eight e
plan-eight ws input (Store i q busy) e = ap is_eight e
plan-eight ws input (Report k busy) e = ap is_eight e

-- a carrier that is allowed is not refused
record-fits :
    (i : ℕ) (r : Record) (l : Letter) (message : RecordMessage) (row : Row) → carrier_fits l.body r.terms.connection l.carrier ≡ true →
    eight (row_decision i r l message row) ≡ false
record-fits i r l message row fits =
    rw fits (pick_elim (λ (d : Decision). eight d ≡ false) (holds_for row r) (λ h. refl) (λ h. refl))

-- ---- a message about a record, by what is held
message-fits :
    (j : Elements) (b : Bool) (t : R.Terms) (own : R.Own) (s : R.LState) (message : RecordMessage) (n : R.Conn) → Carried t (record_message message n) →
    carrier_fits (letter_read j (record_message message n)).body (line_record j b t own s).terms.connection (letter_read j (record_message message n)).carrier ≡ true
unfolding carrier_fits
message-fits j b t own s Message.Ringout n h = refl
message-fits j b (R.chosen d k R.ret) own s Message.Suspend R.ret h = refl
message-fits j b (R.chosen d k R.ret) own s Message.Suspend R.rls h = refl
message-fits j b (R.chosen d k R.rls) own s Message.Suspend R.ret h = absurd (false≢true h)
message-fits j b (R.chosen d k R.rls) own s Message.Suspend R.rls h = refl
message-fits j b (R.chosen d k R.ret) own s Message.Resume R.ret h = refl
message-fits j b (R.chosen d k R.ret) own s Message.Resume R.rls h = refl
message-fits j b (R.chosen d k R.rls) own s Message.Resume R.ret h = absurd (false≢true h)
message-fits j b (R.chosen d k R.rls) own s Message.Resume R.rls h = refl
message-fits j b t own s Message.Cancel R.ret h = refl
message-fits j b t own s Message.Cancel R.rls h = refl

-- ---- on the desk
record-eight :
    (ws : List ℕ) (j : Elements) (l : R.Line) (b : Bool) (message : RecordMessage) (n : R.Conn) (f : Option ℕ) (means : Means) →
    Meant line_sight (records ws) (set_of j (record_message message n)) (ready_for j (record_message message n)) f means → there line_sight (records ws) f ≡ line_read j b l →
    ((t : R.Terms) (own : R.Own) (s : R.LState) → l ≡ R.holds t own s → Carried t (record_message message n)) →
    eight (record_meant ws (letter_read j (record_message message n)) message means) ≡ false
record-eight ws j l b message n f means missed h carried = refl
record-eight ws j l b message n f means (no_longer set) h carried = refl
record-eight ws j l b message n f means (late i set ready) h carried = refl
record-eight ws j R.none b message n f means (found i) h carried = not-one (sym h)
record-eight ws j (R.holds t own s) b message n f means (found i) h carried =
    let its : Record = get_or (records ws) i blank in
    record-fits i its (letter_read j (record_message message n)) message (row_for message (takes_call ws its.terms.numberB) its.terms.keep)
    (subst
    (λ (r : Record). carrier_fits (letter_read j (record_message message n)).body r.terms.connection (letter_read j (record_message message n)).carrier ≡ true)
    (sym (found-read ws j b t own s i h))
    (message-fits j b t own s message n (carried t own s refl)))

-- ---- a request is stored or denied
module _ (ws : List ℕ) (names : Names) (q : Request) where
  store-eight : (busy : Bool) (f : Option ℕ) → eight (store_found q busy f) ≡ false
  store-eight busy None = refl
  store-eight busy (Some i) = refl

  duplicate_eight : (busy : Bool) (f : Option ℕ) → eight (duplicate_found ws names q busy f) ≡ false
  unfolding counted_decision
  duplicate_eight busy (Some i) = refl
  duplicate_eight busy None =
      pick_elim (λ (d : Decision). eight d ≡ false) (ltb (count (of_line names.numberB) (records ws)) line_most)
      (λ t. store-eight busy (place (records ws)))
      (λ t. refl)

  line-eight : (f : Option ℕ) → eight (line_found ws names q f) ≡ false
  unfolding admitted_decision
  line-eight None = refl
  line-eight (Some k) =
      let line = get_or (lines ws) k no_line in
      pick_elim (λ (d : Decision). eight d ≡ false) (allows line q.kind)
      (λ t. duplicate_eight line.busy (first (passes (Duplicate names)) (records ws)))
      (λ t. refl)

-- ---- every message, by what it means
module _ (ws : List ℕ) (j : Elements) (place : ℕ) where
  request-eight : (d : R.Data) (kind : Kind) (q : ℕ) → eight (message_decision ws (letter_read j (R.request d kind q)) place) ≡ false
  unfolding message_decision request_decision
  request-eight d kind q =
      rw (request-meant kind j.service (ask_flags d.canKeep q), request-carried kind j.service (ask_flags d.canKeep q))
      (line-eight ws (names_read j) (request_read j d kind q) (line_at j.numberB (lines ws)))

  module _ (l : R.Line) (b : Bool) (f : Option ℕ) (h : there line_sight (records ws) f ≡ line_read j b l) where
    message-eight :
        (m : R.Msg) → (NotReq m → Meant line_sight (records ws) (set_of j m) (ready_for j m) f (meaning (letter_read j m) place (records ws))) →
        ((t : R.Terms) (own : R.Own) (s : R.LState) → l ≡ R.holds t own s → Carried t m) → eight (message_decision ws (letter_read j m) place) ≡ false
    unfolding message_decision record_decision
    message-eight (R.request d kind q) e carried = request-eight d kind q
    message-eight (R.result k n) e carried = refl
    message-eight (R.denied short) e carried = refl
    message-eight (R.exec R.ret) e carried = refl
    message-eight (R.exec R.rls) e carried = refl
    message-eight R.ringout e carried = record-eight ws j l b Message.Ringout R.ret f _ (e tt) h carried
    message-eight R.busy_again e carried = refl
    message-eight R.no_match e carried = refl
    message-eight (R.suspend n) e carried = record-eight ws j l b Message.Suspend n f _ (e tt) h carried
    message-eight (R.resume R.ret) e carried = record-eight ws j l b Message.Resume R.ret f _ (e tt) h carried
    message-eight (R.resume R.rls) e carried = record-eight ws j l b Message.Resume R.rls f _ (e tt) h carried
    message-eight (R.cancel R.ret) e carried = record-eight ws j l b Message.Cancel R.ret f _ (e tt) h carried
    message-eight (R.cancel R.rls) e carried = record-eight ws j l b Message.Cancel R.rls f _ (e tt) h carried
    message-eight R.alerts e carried = refl
    message-eight R.failed e carried = refl

-- ---- in a world of a run
pub line-fits :
    {K : Type 0} {n : Naming K} (tells : Tells n) {Inv : World → Type 0} {k : K} {p : R.Policy} {w : World} (g : Good p w) → Known n Inv k p w → (x : Of Message) (rest : List (Of Message)) (place : ℕ) →
    n.key (label_of x) ≡ k → w.up ≡ x ∷ rest → Worded (Asked w.history) (x ∷ rest) → Fine n k w (line_hears place) → (received w.line w.count x.it place).outcome.refusal ≡ Some NotInCarrier → ⊥
unfolding entered step plan_for decided
line-fits {n = n} tells {k = k} {w = w} g known x rest place key e (word l m taken clear others) fine refused =
    let ws = w.line.words in
    let own : n.key (label l) ≡ k = sym (ap n.key (worded-label l m (clear-name l.it m clear))) ∙ key in
    let head = hear_head tells g place l m rest e taken clear others k known.net known.sim own in
    let h = head.0 in
    let heard : (plan_for ws (Input.Message (letter_read l.it m) place)).outcome.refusal ≡ Some NotInCarrier =
    ap (λ (y : Result Input Refusal). (entered w.line w.count y).outcome.refusal) (sym (entry-as tells g place l m rest e taken clear others)) ∙ refused in
    let said = subst (λ (y : Letter). (plan_for ws (Input.Message y place)).outcome.refusal ≡ Some NotInCarrier) head.1 heard in
    let so = plan-eight ws (Input.Message (letter_read known.sim.name h.code) place) (message_decision ws (letter_read known.sim.name h.code) place) said in
    let fits =
    message-eight ws known.sim.name place known.net.line known.sim.active known.sim.line_place known.sim.line h.code
    (hear_means tells g place l m rest e taken clear others k known.net known.sim fine own)
    (λ t own s q. line-carried t own s h.code h.left known.reach q h.whole) in
    false≢true (sym fits ∙ so)
