-- Every plan is about the record at the place that its outcome tells, and keeps it whole: what is meant is used and keeps its identifier, no row leads to Free, only a result leaves Wait-Ack and it brings both choices, and an ask is stored under a new identifier or none.
use Rattle.lists.specs.declared.words.Words.{Words}
use Rattle.std.specs.Prelude.{Option, Some, None}
use Prim.Native.Nat.{ℕ}
use mathlib.Core.Path.{◌≡◌, refl, sym, ap, ◌∙◌, subst}
use mathlib.Core.Bool.{Bool, true, false}
use mathlib.Core.List.{List}
use lib.ListN.{get_or}
use lib.Dec.{eqb}
use native.Mathlib.Omega.{arith}
use Rattle.lists.proofs.Choice.{pick_elim, no_true}
use Rattle.message.specs.declared.Kind.{Kind}
use Rattle.message.specs.declared.Kind.TheVariants.{Ccbs, Ccnr}
use Rattle.message.specs.declared.Carrier.{Carrier}
use Rattle.message.specs.declared.Carrier.TheVariants.{Setup, Connect, Facility, ReleaseComplete, Alerting}
use Rattle.message.specs.declared.refusal.Refusal.TheVariants.{NoRow, NotRunning}
use Rattle.desk.specs.Carriers.{carrier_fits}
use Rattle.desk.specs.declared.Connection.{Connection}
use Rattle.desk.proofs.CarriersLaws.{retained-holds}
use Rattle.desk.specs.declared.Keep.{Keep}
use Rattle.desk.specs.declared.letter.Letter.{Letter}
use Rattle.terms.specs.declared.means.Means as M
use Rattle.terms.specs.declared.means.Means.TheVariants.{Nothing, NotNow, At}
use Rattle.terms.specs.declared.request.Name.{Name}
use Rattle.terms.specs.declared.request.Names.{Names}
use Rattle.terms.specs.declared.request.Request.{Request}
use Rattle.places.specs.Places.{known_in, Moved, stays, turns, stores, removes}
use Rattle.clerk_table.specs.Table.{holds_in, behind, in_use}
use Rattle.terms.specs.Terms.{with_kind}
use Rattle.clerk_table.specs.Record.{with_state, with_terms, with_down}
use Rattle.clerk_table.specs.Step.{row_taken}
use Rattle.clerk_table.specs.Inputs.{message_for, row_for, row_of_act, row_of_timer, error_row, possible_row, busy_again_row, ringout_error_row, keep_chosen, connection_meant, acknowledged, settled}
use Rattle.clerk_table.specs.declared.table.State.{State}
use Rattle.clerk_table.specs.declared.table.State.TheVariants.{Free, WaitAck, Invoked, WaitAnswer, Ringout, Suspended}
use Rattle.clerk_table.specs.declared.table.Home.{Home}
use Rattle.clerk_table.specs.declared.table.Home.TheVariants.{In}
use Rattle.clerk_table.specs.declared.table.Row.{Row}
use Rattle.clerk_table.specs.declared.table.Row.TheVariants.{Accepted, DeniedShort, DeniedLong, Recalls, Suspends, RingsOut, Resumes, GoesOn, Completes, CallFails, BusyAgainKept, BusyAgainWaiting, BusyAgainEnded, NotMatched, LineCancels, UserCancels, Falls, T1RunsOut, T2RunsOut, T3RunsOut}
use Rattle.clerk_table.specs.declared.table.Timer.{Timer}
use Rattle.clerk_table.specs.declared.table.Timer.TheVariants.{T1, T2, T3}
use Rattle.clerk_table.specs.declared.record.Record.{Record}
use Rattle.clerk_table.specs.declared.record.Decision.{Decision}
use Rattle.clerk_table.specs.declared.record.Change.TheVariants.{Turn, Remove}
use Rattle.desk.specs.declared.plan.Plan.{Plan}
use Rattle.clerk_table.specs.declared.inputs.Act.{Act}
use Rattle.clerk_table.specs.declared.inputs.Act.TheVariants.{Accept, Resume, GoOn, Cancel, Fell}
use Rattle.clerk_table.specs.declared.inputs.Input.{Input}
use Rattle.clerk_table.specs.declared.inputs.RecordMessage.{RecordMessage}
use Rattle.clerk_table.specs.declared.inputs.RecordMessage.TheVariants as Message
use Rattle.clerk_records.specs.Records.{blank, used, meant, place, records_after}
use Rattle.clerk_records.specs.Meaning.{identifier_means, meaning, named}
use Rattle.clerk_records.proofs.MeaningLaws.{meaning-used, named-used}
use Rattle.clerk_plan.specs.Plan.{holds_for, ask_place, ask_found, row_decision, message_found, message_meant, own_found, decided, new_record, plan_of, plan_for}
use Rattle.clerk_sound.specs.Sound.{clerk_view, Whole, Sound, Fair}
use Rattle.clerk_sound.proofs.Ranges.{fair-whole}
use Rattle.clerk_table.specs.declared.record.Change.{Change}

-- what is put over a record is whole
abbrev pub Turned : Record → Record → Type 0
Turned a b = Whole b

-- a plan, about the record at its outcome's place
abbrev pub Goes : List Record → Plan Change → Type 0
Goes rs plan = Moved clerk_view Turned Whole plan.outcome.at rs (records_after rs plan.change)

-- ---- states: only Wait-Ack is before the acknowledgment
behind-used : (s : State) → behind s ≡ true → in_use s ≡ true
behind-used Free e = e
behind-used WaitAck e = refl
behind-used Invoked e = e
behind-used WaitAnswer e = e
behind-used Ringout e = e
behind-used Suspended e = e

not-waiting : (s : State) → behind s ≡ true → s ≡ WaitAck → ⊥
not-waiting s a e = no_true (sym (ap behind e) ∙ a)

waits : (s : State) (c : Connection) → holds_in (In WaitAck) s c ≡ true → s ≡ WaitAck
waits Free c e = absurd (no_true e)
waits WaitAck c e = refl
waits Invoked c e = absurd (no_true e)
waits WaitAnswer c e = absurd (no_true e)
waits Ringout c e = absurd (no_true e)
waits Suspended c e = absurd (no_true e)

-- ---- the choices that a result brings
ends : Keep.Ends ≡ Keep.Empty → ⊥
ends e = let z : ◌≡◌ {A = ℕ} 0 1 = cc in omega arith

keeps : Keep.Keeps ≡ Keep.Empty → ⊥
keeps e = let z : ◌≡◌ {A = ℕ} 0 1 = cc in omega arith

keep-chosen : (canKeep : Bool) (keep : ℕ) → keep_chosen canKeep keep ≡ Keep.Empty → ⊥
keep-chosen canKeep keep =
    pick_elim (λ k. k ≡ Keep.Empty → ⊥) canKeep (λ t. pick_elim (λ k. k ≡ Keep.Empty → ⊥) (eqb keep 1) (λ t. keeps) (λ f. ends)) (λ f. ends)

retained : Connection.Ret ≡ Connection.Empty → ⊥
retained e = let z : ◌≡◌ {A = ℕ} 0 1 = cc in omega arith

released : Connection.Rls ≡ Connection.Empty → ⊥
released e = let z : ◌≡◌ {A = ℕ} 0 1 = cc in omega arith

connection-chosen : (carrier : Carrier) → connection_meant carrier ≡ Connection.Empty → ⊥
connection-chosen Setup = released
connection-chosen Connect = retained
connection-chosen Facility = released
connection-chosen ReleaseComplete = released
connection-chosen Alerting = released

-- ---- rows: every one but the acknowledgment
abbrev later : Row → Bool
later Accepted = false
later DeniedShort = true
later DeniedLong = true
later Recalls = true
later Suspends = true
later RingsOut = true
later Resumes = true
later GoesOn = true
later Completes = true
later CallFails = true
later BusyAgainKept = true
later BusyAgainWaiting = true
later BusyAgainEnded = true
later NotMatched = true
later LineCancels = true
later UserCancels = true
later Falls = true
later T1RunsOut = true
later T2RunsOut = true
later T3RunsOut = true

error-later : (error : ℕ) → later (error_row error) ≡ true
error-later error = pick_elim (λ row. later row ≡ true) (eqb error 1) (λ t. refl) (λ f. refl)

possible-later : (busy : Bool) → later (possible_row busy) ≡ true
possible-later true = refl
possible-later false = refl

busy-again-later : (keep : Keep) (kind : Kind) → later (busy_again_row keep kind) ≡ true
busy-again-later Keep.Empty kind = refl
busy-again-later Keep.Ends kind = refl
busy-again-later Keep.Keeps Ccbs = refl
busy-again-later Keep.Keeps Ccnr = refl

ringout-error-later : (error : ℕ) (keep : Keep) (kind : Kind) → later (ringout_error_row error keep kind) ≡ true
ringout-error-later error keep kind = pick_elim (λ row. later row ≡ true) (eqb error 1) (λ t. busy-again-later keep kind) (λ f. refl)

act-later : (act : Act) → later (row_of_act act) ≡ true
act-later Accept = refl
act-later Resume = refl
act-later GoOn = refl
act-later Cancel = refl
act-later Fell = refl

timer-later : (timer : Timer) → later (row_of_timer timer) ≡ true
timer-later T1 = refl
timer-later T2 = refl
timer-later T3 = refl

-- ---- a row taken for the record of a place
module _ (rs : List Record) (i : ℕ) (sound : Sound rs) (u : used (get_or rs i blank) ≡ true) where
  abbrev r : Record
  r = get_or rs i blank

  -- a row of a state behind the acknowledgment is not taken in Wait-Ack
  away : (home : Home) → holds_in home WaitAck r.terms.connection ≡ false → holds_in home r.state r.terms.connection ≡ true → r.state ≡ WaitAck → ⊥
  away home not h e = no_true (sym not ∙ sym (ap (λ (s : State). holds_in home s r.terms.connection) e) ∙ h)

  -- from state to state behind the acknowledgment
  turned :
      (kind : Kind) (s : State) (down : Bool) → (down ≡ true → r.terms.connection ≡ Connection.Ret) → (r.state ≡ WaitAck → ⊥) → behind s ≡ true →
      Moved clerk_view Turned Whole (Some i) rs
      (records_after rs (Turn i (record { keep = r.terms.keep; connection = r.terms.connection; kind = kind; state = s; down = down })))
  turned kind s down fell away b =
      turns i (with_down (with_state (with_terms r (with_kind r.terms kind)) s) down) refl u (behind-used s b) refl
      (record {
        before = λ e. absurd (not-waiting s b e);
        behind = λ n. (sound.each i u).behind away;
        fell = fell;
        numberA = (sound.each i u).numberA;
        numberB = (sound.each i u).numberB;
        service = (sound.each i u).service;
      })
      refl

  gone : Moved clerk_view Turned Whole (Some i) rs (records_after rs (Remove i))
  gone = removes i refl u refl

  row-accepted : (keep : ℕ) (carrier : Carrier) → holds_for Accepted r ≡ true → Goes rs (row_taken i (acknowledged r keep carrier) Accepted)
  unfolding row_taken
  row-accepted keep carrier h =
      let whole = sound.each i u in
      turns i (with_state (acknowledged r keep carrier) Invoked) refl u refl refl
      (record {
        before = λ e. absurd (not-waiting Invoked refl e);
        behind = λ n. (keep-chosen r.canKeep keep, connection-chosen carrier);
        fell = λ e. absurd (retained (sym (whole.fell e) ∙ (whole.before (waits r.state r.terms.connection h)).1));
        numberA = (sound.each i u).numberA;
        numberB = (sound.each i u).numberB;
        service = (sound.each i u).service;
      })
      refl

  row-later : (row : Row) → later row ≡ true → holds_for row r ≡ true → Goes rs (row_taken i r row)
  unfolding row_taken
  row-later Accepted b h = absurd (no_true b)
  row-later DeniedShort b h = gone
  row-later DeniedLong b h = gone
  row-later Recalls b h = turned r.terms.kind WaitAnswer r.down (sound.each i u).fell (away (In Invoked) refl h) refl
  row-later Suspends b h = turned r.terms.kind Suspended r.down (sound.each i u).fell (away (In Invoked) refl h) refl
  row-later RingsOut b h = turned r.terms.kind Ringout r.down (sound.each i u).fell (away (In WaitAnswer) refl h) refl
  row-later Resumes b h = turned r.terms.kind Invoked r.down (sound.each i u).fell (away (In Suspended) refl h) refl
  row-later GoesOn b h = turned r.terms.kind WaitAnswer r.down (sound.each i u).fell (away (In Suspended) refl h) refl
  row-later Completes b h = gone
  row-later CallFails b h = gone
  row-later BusyAgainKept b h = turned r.terms.kind Invoked r.down (sound.each i u).fell (away (In Ringout) refl h) refl
  row-later BusyAgainWaiting b h = turned Ccbs Invoked r.down (sound.each i u).fell (away (In Ringout) refl h) refl
  row-later BusyAgainEnded b h = gone
  row-later NotMatched b h = gone
  row-later LineCancels b h = gone
  row-later UserCancels b h = gone
  row-later Falls b h =
      let holds = retained-holds r.terms.connection (behind r.state) h in
      turned r.terms.kind r.state true (λ e. holds.0) (not-waiting r.state holds.1) holds.1
  row-later T1RunsOut b h = gone
  row-later T2RunsOut b h = gone
  row-later T3RunsOut b h = gone

  row-message :
      (message : RecordMessage) (carrier : Carrier) (busy : Bool) → holds_for (row_for message busy r.terms.keep r.terms.kind) r ≡ true →
      Goes rs (row_taken i (settled (Some message) carrier r) (row_for message busy r.terms.keep r.terms.kind))
  row-message (Message.Result keep) carrier busy h = row-accepted keep carrier h
  row-message (Message.Error error) carrier busy h = row-later (error_row error) (error-later error) h
  row-message Message.ExecPossible carrier busy h = row-later (possible_row busy) (possible-later busy) h
  row-message (Message.RingoutError error) carrier busy h = row-later (ringout_error_row error r.terms.keep r.terms.kind) (ringout-error-later error r.terms.keep r.terms.kind) h
  row-message Message.Cancel carrier busy h = row-later LineCancels refl h
  row-message Message.Alerts carrier busy h = row-later Completes refl h
  row-message Message.Failed carrier busy h = row-later CallFails refl h

-- ---- decisions
-- what a record's desk knows of an identifier
known_same : (identifier : Option Words) (rs : List Record) → known_in clerk_view identifier rs ≡ identifier_means identifier rs
unfolding meant
known_same None rs = refl
known_same (Some words) rs = refl

module _ (rs : List Record) (sound : Sound rs) where
  -- a decision about an input, planned
  abbrev Means : Input → Decision → Type 0
  Means input decision = Goes rs (plan_of rs input decision)

  -- messages
  means-row :
      (l : Letter) (busy : Bool) (place : ℕ) (message : RecordMessage) → message_for l.body ≡ Some message → (i : ℕ) → used (get_or rs i blank) ≡ true →
      Means (Input.Message l busy place) (row_decision i (get_or rs i blank) l message (row_for message busy (get_or rs i blank).terms.keep (get_or rs i blank).terms.kind))
  unfolding plan_of
  means-row l busy place message e i u =
      let r = get_or rs i blank in
      let row = row_for message busy r.terms.keep r.terms.kind in
      pick_elim (Means (Input.Message l busy place)) (holds_for row r)
      (λ h.
      pick_elim (Means (Input.Message l busy place)) (carrier_fits l.body r.terms.connection l.carrier)
      (λ g.
      subst (λ (m : Option RecordMessage). Goes rs (row_taken i (settled m l.carrier r) row)) (sym e)
      (row-message rs i sound u message l.carrier busy h))
      (λ g. stays refl refl))
      (λ h. stays refl refl)

  means-found :
      (l : Letter) (busy : Bool) (place : ℕ) (message : RecordMessage) → message_for l.body ≡ Some message → (m : M.Means) → meaning l place rs ≡ m →
      Means (Input.Message l busy place) (message_found rs l busy message m)
  unfolding plan_of
  means-found l busy place message e Nothing f = stays refl refl
  means-found l busy place message e NotNow f = stays refl refl
  means-found l busy place message e (At i) f = means-row l busy place message e i (meaning-used l place rs i f)

  means-message :
      (l : Letter) (busy : Bool) (place : ℕ) (m : Option RecordMessage) → message_for l.body ≡ m → Means (Input.Message l busy place) (message_meant rs l busy (meaning l place rs) m)
  unfolding plan_of
  means-message l busy place None e = stays refl refl
  means-message l busy place (Some message) e = means-found l busy place message e (meaning l place rs) refl

  -- acts and timers
  means-act : (name : Name) (act : Act) (m : M.Means) → named name rs ≡ m → Means (Input.Act name act) (own_found rs (row_of_act act) NoRow m)
  unfolding plan_of
  means-act name act Nothing e = stays refl refl
  means-act name act NotNow e = stays refl refl
  means-act name act (At i) e =
      pick_elim (Means (Input.Act name act)) (holds_for (row_of_act act) (get_or rs i blank))
      (λ h. row-later rs i sound (named-used name rs i e) (row_of_act act) (act-later act) h)
      (λ h. stays refl refl)

  means-timer : (name : Name) (timer : Timer) (m : M.Means) → named name rs ≡ m → Means (Input.Timer name timer) (own_found rs (row_of_timer timer) NotRunning m)
  unfolding plan_of
  means-timer name timer Nothing e = stays refl refl
  means-timer name timer NotNow e = stays refl refl
  means-timer name timer (At i) e =
      pick_elim (Means (Input.Timer name timer)) (holds_for (row_of_timer timer) (get_or rs i blank))
      (λ h. row-later rs i sound (named-used name rs i e) (row_of_timer timer) (timer-later timer) h)
      (λ h. stays refl refl)

  -- asks
  module _ (names : Names) (q : Request) (whole : Whole (new_record names q)) where
    means-place : (f : Option ℕ) → identifier_means names.identifier rs ≡ None → place rs ≡ f → Means (Input.Ask names q) (ask_place q f)
    unfolding plan_of place
    means-place None new e = stays refl refl
    means-place (Some i) new e = stores i (new_record names q) refl e (known_same names.identifier rs ∙ new) refl whole refl

    means-ask : (f : Option ℕ) → identifier_means names.identifier rs ≡ f → Means (Input.Ask names q) (ask_found rs q f)
    unfolding plan_of
    means-ask (Some i) e = stays refl refl
    means-ask None e = means-place (place rs) e refl

  pub fair-goes : (input : Input) → Fair input → Goes rs (plan_for rs input)
  unfolding plan_for decided
  fair-goes (Input.Ask names q) fair = means-ask names q (fair-whole fair) (identifier_means names.identifier rs) refl
  fair-goes (Input.Message l busy place) fair = means-message l busy place (message_for l.body) refl
  fair-goes (Input.Act name act) fair = means-act name act (named name rs) refl
  fair-goes (Input.Timer name timer) fair = means-timer name timer (named name rs) refl
