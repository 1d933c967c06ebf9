-- Beside every used record stands the start of each timer that runs in its state, and its deadline is that of the start: so the clock's laws over true time are the desk's. In Ringout T2 keeps both, and is looked at again when the record is heeded.
use Rattle.message.specs.declared.Body.{Body}
use Rattle.std.specs.Prelude.{Option, Some, None, Ok, Err, Result}
use Prim.Native.Nat.{ℕ, zero, suc, ◌+◌, ◌%◌, ◌≤◌, ◌<◌}
use mathlib.Core.Path.{◌≡◌, refl, sym, ap, ◌∙◌, subst}
use mathlib.Core.Bool.{Bool, true, false}
use mathlib.Core.List.{List, [], ◌∷◌}
use lib.ListN.{length, get_or, set, length-set, length-replicate}
use lib.Seq.{get_or-set_same, get_or-set_other, set-get_or, set-set}
use lib.Dec.{ltb, eqb}
use native.Mathlib.Omega.{arith}
use borrow.Author.Tests.{ltb-true, ltb-false, eqb-true, eqb-false}
use Rattle.lists.specs.Choice.{pick}
use Rattle.lists.specs.Lists.{without}
use Rattle.lists.proofs.Choice.{pick_elim, no_true}
use Rattle.lists.proofs.Lists.{both_true, without-length, get_or-without-before}
use Rattle.clock.specs.Clock.{turn, half_turn, deadline_of, due}
use Rattle.message.specs.declared.Kind.{Kind}
use Rattle.message.specs.declared.Kind.TheVariants.{Ccbs}
use Rattle.message.specs.declared.Carrier.{Carrier}
use Rattle.message.specs.declared.refusal.Refusal.{Refusal}
use Rattle.message.specs.declared.refusal.Refusal.TheVariants.{NoRow, NotRunning}
use Rattle.desk.specs.Carriers.{carrier_fits}
use Rattle.desk.specs.declared.Connection.{Connection}
use Rattle.desk.specs.declared.letter.Letter.{Letter}
use Rattle.desk.specs.declared.outcome.Timers.{Timers}
use Rattle.terms.specs.declared.means.Means as M
use Rattle.terms.specs.declared.means.Means.TheVariants as Means
use Rattle.terms.specs.declared.request.Name.{Name}
use Rattle.terms.specs.declared.request.Request.{Request}
use Rattle.places.specs.Notes.{Note, started, day}
use Rattle.places.proofs.Noting.{Noted, noted-start, noted-later, noted-early, noted-due, noted-looked}
use Rattle.places.proofs.Staying.{place_inside, used-inside, moved_up}
use Rattle.clerk_table.specs.Table.{home_of, state_code, same_state, holds_in}
use Rattle.clerk_table.specs.Inputs.{names_of, row_of_timer, message_for, row_for, row_of_act, settled, settled_by}
use Rattle.clerk_table.specs.Step.{row_taken, only, running, in_ringout}
use Rattle.clerk_table.specs.declared.inputs.Input.{Input}
use Rattle.clerk_table.specs.declared.inputs.RecordMessage.{RecordMessage}
use Rattle.clerk_table.specs.declared.inputs.RecordMessage.TheVariants as Message
use Rattle.clerk_table.specs.declared.table.State.{State}
use Rattle.clerk_table.specs.declared.table.State.TheVariants.{Free, WaitAck, Invoked, WaitAnswer, Ringout, Suspended}
use Rattle.clerk_table.specs.declared.table.Row.{Row}
use Rattle.clerk_table.specs.declared.table.Row.TheVariants.{Accepted, DeniedShort, DeniedLong, Recalls, Suspends, RingsOut, Resumes, GoesOn, Completes, CallFails, BusyAgainKept, BusyAgainWaiting, BusyAgainEnded, NotMatched, LineCancels, UserCancels, Falls, T1RunsOut, T2RunsOut, T3RunsOut}
use Rattle.clerk_table.specs.declared.table.Timer.{Timer}
use Rattle.clerk_table.specs.declared.table.Timer.TheVariants.{T1, T2, T3}
use Rattle.clerk_table.specs.declared.record.Record.{Record}
use Rattle.clerk_table.specs.declared.record.Decision.{Decision}
use Rattle.clerk_table.specs.declared.record.Decision.TheVariants.{Refuse, Take, Store}
use Rattle.desk.specs.declared.plan.Plan.{Plan}
use Rattle.clerk_records.specs.Layout as Layout
use Rattle.clerk_records.specs.Codes.{state_of}
use Rattle.clerk_records.specs.Records.{blank, records, used, place, records_after, applied}
use Rattle.clerk_records.specs.Meaning.{identifier_means, meaning, named}
use Rattle.clerk_records.specs.Deadlines.{no_deadlines, deadlines, deadlines_after, with_deadline, length_of, deadlines_if, deadlines_started, deadline_in, timed, runs_out, expiring, expiring_at}
use Rattle.clerk_records.specs.declared.deadlines.Deadlines.{Deadlines}
use Rattle.clerk_records.proofs.RecordsLaws.{records-length, applied-length, records-applied}
use Rattle.clerk_records.proofs.MeaningLaws.{meaning-used, named-used}
use Rattle.clerk_records.proofs.TimersLaws.{deadlines-length, deadlines-applied, deadlines-timed}
use Rattle.clerk.proofs.StepsLaws.{made-length, records-made}
use Rattle.clerk.proofs.TickLaws.{none-one, due-runs, home-used}
use Rattle.clerk_plan.specs.Plan.{holds_for, ask_place, ask_found, row_decision, message_found, message_meant, own_found, decided, new_record, plan_of, plan_for}
use Rattle.clerk.specs.Start.{good_lengths}
use Rattle.clerk.specs.Entry.{bytes_entry}
use Rattle.clerk.specs.Steps.{made, step, entered, received_bytes}
use Rattle.clerk.specs.declared.start.Lengths.{Lengths}
use Rattle.clerk.specs.declared.Desk.{Desk}
use Rattle.clerk_sound.specs.Sound.{clerk_view}
use Rattle.clerk_sound.specs.Notes.{Notes, new_notes, no_notes, note_in, with_note, heeded_now, seconds_of, notes_after, notes_entered, notes_ticked}
use Rattle.clerk_sound.specs.Time.{long, NotLong, Lasting, begins, passes, steps, reads, ticks, NothingEarly, Due, DueInTick}
use Rattle.clerk_sound.proofs.Start.{blank-unused, start-blank}
use Rattle.clerk_sound.proofs.Lengths.{Measured, start-measured, applied-measured, made-measured, short, measured}
use Rattle.clerk_table.specs.declared.record.Change.{Change}

-- ---- which timers run in a state, and which of them count
abbrev among : Timers → Timer → Bool
among ts T1 = ts.t1
among ts T2 = ts.t2
among ts T3 = ts.t3

abbrev runs : State → Timer → Bool
runs s timer = among (running s) timer

counts-runs : (timer : Timer) (s : State) (c : Connection) → holds_in (home_of (row_of_timer timer)) s c ≡ true → runs s timer ≡ true
counts-runs T1 Free c e = e
counts-runs T1 WaitAck c e = refl
counts-runs T1 Invoked c e = e
counts-runs T1 WaitAnswer c e = e
counts-runs T1 Ringout c e = e
counts-runs T1 Suspended c e = e
counts-runs T2 Free c e = e
counts-runs T2 WaitAck c e = e
counts-runs T2 Invoked c e = refl
counts-runs T2 WaitAnswer c e = refl
counts-runs T2 Ringout c e = refl
counts-runs T2 Suspended c e = refl
counts-runs T3 Free c e = e
counts-runs T3 WaitAck c e = e
counts-runs T3 Invoked c e = e
counts-runs T3 WaitAnswer c e = refl
counts-runs T3 Ringout c e = e
counts-runs T3 Suspended c e = e

-- all but T2 in Ringout
runs-counts : (timer : Timer) (s : State) (c : Connection) → in_ringout s ≡ false → runs s timer ≡ true → holds_in (home_of (row_of_timer timer)) s c ≡ true
runs-counts T1 Free c q e = e
runs-counts T1 WaitAck c q e = refl
runs-counts T1 Invoked c q e = e
runs-counts T1 WaitAnswer c q e = e
runs-counts T1 Ringout c q e = e
runs-counts T1 Suspended c q e = e
runs-counts T2 Free c q e = e
runs-counts T2 WaitAck c q e = e
runs-counts T2 Invoked c q e = refl
runs-counts T2 WaitAnswer c q e = refl
runs-counts T2 Ringout c q e = absurd (no_true (sym q))
runs-counts T2 Suspended c q e = refl
runs-counts T3 Free c q e = e
runs-counts T3 WaitAck c q e = e
runs-counts T3 Invoked c q e = e
runs-counts T3 WaitAnswer c q e = refl
runs-counts T3 Ringout c q e = e
runs-counts T3 Suspended c q e = e

same-state : (a b : State) → same_state a b ≡ true → a ≡ b
unfolding state_of
same-state a b e = sym (back a) ∙ ap state_of (eqb-true (state_code a) (state_code b) e) ∙ back b
  where
    back : (s : State) → state_of (state_code s) ≡ s
    back Free = refl
    back WaitAck = refl
    back Invoked = refl
    back WaitAnswer = refl
    back Ringout = refl
    back Suspended = refl

-- a timer that runs in the state where a row is taken
runs-in : (home s : State) (timer : Timer) → runs home timer ≡ true → same_state home s ≡ true → runs s timer ≡ true
runs-in home s timer r e = sym (ap (λ (x : State). runs x timer) (same-state home s e)) ∙ r

-- ---- what stands beside a record in a state
record Beside (now last : ℕ) (s : State) (n : Notes) (d : Deadlines) : Type 0 where
  before : n.heeded ≤ now
  soon : last ≤ n.heeded + long
  each : (timer : Timer) → runs s timer ≡ true → Noted now n.heeded (note_in n timer) (deadline_in d timer)

-- in another state, where nothing is started
on :
    {now last : ℕ} {s : State} {n : Notes} {d : Deadlines} (after : State) → ((timer : Timer) → runs after timer ≡ true → runs s timer ≡ true) → Beside now last s n d →
    Beside now last after n d
on after ran b = record { before = b.before; soon = b.soon; each = λ timer e. b.each timer (ran timer e) }

-- T2 alone runs on
t2-on : (s : State) → runs s T2 ≡ true → (timer : Timer) → among (only T2) timer ≡ true → runs s timer ≡ true
t2-on s ran T1 e = absurd (no_true e)
t2-on s ran T2 e = ran
t2-on s ran T3 e = absurd (no_true e)

-- where one is started
module _ (now last seconds : ℕ) (h : seconds ≤ half_turn) (n : Notes) (d : Deadlines) where
  abbrev Starts : Timer → State → Notes → Type 0
  Starts timer s n = Beside now last s (with_note timer (started now seconds) n) (with_deadline timer (deadline_of (now % turn) seconds) d)

  starts-t1 : last ≤ now → Starts T1 WaitAck (new_notes now)
  starts-t1 order = record { before = omega arith; soon = omega (arith, order); each = by }
    where
      by :
          (timer : Timer) → runs WaitAck timer ≡ true →
          Noted now now (note_in (with_note T1 (started now seconds) (new_notes now)) timer) (deadline_in (with_deadline T1 (deadline_of (now % turn) seconds) d) timer)
      by T1 e = noted-start now now seconds h (omega arith)
      by T2 e = absurd (no_true e)
      by T3 e = absurd (no_true e)

  starts-t2 : {s : State} → Beside now last s n d → Starts T2 Invoked n
  starts-t2 b = record { before = b.before; soon = b.soon; each = by }
    where
      by :
          (timer : Timer) → runs Invoked timer ≡ true →
          Noted now n.heeded (note_in (with_note T2 (started now seconds) n) timer) (deadline_in (with_deadline T2 (deadline_of (now % turn) seconds) d) timer)
      by T1 e = absurd (no_true e)
      by T2 e = noted-start now n.heeded seconds h b.before
      by T3 e = absurd (no_true e)

  -- T2 goes on beside it
  starts-t3 : (s : State) → runs s T2 ≡ true → Beside now last s n d → Starts T3 WaitAnswer n
  starts-t3 s ran b = record { before = b.before; soon = b.soon; each = by }
    where
      by :
          (timer : Timer) → runs WaitAnswer timer ≡ true →
          Noted now n.heeded (note_in (with_note T3 (started now seconds) n) timer) (deadline_in (with_deadline T3 (deadline_of (now % turn) seconds) d) timer)
      by T1 e = absurd (no_true e)
      by T2 e = b.each T2 ran
      by T3 e = noted-start now n.heeded seconds h b.before

-- ---- every used record has that beside it
record Kept (rs : List Record) (ds : List Deadlines) (ns : List Notes) (now last : ℕ) : Type 0 where
  lr : length rs ≡ Layout.places
  ld : length ds ≡ Layout.places
  ln : length ns ≡ Layout.places
  beside : (j : ℕ) → used (get_or rs j blank) ≡ true → Beside now last (get_or rs j blank).state (get_or ns j no_notes) (get_or ds j no_deadlines)

-- the deadlines that a plan starts, by the lengths
abbrev due_if : Bool → ℕ → Timer → ℕ → List Deadlines → List Deadlines
due_if starts i timer x ds = pick starts (set ds i (with_deadline timer x (get_or ds i no_deadlines))) ds

abbrev due_started : Lengths → ℕ → Option ℕ → Timers → List Record → List Deadlines → List Deadlines
due_started l now None starts rs ds = ds
due_started l now (Some i) starts rs ds =
    due_if starts.t3 i T3 (deadline_of (now % turn) (seconds_of l T3 (get_or rs i blank).terms.kind))
    (due_if starts.t2 i T2 (deadline_of (now % turn) (seconds_of l T2 (get_or rs i blank).terms.kind))
    (due_if starts.t1 i T1 (deadline_of (now % turn) (seconds_of l T1 (get_or rs i blank).terms.kind)) ds))

-- what a plan makes of the three lists
abbrev After : Lengths → List Record → List Deadlines → List Notes → ℕ → ℕ → Plan Change → Type 0
After l rs ds ns now last plan =
    let after = records_after rs plan.change in
    Kept after (due_started l now plan.outcome.at plan.outcome.starts after (deadlines_after ds plan.change)) (notes_after l rs plan now ns) now last

module _ {rs : List Record} {ds : List Deadlines} {ns : List Notes} {now last : ℕ} (kept : Kept rs ds ns now last) where
  set-kept :
      (i : ℕ) (r : Record) (d : Deadlines) (n : Notes) → i < Layout.places → Beside now last r.state n d → Kept (set rs i r) (set ds i d) (set ns i n) now last
  set-kept i r d n h b =
      record {
        lr = length-set rs i r ∙ kept.lr;
        ld = length-set ds i d ∙ kept.ld;
        ln = length-set ns i n ∙ kept.ln;
        beside = λ j u. by j (eqb j i) refl u;
      }
    where
      by :
          (j : ℕ) (x : Bool) → eqb j i ≡ x → used (get_or (set rs i r) j blank) ≡ true →
          Beside now last (get_or (set rs i r) j blank).state (get_or (set ns i n) j no_notes) (get_or (set ds i d) j no_deadlines)
      by j true e u =
          rw (eqb-true j i e, get_or-set_same rs i r blank (omega (arith, kept.lr, h)), get_or-set_same ns i n no_notes (omega (arith, kept.ln, h)), get_or-set_same ds i d no_deadlines (omega (arith, kept.ld, h)))
          b
      by j false e u =
          let other = eqb-false j i e in
          rw (get_or-set_other rs i j r blank other, get_or-set_other ns i j n no_notes other, get_or-set_other ds i j d no_deadlines other)
          (kept.beside j (rw (get_or-set_other rs i j r blank other) at u))

  -- the same notes and deadlines
  turn-kept : (i : ℕ) (r : Record) → i < Layout.places → Beside now last r.state (get_or ns i no_notes) (get_or ds i no_deadlines) → Kept (set rs i r) ds ns now last
  turn-kept i r h b =
      subst (λ (xs : List Deadlines). Kept (set rs i r) xs ns now last) (set-get_or ds i no_deadlines)
      (subst (λ (xs : List Notes). Kept (set rs i r) (set ds i (get_or ds i no_deadlines)) xs now last) (set-get_or ns i no_notes)
      (set-kept i r (get_or ds i no_deadlines) (get_or ns i no_notes) h b))

  -- a new record: its notes are put, and then T1's
  put-kept :
      (i : ℕ) (r : Record) (d : Deadlines) (note : Note) → i < Layout.places → Beside now last r.state (with_note T1 note (new_notes now)) d →
      Kept (set rs i r) (set ds i d) (set (set ns i (new_notes now)) i (with_note T1 note (get_or (set ns i (new_notes now)) i no_notes))) now last
  put-kept i r d note h b =
      rw (set-set ns i (new_notes now) (with_note T1 note (get_or (set ns i (new_notes now)) i no_notes)), get_or-set_same ns i (new_notes now) no_notes (omega (arith, kept.ln, h)))
      (set-kept i r d (with_note T1 note (new_notes now)) h b)

  remove-kept : (i : ℕ) → Kept (without blank rs i) (without no_deadlines ds i) (without no_notes ns i) now last
  remove-kept i =
      record {
        lr = without-length blank rs i ∙ kept.lr;
        ld = without-length no_deadlines ds i ∙ kept.ld;
        ln = without-length no_notes ns i ∙ kept.ln;
        beside = λ j u. by j (ltb j i) refl u;
      }
    where
      by :
          (j : ℕ) (x : Bool) → ltb j i ≡ x → used (get_or (without blank rs i) j blank) ≡ true →
          Beside now last (get_or (without blank rs i) j blank).state (get_or (without no_notes ns i) j no_notes) (get_or (without no_deadlines ds i) j no_deadlines)
      by j true e u =
          let h = ltb-true j i e in
          rw (get_or-without-before blank rs i j blank h, get_or-without-before no_notes ns i j no_notes h, get_or-without-before no_deadlines ds i j no_deadlines h)
          (kept.beside j (rw (get_or-without-before blank rs i j blank h) at u))
      by j false e u =
          let h = ltb-false j i e in
          rw (moved_up blank rs i j h, moved_up no_notes ns i j h, moved_up no_deadlines ds i j h)
          (kept.beside (j + 1) (rw (moved_up blank rs i j h) at u))

  -- ---- each row, for the record of a place, whose choices a result may have brought
  module _ (l : Lengths) (good : good_lengths l ≡ true) (i : ℕ) (u : used (get_or rs i blank) ≡ true) (r : Record) (same : r.state ≡ (get_or rs i blank).state) where
    inside : i < Layout.places
    inside = omega (arith, used-inside clerk_view rs i blank-unused u, kept.lr)

    own : Beside now last (get_or rs i blank).state (get_or ns i no_notes) (get_or ds i no_deadlines)
    own = kept.beside i u

    fits : (timer : Timer) (kind : Kind) → seconds_of l timer kind ≤ half_turn
    fits timer kind = omega (arith, short l good timer kind)

    abbrev ends : Deadlines
    ends = get_or ds i no_deadlines

    abbrev notes : Notes
    notes = get_or ns i no_notes

    abbrev state : State
    state = (get_or rs i blank).state

    -- in the state where the row is taken T2 runs, and then it runs on alone
    goes : (home after : State) → runs home T2 ≡ true → running after ≡ only T2 → same_state home state ≡ true → Beside now last after notes ends
    goes home after ran alone h = on after (λ timer e. t2-on state (runs-in home state T2 ran h) timer (sym (ap (λ (ts : Timers). among ts timer) alone) ∙ e)) own

    -- or beside T3
    asks : (home : State) → runs home T2 ≡ true → same_state home state ≡ true → Starts now last l.t3 (fits T3 Ccbs) notes ends T3 WaitAnswer notes
    asks home ran h = starts-t3 now last l.t3 (fits T3 Ccbs) notes ends state (runs-in home state T2 ran h) own

    row_kept : (row : Row) → holds_for row (get_or rs i blank) ≡ true → After l rs ds ns now last (row_taken i r row)
    unfolding row_taken
    row_kept Accepted h =
        let kind = (get_or (records_after rs (row_taken i r Accepted).change) i blank).terms.kind in
        set-kept i _ _ _ inside (starts-t2 now last (seconds_of l T2 kind) (fits T2 kind) notes ends own)
    row_kept DeniedShort h = remove-kept i
    row_kept DeniedLong h = remove-kept i
    row_kept Recalls h = set-kept i _ _ _ inside (asks Invoked refl h)
    row_kept Suspends h = turn-kept i _ inside (goes Invoked Suspended refl refl h)
    row_kept RingsOut h = turn-kept i _ inside (goes WaitAnswer Ringout refl refl h)
    row_kept Resumes h = turn-kept i _ inside (goes Suspended Invoked refl refl h)
    row_kept GoesOn h = set-kept i _ _ _ inside (asks Suspended refl h)
    row_kept Completes h = remove-kept i
    row_kept CallFails h = remove-kept i
    row_kept BusyAgainKept h = turn-kept i _ inside (goes Ringout Invoked refl refl h)
    row_kept BusyAgainWaiting h = turn-kept i _ inside (goes Ringout Invoked refl refl h)
    row_kept BusyAgainEnded h = remove-kept i
    row_kept NotMatched h = remove-kept i
    row_kept LineCancels h = remove-kept i
    row_kept UserCancels h = remove-kept i
    row_kept Falls h = turn-kept i _ inside (on r.state (λ timer e. sym (ap (λ (s : State). runs s timer) same) ∙ e) own)
    row_kept T1RunsOut h = remove-kept i
    row_kept T2RunsOut h = remove-kept i
    row_kept T3RunsOut h = remove-kept i

-- ---- every decision: a refusal, a store at the first free place, or a row that is taken for a used record in its state
data Good (rs : List Record) : Decision → Type 0 where
  refuses : {refusal : Refusal} {reply : Option Body} → Good rs (Refuse refusal reply)
  takes : (i : ℕ) (row : Row) → used (get_or rs i blank) ≡ true → holds_for row (get_or rs i blank) ≡ true → Good rs (Take i row)
  stores : (i : ℕ) (q : Request) → place rs ≡ Some i → Good rs (Store i q)

module _ (rs : List Record) where
  good-row : (i : ℕ) (l : Letter) (message : RecordMessage) (row : Row) → used (get_or rs i blank) ≡ true → Good rs (row_decision i (get_or rs i blank) l message row)
  good-row i l message row u =
      pick_elim (Good rs) (holds_for row (get_or rs i blank))
      (λ h. pick_elim (Good rs) (carrier_fits l.body (get_or rs i blank).terms.connection l.carrier) (λ g. takes i row u h) (λ g. refuses))
      (λ h. refuses)

  good-found : (l : Letter) (busy : Bool) (at : ℕ) (message : RecordMessage) (m : M.Means) → meaning l at rs ≡ m → Good rs (message_found rs l busy message m)
  good-found l busy at message Means.Nothing e = refuses
  good-found l busy at message Means.NotNow e = refuses
  good-found l busy at message (Means.At i) e =
      good-row i l message (row_for message busy (get_or rs i blank).terms.keep (get_or rs i blank).terms.kind) (meaning-used l at rs i e)

  good-message : (l : Letter) (busy : Bool) (at : ℕ) (m : Option RecordMessage) → Good rs (message_meant rs l busy (meaning l at rs) m)
  good-message l busy at None = refuses
  good-message l busy at (Some message) = good-found l busy at message (meaning l at rs) refl

  good-own : (name : Name) (row : Row) (refusal : Refusal) (m : M.Means) → named name rs ≡ m → Good rs (own_found rs row refusal m)
  good-own name row refusal Means.Nothing e = refuses
  good-own name row refusal Means.NotNow e = refuses
  good-own name row refusal (Means.At i) e = pick_elim (Good rs) (holds_for row (get_or rs i blank)) (λ h. takes i row (named-used name rs i e) h) (λ h. refuses)

  good-place : (q : Request) (f : Option ℕ) → place rs ≡ f → Good rs (ask_place q f)
  good-place q None e = refuses
  good-place q (Some i) e = stores i q e

  good-ask : (q : Request) (f : Option ℕ) → Good rs (ask_found rs q f)
  good-ask q (Some i) = refuses
  good-ask q None = good-place q (place rs) refl

  good-input : (input : Input) → Good rs (decided rs input)
  unfolding decided
  good-input (Input.Ask names q) = good-ask q (identifier_means names.identifier rs)
  good-input (Input.Message l busy at) = good-message l busy at (message_for l.body)
  good-input (Input.Act name act) = good-own name (row_of_act act) NoRow (named name rs) refl
  good-input (Input.Timer name timer) = good-own name (row_of_timer timer) NotRunning (named name rs) refl

-- the choices that a result brings leave the state
settled-state : (m : Option RecordMessage) (carrier : Carrier) (r : Record) → (settled m carrier r).state ≡ r.state
settled-state (Some (Message.Result keep)) carrier r = refl
settled-state (Some (Message.Error error)) carrier r = refl
settled-state (Some Message.ExecPossible) carrier r = refl
settled-state (Some (Message.RingoutError error)) carrier r = refl
settled-state (Some Message.Cancel) carrier r = refl
settled-state (Some Message.Alerts) carrier r = refl
settled-state (Some Message.Failed) carrier r = refl
settled-state None carrier r = refl

input-state : (input : Input) (r : Record) → (settled_by input r).state ≡ r.state
input-state (Input.Ask names q) r = refl
input-state (Input.Message l busy at) r = settled-state (message_for l.body) l.carrier r
input-state (Input.Act name act) r = refl
input-state (Input.Timer name timer) r = refl

plan-kept :
    (l : Lengths) → good_lengths l ≡ true → {rs : List Record} {ds : List Deadlines} {ns : List Notes} {now last : ℕ} → last ≤ now → Kept rs ds ns now last →
    (input : Input) {decision : Decision} → Good rs decision → After l rs ds ns now last (plan_of rs input decision)
unfolding plan_of place
plan-kept l good order kept input refuses = kept
plan-kept l good {rs} order kept input (takes i row u h) = row_kept kept l good i u (settled_by input (get_or rs i blank)) (input-state input (get_or rs i blank)) row h
plan-kept l good {rs} {ds} {ns} {now} {last} order kept input (stores i q free) =
    put-kept kept i (new_record (names_of input) q) _ _ (omega (arith, place_inside clerk_view rs i free, kept.lr)) (starts-t1 now last l.t1 (omega (arith, short l good T1 Ccbs)) no_notes (get_or ds i no_deadlines) order)

-- ---- what a step makes of the words
module _ (l : Lengths) (good : good_lengths l ≡ true) (count i : ℕ) (ws : List ℕ) (rs : List Record) (so : Measured l ws) (same : records ws ≡ rs) where
  if-due :
      (starts : Bool) (timer : Timer) (ds : List Deadlines) →
      deadlines_if starts count i timer ws ds ≡ due_if starts i timer (deadline_of count (seconds_of l timer (get_or rs i blank).terms.kind)) ds
  if-due starts timer ds =
      ap (λ (x : ℕ). due_if starts i timer (deadline_of count x) ds)
      (ap (λ (xs : List Record). length_of ws timer (get_or xs i blank).terms.kind) same ∙ measured l ws good so timer (get_or rs i blank).terms.kind)

started-due :
    (l : Lengths) → good_lengths l ≡ true → (now : ℕ) (at : Option ℕ) (starts : Timers) (ws : List ℕ) (rs : List Record) → Measured l ws → records ws ≡ rs → (ds : List Deadlines) →
    deadlines_started (now % turn) at starts ws ds ≡ due_started l now at starts rs ds
started-due l good now None starts ws rs so same ds = refl
started-due l good now (Some i) starts ws rs so same ds =
    let count = now % turn in
    let kind = (get_or rs i blank).terms.kind in
    let one = due_if starts.t1 i T1 (deadline_of count (seconds_of l T1 kind)) ds in
    let two = due_if starts.t2 i T2 (deadline_of count (seconds_of l T2 kind)) one in
    ap (λ (xs : List Deadlines). deadlines_if starts.t3 count i T3 ws (deadlines_if starts.t2 count i T2 ws xs)) (if-due l good count i ws rs so same starts.t1 T1 ds)
    ∙ ap (λ (xs : List Deadlines). deadlines_if starts.t3 count i T3 ws xs) (if-due l good count i ws rs so same starts.t2 T2 one)
    ∙ if-due l good count i ws rs so same starts.t3 T3 two

-- ---- over time
record Sure (l : Lengths) (d : Desk) (ns : List Notes) (now last : ℕ) : Type 0 where
  good : good_lengths l ≡ true
  full : length d.words ≡ Layout.words
  lengths : Measured l d.words
  order : last ≤ now
  kept : Kept (records d.words) (deadlines d.words) ns now last

made_sure :
    (l : Lengths) (d : Desk) {ns : List Notes} {now last : ℕ} → Sure l d ns now last → (plan : Plan Change) →
    After l (records d.words) (deadlines d.words) ns now last plan →
    Sure l (made d (now % turn) plan).desk (notes_after l (records d.words) plan now ns) now last
made_sure l d {ns} {now} {last} s plan after =
    let ws = d.words in
    let c = plan.change in
    let a = plan.outcome.at in
    let starts = plan.outcome.starts in
    let changed = applied ws c in
    let words = timed (now % turn) a starts changed in
    let rs = records_after (records ws) c in
    let ns' = notes_after l (records ws) plan now ns in
    let full' = applied-length ws s.full c in
    let r : records words ≡ rs = records-made d s.full (now % turn) plan in
    let g : deadlines words ≡ due_started l now a starts rs (deadlines_after (deadlines ws) c) =
    deadlines-timed changed full' (now % turn) a starts
    ∙ started-due l s.good now a starts changed rs (applied-measured l ws s.full c s.lengths) (records-applied ws s.full c) (deadlines changed)
    ∙ ap (λ (xs : List Deadlines). due_started l now a starts rs xs) (deadlines-applied ws s.full c) in
    record {
      good = s.good;
      full = made-length d s.full (now % turn) plan;
      lengths = made-measured l d s.full (now % turn) plan s.lengths;
      order = s.order;
      kept =
          subst (λ (xs : List Record). Kept xs (deadlines words) ns' now last) (sym r)
          (subst (λ (xs : List Deadlines). Kept rs xs ns' now last) (sym g) after);
    }

later-kept : {rs : List Record} {ds : List Deadlines} {ns : List Notes} {now last : ℕ} (later : ℕ) → now ≤ later → Kept rs ds ns now last → Kept rs ds ns later last
later-kept later h kept =
    record {
      lr = kept.lr;
      ld = kept.ld;
      ln = kept.ln;
      beside = λ j u.
          let b = kept.beside j u in
          record { before = omega (arith, b.before, h); soon = b.soon; each = λ timer e. noted-later later h (b.each timer e) };
    }

-- ---- a tick
ticked-length : (now : ℕ) (rs : List Record) (ns : List Notes) → length (notes_ticked now rs ns) ≡ length ns
unfolding notes_ticked
ticked-length now [] ns = refl
ticked-length now (r ∷ rs) [] = refl
ticked-length now (r ∷ rs) (n ∷ ns) = ap suc (ticked-length now rs ns)

ticked-at :
    (now : ℕ) (rs : List Record) (ns : List Notes) (j : ℕ) → j < length rs → j < length ns →
    get_or (notes_ticked now rs ns) j no_notes ≡ pick (in_ringout (get_or rs j blank).state) (get_or ns j no_notes) (heeded_now now (get_or ns j no_notes))
unfolding notes_ticked
ticked-at now [] ns j h k = absurd (omega (arith, h))
ticked-at now (r ∷ rs) [] j h k = absurd (omega (arith, k))
ticked-at now (r ∷ rs) (n ∷ ns) zero h k = refl
ticked-at now (r ∷ rs) (n ∷ ns) (suc j) h k = ticked-at now rs ns j (omega (arith, h)) (omega (arith, k))

-- where no timer runs out, none that counts is due
none-holds : (holds : Timer → Bool) (a b c : Bool) → holds T1 ≡ a → holds T2 ≡ b → holds T3 ≡ c → pick a (Some T1) (pick b (Some T2) (pick c (Some T3) None)) ≡ None → (timer : Timer) → holds timer ≡ false
none-holds holds true b c p q r e timer = absurd (none-one T1 (sym e))
none-holds holds false true c p q r e timer = absurd (none-one T2 (sym e))
none-holds holds false false true p q r e timer = absurd (none-one T3 (sym e))
none-holds holds false false false p q r e T1 = p
none-holds holds false false false p q r e T2 = q
none-holds holds false false false p q r e T3 = r

not-due :
    (count : ℕ) (r : Record) (d : Deadlines) → expiring count r d ≡ None → (timer : Timer) → holds_for (row_of_timer timer) r ≡ true → due count (deadline_in d timer) ≡ false
unfolding expiring
not-due count r d none timer h =
    sym (both_true h) ∙ none-holds (runs_out count r d) (runs_out count r d T1) (runs_out count r d T2) (runs_out count r d T3) refl refl refl none timer

ringout : (s : State) → in_ringout s ≡ true → s ≡ Ringout
ringout Free e = absurd (no_true e)
ringout WaitAck e = absurd (no_true e)
ringout Invoked e = absurd (no_true e)
ringout WaitAnswer e = absurd (no_true e)
ringout Ringout e = refl
ringout Suspended e = absurd (no_true e)

ticked-beside :
    {now last : ℕ} (r : Record) (n : Notes) (d : Deadlines) → now ≤ last + day → expiring (now % turn) r d ≡ None → (r.state ≡ Ringout → now ≤ n.heeded + long) →
    Beside now last r.state n d → Beside now now r.state (pick (in_ringout r.state) n (heeded_now now n)) d
ticked-beside {now} {last} r n d soon none bound b =
    pick_elim (λ (x : Notes). Beside now now r.state x d) (in_ringout r.state)
    (λ t. record { before = b.before; soon = bound (ringout r.state t); each = b.each })
    (λ f.
    record {
      before = omega arith;
      soon = omega arith;
      each = λ timer e.
          by timer
          (noted-looked (omega (arith, soon, b.soon)) (not-due (now % turn) r d none timer (runs-counts timer r.state r.terms.connection f e)) (b.each timer e));
    })
  where
    by : (timer : Timer) → Noted now now (note_in n timer) (deadline_in d timer) → Noted now now (note_in (heeded_now now n) timer) (deadline_in d timer)
    by T1 x = x
    by T2 x = x
    by T3 x = x

ticked-kept :
    (d : Desk) {ns : List Notes} {now last : ℕ} → now ≤ last + day → ((place : ℕ) → expiring_at (now % turn) d.words place ≡ None) → NotLong d ns now →
    Kept (records d.words) (deadlines d.words) ns now last →
    Kept (records d.words) (deadlines d.words) (notes_ticked now (records d.words) ns) now now
ticked-kept d {ns} {now} {last} soon none bound kept =
    record {
      lr = kept.lr;
      ld = kept.ld;
      ln = ticked-length now (records d.words) ns ∙ kept.ln;
      beside = λ j u.
          let h = used-inside clerk_view (records d.words) j blank-unused u in
          rw (ticked-at now (records d.words) ns j h (omega (arith, h, kept.lr, kept.ln)))
          (ticked-beside (get_or (records d.words) j blank) (get_or ns j no_notes) (get_or (deadlines d.words) j no_deadlines) soon (none j) (bound j) (kept.beside j u));
    }

step_sure :
    (l : Lengths) (d : Desk) {ns : List Notes} {now last : ℕ} → Sure l d ns now last → (input : Input) →
    Sure l (step d (now % turn) input).desk (notes_after l (records d.words) (plan_for (records d.words) input) now ns) now last
unfolding step plan_for
step_sure l d s input =
    made_sure l d s (plan_for (records d.words) input) (plan-kept l s.good s.order s.kept input (good-input (records d.words) input))

entered_sure :
    (l : Lengths) (d : Desk) {ns : List Notes} {now last : ℕ} → Sure l d ns now last → (entry : Result Input Refusal) →
    Sure l (entered d (now % turn) entry).desk (notes_entered l d entry now ns) now last
unfolding entered
entered_sure l d s (Err refusal) = s
entered_sure l d s (Ok input) = step_sure l d s input

lasting : {l : Lengths} {d : Desk} {ns : List Notes} {now last : ℕ} → Lasting l d ns now last → Sure l d ns now last
unfolding received_bytes
lasting {l} (begins good now) =
    record {
      good = good;
      full = refl;
      lengths = start-measured l;
      order = omega arith;
      kept = record {
        lr = records-length _;
        ld = deadlines-length _;
        ln = length-replicate {A = Notes} Layout.places no_notes;
        beside = λ j u. absurd (no_true (sym (ap used (start-blank l j) ∙ blank-unused) ∙ u));
      };
    }
lasting (passes later h run) =
    let s = lasting run in
    record { good = s.good; full = s.full; lengths = s.lengths; order = omega (arith, s.order, h); kept = later-kept later h s.kept }
lasting {l} (steps {d} input run) = step_sure l d (lasting run) input
lasting {l} (reads {d} bytes busy place run) = entered_sure l d (lasting run) (bytes_entry bytes busy place).entry
lasting (ticks {d} soon none bound run) =
    let s = lasting run in
    record { good = s.good; full = s.full; lengths = s.lengths; order = omega arith; kept = ticked-kept d soon none bound s.kept }

pub nothing-early : NothingEarly
nothing-early l d ns now last run j timer e =
    let r = get_or (records d.words) j blank in
    let so = due-runs (now % turn) r (get_or (deadlines d.words) j no_deadlines) timer e in
    let u = home-used timer r.state r.terms.connection so.0 in
    noted-early (((lasting run).kept.beside j u).each timer (counts-runs timer r.state r.terms.connection so.0)) so.1

-- ---- the first of those whose test holds
some_first :
    (d : Desk) (count j : ℕ) (holds : Timer → Bool) (a b c : Bool) → holds T1 ≡ a → holds T2 ≡ b → holds T3 ≡ c →
    expiring_at count d.words j ≡ pick a (Some T1) (pick b (Some T2) (pick c (Some T3) None)) → (timer : Timer) → holds timer ≡ true → Due d count j
some_first d count j holds true b c p q r e timer h = record { timer = T1; due = e }
some_first d count j holds false true c p q r e timer h = record { timer = T2; due = e }
some_first d count j holds false false true p q r e timer h = record { timer = T3; due = e }
some_first d count j holds false false false p q r e T1 h = absurd (no_true (sym p ∙ h))
some_first d count j holds false false false p q r e T2 h = absurd (no_true (sym q ∙ h))
some_first d count j holds false false false p q r e T3 h = absurd (no_true (sym r ∙ h))

pub due-in-tick : DueInTick
unfolding expiring
due-in-tick l d ns now last run soon j timer h passed =
    let r = get_or (records d.words) j blank in
    let ends = get_or (deadlines d.words) j no_deadlines in
    let u = home-used timer r.state r.terms.connection h in
    let b = (lasting run).kept.beside j u in
    let is-due = noted-due (omega (arith, soon, b.soon)) (b.each timer (counts-runs timer r.state r.terms.connection h)) passed in
    let holds = runs_out (now % turn) r ends in
    some_first d (now % turn) j holds (holds T1) (holds T2) (holds T3) refl refl refl refl timer (both_true h ∙ is-due)

pub lasting-full : {l : Lengths} {d : Desk} {ns : List Notes} {now last : ℕ} → Lasting l d ns now last → length d.words ≡ Layout.words
lasting-full run = (lasting run).full
