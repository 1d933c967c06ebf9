-- Beside every used record stands its guard's start, and its deadline is that of the start: so the clock's laws over true time are the desk's.
use Rattle.std.specs.Prelude.{Ok, Err, Result}
use Prim.Native.Nat.{ℕ, ◌+◌, ◌%◌, ◌≤◌, ◌<◌}
use mathlib.Core.Path.{◌≡◌, refl, sym, ap, ◌∙◌, subst}
use mathlib.Core.Bool.{Bool, true, false, false≢true}
use mathlib.Core.List.{List}
use lib.ListN.{length, get_or, set, length-set, length-map, length-replicate}
use lib.Seq.{get_or-set_same, get_or-set_other}
use lib.Dec.{ltb, eqb}
use native.Mathlib.Omega.{arith}
use borrow.Author.Tests.{ltb-true, ltb-false, eqb-true, eqb-false}
use Rattle.lists.specs.Lists.{without}
use Rattle.lists.specs.declared.words.Words.{Words}
use Rattle.lists.proofs.Lists.{both_parts, without-length, get_or-without-before}
use Rattle.clock.specs.Clock.{turn, half_turn, deadline_of, due}
use Rattle.store.proofs.Decoded.{decoded_length}
use Rattle.message.specs.declared.Kind.{Kind}
use Rattle.message.specs.declared.Kind.TheVariants.{Ccbs, Ccnr}
use Rattle.message.specs.declared.refusal.Refusal.{Refusal}
use Rattle.places.specs.Notes.{Note, unstarted, started, day}
use Rattle.places.proofs.Noting.{Noted, noted-start, noted-later, noted-early, noted-due, noted-looked}
use Rattle.places.proofs.Staying.{at_map, place_inside, moved_up}
use Rattle.line_table.specs.Inputs.{names_of}
use Rattle.line_table.specs.Search.{used}
use Rattle.line_table.specs.Record.{turned}
use Rattle.line_table.specs.Step.{row_taken, changed}
use Rattle.line_table.specs.Table.{effect_of}
use Rattle.line_table.specs.declared.inputs.Input.{Input}
use Rattle.desk.specs.declared.plan.Next.{Next}
use Rattle.desk.specs.declared.plan.Next.TheVariants.{Gone, Same, To}
use Rattle.line_table.specs.declared.table.Effect.{Effect}
use Rattle.line_table.specs.declared.record.Record.{Record}
use Rattle.line_table.specs.declared.record.Turned.{Turned}
use Rattle.line_table.specs.declared.record.Change.{Change}
use Rattle.line_table.specs.declared.record.Decision.{Decision}
use Rattle.line_table.specs.declared.record.Decision.TheVariants as Decide
use Rattle.desk.specs.declared.plan.Plan.{Plan}
use Rattle.line_table.specs.declared.record.Change.TheVariants.{Stay, Put, Turn, Remove, Report}
use Rattle.line_records.specs.Layout as Layout
use Rattle.line_records.specs.Records.{blank, records, place}
use Rattle.line_records.specs.Change.{records_after, marking}
use Rattle.line_records.specs.Change.{applied}
use Rattle.line_records.specs.Deadlines.{guard_length, guards, guards_after, guards_started, timed, expiring_at}
use Rattle.line_records.proofs.RecordsLaws.{records-length}
use Rattle.line_records.proofs.ChangeLaws.{applied-length, records-applied}
use Rattle.line_records.proofs.GuardsLaws.{guards-applied, guards-timed}
use Rattle.line_records.specs.Deadlines.{guard_of}
use Rattle.line.proofs.StepsLaws.{records-made}
use Rattle.line_plan.specs.Plan.{new_record, plan_of, plan_for}
use Rattle.line.specs.Entry.{bytes_entry}
use Rattle.line.specs.Steps.{step, entered, received_bytes}
use Rattle.line.specs.declared.Desk.{Desk}
use Rattle.line_sound.specs.Sound as S
use Rattle.line_sound.specs.Sound.{line_view, Fair, Reached}
use Rattle.line_sound.proofs.Changes.{marking-used, marking-blank}
use Rattle.line_sound.proofs.Decisions.{Good, refuses, denies, takes, stores, reports}
use Rattle.line_sound.proofs.Reaching.{good-input, FairEntry, bytes-fair, reached-sound}
use Rattle.line_sound.proofs.Starting.{start-free, blank-unused}
use Rattle.line_sound.specs.Time.{notes_after, notes_entered, Lasting, begins, passes, steps, reads, ticks, NothingEarly, DueInTick}
use Rattle.line_table.specs.declared.table.State.{State}

-- ---- every used record has its note, and the deadline beside it
record Kept (rs : List Record) (gs : List ℕ) (ns : List Note) (now last : ℕ) : Type 0 where
  lr : length rs ≡ Layout.places
  lg : length gs ≡ Layout.places
  ln : length ns ≡ Layout.places
  each : (j : ℕ) → used (get_or rs j blank) ≡ true → Noted now last (get_or ns j unstarted) (get_or gs j 0)

short : (kind : Kind) → guard_length kind ≤ half_turn
short Ccbs = omega arith
short Ccnr = omega arith

-- ---- what a change does to the three lists
abbrev guards_changed : ℕ → List ℕ → Change → List ℕ
guards_changed now gs Stay = gs
guards_changed now gs (Put i r) = set gs i (deadline_of (now % turn) (guard_length r.terms.kind))
guards_changed now gs (Turn t i) = gs
guards_changed now gs (Remove i) = without 0 gs i
guards_changed now gs (Report k number busy) = gs

module _ {rs : List Record} {gs : List ℕ} {ns : List Note} {now last : ℕ} (order : last ≤ now) (kept : Kept rs gs ns now last) where
  abbrev After : Change → Type 0
  After c = Kept (records_after rs c) (guards_changed now gs c) (notes_after c now ns) now last

  put-kept : (i : ℕ) (r : Record) → i < Layout.places → After (Put i r)
  put-kept i r h =
      record {
        lr = length-set rs i r ∙ kept.lr;
        lg = length-set gs i _ ∙ kept.lg;
        ln = length-set ns i _ ∙ kept.ln;
        each = λ j u. by j (eqb j i) refl u;
      }
    where
      by :
          (j : ℕ) (b : Bool) → eqb j i ≡ b → used (get_or (set rs i r) j blank) ≡ true →
          Noted now last (get_or (set ns i (started now (guard_length r.terms.kind))) j unstarted) (get_or (set gs i (deadline_of (now % turn) (guard_length r.terms.kind))) j 0)
      by j true e u =
          let seconds = guard_length r.terms.kind in
          let note = started now seconds in
          let end = deadline_of (now % turn) seconds in
          rw (eqb-true j i e, get_or-set_same ns i note unstarted (omega (arith, kept.ln)), get_or-set_same gs i end 0 (omega (arith, kept.lg)))
          (noted-start now last seconds (short r.terms.kind) order)
      by j false e u =
          let other = eqb-false j i e in
          rw (get_or-set_other ns i j (started now (guard_length r.terms.kind)) unstarted other, get_or-set_other gs i j (deadline_of (now % turn) (guard_length r.terms.kind)) 0 other)
          (kept.each j (rw (get_or-set_other rs i j r blank other) at u))

  turn-kept : (t : Turned) (i : ℕ) → used (get_or rs i blank) ≡ true → After (Turn t i)
  turn-kept t i own = record { lr = length-set rs i _ ∙ kept.lr; lg = kept.lg; ln = kept.ln; each = λ j u. by j (eqb j i) refl u }
    where
      by : (j : ℕ) (b : Bool) → eqb j i ≡ b → used (get_or (set rs i (turned t (get_or rs i blank))) j blank) ≡ true → Noted now last (get_or ns j unstarted) (get_or gs j 0)
      by j true e u = kept.each j (rw (eqb-true j i e) own)
      by j false e u = kept.each j (rw (get_or-set_other rs i j (turned t (get_or rs i blank)) blank (eqb-false j i e)) at u)

  remove-kept : (i : ℕ) → After (Remove i)
  remove-kept i =
      record {
        lr = without-length blank rs i ∙ kept.lr;
        lg = without-length 0 gs i ∙ kept.lg;
        ln = without-length unstarted ns i ∙ kept.ln;
        each = λ j u. by j (ltb j i) refl u;
      }
    where
      by :
          (j : ℕ) (b : Bool) → ltb j i ≡ b → used (get_or (without blank rs i) j blank) ≡ true →
          Noted now last (get_or (without unstarted ns i) j unstarted) (get_or (without 0 gs i) j 0)
      by j true e u =
          let h = ltb-true j i e in
          rw (get_or-without-before unstarted ns i j unstarted h, get_or-without-before 0 gs i j 0 h) (kept.each j (rw (get_or-without-before blank rs i j blank h) at u))
      by j false e u =
          let h = ltb-false j i e in
          rw (moved_up unstarted ns i j h, moved_up 0 gs i j h) (kept.each (j + 1) (rw (moved_up blank rs i j h) at u))

  report-kept : (k : ℕ) (number : Words) (busy : Bool) → After (Report k number busy)
  report-kept k number false = kept
  report-kept k number true =
      record {
        lr = length-map rs (marking number) ∙ kept.lr;
        lg = kept.lg;
        ln = kept.ln;
        each = λ j u. kept.each j (sym (marking-used number (get_or rs j blank)) ∙ sym (ap used (at_map line_view rs (marking number) (marking-blank number) j)) ∙ u);
      }

-- ---- the plan of a decision that is good for a desk
module _ (ws : List ℕ) (full : length ws ≡ Layout.words) {ns : List Note} {now last : ℕ} (order : last ≤ now) (kept : Kept (records ws) (guards ws) ns now last) where
  abbrev Made : Plan Change → Type 0
  Made plan =
      let words = timed (now % turn) plan.outcome.at plan.outcome.starts (applied ws plan.change) in
      Kept (records words) (guards words) (notes_after plan.change now ns) now last

  -- by what the three lists are afterwards
  made :
      (plan : Plan Change) →
      guards_started (now % turn) plan.outcome.at plan.outcome.starts (records_after (records ws) plan.change) (guards_after (guards ws) plan.change)
      ≡ guards_changed now (guards ws) plan.change →
      Kept (records_after (records ws) plan.change) (guards_changed now (guards ws) plan.change) (notes_after plan.change now ns) now last → Made plan
  made plan same after =
      let c = plan.change in
      let a = plan.outcome.at in
      let s = plan.outcome.starts in
      let r : records (timed (now % turn) a s (applied ws c)) ≡ records_after (records ws) c = records-made ws c full (now % turn) a s in
      let g : guards (timed (now % turn) a s (applied ws c)) ≡ guards_changed now (guards ws) c =
      guards-timed (applied ws c) (applied-length ws c full) (now % turn) a s
      ∙ ap (λ (rs : List Record). guards_started (now % turn) a s rs (guards (applied ws c))) (records-applied ws c full)
      ∙ ap (λ (gs : List ℕ). guards_started (now % turn) a s (records_after (records ws) c) gs) (guards-applied ws c full)
      ∙ same in
      subst (λ (rs : List Record). Kept rs (guards (timed (now % turn) a s (applied ws c))) (notes_after c now ns) now last) (sym r)
      (subst (λ (gs : List ℕ). Kept (records_after (records ws) c) gs (notes_after c now ns) now last) (sym g) after)

  row_kept : (next : Next State) (effect : Effect) (i : ℕ) → used (get_or (records ws) i blank) ≡ true →
      let c = changed next effect i (get_or (records ws) i blank) in
      (guards_after (guards ws) c ≡ guards_changed now (guards ws) c) × Kept (records_after (records ws) c) (guards_changed now (guards ws) c) (notes_after c now ns) now last
  row_kept Gone effect i u = (refl, remove-kept order kept i)
  row_kept Same effect i u = (refl, turn-kept order kept _ i u)
  row_kept (To state) effect i u = (refl, turn-kept order kept _ i u)

  plan-kept : {input : Input} {decision : Decision} → Good ws input decision → Made (plan_of ws input decision)
  unfolding plan_of row_taken place
  plan-kept {input} (refuses {refusal = refusal} {reply}) = made (plan_of ws input (Decide.Refuse refusal reply)) refl kept
  plan-kept {input} (denies {error = error}) = made (plan_of ws input (Decide.Deny error)) refl kept
  plan-kept (takes i row u h) = let k = row_kept (effect_of row).next (effect_of row) i u in made (row_taken i (get_or (records ws) i blank) row) k.0 k.1
  plan-kept {input} (stores i q busy free new few whole) =
      let r = new_record ws (names_of input) q busy in
      let inside : i < Layout.places = omega (arith, place_inside line_view (records ws) i free, kept.lr) in
      made (plan_of ws input (Decide.Store i q busy))
      (ap (λ (x : Record). set (guards ws) i (deadline_of (now % turn) (guard_length x.terms.kind))) (get_or-set_same (records ws) i r blank (omega (arith, kept.lr))))
      (put-kept order kept i r inside)
  plan-kept {input = Input.Report number busy} (reports k) = made (plan_of ws (Input.Report number busy) (Decide.Report k busy)) refl (report-kept order kept k number busy)

-- ---- over time
guards-length : (ws : List ℕ) → length (guards ws) ≡ Layout.places
unfolding guards
guards-length ws = decoded_length Layout.width Layout.places guard_of ws

record Sure (d : Desk) (ns : List Note) (now last : ℕ) : Type 0 where
  reached : Reached d
  order : last ≤ now
  kept : Kept (records d.words) (guards d.words) ns now last

later-kept : {rs : List Record} {gs : List ℕ} {ns : List Note} {now last : ℕ} (later : ℕ) → now ≤ later → Kept rs gs ns now last → Kept rs gs ns later last
later-kept later h kept = record { lr = kept.lr; lg = kept.lg; ln = kept.ln; each = λ j u. noted-later later h (kept.each j u) }

-- a used record expires exactly if its guard is due
due-used : (d : Desk) (count j : ℕ) → used (get_or (records d.words) j blank) ≡ true → expiring_at count d.words j ≡ due count (get_or (guards d.words) j 0)
unfolding expiring_at
due-used d count j u = rw u

-- after a tick what is left ends later
ticked-kept :
    (d : Desk) {ns : List Note} {now last : ℕ} → now ≤ last + day → ((place : ℕ) → expiring_at (now % turn) d.words place ≡ false) →
    Kept (records d.words) (guards d.words) ns now last → Kept (records d.words) (guards d.words) ns now now
ticked-kept d {ns} {now} soon none kept =
    record {
      lr = kept.lr;
      lg = kept.lg;
      ln = kept.ln;
      each = λ j u. noted-looked (omega (arith, soon)) (sym (due-used d (now % turn) j u) ∙ none j) (kept.each j u);
    }

step_sure :
    (d : Desk) {ns : List Note} {now last : ℕ} → Sure d ns now last → {input : Input} → Fair input →
    Sure (step d (now % turn) input).desk (notes_after (plan_for d.words input).change now ns) now last
unfolding step plan_for
step_sure d {now = now} s fair =
    record {
      reached = S.steps (now % turn) fair s.reached;
      order = s.order;
      kept = plan-kept d.words (reached-sound d s.reached).full s.order s.kept (good-input d.words fair);
    }

entered_sure :
    (d : Desk) {ns : List Note} {now last : ℕ} → Sure d ns now last → (entry : Result Input Refusal) → FairEntry entry →
    Sure (entered d (now % turn) entry).desk (notes_entered d entry now ns) now last
unfolding entered
entered_sure d s (Err refusal) fair = s
entered_sure d s (Ok input) fair = step_sure d s (fair input refl)

lasting : {d : Desk} {ns : List Note} {now last : ℕ} → Lasting d ns now last → Sure d ns now last
unfolding received_bytes
lasting (begins given keep retain b now) =
    record {
      reached = S.starts given keep retain b;
      order = omega arith;
      kept = record {
        lr = records-length _;
        lg = guards-length _;
        ln = length-replicate {A = Note} Layout.places unstarted;
        each = λ j u. absurd (false≢true (sym (ap used (start-free given keep retain j) ∙ blank-unused) ∙ u));
      };
    }
lasting (passes later h run) = let s = lasting run in record { reached = s.reached; order = omega (arith, s.order); kept = later-kept later h s.kept }
lasting (steps {d} fair run) = step_sure d (lasting run) fair
lasting (reads {d} bytes place b run) = entered_sure d (lasting run) (bytes_entry bytes place).entry (bytes-fair bytes place b)
lasting (ticks {d} soon none run) = let s = lasting run in record { reached = s.reached; order = omega arith; kept = ticked-kept d soon none s.kept }

pub expiring-used : (count : ℕ) (d : Desk) (j : ℕ) → expiring_at count d.words j ≡ true → used (get_or (records d.words) j blank) ≡ true
unfolding expiring_at
expiring-used count d j t = (both_parts _ _ t).0

pub nothing-early : NothingEarly
nothing-early d ns now last run j t =
    let u = expiring-used (now % turn) d j t in
    noted-early ((lasting run).kept.each j u) (sym (due-used d (now % turn) j u) ∙ t)

pub due-in-tick : DueInTick
due-in-tick d ns now last run soon j u passed = due-used d (now % turn) j u ∙ noted-due (omega (arith, soon)) ((lasting run).kept.each j u) passed

pub lasting-full : {d : Desk} {ns : List Note} {now last : ℕ} → Lasting d ns now last → length d.words ≡ Layout.words
lasting-full {d} run = (reached-sound d (lasting run).reached).full
