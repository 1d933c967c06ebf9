-- A guard that is due belongs to a record in use, so its report is taken and the record removed: those before it stay, and those behind it move up to the place that is looked at next.
use Rattle.desk.specs.declared.letter.Letter.{Letter}
use Rattle.std.specs.Prelude.{Option, Some}
use Prim.Native.Nat.{ℕ, zero, suc, ◌+◌, ◌≤◌, ◌<◌}
use mathlib.Core.Path.{◌≡◌, refl, sym, ap, ap₂, ◌∙◌}
use mathlib.Core.Bool.{true, false}
use mathlib.Core.List.{List, ◌∷◌, map}
use lib.ListN.{length, get_or}
use native.Mathlib.Omega.{arith}
use Rattle.lists.proofs.Choice.{pick_elim}
use Rattle.lists.proofs.Lists.{get_or-without-before}
use Rattle.desk.specs.Outcome.{no_timers}
use Rattle.desk.specs.Ticked.{Ticked}
use Rattle.places.proofs.Staying.{moved_up}
use Rattle.places.proofs.Passing.{Alike, alike-here, alike_next, alike-gone, to-here, everywhere}
use Rattle.line_table.specs.Step.{row_taken}
use Rattle.line_table.specs.declared.table.Row.TheVariants.{GuardRunsOut}
use Rattle.line_table.specs.declared.record.Record.{Record}
use Rattle.line_table.specs.declared.record.Change.TheVariants.{Remove}
use Rattle.line_records.specs.Layout as Layout
use Rattle.line_records.specs.Codes.{state_of}
use Rattle.line_records.specs.Records.{record_of, blank, records}
use Rattle.line_records.specs.Lines.{lines}
use Rattle.line_records.specs.Change.{applied}
use Rattle.line_records.specs.Deadlines.{guards, expiring, expiring_at}
use Rattle.line_records.proofs.RecordsLaws.{record-past}
use Rattle.line_records.proofs.ChangeLaws.{applied-length}
use Rattle.line.proofs.StepsLaws.{made-length, records-made, lines-made}
use Rattle.line.proofs.TickLaws.{due-plan, due-step}
use Rattle.line_records.proofs.GuardsLaws.{guards-applied, guards-timed}
use Rattle.desk.specs.declared.plan.Plan.{Plan}
use Rattle.line_plan.specs.Plan.{plan_for}
use Rattle.line.specs.Steps.{step}
use Rattle.line.specs.Ticks.{report, ticking, ticked, sendings_from, sendings}
use Rattle.line.specs.declared.Desk.{Desk}
use Rattle.desk.specs.declared.outcome.Stepped.{Stepped}
use Rattle.line_sound.specs.Sound as S
use Rattle.line_sound.specs.Sound.{Reached}
use Rattle.line_sound.specs.Ticking.{Expires, DueExpires, due_from, TickExpires, TickSends, NoneDue, TickReached}
use Rattle.line_table.specs.declared.record.Change.{Change}

-- ---- the report of a guard that is due
pub due-expires : DueExpires
unfolding row_taken
due-expires d count i full t =
    let same = due-step d count i t in
    record {
      taken = ap (λ (s : Stepped Desk). s.outcome.refusal) same;
      gone = ap (λ (s : Stepped Desk). records s.desk.words) same ∙ records-made d.words (Remove i) full count (Some i) no_timers;
      deadlines =
          ap (λ (s : Stepped Desk). guards s.desk.words) same
          ∙ guards-timed (applied d.words (Remove i)) (applied-length d.words (Remove i) full) count (Some i) no_timers
          ∙ guards-applied d.words (Remove i) full;
      others = ap (λ (s : Stepped Desk). lines s.desk.words) same ∙ lines-made d.words (Remove i) full count (Some i) no_timers;
    }

step-full : (d : Desk) (count i : ℕ) → length d.words ≡ Layout.words → length (step d count (report i)).desk.words ≡ Layout.words
unfolding step
step-full d count i full =
    let plan = plan_for d.words (report i) in
    made-length d.words plan.change full count plan.outcome.at plan.outcome.starts

-- ---- who is due after it: before its place as before, from its place on the one behind
module _ (d : Desk) (count i : ℕ) (gone : Expires d count i) where
  abbrev after : List ℕ
  after = (step d count (report i)).desk.words

  same-due :
      (j k : ℕ) → get_or (records after) j blank ≡ get_or (records d.words) k blank → get_or (guards after) j 0 ≡ get_or (guards d.words) k 0 →
      expiring_at count after j ≡ expiring_at count d.words k
  unfolding expiring_at
  same-due j k r g =
      ap (λ (x : Record). expiring count x (get_or (guards after) j 0)) r
      ∙ ap (λ (x : ℕ). expiring count (get_or (records d.words) k blank) x) g

  due-before : (j : ℕ) → j < i → expiring_at count after j ≡ expiring_at count d.words j
  due-before j h =
      same-due j j
      (ap (λ (rs : List Record). get_or rs j blank) gone.gone ∙ get_or-without-before blank (records d.words) i j blank h)
      (ap (λ (gs : List ℕ). get_or gs j 0) gone.deadlines ∙ get_or-without-before 0 (guards d.words) i j 0 h)

  record-behind : (j : ℕ) → i ≤ j → get_or (records after) j blank ≡ get_or (records d.words) (j + 1) blank
  record-behind j h = ap (λ (rs : List Record). get_or rs j blank) gone.gone ∙ moved_up blank (records d.words) i j h

  due-behind : (j : ℕ) → i ≤ j → expiring_at count after j ≡ expiring_at count d.words (j + 1)
  due-behind j h =
      same-due j (j + 1) (record-behind j h)
      (ap (λ (gs : List ℕ). get_or gs j 0) gone.deadlines ∙ moved_up 0 (guards d.words) i j h)

-- ---- a tick: from place `at` on the desk is due as it was from place i on before the tick
module _ (count : ℕ) (before : List ℕ) where
  expires-from :
      (n i at : ℕ) (d : Desk) → length d.words ≡ Layout.words → Alike (expiring_at count d.words) at (expiring_at count before) i →
      map (λ expiry. expiry.place) (ticking n i at count d).expired ≡ due_from n i count before
  unfolding ticking due_from
  expires-from zero i at d full same = refl
  expires-from (suc n) i at d full same =
      let now = expiring_at count d.words in
      let here : expiring_at count before i ≡ now at = sym (alike-here now (expiring_at count before) at i same) in
      pick_elim (λ (t : Ticked Desk). map (λ expiry. expiry.place) t.expired ≡ due_from (suc n) i count before) (now at)
      (λ t.
      let next = (step d count (report at)).desk in
      let gone = due-expires d count at full t in
      rw (here ∙ t)
      (ap (λ (rest : List ℕ). i ∷ rest)
      (expires-from n (suc i) at next (step-full d count at full)
      (alike-gone now (expiring_at count next.words) (expiring_at count before) at i (due-behind d count at gone) same))))
      (λ f. rw (here ∙ f) (expires-from n (suc i) (suc at) d full (alike_next now (expiring_at count before) at i same)))

pub tick-expires : TickExpires
unfolding ticked
tick-expires d count full = expires-from count d.words Layout.places 0 0 d full (λ k. refl)

-- ---- what the report of a guard that is due sends: what its row sends of the record, whatever its place
abbrev row_sends : Record → Option Letter
row_sends r = (row_taken 0 r GuardRunsOut).outcome.sending

due-sends :
    (d : Desk) (count i : ℕ) → expiring_at count d.words i ≡ true →
    (step d count (report i)).outcome.sending ≡ row_sends (get_or (records d.words) i blank)
unfolding row_taken
due-sends d count i t = ap (λ (s : Stepped Desk). s.outcome.sending) (due-step d count i t)

abbrev record_at : Desk → ℕ → Record
record_at d i = get_or (records d.words) i blank

module _ (count : ℕ) (before : Desk) where
  sends-from :
      (n i at : ℕ) (d : Desk) → length d.words ≡ Layout.words → Alike (expiring_at count d.words) at (expiring_at count before.words) i →
      Alike (record_at d) at (record_at before) i →
      map (λ expiry. expiry.outcome.sending) (ticking n i at count d).expired ≡ sendings_from n i count before
  unfolding ticking sendings_from
  sends-from zero i at d full same alike = refl
  sends-from (suc n) i at d full same alike =
      let now = expiring_at count d.words in
      let was = expiring_at count before.words in
      let here : was i ≡ now at = sym (alike-here now was at i same) in
      pick_elim (λ (t : Ticked Desk). map (λ expiry. expiry.outcome.sending) t.expired ≡ sendings_from (suc n) i count before) (now at)
      (λ t.
      let next = (step d count (report at)).desk in
      let gone = due-expires d count at full t in
      let sent : (step d count (report at)).outcome.sending ≡ (step before count (report i)).outcome.sending =
      due-sends d count at t
      ∙ ap row_sends (alike-here (record_at d) (record_at before) at i alike)
      ∙ sym (due-sends before count i (here ∙ t)) in
      rw (here ∙ t)
      (ap₂ (λ (x : Option Letter) (xs : List (Option Letter)). x ∷ xs) sent
      (sends-from n (suc i) at next (step-full d count at full)
      (alike-gone now (expiring_at count next.words) was at i (due-behind d count at gone) same)
      (alike-gone (record_at d) (record_at next) (record_at before) at i (record-behind d count at gone) alike))))
      (λ f.
      rw (here ∙ f)
      (sends-from n (suc i) (suc at) d full (alike_next now was at i same) (alike_next (record_at d) (record_at before) at i alike)))

pub tick-sends : TickSends
unfolding ticked sendings
tick-sends d count full = sends-from count d Layout.places 0 0 d full (λ k. refl) (λ k. refl)

-- ---- afterwards: none before place `at` is due, and none behind the n places that are left
none_from :
    (count n i at : ℕ) (d : Desk) → length d.words ≡ Layout.words → ((j : ℕ) → j < at → expiring_at count d.words j ≡ false) →
    ((j : ℕ) → at + n ≤ j → expiring_at count d.words j ≡ false) → (j : ℕ) → expiring_at count (ticking n i at count d).desk.words j ≡ false
unfolding ticking
none_from count zero i at d full below above j = everywhere (expiring_at count d.words) false at below (λ k h. above k (omega (arith, h))) j
none_from count (suc n) i at d full below above j =
    pick_elim (λ (t : Ticked Desk). expiring_at count t.desk.words j ≡ false) (expiring_at count d.words at)
    (λ t.
    let gone = due-expires d count at full t in
    none_from count n (suc i) at (step d count (report at)).desk (step-full d count at full)
    (λ k h. due-before d count at gone k h ∙ below k h)
    (λ k h. due-behind d count at gone k (omega (arith, h)) ∙ above (k + 1) (omega (arith, h)))
    j)
    (λ f. none_from count n (suc i) (suc at) d full (to-here (expiring_at count d.words) false at below f) (λ k h. above k (omega (arith, h))) j)

past-free : (count : ℕ) (words : List ℕ) (j : ℕ) → Layout.places ≤ j → expiring_at count words j ≡ false
unfolding expiring_at record_of state_of
past-free count words j h = rw (record-past words j h)

pub none-due : NoneDue
unfolding ticked
none-due d count full =
    none_from count Layout.places 0 0 d full (λ j h. absurd (omega (arith, h))) (λ j h. past-free count d.words j (omega (arith, h)))

-- ---- a tick is made of steps
ticking-reached : (count n i at : ℕ) (d : Desk) → Reached d → Reached (ticking n i at count d).desk
unfolding ticking
ticking-reached count zero i at d reached = reached
ticking-reached count (suc n) i at d reached =
    pick_elim (λ (t : Ticked Desk). Reached t.desk) (expiring_at count d.words at)
    (λ t. ticking-reached count n (suc i) at (step d count (report at)).desk (S.steps count (S.guards _) reached))
    (λ f. ticking-reached count n (suc i) (suc at) d reached)

pub tick-reached : TickReached
unfolding ticked
tick-reached d reached count = ticking-reached count Layout.places 0 0 d reached

-- ---- the report of a guard that is due plans that its record goes
pub due-removes : (count : ℕ) (words : List ℕ) (i : ℕ) → expiring_at count words i ≡ true → (plan_for words (report i)).change ≡ Remove i
unfolding row_taken
due-removes count words i t = ap (λ (p : Plan Change). p.change) (due-plan count words i t)
