-- A timer that runs out has its row in the record's state, so its report is taken and the record removed: those before it stay, and those behind it move up to the place that is looked at next.
use Rattle.desk.specs.declared.letter.Letter.{Letter}
use Rattle.std.specs.Prelude.{Option, Some, None}
use Prim.Native.Nat.{ℕ, zero, suc, ◌+◌, ◌≤◌, ◌<◌}
use mathlib.Core.Path.{◌≡◌, refl, sym, ap, ap₂, ◌∙◌}
use mathlib.Core.Bool.{false}
use mathlib.Core.List.{List, ◌∷◌, map}
use lib.ListN.{length, get_or}
use lib.Dec.{eqb}
use native.Mathlib.Omega.{arith}
use borrow.Author.Tests.{ne_eqb}
use Rattle.lists.specs.Lists as Lists
use Rattle.lists.proofs.Lists.{get_or-without-before}
use Rattle.desk.specs.Outcome.{no_timers}
use Rattle.desk.specs.Ticked.{Ticked}
use Rattle.places.proofs.Staying.{moved_up}
use Rattle.places.proofs.Passing.{Alike, alike-here, alike_next, alike-gone, to-here, everywhere}
use Rattle.clerk_table.specs.declared.table.State.TheVariants.{Ringout}
use Rattle.clerk_table.specs.declared.table.Timer.{Timer}
use Rattle.clerk_table.specs.declared.record.Record.{Record}
use Rattle.clerk_table.specs.declared.record.Change.TheVariants.{Remove}
use Rattle.desk.specs.declared.plan.Plan.{Plan}
use Rattle.clerk_records.specs.Layout as Layout
use Rattle.clerk_records.specs.Codes.{state_of}
use Rattle.clerk_records.specs.Records.{record_of, blank, records, applied}
use Rattle.clerk_records.specs.Deadlines.{no_deadlines, deadlines, expiring, expiring_at}
use Rattle.clerk_records.specs.declared.deadlines.Deadlines.{Deadlines}
use Rattle.clerk_records.proofs.RecordsLaws.{record-past}
use Rattle.clerk_records.proofs.DeadlinesLaws.{timed-none}
use Rattle.clerk_records.proofs.TimersLaws.{deadlines-applied}
use Rattle.clerk.proofs.StepsLaws.{made-length, records-made}
use Rattle.clerk.proofs.TickLaws.{row_cancels, row_ends, row_ends_lem, none-one, due-plan, due-step}
use Rattle.clerk_plan.specs.Plan.{plan_for}
use Rattle.clerk.specs.Steps.{made, step}
use Rattle.clerk.specs.Ticks.{report, by_timer, ticking, ticked, sendings_from, sendings}
use Rattle.clerk.specs.declared.Desk.{Desk}
use Rattle.desk.specs.declared.outcome.Stepped.{Stepped}
use Rattle.clerk_sound.specs.Sound as S
use Rattle.clerk_sound.specs.Sound.{Reached}
use Rattle.clerk_sound.specs.Ticking.{Expires, DueExpires, due_from, TickExpires, TickSends, RingoutStays, NoneDue, TickReached}
use Rattle.clerk_table.specs.declared.record.Change.{Change}

-- ---- by the timer that runs out, if one does
by_elim :
    {A : Type 0} (P : A → Type 0) (e : Option Timer) {out : Timer → A} {otherwise : A} → ((timer : Timer) → e ≡ Some timer → P (out timer)) → (e ≡ None → P otherwise) →
    P (by_timer e out otherwise)
by_elim P (Some timer) f g = f timer refl
by_elim P None f g = g refl

-- ---- the report of a timer that is due: its row ends the record, and starts nothing
pub due-expires : DueExpires
due-expires d count i timer full e =
    let rs = records d.words in
    let r = get_or rs i blank in
    let plan = row_ends i r in
    let changed = applied d.words (Remove i) in
    let same : step d count (report i timer) ≡ made d count plan = due-step d count i timer e ∙ ap (made d count) (sym (row_ends_lem i r timer)) in
    record {
      taken = ap (λ (s : Stepped Desk). s.outcome.refusal) same;
      told = ap (λ (s : Stepped Desk). s.outcome.notice) same;
      quiet = ap (λ (s : Stepped Desk). s.outcome.clear) same;
      gone = ap (λ (s : Stepped Desk). records s.desk.words) same ∙ records-made d full count plan;
      forgotten =
          ap (λ (s : Stepped Desk). deadlines s.desk.words) same
          ∙ ap deadlines (timed-none changed count (Some i))
          ∙ deadlines-applied d.words full (Remove i);
    }

step-full :
    (d : Desk) (count i : ℕ) (timer : Timer) → length d.words ≡ Layout.words → length (step d count (report i timer)).desk.words ≡ Layout.words
unfolding step
step-full d count i timer full = made-length d full count (plan_for (records d.words) (report i timer))

-- ---- who is due after it: before its place as before, from its place on the one behind
module _ (d : Desk) (count i : ℕ) (timer : Timer) (gone : Expires d count i timer) where
  abbrev after : List ℕ
  after = (step d count (report i timer)).desk.words

  same-due :
      (j k : ℕ) → get_or (records after) j blank ≡ get_or (records d.words) k blank →
      get_or (deadlines after) j no_deadlines ≡ get_or (deadlines d.words) k no_deadlines → expiring_at count after j ≡ expiring_at count d.words k
  same-due j k r t =
      ap (λ (x : Record). expiring count x (get_or (deadlines after) j no_deadlines)) r
      ∙ ap (λ (x : Deadlines). expiring count (get_or (records d.words) k blank) x) t

  due-before : (j : ℕ) → j < i → expiring_at count after j ≡ expiring_at count d.words j
  due-before j h =
      same-due j j
      (ap (λ (rs : List Record). get_or rs j blank) gone.gone ∙ get_or-without-before blank (records d.words) i j blank h)
      (ap (λ (ds : List Deadlines). get_or ds j no_deadlines) gone.forgotten ∙ get_or-without-before no_deadlines (deadlines d.words) i j no_deadlines h)

  record-behind : (j : ℕ) → i ≤ j → get_or (records after) j blank ≡ get_or (records d.words) (j + 1) blank
  record-behind j h = ap (λ (rs : List Record). get_or rs j blank) gone.gone ∙ moved_up blank (records d.words) i j h

  due-behind : (j : ℕ) → i ≤ j → expiring_at count after j ≡ expiring_at count d.words (j + 1)
  due-behind j h =
      same-due j (j + 1) (record-behind j h)
      (ap (λ (ds : List Deadlines). get_or ds j no_deadlines) gone.forgotten ∙ moved_up no_deadlines (deadlines d.words) i j h)

-- ---- a tick: from place `at` on the desk is due as it was from place i on before the tick
module _ (count : ℕ) (before : List ℕ) where
  expires-from :
      (n i at : ℕ) (d : Desk) → length d.words ≡ Layout.words → Alike (expiring_at count d.words) at (expiring_at count before) i →
      map (λ expiry. expiry.place) (ticking n i at count d).expired ≡ due_from n i count before
  unfolding ticking due_from
  expires-from zero i at d full same = refl
  expires-from (suc n) i at d full same =
      let now = expiring_at count d.words in
      let here : expiring_at count before i ≡ now at = sym (alike-here now (expiring_at count before) at i same) in
      by_elim (λ (t : Ticked Desk). map (λ expiry. expiry.place) t.expired ≡ due_from (suc n) i count before) (now at)
      (λ timer t.
      let next = (step d count (report at timer)).desk in
      let gone = due-expires d count at timer full t in
      rw (here ∙ t)
      (ap (λ (rest : List ℕ). i ∷ rest)
      (expires-from n (suc i) at next (step-full d count at timer full)
      (alike-gone now (expiring_at count next.words) (expiring_at count before) at i (due-behind d count at timer gone) same))))
      (λ f. rw (here ∙ f) (expires-from n (suc i) (suc at) d full (alike_next now (expiring_at count before) at i same)))

pub tick-expires : TickExpires
unfolding ticked
tick-expires d count full = expires-from count d.words Layout.places 0 0 d full (λ k. refl)

-- ---- what the report of a timer that is due sends: what its row sends of the record, whatever its place
due-sends :
    (d : Desk) (count i : ℕ) (timer : Timer) → expiring_at count d.words i ≡ Some timer →
    (step d count (report i timer)).outcome.sending ≡ row_cancels (get_or (records d.words) i blank)
due-sends d count i timer e =
    ap (λ (s : Stepped Desk). s.outcome.sending) (due-step d count i timer e)
    ∙ ap (λ (p : Plan Change). p.outcome.sending) (sym (row_ends_lem i (get_or (records d.words) i blank) timer))

abbrev record_at : Desk → ℕ → Record
record_at d i = get_or (records d.words) i blank

module _ (count : ℕ) (before : Desk) where
  sends-from :
      (n i at : ℕ) (d : Desk) → length d.words ≡ Layout.words → Alike (expiring_at count d.words) at (expiring_at count before.words) i →
      Alike (record_at d) at (record_at before) i →
      map (λ expiry. expiry.outcome.sending) (ticking n i at count d).expired ≡ sendings_from n i count before
  unfolding ticking sendings_from
  sends-from zero i at d full same alike = refl
  sends-from (suc n) i at d full same alike =
      let now = expiring_at count d.words in
      let was = expiring_at count before.words in
      let here : was i ≡ now at = sym (alike-here now was at i same) in
      by_elim (λ (t : Ticked Desk). map (λ expiry. expiry.outcome.sending) t.expired ≡ sendings_from (suc n) i count before) (now at)
      (λ timer t.
      let next = (step d count (report at timer)).desk in
      let gone = due-expires d count at timer full t in
      let sent : (step d count (report at timer)).outcome.sending ≡ (step before count (report i timer)).outcome.sending =
      due-sends d count at timer t
      ∙ ap row_cancels (alike-here (record_at d) (record_at before) at i alike)
      ∙ sym (due-sends before count i timer (here ∙ t)) in
      rw (here ∙ t)
      (ap₂ (λ (x : Option Letter) (xs : List (Option Letter)). x ∷ xs) sent
      (sends-from n (suc i) at next (step-full d count at timer full)
      (alike-gone now (expiring_at count next.words) was at i (due-behind d count at timer gone) same)
      (alike-gone (record_at d) (record_at next) (record_at before) at i (record-behind d count at timer gone) alike))))
      (λ f.
      rw (here ∙ f)
      (sends-from n (suc i) (suc at) d full (alike_next now was at i same) (alike_next (record_at d) (record_at before) at i alike)))

pub tick-sends : TickSends
unfolding ticked sendings
tick-sends d count full = sends-from count d Layout.places 0 0 d full (λ k. refl) (λ k. refl)

-- ---- a place without a timer that is due is none of those
not-due :
    (count place : ℕ) (words : List ℕ) → expiring_at count words place ≡ None → (n i : ℕ) → Lists.count (eqb place) (due_from n i count words) ≡ 0
unfolding due_from Lists.count
not-due count place words none zero i = refl
not-due count place words none (suc n) i =
    by_elim (λ (l : List ℕ). Lists.count (eqb place) l ≡ 0) (expiring_at count words i)
    (λ timer t.
    let other : eqb place i ≡ false = ne_eqb place i (λ e. none-one timer (sym none ∙ ap (expiring_at count words) e ∙ t)) in
    rw other (not-due count place words none n (suc i)))
    (λ f. not-due count place words none n (suc i))

ringout-none : (count : ℕ) (r : Record) (d : Deadlines) → r.state ≡ Ringout → expiring count r d ≡ None
unfolding expiring
ringout-none count r d e = rw e

pub ringout-stays : RingoutStays
ringout-stays d count place full e =
    ap (Lists.count (eqb place)) (tick-expires d count full)
    ∙ not-due count place d.words (ringout-none count _ (get_or (deadlines d.words) place no_deadlines) e) Layout.places 0

-- ---- afterwards: none before place `at` is due, and none behind the n places that are left
none_from :
    (count n i at : ℕ) (d : Desk) → length d.words ≡ Layout.words → ((j : ℕ) → j < at → expiring_at count d.words j ≡ None) →
    ((j : ℕ) → at + n ≤ j → expiring_at count d.words j ≡ None) → (j : ℕ) → expiring_at count (ticking n i at count d).desk.words j ≡ None
unfolding ticking
none_from count zero i at d full below above j = everywhere (expiring_at count d.words) None at below (λ k h. above k (omega (arith, h))) j
none_from count (suc n) i at d full below above j =
    by_elim (λ (t : Ticked Desk). expiring_at count t.desk.words j ≡ None) (expiring_at count d.words at)
    (λ timer t.
    let gone = due-expires d count at timer full t in
    none_from count n (suc i) at (step d count (report at timer)).desk (step-full d count at timer full)
    (λ k h. due-before d count at timer gone k h ∙ below k h)
    (λ k h. due-behind d count at timer gone k (omega (arith, h)) ∙ above (k + 1) (omega (arith, h)))
    j)
    (λ f. none_from count n (suc i) (suc at) d full (to-here (expiring_at count d.words) None at below f) (λ k h. above k (omega (arith, h))) j)

past-none : (count : ℕ) (words : List ℕ) (j : ℕ) → Layout.places ≤ j → expiring_at count words j ≡ None
unfolding expiring record_of state_of
past-none count words j h = rw (record-past words j h)

pub none-due : NoneDue
unfolding ticked
none-due d count full =
    none_from count Layout.places 0 0 d full (λ j h. absurd (omega (arith, h))) (λ j h. past-none count d.words j (omega (arith, h)))

-- ---- a tick is made of steps
ticking-reached : (count n i at : ℕ) (d : Desk) → Reached d → Reached (ticking n i at count d).desk
unfolding ticking
ticking-reached count zero i at d reached = reached
ticking-reached count (suc n) i at d reached =
    by_elim (λ (t : Ticked Desk). Reached t.desk) (expiring_at count d.words at)
    (λ timer t. ticking-reached count n (suc i) at (step d count (report at timer)).desk (S.steps count (S.times _ timer) reached))
    (λ f. ticking-reached count n (suc i) (suc at) d reached)

pub tick-reached : TickReached
unfolding ticked
tick-reached d reached count = ticking-reached count Layout.places 0 0 d reached

-- ---- the report of a timer that is due plans that its record goes, and starts nothing
pub due-removes :
    (count : ℕ) (words : List ℕ) (i : ℕ) (timer : Timer) → expiring_at count words i ≡ Some timer →
    let plan = plan_for (records words) (report i timer) in (plan.change ≡ Remove i) × (plan.outcome.starts ≡ no_timers)
due-removes count words i timer e =
    let ends = due-plan count words i timer e ∙ sym (row_ends_lem i (get_or (records words) i blank) timer) in
    (ap (λ (p : Plan Change). p.change) ends, ap (λ (p : Plan Change). p.outcome.starts) ends)
