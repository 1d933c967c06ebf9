-- The reports of a tick are steps, and afterwards none is due: so a tick carries a desk on. It takes those that are due, and in true time those are the ones whose seconds have passed.
use Rattle.std.specs.Prelude.{Option, Some, None}
use Prim.Native.Nat.{ℕ, zero, suc, ◌+◌, ◌%◌, ◌≤◌, ◌<◌}
use mathlib.Core.Path.{◌≡◌, refl, ap, ◌∙◌, subst}
use mathlib.Core.Bool.{Bool, true, false}
use mathlib.Core.List.{List, ◌∷◌}
use lib.ListN.{length, get_or}
use lib.Dec.{ltb, eqb}
use native.Mathlib.Omega.{arith}
use borrow.Author.Tests.{ltb-true, ltb-false}
use Rattle.lists.specs.Choice.{pick}
use Rattle.lists.specs.Lists.{count, without}
use Rattle.lists.proofs.Lists.{get_or-without-before}
use Rattle.clock.specs.Clock.{turn}
use Rattle.desk.specs.Outcome.{no_timers}
use Rattle.desk.specs.Ticked.{Ticked}
use Rattle.desk.specs.declared.outcome.Timers.{Timers}
use Rattle.places.proofs.Passing.{not_listed, listed-once}
use Rattle.places.proofs.Staying.{used-inside, moved_up}
use Rattle.clerk_table.specs.declared.table.State.TheVariants.{Ringout}
use Rattle.clerk_table.specs.declared.table.Timer.{Timer}
use Rattle.clerk_table.specs.declared.record.Record.{Record}
use Rattle.clerk_table.specs.declared.record.Change.{Change}
use Rattle.clerk_records.specs.Layout as Layout
use Rattle.clerk_records.specs.Records.{blank, records, records_after}
use Rattle.clerk_records.specs.Deadlines.{no_deadlines, deadlines, expiring_at}
use Rattle.clerk_records.proofs.RecordsLaws.{records-length}
use Rattle.clerk_plan.specs.Plan.{plan_for}
use Rattle.clerk.specs.Steps.{step}
use Rattle.clerk.specs.Ticks.{report, by_timer, ticking, ticked}
use Rattle.clerk.specs.declared.start.Lengths.{Lengths}
use Rattle.clerk.specs.declared.Desk.{Desk}
use Rattle.clerk_sound.specs.Sound.{clerk_view}
use Rattle.clerk_sound.specs.Ticking.{due_from, places_of}
use Rattle.clerk_sound.specs.Notes.{Notes, no_notes, notes_moved, notes_started, notes_after, notes_left_from}
use Rattle.clerk_sound.specs.Time.{long, NotLong, Lasting, steps, ticks, TickLasts, Over, TickInTime}
use Rattle.clerk_sound.proofs.Start.{blank-unused}
use Rattle.clerk.proofs.TickLaws.{home-used, due-runs}
use Rattle.clerk_sound.proofs.Ticking.{due-expires, due-removes, tick-expires, none-due}
use Rattle.clerk_sound.proofs.Time.{nothing-early, due-in-tick, lasting-full}

-- ---- the notes of a record whose report is taken go with it
started_none : (l : Lengths) (now : ℕ) (at : Option ℕ) (rs : List Record) (ns : List Notes) → notes_started l now at no_timers rs ns ≡ ns
started_none l now None rs ns = refl
started_none l now (Some i) rs ns = refl

report-notes :
    (l : Lengths) (count : ℕ) (words : List ℕ) (i : ℕ) (timer : Timer) → expiring_at count words i ≡ Some timer → (now : ℕ) (ns : List Notes) →
    notes_after l (records words) (plan_for (records words) (report i timer)) now ns ≡ without no_notes ns i
report-notes l count words i timer e now ns =
    let plan = plan_for (records words) (report i timer) in
    let ends = due-removes count words i timer e in
    ap (λ (t : Timers). notes_started l now plan.outcome.at t (records_after (records words) plan.change) (notes_moved plan.change now ns)) ends.1
    ∙ started_none l now plan.outcome.at (records_after (records words) plan.change) (notes_moved plan.change now ns)
    ∙ ap (λ (c : Change). notes_moved c now ns) ends.0

-- every other is as long in Ringout as before
gone-not-long :
    (d after : Desk) (ns : List Notes) (now i : ℕ) → records after.words ≡ without blank (records d.words) i → NotLong d ns now →
    NotLong after (without no_notes ns i) now
gone-not-long d after ns now i gone bound j = rw gone (by (ltb j i) refl)
  where
    by : (b : Bool) → ltb j i ≡ b → (get_or (without blank (records d.words) i) j blank).state ≡ Ringout → now ≤ (get_or (without no_notes ns i) j no_notes).heeded + long
    by true t = let h = ltb-true j i t in rw (get_or-without-before blank (records d.words) i j blank h, get_or-without-before no_notes ns i j no_notes h) (bound j)
    by false f = let h = ltb-false j i f in rw (moved_up blank (records d.words) i j h, moved_up no_notes ns i j h) (bound (j + 1))

-- ---- a tick carries a desk on
by_both :
    {A B : Type 0} (P : A → B → Type 0) (e : Option Timer) {a : Timer → A} {x : A} {b : Timer → B} {y : B} → ((timer : Timer) → e ≡ Some timer → P (a timer) (b timer)) →
    (e ≡ None → P x y) → P (by_timer e a x) (by_timer e b y)
by_both P (Some timer) f g = f timer refl
by_both P None f g = g refl

abbrev Carried : Lengths → ℕ → ℕ → Desk → List Notes → Type 0
Carried l now last d ns = Lasting l d ns now last × NotLong d ns now

left-from :
    (l : Lengths) (now last n i at : ℕ) (d : Desk) (ns : List Notes) → Carried l now last d ns →
    Carried l now last (ticking n i at (now % turn) d).desk (notes_left_from n at (now % turn) d ns)
unfolding ticking notes_left_from
left-from l now last zero i at d ns run = run
left-from l now last (suc n) i at d ns run =
    let count = now % turn in
    by_both (λ (t : Ticked Desk) (left : List Notes). Carried l now last t.desk left) (expiring_at count d.words at)
    (λ timer t.
    let next = (step d count (report at timer)).desk in
    left-from l now last n (suc i) at next (without no_notes ns at) (
      subst (λ (left : List Notes). Lasting l next left now last) (report-notes l count d.words at timer t now ns) (steps (report at timer) run.0),
      gone-not-long d next ns now at (due-expires d count at timer (lasting-full run.0) t).gone run.1,
    ))
    (λ f. left-from l now last n (suc i) (suc at) d ns run)

pub tick-lasts : TickLasts
unfolding ticked
tick-lasts l d ns now last run soon bound =
    let left = left-from l now last Layout.places 0 0 d ns (run, bound) in
    ticks soon (none-due d (now % turn) (lasting-full run)) left.1 left.0

-- ---- how often a tick takes a place
abbrev one : Option Timer → Bool
one e = by_timer e (λ timer. true) false

by_one : {A : Type 0} (e : Option Timer) (x y : A) → by_timer e (λ timer. x) y ≡ pick (one e) x y
by_one (Some timer) x y = refl
by_one None x y = refl

module _ (d : Desk) (ticks : ℕ) (full : length d.words ≡ Layout.words) (place : ℕ) where
  abbrev times : ℕ
  times = count (eqb place) (places_of d ticks)

  abbrev is-due : ℕ → Bool
  is-due i = one (expiring_at ticks d.words i)

  abbrev listed : ℕ → ℕ → List ℕ
  listed n i = due_from n i ticks d.words

  some : (n i : ℕ) → listed (suc n) i ≡ pick (is-due i) (i ∷ listed n (suc i)) (listed n (suc i))
  unfolding due_from
  some n i = by_one (expiring_at ticks d.words i) (i ∷ listed n (suc i)) (listed n (suc i))

  not_taken : expiring_at ticks d.words place ≡ None → times ≡ 0
  unfolding due_from
  not_taken f = ap (count (eqb place)) (tick-expires d ticks full) ∙ not_listed is-due listed (λ i. refl) some place (ap one f) Layout.places 0

  taken-once : (timer : Timer) → place < Layout.places → expiring_at ticks d.words place ≡ Some timer → times ≡ 1
  unfolding due_from
  taken-once timer inside t =
      ap (count (eqb place)) (tick-expires d ticks full)
      ∙ listed-once is-due listed (λ i. refl) some place (ap one t) Layout.places 0 (omega arith) (omega (arith, inside))

over-place : (d : Desk) (ns : List Notes) (now place : ℕ) → Over d ns now place → place < Layout.places
over-place d ns now place over =
    let r = get_or (records d.words) place blank in
    let u = home-used over.timer r.state r.terms.connection over.its in
    omega (arith, used-inside clerk_view (records d.words) place blank-unused u, records-length d.words)

pub tick-in-time : TickInTime
tick-in-time l d ns now last run soon place =
    record {
      early = λ some. by some (expiring_at (now % turn) d.words place) refl;
      expires = λ over.
          let due = due-in-tick l d ns now last run soon place over.timer over.its over.passed in
          taken-once d (now % turn) (lasting-full run) place due.timer (over-place d ns now place over) due.due;
    }
  where
    by : 0 < times d (now % turn) (lasting-full run) place → (e : Option Timer) → expiring_at (now % turn) d.words place ≡ e → Over d ns now place
    by some (Some timer) t =
        let r = get_or (records d.words) place blank in
        record {
          timer = timer;
          its = (due-runs (now % turn) r (get_or (deadlines d.words) place no_deadlines) timer t).0;
          passed = nothing-early l d ns now last run place timer t;
        }
    by some None f = absurd (omega (arith, some, not_taken d (now % turn) (lasting-full run) place f))
