-- The reports of a tick are steps, and afterwards none is due: so a tick carries a desk on. It takes those that are due, and in true time those are the ones whose seconds have passed.
use Prim.Native.Nat.{ℕ, zero, suc, ◌%◌, ◌<◌}
use mathlib.Core.Path.{◌≡◌, refl, ap, ◌∙◌, subst}
use mathlib.Core.Bool.{Bool, true, false}
use mathlib.Core.List.{List}
use lib.ListN.{length, get_or}
use lib.Dec.{eqb}
use native.Mathlib.Omega.{arith}
use Rattle.lists.specs.Lists.{count}
use Rattle.lists.proofs.Choice.{pick-both}
use Rattle.desk.specs.Ticked.{Ticked}
use Rattle.clock.specs.Clock.{turn}
use Rattle.places.specs.Notes.{Note}
use Rattle.places.proofs.Passing.{not_listed, listed-once}
use Rattle.places.proofs.Staying.{used-inside}
use Rattle.line_table.specs.Search.{used}
use Rattle.line_table.specs.declared.record.Change.{Change}
use Rattle.line_records.specs.Layout as Layout
use Rattle.line_records.specs.Records.{blank, records}
use Rattle.line_records.specs.Deadlines.{expiring_at}
use Rattle.line_records.proofs.RecordsLaws.{records-length}
use Rattle.line.specs.Steps.{step}
use Rattle.line.specs.Ticks.{report, ticking, ticked}
use Rattle.line.specs.declared.Desk.{Desk}
use Rattle.line_sound.specs.Sound.{line_view, guards}
use Rattle.line_sound.specs.Ticking.{due_from, places_of}
use Rattle.line_sound.specs.Time.{notes_after, notes_left_from, Lasting, steps, ticks, TickLasts, Over, TickInTime}
use Rattle.line_sound.proofs.Starting.{blank-unused}
use Rattle.line_sound.proofs.Ticking.{due-removes, tick-expires, none-due}
use Rattle.line_sound.proofs.Time.{expiring-used, nothing-early, due-in-tick, lasting-full}

-- ---- a tick carries a desk on
left-from :
    (now last n i at : ℕ) (d : Desk) (ns : List Note) → Lasting d ns now last →
    Lasting (ticking n i at (now % turn) d).desk (notes_left_from n at (now % turn) d ns) now last
unfolding ticking notes_left_from
left-from now last zero i at d ns run = run
left-from now last (suc n) i at d ns run =
    let now-due = expiring_at (now % turn) d.words at in
    pick-both (λ (t : Ticked Desk) (left : List Note). Lasting t.desk left now last) now-due
    (λ t.
    let next = (step d (now % turn) (report at)).desk in
    left-from now last n (suc i) at next _
    (subst (λ (c : Change). Lasting next (notes_after c now ns) now last) (due-removes (now % turn) d.words at t) (steps (guards _) run)))
    (λ f. left-from now last n (suc i) (suc at) d ns run)

pub tick-lasts : TickLasts
unfolding ticked
tick-lasts d ns now last run soon =
    ticks soon (none-due d (now % turn) (lasting-full run)) (left-from now last Layout.places 0 0 d ns run)

-- ---- how often a tick takes a place
module _ (d : Desk) (ticks : ℕ) (full : length d.words ≡ Layout.words) (place : ℕ) where
  abbrev times : ℕ
  times = count (eqb place) (places_of d ticks)

  by-due : times ≡ count (eqb place) (due_from Layout.places 0 ticks d.words)
  by-due = ap (count (eqb place)) (tick-expires d ticks full)

  abbrev listed : ℕ → ℕ → List ℕ
  listed n i = due_from n i ticks d.words

  not_taken : expiring_at ticks d.words place ≡ false → times ≡ 0
  unfolding due_from
  not_taken f = by-due ∙ not_listed (expiring_at ticks d.words) listed (λ i. refl) (λ n i. refl) place f Layout.places 0

  taken-once : place < Layout.places → expiring_at ticks d.words place ≡ true → times ≡ 1
  unfolding due_from
  taken-once inside t =
      by-due ∙ listed-once (expiring_at ticks d.words) listed (λ i. refl) (λ n i. refl) place t Layout.places 0 (omega arith) (omega (arith, inside))

used-place : (d : Desk) (place : ℕ) → used (get_or (records d.words) place blank) ≡ true → place < Layout.places
used-place d place u = omega (arith, used-inside line_view (records d.words) place blank-unused u, records-length d.words)

pub tick-in-time : TickInTime
tick-in-time d ns now last run soon place =
    let count = now % turn in
    let full = lasting-full run in
    record {
      early = λ some. by some (expiring_at count d.words place) refl;
      expires = λ over. taken-once d count full place (used-place d place over.its) (due-in-tick d ns now last run soon place over.its over.passed);
    }
  where
    by : 0 < times d (now % turn) (lasting-full run) place → (b : Bool) → expiring_at (now % turn) d.words place ≡ b → Over d ns now place
    by some true t = record { its = expiring-used (now % turn) d place t; passed = nothing-early d ns now last run place t }
    by some false f = absurd (omega (arith, some, not_taken d (now % turn) (lasting-full run) place f))
