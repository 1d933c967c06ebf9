-- A tick turn by turn: each is a report by hand, which every run may have.
use Rattle.std.specs.Prelude.{Option, Some, None}
use Prim.Native.Nat.{ℕ, zero, suc}
use mathlib.Core.Path.{◌≡◌, refl, sym, ◌∙◌, ap, subst}
use mathlib.Core.Bool.{Bool, true, false}
use mathlib.Core.List.{List, [], ◌∷◌, ◌++◌, map, append_assoc, append-nil}
use native.Mathlib.Omega.{arith}
use Rattle.lists.specs.Choice.{pick}
use Rattle.message.specs.declared.Message.{Message}
use Rattle.desk.specs.Ticked.{expired_at, Ticked, noted}
use Rattle.desk.specs.declared.outcome.Outcome.{Outcome}
use Rattle.clerk_table.specs.declared.table.Timer.{Timer}
use Rattle.clerk_records.specs.Layout as ClerkLayout
use Rattle.clerk_records.specs.Deadlines as ClerkDeadlines
use Rattle.clerk.specs.Steps as ClerkSteps
use Rattle.clerk.specs.Ticks as Clerk
use Rattle.clerk.specs.declared.Desk.{Desk as ClerkDesk}
use Rattle.line_records.specs.Layout as LineLayout
use Rattle.line_records.specs.Deadlines as LineDeadlines
use Rattle.line.specs.Steps as LineSteps
use Rattle.line.specs.Ticks as Line
use Rattle.line.specs.declared.Desk.{Desk as LineDesk}
use Rattle.pair.specs.World.{Of, from, World, Event, clerk_does, line_does, sent_by, next, Allowed, Run, stop, then, Any, Once, Apart}
use Rattle.pair.specs.Ticks.{Report, none, one, whether, ticking, clerk_report, line_report, clerk_ticked, line_ticked, sent_of, carried, TickIsReports, TickRun, begins, goes, clerk_ticks, line_ticks, RunsOverTicks}

-- ---- what goes on a wire: the messages of a report, and those of the reports behind it
wire-sent : (xs : List (Of Message)) (o : ℕ) (ms : List Message) → carried (xs ++ map (from o) ms) ≡ carried xs ++ ms
wire-sent [] o [] = refl
wire-sent [] o (m ∷ ms) = ap (λ (ys : List Message). m ∷ ys) (wire-sent [] o ms)
wire-sent (x ∷ xs) o ms = ap (λ (ys : List Message). x.it ∷ ys) (wire-sent xs o ms)

wire-on :
    (xs : List (Of Message)) (o : ℕ) (own rest whole : List Message) → whole ≡ carried (xs ++ map (from o) own) ++ rest → whole ≡ carried xs ++ (own ++ rest)
wire-on xs o own rest whole e = e ∙ ap (λ (ms : List Message). ms ++ rest) (wire-sent xs o own) ∙ append_assoc (carried xs) own rest

abbrev outcomes : {Desk : Type 0} → Ticked Desk → List Outcome
outcomes t = map (λ e. e.outcome) t.expired

-- ---- the clerk's end: what is to be shown of the places that are left
record ClerkSame (w after : World) (t : Ticked ClerkDesk) : Type 0 where
  desk : after.clerk ≡ t.desk
  sent : carried after.up ≡ carried w.up ++ sent_of (outcomes t)
  line : after.line ≡ w.line
  down : after.down ≡ w.down

clerk-same : (n i at : ℕ) (w : World) → ClerkSame w (ticking clerk_report n at w) (Clerk.ticking n i at w.count w.clerk)
unfolding ticking Clerk.ticking sent_of next ClerkSteps.entered
clerk-same zero i at w = record { desk = refl; sent = sym (append-nil (carried w.up)); line = refl; down = refl }
clerk-same (suc n) i at w =
    by (ClerkDeadlines.expiring_at w.count w.clerk.words at) (λ timer. clerk-same n (suc i) at (next w (clerk_does (Clerk.report at timer))))
    (clerk-same n (suc i) (suc at) w)
  where
    by :
        (x : Option Timer) →
        ((timer : Timer) →
        ClerkSame (next w (clerk_does (Clerk.report at timer))) (ticking clerk_report n at (next w (clerk_does (Clerk.report at timer))))
        (Clerk.ticking n (suc i) at w.count (ClerkSteps.step w.clerk w.count (Clerk.report at timer)).desk)) →
        ClerkSame w (ticking clerk_report n (suc at) w) (Clerk.ticking n (suc i) (suc at) w.count w.clerk) →
        ClerkSame w
        (whether (Clerk.by_timer x (λ timer. one (clerk_does (Clerk.report at timer))) none) (ticking clerk_report n (suc at) w) (λ e. ticking clerk_report n at (next w e)))
        (Clerk.by_timer x
        (λ timer.
        noted (expired_at i (ClerkSteps.step w.clerk w.count (Clerk.report at timer)).outcome)
        (Clerk.ticking n (suc i) at w.count (ClerkSteps.step w.clerk w.count (Clerk.report at timer)).desk))
        (Clerk.ticking n (suc i) (suc at) w.count w.clerk))
    by (Some timer) gone on =
        let same = gone timer in
        record {
          desk = same.desk;
          sent = wire-on w.up _ (sent_by (ClerkSteps.step w.clerk w.count (Clerk.report at timer)).outcome.sending) _ _ same.sent;
          line = same.line;
          down = same.down;
        }
    by None gone on = on

-- ---- the line's end
record LineSame (w after : World) (t : Ticked LineDesk) : Type 0 where
  desk : after.line ≡ t.desk
  sent : carried after.down ≡ carried w.down ++ sent_of (outcomes t)
  clerk : after.clerk ≡ w.clerk
  up : after.up ≡ w.up

line_same_lem : (n i at : ℕ) (w : World) → LineSame w (ticking line_report n at w) (Line.ticking n i at w.count w.line)
unfolding ticking Line.ticking sent_of next LineSteps.entered
line_same_lem zero i at w = record { desk = refl; sent = sym (append-nil (carried w.down)); clerk = refl; up = refl }
line_same_lem (suc n) i at w =
    by (LineDeadlines.expiring_at w.count w.line.words at) (line_same_lem n (suc i) at (next w (line_does (Line.report at)))) (line_same_lem n (suc i) (suc at) w)
  where
    by :
        (b : Bool) →
        LineSame (next w (line_does (Line.report at))) (ticking line_report n at (next w (line_does (Line.report at))))
        (Line.ticking n (suc i) at w.count (LineSteps.step w.line w.count (Line.report at)).desk) →
        LineSame w (ticking line_report n (suc at) w) (Line.ticking n (suc i) (suc at) w.count w.line) →
        LineSame w
        (whether (pick b (one (line_does (Line.report at))) none) (ticking line_report n (suc at) w) (λ e. ticking line_report n at (next w e)))
        (pick b
        (noted (expired_at i (LineSteps.step w.line w.count (Line.report at)).outcome)
        (Line.ticking n (suc i) at w.count (LineSteps.step w.line w.count (Line.report at)).desk))
        (Line.ticking n (suc i) (suc at) w.count w.line))
    by true gone on =
        record {
          desk = gone.desk;
          sent = wire-on w.down _ (sent_by (LineSteps.step w.line w.count (Line.report at)).outcome.sending) _ _ gone.sent;
          clerk = gone.clerk;
          up = gone.up;
        }
    by false gone on = on

pub tick-is-reports : TickIsReports
unfolding Clerk.ticked Line.ticked
tick-is-reports w =
    let c = clerk-same ClerkLayout.places 0 0 w in
    let l = line_same_lem LineLayout.places 0 0 w in
    (record { desk = c.desk; sent = c.sent; line = c.line; down = c.down }, record { desk = l.desk; sent = l.sent; clerk = l.clerk; up = l.up })

-- ---- runs: under a premise that asks nothing of the reports, and where a run may have them
abbrev Free : (World → Event → Type 0) → (World → ℕ → Report) → Type 0
Free Holds due = (w : World) (at : ℕ) (e : Event) → due w at ≡ one e → Allowed w e × Holds w e

runs_on :
    {Holds : World → Event → Type 0} (due : World → ℕ → Report) → Free Holds due → {first : World} (n at : ℕ) (w : World) → Run Holds first w →
    Run Holds first (ticking due n at w)
unfolding ticking
runs_on due free zero at w run = run
runs_on {Holds} due free {first} (suc n) at w run =
    by (due w at) refl (runs_on due free n (suc at) w run) (λ e so. let may = free w at e so in runs_on due free n at (next w e) (then run e may.0 may.1))
  where
    by :
        (r : Report) → due w at ≡ r → Run Holds first (ticking due n (suc at) w) → ((e : Event) → due w at ≡ one e → Run Holds first (ticking due n at (next w e))) →
        Run Holds first (whether r (ticking due n (suc at) w) (λ e. ticking due n at (next w e)))
    by none q on ended = on
    by (one e) q on ended = ended e q

-- a report is no ask and no message, and no delivery
pub data Reporting : Event → Type 0 where
  timer : (place : ℕ) (t : Timer) → Reporting (clerk_does (Clerk.report place t))
  guard : (place : ℕ) → Reporting (line_does (Line.report place))

may_report : (w : World) (e : Event) → Reporting e → Allowed w e
may_report w e (timer place t) =
    record {
      asked = λ names q is. let z : ◌≡◌ {A = ℕ} 0 1 = cc in absurd (omega (arith, z));
      toClerk = λ l busy place is. let z : ◌≡◌ {A = ℕ} 0 1 = cc in absurd (omega (arith, z));
      toLine = λ l place is. let z : ◌≡◌ {A = ℕ} 0 1 = cc in absurd (omega (arith, z));
    }
may_report w e (guard place) =
    record {
      asked = λ names q is. let z : ◌≡◌ {A = ℕ} 0 1 = cc in absurd (omega (arith, z));
      toClerk = λ l busy place is. let z : ◌≡◌ {A = ℕ} 0 1 = cc in absurd (omega (arith, z));
      toLine = λ l place is. let z : ◌≡◌ {A = ℕ} 0 1 = cc in absurd (omega (arith, z));
    }

once-free : (w : World) (e : Event) → Reporting e → Once w e
once-free w e (timer place t) names q is = let z : ◌≡◌ {A = ℕ} 0 1 = cc in absurd (omega (arith, z))
once-free w e (guard place) names q is = let z : ◌≡◌ {A = ℕ} 0 1 = cc in absurd (omega (arith, z))

apart-free : (o : ℕ) (w : World) (e : Event) → Reporting e → Apart o w e
apart-free o w e (timer place t) =
    record {
      atClerk = λ busy at x rest is. let z : ◌≡◌ {A = ℕ} 0 1 = cc in absurd (omega (arith, z));
      atLine = λ at x rest is. let z : ◌≡◌ {A = ℕ} 0 1 = cc in absurd (omega (arith, z));
    }
apart-free o w e (guard place) =
    record {
      atClerk = λ busy at x rest is. let z : ◌≡◌ {A = ℕ} 0 1 = cc in absurd (omega (arith, z));
      atLine = λ at x rest is. let z : ◌≡◌ {A = ℕ} 0 1 = cc in absurd (omega (arith, z));
    }

clerk-reporting : (w : World) (at : ℕ) (e : Event) → clerk_report w at ≡ one e → Reporting e
clerk-reporting w at e so = by (ClerkDeadlines.expiring_at w.count w.clerk.words at) so
  where
    by : (x : Option Timer) → Clerk.by_timer x (λ timer. one (clerk_does (Clerk.report at timer))) none ≡ one e → Reporting e
    by (Some t) q = let same : clerk_does (Clerk.report at t) ≡ e = cc in subst Reporting same (timer at t)
    by None q = let z : ◌≡◌ {A = ℕ} 0 1 = cc in absurd (omega (arith, z))

line-reporting : (w : World) (at : ℕ) (e : Event) → line_report w at ≡ one e → Reporting e
line-reporting w at e so = by (LineDeadlines.expiring_at w.count w.line.words at) so
  where
    by : (b : Bool) → pick b (one (line_does (Line.report at))) none ≡ one e → Reporting e
    by true q = let same : line_does (Line.report at) ≡ e = cc in subst Reporting same (guard at)
    by false q = let z : ◌≡◌ {A = ℕ} 0 1 = cc in absurd (omega (arith, z))

module _ (Holds : World → Event → Type 0) (free : (w : World) (e : Event) → Reporting e → Holds w e) where
  both-on : (first w : World) → Run Holds first w → Run Holds first (ticking clerk_report ClerkLayout.places 0 w) × Run Holds first (ticking line_report LineLayout.places 0 w)
  both-on first w run = (
    runs_on clerk_report (λ u at e so. let r = clerk-reporting u at e so in (may_report u e r, free u e r)) ClerkLayout.places 0 w run,
    runs_on line_report (λ u at e so. let r = line-reporting u at e so in (may_report u e r, free u e r)) LineLayout.places 0 w run,
  )

  is-run : (first : World) {w : World} → TickRun Holds first w → Run Holds first w
  is-run first begins = stop
  is-run first (goes run e allowed holds) = then (is-run first run) e allowed holds
  is-run first (clerk_ticks run) = (both-on first _ (is-run first run)).0
  is-run first (line_ticks run) = (both-on first _ (is-run first run)).1

pub once-on : (first w : World) → Run Once first w → Run Once first (clerk_ticked w) × Run Once first (line_ticked w)
once-on = both-on Once once-free

pub runs-over-ticks : RunsOverTicks
runs-over-ticks = record { any = λ first w run. is-run Any (λ u e r. tt) first run; once = λ first w run. is-run Once once-free first run; apart = λ o first w run. is-run (Apart o) (apart-free o) first run }
