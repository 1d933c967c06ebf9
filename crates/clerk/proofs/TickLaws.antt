-- A timer that runs out in a tick has its row in the record's state: so its report by hand is taken, and does what the row does. And the three rows do the same.
use Rattle.desk.specs.declared.letter.Letter.{Letter}
use Rattle.std.specs.Prelude.{Option, Some, None}
use Prim.Native.Nat.{ℕ}
use mathlib.Core.Path.{◌≡◌, refl, sym, ap, ◌∙◌}
use mathlib.Core.Bool.{Bool, true, false}
use mathlib.Core.List.{List}
use lib.ListN.{get_or}
use Rattle.lists.specs.Choice.{pick}
use Rattle.lists.proofs.Choice.{no_true}
use Rattle.lists.proofs.Lists.{both_parts}
use Rattle.clock.specs.Clock.{due}
use Rattle.message.specs.declared.Body.TheVariants.{CcCancel}
use Rattle.message.specs.declared.refusal.Refusal.TheVariants.{NotRunning}
use Rattle.desk.specs.Carriers.{sends_as}
use Rattle.desk.specs.Outcome.{no_timers}
use Rattle.desk.specs.Sends.{sent}
use Rattle.desk.specs.declared.Connection.{Connection}
use Rattle.desk.specs.declared.outcome.Notice.TheVariants.{Failed}
use Rattle.terms.specs.Terms.{elements_of}
use Rattle.terms.specs.declared.means.Means.TheVariants as Means
use Rattle.clerk_table.specs.Table.{in_use, home_of, holds_in}
use Rattle.clerk_table.specs.Inputs.{row_of_timer}
use Rattle.clerk_table.specs.Step.{running, row_taken}
use Rattle.clerk_table.specs.declared.table.State.{State}
use Rattle.clerk_table.specs.declared.table.State.TheVariants.{Free, WaitAck, Invoked, WaitAnswer, Ringout, Suspended}
use Rattle.clerk_table.specs.declared.table.Timer.{Timer}
use Rattle.clerk_table.specs.declared.table.Timer.TheVariants.{T1, T2, T3}
use Rattle.clerk_table.specs.declared.record.Record.{Record}
use Rattle.clerk_table.specs.declared.record.Change.TheVariants.{Remove}
use Rattle.clerk_table.specs.declared.record.Decision.TheVariants.{Refuse, Take}
use Rattle.desk.specs.declared.plan.Plan.{Plan}
use Rattle.clerk_records.specs.Records.{blank, records, applied}
use Rattle.clerk_records.specs.Meaning.{named}
use Rattle.clerk_records.specs.Deadlines.{no_deadlines, deadlines, deadline_in, runs_out, expiring, expiring_at}
use Rattle.clerk_records.specs.declared.deadlines.Deadlines.{Deadlines}
use Rattle.clerk_records.proofs.DeadlinesLaws.{timed-none}
use Rattle.clerk_plan.specs.Plan.{own_found, decided, plan_of, plan_for}
use Rattle.desk.specs.Steps.{answered}
use Rattle.clerk.specs.Steps.{desk_of, made, step}
use Rattle.clerk.specs.Ticks.{report, by_timer}
use Rattle.clerk.specs.declared.Desk.{Desk}
use Rattle.clerk_table.specs.declared.record.Change.{Change}

-- ---- what each timer's row does
abbrev pub row_cancels : Record → Option Letter
row_cancels r = sent (Some CcCancel) (elements_of r.terms) (sends_as r.terms.connection r.down)

abbrev pub row_ends : ℕ → Record → Plan Change
row_ends place r =
    record {
      change = Remove place;
      outcome = record {
        refusal = None;
        sending = row_cancels r;
        starts = no_timers;
        stops = running r.state;
        notice = Failed;
        clear = false;
        at = Some place;
      };
    }

pub row_ends_lem : (place : ℕ) (r : Record) (timer : Timer) → row_ends place r ≡ row_taken place r (row_of_timer timer)
unfolding row_taken
row_ends_lem place r T1 = refl
row_ends_lem place r T2 = refl
row_ends_lem place r T3 = refl

pub row-sends : (place : ℕ) (r q : Record) (s : Option Letter) (timer : Timer) → r ≡ q → s ≡ row_cancels r → s ≡ (row_taken place q (row_of_timer timer)).outcome.sending
row-sends place r q s timer same e = e ∙ ap row_cancels same ∙ ap (λ (plan : Plan Change). plan.outcome.sending) (row_ends_lem place q timer)

-- nothing is started, so no deadline is put
pub ends-made :
    (words : List ℕ) (count place : ℕ) (r : Record) (timer : Timer) →
    answered (desk_of (applied words (Remove place))) (row_ends place r).outcome ≡ made (desk_of words) count (row_taken place r (row_of_timer timer))
ends-made words count place r timer =
    ap (λ (w : List ℕ). answered (desk_of w) (row_ends place r).outcome) (sym (timed-none (applied words (Remove place)) count (Some place)))
    ∙ ap (made (desk_of words) count) (row_ends_lem place r timer)

-- ---- the timer that runs out
abbrev timer_of : Timer → Option Timer → Timer
timer_of otherwise e = by_timer e (λ timer. timer) otherwise

pub none-one : (timer : Timer) → None ≡ Some timer → ⊥
none-one timer e = no_true (ap (λ (x : Option Timer). by_timer x (λ t. true) false) e)

-- it is one whose test holds
first_holds :
    (holds : Timer → Bool) (timer : Timer) (a b c : Bool) → holds T1 ≡ a → holds T2 ≡ b → holds T3 ≡ c →
    pick a (Some T1) (pick b (Some T2) (pick c (Some T3) None)) ≡ Some timer → holds timer ≡ true
first_holds holds timer true b c p q r e = ap holds (sym (ap (timer_of timer) e)) ∙ p
first_holds holds timer false true c p q r e = ap holds (sym (ap (timer_of timer) e)) ∙ q
first_holds holds timer false false true p q r e = ap holds (sym (ap (timer_of timer) e)) ∙ r
first_holds holds timer false false false p q r e = absurd (none-one timer e)

-- the table takes its report, and it is due
pub due-runs :
    (count : ℕ) (r : Record) (d : Deadlines) (timer : Timer) → expiring count r d ≡ Some timer →
    (holds_in (home_of (row_of_timer timer)) r.state r.terms.connection ≡ true) × (due count (deadline_in d timer) ≡ true)
unfolding expiring
due-runs count r d timer e =
    both_parts _ _ (first_holds (runs_out count r d) timer (runs_out count r d T1) (runs_out count r d T2) (runs_out count r d T3) refl refl refl e)

-- a free place has no row
pub home-used : (timer : Timer) (s : State) (c : Connection) → holds_in (home_of (row_of_timer timer)) s c ≡ true → in_use s ≡ true
home-used T1 Free c e = e
home-used T2 Free c e = e
home-used T3 Free c e = e
home-used timer WaitAck c e = refl
home-used timer Invoked c e = refl
home-used timer WaitAnswer c e = refl
home-used timer Ringout c e = refl
home-used timer Suspended c e = refl

-- ---- its report
module _ (rs : List Record) (i : ℕ) (timer : Timer) (h : holds_in (home_of (row_of_timer timer)) (get_or rs i blank).state (get_or rs i blank).terms.connection ≡ true) where
  due-decided : decided rs (report i timer) ≡ Take i (row_of_timer timer)
  unfolding decided named
  due-decided =
      let r = get_or rs i blank in
      ap (λ (b : Bool). own_found rs (row_of_timer timer) NotRunning (pick b (Means.At i) Means.Nothing)) (home-used timer r.state r.terms.connection h)
      ∙ ap (λ (b : Bool). pick b (Take i (row_of_timer timer)) (Refuse NotRunning None)) h

  holds-plan : plan_for rs (report i timer) ≡ row_taken i (get_or rs i blank) (row_of_timer timer)
  unfolding plan_for plan_of
  holds-plan = ap (plan_of rs (report i timer)) due-decided

pub due-plan :
    (count : ℕ) (words : List ℕ) (i : ℕ) (timer : Timer) → expiring_at count words i ≡ Some timer →
    plan_for (records words) (report i timer) ≡ row_taken i (get_or (records words) i blank) (row_of_timer timer)
due-plan count words i timer e =
    let rs = records words in holds-plan rs i timer (due-runs count (get_or rs i blank) (get_or (deadlines words) i no_deadlines) timer e).0

pub due-step :
    (d : Desk) (count i : ℕ) (timer : Timer) → expiring_at count d.words i ≡ Some timer →
    step d count (report i timer) ≡ made d count (row_taken i (get_or (records d.words) i blank) (row_of_timer timer))
unfolding step
due-step d count i timer e = ap (made d count) (due-plan count d.words i timer e)
