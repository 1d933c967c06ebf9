-- A guard that is due belongs to a record in use, and has its row in every state: so its report by hand is taken, and does what the row does.
use Rattle.std.specs.Prelude.{Some, None}
use Prim.Native.Nat.{ℕ}
use mathlib.Core.Path.{◌≡◌, refl, sym, ap, ◌∙◌}
use mathlib.Core.Bool.{Bool, true}
use mathlib.Core.List.{List}
use lib.ListN.{get_or}
use Rattle.lists.specs.Choice.{pick}
use Rattle.lists.proofs.Lists.{both_parts}
use Rattle.message.specs.declared.refusal.Refusal.TheVariants.{NoRow}
use Rattle.desk.specs.declared.Connection.{Connection}
use Rattle.terms.specs.declared.means.Means.TheVariants as Means
use Rattle.line_table.specs.Table.{in_use, holds_in}
use Rattle.line_table.specs.Search.{used}
use Rattle.line_table.specs.Step.{row_taken}
use Rattle.line_table.specs.declared.table.State.{State}
use Rattle.line_table.specs.declared.table.State.TheVariants.{Free, Invoked, Await, Alert}
use Rattle.line_table.specs.declared.table.Home.TheVariants.{Always}
use Rattle.line_table.specs.declared.table.Row.TheVariants.{GuardRunsOut}
use Rattle.line_table.specs.declared.record.Record.{Record}
use Rattle.line_table.specs.declared.record.Change.TheVariants.{Remove}
use Rattle.line_table.specs.declared.record.Decision.TheVariants.{Refuse, Take}
use Rattle.line_records.specs.Records.{blank, records, removed}
use Rattle.line_records.specs.Meaning.{named}
use Rattle.line_records.specs.Change.{applied}
use Rattle.line_records.specs.Deadlines.{expiring_at}
use Rattle.line_records.proofs.DeadlinesLaws.{timed-none}
use Rattle.line_plan.specs.Decide.{own_meant, own_decision, decided}
use Rattle.line_plan.specs.Plan.{plan_of, plan_for}
use Rattle.desk.specs.Steps.{answered}
use Rattle.line.specs.Steps.{desk_of, made, step}
use Rattle.line.specs.Ticks.{report}
use Rattle.line.specs.declared.Desk.{Desk}

-- ---- what the guard's row does: nothing is started, so no deadline is put
pub ends-made :
    (words : List ℕ) (count place : ℕ) (r : Record) →
    answered (desk_of (removed words place)) (row_taken place r GuardRunsOut).outcome ≡ made (desk_of words) count (row_taken place r GuardRunsOut)
unfolding row_taken applied
ends-made words count place r =
    ap (λ (w : List ℕ). answered (desk_of w) (row_taken place r GuardRunsOut).outcome) (sym (timed-none (applied words (Remove place)) count (Some place)))

-- ---- a guard that is due
-- the guard runs in every state
always : (s : State) (c : Connection) → holds_in Always s c ≡ in_use s
always Free c = refl
always Invoked c = refl
always Await c = refl
always Alert c = refl

due-used : (count : ℕ) (words : List ℕ) (i : ℕ) → expiring_at count words i ≡ true → used (get_or (records words) i blank) ≡ true
unfolding expiring_at
due-used count words i t = (both_parts _ _ t).0

-- ---- its report
module _ (words : List ℕ) (i : ℕ) (u : used (get_or (records words) i blank) ≡ true) where
  due-decided : decided words (report i) ≡ Take i GuardRunsOut
  unfolding decided own_decision named
  due-decided =
      let r = get_or (records words) i blank in
      ap (λ (b : Bool). own_meant words GuardRunsOut (pick b (Means.At i) Means.Nothing)) u
      ∙ ap (λ (b : Bool). pick b (Take i GuardRunsOut) (Refuse NoRow None)) (always r.state r.terms.connection ∙ u)

  used-plan : plan_for words (report i) ≡ row_taken i (get_or (records words) i blank) GuardRunsOut
  unfolding plan_for plan_of
  used-plan = ap (plan_of words (report i)) due-decided

pub due-plan :
    (count : ℕ) (words : List ℕ) (i : ℕ) → expiring_at count words i ≡ true → plan_for words (report i) ≡ row_taken i (get_or (records words) i blank) GuardRunsOut
due-plan count words i t = used-plan words i (due-used count words i t)

pub due-step :
    (d : Desk) (count i : ℕ) → expiring_at count d.words i ≡ true →
    step d count (report i) ≡ made d count (row_taken i (get_or (records d.words) i blank) GuardRunsOut)
unfolding step
due-step d count i t = ap (made d count) (due-plan count d.words i t)
