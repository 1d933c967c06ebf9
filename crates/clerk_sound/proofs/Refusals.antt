-- A refusal leaves the desk as it was: the plan of a decision that refuses stays and only replies, every other one has no refusal, and what is refused at the entry hands the desk back.
use Rattle.std.specs.Prelude.{None, Ok, Err, Result, Some}
use Prim.Native.Nat.{ℕ}
use mathlib.Core.Path.{◌≡◌, refl, ap, ◌∙◌}
use mathlib.Core.List.{List}
use Rattle.message.specs.declared.refusal.Refusal.{Refusal}
use Rattle.std.proofs.lemmas.Option.{none-some}
use Rattle.desk.specs.Outcome.{refused_with}
use Rattle.desk.specs.declared.outcome.Outcome.{Outcome}
use Rattle.desk.specs.Sends.{answered}
use Rattle.clerk_table.specs.Inputs.{names_of}
use Rattle.clerk_table.specs.Step.{row_taken}
use Rattle.desk.specs.declared.plan.Plan.{Plan}
use Rattle.clerk_table.specs.declared.record.Record.{Record}
use Rattle.clerk_table.specs.declared.record.Decision.{Decision}
use Rattle.clerk_table.specs.declared.record.Decision.TheVariants.{Refuse, Take, Store}
use Rattle.clerk_table.specs.declared.record.Change.{Change}
use Rattle.clerk_table.specs.declared.record.Change.TheVariants.{Stay}
use Rattle.clerk_table.specs.declared.inputs.Input.{Input}
use Rattle.clerk_records.specs.Records.{records, applied}
use Rattle.clerk_records.specs.Deadlines.{timed}
use Rattle.clerk_plan.specs.Plan.{decided, plan_of, plan_for}
use Rattle.clerk.specs.Entry.{bytes_entry}
use Rattle.clerk.specs.Steps.{step, entered, received_bytes}
use Rattle.clerk.specs.declared.Desk.{Desk}
use Rattle.clerk_sound.specs.Sound.{Same, RefusedSame}

abbrev OnlyReplies : Refusal → Plan Change → Type 0
OnlyReplies refusal plan = (plan.change ≡ Stay) × (plan.outcome ≡ refused_with refusal plan.outcome.sending)

refused-stays : (rs : List Record) (input : Input) (decision : Decision) (refusal : Refusal) → (plan_of rs input decision).outcome.refusal ≡ Some refusal → OnlyReplies refusal (plan_of rs input decision)
unfolding plan_of row_taken
refused-stays rs input (Refuse told reply) refusal e = (refl, (let same : told ≡ refusal = cc in ap (λ (x : Refusal). refused_with x (answered (names_of input).identifier reply)) same))
refused-stays rs input (Take i row) refusal e = absurd (none-some refusal e)
refused-stays rs input (Store i q) refusal e = absurd (none-some refusal e)

same-entered : (d : Desk) (count : ℕ) (entry : Result Input Refusal) → Same d (entered d count entry).desk (entered d count entry).outcome
unfolding entered step plan_for applied timed
same-entered d count (Err told) refusal e = (refl, (let same : told ≡ refusal = cc in ap (λ (x : Refusal). refused_with x None) same))
same-entered d count (Ok input) refusal e =
    let rs = records d.words in
    let only = refused-stays rs input (decided rs input) refusal e in
    let plan = plan_for rs input in (
      ap (λ (c : Change). record { words = timed count plan.outcome.at plan.outcome.starts (applied d.words c) }) only.0
          ∙ ap (λ (o : Outcome). record { words = timed count o.at o.starts d.words }) only.1,
      only.1,
    )

pub refused-same : RefusedSame
unfolding received_bytes
refused-same = record { steps = same-entered; bytes = λ d count bytes busy place. same-entered d count (bytes_entry bytes busy place).entry }
