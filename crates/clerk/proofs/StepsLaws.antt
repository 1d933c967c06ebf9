-- What a plan that is made does to the list of records: its change, whatever timers it starts.
use Prim.Native.Nat.{ℕ}
use mathlib.Core.Path.{◌≡◌, ◌∙◌}
use lib.ListN.{length}
use Rattle.desk.specs.declared.plan.Plan.{Plan}
use Rattle.clerk_records.specs.Layout as Layout
use Rattle.clerk_records.specs.Records.{records, records_after, applied}
use Rattle.clerk_records.proofs.RecordsLaws.{applied-length, records-applied}
use Rattle.clerk_records.proofs.DeadlinesLaws.{timed-length, records-timed}
use Rattle.clerk.specs.Steps.{made}
use Rattle.clerk.specs.declared.Desk.{Desk}
use Rattle.clerk_table.specs.declared.record.Change.{Change}

module _ (d : Desk) (full : length d.words ≡ Layout.words) (count : ℕ) (plan : Plan Change) where
  pub made-length : length (made d count plan).desk.words ≡ Layout.words
  made-length = timed-length (applied d.words plan.change) count plan.outcome.at plan.outcome.starts ∙ applied-length d.words full plan.change

  pub records-made : records (made d count plan).desk.words ≡ records_after (records d.words) plan.change
  records-made =
      records-timed (applied d.words plan.change) (applied-length d.words full plan.change) count plan.outcome.at plan.outcome.starts
      ∙ records-applied d.words full plan.change
