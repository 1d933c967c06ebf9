-- What is made of a desk's words by a planned change, with the deadline of the guard that it starts: for the records, the lines and the settings it is the change.
use Rattle.std.specs.Prelude.{Option}
use Prim.Native.Nat.{ℕ}
use mathlib.Core.Path.{◌≡◌, ◌∙◌}
use mathlib.Core.List.{List}
use lib.ListN.{length}
use Rattle.desk.specs.declared.outcome.Timers.{Timers}
use Rattle.line_table.specs.declared.record.Change.{Change}
use Rattle.line_records.specs.Layout as Layout
use Rattle.line_records.specs.Records.{records}
use Rattle.line_records.specs.Lines.{lines, keeps, retains}
use Rattle.line_records.specs.Change.{applied, records_after, lines_after}
use Rattle.line_records.specs.Deadlines.{timed}
use Rattle.line_records.proofs.ChangeLaws.{applied-length, records-applied, lines-applied, keeps-applied, retains-applied}
use Rattle.line_records.proofs.DeadlinesLaws.{timed-length, records-timed, lines-timed, keeps-timed, retains-timed}

module _ (words : List ℕ) (change : Change) (l : length words ≡ Layout.words) (count : ℕ) (at : Option ℕ) (starts : Timers) where
  abbrev changed : List ℕ
  changed = applied words change

  full : length changed ≡ Layout.words
  full = applied-length words change l

  pub made-length : length (timed count at starts changed) ≡ Layout.words
  made-length = timed-length changed count at starts ∙ full

  pub records-made : records (timed count at starts changed) ≡ records_after (records words) change
  records-made = records-timed changed full count at starts ∙ records-applied words change l

  pub lines-made : lines (timed count at starts changed) ≡ lines_after (lines words) change
  lines-made = lines-timed changed full count at starts ∙ lines-applied words change l

  pub keeps-made : keeps (timed count at starts changed) ≡ keeps words
  keeps-made = keeps-timed changed full count at starts ∙ keeps-applied words change l

  pub retains-made : retains (timed count at starts changed) ≡ retains words
  retains-made = retains-timed changed full count at starts ∙ retains-applied words change l
