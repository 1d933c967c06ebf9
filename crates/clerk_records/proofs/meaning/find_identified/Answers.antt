-- A row with that identifier is a record with it.
use mathlib.Core.Path.{◌∙◌}
use native.Mathlib.Omega.{arith}
use Rattle.clerk_records.proofs.RecordsLaws.{meant-found}
use Rattle.clerk_records.proofs.meaning.find_identified.Goals as goal

pub returns-in-Some : goal.returns-in-Some
returns-in-Some c =
    rw c.in-Some.is (c.find.ensures ∙ meant-found _ c.args.words.now (omega arith))
