-- A free row is a place that is not used.
use mathlib.Core.Path.{◌∙◌}
use Rattle.line_records.proofs.RecordsLaws.{place-rows}
use native.Mathlib.Omega.{arith}
use Rattle.line_records.proofs.places.find_place.Goals as goal

pub returns : goal.returns
returns c = c.find_free.ensures ∙ place-rows c.args.words.now (omega arith)
