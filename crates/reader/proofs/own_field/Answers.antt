-- By the number of the type; keep and error are one byte each.
use mathlib.Core.Path.{sym, ◌∙◌, ap}
use native.Mathlib.Omega.{arith}
use Rattle.message.proofs.NumberLaws.{field-read}
use Rattle.reader.proofs.own_field.Goals as goal

pub overflow_cast-result : goal.overflow_cast-result
overflow_cast-result c = omega (arith, (field-read _ _ _ _ _ _ (sym c.read_field.ensures ∙ c.in_ok-v-in-3.was)).most)

pub overflow_cast-result-in-4 : goal.overflow_cast-result-in-4
overflow_cast-result-in-4 c = omega (arith, (field-read _ _ _ _ _ _ (sym c.read_field-in-4.ensures ∙ c.in_ok-v-in-4.was)).most)

pub overflow_cast-result-in-7 : goal.overflow_cast-result-in-7
overflow_cast-result-in-7 c = omega (arith, (field-read _ _ _ _ _ _ (sym c.read_field-in-7.ensures ∙ c.in_ok-v-in-7.was)).most)
