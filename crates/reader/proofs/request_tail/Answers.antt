-- What each field's answer tells of its reading; flags of at most 5 fit a byte.
use mathlib.Core.Path.{sym, ◌∙◌, ap}
use native.Mathlib.Omega.{arith}
use Rattle.message.proofs.NumberLaws.{field-read}
use Rattle.reader.proofs.request_tail.Goals as goal

pub overflow_cast-flags : goal.overflow_cast-flags
overflow_cast-flags c = omega (arith, (field-read _ _ _ _ _ _ (sym c.read_field-2.ensures ∙ c.in_ok-v.was)).most)
