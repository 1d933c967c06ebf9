-- The field that was read ends within the bytes.
use mathlib.Core.Path.{sym, ◌∙◌}
use Rattle.message.proofs.NumberLaws.{field-read}
use Rattle.message.proofs.digits.read_digits.Goals as goal

pub scan-requires : goal.scan-requires
scan-requires c = (field-read _ _ _ _ _ _ (sym c.read_field.ensures ∙ c.in_ok-v.was)).ends
