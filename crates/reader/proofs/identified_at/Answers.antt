-- By the number: 16, 0 or another.
use mathlib.Core.Path.{sym, ◌∙◌}
use Rattle.std.proofs.Common.{rules}
use Rattle.reader.proofs.PartsLaws.{identified-field}
use Rattle.reader.proofs.identified_at.Goals as goal

pub returns-in-16 : goal.returns-in-16
returns-in-16 c = rw (identified-field _ _, sym c.read_field.ensures ∙ c.in_ok-length.was, c.in-16.is)

pub returns-in-0 : goal.returns-in-0
returns-in-0 c = rw (identified-field _ _, sym c.read_field.ensures ∙ c.in_ok-length.was, c.in-0.is)

pub returns-in_err-length : goal.returns-in_err-length
returns-in_err-length c = rw (identified-field _ _, sym c.read_field.ensures ∙ c.in_err-length.was) (search rules)

pub returns-in_default : goal.returns-in_default
returns-in_default c = rw (identified-field _ _, sym c.read_field.ensures ∙ c.in_ok-length.was) (search rules)
