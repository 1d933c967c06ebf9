-- By the number, held to no range before.
use mathlib.Core.Path.{sym, ◌∙◌, ap}
use Rattle.std.proofs.Common.{rules}
use Rattle.reader.proofs.PartsLaws.{carrier-field}
use Rattle.reader.proofs.carrier_at.Goals as goal

pub returns-in_err-n : goal.returns-in_err-n
returns-in_err-n c = rw (carrier-field _ _, sym c.read_field.ensures ∙ c.in_err-n.was) (search rules)

pub returns-in-1 : goal.returns-in-1
returns-in-1 c = rw (carrier-field _ _, sym c.read_field.ensures ∙ c.in_ok-n.was, c.in-1.is)

pub returns-in-2 : goal.returns-in-2
returns-in-2 c = rw (carrier-field _ _, sym c.read_field.ensures ∙ c.in_ok-n.was, c.in-2.is)

pub returns-in-3 : goal.returns-in-3
returns-in-3 c = rw (carrier-field _ _, sym c.read_field.ensures ∙ c.in_ok-n.was, c.in-3.is)

pub returns-in-4 : goal.returns-in-4
returns-in-4 c = rw (carrier-field _ _, sym c.read_field.ensures ∙ c.in_ok-n.was, c.in-4.is)

pub returns-in-5 : goal.returns-in-5
returns-in-5 c = rw (carrier-field _ _, sym c.read_field.ensures ∙ c.in_ok-n.was, c.in-5.is)

pub returns-in_default : goal.returns-in_default
returns-in_default c = rw (carrier-field _ _, sym c.read_field.ensures ∙ c.in_ok-n.was) (search rules)
