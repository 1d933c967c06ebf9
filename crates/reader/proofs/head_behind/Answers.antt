-- By whether there is an identifier, and whether sixteen bytes are there.
use mathlib.Core.Path.{sym, ◌∙◌, ap}
use Rattle.message.proofs.NumberLaws.{number-ends}
use Rattle.message.proofs.IdentifierLaws.{identified-read}
use Rattle.reader.proofs.PartsLaws.{head-short, head-whole, head-none}
use Rattle.reader.proofs.head_behind.Goals as goal

pub overflow_sub-s : goal.overflow_sub-s
overflow_sub-s c = (number-ends _ _ _ _ (identified-read _ _ _ _ (sym c.identified_at.ensures ∙ c.in_ok-identified.was))).1

pub returns-then-s-at-lt16 : goal.returns-then-s-at-lt16
returns-then-s-at-lt16 c = sym (head-short _ _ _ _ _ _ (sym c.identified_at.ensures ∙ c.in_ok-identified.was) c.if-identified.true c.if-s-at-lt16.true)

pub returns-then-identified : goal.returns-then-identified
returns-then-identified c = sym (head-whole _ _ _ _ _ _ (sym c.identified_at.ensures ∙ c.in_ok-identified.was) c.if-identified.true c.if-s-at-lt16.false)

pub returns : goal.returns
returns c = sym (head-none _ _ _ _ _ _ (sym c.identified_at.ensures ∙ c.in_ok-identified.was) c.if-identified.false)
