-- By what the answers for head and fields tell of their readings. Each number takes no more than sixteen bytes, so it can be copied.
use mathlib.Core.Path.{sym, ◌∙◌}
use Rattle.reader.proofs.Within.{head-places, fields-places}
use Rattle.reader.proofs.PartsLaws.{numbers_told_lem, own_told_lem, message-head, message-told, message-bare}
use Rattle.reader.proofs.read.Goals as goal

pub returns-in-Err : goal.returns-in-Err
returns-in-Err c = rw (c.refused.ensures, message-head _, sym c.read_head.ensures ∙ c.in-Err.is)

pub returns-in-Err-numbers : goal.returns-in-Err-numbers
returns-in-Err-numbers c =
    let told = numbers_told_lem _ _ _ _ _ _ _ (sym c.has_numbers.ensures ∙ c.if-has_numbers.true) c.tail_of-has.ensures c.numbers.ensures c.in-Err-numbers.is in
    rw (c.refused-in-Err-numbers.ensures, message-told _ _ _ _ (sym c.read_head.ensures ∙ c.in-Ok.is) told)

pub with_numbers-requires-clause-identified_in_bounds :
    goal.with_numbers-requires-clause-identified_in_bounds
with_numbers-requires-clause-identified_in_bounds c = (head-places _ _ _ (sym c.read_head.ensures ∙ c.in-Ok.is)).0

pub with_numbers-requires-clause-behind_a_bound : goal.with_numbers-requires-clause-behind_a_bound
with_numbers-requires-clause-behind_a_bound c =
    let told = numbers_told_lem _ _ _ _ _ _ _ (sym c.has_numbers.ensures ∙ c.if-has_numbers.true) c.tail_of-has.ensures c.numbers.ensures c.in-Ok-numbers.is in
    let placed = head-places _ _ _ (sym c.read_head.ensures ∙ c.in-Ok.is) in
    let p = fields-places _ _ _ _ placed.1 _ _ told in
    (p.sixteen_a, p.sixteen_b)

pub returns-in-Ok-numbers : goal.returns-in-Ok-numbers
returns-in-Ok-numbers c =
    let told = numbers_told_lem _ _ _ _ _ _ _ (sym c.has_numbers.ensures ∙ c.if-has_numbers.true) c.tail_of-has.ensures c.numbers.ensures c.in-Ok-numbers.is in
    rw (c.with_numbers.ensures, message-told _ _ _ _ (sym c.read_head.ensures ∙ c.in-Ok.is) told)

pub returns-in-Err-own_field : goal.returns-in-Err-own_field
returns-in-Err-own_field c =
    let told = own_told_lem _ _ _ _ _ _ (sym c.has_numbers.ensures ∙ c.if-has_numbers.false) c.own_field.ensures c.in-Err-own_field.is in
    rw (c.refused-in-Err-own_field.ensures, message-told _ _ _ _ (sym c.read_head.ensures ∙ c.in-Ok.is) told)

pub copy_identifier-identifier-requires : goal.copy_identifier-identifier-requires
copy_identifier-identifier-requires c = (head-places _ _ _ (sym c.read_head.ensures ∙ c.in-Ok.is)).0

pub returns-in-Ok-own_field : goal.returns-in-Ok-own_field
returns-in-Ok-own_field c =
    let told = own_told_lem _ _ _ _ _ _ (sym c.has_numbers.ensures ∙ c.if-has_numbers.false) c.own_field.ensures c.in-Ok-own_field.is in
    rw (c.copy_identifier-identifier.ensures, message-bare _ _ _ _ _ (sym c.read_head.ensures ∙ c.in-Ok.is) told)
