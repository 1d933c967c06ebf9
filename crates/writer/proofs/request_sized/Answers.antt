-- The flags are one byte behind the numbers and the service.
use mathlib.Core.Path.{sym, ◌∙◌}
use Rattle.message.proofs.RangeLaws.{request-ranged}
use Rattle.writer.proofs.request_sized.Goals as goal

pub numbers_size-size-requires : goal.numbers_size-size-requires
numbers_size-size-requires c =
    let a = c.args in
    let r = request-ranged a.a a.b a.service a.flags (sym c.request_in_range.ensures ∙ c.if-request_in_range.true) in
    (r.most_a, r.most_b)
