-- The three rows send the same.
use Rattle.clerk.proofs.TickLaws.{row-sends}
use Rattle.clerk.proofs.tick.sending_of.Goals as goal

pub returns : goal.returns
returns c = λ timer. row-sends c.args.at _ _ _ timer c.load.ensures c.cancel_of.ensures
