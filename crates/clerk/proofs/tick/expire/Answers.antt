-- Each part is that of the rows, and nothing is started.
use lib.ListN.{get_or}
use Rattle.clerk_records.specs.Records.{blank, records}
use Rattle.clerk.proofs.TickLaws.{ends-made}
use Rattle.clerk.proofs.tick.expire.Goals as goal

pub returns : goal.returns
returns c =
    let a = c.args in
    λ count timer.
    rw (c.remove.ensures, c.timers_running-stops.ensures, c.cancel_of-sending.ensures, c.load-r.ensures)
    (ends-made a.words.now count a.at (get_or (records a.words.now) a.at blank) timer)
