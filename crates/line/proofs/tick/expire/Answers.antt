-- Each part is that of the guard's row, and nothing is started.
use Rattle.std.proofs.Common.{get_or, arith}
use Rattle.line_table.specs.Step.{row_taken}
use Rattle.line_records.specs.Records.{blank, records}
use Rattle.line.proofs.TickLaws.{ends-made}
use Rattle.line.proofs.tick.expire.Goals as goal

pub returns : goal.returns
unfolding row_taken
returns c =
    let a = c.args in
    λ count. grind (arith, ends-made a.words.now count a.at (get_or (records a.words.now) a.at blank))
