-- A line: the kinds that it allows, whether it can take a call, and its status after a report.
use Rattle.std.specs.Prelude.{Bool, not}
use Rattle.message.specs.declared.Kind.{Kind}
use Rattle.message.specs.declared.Kind.TheVariants.{Ccbs, Ccnr}
use Rattle.line_table.specs.declared.line.Line.{Line}

abbrev pub allows : Line → Kind → Bool
allows line Ccbs = line.ccbs
allows line Ccnr = line.ccnr

-- a line that is not busy can take a call
abbrev pub can_take : Line → Bool
can_take line = not line.busy

abbrev pub with_status : Line → Bool → Line
with_status line busy = record { number = line.number; ccbs = line.ccbs; ccnr = line.ccnr; busy = busy }
