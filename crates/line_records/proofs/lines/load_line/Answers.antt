-- A place that is there, or past the last.
use mathlib.Core.Path.{sym, ◌∙◌}
use Rattle.line_records.proofs.LinesLaws.{line-past}
use Rattle.line_records.proofs.lines.load_line.Goals as goal

pub returns : goal.returns
returns c = c.no_line.ensures ∙ sym (line-past c.args.words.now c.args.k c.if-k-lt-LINES.false)
