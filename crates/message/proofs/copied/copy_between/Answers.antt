-- So many bytes as there are to copy.
use Rattle.message.proofs.CopiedLaws.{copied-count}
use Rattle.message.proofs.copied.copy_between.Goals as goal

pub returns : goal.returns
returns c = rw (c.copy_in.ensures, c.count_copied-count.ensures) (copied-count c.args.s.now c.args.from c.args.to)
