-- Each number takes no more than sixteen bytes, so its copy is whole.
use Rattle.message.proofs.CopiedLaws.{copied-between}
use Rattle.reader.proofs.with_numbers.Goals as goal

pub returns : goal.returns
returns c =
    let s = c.args.s.now in
    let bounds = c.requires.behind_a_bound in
    rw (
      c.copy_identifier-identifier.ensures,
      c.copy_between-numberA.ensures,
      c.copy_between-numberB.ensures,
      copied-between s _ _ bounds.0,
      copied-between s _ _ bounds.1,
    )
