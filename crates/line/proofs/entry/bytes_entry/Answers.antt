-- What the reader's answer tells of the bytes; a message that was read is given as it stands.
use Rattle.message.specs.Wire.{message_at}
use Rattle.reader.proofs.AnswerLaws.{answer-taken}
use Rattle.line.specs.Entry.{bytes_entry}
use native.Mathlib.Omega.{arith}
use Rattle.line.proofs.EntryLaws.{read-entry}
use Rattle.line.proofs.entry.bytes_entry.Goals as goal

pub returns-in-Ok : goal.returns-in-Ok
unfolding bytes_entry
returns-in-Ok c =
    let s = c.args.s.now in
    let read = answer-taken c.read-answer.result (message_at s) _ c.read-answer.ensures c.in-Ok.is in
    rw (read, read-entry s _ _ _ (λ i. omega (arith, c.shared_slice_known-1.given i)) read, c.read_letter-l.ensures)
