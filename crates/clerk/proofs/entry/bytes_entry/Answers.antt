-- What the reader's answer tells of the bytes; what was read is in range and its own normal form.
use mathlib.Core.Path.{◌≡◌}
use native.Mathlib.Omega.{arith}
use Rattle.message.specs.Reading.{took}
use Rattle.message.specs.Wire.{message_at}
use Rattle.message.proofs.RangeLaws.{writable_parts}
use Rattle.reader.proofs.AnswerLaws.{answer-taken}
use Rattle.writer.proofs.Claims.{read-is-written}
use Rattle.desk.proofs.LetterLaws.{letter-read}
use Rattle.clerk.specs.Entry.{message_entry, bytes_entry}
use Rattle.clerk.proofs.entry.bytes_entry.Goals as goal

pub returns-in-Ok : goal.returns-in-Ok
unfolding bytes_entry message_entry
returns-in-Ok c =
    let s = c.args.s.now in
    let m = c.read-answer.result.message in
    let e : message_at s ≡ took m _ = answer-taken c.read-answer.result (message_at s) _ c.read-answer.ensures c.in-Ok.is in
    let its = read-is-written s m _ (λ i. omega (arith, c.type_inv.s i)) e in
    rw (e, (writable_parts m its.ranged).0, letter-read m its.normalised, c.read_letter-l.ensures)
