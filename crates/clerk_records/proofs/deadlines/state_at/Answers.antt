-- The word behind the terms of a place, by its code; past the last a free place.
use mathlib.Core.Path.{sym, ap, ◌∙◌}
use Rattle.clerk_table.specs.declared.record.Record.{Record}
use Rattle.clerk_records.specs.Codes.{state_of}
use Rattle.clerk_records.specs.Records.{record_of}
use Rattle.clerk_records.proofs.RecordsLaws.{state-at, record-past}
use Rattle.clerk_records.proofs.deadlines.state_at.Goals as goal

pub returns-then-i-lt-PLACES : goal.returns-then-i-lt-PLACES
returns-then-i-lt-PLACES c =
    let a = c.args in
    c.state_of.ensures ∙ sym (state-at a.words.now a.i c.if-i-lt-PLACES.true)

pub returns : goal.returns
unfolding record_of state_of
returns c =
    let a = c.args in
    sym (ap (λ (r : Record). r.state) (record-past a.words.now a.i c.if-i-lt-PLACES.false))
