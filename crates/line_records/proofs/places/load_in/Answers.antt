-- The record of a place is that of the words from its first one on.
use Prim.Native.Nat.{◌*◌}
use Rattle.lists.proofs.Parts.{tail_of_lem}
use Rattle.line_records.specs.Layout.{width}
use Rattle.line_records.proofs.RecordsLaws.{record-at}
use Rattle.line_records.proofs.places.load_in.Goals as goal

pub returns : goal.returns
returns c =
    let a = c.args in
    rw (record-at a.words.now a.i c.requires.0, c.record_of.ensures, tail_of_lem (a.i * width) a.words.now)
