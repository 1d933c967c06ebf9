-- The places before i hold no record that is sought.
use mathlib.Core.Path.{sym, ◌∙◌}
use mathlib.Core.Bool.{true, false}
use native.Mathlib.Omega.{arith}
use Rattle.lists.proofs.Lists.{first_hit, first_miss, first-end}
use Rattle.line_table.specs.Search.{passes}
use Rattle.line_records.specs.Records.{records, blank}
use Rattle.line_records.proofs.RecordsLaws.{records-length}
use Rattle.line_records.proofs.SearchLaws.{row_told}
use Rattle.line_records.proofs.search.find_record.Goals as goal

pub returns-then-is_sought : goal.returns-then-is_sought
returns-then-is_sought c =
    let a = c.args in
    let l = c.loop-i in
    let rs = records a.words.now in
    let k = records-length a.words.now in
    sym (l.invariant.1 ∙ first_hit (passes a.sought) rs l.i blank (omega arith) (row_told a.words.now _ l.i (omega arith) c.row_of.ensures.0 (passes a.sought) c.is_sought.ensures true c.if-is_sought.true))

pub loop-i-preserved : goal.loop-i-preserved
loop-i-preserved c =
    let a = c.args in
    let l = c.loop-i in
    let rs = records a.words.now in
    let k = records-length a.words.now in
    (omega arith, l.invariant.1 ∙ first_miss (passes a.sought) rs l.i blank (omega arith) (row_told a.words.now _ l.i (omega arith) c.row_of.ensures.0 (passes a.sought) c.is_sought.ensures false c.if-is_sought.false))

pub returns : goal.returns
returns c =
    let a = c.args in
    let rs = records a.words.now in
    let k = records-length a.words.now in
    sym (c.loop-i.invariant.1 ∙ first-end (passes a.sought) rs c.loop-i.i (omega arith))
