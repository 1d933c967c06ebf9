-- What was counted is what the places before i hold.
use mathlib.Core.Path.{sym}
use mathlib.Core.Bool.{true, false}
use native.Mathlib.Omega.{arith}
use Rattle.lists.proofs.Lists.{count_hit, count_miss, count-end}
use Rattle.line_table.specs.Search.{of_line}
use Rattle.line_records.specs.Records.{records, blank}
use Rattle.line_records.proofs.RecordsLaws.{records-length}
use Rattle.line_records.proofs.SearchLaws.{row_told}
use Rattle.line_records.proofs.search.count_line.Goals as goal
use Rattle.line_records.proofs.search.count_line.Goals.{then-is_of_line, else-is_of_line}

pub loop-i-preserved : goal.loop-i-preserved
loop-i-preserved c =
    let a = c.args in
    let rs = records a.words.now in
    let k = records-length a.words.now in
    let p = of_line a.number in
    let l = c.loop-i in
    let told = row_told a.words.now _ l.i (omega arith) c.row_of.ensures.0 p c.is_of_line.ensures in
    elim c.if-is_of_line.branch [
      | then-is_of_line w ↦ let e = count_hit p rs l.i l.found blank (omega arith) (told true w.if-is_of_line.true) l.invariant.1.1 in
          let f = w.found-is in (omega arith, (omega arith, rw f e))
      | else-is_of_line w ↦ let e = count_miss p rs l.i l.found blank (omega arith) (told false w.if-is_of_line.false) l.invariant.1.1 in
          let f = w.found-is in (omega arith, (omega arith, rw f e))
    ]

pub returns : goal.returns
returns c =
    let a = c.args in
    let l = c.loop-i in
    let k = records-length a.words.now in
    sym (count-end (of_line a.number) (records a.words.now) l.i l.found (omega arith) l.invariant.1.1)
