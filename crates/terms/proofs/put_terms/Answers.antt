-- Eleven stores, one after the other, are the terms' words over the front.
use native.Mathlib.Omega.{arith}
use lib.Seq.{sets-eq}
use Rattle.terms.specs.Terms.{terms_words}
use Rattle.terms.proofs.TermsLaws.{terms-put}
use Rattle.terms.proofs.put_terms.Goals as goal

pub returns-then-row-ge-WIDTH : goal.returns-then-row-ge-WIDTH
returns-then-row-ge-WIDTH c =
    let start = c.before in
    let terms = start.args.terms in
    let row = start.args.row.now in
    rw (terms-put terms row c.if-row-ge-WIDTH.true, c.flag_code.ensures, c.is_some.ensures, c.identifier_words-words.ensures, c.keep_code.ensures, c.connection_code.ensures, c.kind_code.ensures)
    (sets-eq (terms_words terms) row 0 (omega arith))
