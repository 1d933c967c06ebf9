-- The number's two words are those of the terms, the high one first.
use mathlib.Core.Path.{sym, ap, ◌∙◌}
use native.Mathlib.Omega.{arith}
use lib.Dec.{eqb}
use borrow.Author.Tests.{eq-eqb, ne_eqb}
use Rattle.lists.specs.Words.{same_words}
use Rattle.lists.specs.declared.words.Words.{Words}
use Rattle.terms.specs.declared.Terms.{Terms}
use Rattle.terms.proofs.TermsLaws.{terms-at}
use Rattle.line_records.specs.Records.{record_of}
use Rattle.line_records.proofs.SearchLaws.{second_holds, second-fails}
use Rattle.line_records.proofs.search.names_line.Goals as goal

pub returns-then-own-number : goal.returns-then-own-number
unfolding record_of same_words
returns-then-own-number c =
    let a = c.args in
    let own = c.number_b_at-own.ensures ∙ ap (λ (t : Terms). t.numberB) (terms-at a.row.now (omega arith)) in
    second_holds
    (ap (λ (w : Words). eqb w.low a.number.low) own)
    (ap (λ (w : Words). eqb w.high a.number.high) (sym own) ∙ eq-eqb _ _ c.if-own-number.true)

pub returns-else-own-number : goal.returns-else-own-number
unfolding record_of same_words
returns-else-own-number c =
    let a = c.args in
    let own = c.number_b_at-own.ensures ∙ ap (λ (t : Terms). t.numberB) (terms-at a.row.now (omega arith)) in
    ne_eqb _ _ c.if-own-number.false
    ∙ second-fails
    (eqb (record_of a.row.now).terms.numberB.low a.number.low)
    (ap (λ (w : Words). eqb w.high a.number.high) (sym own) ∙ ne_eqb _ _ c.if-own-number.false)
