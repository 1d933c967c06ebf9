-- The line, then User A's number: whether it is given, and whether it is the same.
use mathlib.Core.Path.{sym, ap, ◌∙◌}
use native.Mathlib.Omega.{arith}
use Rattle.lists.specs.Lists.{both}
use Rattle.lists.specs.Words.{same_words}
use Rattle.lists.specs.declared.words.Words.{Words}
use Rattle.lists.proofs.Lists.{both_true, both_false}
use Rattle.lists.proofs.WordsLaws.{eq-same}
use Rattle.terms.specs.declared.Terms.{Terms}
use Rattle.terms.proofs.TermsLaws.{terms-at}
use Rattle.terms.specs.Means.{given}
use Rattle.line_records.proofs.SearchLaws.{second_holds}
use Rattle.line_records.specs.Records.{record_of}
use Rattle.line_records.proofs.search.has_numbers.Goals as goal

pub returns-then-is_given : goal.returns-then-is_given
unfolding record_of
returns-then-is_given c =
    let a = c.args in
    let own = c.number_a_at-own.ensures ∙ ap (λ (t : Terms). t.numberA) (terms-at a.row.now (omega arith)) in
    second_holds (c.eq.ensures ∙ eq-same _ _ ∙ ap (λ (w : Words). same_words w a.numberA) own) (sym c.names_line.ensures ∙ c.if-names_line.true)
    ∙ sym (both_true (ap given (sym own) ∙ sym c.is_given.ensures ∙ c.if-is_given.true))

pub returns-else-is_given : goal.returns-else-is_given
unfolding record_of
returns-else-is_given c =
    let a = c.args in
    let r = record_of a.row.now in
    let own = c.number_a_at-own.ensures ∙ ap (λ (t : Terms). t.numberA) (terms-at a.row.now (omega arith)) in
    c.if-is_given.false
    ∙ sym (both_false (both (same_words r.terms.numberA a.numberA) (same_words r.terms.numberB a.numberB)) (ap given (sym own) ∙ sym c.is_given.ensures ∙ c.if-is_given.false))
