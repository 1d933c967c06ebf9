-- The identifier, then the numbers.
use Rattle.lists.specs.declared.words.Words.{Words}
use Rattle.std.specs.Prelude.{Option}
use mathlib.Core.Path.{sym, ap, ◌∙◌}
use native.Mathlib.Omega.{arith}
use Rattle.desk.specs.Letter.{same_identifier}
use Rattle.terms.specs.declared.Terms.{Terms}
use Rattle.terms.proofs.TermsLaws.{terms-at}
use Rattle.line_records.specs.Records.{record_of}
use Rattle.line_records.proofs.search.has_names.Goals as goal

pub returns-then-same_identifier : goal.returns-then-same_identifier
unfolding record_of
returns-then-same_identifier c =
    let own = c.identifier_at.ensures ∙ ap (λ (t : Terms). t.identifier) (terms-at c.args.row.now (omega arith)) in
    c.if-same_identifier.true
    ∙ rw (ap (λ (w : Option Words). same_identifier w c.args.names.identifier) (sym own) ∙ sym c.same_identifier.ensures ∙ c.if-same_identifier.true)

pub returns-else-same_identifier : goal.returns-else-same_identifier
unfolding record_of
returns-else-same_identifier c =
    let own = c.identifier_at.ensures ∙ ap (λ (t : Terms). t.identifier) (terms-at c.args.row.now (omega arith)) in
    rw (ap (λ (w : Option Words). same_identifier w c.args.names.identifier) (sym own) ∙ sym c.same_identifier.ensures ∙ c.if-same_identifier.false) c.has_numbers.ensures
