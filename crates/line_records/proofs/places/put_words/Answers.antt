-- The terms over the front; the part from the kind on, which stands last in them, is lent for what a turn gives.
use Prim.Native.Nat.{ℕ}
use mathlib.Core.Path.{◌≡◌, refl, ◌∙◌, ap}
use mathlib.Core.List.{List, ◌++◌}
use native.Mathlib.Omega.{arith}
use lib.ListN.{take}
use lib.Seq.{drop-drop}
use Rattle.lists.specs.Parts.{over}
use Rattle.lists.proofs.Parts.{over-next}
use Rattle.terms.specs.Terms.{width, kind_at, terms_words}
use Rattle.terms.proofs.TermsLaws.{terms-put}
use Rattle.line_records.specs.Records.{record_words, turned_words}
use Rattle.line_records.proofs.places.put_words.Goals as goal

pub returns : goal.returns
returns c =
    let start = c.args in
    let row = start.row.now in
    let r = start.r in
    let whole = over (terms_words r.terms) row in
    let front : c.put_terms.new.row ≡ whole = c.put_terms.ensures ∙ terms-put r.terms row (omega arith) in
    let more = turned_words (record { kind = r.terms.kind; state = r.state; active = r.active; suspended = r.suspended; down = r.down }) in
    over-next whole c.put_terms.new.row c.turn_words.new.words (take kind_at (terms_words r.terms)) more kind_at front c.turn_words.ensures refl
    ∙ ap (λ (rest : List ℕ). record_words r ++ rest) (drop-drop 4 width row)
