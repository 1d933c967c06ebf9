-- The terms' words over the front, and behind them one word after the other.
use mathlib.Core.Path.{◌≡◌, ap, ◌∙◌}
use mathlib.Core.List.{List, [], ◌∷◌, ◌++◌}
use Prim.Native.Nat.{ℕ}
use native.Mathlib.Omega.{arith}
use lib.ListN.{set}
use Rattle.lists.specs.Parts.{over}
use Rattle.lists.proofs.Parts.{over-set}
use Rattle.terms.specs.Terms.{terms_words}
use Rattle.terms.proofs.TermsLaws.{terms-put}
use Rattle.terms.specs.Codes.{flag_code}
use Rattle.clerk_records.specs.Codes.{state_code}
use Rattle.clerk_records.specs.Layout.{down_at, can_keep_at}
use Rattle.clerk_records.proofs.places.put_words.Goals as goal

pub returns : goal.returns
returns c =
    let row = c.args.row.now in
    let r = c.args.r in
    let front = terms_words r.terms in
    let state = state_code r.state in
    let down = flag_code r.down in
    let put : c.put_terms.new.row ≡ over front row =
    c.put_terms.ensures ∙ terms-put r.terms row (omega arith) in
    rw (put, c.state_code.ensures, c.flag_code.ensures, c.flag_code-2.ensures)
    (ap (λ (t : List ℕ). set (set t down_at down) can_keep_at (flag_code r.canKeep)) (over-set row front state (omega arith))
    ∙ ap (λ (t : List ℕ). set t can_keep_at (flag_code r.canKeep)) (over-set row (front ++ (state ∷ [])) down (omega arith))
    ∙ over-set row (front ++ (state ∷ down ∷ [])) (flag_code r.canKeep) (omega arith))
