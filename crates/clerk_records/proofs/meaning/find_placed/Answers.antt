-- A row that is live is a record in use.
use mathlib.Core.Path.{◌≡◌, sym, ◌∙◌}
use mathlib.Core.Bool.{true, false}
use lib.ListN.{get_or}
use native.Mathlib.Omega.{arith}
use Rattle.clerk_records.specs.Records.{blank, records, used}
use Rattle.clerk_records.proofs.RecordsLaws.{used-found}
use Rattle.clerk_records.proofs.meaning.find_placed.Goals as goal

pub returns-then-is_live_at : goal.returns-then-is_live_at
returns-then-is_live_at c =
    let a = c.args in
    let e : used (get_or (records a.words.now) a.place blank) ≡ true =
    sym (c.is_live_at.ensures ∙ used-found a.place a.words.now (omega arith)) ∙ c.if-is_live_at.true in
    rw (c.in-None.is, e)

pub returns-else-is_live_at : goal.returns-else-is_live_at
returns-else-is_live_at c =
    let a = c.args in
    let e : used (get_or (records a.words.now) a.place blank) ≡ false =
    sym (c.is_live_at.ensures ∙ used-found a.place a.words.now (omega arith)) ∙ c.if-is_live_at.false in
    rw (c.in-None.is, e)
