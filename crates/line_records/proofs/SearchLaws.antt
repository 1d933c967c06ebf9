-- What the searches need: the second of two tests may be made first, and what is told of the row of a place is told of its record.
use Prim.Native.Nat.{ℕ, ◌*◌, ◌<◌}
use mathlib.Core.Path.{◌≡◌, refl, sym, ap, ◌∙◌}
use mathlib.Core.Bool.{Bool, true, false}
use mathlib.Core.List.{List}
use lib.ListN.{get_or, drop}
use Rattle.lists.specs.Lists.{both}
use Rattle.line_table.specs.declared.record.Record.{Record}
use Rattle.line_records.specs.Layout as Layout
use Rattle.line_records.specs.Records.{record_of, blank, records}
use Rattle.line_records.proofs.RecordsLaws.{record-at}

-- ---- the second of two tests: where it holds the first decides, where it fails both fail
pub second_holds : {r a b : Bool} → r ≡ a → b ≡ true → r ≡ both a b
second_holds {r} {a} {b} e h = e ∙ alone a b h
  where
    alone : (a b : Bool) → b ≡ true → a ≡ both a b
    alone true b h = sym h
    alone false b h = refl

pub second-fails : (a : Bool) {b : Bool} → b ≡ false → false ≡ both a b
second-fails true h = sym h
second-fails false h = refl

-- ---- the row of a place
module _ (words row : List ℕ) (i : ℕ) (h : i < Layout.places) (e : row ≡ drop (i * Layout.width) words) where
  pub row-record : record_of row ≡ get_or (records words) i blank
  row-record = ap record_of e ∙ sym (record-at words i h)

  -- what its test told
  pub row_told : (p : Record → Bool) {r : Bool} → r ≡ p (record_of row) → (told : Bool) → r ≡ told → p (get_or (records words) i blank) ≡ told
  row_told p test told was = ap p (sym row-record) ∙ sym test ∙ was
