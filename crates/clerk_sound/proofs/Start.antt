-- The started desk is sound: all places hold the blank record, so none is used.
use Prim.Native.Nat.{ℕ, zero, suc}
use mathlib.Core.Path.{◌≡◌, refl, sym, ap, ◌∙◌}
use mathlib.Core.Bool.{false}
use mathlib.Core.List.{List}
use lib.ListN.{get_or, replicate}
use Rattle.lists.proofs.Choice.{no_true}
use Rattle.store.specs.Rows.{rows}
use Rattle.terms.specs.Terms.{terms_of}
use Rattle.places.proofs.Staying.{start-placed}
use Rattle.clerk_table.specs.declared.record.Record.{Record}
use Rattle.clerk_records.specs.Codes.{state_of}
use Rattle.clerk_records.specs.Layout.{places}
use Rattle.clerk_records.specs.Records.{record_of, blank, records, used}
use Rattle.clerk.specs.Start.{started_desk}
use Rattle.clerk.specs.declared.start.Lengths.{Lengths}
use Rattle.clerk_sound.specs.Sound.{clerk_view, StartSound, StartEmpty}

-- a blank record is not used
pub blank-unused : used blank ≡ false
unfolding record_of state_of
blank-unused = refl

replicate-at : {A : Type 0} (n : ℕ) (x : A) (i : ℕ) → get_or (replicate n x) i x ≡ x
replicate-at zero x i = refl
replicate-at (suc n) x zero = refl
replicate-at (suc n) x (suc i) = replicate-at n x i

start-records : (lengths : Lengths) → records (started_desk lengths).words ≡ replicate places blank
unfolding records rows record_of terms_of
start-records lengths = refl

pub start-blank : (lengths : Lengths) (i : ℕ) → get_or (records (started_desk lengths).words) i blank ≡ blank
start-blank lengths i = ap (λ (rs : List Record). get_or rs i blank) (start-records lengths) ∙ replicate-at places blank i

start-unused : (lengths : Lengths) (i : ℕ) → used (get_or (records (started_desk lengths).words) i blank) ≡ false
start-unused lengths i = ap used (start-blank lengths i) ∙ blank-unused

pub start-empty : StartEmpty
start-empty = start-unused

pub start-sound : StartSound
start-sound lengths =
    record {
      placed = start-placed clerk_view (records (started_desk lengths).words) (start-blank lengths) blank-unused;
      each = λ i u. absurd (no_true (sym (start-unused lengths i) ∙ u));
    }
