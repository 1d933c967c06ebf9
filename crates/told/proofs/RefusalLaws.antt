-- A host is told 0 of no refusal, and of nothing else.
use Rattle.std.specs.Prelude.{Option, Some, None}
use mathlib.Core.Path.{◌≡◌, refl}
use native.Mathlib.Omega.{arith}
use Rattle.message.specs.Refusals.{refusal_number}
use Rattle.message.specs.declared.refusal.Refusal.{Refusal}
use Rattle.message.specs.declared.refusal.Refusal.TheVariants.{Faulty, OutOfRange, NotHere, Live, Full, NoRecord, NoRow, NotInCarrier, NotRunning, NoLine, NothingToOffer, NoRoom}
use Rattle.told.specs.Told.{refusal_told}

has_number : (refusal : Refusal) → refusal_number refusal ≡ 0 → ⊥
has_number Faulty e = omega (arith, e)
has_number OutOfRange e = omega (arith, e)
has_number NotHere e = omega (arith, e)
has_number Live e = omega (arith, e)
has_number Full e = omega (arith, e)
has_number NoRecord e = omega (arith, e)
has_number NoRow e = omega (arith, e)
has_number NotInCarrier e = omega (arith, e)
has_number NotRunning e = omega (arith, e)
has_number NoLine e = omega (arith, e)
has_number NothingToOffer e = omega (arith, e)
has_number NoRoom e = omega (arith, e)

pub none-told : (refusal : Option Refusal) → refusal_told refusal ≡ 0 → refusal ≡ None
none-told None e = refl
none-told (Some refusal) e = absurd (has_number refusal e)
