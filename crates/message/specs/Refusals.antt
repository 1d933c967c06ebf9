-- Document 01, "Refusal numbers".
use Rattle.std.specs.Prelude.{ℕ}
use Rattle.message.specs.declared.refusal.Refusal.{Refusal}
use Rattle.message.specs.declared.refusal.Refusal.TheVariants.{Faulty, OutOfRange, NotHere, Live, Full, NoRecord, NoRow, NotInCarrier, NotRunning, NoLine, NothingToOffer, NoRoom}

-- the number of each refusal
abbrev pub refusal_number : Refusal → ℕ
refusal_number Faulty = 1
refusal_number OutOfRange = 2
refusal_number NotHere = 3
refusal_number Live = 4
refusal_number Full = 5
refusal_number NoRecord = 6
refusal_number NoRow = 7
refusal_number NotInCarrier = 8
refusal_number NotRunning = 9
refusal_number NoLine = 10
refusal_number NothingToOffer = 11
refusal_number NoRoom = 12
