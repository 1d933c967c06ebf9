-- Request 2, "say where the bytes went wrong": what the place of a fault tells of any bytes. Each claim is a type; its proof has its name.
use Rattle.std.specs.Prelude.{ℕ, ◌≤◌, ◌<◌, ◌≡◌, ◌⊎◌, true, List, [], ◌∷◌, ◌++◌, length, take}
use Rattle.lists.specs.Words.{Bytes}
use Rattle.message.specs.Reading.{refused}
use Rattle.message.specs.Format.{writable, message_bytes}
use Rattle.message.specs.Equality.{Formed}
use Rattle.message.specs.Wire.{message_at}
use Rattle.message.specs.declared.Fault.{Fault}
use Rattle.message.specs.declared.Message.{Message}
use Rattle.message.specs.declared.refusal.Refusal.TheVariants.{Faulty, OutOfRange}

-- the refusal is 1 or 2, the place is that of a byte or, behind them all, the length
abbrev pub PlaceWithin : Type 0
PlaceWithin = (s : List ℕ) (fault : Fault) → message_at s ≡ refused fault → (fault.place ≤ length s) × ((fault.refusal ≡ Faulty) ⊎ (fault.refusal ≡ OutOfRange))

-- a fault at a byte stays, the same at the same place, whatever bytes follow
abbrev pub NothingMends : Type 0
NothingMends = (s more : List ℕ) (fault : Fault) → message_at s ≡ refused fault → fault.place < length s → message_at (s ++ more) ≡ refused fault

-- a fault at the length is 1, and hangs on bytes that are not there: already with one byte more, 0, the answer is another
abbrev pub EndedAsks : Type 0
EndedAsks =
    (s : List ℕ) (fault : Fault) → message_at s ≡ refused fault → fault.place ≡ length s →
    (fault.refusal ≡ Faulty) × (message_at (s ++ (0 ∷ [])) ≡ message_at s → ⊥)

-- ---- nothing further left is wrong
-- some bytes are the start of a message's bytes
pub record StartOf (front : List ℕ) : Type 0 where
  pub message : Message
  pub formed : Formed message
  pub ranged : writable message ≡ true
  pub more : List ℕ
  pub bytes : front ++ more ≡ message_bytes message

-- some bytes are so but for the last, which is the first half of a number of two bytes
pub record HalfBehind (s : List ℕ) : Type 0 where
  pub front : List ℕ
  pub half : ℕ
  pub split : s ≡ front ++ (half ∷ [])
  pub large : 128 ≤ half
  pub start : StartOf front

-- the bytes in front of a fault at a byte are the start of a message's
abbrev pub StartOfSome : Type 0
StartOfSome = (s : List ℕ) (fault : Fault) → Bytes s → message_at s ≡ refused fault → fault.place < length s → StartOf (take fault.place s)

-- where the bytes ended all of them are, or all but half a number: `80` alone, since no type has two bytes
abbrev pub EndedInSome : Type 0
EndedInSome = (s : List ℕ) (fault : Fault) → Bytes s → message_at s ≡ refused fault → fault.place ≡ length s → StartOf s ⊎ HalfBehind s
