-- The numbers of the wire (document 01, "Bytes"): groups of seven bits, and numbers of digits.
use Rattle.std.specs.Prelude.{ℕ, zero, suc, ◌+◌, ◌-◌, ◌*◌, ◌/◌, ◌%◌, Bool, true, false, List, [], ◌∷◌, length, get_or, take, replicate, ltb, leb, eqb, Ok, Err}
use Rattle.lists.specs.Choice.{pick}
use Rattle.lists.specs.Parts.{over}
use Rattle.message.specs.Reading.{Read, took, and_then, wrong_at, ended_in}
use Rattle.message.specs.declared.refusal.Refusal.TheVariants.{Faulty, OutOfRange}

-- a number in groups of seven bits, lowest first, the top bit set on all but the last byte, shortest form, one or two bytes:
-- 1 where the bytes end inside it; and, at its first byte, where it has a third one or is not shortest
unfoldable pub number_at : List ℕ → ℕ → Read ℕ
number_at s at =
    pick (leb (length s) at) (ended_in s)
    (pick (ltb (get_or s at 0) 128) (took (get_or s at 0) (at + 1))
    (pick (leb (length s) (at + 1)) (ended_in s)
    (pick (eqb (get_or s (at + 1) 0) 0) (wrong_at Faulty at)
    (pick (ltb (get_or s (at + 1) 0) 128) (took ((get_or s at 0 - 128) + 128 * get_or s (at + 1) 0) (at + 1 + 1))
    (wrong_at Faulty at)))))

-- the bytes of a number below 16384
abbrev pub number_bytes : ℕ → List ℕ
number_bytes v = pick (ltb v 128) (v ∷ []) ((v % 128 + 128) ∷ (v / 128) ∷ [])

-- 2 outside low to high, at the number's first byte
abbrev pub within : ℕ → ℕ → ℕ → ℕ → ℕ → Read ℕ
within at low high v next = pick (ltb v low) (wrong_at OutOfRange at) (pick (ltb high v) (wrong_at OutOfRange at) (took v next))

-- a number is held to its field's range before the next byte is looked at
unfoldable pub field_at : List ℕ → ℕ → ℕ → ℕ → Read ℕ
field_at s at low high = and_then (number_at s at) (within at low high)

-- so many bytes, each a digit 0 to 9
unfoldable pub scan_at : ℕ → List ℕ → ℕ → Read (Unit {0})
scan_at zero s at = took tt at
scan_at (suc count) s at =
    pick (leb (length s) at) (ended_in s)
    (pick (ltb 9 (get_or s at 0)) (wrong_at OutOfRange at)
    (scan_at count s (at + 1)))

-- a number of digits: its length, from low to 15, and one byte for each digit. A length out of range is at fault itself, a digit over 9 too
unfoldable pub digits_at : List ℕ → ℕ → ℕ → Read (Unit {0})
digits_at s at low = and_then (field_at s at low 15) (λ count next. scan_at count s next)

-- sixteen places hold such a number, from the first on, exactly if they read as one
abbrev pub is_taken : {A : Type 0} → Read A → Bool
is_taken (Ok taken) = true
is_taken (Err fault) = false

unfoldable pub digits_in_range : ℕ → List ℕ → Bool
digits_in_range low number = is_taken (digits_at number 0 low)

-- its bytes: the length and the digits, and not the places behind them
abbrev pub digits_bytes : List ℕ → List ℕ
digits_bytes number = take (get_or number 0 0 + 1) number

-- some bytes in sixteen places, 0 behind them: how the reader keeps a number of digits
abbrev pub sixteen : List ℕ → List ℕ
sixteen bytes = over bytes (replicate 16 0)
