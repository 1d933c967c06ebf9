-- Where bytes and digits end, as two private helpers of src/digits.rt compute it. proofs/NumberLaws.antt ties it to specs/Number.antt.
use Rattle.std.specs.Prelude.{ℕ, zero, suc, ◌+◌, ◌-◌, List, length, get_or, ltb}
use Rattle.lists.specs.Choice.{pick}

-- the place behind so many bytes from a place on; where there are fewer, the place behind the last one
unfoldable pub bytes_end : ℕ → List ℕ → ℕ → ℕ
bytes_end count s at = pick (ltb (length s - at) count) (length s) (at + count)

-- the first place from a place on that holds no digit; where so many bytes have none, the place behind them
unfoldable pub digits_end : ℕ → List ℕ → ℕ → ℕ
digits_end zero s at = at
digits_end (suc count) s at = pick (ltb 9 (get_or s at 0)) at (digits_end count s (at + 1))
