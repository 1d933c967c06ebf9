-- Bytes of a slice kept in sixteen places.
use Rattle.std.specs.Prelude.{ℕ, ◌-◌, List, take, drop}
use Rattle.message.specs.Number.{sixteen}

-- what stands between two places, as far as the bytes go and no more than sixteen of them; 0 behind it
unfoldable pub copied : List ℕ → ℕ → ℕ → List ℕ
copied s from to = sixteen (take 16 (take (to - from) (drop from s)))
