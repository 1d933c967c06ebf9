-- Sixteen bytes as two words, lowest byte first, and back.
use Rattle.std.specs.Prelude.{ℕ, zero, suc, ◌+◌, ◌*◌, ◌/◌, ◌%◌, ◌<◌, Bool, List, [], ◌∷◌, ◌++◌, eqb, get_or, take, drop}
use Rattle.lists.specs.Lists.{both}
use Rattle.lists.specs.declared.words.Words.{Words}

-- every element is a byte; past its end a list reads as 0, which is one too
abbrev pub Bytes : List ℕ → Type 0
Bytes xs = (i : ℕ) → get_or xs i 0 < 256

-- the number of some bytes, lowest first
unfoldable pub word : List ℕ → ℕ
word [] = 0
word (x ∷ xs) = x + 256 * word xs

-- the n lowest bytes of a number, lowest first
unfoldable pub octets : ℕ → ℕ → List ℕ
octets zero w = []
octets (suc n) w = w % 256 ∷ octets n (w / 256)

-- the first eight bytes are the low word, the next eight the high one
unfoldable pub words_of : List ℕ → Words
words_of b = record { low = word (take 8 b); high = word (take 8 (drop 8 b)) }

-- the bytes of the low word, then those of the high one
unfoldable pub bytes_of : Words → List ℕ
bytes_of w = octets 8 w.low ++ octets 8 w.high

-- both words are the same
unfoldable pub same_words : Words → Words → Bool
same_words a b = both (eqb a.low b.low) (eqb a.high b.high)
