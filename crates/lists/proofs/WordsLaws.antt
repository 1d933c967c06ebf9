-- Laws of specs/Words.antt: bytes and words tell the same. The lowest byte is a number's rest by 256, and the others are the bytes of the quotient. Assumes nothing.
use Prim.Native.Nat.{ℕ, zero, suc, ◌+◌, ◌*◌, ◌/◌, ◌%◌, ◌^◌, ◌<◌}
use mathlib.Core.Bool.{true, false, true≢false, not-eq-not}
use mathlib.Core.List.{List, [], ◌∷◌, ◌++◌}
use mathlib.Core.Path.{◌≡◌, refl, sym, ap, ◌∙◌}
use native.Mathlib.Nat.{pow-zero, pow-suc, div-div-eq-div-mul}
use native.Mathlib.Omega.{arith}
use borrow.Author.Tests.{eq-eqb, eqb-true}
use lib.Dec.{eqb}
use lib.ListN.{length, get_or, take, drop, length-drop, take-append-drop}
use lib.Seq.{length-take-le, take_all, drop-drop, get_or-drop}
use Rattle.std.proofs.Common.{lit<}
use Rattle.std.proofs.lemmas.List.{get_or-take}
use Rattle.std.specs.Int.{w64, from_le_bytes, to_le_bytes}
use Rattle.lists.specs.Words.{Bytes, word, octets, words_of, bytes_of, same_words}
use Rattle.lists.specs.declared.words.Words.{Words}
use Rattle.lists.specs.contracts.words.WordsPartialEq.TheImpl.{ghosts}
use Rattle.std.proofs.lemmas.Grind.{common_steps}
use Rattle.lists.proofs.Lists.{both_parts}

-- ---- lists of bytes: a part of one, two joined, the octets of a number
pub bytes_take : (n : ℕ) (xs : List ℕ) → Bytes xs → Bytes (take n xs)
bytes_take zero xs h i = omega arith
bytes_take (suc n) [] h i = omega arith
bytes_take (suc n) (x ∷ xs) h zero = h 0
bytes_take (suc n) (x ∷ xs) h (suc i) = bytes_take n xs (λ j. h (suc j)) i

pub bytes_drop : (n : ℕ) (xs : List ℕ) → Bytes xs → Bytes (drop n xs)
bytes_drop n xs h i = rw get_or-drop (h (n + i))

pub bytes_append : (xs ys : List ℕ) → Bytes xs → Bytes ys → Bytes (xs ++ ys)
bytes_append [] ys h k i = k i
bytes_append (x ∷ xs) ys h k zero = h 0
bytes_append (x ∷ xs) ys h k (suc i) = bytes_append xs ys (λ j. h (suc j)) k i

pub bytes-octets : (n w : ℕ) → Bytes (octets n w)
unfolding octets
bytes-octets zero w i = omega arith
bytes-octets (suc n) w zero = omega arith
bytes-octets (suc n) w (suc i) = bytes-octets n (w / 256) i

-- ---- one word and its bytes
-- bytes to a number and back
pub octets-word : (xs : List ℕ) → Bytes xs → octets (length xs) (word xs) ≡ xs
unfolding octets word
octets-word [] h = refl
octets-word (x ∷ xs) h =
    let low : (x + 256 * word xs) % 256 ≡ x = omega (arith, h 0) in
    let high : (x + 256 * word xs) / 256 ≡ word xs = omega (arith, h 0) in
    rw (low, high, octets-word xs (λ i. h (suc i)))

-- a number of at most n bytes to its bytes and back
pub word-octets : (n w : ℕ) → w < 256 ^ n → word (octets n w) ≡ w
unfolding octets word
word-octets zero w h = omega (arith, rw pow-zero at h)
word-octets (suc n) w h =
    let e : word (octets n (w / 256)) ≡ w / 256 = word-octets n (w / 256) (omega (arith, rw pow-suc at h)) in
    omega arith

-- the number of a list's first bytes, the first of them apart; past the list's end all are 0
word-step : (n : ℕ) (xs : List ℕ) → word (take (suc n) xs) ≡ get_or xs 0 0 + 256 * word (take n (drop 1 xs))
unfolding word
word-step zero [] = refl
word-step (suc n) [] = refl
word-step n (x ∷ xs) = refl

-- the library's number of eight bytes, and its eight bytes of a number, are these
pub from-le-word : (xs : List ℕ) → from_le_bytes w64 (take 8 xs) ≡ word (take 8 xs)
unfolding word
from-le-word xs =
    simp (
      word-step 7,
      word-step 6,
      word-step 5,
      word-step 4,
      word-step 3,
      word-step 2,
      word-step 1,
      word-step 0,
      drop-drop,
      get_or-drop,
      get_or-take 8 xs 0 0 (lit< tt),
      get_or-take 8 xs 1 0 (lit< tt),
      get_or-take 8 xs 2 0 (lit< tt),
      get_or-take 8 xs 3 0 (lit< tt),
      get_or-take 8 xs 4 0 (lit< tt),
      get_or-take 8 xs 5 0 (lit< tt),
      get_or-take 8 xs 6 0 (lit< tt),
      get_or-take 8 xs 7 0 (lit< tt),
    )
    (omega arith)

pub to-le-octets : (w : ℕ) → to_le_bytes w64 w ≡ octets 8 w
unfolding octets
to-le-octets w = simp div-div-eq-div-mul

-- ---- two words and their bytes
-- two words have sixteen bytes
pub length-bytes_of : (w : Words) → length (bytes_of w) ≡ 16
unfolding octets bytes_of
length-bytes_of w = refl

-- and each is below 256
pub bytes-bytes_of : (w : Words) → Bytes (bytes_of w)
unfolding bytes_of
bytes-bytes_of w = bytes_append (octets 8 w.low) (octets 8 w.high) (bytes-octets 8 w.low) (bytes-octets 8 w.high)

-- octets-word, where the length is known by an equation
octets-part : (n : ℕ) (xs : List ℕ) → length xs ≡ n → Bytes xs → octets n (word xs) ≡ xs
octets-part n xs e h = rw (← e) (octets-word xs h)

-- bytes to words and back
pub bytes-words : (b : List ℕ) → length b ≡ 16 → Bytes b → bytes_of (words_of b) ≡ b
unfolding words_of bytes_of
bytes-words b e h =
    let rest : length (drop 8 b) ≡ 8 = length-drop 8 b ∙ omega arith in
    rw (
      octets-part 8 (take 8 b) (length-take-le 8 b (omega arith)) (bytes_take 8 b h),
      take_all 8 (drop 8 b) (omega arith),
      octets-part 8 (drop 8 b) rest (bytes_drop 8 b h),
    )
    (take-append-drop 8 b)

-- words to bytes and back
pub words-bytes : (w : Words) → w.low < 2 ^ 64 → w.high < 2 ^ 64 → words_of (bytes_of w) ≡ w
unfolding words_of bytes_of octets
words-bytes w l h = rw (word-octets 8 w.low l, word-octets 8 w.high h)

-- equal words, equal bytes
pub words-tell : (a b : List ℕ) → length a ≡ 16 → length b ≡ 16 → Bytes a → Bytes b → words_of a ≡ words_of b → a ≡ b
words-tell a b la lb ha hb e = sym (bytes-words a la ha) ∙ ap bytes_of e ∙ bytes-words b lb hb

-- ---- what the comparison says: true exactly if the two are equal
words-equal : (a b : Words) → a.low ≡ b.low → a.high ≡ b.high → a ≡ b
words-equal a b l h = λ i. record { low = l i; high = h i }

-- and the derived `==` of Words is it
pub eq-same : (a b : Words) → ghosts.eq a b ≡ same_words a b
unfolding same_words
eq-same a b = grind (arith, common_steps)

pub same-words-true : (a b : Words) → same_words a b ≡ true → a ≡ b
unfolding same_words
same-words-true a b e =
    let h = both_parts (eqb a.low b.low) (eqb a.high b.high) e in
    words-equal a b (eqb-true _ _ h.0) (eqb-true _ _ h.1)

pub words_same : (a b : Words) → a ≡ b → same_words a b ≡ true
unfolding same_words
words_same a b e = rw (e, eq-eqb b.low b.low refl, eq-eqb b.high b.high refl)

pub same-words-false : (a b : Words) → same_words a b ≡ false → a ≡ b → ⊥
same-words-false a b e q = true≢false (sym (words_same a b q) ∙ e)

pub words-differ : (a b : Words) → (a ≡ b → ⊥) → same_words a b ≡ false
words-differ a b h = (not-eq-not {a = same_words a b} {b = false}).0 (λ e. h (same-words-true a b e))
