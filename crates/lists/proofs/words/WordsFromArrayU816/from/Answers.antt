-- The library's numbers of the two halves are the definition's.
use Rattle.std.proofs.Common.{drop, ap, ◌∙◌, ◌≡◌, List, ℕ, length, ◌/◌, get_or, [], arith, rules}
use Rattle.std.specs.Simd.{first_chunks}
use Rattle.std.specs.Int.{w64, from_le_bytes}
use Rattle.lists.specs.Words.{words_of}
use Rattle.lists.proofs.WordsLaws.{from-le-word}
use Rattle.lists.proofs.words.WordsFromArrayU816.from.Goals as goal

pub returns : goal.returns
unfolding words_of
returns c =
    let b = c.args.bytes in
    let l : length b ≡ 16 = search rules in
    let two : length b / 8 ≡ 2 = omega arith in
    let halves : c.as_chunks.result.0.now ≡ first_chunks 8 2 b = c.as_chunks.ensures.front ∙ ap (λ (k : ℕ). first_chunks 8 k b) two in
    let half : (i : ℕ) → get_or c.as_chunks.result.0.now i [] ≡ get_or (first_chunks 8 2 b) i [] = λ i. ap (λ (xs : List (List ℕ)). get_or xs i []) halves in
    rw (c.from_le_bytes.ensures ∙ ap (from_le_bytes w64) (half 0) ∙ from-le-word b, c.from_le_bytes-2.ensures ∙ ap (from_le_bytes w64) (half 1) ∙ from-le-word (drop 8 b))
