-- The invariant: the places from the last digit on to place i are 0, and the others are as they were.
use Prim.Native.Nat.{ℕ, ◌+◌, ◌-◌, ◌≤◌, ◌<◌}
use mathlib.Core.Path.{◌≡◌, sym, ◌∙◌, ap}
use mathlib.Core.List.{List, [], ◌++◌, append-nil}
use native.Mathlib.Numerals.{add-one}
use native.Mathlib.Omega.{arith}
use lib.ListN.{length, get_or, take, drop, set, replicate, length-replicate, get_or-replicate, replicate-append-replicate, length-set, drop_of_length-le}
use lib.Seq.{length-take-le, take_at, drop_at, paste, paste-suc}
use Rattle.std.proofs.Common.{rules}
use Rattle.message.specs.Number.{sixteen}
use Rattle.message.proofs.digits.normal_number.Goals as goal

-- sixteen zeros but the first k
zeros : (k : ℕ) → k ≤ 16 → take (16 - k) (replicate {A = ℕ} 16 0) ≡ drop k (replicate 16 0)
zeros k h =
    let a : k + (16 - k) ≡ 16 = omega arith in
    let b : 16 - k + k ≡ 16 = omega arith in
    let front : replicate {A = ℕ} k 0 ++ replicate (16 - k) 0 ≡ replicate 16 0 = replicate-append-replicate k (16 - k) 0 ∙ ap (λ (n : ℕ). replicate {A = ℕ} n 0) a in
    let back : replicate {A = ℕ} (16 - k) 0 ++ replicate k 0 ≡ replicate 16 0 = replicate-append-replicate (16 - k) k 0 ∙ ap (λ (n : ℕ). replicate {A = ℕ} n 0) b in
    ap (take (16 - k)) (sym back)
    ∙ take_at (replicate {A = ℕ} (16 - k) 0) (replicate k 0) (16 - k) (length-replicate {A = ℕ} (16 - k) 0)
    ∙ sym (drop_at (replicate {A = ℕ} k 0) (replicate (16 - k) 0) k (length-replicate {A = ℕ} k 0))
    ∙ ap (drop k) front

-- zeros in every place behind the first k
cleared : (number : List ℕ) (k : ℕ) → length number ≡ 16 → k ≤ 16 → paste number k (replicate 16 0) (16 - k) ≡ sixteen (take k number)
cleared number k l h =
    let t : length (take k number) ≡ k = length-take-le k number (omega arith) in
    let e : k + (16 - k) ≡ 16 = omega arith in
    let short : length number ≤ 16 = omega arith in
    let none : drop 16 number ≡ [] = drop_of_length-le number short in
    rw (e, none, t, zeros k h) (append-nil _)

-- one place more
one_more :
    (number before : List ℕ) (k i : ℕ) → length number ≡ 16 → k ≤ i → i < 16 → before ≡ paste number k (replicate 16 0) (i - k) →
    set before i 0 ≡ paste number k (replicate 16 0) (i + 1 - k)
one_more number before k i l low h e =
    let at : k + (i - k) ≡ i = omega arith in
    let next : i - k + 1 ≡ i + 1 - k = omega arith in
    let zero : get_or (replicate {A = ℕ} 16 0) (i - k) 0 ≡ 0 = get_or-replicate {A = ℕ} 16 (i - k) 0 0 (omega arith) in
    let turn = paste-suc number k (replicate 16 0) (i - k) 0 (omega arith) (omega (arith, length-replicate {A = ℕ} 16 0)) in
    let sixteen_zeros = replicate {A = ℕ} 16 0 in
    ap (λ (b : List ℕ). set b i 0) e
    ∙ ap (λ (j : ℕ). set (paste number k sixteen_zeros (i - k)) j 0) (sym at)
    ∙ ap (set (paste number k sixteen_zeros (i - k)) (k + (i - k))) (sym zero)
    ∙ turn
    ∙ ap (paste number k sixteen_zeros) (sym (add-one (i - k)) ∙ next)

pub loop-i-preserved : goal.loop-i-preserved
loop-i-preserved c =
    let a = c.args in
    let l = c.loop-i in
    let la : length a.number ≡ 16 = search rules in (
      (omega arith, omega arith),
      (
        length-set l.normal l.i _ ∙ l.invariant.1.0,
        one_more a.number l.normal (get_or a.number 0 0 + 1) l.i la l.invariant.0.0 (omega arith) l.invariant.1.1,
      ),
    )

pub returns-after-loop-i : goal.returns-after-loop-i
returns-after-loop-i c =
    let a = c.args in
    let l = c.loop-i in
    let n = get_or a.number 0 0 in
    let la : length a.number ≡ 16 = search rules in
    let e : l.i ≡ 16 = omega arith in
    l.invariant.1.1 ∙ ap (λ (i : ℕ). paste a.number (n + 1) (replicate 16 0) (i - (n + 1))) e ∙ cleared a.number (n + 1) la (omega arith)
