-- What a removal leaves: by the laws of lists. Assumes nothing.
use Prim.Native.Nat.{ℕ, ◌+◌, ◌-◌, ◌*◌, ◌≤◌, ◌<◌}
use mathlib.Core.List.{List, ◌++◌, append_assoc}
use mathlib.Core.Path.{◌≡◌, sym, ap, ◌∙◌}
use native.Mathlib.Nat.{mul-le-mul_right}
use native.Mathlib.Omega.{arith}
use lib.ListN.{length, take, drop, replicate, length-drop, length-replicate}
use borrow.Rule.Slice.PartMut.{put_mid}
use lib.Seq.{length-take-le, take_all, take-add, drop-drop, paste, take-paste, drop-paste}
use Rattle.std.proofs.lemmas.Slice.{put_mid-paste}
use Rattle.store.specs.Rows.{blank_row, drop_row}
use Rattle.store.proofs.RowsLaws.{place_rest}

-- so many words moved, and then the next ones: all are moved
move-turn :
    (ws : List ℕ) (at width j n : ℕ) (before : List ℕ) → at + width + j ≤ length ws → before ≡ paste ws at (drop (at + width) ws) j →
    paste before (at + j) (drop (at + j + width) before) n ≡ paste ws at (drop (at + width) ws) (j + n)
move-turn ws at width j n before h b =
    let from = drop (at + width) ws in
    let k : j ≤ length from = simp length-drop (omega arith) in
    let e : at + j + width ≡ at + width + j = omega arith in
    let f : take (at + j) before ≡ take at ws ++ take j from = rw b (take-paste ws at from j (omega arith) k) in
    let d : drop (at + j) before ≡ drop (at + j) ws = rw b (drop-paste ws at from j (omega arith) k) in
    let behind : (m : ℕ) → drop (at + j + m) before ≡ drop (at + j + m) ws =
    λ m. sym (drop-drop m (at + j) before) ∙ ap (drop m) d ∙ drop-drop m (at + j) ws in
    let next : drop (at + j + width) before ≡ drop j from = behind width ∙ rw (drop-drop, e) in
    let sum : at + j + n ≡ at + (j + n) = omega arith in
    rw (f, next, behind n, take-add, sum) (simp append_assoc)

-- a row more moved: the one behind place k to place k
pub row_moved :
    (width count i k : ℕ) (ws now : List ℕ) → i ≤ k → k + 1 < count → count * width ≤ length ws →
    now ≡ paste ws (i * width) (drop (i * width + width) ws) ((k - i) * width) →
    paste now (k * width) (drop ((k + 1) * width) now) ((k + 2) * width - (k + 1) * width) ≡ paste ws (i * width) (drop (i * width + width) ws) ((k + 1 - i) * width)
row_moved width count i k ws now low h fits n =
    let e : k ≡ i + (k - i) = omega arith in
    let p : k * width ≡ (i + (k - i)) * width = ap (λ (m : ℕ). m * width) e in
    let at : k * width ≡ i * width + (k - i) * width = omega arith in
    let next : (k + 1) * width ≡ i * width + (k - i) * width + width = omega arith in
    let one : (k + 2) * width - (k + 1) * width ≡ width = omega arith in
    let q : k + 1 - i ≡ k - i + 1 = omega arith in
    let r : (k + 1 - i) * width ≡ (k - i + 1) * width = ap (λ (m : ℕ). m * width) q in
    let more : (k + 1 - i) * width ≡ (k - i) * width + width = omega arith in
    let b : (k + 2) * width ≤ count * width = mul-le-mul_right width (omega arith) in
    rw (one, at, next, more) (move-turn ws (i * width) width ((k - i) * width) width now (omega arith) n)

-- the later rows moved, then a blank row behind them
moved-blanked :
    (width count : ℕ) (ws : List ℕ) (i : ℕ) (moved : List ℕ) → i < count → count * width ≤ length ws →
    moved ≡ paste ws (i * width) (drop (i * width + width) ws) ((count - (i + 1)) * width) →
    paste moved (i * width + (count - (i + 1)) * width) (blank_row width) width ≡ drop_row width count ws i
unfolding drop_row
moved-blanked width count ws i moved h fits m =
    let r = place_rest width count i h in
    let at = i * width in
    let later = (count - (i + 1)) * width in
    let from = drop (at + width) ws in
    let k : later ≤ length from = simp length-drop (omega arith) in
    let a : at ≤ length ws = omega arith in
    let e : (i + 1) * width ≡ at + width = omega arith in
    let n : at + later + width ≡ count * width = omega arith in
    let f : take (at + later) moved ≡ take at ws ++ take later from = rw m (take-paste ws at from later a k) in
    let b : drop (at + later) moved ≡ drop (at + later) ws = rw m (drop-paste ws at from later a k) in
    let g = sym (drop-drop width (at + later) moved) ∙ ap (drop width) b ∙ drop-drop width (at + later) ws in
    rw (f, g, n, e, take_all width (blank_row width) (omega (arith, length-replicate {A = ℕ} width 0)))

-- all later rows moved, and the last row's words made zeros
pub removed :
    (width count : ℕ) (ws : List ℕ) (i k : ℕ) (moved zeros : List ℕ) → i < count → k + 1 ≡ count → count * width ≤ length ws →
    moved ≡ paste ws (i * width) (drop (i * width + width) ws) ((k - i) * width) → length moved ≡ length ws →
    zeros ≡ replicate (length (take (count * width - (count - 1) * width) (drop ((count - 1) * width) moved))) 0 →
    put_mid ((count - 1) * width) (count * width - (count - 1) * width) moved zeros ≡ drop_row width count ws i
removed width count ws i k moved zeros h all fits m long z =
    let rest = place_rest width count i h in
    let e : count ≡ count - 1 + 1 = omega arith in
    let p : count * width ≡ (count - 1 + 1) * width = ap (λ (n : ℕ). n * width) e in
    let one : count * width - (count - 1) * width ≡ width = omega arith in
    let behind : width ≤ length (drop ((count - 1) * width) moved) = simp length-drop (omega arith) in
    let size : length (take (count * width - (count - 1) * width) (drop ((count - 1) * width) moved)) ≡ width =
    ap (λ (n : ℕ). length (take n (drop ((count - 1) * width) moved))) one ∙ length-take-le width (drop ((count - 1) * width) moved) behind in
    let blank : zeros ≡ blank_row width = z ∙ ap (λ (n : ℕ). replicate n 0) size in
    let q : k - i ≡ count - (i + 1) = omega arith in
    let last : (count - 1) * width ≡ i * width + (count - (i + 1)) * width = omega arith in
    put_mid-paste ((count - 1) * width) (count * width - (count - 1) * width) moved zeros (blank_row width) width blank (sym one) (sym (length-replicate width 0))
    ∙ rw last (moved-blanked width count ws i moved h fits (m ∙ ap (λ (n : ℕ). paste ws (i * width) (drop (i * width + width) ws) (n * width)) q))
