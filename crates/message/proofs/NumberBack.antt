-- Numbers written and read are two ways of one thing. What stands from a place on is moved along by a cursor, `drop at s ≡ bytes ++ rest`.
use Prim.Native.Nat.{ℕ, zero, suc, ◌+◌, ◌-◌, ◌*◌, ◌/◌, ◌%◌, ◌≤◌, ◌<◌}
use mathlib.Core.Path.{◌≡◌, sym, ◌∙◌, ap}
use mathlib.Core.Bool.{true}
use mathlib.Core.Logic.{◌⊎◌, inl, inr}
use mathlib.Core.List.{List, ◌∷◌, ◌++◌}
use lib.ListN.{length, get_or, take, drop, replicate, length-append, length-drop, take-append-drop, get_or-append}
use lib.Seq.{get_or-append_seam, get_or-append-add, drop-cons, drop-drop, length-take-le, get_or-drop, get_or-take, take_at}
use lib.Dec.{ltb, leb}
use native.Mathlib.Omega.{arith}
use native.Mathlib.Nat.{add-zero}
use native.Mathlib.Numerals.{add-one}
use borrow.Author.Tests.{ltb-false, le-ltb, lt-ltb, lt-leb, ne_eqb}
use Rattle.lists.specs.Words.{Bytes}
use Rattle.lists.proofs.Choice.{pick_elim, pick-else}
use Rattle.lists.proofs.Parts.{at_in, length_over}
use Rattle.message.specs.Reading.{took, wrong_at, ended_in}
use Rattle.message.specs.Number.{number_at, number_bytes, field_at, scan_at, digits_at, digits_in_range, digits_bytes, sixteen}
use Rattle.message.specs.declared.refusal.Refusal.TheVariants.{OutOfRange}
use Rattle.message.proofs.Reading.{never-took}
use Rattle.message.proofs.NumberLaws.{number_shape, field-read, digits-read}
use Rattle.message.proofs.RangeLaws.{small_bytes, number-length, digits-ranged, digits-length}

-- ---- what was written is read back
number_behind : (p q : List ℕ) (v : ℕ) → v < 16384 → number_at (p ++ (number_bytes v ++ q)) (length p) ≡ took v (length p + length (number_bytes v))
unfolding number_at
number_behind p q v h =
    pick_elim (λ (e : List ℕ). number_at (p ++ (e ++ q)) (length p) ≡ took v (length p + length e)) (ltb v 128)
    (λ t.
    let l : length p < length (p ++ v ∷ q) = simp length-append (omega arith) in
    simp (lt-leb (length (p ++ v ∷ q)) (length p) l, get_or-append_seam p v q 0, t))
    (λ t.
    let b = v % 128 + 128 in
    let d = v / 128 in
    let l : length p + 1 < length (p ++ b ∷ d ∷ q) = simp length-append (omega arith) in
    let ge : 128 ≤ v = ltb-false v 128 t in
    let g : get_or (p ++ b ∷ d ∷ q) (length p + 1) 0 ≡ d = get_or-append-add p (b ∷ d ∷ q) 1 0 in
    let nz : d ≡ 0 → ⊥ = omega arith in
    let e : (b - 128) + 128 * d ≡ v = omega arith in
    let k : length p + 1 + 1 ≡ length p + 2 = omega arith in
    simp (lt-leb (length (p ++ b ∷ d ∷ q)) (length p) (omega arith), get_or-append_seam p b (d ∷ q) 0, le-ltb b 128 (omega arith), lt-leb (length (p ++ b ∷ d ∷ q)) (length p + 1) l, g, ne_eqb d 0 nz, lt-ltb d 128 (omega arith), e, k))

pub number-back : (s rest : List ℕ) (at v : ℕ) → v < 16384 → drop at s ≡ number_bytes v ++ rest → number_at s at ≡ took v (at + length (number_bytes v))
number-back s rest at v h e =
    let i : at + length (number_bytes v) ≤ length s = at_in s (number_bytes v) rest at e (number-length v).0 in
    let l : length (take at s) ≡ at = length-take-le at s (omega arith) in
    rw (l, ← e, take-append-drop at s) at (number_behind (take at s) rest v h)

pub field_back :
    (s rest : List ℕ) (at v low high : ℕ) → v < 16384 → low ≤ v → v ≤ high → drop at s ≡ number_bytes v ++ rest →
    field_at s at low high ≡ took v (at + length (number_bytes v))
unfolding field_at
field_back s rest at v low high hv hl hh e = rw (number-back s rest at v hv e, le-ltb v low hl, le-ltb high v hh)

pub byte-back : (s rest : List ℕ) (at v low high : ℕ) → v < 128 → low ≤ v → v ≤ high → drop at s ≡ v ∷ rest → field_at s at low high ≡ took v (at + 1)
byte-back s rest at v low high hv hl hh e =
    let b = small_bytes v hv in
    rw b at (field_back s rest at v low high (omega arith) hl hh (rw b e))

-- the same digits stand at another place of another list
pub scan-same :
    (count : ℕ) (s t : List ℕ) (a b m : ℕ) → scan_at count s a ≡ took tt m → ((i : ℕ) → i < count → get_or t (b + i) 0 ≡ get_or s (a + i) 0) → b + count ≤ length t →
    scan_at count t b ≡ took tt (b + count)
unfolding scan_at
scan-same zero s t a b m e h l = ap (λ (k : ℕ). took tt k) (sym (add-zero b))
scan-same (suc count) s t a b m e h l =
    let p = pick-else (leb (length s) a) (ended_in s) _ _ never-took e in
    let q = pick-else (ltb 9 (get_or s a 0)) (wrong_at OutOfRange a) _ _ never-took p.1 in
    let g : get_or t b 0 ≡ get_or s a 0 = rw (add-zero, add-zero) at (h 0 (omega arith)) in
    let next : (i : ℕ) → i < count → get_or t (b + 1 + i) 0 ≡ get_or s (a + 1 + i) 0 =
    λ i k. let eb : b + 1 + i ≡ b + (i + 1) = omega arith in let ea : a + 1 + i ≡ a + (i + 1) = omega arith in rw (eb, ea) (h (i + 1) (omega arith)) in
    let r : scan_at count t (b + 1) ≡ took tt (b + 1 + count) = scan-same count s t (a + 1) (b + 1) m q.1 next (omega arith) in
    let z : b + 1 + count ≡ b + suc count = omega arith in
    rw (lt-leb (length t) b (omega arith), g, q.0, r, z)

-- a number of digits reads back as far as its bytes go
pub digits-back :
    (s rest : List ℕ) (at low : ℕ) (g : List ℕ) → length g ≡ 16 → digits_in_range low g ≡ true → drop at s ≡ digits_bytes g ++ rest →
    digits_at s at low ≡ took tt (at + length (digits_bytes g))
unfolding digits_at
digits-back s rest at low g l ok e =
    digits-ranged g low ok (λ m r.
    let n = get_or g 0 0 in
    let most = r.most in
    let bytes = digits-length g l r.most in
    let fits : at + length (digits_bytes g) ≤ length s = at_in s (digits_bytes g) rest at e (omega arith) in
    let same : (i : ℕ) → i < n + 1 → get_or s (at + i) 0 ≡ get_or g i 0 =
    λ i h. sym (get_or-drop at s i 0) ∙ ap (λ (t : List ℕ). get_or t i 0) e ∙ get_or-append (digits_bytes g) rest 0 i (omega arith) ∙ get_or-take (n + 1) g i 0 h in
    let first : get_or s at 0 ≡ n = rw add-zero at (same 0 (omega arith)) in
    let head : drop at s ≡ n ∷ drop (suc at) s = rw (← first) (drop-cons s at 0 (omega arith)) in
    let f : field_at s at low 15 ≡ took n (at + 1) = byte-back s (drop (suc at) s) at n low 15 (omega arith) r.least r.most head in
    let digits : (i : ℕ) → i < n → get_or s (at + 1 + i) 0 ≡ get_or g (1 + i) 0 =
    λ i h. let k : at + 1 + i ≡ at + (1 + i) = omega arith in rw k (same (1 + i) (omega arith)) in
    let scanned : scan_at n s (at + 1) ≡ took tt (at + 1 + n) = scan-same n g s 1 (at + 1) m r.scanned digits (omega arith) in
    let k : at + 1 + n ≡ at + length (digits_bytes g) = omega arith in
    rw (f, scanned, k))

-- ---- what is read is what would be written
pub number-canonical :
    (s : List ℕ) (at v n : ℕ) → Bytes s → number_at s at ≡ took v n →
    (v < 16384) × ((n ≡ at + length (number_bytes v)) × (drop at s ≡ number_bytes v ++ drop n s))
number-canonical s at v n byte e =
    let h = number_shape s at v n e in
    cases h.1
    (λ p.
    let small : v < 128 = omega arith in
    (omega arith, simp (lt-ltb v 128 small) (p.1.1, rw (p.1.0, p.1.1, add-one, drop-cons s at 0 h.0))))
    (λ p.
    let b0 = byte at in
    let big : 128 ≤ v = omega arith in
    let eb : v % 128 + 128 ≡ get_or s at 0 = omega arith in
    let ec : v / 128 ≡ get_or s (at + 1) 0 = omega arith in
    let k : n ≡ suc (suc at) = omega arith in
    (omega arith, simp (le-ltb v 128 big, eb, ec) (omega arith, rw (k, add-one, ← drop-cons s (suc at) 0 (omega arith), drop-cons s at 0 h.0))))
  where
    cases : {A B C : Type 0} → A ⊎ B → (A → C) → (B → C) → C
    cases (inl a) f g = f a
    cases (inr b) f g = g b

pub field-canonical : (s : List ℕ) (at low high v n : ℕ) → Bytes s → field_at s at low high ≡ took v n → (v < 16384) × (drop at s ≡ number_bytes v ++ drop n s)
field-canonical s at low high v n byte e =
    let c = number-canonical s at v n byte (field-read s at low high v n e).number in
    (c.0, c.1.1)

pub byte-canonical : (s : List ℕ) (at low high v n : ℕ) → Bytes s → high < 128 → field_at s at low high ≡ took v n → drop at s ≡ v ∷ drop n s
byte-canonical s at low high v n byte h e =
    let b = small_bytes v (omega (arith, (field-read s at low high v n e).most)) in
    rw b at (field-canonical s at low high v n byte e).1

read-in-range : (g : List ℕ) (low count : ℕ) → field_at g 0 low 15 ≡ took count 1 → scan_at count g 1 ≡ took tt (1 + count) → digits_in_range low g ≡ true
unfolding digits_in_range digits_at
read-in-range g low count f scanned = rw (f, scanned)

-- a number of digits that was read, kept in sixteen places, is in range, and its bytes are those that were read
pub digits-canonical :
    (s : List ℕ) (at low n : ℕ) → digits_at s at low ≡ took tt n →
    (length (sixteen (take (n - at) (drop at s))) ≡ 16) ×
    ((digits_in_range low (sixteen (take (n - at) (drop at s))) ≡ true) × (drop at s ≡ digits_bytes (sixteen (take (n - at) (drop at s))) ++ drop n s))
digits-canonical s at low n e =
    let r = digits-read s at low n e in
    let count = get_or s at 0 in
    let most = r.most in
    let behind = r.behind in
    let ends = r.ends in
    let k : n - at ≡ count + 1 = omega arith in
    let t = take (count + 1) (drop at s) in
    let lt : length t ≡ count + 1 = length-take-le (count + 1) (drop at s) (omega (arith, length-drop at s)) in
    let g = sixteen t in
    let lg : length g ≡ 16 = length_over t (replicate 16 0) (omega arith) in
    let same : (i : ℕ) → i < count + 1 → get_or g i 0 ≡ get_or s (at + i) 0 =
    λ i h. get_or-append t (drop (length t) (replicate 16 0)) 0 i (omega arith) ∙ get_or-take (count + 1) (drop at s) i 0 h ∙ get_or-drop at s i 0 in
    let first : get_or g 0 0 ≡ count = rw add-zero at (same 0 (omega arith)) in
    let head : drop 0 g ≡ count ∷ drop 1 g = drop-cons g 0 0 (omega arith) ∙ ap (λ (x : ℕ). x ∷ drop 1 g) first in
    let f : field_at g 0 low 15 ≡ took count 1 = byte-back g (drop 1 g) 0 count low 15 (omega arith) r.least r.most head in
    let digits : (i : ℕ) → i < count → get_or g (1 + i) 0 ≡ get_or s (at + 1 + i) 0 =
    λ i h. let j : at + 1 + i ≡ at + (1 + i) = omega arith in rw j (same (1 + i) (omega arith)) in
    let scanned : scan_at count g 1 ≡ took tt (1 + count) = scan-same count s g (at + 1) 1 n r.scanned digits (omega arith) in
    let bytes : digits_bytes g ≡ t = rw first (take_at t (drop (length t) (replicate 16 0)) (count + 1) lt) in
    let n1 : n ≡ at + (count + 1) = omega arith in
    let whole : drop at s ≡ t ++ drop n s = rw (n1, ← drop-drop (count + 1) at s) (sym (take-append-drop (count + 1) (drop at s))) in
    rw k (lg, (read-in-range g low count f scanned, rw bytes whole))
