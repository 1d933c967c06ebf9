-- Laws of the numbers of the wire: what a number that was read says of the bytes, and that written and read are two ways of one thing.
use Rattle.std.specs.Prelude.{Ok, Err}
use Prim.Native.Nat.{ℕ, zero, suc, ◌+◌, ◌-◌, ◌*◌, ◌≤◌, ◌<◌}
use mathlib.Core.Path.{◌≡◌, refl, sym}
use mathlib.Core.Logic.{◌⊎◌, inl, inr, ⊎_elim}
use mathlib.Core.List.{List}
use lib.ListN.{length, get_or}
use lib.Dec.{ltb, leb}
use native.Mathlib.Omega.{arith}
use native.Mathlib.Nat.{not-suc-le-zero, add-zero}
use borrow.Author.Tests.{ltb-true, ltb-false, leb-false, eqb-false, le-ltb, lt-ltb, le-leb, lt-leb}
use Rattle.lists.specs.Choice.{pick}
use Rattle.lists.proofs.Choice.{pick_elim, pick-both, pick-cases, pick-then, pick-else}
use Rattle.message.specs.Reading.{Read, took, refused, and_then, wrong_at, ended_in}
use Rattle.message.specs.Number.{number_at, within, field_at, scan_at, digits_at, is_taken}
use Rattle.message.specs.Ends.{bytes_end, digits_end}
use Rattle.message.specs.declared.refusal.Refusal.TheVariants.{OutOfRange}
use Rattle.message.proofs.Reading.{never-took, took_same}

-- ---- what a number that was read says of the bytes
pub number_shape :
    (s : List ℕ) (at v n : ℕ) → number_at s at ≡ took v n →
    (at < length s) ×
    (((get_or s at 0 < 128) × ((v ≡ get_or s at 0) × (n ≡ at + 1))) ⊎
    ((128 ≤ get_or s at 0) × ((at + 1 < length s) × ((0 < get_or s (at + 1) 0) × ((get_or s (at + 1) 0 < 128) × ((v ≡ (get_or s at 0 - 128) + 128 * get_or s (at + 1) 0) × (n ≡ at + 1 + 1)))))))
unfolding number_at
number_shape s at v n e =
    let a = pick-else _ _ _ _ never-took e in (
      leb-false (length s) at a.0,
      ⊎_elim
          (λ p. let q = took_same (sym p.1) in inl (ltb-true _ _ p.0, q))
          (λ p.
          let b = pick-else _ _ _ _ never-took p.1 in
          let d = pick-else _ _ _ _ never-took b.1 in
          let f = pick-then _ _ _ _ never-took d.1 in
          let q = took_same (sym f.1) in
          let ne : get_or s (at + 1) 0 ≡ 0 → ⊥ = eqb-false _ _ d.0 in
          inr (ltb-false _ _ p.0, (leb-false (length s) (at + 1) b.0, (omega arith, (ltb-true _ _ f.0, q)))))
          (pick-cases _ _ _ _ a.1),
    )

-- a number ends behind its place and within the bytes
pub number-ends : (s : List ℕ) (at v n : ℕ) → number_at s at ≡ took v n → (at < n) × (n ≤ length s)
number-ends s at v n e = let h = number_shape s at v n e in ⊎_elim (λ p. omega arith) (λ p. omega arith) h.1

-- ---- fields
within-took : (at low high w m v n : ℕ) → within at low high w m ≡ took v n → (low ≤ v) × ((v ≤ high) × ((w ≡ v) × (m ≡ n)))
within-took at low high w m v n e =
    let a = pick-else (ltb w low) (wrong_at OutOfRange at) _ _ never-took e in
    let b = pick-else (ltb high w) (wrong_at OutOfRange at) _ _ never-took a.1 in
    let q = took_same b.1 in
    (omega (arith, ltb-false w low a.0), (omega (arith, ltb-false high w b.0), q))

-- a field that was read is a number, in its range, and ends within the bytes
pub record FieldRead (s : List ℕ) (at low high v n : ℕ) : Type 0 where
  pub number : number_at s at ≡ took v n
  pub least : low ≤ v
  pub most : v ≤ high
  pub later : at < n
  pub ends : n ≤ length s

field-by : (s : List ℕ) (at low high v n : ℕ) (r : Read ℕ) → number_at s at ≡ r → and_then r (within at low high) ≡ took v n → FieldRead s at low high v n
field-by s at low high v n (Err x) h e = absurd (never-took e)
field-by s at low high v n (Ok (w, m)) h e =
    let b = within-took at low high w m v n e in
    let number : number_at s at ≡ took v n = rw (← b.1.1.0, ← b.1.1.1) h in
    let ends = number-ends s at v n number in
    record { number = number; least = b.0; most = b.1.0; later = ends.0; ends = ends.1 }

pub field-read : (s : List ℕ) (at low high v n : ℕ) → field_at s at low high ≡ took v n → FieldRead s at low high v n
unfolding field_at
field-read s at low high v n e = field-by s at low high v n (number_at s at) refl e

-- ---- digits
pub digits_step :
    (s : List ℕ) (at end : ℕ) → at < end →
    digits_end (end - at) s at ≡ pick (ltb 9 (get_or s at 0)) at (digits_end (end - (at + 1)) s (at + 1))
unfolding digits_end
digits_step s at end h = let e : end - at ≡ suc (end - (at + 1)) = omega arith in rw e

-- of so many bytes the front ones, where they are there, and then the others
scan-front :
    (front count : ℕ) (s : List ℕ) (at : ℕ) → front ≤ count → at + front ≤ length s →
    scan_at count s at ≡ pick (ltb (digits_end front s at) (at + front)) (wrong_at OutOfRange (digits_end front s at)) (scan_at (count - front) s (at + front))
unfolding scan_at digits_end
scan-front zero count s at few there =
    let z : count - 0 ≡ count = omega arith in
    rw (add-zero at, le-ltb at at (omega arith), z)
scan-front (suc front) zero s at few there = absurd (omega arith)
scan-front (suc front) (suc count) s at few there =
    let Tells : Read (Unit {0}) → ℕ → Type 0 = λ r end. r ≡ pick (ltb end (at + suc front)) (wrong_at OutOfRange end) (scan_at (suc count - suc front) s (at + suc front)) in
    let k : at + suc front ≡ at + 1 + front = omega arith in
    let m : suc count - suc front ≡ count - front = omega arith in
    rw (lt-leb (length s) at (omega arith))
    (pick-both Tells (ltb 9 (get_or s at 0))
    (λ t. rw (lt-ltb at (at + suc front) (omega arith)))
    (λ t. rw (k, m) (scan-front front count s (at + 1) (omega arith) (omega arith))))

scan-ended : (count : ℕ) (s : List ℕ) → 0 < count → scan_at count s (length s) ≡ ended_in s
unfolding scan_at
scan-ended zero s h = absurd (not-suc-le-zero h)
scan-ended (suc count) s h = rw (le-leb (length s) (length s) (omega arith))

pub bytes-within : (count : ℕ) (s : List ℕ) (at : ℕ) → at ≤ length s → bytes_end count s at ≤ length s
unfolding bytes_end
bytes-within count s at h =
    pick_elim (λ (end : ℕ). end ≤ length s) (ltb (length s - at) count) (λ t. omega arith) (λ t. omega (arith, ltb-false (length s - at) count t))

pub bytes-all : (count : ℕ) (s : List ℕ) (at : ℕ) → count ≤ length s - at → bytes_end count s at ≡ at + count
unfolding bytes_end
bytes-all count s at h = rw (le-ltb (length s - at) count h)

-- so many bytes read by where those that are there end, and where the digits end among them
pub scan-by-ends :
    (count : ℕ) (s : List ℕ) (at : ℕ) → at ≤ length s →
    scan_at count s at ≡
    pick (ltb (digits_end (bytes_end count s at - at) s at) (bytes_end count s at)) (wrong_at OutOfRange (digits_end (bytes_end count s at - at) s at))
    (pick (ltb (length s - at) count) (ended_in s) (took tt (at + count)))
unfolding scan_at bytes_end
scan-by-ends count s at h =
    pick-both (λ (end : ℕ) (r : Read (Unit {0})). scan_at count s at ≡ pick (ltb (digits_end (end - at) s at) end) (wrong_at OutOfRange (digits_end (end - at) s at)) r) (ltb (length s - at) count)
    (λ t.
    let few = ltb-true (length s - at) count t in
    let k : at + (length s - at) ≡ length s = omega arith in
    rw (scan-front (length s - at) count s at (omega arith) (omega arith), k, scan-ended (count - (length s - at)) s (omega arith)))
    (λ t.
    let all = ltb-false (length s - at) count t in
    let k : at + count - at ≡ count = omega arith in
    let z : count - count ≡ 0 = omega arith in
    rw (scan-front count count s at (omega arith) (omega arith), k, z))

-- where all of them are there, they are taken exactly if the digits end behind them
pub scan-taken : (count : ℕ) (s : List ℕ) (at : ℕ) → at + count ≤ length s → is_taken (scan_at count s at) ≡ leb (at + count) (digits_end (at + count - at) s at)
unfolding scan_at
scan-taken count s at h =
    let k : at + count - at ≡ count = omega arith in
    let z : count - count ≡ 0 = omega arith in
    let end = digits_end count s at in
    rw (scan-front count count s at (omega arith) h, k, z)
    (pick_elim (λ (r : Read (Unit {0})). is_taken r ≡ leb (at + count) end) (ltb end (at + count))
    (λ t. sym (lt-leb (at + count) end (ltb-true end (at + count) t)))
    (λ t. sym (le-leb (at + count) end (ltb-false end (at + count) t))))

-- digits end behind their place and within the bytes
pub scan-ends : (count : ℕ) (s : List ℕ) (at n : ℕ) → scan_at count s at ≡ took tt n → at ≤ length s → (n ≡ at + count) × (n ≤ length s)
unfolding scan_at
scan-ends zero s at n e h = let z = took_same e in omega arith
scan-ends (suc count) s at n e h =
    let a = pick-else (leb (length s) at) (ended_in s) _ _ never-took e in
    let b = pick-else (ltb 9 (get_or s at 0)) (wrong_at OutOfRange at) _ _ never-took a.1 in
    let i = scan-ends count s (at + 1) n b.1 (omega (arith, leb-false (length s) at a.0)) in
    omega arith

-- a number below 128 is one byte
pub one_byte : (s : List ℕ) (at v n : ℕ) → number_at s at ≡ took v n → v < 128 → (v ≡ get_or s at 0) × (n ≡ at + 1)
one_byte s at v n e h = let k = number_shape s at v n e in ⊎_elim (λ p. (p.1.0, p.1.1)) (λ p. absurd (omega arith)) k.1

-- the length of a number of digits is one byte
pub length-byte : (s : List ℕ) (at low v n : ℕ) → field_at s at low 15 ≡ took v n → (v ≤ 15) × ((v ≡ get_or s at 0) × (n ≡ at + 1))
length-byte s at low v n e = let f = field-read s at low 15 v n e in (f.most, one_byte s at v n f.number (omega (arith, f.most)))

-- a number of digits that was read: its first byte is its length, and its digits end it
pub record DigitsRead (s : List ℕ) (at low n : ℕ) : Type 0 where
  pub least : low ≤ get_or s at 0
  pub most : get_or s at 0 ≤ 15
  pub room : at < length s
  pub scanned : scan_at (get_or s at 0) s (at + 1) ≡ took tt n
  pub behind : n ≡ at + 1 + get_or s at 0
  pub ends : n ≤ length s

digits-by : (s : List ℕ) (at low n : ℕ) (r : Read ℕ) → field_at s at low 15 ≡ r → and_then r (λ count next. scan_at count s next) ≡ took tt n → DigitsRead s at low n
digits-by s at low n (Err x) h e = absurd (never-took e)
digits-by s at low n (Ok (v, m)) h e =
    let f = field-read s at low 15 v m h in
    let b = (length-byte s at low v m h).1 in
    let scanned : scan_at (get_or s at 0) s (at + 1) ≡ took tt n = rw (← b.0, ← b.1) e in
    let fl = f.least in
    let fm = f.most in
    let fe = f.ends in
    let g = scan-ends (get_or s at 0) s (at + 1) n scanned (omega (arith, b.1)) in
    record { least = omega (arith, b.0); most = omega (arith, b.0); room = omega (arith, b.1); scanned = scanned; behind = g.0; ends = g.1 }

pub digits-read : (s : List ℕ) (at low n : ℕ) → digits_at s at low ≡ took tt n → DigitsRead s at low n
unfolding digits_at
digits-read s at low n e = digits-by s at low n (field_at s at low 15) refl e
