-- The readers of one field: a number, a digit, the identifier and its length. Each by the tests of its definition.
use Prim.Native.Nat.{ℕ, zero, suc, ◌+◌, ◌-◌, ◌≤◌, ◌<◌}
use mathlib.Core.Path.{◌≡◌, refl, sym, ◌∙◌, ap}
use mathlib.Core.Bool.{Bool, true, false}
use mathlib.Core.Logic.{◌⊎◌, inl, inr, ⊎_elim}
use mathlib.Core.List.{List, [], ◌∷◌, ◌++◌}
use lib.ListN.{length, get_or, take, drop, replicate, length-append, length-take, length-replicate, get_or-append}
use lib.Seq.{take_all, take-add, take-append-le, drop_at, get_or-take, get_or-append_seam, length-take-le}
use lib.Dec.{ltb, leb, eqb}
use native.Mathlib.Omega.{arith}
use borrow.Author.Tests.{ltb-true, ltb-false, leb-true, leb-false, lt-ltb, le-ltb, le-leb, lt-leb}
use Rattle.lists.specs.Choice.{pick}
use Rattle.lists.specs.Words.{Bytes}
use Rattle.lists.proofs.Choice.{pick_elim, pick-else}
use Rattle.message.specs.Reading.{Read, took, refused, and_then, wrong_at, ended_in}
use Rattle.message.specs.Number.{number_at, number_bytes, within, field_at}
use Rattle.message.specs.Wire.{identified_at, identifier_at}
use Rattle.message.specs.declared.Fault.{Fault}
use Rattle.message.specs.declared.refusal.Refusal.{Refusal}
use Rattle.message.specs.declared.refusal.Refusal.TheVariants.{Faulty, OutOfRange}
use Rattle.message.proofs.Reading.{never-took, took_same, then_elim}
use Rattle.message.proofs.NumberLaws.{number_shape, number-ends}
use Rattle.message.proofs.NumberBack.{number-back}
use Rattle.message.proofs.RangeLaws.{small_bytes}
use Rattle.faults.proofs.Readers.{Steady, Open, Kept, Told, Reader, one_more, then-refused, taken}

-- ---- bytes that begin alike
same_at : (s t : List ℕ) (m i : ℕ) → take m t ≡ take m s → i < m → get_or t i 0 ≡ get_or s i 0
same_at s t m i e h = sym (get_or-take m t i 0 h) ∙ ap (λ (u : List ℕ). get_or u i 0) e ∙ get_or-take m s i 0 h

same_length : (s t : List ℕ) (m : ℕ) → take m t ≡ take m s → m ≤ length s → m ≤ length t
same_length s t m e h = omega (arith, length-take m t, ap length e, length-take-le m s h)

one_byte : (b : ℕ) → b < 256 → Bytes (b ∷ [])
one_byte b h zero = h
one_byte b h (suc i) = omega arith

zeros : (n : ℕ) → Bytes (replicate n 0)
zeros zero i = omega arith
zeros (suc n) zero = omega arith
zeros (suc n) (suc i) = zeros n i

-- the byte 0 behind some bytes
zero-behind : (s : List ℕ) → get_or (s ++ (0 ∷ [])) (length s) 0 ≡ 0
zero-behind s = get_or-append_seam s 0 [] 0

-- ---- the two kinds of fault
same-fault : {A : Type 0} (x y : Fault) → ◌≡◌ {A = Read A} (refused x) (refused y) → x ≡ y
same-fault x y e = cc

module _ {A : Type 0} (f : List ℕ → Read A) (at : ℕ) (s : List ℕ) (x : Fault) where
  -- the bytes ended, and with one byte more that is not so
  ended-told : at ≤ length s → ended_in {A = A} s ≡ refused x → (f (s ++ (0 ∷ [])) ≡ ended_in s → ⊥) → Kept f at s (length s) → Told f at s x
  ended-told h e never keeps =
      rw (← (same-fault _ x e))
      (record {
        refusal = inl refl;
        from = h;
        within = omega arith;
        stays = λ l. absurd (omega arith);
        one = λ q. refl;
        asks = λ q. never;
        keeps = keeps;
      })

  -- a byte is wrong where the reader starts
  wrong-told : at < length s → x.place ≡ at → (x.refusal ≡ Faulty) ⊎ (x.refusal ≡ OutOfRange) → ((more : List ℕ) → f (s ++ more) ≡ refused x) → Open f (take at s) → Told f at s x
  wrong-told h e refusal stays opens =
      record {
        refusal = refusal;
        from = omega arith;
        within = omega arith;
        stays = λ l. stays;
        one = λ q. absurd (omega arith);
        asks = λ q. absurd (omega arith);
        keeps = record { kept = at; from = omega arith; within = omega arith; cut = inl (sym e); opens = opens };
      }

-- one byte more where a reader starts is enough
one-opens :
    {A : Type 0} (f : List ℕ → Read A) (at b : ℕ) (v : A) → b < 256 → ((t : List ℕ) → length t ≡ at → f (t ++ (b ∷ [])) ≡ took v (at + 1)) →
    (s : List ℕ) → at ≤ length s → Open f (take at s)
one-opens f at b v small reads s h =
    let t = take at s in
    let l : length t ≡ at = length-take-le at s h in
    let k : at + 1 ≡ length (t ++ (b ∷ [])) = omega (arith, length-append t (b ∷ [])) in
    record { more = b ∷ []; bytes = one_byte b small; value = v; read = reads t l ∙ ap (λ (n : ℕ). took v n) k }

-- ---- a number
-- the number stands within the bytes: one byte, or one of 128 or more and another
abbrev Stands : List ℕ → ℕ → ℕ → Type 0
Stands s at end = (at < end) × ((get_or s at 0 < 128) ⊎ (at + 1 < end))

number_same : (s t : List ℕ) (at m : ℕ) → m ≤ length s → take m t ≡ take m s → at < m → (get_or s at 0 < 128) ⊎ (at + 1 < m) → number_at t at ≡ number_at s at
unfolding number_at
number_same s t at m l e h (inl small) =
    let r = same_length s t m e l in
    rw (lt-leb (length t) at (omega arith), lt-leb (length s) at (omega arith), same_at s t m at e h, lt-ltb (get_or s at 0) 128 small)
number_same s t at m l e h (inr two) =
    let r = same_length s t m e l in
    rw (
      lt-leb (length t) at (omega arith),
      lt-leb (length s) at (omega arith),
      same_at s t m at e h,
      lt-leb (length t) (at + 1) (omega arith),
      lt-leb (length s) (at + 1) (omega arith),
      same_at s t m (at + 1) e two,
    )

-- how a number that stands within the bytes can be at fault
abbrev NumberFaulty : List ℕ → ℕ → Fault → Type 0
NumberFaulty s at x = (x.place ≡ at) × ((x.refusal ≡ OutOfRange) ⊎ ((x.refusal ≡ Faulty) × (128 ≤ get_or s at 0)))

wrong-is : {A : Type 0} (refusal : Refusal) (place : ℕ) (x : Fault) → wrong_at {A = A} refusal place ≡ refused x → (x.place ≡ place) × (x.refusal ≡ refusal)
wrong-is refusal place x e = let q = same-fault _ x e in (sym (ap (λ (y : Fault). y.place) q), sym (ap (λ (y : Fault). y.refusal) q))

number_faulty : (s : List ℕ) (at : ℕ) (x : Fault) → Stands s at (length s) → number_at s at ≡ refused x → NumberFaulty s at x
unfolding number_at
number_faulty s at x h =
    let P : Read ℕ → Type 0 = λ r. r ≡ refused x → NumberFaulty s at x in
    let room = h.0 in
    pick_elim P (leb (length s) at) (λ t. absurd (omega (arith, leb-true (length s) at t))) (λ t.
    pick_elim P (ltb (get_or s at 0) 128) (λ t e. absurd (never-took (sym e))) (λ big.
    let least = ltb-false (get_or s at 0) 128 big in
    let two : at + 1 < length s = ⊎_elim (λ p. absurd (omega arith)) (λ p. p) h.1 in
    let wrong : P (wrong_at Faulty at) = λ e. let w = wrong-is Faulty at x e in (w.0, inr (w.1, least)) in
    pick_elim P (leb (length s) (at + 1)) (λ t. absurd (omega (arith, leb-true (length s) (at + 1) t))) (λ t.
    pick_elim P (eqb (get_or s (at + 1) 0) 0) (λ t. wrong) (λ t.
    pick_elim P (ltb (get_or s (at + 1) 0) 128) (λ t e. absurd (never-took (sym e))) (λ t. wrong)))))

number_parts :
    (s : List ℕ) (at : ℕ) → at ≤ length s → {G : Type 0} → (at ≡ length s → G) → (at + 1 ≡ length s → 128 ≤ get_or s at 0 → G) → (Stands s at (length s) → G) → G
number_parts s at h {G} out half stands =
    go (leb (length s) at) (ltb (get_or s at 0) 128) (leb (length s) (at + 1)) refl refl refl
  where
    go : (a b c : Bool) → leb (length s) at ≡ a → ltb (get_or s at 0) 128 ≡ b → leb (length s) (at + 1) ≡ c → G
    go true b c ea eb ec = out (omega (arith, leb-true (length s) at ea))
    go false true c ea eb ec = stands (leb-false _ _ ea, inl (ltb-true _ _ eb))
    go false false true ea eb ec = half (omega (arith, leb-false (length s) at ea, leb-true (length s) (at + 1) ec)) (ltb-false _ _ eb)
    go false false false ea eb ec = stands (leb-false _ _ ea, inr (leb-false _ _ ec))

-- ---- a number and a test of it: refused by the test it is 2 at its own place, taken it ends where the number does
record Test {A : Type 0} (at : ℕ) (k : ℕ → ℕ → Read A) : Type 0 where
  fails : (v n : ℕ) (x : Fault) → k v n ≡ refused x → (x.place ≡ at) × (x.refusal ≡ OutOfRange)
  passes : (v n : ℕ) (w : A) (m : ℕ) → k v n ≡ took w m → n ≡ m

module _ {A : Type 0} (at : ℕ) (k : ℕ → ℕ → Read A) (test : Test at k) where
  abbrev Tested : List ℕ → Read A
  Tested s = and_then (number_at s at) k

  tested_same : (s t : List ℕ) (m : ℕ) → m ≤ length s → take m t ≡ take m s → Stands s at m → Tested t ≡ Tested s
  tested_same s t m l e h = rw (number_same s t at m l e h.0 h.1)

  tested_ends : (s : List ℕ) (w : A) (m : ℕ) → Tested s ≡ took w m → (at < m) × ((m ≤ length s) × Stands s at m)
  tested_ends s w m =
      then_elim (λ r. r ≡ took w m → (at < m) × ((m ≤ length s) × Stands s at m)) (number_at s at) k (λ x e. absurd (never-took e)) (λ v n en e.
      let z = test.passes v n w m e in
      let b = number-ends s at v n en in
      let r = number_shape s at v n en in
      let stands : Stands s at m = ⊎_elim (λ p. (omega arith, inl p.0)) (λ p. (omega arith, inr (omega arith))) r.1 in
      (omega arith, (omega arith, stands)))

  tested_steady : Steady Tested
  tested_steady s t w m l e q = tested_same s t m l q (tested_ends s w m e).1.1 ∙ e

  tested_faulty : (s : List ℕ) (x : Fault) → Stands s at (length s) → Tested s ≡ refused x → NumberFaulty s at x
  tested_faulty s x h e =
      then-refused (number_at s at) k x e (number_faulty s at x h) (λ v n en ek. let f = test.fails v n x ek in (f.0, inl f.1))

  -- the bytes end in front of a number, or behind its first byte
  tested_out : (s : List ℕ) → length s ≤ at → Tested s ≡ ended_in s
  unfolding number_at
  tested_out s h = rw (le-leb (length s) at h)

  tested_half : (s : List ℕ) → at + 1 ≡ length s → 128 ≤ get_or s at 0 → Tested s ≡ ended_in s
  unfolding number_at
  tested_half s h b = rw (lt-leb (length s) at (omega arith), le-ltb (get_or s at 0) 128 b, le-leb (length s) (at + 1) (omega arith))

  -- one byte, taken by the test, is enough
  tested_opens : (b : ℕ) (w : A) → b < 128 → ((n : ℕ) → k b n ≡ took w n) → (s : List ℕ) → at ≤ length s → Open Tested (take at s)
  tested_opens b w small takes =
      one-opens Tested at b w (omega arith) (λ t l.
      let one = small_bytes b small in
      let stands : drop at (t ++ (b ∷ [])) ≡ number_bytes b ++ [] = rw one (drop_at t (b ∷ []) at l) in
      let read : number_at (t ++ (b ∷ [])) at ≡ took b (at + 1) = rw one at (number-back (t ++ (b ∷ [])) [] at b (omega arith) stands) in
      rw read (takes (at + 1)))

  tested_tells :
      ((s : List ℕ) → at ≤ length s → Open Tested (take at s)) → (s : List ℕ) (x : Fault) → at ≤ length s → Tested s ≡ refused x → Told Tested at s x
  tested_tells opens s x h e =
      let l = one_more s in
      let z = zero-behind s in
      let again = s ++ (0 ∷ []) in
      number_parts s at h
      (λ out.
      ended-told _ at s x h (sym (tested_out s (omega arith)) ∙ e)
      (λ e2.
      let zero-there : get_or again at 0 ≡ 0 = rw out z in
      let w = tested_faulty again _ (omega arith, inl (omega arith)) e2 in
      ⊎_elim (λ p. cc) (λ p. omega arith) w.1)
      (record { kept = at; from = omega arith; within = h; cut = inl out; opens = opens s h }))
      (λ short big.
      ended-told _ at s x h (sym (tested_half s short big) ∙ e)
      (λ e2.
      let w = tested_faulty again _ (omega arith, inr (omega arith)) e2 in
      omega (arith, w.0))
      (record { kept = at; from = omega arith; within = h; cut = inr (short, (refl, big)); opens = opens s h }))
      (λ stands.
      let w = tested_faulty s x stands e in
      wrong-told _ at s x stands.0 w.0 (⊎_elim (λ p. inr p) (λ p. inl p.0) w.1)
      (λ more. tested_same s (s ++ more) (length s) (omega arith) (take-append-le (length s) s more (omega arith)) stands ∙ e)
      (opens s h))

  tested_reader : (b : ℕ) (w : A) → b < 128 → ((n : ℕ) → k b n ≡ took w n) → Reader Tested at
  tested_reader b w small takes =
      record {
        ends = λ s v m h e. let r = tested_ends s v m e in (omega arith, r.1.0);
        tells = tested_tells (tested_opens b w small takes);
      }

-- a number within its range
within_test : (at low high : ℕ) → Test at (within at low high)
within_test at low high =
    record {
      fails = λ v n x.
          let P : Read ℕ → Type 0 = λ r. r ≡ refused x → (x.place ≡ at) × (x.refusal ≡ OutOfRange) in
          pick_elim P (ltb v low) (λ t. wrong-is OutOfRange at x) (λ t. pick_elim P (ltb high v) (λ t. wrong-is OutOfRange at x) (λ t e. absurd (never-took (sym e))));
      passes = λ v n w m e.
          let a = pick-else (ltb v low) (wrong_at OutOfRange at) _ _ never-took e in
          let b = pick-else (ltb high v) (wrong_at OutOfRange at) _ _ never-took a.1 in
          (took_same b.1).1;
    }

pub field_steady : (at low high : ℕ) → Steady (λ s. field_at s at low high)
unfolding field_at
field_steady at low high = tested_steady at (within at low high) (within_test at low high)

pub field-reader : (at low high : ℕ) → low ≤ high → low < 128 → Reader (λ s. field_at s at low high) at
unfolding field_at
field-reader at low high order small =
    tested_reader at (within at low high) (within_test at low high) low low small (λ n. rw (le-ltb low low (omega arith), le-ltb high low order))

-- the length of an identifier, 16 or 0
abbrev lengths : ℕ → ℕ → ℕ → Read Bool
lengths at v n = pick (eqb v 16) (took true n) (pick (eqb v 0) (took false n) (wrong_at OutOfRange at))

lengths_test : (at : ℕ) → Test at (lengths at)
lengths_test at =
    record {
      fails = λ v n x.
          let P : Read Bool → Type 0 = λ r. r ≡ refused x → (x.place ≡ at) × (x.refusal ≡ OutOfRange) in
          pick_elim P (eqb v 16) (λ t e. absurd (never-took (sym e))) (λ t. pick_elim P (eqb v 0) (λ t e. absurd (never-took (sym e))) (λ t. wrong-is OutOfRange at x));
      passes = λ v n w m.
          let P : Read Bool → Type 0 = λ r. r ≡ took w m → n ≡ m in
          pick_elim P (eqb v 16) (λ t e. (took_same e).1) (λ t. pick_elim P (eqb v 0) (λ t e. (took_same e).1) (λ t e. absurd (never-took e)));
    }

pub identified_steady : (at : ℕ) → Steady (λ s. identified_at s at)
unfolding identified_at
identified_steady at = tested_steady at (lengths at) (lengths_test at)

pub identified-reader : (at : ℕ) → Reader (λ s. identified_at s at) at
unfolding identified_at
identified-reader at = tested_reader at (lengths at) (lengths_test at) 0 false (omega arith) (λ n. refl)

-- ---- one digit
unfoldable pub digit_at : List ℕ → ℕ → Read (Unit {0})
digit_at s at = pick (leb (length s) at) (ended_in s) (pick (ltb 9 (get_or s at 0)) (wrong_at OutOfRange at) (took tt (at + 1)))

digit-took : (s : List ℕ) (at : ℕ) → at < length s → get_or s at 0 ≤ 9 → digit_at s at ≡ took tt (at + 1)
unfolding digit_at
digit-took s at h d = rw (lt-leb (length s) at h, le-ltb 9 (get_or s at 0) d)

digit-wrong : (s : List ℕ) (at : ℕ) → at < length s → 9 < get_or s at 0 → digit_at s at ≡ wrong_at OutOfRange at
unfolding digit_at
digit-wrong s at h d = rw (lt-leb (length s) at h, lt-ltb 9 (get_or s at 0) d)

digit-out : (s : List ℕ) (at : ℕ) → length s ≤ at → digit_at s at ≡ ended_in s
unfolding digit_at
digit-out s at h = rw (le-leb (length s) at h)

digit_shape : (s : List ℕ) (at : ℕ) (v : Unit {0}) (n : ℕ) → digit_at s at ≡ took v n → (at < length s) × ((get_or s at 0 ≤ 9) × (n ≡ at + 1))
unfolding digit_at
digit_shape s at v n e =
    let a = pick-else (leb (length s) at) (ended_in s) _ _ never-took e in
    let b = pick-else (ltb 9 (get_or s at 0)) (wrong_at OutOfRange at) _ _ never-took a.1 in
    (leb-false (length s) at a.0, (ltb-false 9 (get_or s at 0) b.0, sym (took_same b.1).1))

pub digit-ends : (at : ℕ) (s : List ℕ) (v : Unit {0}) (n : ℕ) → digit_at s at ≡ took v n → n ≤ length s
digit-ends at s v n e = let r = digit_shape s at v n e in omega arith

pub digit_steady : (at : ℕ) → Steady (λ s. digit_at s at)
digit_steady at s t v n l e q =
    let r = digit_shape s at v n e in
    let k = same_length s t n q l in
    let d = same_at s t n at q (omega arith) in
    let g : at + 1 ≡ n = omega arith in
    digit-took t at (omega arith) (omega arith) ∙ ap (λ (m : ℕ). took v m) g

digit-zero : (at : ℕ) (t : List ℕ) → length t ≡ at → digit_at (t ++ (0 ∷ [])) at ≡ took tt (at + 1)
digit-zero at t l =
    let m = one_more t in
    let z : get_or (t ++ (0 ∷ [])) at 0 ≡ 0 = rw l at (zero-behind t) in
    digit-took (t ++ (0 ∷ [])) at (omega arith) (omega arith)

pub digit-reader : (at : ℕ) → Reader (λ s. digit_at s at) at
digit-reader at =
    record {
      ends = λ s v n h e. let r = digit_shape s at v n e in omega arith;
      tells = λ s x h e. tells s x h e (leb (length s) at) (ltb 9 (get_or s at 0)) refl refl;
    }
  where
    opens : (s : List ℕ) → at ≤ length s → Open (λ s. digit_at s at) (take at s)
    opens = one-opens (λ s. digit_at s at) at 0 tt (omega arith) (digit-zero at)

    tells : (s : List ℕ) (x : Fault) → at ≤ length s → digit_at s at ≡ refused x → (a b : Bool) → leb (length s) at ≡ a → ltb 9 (get_or s at 0) ≡ b → Told (λ s. digit_at s at) at s x
    tells s x h e true b ea eb =
        let out = leb-true (length s) at ea in
        ended-told _ at s x h (sym (digit-out s at out) ∙ e) (λ e2. never-took (sym e2 ∙ digit-zero at s (omega arith)))
        (record { kept = at; from = omega arith; within = h; cut = inl (omega arith); opens = opens s h })
    tells s x h e false true ea eb =
        let room = leb-false (length s) at ea in
        let over = ltb-true 9 (get_or s at 0) eb in
        let w = wrong-is OutOfRange at x (sym (digit-wrong s at room over) ∙ e) in
        wrong-told _ at s x room w.0 (inr w.1)
        (λ more.
        let l = length-append s more in
        let d = get_or-append s more 0 at room in
        digit-wrong (s ++ more) at (omega arith) (omega arith) ∙ sym (digit-wrong s at room over) ∙ e)
        (opens s h)
    tells s x h e false false ea eb = absurd (never-took (sym e ∙ digit-took s at (leb-false (length s) at ea) (ltb-false 9 (get_or s at 0) eb)))

-- ---- the identifier, sixteen bytes or none
identifier-took : (s : List ℕ) (at : ℕ) → at + 16 ≤ length s → identifier_at true s at ≡ took (take 16 (drop at s)) (at + 16)
unfolding identifier_at
identifier-took s at h = rw (le-ltb (length s) (at + 16) h)

identifier-out : (s : List ℕ) (at : ℕ) → length s < at + 16 → identifier_at true s at ≡ ended_in s
unfolding identifier_at
identifier-out s at h = rw (lt-ltb (length s) (at + 16) h)

identifier_shape : (s : List ℕ) (at : ℕ) (v : List ℕ) (n : ℕ) → identifier_at true s at ≡ took v n → (at + 16 ≤ length s) × ((take 16 (drop at s) ≡ v) × (at + 16 ≡ n))
unfolding identifier_at
identifier_shape s at v n e =
    let p = pick-else (ltb (length s) (at + 16)) (ended_in s) _ _ never-took e in
    (ltb-false (length s) (at + 16) p.0, took_same p.1)

identifier-ended : (s : List ℕ) (at : ℕ) (x : Fault) → identifier_at true s at ≡ refused x → x.place ≡ length s
unfolding identifier_at
identifier-ended s at x =
    pick_elim (λ r. r ≡ refused x → x.place ≡ length s) (ltb (length s) (at + 16)) (λ t e. (wrong-is Faulty (length s) x e).0) (λ t e. absurd (never-took (sym e)))

-- the bytes from a place on, within those that begin alike
part_of : (s : List ℕ) (at n : ℕ) → at ≤ length s → drop at (take (at + n) s) ≡ take n (drop at s)
part_of s at n h = rw (take-add at n s) (drop_at (take at s) (take n (drop at s)) at (length-take-le at s h))

sixteen_steady : (at : ℕ) → Steady (λ s. identifier_at true s at)
sixteen_steady at s t v n l e q =
    let r = identifier_shape s at v n e in
    let k = same_length s t n q l in
    let same : take (at + 16) t ≡ take (at + 16) s = rw r.1.1 q in
    let part : take 16 (drop at t) ≡ v = sym (part_of t at 16 (omega arith)) ∙ ap (λ (u : List ℕ). drop at u) same ∙ part_of s at 16 (omega arith) ∙ r.1.0 in
    identifier-took t at (omega arith) ∙ rw (part, r.1.1)

sixteen-reader : (at : ℕ) → Reader (λ s. identifier_at true s at) at
sixteen-reader at = record { ends = λ s v n h e. let r = identifier_shape s at v n e in omega arith; tells = λ s x h e. tells s x h e (ltb (length s) (at + 16)) refl }
  where
    tells : (s : List ℕ) (x : Fault) → at ≤ length s → identifier_at true s at ≡ refused x → (a : Bool) → ltb (length s) (at + 16) ≡ a → Told (λ s. identifier_at true s at) at s x
    tells s x h e true ea =
        let out = ltb-true (length s) (at + 16) ea in
        let l = one_more s in
        let rest = at + 16 - length s in
        let all = s ++ replicate rest 0 in
        let whole : length all ≡ at + 16 = length-append s (replicate rest 0) ∙ omega (arith, length-replicate {A = ℕ} rest 0) in
        ended-told _ at s x h (sym (identifier-out s at out) ∙ e)
        (λ e2. omega (arith, identifier-ended (s ++ (0 ∷ [])) at _ e2))
        (record {
          kept = length s;
          from = h;
          within = omega arith;
          cut = inl refl;
          opens =
              rw (take_all (length s) s (omega arith))
              (record { more = replicate rest 0; bytes = zeros rest; value = take 16 (drop at all); read = identifier-took all at (omega arith) ∙ ap (λ (n : ℕ). took (take 16 (drop at all)) n) (sym whole) });
        })
    tells s x h e false ea = absurd (never-took (sym e ∙ identifier-took s at (ltb-false (length s) (at + 16) ea)))

pub identifier_steady : (identified : Bool) (at : ℕ) → Steady (λ s. identifier_at identified s at)
unfolding identifier_at
identifier_steady true at = sixteen_steady at
identifier_steady false at = λ s t v n l e q. e

pub identifier-reader : (identified : Bool) (at : ℕ) → Reader (λ s. identifier_at identified s at) at
unfolding identifier_at
identifier-reader true at = sixteen-reader at
identifier-reader false at = taken (λ s. replicate 16 0) at
