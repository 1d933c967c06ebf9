-- What a reader has to be for its faults to tell what the claims say, and that one reader behind another is such a reader again.
use Rattle.std.specs.Prelude.{Ok, Err}
use Prim.Native.Nat.{ℕ, ◌+◌, ◌≤◌, ◌<◌}
use mathlib.Core.Path.{◌≡◌, refl, sym, ◌∙◌, ap}
use mathlib.Core.Bool.{Bool, true, false}
use mathlib.Core.Logic.{◌⊎◌}
use mathlib.Core.List.{List, [], ◌∷◌, ◌++◌, append-nil, append_assoc}
use lib.ListN.{length, get_or, take, length-append}
use lib.Seq.{take_all, take-take, take-append-le, length-take-le}
use native.Mathlib.Omega.{arith}
use Rattle.lists.specs.Choice.{pick}
use Rattle.lists.specs.Words.{Bytes}
use Rattle.lists.proofs.WordsLaws.{bytes_append}
use Rattle.message.specs.Reading.{Read, took, refused, and_then}
use Rattle.message.specs.declared.Fault.{Fault}
use Rattle.message.specs.declared.refusal.Refusal.TheVariants.{Faulty, OutOfRange}
use Rattle.message.proofs.Reading.{never-took, took_same, then_elim}

-- ---- what is asked of a reader
-- what it takes hangs only on the bytes in front of its end
abbrev pub Steady : {A : Type 0} → (List ℕ → Read A) → Type 0
Steady {A} f = (s t : List ℕ) (v : A) (n : ℕ) → n ≤ length s → f s ≡ took v n → take n t ≡ take n s → f t ≡ took v n

-- some bytes behind these are taken, all of them
pub record Open {A : Type 0} (f : List ℕ → Read A) (t : List ℕ) : Type 0 where
  pub more : List ℕ
  pub bytes : Bytes more
  pub value : A
  pub read : f (t ++ more) ≡ took value (length (t ++ more))

-- the bytes in front of a fault can be gone on with; or, where the bytes ended in the first half of a number, those in front of that
pub record Kept {A : Type 0} (f : List ℕ → Read A) (at : ℕ) (s : List ℕ) (place : ℕ) : Type 0 where
  pub kept : ℕ
  pub from : at ≤ kept
  pub within : kept ≤ length s
  pub cut : (kept ≡ place) ⊎ ((kept + 1 ≡ place) × ((place ≡ length s) × (128 ≤ get_or s kept 0)))
  pub opens : Open f (take kept s)

-- what a fault tells of a reader that starts at a place
pub record Told {A : Type 0} (f : List ℕ → Read A) (at : ℕ) (s : List ℕ) (x : Fault) : Type 0 where
  pub refusal : (x.refusal ≡ Faulty) ⊎ (x.refusal ≡ OutOfRange)
  pub from : at ≤ x.place
  pub within : x.place ≤ length s
  pub stays : x.place < length s → (more : List ℕ) → f (s ++ more) ≡ refused x
  pub one : x.place ≡ length s → x.refusal ≡ Faulty
  pub asks : x.place ≡ length s → f (s ++ (0 ∷ [])) ≡ refused x → ⊥
  pub keeps : Kept f at s x.place

-- a reader that starts at a place ends behind it, within the bytes, and its faults tell
pub record Reader {A : Type 0} (f : List ℕ → Read A) (at : ℕ) : Type 0 where
  pub ends : (s : List ℕ) (v : A) (n : ℕ) → at ≤ length s → f s ≡ took v n → (at ≤ n) × (n ≤ length s)
  pub tells : (s : List ℕ) (x : Fault) → at ≤ length s → f s ≡ refused x → Told f at s x

-- ---- bytes
pub one_more : (s : List ℕ) → length (s ++ (0 ∷ [])) ≡ length s + 1
one_more s = length-append s (0 ∷ [])

cut-same : (s more : List ℕ) (n c : ℕ) → n ≤ c → c ≤ length s → take n (take c s ++ more) ≡ take n s
cut-same s more n c h k = take-append-le n (take c s) more (omega (arith, length-take-le c s k)) ∙ take-take n c s h

-- ---- one reader behind another: either the first refuses, or what follows
pub then-refused :
    {A B : Type 0} (r : Read A) (k : A → ℕ → Read B) (x : Fault) → and_then r k ≡ refused x → {G : Type 0} →
    (r ≡ refused x → G) → ((v : A) (n : ℕ) → r ≡ took v n → k v n ≡ refused x → G) → G
then-refused (Ok (v, n)) k x e here later = later v n refl e
then-refused (Err y) k x e here later = let q : y ≡ x = cc in here (ap (λ (z : Fault). refused z) q)

module _ {A : Type 0} {f : List ℕ → Read A} {at : ℕ} where
  -- from its start on a reader can always be gone on with
  starts : Reader f at → (t : List ℕ) → length t ≡ at → Open f t
  starts r t l = go (f t) refl
    where
      go : (a : Read A) → f t ≡ a → Open f t
      go (Ok (v, n)) e =
          let b = r.ends t v n (omega arith) e in
          let k : n ≡ length t = omega arith in
          record { more = []; bytes = λ i. omega arith; value = v; read = rw (append-nil t) (rw (← k) e) }
      go (Err x) e =
          let keeps = (r.tells t x (omega arith) e).keeps in
          let from = keeps.from in
          rw (take_all keeps.kept t (omega arith)) at keeps.opens

-- what a fault of one reader tells, told of another that starts no later, has the same fault and can be gone on with from where the one can
moved :
    {A B : Type 0} (f : List ℕ → Read A) (g : List ℕ → Read B) (at start : ℕ) (s : List ℕ) (x : Fault) → start ≤ at → Told f at s x →
    ((more : List ℕ) → f (s ++ more) ≡ refused x → g (s ++ more) ≡ refused x) →
    (x.place ≡ length s → g (s ++ (0 ∷ [])) ≡ refused x → f (s ++ (0 ∷ [])) ≡ refused x) →
    ((kept : ℕ) → at ≤ kept → kept ≤ length s → Open f (take kept s) → Open g (take kept s)) → Told g start s x
moved f g at start s x h t stays asks opens =
    let k = t.keeps in
    let from = t.from in
    let later = k.from in
    record {
      refusal = t.refusal;
      from = omega arith;
      within = t.within;
      stays = λ q more. stays more (t.stays q more);
      one = t.one;
      asks = λ q e. t.asks q (asks q e);
      keeps = record { kept = k.kept; from = omega arith; within = k.within; cut = k.cut; opens = opens k.kept k.from k.within k.opens };
    }

module _ {A B : Type 0} (f : List ℕ → Read A) (k : A → ℕ → List ℕ → Read B) where
  abbrev Both : List ℕ → Read B
  Both s = and_then (f s) (λ v n. k v n s)

  abbrev Follow : Type 0
  Follow = (v : A) (n : ℕ) → Reader (k v n) n

  then-took : (s : List ℕ) (v : A) (n : ℕ) → f s ≡ took v n → Both s ≡ k v n s
  then-took s v n e = rw e

  then-stays : (s : List ℕ) (x : Fault) → f s ≡ refused x → Both s ≡ refused x
  then-stays s x e = rw e

  both_ends : (at : ℕ) → Reader f at → Follow → (s : List ℕ) (w : B) (m : ℕ) → at ≤ length s → Both s ≡ took w m → (at ≤ m) × (m ≤ length s)
  both_ends at r follow s w m h =
      then_elim (λ a. a ≡ took w m → (at ≤ m) × (m ≤ length s)) (f s) (λ v n. k v n s) (λ x e. absurd (never-took e)) (λ v n e e2.
      let a = r.ends s v n h e in
      let b = (follow v n).ends s w m a.1 e2 in
      omega arith)

  -- where the first can be gone on with, the second goes on from its end
  open_first : Steady f → Follow → (t : List ℕ) → Open f t → Open Both t
  open_first steady follow t o =
      let u = t ++ o.more in
      let p = starts (follow o.value (length u)) u refl in
      let first = steady u (u ++ p.more) o.value (length u) (omega arith) o.read (take-append-le (length u) u p.more (omega arith)) in
      record {
        more = o.more ++ p.more;
        bytes = bytes_append o.more p.more o.bytes p.bytes;
        value = p.value;
        read = rw (← append_assoc t o.more p.more) (then-took (u ++ p.more) o.value (length u) first ∙ p.read);
      }

  -- where the second can be gone on with, the first stays taken
  open_second : Steady f → (s : List ℕ) (v : A) (n c : ℕ) → f s ≡ took v n → n ≤ c → c ≤ length s → Open (k v n) (take c s) → Open Both (take c s)
  open_second steady s v n c e h l o =
      let u = take c s ++ o.more in
      record {
        more = o.more;
        bytes = o.bytes;
        value = o.value;
        read = then-took u v n (steady s u v n (omega arith) e (cut-same s o.more n c h l)) ∙ o.read;
      }

  -- one reader behind another
  pub both : (at : ℕ) → Steady f → Reader f at → Follow → Reader Both at
  both at steady r follow =
      record {
        ends = both_ends at r follow;
        tells = λ s x h e. then-refused (f s) (λ v n. k v n s) x e (first s x h) (second s x h);
      }
    where
      -- taken with one byte more, the first would end there, and the second could not be at fault in front of it
      first : (s : List ℕ) (x : Fault) → at ≤ length s → f s ≡ refused x → Told Both at s x
      first s x h e =
          let again = s ++ (0 ∷ []) in
          let l = one_more s in
          moved f Both at at s x (omega arith) (r.tells s x h e) (λ more. then-stays (s ++ more) x)
          (λ q e2. then-refused (f again) (λ v n. k v n again) x e2 (λ e3. e3) (λ v n e3 e4.
          let b = r.ends again v n (omega arith) e3 in
          let from = ((follow v n).tells again x b.1 e4).from in
          absurd (never-took (sym e ∙ steady again s v n b.1 e3 (sym (take-append-le n s (0 ∷ []) (omega arith)))))))
          (λ c from within. open_first steady follow (take c s))

      second : (s : List ℕ) (x : Fault) → at ≤ length s → (v : A) (n : ℕ) → f s ≡ took v n → k v n s ≡ refused x → Told Both at s x
      second s x h v n e e2 =
          let b = r.ends s v n h e in
          let still : (more : List ℕ) → Both (s ++ more) ≡ k v n (s ++ more) =
          λ more. then-took (s ++ more) v n (steady s (s ++ more) v n b.1 e (take-append-le n s more b.1)) in
          moved (k v n) Both n at s x b.0 ((follow v n).tells s x b.1 e2)
          (λ more e3. still more ∙ e3)
          (λ q e3. sym (still (0 ∷ [])) ∙ e3)
          (λ c from within. open_second steady s v n c e from within)

  -- and steady, if the second is and the first ends within the bytes
  pub both_steady :
      Steady f → ((s : List ℕ) (v : A) (n : ℕ) → f s ≡ took v n → n ≤ length s) → Follow → ((v : A) (n : ℕ) → Steady (k v n)) → Steady Both
  both_steady steady ends follow steadily s t w m h =
      then_elim (λ a. a ≡ took w m → take m t ≡ take m s → Both t ≡ took w m) (f s) (λ v n. k v n s) (λ x e. absurd (never-took e)) (λ v n e e2 q.
      let l = ends s v n e in
      let b = (follow v n).ends s w m l e2 in
      let p : take n t ≡ take n s = sym (take-take n m t b.0) ∙ ap (λ (u : List ℕ). take n u) q ∙ take-take n m s b.0 in
      then-took t v n (steady s t v n l e p) ∙ steadily v n s t w m h e2 q)

-- ---- what takes without reading, and what is made of what was taken
pub taken : {A : Type 0} (g : List ℕ → A) (at : ℕ) → Reader (λ s. took (g s) at) at
taken g at = record { ends = λ s v n h e. let q = took_same e in omega arith; tells = λ s x h e. absurd (never-took (sym e)) }

pub made : {A B : Type 0} (f : List ℕ → Read A) (g : A → ℕ → List ℕ → B) (at : ℕ) → Reader f at → Reader (λ s. and_then (f s) (λ v n. took (g v n s) n)) at
made f g at r =
    let k : _ → ℕ → List ℕ → Read _ = λ v n s. took (g v n s) n in
    record {
      ends = both_ends f k at r (λ v n. taken (g v n) n);
      tells = λ s x h e. then-refused (f s) (λ v n. k v n s) x e
          (λ e2.
          moved f (Both f k) at at s x (omega arith) (r.tells s x h e2) (λ more. then-stays f k (s ++ more) x)
          (λ q e3. then-refused (f (s ++ (0 ∷ []))) _ x e3 (λ e4. e4) (λ v n e4 e5. absurd (never-took (sym e5))))
          (λ c from within o. record { more = o.more; bytes = o.bytes; value = g o.value _ _; read = then-took f k _ o.value _ o.read }))
          (λ v n e2 e3. absurd (never-took (sym e3)));
    }

-- ---- a choice of readers
pub chosen : {A : Type 0} (b : Bool) (f g : List ℕ → Read A) (at : ℕ) → Reader f at → Reader g at → Reader (λ s. pick b (f s) (g s)) at
chosen true f g at r q = r
chosen false f g at r q = q
