-- The two ways to name a request tell keys apart: by origin as numbers are, by identifier as words are, or by having none.
use Rattle.lists.specs.declared.words.Words.{Words}
use Rattle.std.specs.Prelude.{Option, Some, None}
use Prim.Native.Nat.{ℕ}
use mathlib.Core.Path.{◌≡◌, refl, ap}
use mathlib.Core.Bool.{Bool, true, false, false≢true, true≢false}
use mathlib.Core.Logic.{◌⊎◌, inl, inr}
use native.Mathlib.Omega.{arith}
use borrow.Author.Tests.{eqb-true, eqb-false}
use Rattle.lists.proofs.WordsLaws.{same-words-true, same-words-false}
use Rattle.desk.specs.Letter.{identifier_words}
use Rattle.pair.specs.World.{Naming, origins, alike, identifiers}

pub record Tells {K : Type 0} (n : Naming K) : Type 0 where
  pub yes : (a b : K) → n.same a b ≡ true → a ≡ b
  pub no : (a b : K) → n.same a b ≡ false → a ≡ b → ⊥

pub origins-tell : Tells origins
origins-tell = record { yes = eqb-true; no = eqb-false }

alike-true : (a b : Option Words) → alike a b ≡ true → a ≡ b
alike-true None None e = refl
alike-true None (Some other) e = absurd (false≢true e)
alike-true (Some own) None e = absurd (false≢true e)
alike-true (Some own) (Some other) e = ap Some (same-words-true own other e)

alike-false : (a b : Option Words) → alike a b ≡ false → a ≡ b → ⊥
alike-false None None e q = true≢false e
alike-false None (Some other) e q = let z : ◌≡◌ {A = ℕ} 0 1 = cc in omega (arith, z)
alike-false (Some own) None e q = let z : ◌≡◌ {A = ℕ} 0 1 = cc in omega (arith, z)
alike-false (Some own) (Some other) e q = same-words-false own other e (ap identifier_words q)

pub identifiers-tell : Tells identifiers
identifiers-tell = record { yes = alike-true; no = alike-false }

module _ {K : Type 0} {n : Naming K} (tells : Tells n) where
  -- two keys are the same or differ, as the test says
  data Compared (a b : K) : Type 0 where
    equal : a ≡ b → n.same a b ≡ true → Compared a b
    unlike : (a ≡ b → ⊥) → n.same a b ≡ false → Compared a b

  compare : (a b : K) → Compared a b
  compare a b = go (n.same a b) refl
    where
      go : (t : Bool) → n.same a b ≡ t → Compared a b
      go true e = equal (tells.yes a b e) e
      go false e = unlike (tells.no a b e) e

  pub key? : (a b : K) → (a ≡ b) ⊎ (a ≡ b → ⊥)
  key? a b = by (compare a b)
    where
      by : Compared a b → (a ≡ b) ⊎ (a ≡ b → ⊥)
      by (equal e t) = inl e
      by (unlike d t) = inr d

  pub key-same : (a b : K) → a ≡ b → n.same a b ≡ true
  key-same a b e = by (compare a b)
    where
      by : Compared a b → n.same a b ≡ true
      by (equal q t) = t
      by (unlike d t) = absurd (d e)

  pub key_differs : (a b : K) → (a ≡ b → ⊥) → n.same a b ≡ false
  key_differs a b d = by (compare a b)
    where
      by : Compared a b → n.same a b ≡ false
      by (equal q t) = absurd (d q)
      by (unlike x t) = t
