-- The identifier behind its length: by whether there is one.
use Rattle.std.specs.Prelude.{Ok, Err}
use Prim.Native.Nat.{ℕ, ◌+◌, ◌≤◌, ◌<◌}
use mathlib.Core.Path.{◌≡◌}
use mathlib.Core.Bool.{Bool, true, false}
use mathlib.Core.Logic.{⊎_elim}
use mathlib.Core.List.{List}
use lib.ListN.{length, replicate}
use lib.Dec.{eqb}
use native.Mathlib.Omega.{arith}
use native.Mathlib.Nat.{add-zero}
use borrow.Author.Tests.{eqb-true, le-ltb, lt-ltb}
use Rattle.lists.specs.Choice.{pick}
use Rattle.lists.proofs.Choice.{pick-cases, pick-then}
use Rattle.message.specs.Reading.{Read, took, refused, and_then, wrong_at, ended_in}
use Rattle.message.specs.Number.{number_at}
use Rattle.message.specs.Wire.{identified_at, identifier_at}
use Rattle.message.specs.Copied.{copied}
use Rattle.message.specs.declared.refusal.Refusal.TheVariants.{OutOfRange}
use Rattle.message.proofs.Reading.{never-took, took_same}
use Rattle.message.proofs.CopiedLaws.{copied-whole}

identified-by :
    (at : ℕ) (b : Bool) (n : ℕ) (r : Read ℕ) →
    and_then r (λ length next. pick (eqb length 16) (took true next) (pick (eqb length 0) (took false next) (wrong_at OutOfRange at))) ≡ took b n → r ≡ took (pick b 16 0) n
identified-by at b n (Err x) e = absurd (never-took e)
identified-by at b n (Ok (v, m)) e =
    ⊎_elim
    (λ p.
    let q = took_same p.1 in
    rw (← q.0, ← q.1, eqb-true v 16 p.0))
    (λ p.
    let t = pick-then (eqb v 0) (took false m) (wrong_at OutOfRange at) (took b n) never-took p.1 in
    let q = took_same t.1 in
    rw (← q.0, ← q.1, eqb-true v 0 t.0))
    (pick-cases _ _ _ _ e)

-- a length that was taken is the number 16, or 0 where there is none
pub identified-read : (s : List ℕ) (at : ℕ) (b : Bool) (n : ℕ) → identified_at s at ≡ took b n → number_at s at ≡ took (pick b 16 0) n
unfolding identified_at
identified-read s at b n e = identified-by at b n (number_at s at) e

-- ---- so many bytes are there, or not
pub identifier-whole :
    (identified : Bool) (s : List ℕ) (at size : ℕ) → size ≡ pick identified 16 0 → at + size ≤ length s →
    identifier_at identified s at ≡ took (pick identified (copied s at (at + 16)) (replicate 16 0)) (at + size)
unfolding identifier_at
identifier-whole true s at size e h = rw (e, le-ltb (length s) (at + 16) (omega arith), copied-whole s at (omega arith))
identifier-whole false s at size e h = rw (e, add-zero at)

pub identifier-ended : (identified : Bool) (s : List ℕ) (at size : ℕ) → size ≡ pick identified 16 0 → at ≤ length s → length s < at + size → identifier_at identified s at ≡ ended_in s
unfolding identifier_at
identifier-ended true s at size e h l = rw (lt-ltb (length s) (at + 16) (omega arith))
identifier-ended false s at size e h l = absurd (omega arith)
