-- One line taken from the front of the bytes, as the loop takes it.
use Prim.Native.Nat.{ℕ, zero, suc, ◌+◌, ◌-◌, ◌≤◌, ◌<◌}
use mathlib.Core.Path.{◌≡◌}
use mathlib.Core.Bool.{true, false}
use mathlib.Core.List.{List}
use lib.ListN.{length, get_or, take, drop}
use lib.Seq.{get_or-drop, drop-drop}
use native.Mathlib.Omega.{arith}
use Rattle.lists.specs.Choice.{pick}
use Rattle.message.specs.Copied.{copied}
use Rattle.message.proofs.CopiedLaws.{copied-whole}
use Rattle.line.specs.Start.{kinds_at, given_width, good_line, line_taken, stored, bad, take_lines}

take_next :
    (left k : ℕ) (bytes ws : List ℕ) → 0 < left →
    take_lines left k bytes ws
    ≡ pick (good_line ws (take kinds_at bytes) (get_or bytes kinds_at 0))
    (take_lines (left - 1) (k + 1) (drop given_width bytes) (line_taken ws k (take kinds_at bytes) (get_or bytes kinds_at 0)))
    bad
unfolding take_lines
take_next zero k bytes ws h = absurd (omega (arith, h))
take_next (suc left) k bytes ws h =
    let place : k + 1 ≡ suc k = omega arith in
    let rest : suc left - 1 ≡ left = omega arith in
    rw (place, rest)

-- the same at a place of the bytes, as the code reads a line there
take_at :
    (left k at : ℕ) (given ws : List ℕ) → 0 < left → at + given_width ≤ length given →
    take_lines left k (drop at given) ws
    ≡ pick (good_line ws (copied given at (at + kinds_at)) (get_or given (at + kinds_at) 0))
    (take_lines (left - 1) (k + 1) (drop (at + given_width) given) (line_taken ws k (copied given at (at + kinds_at)) (get_or given (at + kinds_at) 0)))
    bad
take_at left k at given ws h fits =
    rw (copied-whole given at (omega (arith, fits)), ← get_or-drop at given kinds_at 0, ← drop-drop given_width at given) (take_next left k (drop at given) ws h)

pub take-good :
    (left k at : ℕ) (given ws : List ℕ) → 0 < left → at + given_width ≤ length given →
    good_line ws (copied given at (at + kinds_at)) (get_or given (at + kinds_at) 0) ≡ true →
    take_lines left k (drop at given) ws
    ≡ take_lines (left - 1) (k + 1) (drop (at + given_width) given) (line_taken ws k (copied given at (at + kinds_at)) (get_or given (at + kinds_at) 0))
take-good left k at given ws h fits good = rw (take_at left k at given ws h fits, good)

pub take-bad :
    (left k at : ℕ) (given ws : List ℕ) → 0 < left → at + given_width ≤ length given →
    good_line ws (copied given at (at + kinds_at)) (get_or given (at + kinds_at) 0) ≡ false → take_lines left k (drop at given) ws ≡ bad
take-bad left k at given ws h fits wrong = rw (take_at left k at given ws h fits, wrong)

pub take-end : (left k : ℕ) (bytes ws : List ℕ) → left ≡ 0 → take_lines left k bytes ws ≡ stored ws
unfolding take_lines
take-end left k bytes ws h = rw (h)
