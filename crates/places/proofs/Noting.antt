-- A note and the deadline beside it: where the deadline is that of the note, the laws of the count over true time are laws of notes.
use Prim.Native.Nat.{ℕ, ◌+◌, ◌%◌, ◌≤◌, ◌<◌}
use mathlib.Core.Path.{◌≡◌, refl, sym, ap, ◌∙◌}
use mathlib.Core.Bool.{Bool, true, false, false≢true}
use lib.Dec.{ltb}
use native.Mathlib.Omega.{arith}
use borrow.Author.Tests.{ltb-true, ltb-false}
use Rattle.clock.specs.Clock.{turn, half_turn, deadline_of, due}
use Rattle.clock.proofs.ClockLaws.{never-early, due-in-time}
use Rattle.places.specs.Notes.{Note, started, Passed}

-- a tick looked at it last at a time at which its seconds had not all passed
pub data Noted (now looked : ℕ) (note : Note) (deadline : ℕ) : Type 0 where
  noted :
      (time seconds : ℕ) → note ≡ started time seconds → time ≤ now → seconds ≤ half_turn → looked ≤ time + seconds → deadline ≡ deadline_of (time % turn) seconds →
      Noted now looked note deadline

pub noted-start : (now looked seconds : ℕ) → seconds ≤ half_turn → looked ≤ now → Noted now looked (started now seconds) (deadline_of (now % turn) seconds)
noted-start now looked seconds short before = noted now seconds refl (omega arith) short (omega arith) refl

module _ {now looked : ℕ} {note : Note} {deadline : ℕ} where
  pub noted-later : (later : ℕ) → now ≤ later → Noted now looked note deadline → Noted later looked note deadline
  noted-later later h (noted time seconds is before short behind end) = noted time seconds is (omega arith) short behind end

  -- where it is due, its seconds have passed
  pub noted-early : Noted now looked note deadline → due (now % turn) deadline ≡ true → Passed note now
  noted-early (noted time seconds is before short behind end) t =
      record { time = time; seconds = seconds; noted = is; passed = never-early time seconds now before short (ap (due (now % turn)) (sym end) ∙ t) }

  -- and where they have passed it is due, unless the last look is too long ago
  pub noted-due : now < looked + half_turn → Noted now looked note deadline → Passed note now → due (now % turn) deadline ≡ true
  noted-due soon (noted time seconds is before short behind end) passed =
      let same : started passed.time passed.seconds ≡ started time seconds = sym passed.noted ∙ is in
      let t : passed.time ≡ time = cc in
      let s : passed.seconds ≡ seconds = cc in
      ap (due (now % turn)) end ∙ due-in-time time seconds now (omega (arith, passed.passed, t, s)) (omega (arith, soon, behind))

  -- a look at which it is not due
  pub noted-looked : now < looked + half_turn → due (now % turn) deadline ≡ false → Noted now looked note deadline → Noted now now note deadline
  noted-looked soon none (noted time seconds is before short behind end) = noted time seconds is before short (to (ltb now (time + seconds)) refl) end
    where
      to : (b : Bool) → ltb now (time + seconds) ≡ b → now ≤ time + seconds
      to true e = omega (arith, ltb-true now (time + seconds) e)
      to false e =
          let is-due = due-in-time time seconds now (ltb-false now (time + seconds) e) (omega (arith, soon, behind)) in
          absurd (false≢true (sym none ∙ ap (due (now % turn)) end ∙ is-due))
