-- The laws of a count that wraps: what is added and taken away again is what was there, and over true time a deadline is due exactly when its seconds have passed.
use Rattle.std.proofs.Common.{◌≡◌, ℕ, ◌+◌, ◌-◌, ◌%◌, ◌<◌, ◌≤◌, Bool, true, false, leb, sym, refl, ap, ◌∙◌, le_of_lt, add_assoc, mod-lt, mod-eq_of_lt, add-sub_of_le, add_comm, arith, ltb-true, lt-ltb, leb-false, leb-true}
use native.Mathlib.Nat.{mod-add-mod, add-mod-mod, add-mod_right}
use Rattle.clock.specs.Clock.{turn, half_turn, deadline_of, since, due}
use Rattle.clock.specs.Claims.{NeverEarly, DueInTime}

-- a number below the turn, with a deadline added and taken away again
pub back : (x deadline : ℕ) → x < turn → deadline ≤ turn → since ((x + deadline) % turn) deadline ≡ x
back x deadline hx hd =
    mod-add-mod (x + deadline) turn (turn - deadline)
    ∙ ap (λ (k : ℕ). k % turn) (add_assoc x deadline (turn - deadline) ∙ ap (λ (k : ℕ). x + k) (add-sub_of_le hd))
    ∙ add-mod_right x turn
    ∙ mod-eq_of_lt hx

-- ---- over true time
-- the deadline is the true time of it, modulo 2^32
deadline-true : (started seconds : ℕ) → deadline_of (started % turn) seconds ≡ (started + seconds) % turn
unfolding deadline_of
deadline-true started seconds = mod-add-mod started turn seconds

-- taken from a true time that is so much later, it leaves so much
since-later : (end later : ℕ) → later < turn → since ((end + later) % turn) (end % turn) ≡ later
since-later end later h =
    let same : (end + later) % turn ≡ (later + end % turn) % turn = ap (λ (k : ℕ). k % turn) (add_comm end later) ∙ sym (add-mod-mod later end turn) in
    ap (λ (k : ℕ). since k (end % turn)) same ∙ back later (end % turn) h (le_of_lt (mod-lt end (omega arith)))

-- taken from a true time that is so much earlier, it leaves the rest of the turn
since-earlier : (now left : ℕ) → left < turn → 0 < left → since (now % turn) ((now + left) % turn) ≡ turn - left
since-earlier now left h some =
    let rest : turn - left < turn = omega arith in
    let whole : now % turn ≡ (turn - left + (now + left) % turn) % turn =
    sym
    (add-mod-mod (turn - left) (now + left) turn
    ∙ ap (λ (k : ℕ). k % turn) (omega_sum now left h)
    ∙ add-mod_right now turn) in
    ap (λ (k : ℕ). since k ((now + left) % turn)) whole ∙ back (turn - left) ((now + left) % turn) rest (le_of_lt (mod-lt (now + left) (omega arith)))
  where
    omega_sum : (now left : ℕ) → left < turn → turn - left + (now + left) ≡ now + turn
    omega_sum now left h = omega arith

pub due-in-time : DueInTime
unfolding due
due-in-time started seconds now passed soon =
    let end = started + seconds in
    let later = now - end in
    let whole : end + later ≡ now = omega arith in
    rw (deadline-true started seconds, ← whole, since-later end later (omega arith)) (lt-ltb later half_turn (omega arith))

pub never-early : NeverEarly
unfolding due
never-early started seconds now order short so = by (leb (started + seconds) now) refl
  where
    by : (b : Bool) → leb (started + seconds) now ≡ b → started + seconds ≤ now
    by true e = leb-true (started + seconds) now e
    by false e =
        let left = started + seconds - now in
        let whole : now + left ≡ started + seconds = omega (arith, leb-false (started + seconds) now e) in
        let some : 0 < left = omega (arith, leb-false (started + seconds) now e) in
        let rest : since (now % turn) (deadline_of (started % turn) seconds) ≡ turn - left =
        ap (λ (k : ℕ). since (now % turn) k) (deadline-true started seconds ∙ ap (λ (k : ℕ). k % turn) (sym whole)) ∙ since-earlier now left (omega arith) some in
        absurd (omega (arith, rest, ltb-true (since (now % turn) (deadline_of (started % turn) seconds)) half_turn so))
