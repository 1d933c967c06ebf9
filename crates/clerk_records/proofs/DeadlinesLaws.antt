-- The words of the deadlines and of the lengths are words of the desk, and what a record is does not depend on them.
use Rattle.std.specs.Prelude.{Option, Some, None}
use Prim.Native.Nat.{ℕ, ◌+◌, ◌*◌, ◌%◌, ◌≤◌, ◌<◌}
use mathlib.Core.Path.{◌≡◌, refl, sym, ◌∙◌, ap}
use mathlib.Core.Bool.{Bool, true, false}
use mathlib.Core.List.{List, [], ◌∷◌, ◌++◌, map}
use lib.ListN.{length, get_or, take, drop, set, length-set}
use lib.Seq.{set-get_or, take_at, length-take-le, get_or-take, get_or-drop}
use lib.Dec.{ltb}
use native.Mathlib.Omega.{arith}
use borrow.Author.Tests.{ltb-true}
use Rattle.lists.specs.Parts.{over}
use Rattle.lists.proofs.Choice.{pick_elim}
use Rattle.clock.specs.Clock.{turn}
use Rattle.message.specs.declared.Kind.{Kind}
use Rattle.message.specs.declared.Kind.TheVariants.{Ccbs, Ccnr}
use Rattle.desk.specs.Outcome.{no_timers}
use Rattle.desk.specs.declared.outcome.Timers.{Timers}
use Rattle.store.specs.Rows.{rows}
use Rattle.store.proofs.RowsLaws.{set-turn}
use Rattle.store.proofs.Decoded.{decoded_turn, decoded_at, decoded_past}
use Rattle.clerk_table.specs.declared.table.Timer.{Timer}
use Rattle.clerk_table.specs.declared.table.Timer.TheVariants.{T1, T2, T3}
use Rattle.clerk_records.specs.Layout.{width, places, deadlines_at, words}
use Rattle.clerk_records.specs.Records.{record_of, records}
use Rattle.clerk_records.specs.Deadlines.{deadline_at, deadlines_of, deadlines, no_deadlines, length_at, started_at, started_if, timed, deadline_in}
use Rattle.clerk_records.specs.declared.deadlines.Deadlines.{Deadlines}
use Rattle.clerk_records.proofs.RecordsLaws.{record-before, record-front}

pub deadline-below : (timer : Timer) → (deadlines_at ≤ deadline_at timer) × (deadline_at timer < width)
deadline-below T1 = (omega arith, omega arith)
deadline-below T2 = (omega arith, omega arith)
deadline-below T3 = (omega arith, omega arith)

pub length-below : (timer : Timer) (kind : Kind) → length_at timer kind < words
length-below T1 kind = omega arith
length-below T2 Ccbs = omega arith
length-below T2 Ccnr = omega arith
length-below T3 kind = omega arith

-- ---- the deadlines of a place
pub deadlines-front : (row : List ℕ) → deadlines_of (take width row) ≡ deadlines_of row
unfolding deadlines_of
deadlines-front row = rw (get_or-take width row deadlines_at 0 (omega arith), get_or-take width row (deadlines_at + 1) 0 (omega arith))

pub in_row : (row : List ℕ) (timer : Timer) → deadline_in (deadlines_of row) timer ≡ get_or row (deadline_at timer) 0 % turn
unfolding deadlines_of
in_row row T1 = refl
in_row row T2 = refl
in_row row T3 = refl

pub deadline-at :
    (ws : List ℕ) (i : ℕ) (timer : Timer) → i < places → deadline_in (get_or (deadlines ws) i no_deadlines) timer ≡ get_or ws (i * width + deadline_at timer) 0 % turn
unfolding deadlines
deadline-at ws i timer h =
    ap (λ (d : Deadlines). deadline_in d timer) (decoded_at width places deadlines_of deadlines-front ws i h)
    ∙ in_row (drop (i * width) ws) timer
    ∙ ap (λ (n : ℕ). n % turn) (get_or-drop (i * width) ws (deadline_at timer) 0)

pub deadline-past : (ws : List ℕ) (i : ℕ) (timer : Timer) → places ≤ i → deadline_in (get_or (deadlines ws) i no_deadlines) timer ≡ 0
unfolding deadlines
deadline-past ws i timer h = ap (λ (d : Deadlines). deadline_in d timer) (decoded_past width places deadlines_of ws i h) ∙ in_row [] timer

-- ---- a deadline put anew: words of its row, behind all that a record reads
-- a word from the deadlines on, and no record reads it
module _ (from x : ℕ) (low : deadlines_at ≤ from) (high : from < width) where
  unread : (row : List ℕ) → width ≤ length row → record_of (take from row ++ over (x ∷ []) (drop from row)) ≡ record_of row
  unread row long =
      sym (record-before from (take from row ++ over (x ∷ []) (drop from row)) low)
      ∙ ap record_of (take_at (take from row) (over (x ∷ []) (drop from row)) from (length-take-le from row (omega arith)))
      ∙ record-before from row low

  pub records-set : (ws : List ℕ) (i : ℕ) → length ws ≡ words → i < places → records (set ws (i * width + from) x) ≡ records ws
  unfolding records
  records-set ws i l h =
      ap (λ (v : List ℕ). map record_of (rows width places v)) (set-turn width ws i from x (omega (arith, below)))
      ∙ decoded_turn width places record_of from (x ∷ []) (λ r. r) unread record-front ws i (omega arith) h (omega arith)
      ∙ set-get_or (map record_of (rows width places ws)) i (record_of [])
    where
      below : i * width + width ≤ places * width
      below = omega arith

started-records : (ws : List ℕ) → length ws ≡ words → (count i : ℕ) (timer : Timer) → records (started_at count i timer ws) ≡ records ws
unfolding started_at
started-records ws l count i timer =
    pick_elim (λ (x : List ℕ). records x ≡ records ws) (ltb i places)
    (λ t. records-set (deadline_at timer) _ (deadline-below timer).0 (deadline-below timer).1 ws i l (ltb-true i places t))
    (λ f. refl)

started-length : (ws : List ℕ) (count i : ℕ) (timer : Timer) → length (started_at count i timer ws) ≡ length ws
unfolding started_at
started-length ws count i timer = pick_elim (λ (x : List ℕ). length x ≡ length ws) (ltb i places) (λ t. length-set ws _ _) (λ f. refl)

pub if-records : (ws : List ℕ) → length ws ≡ words → (starts : Bool) (count i : ℕ) (timer : Timer) → records (started_if starts count i timer ws) ≡ records ws
if-records ws l true count i timer = started-records ws l count i timer
if-records ws l false count i timer = refl

pub if-length : (ws : List ℕ) (starts : Bool) (count i : ℕ) (timer : Timer) → length (started_if starts count i timer ws) ≡ length ws
if-length ws true count i timer = started-length ws count i timer
if-length ws false count i timer = refl

-- ---- what a step starts leaves every record as it is, and as many words
pub timed-length : (ws : List ℕ) (count : ℕ) (at : Option ℕ) (starts : Timers) → length (timed count at starts ws) ≡ length ws
unfolding timed
timed-length ws count None starts = refl
timed-length ws count (Some i) starts =
    if-length _ starts.t3 count i T3 ∙ if-length _ starts.t2 count i T2 ∙ if-length ws starts.t1 count i T1

pub records-timed : (ws : List ℕ) → length ws ≡ words → (count : ℕ) (at : Option ℕ) (starts : Timers) → records (timed count at starts ws) ≡ records ws
unfolding timed
records-timed ws l count None starts = refl
records-timed ws l count (Some i) starts =
    let one = started_if starts.t1 count i T1 ws in
    let two = started_if starts.t2 count i T2 one in
    let l1 : length one ≡ words = if-length ws starts.t1 count i T1 ∙ l in
    let l2 : length two ≡ words = if-length one starts.t2 count i T2 ∙ l1 in
    if-records two l2 starts.t3 count i T3 ∙ if-records one l1 starts.t2 count i T2 ∙ if-records ws l starts.t1 count i T1

-- a step that starts nothing leaves every word
pub timed-none : (ws : List ℕ) (count : ℕ) (at : Option ℕ) → timed count at no_timers ws ≡ ws
unfolding timed
timed-none ws count None = refl
timed-none ws count (Some i) = refl
