-- The deadlines of a record go with it: what puts or turns a record leaves every deadline at its place, a removal moves those behind it up, and a start puts its own.
use Rattle.std.specs.Prelude.{Option, Some, None}
use Prim.Native.Nat.{ℕ, ◌+◌, ◌*◌, ◌%◌, ◌≤◌, ◌<◌}
use mathlib.Core.Path.{◌≡◌, refl, sym, ◌∙◌, ap}
use mathlib.Core.Bool.{Bool, true, false}
use mathlib.Core.List.{List, [], ◌∷◌, ◌++◌, map}
use lib.ListN.{length, get_or, take, drop, set}
use lib.Seq.{get_or-drop, get_or-take, set-get_or, set_out, take_at, length-take-le}
use lib.Dec.{ltb}
use native.Mathlib.Nat.{mod-lt, mod-eq_of_lt}
use native.Mathlib.Omega.{arith}
use borrow.Author.Tests.{ltb-true, ltb-false}
use Rattle.lists.specs.Choice.{pick}
use Rattle.lists.specs.Lists.{without}
use Rattle.lists.specs.Parts.{over}
use Rattle.lists.proofs.Choice.{pick_elim}
use Rattle.lists.proofs.Lists.{without-past}
use Rattle.clock.specs.Clock.{turn, deadline_of}
use Rattle.message.specs.declared.Kind.{Kind}
use Rattle.message.specs.declared.Kind.TheVariants.{Ccbs, Ccnr}
use Rattle.desk.specs.declared.outcome.Timers.{Timers}
use Rattle.terms.specs.Terms.{choices_at}
use Rattle.terms.proofs.TermsLaws.{word-from}
use Rattle.store.specs.Rows.{rows, turn_row, blank_row, removed_row}
use Rattle.store.proofs.RowsLaws.{put-turn, set-turn, over-behind}
use Rattle.store.proofs.Decoded.{decoded_length, decoded_turn, decoded_drop}
use Rattle.clerk_table.specs.declared.table.Timer.{Timer}
use Rattle.clerk_table.specs.declared.table.Timer.TheVariants.{T1, T2, T3}
use Rattle.clerk_table.specs.declared.record.Record.{Record}
use Rattle.clerk_table.specs.declared.record.Change.{Change}
use Rattle.clerk_table.specs.declared.record.Change.TheVariants.{Stay, Put, Turn, Remove}
use Rattle.clerk_records.specs.Layout.{width, places, deadlines_at, lengths_at, words}
use Rattle.clerk_records.specs.Records.{record_words, turned_words, blank, records, applied}
use Rattle.clerk_records.specs.Deadlines.{deadline_at, deadlines_of, deadlines, no_deadlines, length_of, new_deadline, started_at, started_if, timed, deadlines_after, with_deadline, deadlines_if, deadlines_started}
use Rattle.clerk_records.specs.declared.deadlines.Deadlines.{Deadlines}
use Rattle.clerk_records.proofs.RecordsLaws.{rows-room}
use Rattle.clerk_records.proofs.DeadlinesLaws.{deadline-below, deadlines-front, if-length, if-records}

pub deadlines-length : (ws : List ℕ) → length (deadlines ws) ≡ places
unfolding deadlines
deadlines-length ws = decoded_length width places deadlines_of ws

-- ---- words of a row put anew
-- before the deadlines
row-behind :
    (from : ℕ) (new row : List ℕ) → from + length new ≤ deadlines_at → width ≤ length row → deadlines_of (take from row ++ over new (drop from row)) ≡ deadlines_of row
unfolding deadlines_of
row-behind from new row h long =
    let all = take from row ++ over new (drop from row) in
    let same : (k : ℕ) → get_or all (deadlines_at + k) 0 ≡ get_or row (deadlines_at + k) 0 =
    λ k. sym (get_or-drop deadlines_at all k 0) ∙ ap (λ (t : List ℕ). get_or t k 0) (over-behind deadlines_at from new row h (omega arith)) ∙ get_or-drop deadlines_at row k 0 in
    rw (same 0, same 1)

deadlines-turn :
    (ws : List ℕ) (i from : ℕ) (new : List ℕ) → from + length new ≤ deadlines_at → i < places → length ws ≡ words →
    deadlines (turn_row width ws i from new) ≡ deadlines ws
unfolding deadlines
deadlines-turn ws i from new before h l =
    decoded_turn width places deadlines_of from new (λ d. d) (λ row long. row-behind from new row before long) deadlines-front ws i (omega arith) h (omega arith)
    ∙ set-get_or (map deadlines_of (rows width places ws)) i (deadlines_of [])

-- ---- a record removed
blank-deadlines : deadlines_of (blank_row width) ≡ deadlines_of []
unfolding deadlines_of
blank-deadlines = refl

removed-deadlines : (ws : List ℕ) (i : ℕ) → length ws ≡ words → deadlines (removed_row width places ws i) ≡ without no_deadlines (deadlines ws) i
unfolding removed_row deadlines
removed-deadlines ws i l =
    rw (rows-room ws (omega arith))
    (pick_elim (λ (x : List ℕ). deadlines x ≡ without no_deadlines (deadlines ws) i) (ltb i places)
    (λ t. decoded_drop width places deadlines_of blank-deadlines ws i (ltb-true i places t) (omega arith))
    (λ f. sym (without-past no_deadlines (deadlines ws) i (omega (arith, deadlines-length ws, ltb-false i places f)))))

-- ---- every change
pub deadlines-applied : (ws : List ℕ) → length ws ≡ words → (change : Change) → deadlines (applied ws change) ≡ deadlines_after (deadlines ws) change
unfolding applied
deadlines-applied ws l Stay = refl
deadlines-applied ws l (Put i r) =
    pick_elim (λ (x : List ℕ). deadlines x ≡ deadlines ws) (ltb i places)
    (λ t. ap deadlines (put-turn width ws i (record_words r)) ∙ deadlines-turn ws i 0 (record_words r) (omega arith) (ltb-true i places t) l)
    (λ f. refl)
deadlines-applied ws l (Turn i turn) =
    pick_elim (λ (x : List ℕ). deadlines x ≡ deadlines ws) (ltb i places)
    (λ t. deadlines-turn ws i choices_at (turned_words turn) (omega arith) (ltb-true i places t) l)
    (λ f. refl)
deadlines-applied ws l (Remove i) = removed-deadlines ws i l

-- ---- a timer started
deadline-whole : (count seconds : ℕ) → deadline_of count seconds % turn ≡ deadline_of count seconds
unfolding deadline_of
deadline-whole count seconds = mod-eq_of_lt (mod-lt (count + seconds) (omega arith))

module _ (x : ℕ) (row : List ℕ) (long : width ≤ length row) where
  -- with a word put anew there, from that word on
  abbrev new : ℕ → List ℕ
  new from = take from row ++ over (x ∷ []) (drop from row)

  here : (from : ℕ) → from < width → get_or (new from) from 0 ≡ x
  here from h =
      let at : from ≡ from + 0 = omega arith in
      ap (λ (k : ℕ). get_or (new from) k 0) at ∙ word-from from row (over (x ∷ []) (drop from row)) (omega arith) 0

  after : get_or (new deadlines_at) (deadlines_at + 1) 0 ≡ get_or row (deadlines_at + 1) 0
  after =
      sym (get_or-drop (deadlines_at + 1) (new deadlines_at) 0 0)
      ∙ ap (λ (t : List ℕ). get_or t 0 0) (over-behind (deadlines_at + 1) deadlines_at (x ∷ []) row (omega arith) (omega arith))
      ∙ get_or-drop (deadlines_at + 1) row 0 0

  before : get_or (new (deadlines_at + 1)) deadlines_at 0 ≡ get_or row deadlines_at 0
  before =
      let from : ℕ = deadlines_at + 1 in
      sym (get_or-take from (new from) deadlines_at 0 (omega arith))
      ∙ ap (λ (t : List ℕ). get_or t deadlines_at 0) (take_at (take from row) (over (x ∷ []) (drop from row)) from (length-take-le from row (omega arith)))
      ∙ get_or-take from row deadlines_at 0 (omega arith)

  row_new : (timer : Timer) → deadlines_of (new (deadline_at timer)) ≡ with_deadline timer (x % turn) (deadlines_of row)
  unfolding deadlines_of
  row_new T1 = rw (here deadlines_at (omega arith), after)
  row_new T2 = rw (here deadlines_at (omega arith), after)
  row_new T3 = rw (here (deadlines_at + 1) (omega arith), before)

started-deadlines :
    (ws : List ℕ) → length ws ≡ words → (count i : ℕ) (timer : Timer) →
    deadlines (started_at count i timer ws) ≡ set (deadlines ws) i (with_deadline timer (new_deadline count i timer ws) (get_or (deadlines ws) i no_deadlines))
unfolding started_at deadlines
started-deadlines ws l count i timer =
    let x = new_deadline count i timer ws in
    let d = with_deadline timer x (get_or (deadlines ws) i no_deadlines) in
    pick_elim (λ (v : List ℕ). deadlines v ≡ set (deadlines ws) i d) (ltb i places)
    (λ t.
    let h = ltb-true i places t in
    let below : i * width + width ≤ places * width = omega (arith, h) in
    ap deadlines (set-turn width ws i (deadline_at timer) x (omega (arith, below, (deadline-below timer).1)))
    ∙ decoded_turn width places deadlines_of (deadline_at timer) (x ∷ []) (with_deadline timer x)
    (λ row long. row_new x row long timer ∙ ap (λ (n : ℕ). with_deadline timer n (deadlines_of row)) (deadline-whole count _))
    deadlines-front ws i (omega (arith, (deadline-below timer).1)) h (omega arith))
    (λ f. sym (set_out (deadlines ws) i d (omega (arith, deadlines-length ws, ltb-false i places f))))

if-deadlines :
    (ws : List ℕ) → length ws ≡ words → (starts : Bool) (count i : ℕ) (timer : Timer) →
    deadlines (started_if starts count i timer ws) ≡ deadlines_if starts count i timer ws (deadlines ws)
if-deadlines ws l true count i timer = started-deadlines ws l count i timer
if-deadlines ws l false count i timer = refl

-- ---- the lengths stand behind the records
length-same : (a b : List ℕ) → drop lengths_at a ≡ drop lengths_at b → (timer : Timer) (kind : Kind) → length_of a timer kind ≡ length_of b timer kind
length-same a b e timer kind = by timer kind
  where
    word : (k : ℕ) → get_or a (lengths_at + k) 0 % turn ≡ get_or b (lengths_at + k) 0 % turn
    word k = ap (λ (n : ℕ). n % turn) (sym (get_or-drop lengths_at a k 0) ∙ ap (λ (t : List ℕ). get_or t k 0) e ∙ get_or-drop lengths_at b k 0)

    by : (timer : Timer) (kind : Kind) → length_of a timer kind ≡ length_of b timer kind
    by T1 kind = word 0
    by T2 Ccbs = word 1
    by T2 Ccnr = word 2
    by T3 kind = word 3

started-behind : (ws : List ℕ) → length ws ≡ words → (count i : ℕ) (timer : Timer) → drop lengths_at (started_at count i timer ws) ≡ drop lengths_at ws
unfolding started_at turn_row
started-behind ws l count i timer =
    pick_elim (λ (v : List ℕ). drop lengths_at v ≡ drop lengths_at ws) (ltb i places)
    (λ t.
    let below : i * width + width ≤ places * width = omega (arith, ltb-true i places t) in
    let at : ℕ = i * width + deadline_at timer in
    let high = (deadline-below timer).1 in
    ap (drop lengths_at) (set-turn width ws i (deadline_at timer) (new_deadline count i timer ws) (omega (arith, below, high)))
    ∙ over-behind lengths_at at (new_deadline count i timer ws ∷ []) ws (omega (arith, below, high)) (omega (arith, below, high)))
    (λ f. refl)

pub if-behind :
    (ws : List ℕ) → length ws ≡ words → (starts : Bool) (count i : ℕ) (timer : Timer) → drop lengths_at (started_if starts count i timer ws) ≡ drop lengths_at ws
if-behind ws l true count i timer = started-behind ws l count i timer
if-behind ws l false count i timer = refl

-- a start by words of the same records and lengths
if-same :
    (a b : List ℕ) → records a ≡ records b → drop lengths_at a ≡ drop lengths_at b → (starts : Bool) (count i : ℕ) (timer : Timer) (ds : List Deadlines) →
    deadlines_if starts count i timer a ds ≡ deadlines_if starts count i timer b ds
if-same a b r e starts count i timer ds =
    ap (λ (x : ℕ). pick starts (set ds i (with_deadline timer x (get_or ds i no_deadlines))) ds)
    (ap (λ (rs : List Record). deadline_of count (length_of a timer (get_or rs i blank).terms.kind)) r
    ∙ ap (deadline_of count) (length-same a b e timer (get_or (records b) i blank).terms.kind))

pub deadlines-timed :
    (ws : List ℕ) → length ws ≡ words → (count : ℕ) (at : Option ℕ) (starts : Timers) → deadlines (timed count at starts ws) ≡ deadlines_started count at starts ws (deadlines ws)
unfolding timed
deadlines-timed ws l count None starts = refl
deadlines-timed ws l count (Some i) starts =
    let one = started_if starts.t1 count i T1 ws in
    let two = started_if starts.t2 count i T2 one in
    let l1 : length one ≡ words = if-length ws starts.t1 count i T1 ∙ l in
    let l2 : length two ≡ words = if-length one starts.t2 count i T2 ∙ l1 in
    let r1 = if-records ws l starts.t1 count i T1 in
    let r2 = if-records one l1 starts.t2 count i T2 ∙ r1 in
    let b1 = if-behind ws l starts.t1 count i T1 in
    let b2 = if-behind one l1 starts.t2 count i T2 ∙ b1 in
    if-deadlines two l2 starts.t3 count i T3
    ∙ if-same two ws r2 b2 starts.t3 count i T3 (deadlines two)
    ∙ ap (λ (ds : List Deadlines). deadlines_if starts.t3 count i T3 ws ds)
    (if-deadlines one l1 starts.t2 count i T2
    ∙ if-same one ws r1 b1 starts.t2 count i T2 (deadlines one)
    ∙ ap (λ (ds : List Deadlines). deadlines_if starts.t2 count i T2 ws ds) (if-deadlines ws l starts.t1 count i T1))
