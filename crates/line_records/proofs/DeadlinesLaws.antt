-- The word of the guard's deadline is a word of the desk, and neither a record nor a line nor a setting depends on it.
use Rattle.std.specs.Prelude.{Option, Some, None}
use Prim.Native.Nat.{ℕ, ◌+◌, ◌*◌, ◌%◌, ◌≤◌, ◌<◌}
use mathlib.Core.Path.{◌≡◌, refl, sym, ◌∙◌, ap}
use mathlib.Core.List.{List, [], ◌∷◌, ◌++◌, map}
use lib.ListN.{length, get_or, take, drop, set, length-set}
use lib.Seq.{set-get_or, take_at, length-take-le, get_or-take, get_or-drop}
use lib.Dec.{ltb}
use native.Mathlib.Omega.{arith}
use borrow.Author.Tests.{ltb-true}
use Rattle.lists.specs.Parts.{over}
use Rattle.lists.proofs.Choice.{pick_elim}
use Rattle.clock.specs.Clock.{turn}
use Rattle.desk.specs.Outcome.{no_timers}
use Rattle.desk.specs.declared.outcome.Timers.{Timers}
use Rattle.store.specs.Rows.{rows, turn_row}
use Rattle.store.proofs.RowsLaws.{set-turn, over-behind}
use Rattle.store.proofs.Decoded.{decoded_turn, decoded_at, decoded_past}
use Rattle.line_records.specs.Layout as Layout
use Rattle.line_records.specs.Records.{record_of, records}
use Rattle.line_records.specs.Lines.{lines, keeps, retains}
use Rattle.line_records.specs.Deadlines.{guard_of, guards, started_at, timed}
use Rattle.line_records.proofs.RecordsLaws.{record-before, record-front}
use Rattle.line_records.proofs.LinesLaws.{lines_same, keeps_same, retains-same, settings-behind}

-- ---- the deadline of a place
pub guard-front : (row : List ℕ) → guard_of (take Layout.width row) ≡ guard_of row
unfolding guard_of
guard-front row = rw (get_or-take Layout.width row Layout.guard_at 0 (omega arith))

pub guard-at : (words : List ℕ) (i : ℕ) → i < Layout.places → get_or (guards words) i 0 ≡ get_or words (i * Layout.width + Layout.guard_at) 0 % turn
unfolding guards guard_of
guard-at words i h =
    decoded_at Layout.width Layout.places guard_of guard-front words i h
    ∙ ap (λ (n : ℕ). n % turn) (get_or-drop (i * Layout.width) words Layout.guard_at 0)

pub guard-past : (words : List ℕ) (i : ℕ) → Layout.places ≤ i → get_or (guards words) i 0 ≡ 0
unfolding guards guard_of
guard-past words i h = decoded_past Layout.width Layout.places guard_of words i h

-- ---- a deadline put anew: a word of its row, behind all that a record reads, and before the lines
module _ (x : ℕ) where
  unread : (row : List ℕ) → Layout.width ≤ length row → record_of (take Layout.guard_at row ++ over (x ∷ []) (drop Layout.guard_at row)) ≡ record_of row
  unread row long =
      sym (record-before Layout.guard_at (take Layout.guard_at row ++ over (x ∷ []) (drop Layout.guard_at row)) (omega arith))
      ∙ ap record_of (take_at (take Layout.guard_at row) (over (x ∷ []) (drop Layout.guard_at row)) Layout.guard_at (length-take-le Layout.guard_at row (omega arith)))
      ∙ record-before Layout.guard_at row (omega arith)

  module _ (words : List ℕ) (i : ℕ) (l : length words ≡ Layout.words) (h : i < Layout.places) where
    as-turn : set words (i * Layout.width + Layout.guard_at) x ≡ turn_row Layout.width words i Layout.guard_at (x ∷ [])
    as-turn = set-turn Layout.width words i Layout.guard_at x (omega arith)

    set-records : records (set words (i * Layout.width + Layout.guard_at) x) ≡ records words
    unfolding records
    set-records =
        ap (λ (v : List ℕ). map record_of (rows Layout.width Layout.places v)) as-turn
        ∙ decoded_turn Layout.width Layout.places record_of Layout.guard_at (x ∷ []) (λ r. r) unread record-front words i (omega arith) h (omega arith)
        ∙ set-get_or (map record_of (rows Layout.width Layout.places words)) i (record_of [])

    set-behind : drop Layout.lines_at (set words (i * Layout.width + Layout.guard_at) x) ≡ drop Layout.lines_at words
    unfolding turn_row
    set-behind =
        ap (drop Layout.lines_at) as-turn ∙ over-behind Layout.lines_at (i * Layout.width + Layout.guard_at) (x ∷ []) words (omega arith) (omega arith)

started-records : (count i : ℕ) (words : List ℕ) → length words ≡ Layout.words → records (started_at count i words) ≡ records words
unfolding started_at
started-records count i words l =
    pick_elim (λ (v : List ℕ). records v ≡ records words) (ltb i Layout.places) (λ t. set-records _ words i l (ltb-true i Layout.places t)) (λ f. refl)

started-behind : (count i : ℕ) (words : List ℕ) → length words ≡ Layout.words → drop Layout.lines_at (started_at count i words) ≡ drop Layout.lines_at words
unfolding started_at
started-behind count i words l =
    pick_elim (λ (v : List ℕ). drop Layout.lines_at v ≡ drop Layout.lines_at words) (ltb i Layout.places)
    (λ t. set-behind _ words i l (ltb-true i Layout.places t))
    (λ f. refl)

started-length : (count i : ℕ) (words : List ℕ) → length (started_at count i words) ≡ length words
unfolding started_at
started-length count i words = pick_elim (λ (v : List ℕ). length v ≡ length words) (ltb i Layout.places) (λ t. length-set words _ _) (λ f. refl)

-- ---- what a step starts leaves every record, every line and the settings as they are, and as many words
pub timed-length : (words : List ℕ) (count : ℕ) (at : Option ℕ) (starts : Timers) → length (timed count at starts words) ≡ length words
unfolding timed
timed-length words count None starts = refl
timed-length words count (Some i) starts =
    pick_elim (λ (v : List ℕ). length v ≡ length words) starts.guard (λ t. started-length count i words) (λ f. refl)

pub records-timed : (words : List ℕ) → length words ≡ Layout.words → (count : ℕ) (at : Option ℕ) (starts : Timers) → records (timed count at starts words) ≡ records words
unfolding timed
records-timed words l count None starts = refl
records-timed words l count (Some i) starts =
    pick_elim (λ (v : List ℕ). records v ≡ records words) starts.guard (λ t. started-records count i words l) (λ f. refl)

timed-behind :
    (words : List ℕ) → length words ≡ Layout.words → (count : ℕ) (at : Option ℕ) (starts : Timers) →
    drop Layout.lines_at (timed count at starts words) ≡ drop Layout.lines_at words
unfolding timed
timed-behind words l count None starts = refl
timed-behind words l count (Some i) starts =
    pick_elim (λ (v : List ℕ). drop Layout.lines_at v ≡ drop Layout.lines_at words) starts.guard (λ t. started-behind count i words l) (λ f. refl)

module _ (words : List ℕ) (l : length words ≡ Layout.words) (count : ℕ) (at : Option ℕ) (starts : Timers) where
  abbrev after : List ℕ
  after = timed count at starts words

  pub lines-timed : lines after ≡ lines words
  lines-timed = lines_same after words (timed-behind words l count at starts)

  settings-timed : drop Layout.keeps_at after ≡ drop Layout.keeps_at words
  settings-timed = settings-behind after words (timed-behind words l count at starts)

  pub keeps-timed : keeps after ≡ keeps words
  keeps-timed = keeps_same after words settings-timed

  pub retains-timed : retains after ≡ retains words
  retains-timed = retains-same after words settings-timed

-- a step that starts nothing leaves every word
pub timed-none : (words : List ℕ) (count : ℕ) (at : Option ℕ) → timed count at no_timers words ≡ words
unfolding timed
timed-none words count None = refl
timed-none words count (Some i) = refl
