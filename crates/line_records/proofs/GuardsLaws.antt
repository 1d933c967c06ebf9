-- The deadline of a guard goes with its record: what puts, turns or marks a record leaves every deadline at its place, a removal moves those behind it up, and a start puts one.
use Rattle.std.specs.Prelude.{Option, Some, None}
use Prim.Native.Nat.{ℕ, zero, suc, ◌+◌, ◌%◌, ◌≤◌, ◌<◌}
use mathlib.Core.Path.{◌≡◌, refl, sym, ◌∙◌, ap}
use mathlib.Core.Bool.{Bool, true, false}
use mathlib.Core.List.{List, [], ◌∷◌, ◌++◌, map}
use lib.ListN.{length, get_or, take, drop, set}
use lib.Seq.{get_or-drop, set-get_or, set_out}
use lib.Dec.{ltb}
use native.Mathlib.Nat.{mod-lt, mod-eq_of_lt}
use native.Mathlib.Omega.{arith}
use borrow.Author.Tests.{ltb-true, ltb-false}
use Rattle.lists.specs.Choice.{pick}
use Rattle.lists.specs.Lists.{without}
use Rattle.lists.specs.Parts.{over}
use Rattle.lists.specs.declared.words.Words.{Words}
use Rattle.lists.proofs.Choice.{pick_elim}
use Rattle.lists.proofs.Lists.{without-past}
use Rattle.clock.specs.Clock.{turn, deadline_of}
use Rattle.desk.specs.declared.outcome.Timers.{Timers}
use Rattle.terms.specs.Terms.{kind_at}
use Rattle.terms.proofs.TermsLaws.{word-from}
use Rattle.store.specs.Rows.{rows, turn_row, blank_row}
use Rattle.store.proofs.RowsLaws.{put-turn, set-turn, over-behind}
use Rattle.store.proofs.Decoded.{decoded_length, decoded_turn, decoded_drop}
use Rattle.line_table.specs.Line.{with_status}
use Rattle.line_table.specs.Record.{activity}
use Rattle.line_table.specs.Search.{marks}
use Rattle.line_table.specs.declared.record.Record.{Record}
use Rattle.line_table.specs.declared.record.Turned.{Turned}
use Rattle.line_table.specs.declared.record.Change.{Change}
use Rattle.line_table.specs.declared.record.Change.TheVariants.{Stay, Put, Turn, Remove, Report}
use Rattle.line_records.specs.Layout as Layout
use Rattle.line_records.specs.Records.{record_words, turned_words, blank, records, put_record, turn_record, removed}
use Rattle.line_records.specs.Lines.{no_line, lines, put_line}
use Rattle.line_records.specs.Change.{mark_place, marked, status_stored, with_report, applied}
use Rattle.line_records.specs.Deadlines.{guard_of, guards, guard_length, started_at, timed, guards_after, guards_started}
use Rattle.line_records.proofs.LinesLaws.{rows_same, over_line-front}
use Rattle.line_records.proofs.ChangeLaws.{status-length, marked-length}
use Rattle.line_records.proofs.DeadlinesLaws.{guard-front}

guards-length : (words : List ℕ) → length (guards words) ≡ Layout.places
unfolding guards
guards-length words = decoded_length Layout.width Layout.places guard_of words

-- ---- words of a row put anew
-- before the deadline
guard-behind :
    (from : ℕ) (new row : List ℕ) → from + length new ≤ Layout.guard_at → Layout.width ≤ length row →
    guard_of (take from row ++ over new (drop from row)) ≡ guard_of row
unfolding guard_of
guard-behind from new row h long =
    let all = take from row ++ over new (drop from row) in
    ap (λ (n : ℕ). n % turn)
    (sym (get_or-drop Layout.guard_at all 0 0)
    ∙ ap (λ (t : List ℕ). get_or t 0 0) (over-behind Layout.guard_at from new row h (omega arith))
    ∙ get_or-drop Layout.guard_at row 0 0)

guards-turn :
    (words : List ℕ) (i from : ℕ) (new : List ℕ) → from + length new ≤ Layout.guard_at → i < Layout.places → length words ≡ Layout.words →
    guards (turn_row Layout.width words i from new) ≡ guards words
unfolding guards
guards-turn words i from new before h l =
    decoded_turn Layout.width Layout.places guard_of from new (λ g. g) (λ row long. guard-behind from new row before long) guard-front words i (omega arith) h (omega arith)
    ∙ set-get_or (map guard_of (rows Layout.width Layout.places words)) i (guard_of [])

put-guards : (words : List ℕ) (i : ℕ) (r : Record) → length words ≡ Layout.words → guards (put_record words i r) ≡ guards words
unfolding put_record
put-guards words i r l =
    pick_elim (λ (v : List ℕ). guards v ≡ guards words) (ltb i Layout.places)
    (λ t. ap guards (put-turn Layout.width words i (record_words r)) ∙ guards-turn words i 0 (record_words r) (omega arith) (ltb-true i Layout.places t) l)
    (λ f. refl)

turn-guards : (words : List ℕ) (i : ℕ) (turn : Turned) → length words ≡ Layout.words → guards (turn_record words i turn) ≡ guards words
unfolding turn_record
turn-guards words i turn l =
    pick_elim (λ (v : List ℕ). guards v ≡ guards words) (ltb i Layout.places)
    (λ t. guards-turn words i kind_at (turned_words turn) (omega arith) (ltb-true i Layout.places t) l)
    (λ f. refl)

-- ---- a record removed
blank-guard : guard_of (blank_row Layout.width) ≡ guard_of []
unfolding guard_of
blank-guard = refl

removed-guards : (words : List ℕ) (i : ℕ) → length words ≡ Layout.words → guards (removed words i) ≡ without 0 (guards words) i
unfolding removed guards guard_of
removed-guards words i l =
    pick_elim (λ (v : List ℕ). guards v ≡ without 0 (guards words) i) (ltb i Layout.places)
    (λ t. decoded_drop Layout.width Layout.places guard_of blank-guard words i (ltb-true i Layout.places t) (omega arith))
    (λ f. sym (without-past 0 (guards words) i (omega (arith, guards-length words, ltb-false i Layout.places f))))

-- ---- a line reported
status-guards : (words : List ℕ) (k : ℕ) (busy : Bool) → length words ≡ Layout.words → guards (status_stored words k busy) ≡ guards words
unfolding status_stored put_line guards
status-guards words k busy l =
    let line = with_status (get_or (lines words) k no_line) busy in
    pick_elim (λ (v : List ℕ). guards v ≡ guards words) (ltb k Layout.line_places)
    (λ t. ap (map guard_of) (rows_same _ words (over_line-front words k line (ltb-true k Layout.line_places t) l)))
    (λ f. refl)

place-guards : (number : Words) (i : ℕ) (words : List ℕ) → length words ≡ Layout.words → guards (mark_place number i words) ≡ guards words
unfolding mark_place
place-guards number i words l =
    let r = get_or (records words) i blank in
    pick_elim (λ (v : List ℕ). guards v ≡ guards words) (marks number r) (λ t. turn-guards words i (activity r) l) (λ f. refl)

marked-guards : (number : Words) (n : ℕ) (words : List ℕ) → length words ≡ Layout.words → guards (marked number n words) ≡ guards words
unfolding marked
marked-guards number zero words l = refl
marked-guards number (suc n) words l =
    place-guards number n (marked number n words) (marked-length number n words l ∙ l) ∙ marked-guards number n words l

-- ---- every change
pub guards-applied : (words : List ℕ) (change : Change) → length words ≡ Layout.words → guards (applied words change) ≡ guards_after (guards words) change
unfolding applied with_report
guards-applied words Stay l = refl
guards-applied words (Put i r) l = put-guards words i r l
guards-applied words (Turn turn i) l = turn-guards words i turn l
guards-applied words (Remove i) l = removed-guards words i l
guards-applied words (Report k number true) l =
    marked-guards number Layout.places (status_stored words k true) (status-length words k true l ∙ l) ∙ status-guards words k true l
guards-applied words (Report k number false) l = status-guards words k false l

-- ---- a guard started
deadline-whole : (count seconds : ℕ) → deadline_of count seconds % turn ≡ deadline_of count seconds
unfolding deadline_of
deadline-whole count seconds = mod-eq_of_lt (mod-lt (count + seconds) (omega arith))

guard-new :
    (x : ℕ) (row : List ℕ) → Layout.width ≤ length row → guard_of (take Layout.guard_at row ++ over (x ∷ []) (drop Layout.guard_at row)) ≡ x % turn
unfolding guard_of
guard-new x row long = ap (λ (n : ℕ). n % turn) (word-from Layout.guard_at row (over (x ∷ []) (drop Layout.guard_at row)) (omega arith) 0)

started-guards :
    (count i : ℕ) (words : List ℕ) → length words ≡ Layout.words →
    guards (started_at count i words) ≡ set (guards words) i (deadline_of count (guard_length (get_or (records words) i blank).terms.kind))
unfolding started_at guards
started-guards count i words l =
    let x = deadline_of count (guard_length (get_or (records words) i blank).terms.kind) in
    let now = map guard_of (rows Layout.width Layout.places words) in
    pick_elim (λ (v : List ℕ). guards v ≡ set (guards words) i x) (ltb i Layout.places)
    (λ t.
    let h = ltb-true i Layout.places t in
    ap guards (set-turn Layout.width words i Layout.guard_at x (omega arith))
    ∙ decoded_turn Layout.width Layout.places guard_of Layout.guard_at (x ∷ []) (λ g. x)
    (λ row long. guard-new x row long ∙ deadline-whole count (guard_length (get_or (records words) i blank).terms.kind)) guard-front words i (omega arith) h (omega arith))
    (λ f. sym (set_out (guards words) i x (omega (arith, guards-length words, ltb-false i Layout.places f))))

pub guards-timed :
    (words : List ℕ) → length words ≡ Layout.words → (count : ℕ) (at : Option ℕ) (starts : Timers) →
    guards (timed count at starts words) ≡ guards_started count at starts (records words) (guards words)
unfolding timed
guards-timed words l count None starts = refl
guards-timed words l count (Some i) starts =
    let x = deadline_of count (guard_length (get_or (records words) i blank).terms.kind) in
    pick_elim (λ (v : List ℕ). guards v ≡ pick starts.guard (set (guards words) i x) (guards words)) starts.guard (λ t. rw t (started-guards count i words l)) (λ f. rw f)
