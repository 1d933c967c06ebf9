-- What a planned change of the words is for the records, the lines and the settings: each change touches its own and leaves the rest.
use Prim.Native.Nat.{ℕ, zero, suc, ◌≤◌}
use mathlib.Core.Path.{◌≡◌, refl, sym, ◌∙◌, ap}
use mathlib.Core.Bool.{Bool, true, false}
use mathlib.Core.List.{List, map}
use lib.ListN.{length, get_or, drop, set}
use lib.Seq.{set-get_or, set_out}
use lib.Dec.{ltb}
use native.Mathlib.Numerals.{add-one}
use native.Mathlib.Omega.{arith}
use borrow.Author.Tests.{ltb-true, ltb-false}
use Rattle.lists.specs.Choice.{pick}
use Rattle.lists.specs.Lists.{without}
use Rattle.lists.specs.declared.words.Words.{Words}
use Rattle.lists.proofs.Choice.{pick_elim}
use Rattle.lists.proofs.Lists.{without-past, map_from, map-start, map_next, map-done}
use Rattle.line_table.specs.Line.{with_status}
use Rattle.line_table.specs.Record.{turned, activity, activated}
use Rattle.line_table.specs.Search.{marks}
use Rattle.line_table.specs.declared.record.Record.{Record}
use Rattle.line_table.specs.declared.record.Turned.{Turned}
use Rattle.line_table.specs.declared.record.Change.{Change}
use Rattle.line_table.specs.declared.record.Change.TheVariants.{Stay, Put, Turn, Remove, Report}
use Rattle.line_records.specs.Layout as Layout
use Rattle.line_records.specs.Records.{blank, records, put_record, turn_record, removed}
use Rattle.line_records.specs.Lines.{no_line, lines, put_line, keeps, retains}
use Rattle.line_records.specs.Change.{mark_place, marked, status_stored, with_report, applied, marking, records_after, lines_after}
use Rattle.line_records.proofs.RecordsLaws.{records-length, records-put, records-turn, records-drop}
use Rattle.line_records.proofs.LinesLaws.{lines-length, lines_same, keeps_same, retains-same, settings-behind, put_row-length, put_row-behind, turn_row-length, turn_row-behind, drop_row-length, drop_row-behind, over_line-length, over_line-behind, records-over_line, lines-put}

-- ---- one record put, at any place
put-length : (words : List ℕ) (i : ℕ) (r : Record) → length words ≡ Layout.words → length (put_record words i r) ≡ length words
unfolding put_record
put-length words i r l =
    pick_elim (λ (v : List ℕ). length v ≡ length words) (ltb i Layout.places) (λ t. put_row-length words i r (ltb-true i Layout.places t) l) (λ f. refl)

put-behind : (words : List ℕ) (i : ℕ) (r : Record) → length words ≡ Layout.words → drop Layout.lines_at (put_record words i r) ≡ drop Layout.lines_at words
unfolding put_record
put-behind words i r l =
    pick_elim (λ (v : List ℕ). drop Layout.lines_at v ≡ drop Layout.lines_at words) (ltb i Layout.places) (λ t. put_row-behind words i r (ltb-true i Layout.places t) l) (λ f. refl)

put-records : (words : List ℕ) (i : ℕ) (r : Record) → length words ≡ Layout.words → records (put_record words i r) ≡ set (records words) i r
unfolding put_record
put-records words i r l =
    pick_elim (λ (v : List ℕ). records v ≡ set (records words) i r) (ltb i Layout.places)
    (λ t. records-put words i r (ltb-true i Layout.places t) (omega arith))
    (λ f. sym (set_out (records words) i r (omega (arith, records-length words, ltb-false i Layout.places f))))

-- ---- one record turned, at any place
module _ (words : List ℕ) (i : ℕ) (turn : Turned) (l : length words ≡ Layout.words) where
  abbrev after : List ℕ
  after = turn_record words i turn

  turn-length : length after ≡ length words
  unfolding turn_record
  turn-length =
      pick_elim (λ (v : List ℕ). length v ≡ length words) (ltb i Layout.places) (λ t. turn_row-length words i turn (ltb-true i Layout.places t) l) (λ f. refl)

  turn-behind : drop Layout.lines_at after ≡ drop Layout.lines_at words
  unfolding turn_record
  turn-behind =
      pick_elim (λ (v : List ℕ). drop Layout.lines_at v ≡ drop Layout.lines_at words) (ltb i Layout.places) (λ t. turn_row-behind words i turn (ltb-true i Layout.places t) l) (λ f. refl)

  turn-records : records after ≡ set (records words) i (turned turn (get_or (records words) i blank))
  unfolding turn_record
  turn-records =
      let r = turned turn (get_or (records words) i blank) in
      pick_elim (λ (v : List ℕ). records v ≡ set (records words) i r) (ltb i Layout.places)
      (λ t. records-turn words i turn (ltb-true i Layout.places t) (omega arith))
      (λ f. sym (set_out (records words) i r (omega (arith, records-length words, ltb-false i Layout.places f))))

-- ---- one record removed, at any place
removed-length : (words : List ℕ) (i : ℕ) → length words ≡ Layout.words → length (removed words i) ≡ length words
unfolding removed
removed-length words i l =
    pick_elim (λ (v : List ℕ). length v ≡ length words) (ltb i Layout.places) (λ t. drop_row-length words i (ltb-true i Layout.places t) l) (λ f. refl)

removed-behind : (words : List ℕ) (i : ℕ) → length words ≡ Layout.words → drop Layout.lines_at (removed words i) ≡ drop Layout.lines_at words
unfolding removed
removed-behind words i l =
    pick_elim (λ (v : List ℕ). drop Layout.lines_at v ≡ drop Layout.lines_at words) (ltb i Layout.places) (λ t. drop_row-behind words i (ltb-true i Layout.places t) l) (λ f. refl)

removed-records : (words : List ℕ) (i : ℕ) → length words ≡ Layout.words → records (removed words i) ≡ without blank (records words) i
unfolding removed
removed-records words i l =
    pick_elim (λ (v : List ℕ). records v ≡ without blank (records words) i) (ltb i Layout.places)
    (λ t. records-drop words i (ltb-true i Layout.places t) (omega arith))
    (λ f. sym (without-past blank (records words) i (omega (arith, records-length words, ltb-false i Layout.places f))))

-- ---- the marks of a busy report
place-length : (number : Words) (i : ℕ) (words : List ℕ) → length words ≡ Layout.words → length (mark_place number i words) ≡ length words
unfolding mark_place
place-length number i words l =
    let r = get_or (records words) i blank in
    pick_elim (λ (v : List ℕ). length v ≡ length words) (marks number r) (λ t. turn-length words i (activity r) l) (λ f. refl)

place-behind : (number : Words) (i : ℕ) (words : List ℕ) → length words ≡ Layout.words → drop Layout.lines_at (mark_place number i words) ≡ drop Layout.lines_at words
unfolding mark_place
place-behind number i words l =
    let r = get_or (records words) i blank in
    pick_elim (λ (v : List ℕ). drop Layout.lines_at v ≡ drop Layout.lines_at words) (marks number r) (λ t. turn-behind words i (activity r) l) (λ f. refl)

place-records :
    (number : Words) (i : ℕ) (words : List ℕ) → length words ≡ Layout.words →
    records (mark_place number i words) ≡ set (records words) i (marking number (get_or (records words) i blank))
unfolding mark_place
place-records number i words l =
    let rs = records words in
    let r = get_or rs i blank in
    pick_elim (λ (v : List ℕ). records v ≡ set rs i (marking number r)) (marks number r)
    (λ t. turn-records words i (activity r) l ∙ ap (λ (b : Bool). set rs i (pick b (activated r) r)) (sym t))
    (λ f. sym (set-get_or rs i blank) ∙ ap (λ (b : Bool). set rs i (pick b (activated r) r)) (sym f))

pub marked-length : (number : Words) (n : ℕ) (words : List ℕ) → length words ≡ Layout.words → length (marked number n words) ≡ length words
unfolding marked
marked-length number zero words l = refl
marked-length number (suc n) words l =
    let e = marked-length number n words l in
    place-length number n (marked number n words) (e ∙ l) ∙ e

pub marked-behind : (number : Words) (n : ℕ) (words : List ℕ) → length words ≡ Layout.words → drop Layout.lines_at (marked number n words) ≡ drop Layout.lines_at words
unfolding marked
marked-behind number zero words l = refl
marked-behind number (suc n) words l =
    place-behind number n (marked number n words) (marked-length number n words l ∙ l) ∙ marked-behind number n words l

-- after n places those from n on are still to be marked
marked_from :
    (number : Words) (n : ℕ) (words : List ℕ) → n ≤ Layout.places → length words ≡ Layout.words →
    map (marking number) (records words) ≡ map_from (marking number) n (records (marked number n words))
unfolding marked
marked_from number zero words h l = map-start (marking number) (records words)
marked_from number (suc n) words h l =
    let before = marked number n words in
    let f = marking number in
    let rs = records before in
    marked_from number n words (omega arith) l
    ∙ map_next f rs n blank (omega (arith, records-length before))
    ∙ ap (λ (k : ℕ). map_from f k (set rs n (f (get_or rs n blank)))) (add-one n)
    ∙ ap (map_from f (suc n)) (sym (place-records number n before (marked-length number n words l ∙ l)))

pub records-marked :
    (number : Words) (words : List ℕ) → length words ≡ Layout.words →
    records (marked number Layout.places words) ≡ map (marking number) (records words)
records-marked number words l =
    sym (marked_from number Layout.places words (omega arith) l
    ∙ map-done (marking number) (records (marked number Layout.places words)) Layout.places (omega (arith, records-length (marked number Layout.places words))))

-- ---- the status of a report, at any place
pub status-length : (words : List ℕ) (k : ℕ) (busy : Bool) → length words ≡ Layout.words → length (status_stored words k busy) ≡ length words
unfolding status_stored put_line
status-length words k busy l =
    let line = with_status (get_or (lines words) k no_line) busy in
    pick_elim (λ (v : List ℕ). length v ≡ length words) (ltb k Layout.line_places) (λ t. over_line-length words k line (ltb-true k Layout.line_places t) l) (λ f. refl)

status-settings : (words : List ℕ) (k : ℕ) (busy : Bool) → length words ≡ Layout.words → drop Layout.keeps_at (status_stored words k busy) ≡ drop Layout.keeps_at words
unfolding status_stored put_line
status-settings words k busy l =
    let line = with_status (get_or (lines words) k no_line) busy in
    pick_elim (λ (v : List ℕ). drop Layout.keeps_at v ≡ drop Layout.keeps_at words) (ltb k Layout.line_places) (λ t. over_line-behind words k line (ltb-true k Layout.line_places t) l) (λ f. refl)

status-records : (words : List ℕ) (k : ℕ) (busy : Bool) → length words ≡ Layout.words → records (status_stored words k busy) ≡ records words
unfolding status_stored put_line
status-records words k busy l =
    let line = with_status (get_or (lines words) k no_line) busy in
    pick_elim (λ (v : List ℕ). records v ≡ records words) (ltb k Layout.line_places) (λ t. records-over_line words k line (ltb-true k Layout.line_places t) l) (λ f. refl)

status-lines :
    (words : List ℕ) (k : ℕ) (busy : Bool) → length words ≡ Layout.words →
    lines (status_stored words k busy) ≡ set (lines words) k (with_status (get_or (lines words) k no_line) busy)
unfolding status_stored put_line
status-lines words k busy l =
    let line = with_status (get_or (lines words) k no_line) busy in
    pick_elim (λ (v : List ℕ). lines v ≡ set (lines words) k line) (ltb k Layout.line_places)
    (λ t. lines-put words k line (ltb-true k Layout.line_places t) l)
    (λ f. sym (set_out (lines words) k line (omega (arith, lines-length words, ltb-false k Layout.line_places f))))

-- ---- every change
pub applied_stay : (words : List ℕ) → applied words Stay ≡ words
unfolding applied
applied_stay words = refl

pub applied-length : (words : List ℕ) (change : Change) → length words ≡ Layout.words → length (applied words change) ≡ Layout.words
unfolding applied with_report
applied-length words Stay l = l
applied-length words (Put i r) l = put-length words i r l ∙ l
applied-length words (Turn turn i) l = turn-length words i turn l ∙ l
applied-length words (Remove i) l = removed-length words i l ∙ l
applied-length words (Report k number true) l =
    let e = status-length words k true l ∙ l in
    marked-length number Layout.places (status_stored words k true) e ∙ e
applied-length words (Report k number false) l = status-length words k false l ∙ l

pub records-applied : (words : List ℕ) (change : Change) → length words ≡ Layout.words → records (applied words change) ≡ records_after (records words) change
unfolding applied with_report
records-applied words Stay l = refl
records-applied words (Put i r) l = put-records words i r l
records-applied words (Turn turn i) l = turn-records words i turn l
records-applied words (Remove i) l = removed-records words i l
records-applied words (Report k number true) l =
    records-marked number (status_stored words k true) (status-length words k true l ∙ l)
    ∙ ap (map (marking number)) (status-records words k true l)
records-applied words (Report k number false) l = status-records words k false l

pub lines-applied : (words : List ℕ) (change : Change) → length words ≡ Layout.words → lines (applied words change) ≡ lines_after (lines words) change
unfolding applied with_report
lines-applied words Stay l = refl
lines-applied words (Put i r) l = lines_same (put_record words i r) words (put-behind words i r l)
lines-applied words (Turn turn i) l = lines_same (turn_record words i turn) words (turn-behind words i turn l)
lines-applied words (Remove i) l = lines_same (removed words i) words (removed-behind words i l)
lines-applied words (Report k number true) l =
    let stored = status_stored words k true in
    lines_same (marked number Layout.places stored) stored (marked-behind number Layout.places stored (status-length words k true l ∙ l)) ∙ status-lines words k true l
lines-applied words (Report k number false) l = status-lines words k false l

applied-settings : (words : List ℕ) (change : Change) → length words ≡ Layout.words → drop Layout.keeps_at (applied words change) ≡ drop Layout.keeps_at words
unfolding applied with_report
applied-settings words Stay l = refl
applied-settings words (Put i r) l = settings-behind (put_record words i r) words (put-behind words i r l)
applied-settings words (Turn turn i) l = settings-behind (turn_record words i turn) words (turn-behind words i turn l)
applied-settings words (Remove i) l = settings-behind (removed words i) words (removed-behind words i l)
applied-settings words (Report k number true) l =
    let stored = status_stored words k true in
    settings-behind (marked number Layout.places stored) stored (marked-behind number Layout.places stored (status-length words k true l ∙ l)) ∙ status-settings words k true l
applied-settings words (Report k number false) l = status-settings words k false l

pub keeps-applied : (words : List ℕ) (change : Change) → length words ≡ Layout.words → keeps (applied words change) ≡ keeps words
keeps-applied words change l = keeps_same (applied words change) words (applied-settings words change l)

pub retains-applied : (words : List ℕ) (change : Change) → length words ≡ Layout.words → retains (applied words change) ≡ retains words
retains-applied words change l = retains-same (applied words change) words (applied-settings words change l)
