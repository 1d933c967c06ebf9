-- The words behind the records and the list of lines are one thing, by the laws of decoded rows; a change of the records leaves the lines and settings, and a change of a line leaves the rest.
use Prim.Native.Nat.{ℕ, zero, suc, ◌+◌, ◌-◌, ◌*◌, ◌≤◌, ◌<◌}
use mathlib.Core.Path.{◌≡◌, refl, sym, ◌∙◌, ap}
use mathlib.Core.List.{List, [], ◌∷◌, ◌++◌, map, append_assoc}
use lib.ListN.{length, get_or, take, drop, set, length-append, length-drop, length-replicate}
use lib.Seq.{get_or-take, get_or-drop, length-take-le, take-nil, take-take, take-add, take_at, drop_at, drop-drop}
use lib.Dec.{eqb}
use native.Mathlib.Nat.{zero-add, suc-add}
use native.Mathlib.Omega.{arith}
use Rattle.lists.specs.Parts.{over}
use Rattle.store.specs.Rows.{rows, put_row, turn_row, drop_row, blank_row}
use Rattle.store.proofs.RowsLaws.{place_rest, over-behind, put-length, put-turn, turn-length, drop-length}
use Rattle.store.proofs.Decoded.{decoded_length, decoded_at, decoded_past, decoded_put}
use Rattle.terms.specs.Terms.{kind_at}
use Rattle.terms.proofs.CodesLaws.{flag-back}
use Rattle.line_table.specs.declared.record.Turned.{Turned}
use Rattle.line_table.specs.declared.record.Record.{Record}
use Rattle.line_table.specs.declared.line.Line.{Line}
use Rattle.line_records.specs.Layout as Layout
use Rattle.line_records.specs.Records.{record_of, record_words, turned_words, records}
use Rattle.line_records.specs.Lines.{line_of, line_words, no_line, lines, over_line, keeps, retains}

-- the words of all lines
abbrev line_words_all : ℕ
line_words_all = Layout.line_places * Layout.line_width

-- ---- a line and its words
line-back : (line : Line) → line_of (line_words line) ≡ line
unfolding line_of
line-back line = rw (flag-back line.ccbs, flag-back line.ccnr, flag-back line.busy)

pub line-front : (row : List ℕ) → line_of (take Layout.line_width row) ≡ line_of row
unfolding line_of
line-front row =
    let same : (k : ℕ) → k < Layout.line_width → get_or (take Layout.line_width row) k 0 ≡ get_or row k 0 = λ k h. get_or-take Layout.line_width row k 0 h in
    rw (same 0 (omega arith), same 1 (omega arith), same 2 (omega arith), same 3 (omega arith), same 4 (omega arith))

-- ---- the laws of decoded rows
pub lines-length : (words : List ℕ) → length (lines words) ≡ Layout.line_places
unfolding lines
lines-length words = decoded_length Layout.line_width Layout.line_places line_of (drop Layout.lines_at words)

pub line_at :
    (words : List ℕ) (k : ℕ) → k < Layout.line_places →
    get_or (lines words) k no_line ≡ line_of (drop (Layout.lines_at + k * Layout.line_width) words)
unfolding lines
line_at words k h =
    decoded_at Layout.line_width Layout.line_places line_of line-front (drop Layout.lines_at words) k h
    ∙ ap line_of (drop-drop (k * Layout.line_width) Layout.lines_at words)

pub line-past : (words : List ℕ) (k : ℕ) → Layout.line_places ≤ k → get_or (lines words) k no_line ≡ no_line
unfolding lines
line-past words k h = decoded_past Layout.line_width Layout.line_places line_of (drop Layout.lines_at words) k h

-- ---- what each reading depends on
drop-take : (n m : ℕ) (l : List ℕ) → drop n (take (n + m) l) ≡ take m (drop n l)
drop-take zero m l = ap (λ (k : ℕ). take k l) (zero-add m)
drop-take (suc n) m [] = ap (drop (suc n)) (take-nil (suc n + m)) ∙ sym (take-nil m)
drop-take (suc n) m (x ∷ xs) = ap (λ (k : ℕ). drop (suc n) (take k (x ∷ xs))) (suc-add n m) ∙ drop-take n m xs

rows-front : (width n : ℕ) (v w : List ℕ) → take (n * width) v ≡ take (n * width) w → rows width n v ≡ rows width n w
unfolding rows
rows-front width zero v w h = refl
rows-front width (suc n) v w h =
    let e : suc n * width ≡ width + n * width = omega arith in
    let q : take (width + n * width) v ≡ take (width + n * width) w = rw e at h in
    let a : take width v ≡ take width w =
    sym (take-take width (width + n * width) v (omega arith)) ∙ ap (take width) q ∙ take-take width (width + n * width) w (omega arith) in
    let b : take (n * width) (drop width v) ≡ take (n * width) (drop width w) =
    sym (drop-take width (n * width) v) ∙ ap (drop width) q ∙ drop-take width (n * width) w in
    rw (a, rows-front width n (drop width v) (drop width w) b)

pub rows_same : (v w : List ℕ) → take Layout.lines_at v ≡ take Layout.lines_at w → rows Layout.width Layout.places v ≡ rows Layout.width Layout.places w
rows_same v w h = rows-front Layout.width Layout.places v w h

pub records-same : (v w : List ℕ) → take Layout.lines_at v ≡ take Layout.lines_at w → records v ≡ records w
unfolding records
records-same v w h = ap (map record_of) (rows_same v w h)

pub lines_same : (v w : List ℕ) → drop Layout.lines_at v ≡ drop Layout.lines_at w → lines v ≡ lines w
unfolding lines
lines_same v w h = ap (λ (t : List ℕ). map line_of (rows Layout.line_width Layout.line_places t)) h

pub keeps_same : (v w : List ℕ) → drop Layout.keeps_at v ≡ drop Layout.keeps_at w → keeps v ≡ keeps w
unfolding keeps
keeps_same v w h =
    ap (λ (n : ℕ). eqb n 1) (sym (get_or-drop Layout.keeps_at v 0 0) ∙ ap (λ (t : List ℕ). get_or t 0 0) h ∙ get_or-drop Layout.keeps_at w 0 0)

pub retains-same : (v w : List ℕ) → drop Layout.keeps_at v ≡ drop Layout.keeps_at w → retains v ≡ retains w
unfolding retains
retains-same v w h =
    ap (λ (n : ℕ). eqb n 1) (sym (get_or-drop Layout.keeps_at v 1 0) ∙ ap (λ (t : List ℕ). get_or t 1 0) h ∙ get_or-drop Layout.keeps_at w 1 0)

pub settings-behind : (v w : List ℕ) → drop Layout.lines_at v ≡ drop Layout.lines_at w → drop Layout.keeps_at v ≡ drop Layout.keeps_at w
settings-behind v w h = sym (drop-drop line_words_all Layout.lines_at v) ∙ ap (drop line_words_all) h ∙ drop-drop line_words_all Layout.lines_at w

-- ---- what a change leaves
pub put_row-length :
    (words : List ℕ) (i : ℕ) (r : Record) → i < Layout.places → length words ≡ Layout.words →
    length (put_row Layout.width words i (record_words r)) ≡ length words
put_row-length words i r h l =
    ap length (put-turn Layout.width words i (record_words r)) ∙ turn-length Layout.width Layout.places words i 0 (record_words r) (omega arith) h (omega arith)

pub put_row-behind :
    (words : List ℕ) (i : ℕ) (r : Record) → i < Layout.places → length words ≡ Layout.words →
    drop Layout.lines_at (put_row Layout.width words i (record_words r)) ≡ drop Layout.lines_at words
unfolding put_row
put_row-behind words i r h l = over-behind Layout.lines_at (i * Layout.width) (record_words r) words (omega arith) (omega arith)

module _ (words : List ℕ) (i : ℕ) (t : Turned) (h : i < Layout.places) (l : length words ≡ Layout.words) where
  pub turn_row-length : length (turn_row Layout.width words i kind_at (turned_words t)) ≡ length words
  turn_row-length = turn-length Layout.width Layout.places words i kind_at (turned_words t) (omega arith) h (omega arith)

  pub turn_row-behind : drop Layout.lines_at (turn_row Layout.width words i kind_at (turned_words t)) ≡ drop Layout.lines_at words
  unfolding turn_row
  turn_row-behind = over-behind Layout.lines_at (i * Layout.width + kind_at) (turned_words t) words (omega arith) (omega arith)

pub drop_row-length :
    (words : List ℕ) (i : ℕ) → i < Layout.places → length words ≡ Layout.words → length (drop_row Layout.width Layout.places words i) ≡ length words
drop_row-length words i h l = drop-length Layout.width Layout.places words i h (omega arith)

pub drop_row-behind :
    (words : List ℕ) (i : ℕ) → i < Layout.places → length words ≡ Layout.words →
    drop Layout.lines_at (drop_row Layout.width Layout.places words i) ≡ drop Layout.lines_at words
unfolding drop_row
drop_row-behind words i h l =
    let k = place_rest Layout.width Layout.places i h in
    let later = drop ((i + 1) * Layout.width) words in
    let n = (Layout.places - (i + 1)) * Layout.width in
    let a : length (take (i * Layout.width) words) ≡ i * Layout.width = length-take-le (i * Layout.width) words (omega arith) in
    let b : length (take n later) ≡ n = length-take-le n later (simp length-drop (omega arith)) in
    drop_at (take (i * Layout.width) words ++ take n later ++ blank_row Layout.width) (drop Layout.lines_at words) Layout.lines_at
    (simp (length-append, a, b, length-replicate) (omega arith))

-- ---- a line put at a place
-- as one part of the words is lent for it
pub over_line_parts :
    (words : List ℕ) (k : ℕ) (line : Line) →
    over_line words k line
    ≡ take (Layout.lines_at + k * Layout.line_width) words ++ over (line_words line) (drop (Layout.lines_at + k * Layout.line_width) words)
unfolding over_line put_row
over_line_parts words k line =
    let at = k * Layout.line_width in
    let behind = drop Layout.lines_at words in
    rw (take-add Layout.lines_at at words, ← drop-drop at Layout.lines_at words)
    (sym (append_assoc (take Layout.lines_at words) (take at behind) (over (line_words line) (drop at behind))))

module _ (words : List ℕ) (k : ℕ) (line : Line) (h : k < Layout.line_places) (l : length words ≡ Layout.words) where
  abbrev behind : List ℕ
  behind = drop Layout.lines_at words

  front_length : length (take Layout.lines_at words) ≡ Layout.lines_at
  front_length = length-take-le Layout.lines_at words (omega arith)

  behind-length : Layout.line_places * Layout.line_width ≤ length behind
  behind-length = simp length-drop (omega arith)

  over_line-lines : drop Layout.lines_at (over_line words k line) ≡ put_row Layout.line_width behind k (line_words line)
  unfolding over_line
  over_line-lines = drop_at (take Layout.lines_at words) (put_row Layout.line_width behind k (line_words line)) Layout.lines_at front_length

  pub over_line-length : length (over_line words k line) ≡ length words
  unfolding over_line
  over_line-length =
      let a = put-length Layout.line_width Layout.line_places behind k (line_words line) refl h behind-length in
      length-append (take Layout.lines_at words) (put_row Layout.line_width behind k (line_words line))
      ∙ omega (arith, a, front_length, length-drop Layout.lines_at words)

  pub over_line-behind : drop Layout.keeps_at (over_line words k line) ≡ drop Layout.keeps_at words
  unfolding put_row
  over_line-behind =
      sym (drop-drop line_words_all Layout.lines_at (over_line words k line))
      ∙ ap (drop line_words_all) over_line-lines
      ∙ over-behind line_words_all (k * Layout.line_width) (line_words line) behind (omega arith) (omega (arith, behind-length))
      ∙ drop-drop line_words_all Layout.lines_at words

  pub over_line-front : take Layout.lines_at (over_line words k line) ≡ take Layout.lines_at words
  unfolding over_line
  over_line-front = take_at (take Layout.lines_at words) (put_row Layout.line_width behind k (line_words line)) Layout.lines_at front_length

  pub records-over_line : records (over_line words k line) ≡ records words
  records-over_line = records-same (over_line words k line) words over_line-front

  pub lines-put : lines (over_line words k line) ≡ set (lines words) k line
  unfolding lines
  lines-put =
      ap (λ (t : List ℕ). map line_of (rows Layout.line_width Layout.line_places t)) over_line-lines
      ∙ decoded_put Layout.line_width Layout.line_places line_of behind (line_words line) k line (line-back line) refl h behind-length
