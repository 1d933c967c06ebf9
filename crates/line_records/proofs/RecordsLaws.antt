-- The words of a desk and its list of records are one thing: the laws of decoded rows, at this desk's width, places and decoder. What they ask is said of one row: it reads no word behind its own, and its state word tells whether it is used.
use Prim.Native.Nat.{ℕ, ◌*◌, ◌≤◌, ◌<◌}
use mathlib.Core.Path.{◌≡◌, refl}
use mathlib.Core.Bool.{Bool, true, false}
use mathlib.Core.List.{List, ◌++◌}
use lib.ListN.{length, get_or, take, drop, set}
use lib.Seq.{get_or-take}
use lib.Dec.{ltb, leb, eqb}
use native.Mathlib.Omega.{arith}
use borrow.Author.Tests.{eqb-true, eqb-false, ltb-true, lt-leb}
use Rattle.lists.specs.Lists.{both, without}
use Rattle.lists.specs.Parts.{over}
use Rattle.lists.specs.declared.words.Words.{Words}
use Rattle.lists.proofs.Choice.{pick_elim}
use Rattle.store.specs.declared.For.{For}
use Rattle.store.specs.Rows as Rows
use Rattle.store.specs.Rows.{state_word, live, free, has_identifier, fits_row, put_row, turn_row, drop_row, blank_row, rows_fit, found, found_fitting, live_at}
use Rattle.store.proofs.RowsLaws.{fit-from}
use Rattle.store.proofs.Decoded.{identified-live, fits-live, free-live, decoded_length, decoded_at, decoded_past, decoded_found, decoded_oldest, decoded_live, decoded_over, decoded_turn, decoded_drop}
use Rattle.message.specs.declared.Body.{Body}
use Rattle.desk.specs.declared.letter.Letter.{Letter}
use Rattle.terms.specs.Request.{letter_names}
use Rattle.terms.specs.declared.request.Names.{Names}
use Rattle.terms.specs.Terms as Terms
use Rattle.terms.specs.Terms.{kind_at, terms_of}
use Rattle.terms.proofs.CodesLaws.{flag-back}
use Rattle.terms.proofs.TermsLaws.{terms-back, terms-front, word-from, terms-kind}
use Rattle.line_table.specs.Record.{turned}
use Rattle.line_table.specs.Table.{in_use}
use Rattle.line_table.specs.Search.{used}
use Rattle.line_table.specs.declared.table.State.{State}
use Rattle.line_table.specs.declared.table.State.TheVariants.{Free, Invoked, Await, Alert}
use Rattle.line_table.specs.declared.record.Record.{Record}
use Rattle.line_table.specs.declared.record.Turned.{Turned}
use Rattle.line_records.specs.Layout as Layout
use Rattle.line_records.specs.Codes.{state_of, state_code}
use Rattle.line_records.specs.Meaning.{is_for_await, states_for, fitting, in_states, is_for, elements_mean}
use Rattle.line_records.specs.Records.{record_of, record_words, turned_words, blank, records, unused, identified, meant, place}

-- ---- a record and its words: what is stored is read back, and nothing behind the row is read
state-back : (s : State) → state_of (state_code s) ≡ s
unfolding state_of
state-back Free = refl
state-back Invoked = refl
state-back Await = refl
state-back Alert = refl

-- with a record's words over its front a row reads as the record, whatever stands behind them
pub record-back : (r : Record) (row : List ℕ) → record_of (over (record_words r) row) ≡ r
unfolding record_of
record-back r row = rw (terms-back r.terms _, state-back r.state, flag-back r.active, flag-back r.suspended, flag-back r.down)

-- a record reads no word from the guard's deadline on
pub record-before : (n : ℕ) (row : List ℕ) → Layout.guard_at ≤ n → record_of (take n row) ≡ record_of row
unfolding record_of
record-before n row long =
    let same : (k : ℕ) → k < n → get_or (take n row) k 0 ≡ get_or row k 0 = λ k h. get_or-take n row k 0 h in
    rw (
      terms-front n row (omega arith),
      same Terms.width (omega arith),
      same Layout.active_at (omega arith),
      same Layout.suspended_at (omega arith),
      same Layout.down_at (omega arith),
    )

pub record-front : (row : List ℕ) → record_of (take Layout.width row) ≡ record_of row
record-front row = record-before Layout.width row (omega arith)

record-turned :
    (t : Turned) (row : List ℕ) → Layout.width ≤ length row → record_of (take kind_at row ++ over (turned_words t) (drop kind_at row)) ≡ turned t (record_of row)
unfolding record_of
record-turned t row long =
    let words = over (turned_words t) (drop kind_at row) in
    let new = word-from kind_at row words (omega arith) in
    rw (terms-kind row _ t.kind (omega arith), new 1, new 2, new 3, new 4, state-back t.state, flag-back t.active, flag-back t.suspended, flag-back t.down)

blank-row : record_of (blank_row Layout.width) ≡ blank
unfolding record_of terms_of
blank-row = refl

-- ---- what a row's tests say of its record
-- a state word from 1 to the last is a record in use
state-live : (w : ℕ) → both (ltb 0 w) (leb w Layout.last_state) ≡ in_use (state_of w)
unfolding state_of
state-live w =
    let P : State → Type 0 = λ s. both (ltb 0 w) (leb w Layout.last_state) ≡ in_use s in
    pick_elim P (eqb w 1) (λ t. rw (eqb-true w 1 t)) (λ t1.
    pick_elim P (eqb w 2) (λ t. rw (eqb-true w 2 t)) (λ t2.
    pick_elim P (eqb w 3) (λ t. rw (eqb-true w 3 t)) (λ t3.
    outside w (eqb-false w 1 t1) (eqb-false w 2 t2) (eqb-false w 3 t3) (ltb 0 w) refl)))
  where
    outside : (w : ℕ) → (w ≡ 1 → ⊥) → (w ≡ 2 → ⊥) → (w ≡ 3 → ⊥) → (b : Bool) → ltb 0 w ≡ b → both b (leb w Layout.last_state) ≡ false
    outside w n1 n2 n3 false e = refl
    outside w n1 n2 n3 true e =
        let g1 : 1 ≤ w = omega (arith, ltb-true 0 w e) in
        let g2 : 2 ≤ w = omega (arith, n1) in
        let g3 : 3 ≤ w = omega (arith, n2) in
        let g4 : 4 ≤ w = omega (arith, n3) in
        lt-leb w Layout.last_state g4

used-row : (row : List ℕ) → live Layout.last_state row ≡ used (record_of row)
unfolding live record_of
used-row row = state-live (state_word row)

identified-row : (identifier : Words) (row : List ℕ) → has_identifier Layout.last_state identifier row ≡ identified identifier (record_of row)
unfolding record_of terms_of
identified-row identifier row = identified-live Layout.last_state identifier row (used (record_of row)) (used-row row)

fitting-row : (names : Names) (row : List ℕ) → fits_row Layout.last_state names row ≡ fitting names (record_of row)
unfolding record_of
fitting-row names row = fits-live Layout.last_state names row (used (record_of row)) (used-row row)

-- Await by its word
await-told : (w : ℕ) → eqb w 2 ≡ eqb (state_code (state_of w)) 2
unfolding state_of
await-told w =
    let P : State → Type 0 = λ s. eqb w 2 ≡ eqb (state_code s) 2 in
    pick_elim P (eqb w 1) (λ t. rw (eqb-true w 1 t)) (λ t1.
    pick_elim P (eqb w 2) (λ t. rw (eqb-true w 2 t)) (λ t2.
    pick_elim P (eqb w 3) (λ t. rw (eqb-true w 3 t)) (λ t3. t2)))

for-row : (body : Body) (row : List ℕ) → Rows.is_for (states_for body) row ≡ is_for body (record_of row)
unfolding Rows.is_for record_of
for-row body row =
    pick_elim (λ (states : For). Rows.is_for states row ≡ in_states states (state_code (state_of (state_word row)))) (is_for_await body)
    (λ t. await-told (state_word row))
    (λ f. refl)

unused-row : (row : List ℕ) → free Layout.last_state row ≡ unused (record_of row)
unused-row row = free-live Layout.last_state row (used (record_of row)) (used-row row)

-- ---- the laws of decoded rows
pub records-fit : (words : List ℕ) → Layout.lines_at ≤ length words → rows_fit Layout.width Layout.places (length words) ≡ true
records-fit words h = fit-from Layout.width Layout.places (length words) (omega arith) (omega arith) (omega arith) h

pub meant-rows :
    (identifier : Words) (words : List ℕ) → Layout.lines_at ≤ length words →
    found (has_identifier Layout.last_state identifier) Layout.width Layout.places words ≡ meant identifier (records words)
unfolding meant records
meant-rows identifier words h =
    decoded_found Layout.width Layout.places record_of (has_identifier Layout.last_state identifier) (identified identifier) (identified-row identifier) words (records-fit words h)

pub fitting-rows :
    (l : Letter) (words : List ℕ) → Layout.lines_at ≤ length words →
    found_fitting (states_for l.body) Layout.last_state (letter_names l) Layout.width Layout.places words ≡ elements_mean l (records words)
unfolding elements_mean records
fitting-rows l words h =
    decoded_oldest Layout.width Layout.places record_of (states_for l.body) Layout.last_state (letter_names l) (fitting (letter_names l)) (is_for l.body)
    (fitting-row (letter_names l)) (for-row l.body) words (records-fit words h)

pub live-rows :
    (words : List ℕ) (i : ℕ) → Layout.lines_at ≤ length words → live_at Layout.last_state Layout.width Layout.places words i ≡ used (get_or (records words) i blank)
unfolding records
live-rows words i h = decoded_live Layout.width Layout.places record_of Layout.last_state used used-row words i (records-fit words h)

pub place-rows :
    (words : List ℕ) → Layout.lines_at ≤ length words → found (free Layout.last_state) Layout.width Layout.places words ≡ place (records words)
unfolding place records
place-rows words h = decoded_found Layout.width Layout.places record_of (free Layout.last_state) unused unused-row words (records-fit words h)

pub records-length : (words : List ℕ) → length (records words) ≡ Layout.places
unfolding records
records-length words = decoded_length Layout.width Layout.places record_of words

pub record-at :
    (words : List ℕ) (i : ℕ) → i < Layout.places → get_or (records words) i blank ≡ record_of (drop (i * Layout.width) words)
unfolding records
record-at words i h = decoded_at Layout.width Layout.places record_of record-front words i h

pub record-past : (words : List ℕ) (i : ℕ) → Layout.places ≤ i → get_or (records words) i blank ≡ blank
unfolding records
record-past words i h = decoded_past Layout.width Layout.places record_of words i h

pub records-put :
    (words : List ℕ) (i : ℕ) (r : Record) → i < Layout.places → Layout.lines_at ≤ length words →
    records (put_row Layout.width words i (record_words r)) ≡ set (records words) i r
unfolding records
records-put words i r h l = decoded_over Layout.width Layout.places record_of (record_words r) r (λ row long. record-back r row) record-front words i (omega arith) h l

pub records-turn :
    (words : List ℕ) (i : ℕ) (t : Turned) → i < Layout.places → Layout.lines_at ≤ length words →
    records (turn_row Layout.width words i kind_at (turned_words t)) ≡ set (records words) i (turned t (get_or (records words) i blank))
unfolding records
records-turn words i t h l =
    decoded_turn Layout.width Layout.places record_of kind_at (turned_words t) (turned t) (record-turned t) record-front words i (omega arith) h l

pub records-drop :
    (words : List ℕ) (i : ℕ) → i < Layout.places → Layout.lines_at ≤ length words →
    records (drop_row Layout.width Layout.places words i) ≡ without blank (records words) i
unfolding records
records-drop words i h l = decoded_drop Layout.width Layout.places record_of blank-row words i h l
