-- The words of a desk and its list of records are one thing: each search and each change of words is the same of records, by the laws of decoded rows.
use Prim.Native.Nat.{ℕ, zero, suc, ◌+◌, ◌*◌, ◌≤◌, ◌<◌}
use mathlib.Core.Path.{◌≡◌, refl, sym, ◌∙◌, ap}
use mathlib.Core.Bool.{true, false}
use mathlib.Core.List.{List, ◌++◌, map}
use lib.ListN.{length, get_or, take, drop, set}
use lib.Seq.{get_or-take, get_or-drop, set_out}
use lib.Dec.{ltb, leb, eqb}
use native.Mathlib.Omega.{arith}
use borrow.Author.Tests.{ne_eqb, lt-ltb, lt-leb, ltb-true, ltb-false}
use Rattle.lists.specs.Lists.{both, without}
use Rattle.lists.specs.Parts.{over}
use Rattle.lists.specs.declared.words.Words.{Words}
use Rattle.lists.proofs.Choice.{pick_elim}
use Rattle.lists.proofs.Lists.{without-past}
use Rattle.message.specs.declared.Body.{Body}
use Rattle.message.specs.declared.Body.TheVariants.{CcbsRequest, CcnrRequest, RequestResult, RequestError, CcExecPossible, CcRingout, RingoutError, CcSuspend, CcResume, CcCancel, CallAlerts, CallFailed}
use Rattle.desk.specs.declared.letter.Letter.{Letter}
use Rattle.store.specs.Rows as Rows
use Rattle.store.specs.Rows.{state_word, live, free, has_identifier, fits_row, rows, blank_row, rows_fit, found, found_fitting, live_at, removed_row}
use Rattle.store.specs.declared.For.{For}
use Rattle.store.specs.declared.For.TheVariants.{Every, State as InState}
use Rattle.store.proofs.RowsLaws.{fit-from, put-turn, turn-length, drop-length}
use Rattle.store.proofs.Decoded.{identified-live, fits-live, free-live, decoded_length, decoded_past, decoded_found, decoded_oldest, decoded_live, decoded_at, decoded_over, decoded_turn, decoded_drop}
use Rattle.terms.specs.Terms as Terms
use Rattle.terms.specs.Terms.{choices_at, terms_of}
use Rattle.terms.specs.Request.{letter_names}
use Rattle.terms.specs.declared.request.Names.{Names}
use Rattle.terms.proofs.CodesLaws.{flag-back}
use Rattle.terms.proofs.TermsLaws.{terms-back, terms-front, word-from, terms-chosen}
use Rattle.clerk_table.specs.Table.{in_use}
use Rattle.clerk_table.specs.declared.table.State.{State}
use Rattle.clerk_table.specs.declared.table.State.TheVariants.{Free, WaitAck, Invoked, WaitAnswer, Ringout, Suspended}
use Rattle.clerk_table.specs.declared.record.Record.{Record}
use Rattle.clerk_table.specs.declared.record.Turned.{Turned}
use Rattle.clerk_table.specs.declared.record.Change.{Change}
use Rattle.clerk_table.specs.declared.record.Change.TheVariants.{Stay, Put, Turn, Remove}
use Rattle.clerk_records.specs.Codes.{state_of, state_code}
use Rattle.clerk_records.specs.Layout.{width, down_at, can_keep_at, deadlines_at, places, words, last_state}
use Rattle.clerk_records.specs.Records.{record_of, record_words, turned_words, blank, records, used, unused, identified, meant, place, turned, records_after, applied}
use Rattle.clerk_records.specs.Meaning.{states_for, in_states, fitting, is_for, elements_mean}

-- ---- codes: what is stored is read back
state-back : (s : State) → state_of (state_code s) ≡ s
unfolding state_of
state-back Free = refl
state-back WaitAck = refl
state-back Invoked = refl
state-back WaitAnswer = refl
state-back Ringout = refl
state-back Suspended = refl

-- with a record's words over its front a row reads as the record, whatever stands behind them
pub record-back : (r : Record) (row : List ℕ) → record_of (over (record_words r) row) ≡ r
unfolding record_of
record-back r row = rw (terms-back r.terms _, state-back r.state, flag-back r.canKeep, flag-back r.down)

-- a row that is turned: can-keep, behind what is put anew, is read as it was
record-turned :
    (t : Turned) (row : List ℕ) → width ≤ length row → record_of (take choices_at row ++ over (turned_words t) (drop choices_at row)) ≡ turned t (record_of row)
unfolding record_of
record-turned t row long =
    let words = over (turned_words t) (drop choices_at row) in
    let new = word-from choices_at row words (omega arith) in
    let behind : get_or words 5 0 ≡ get_or row can_keep_at 0 = get_or-drop 5 (drop choices_at row) 0 0 ∙ get_or-drop choices_at row 5 0 in
    rw (terms-chosen row _ t.keep t.connection t.kind (omega arith), new 3, state-back t.state, new 4, flag-back t.down, new 5 ∙ behind)

-- a state word from 1 to the last is a record in use
state-live : (w : ℕ) → both (ltb 0 w) (leb w last_state) ≡ in_use (state_of w)
unfolding state_of
state-live zero = refl
state-live (suc zero) = refl
state-live (suc (suc zero)) = refl
state-live (suc (suc (suc zero))) = refl
state-live (suc (suc (suc (suc zero)))) = refl
state-live (suc (suc (suc (suc (suc zero))))) = refl
state-live (suc (suc (suc (suc (suc (suc w)))))) =
    let n : ℕ = suc (suc (suc (suc (suc (suc w))))) in
    let past : (k : ℕ) → k ≤ last_state → eqb n k ≡ false = λ k h. ne_eqb n k (λ e. omega (arith, e)) in
    rw (past 1 (omega arith), past 2 (omega arith), past 3 (omega arith), past 4 (omega arith), past 5 (omega arith), lt-ltb 0 n (omega arith), lt-leb n last_state (omega arith))

pub used-row : (row : List ℕ) → live last_state row ≡ used (record_of row)
unfolding live record_of
used-row row = state-live (state_word row)

identified-row : (identifier : Words) (row : List ℕ) → has_identifier last_state identifier row ≡ identified identifier (record_of row)
unfolding record_of terms_of
identified-row identifier row = identified-live last_state identifier row (used (record_of row)) (used-row row)

fitting-row : (names : Names) (row : List ℕ) → fits_row last_state names row ≡ fitting names (record_of row)
unfolding record_of
fitting-row names row = fits-live last_state names row (used (record_of row)) (used-row row)

-- a state word of no record is not the one of Invoked
invoked-word : (w : ℕ) → eqb w 2 ≡ eqb (state_code (state_of w)) 2
unfolding state_of
invoked-word zero = refl
invoked-word (suc zero) = refl
invoked-word (suc (suc zero)) = refl
invoked-word (suc (suc (suc zero))) = refl
invoked-word (suc (suc (suc (suc zero)))) = refl
invoked-word (suc (suc (suc (suc (suc zero))))) = refl
invoked-word (suc (suc (suc (suc (suc (suc w)))))) =
    let n : ℕ = suc (suc (suc (suc (suc (suc w))))) in
    let past : (k : ℕ) → k ≤ last_state → eqb n k ≡ false = λ k h. ne_eqb n k (λ e. omega (arith, e)) in
    rw (past 1 (omega arith), past 2 (omega arith), past 3 (omega arith), past 4 (omega arith), past 5 (omega arith))

for-word : (body : Body) (w : ℕ) → in_states (states_for body) w ≡ in_states (states_for body) (state_code (state_of w))
for-word (CcbsRequest flags service) w = refl
for-word (CcnrRequest flags service) w = refl
for-word (RequestResult keep) w = refl
for-word (RequestError error) w = refl
for-word CcExecPossible w = invoked-word w
for-word CcRingout w = refl
for-word (RingoutError error) w = refl
for-word CcSuspend w = refl
for-word CcResume w = refl
for-word CcCancel w = refl
for-word CallAlerts w = refl
for-word CallFailed w = refl

for-states : (states : For) (row : List ℕ) → Rows.is_for states row ≡ in_states states (state_word row)
unfolding Rows.is_for
for-states Every row = refl
for-states (InState word) row = refl

for-row : (body : Body) (row : List ℕ) → Rows.is_for (states_for body) row ≡ is_for body (record_of row)
unfolding record_of
for-row body row = for-states (states_for body) row ∙ for-word body (state_word row)

unused-row : (row : List ℕ) → free last_state row ≡ unused (record_of row)
unused-row row = free-live last_state row (used (record_of row)) (used-row row)

-- ---- places
pub records-length : (ws : List ℕ) → length (records ws) ≡ places
unfolding records
records-length ws = decoded_length width places record_of ws

-- a desk's words have room for its rows
pub rows-room : (ws : List ℕ) → words ≤ length ws → rows_fit width places (length ws) ≡ true
rows-room ws l = fit-from width places (length ws) (omega arith) (omega arith) (omega arith) (omega arith)

-- a record reads no word from the deadlines on
pub record-before : (n : ℕ) (row : List ℕ) → deadlines_at ≤ n → record_of (take n row) ≡ record_of row
unfolding record_of
record-before n row h =
    rw (terms-front n row (omega arith), get_or-take n row Terms.width 0 (omega arith), get_or-take n row can_keep_at 0 (omega arith), get_or-take n row down_at 0 (omega arith))

pub record-front : (row : List ℕ) → record_of (take width row) ≡ record_of row
record-front row = record-before width row (omega arith)

pub record-at : (ws : List ℕ) (i : ℕ) → i < places → get_or (records ws) i blank ≡ record_of (drop (i * width) ws)
unfolding records
record-at ws i h = decoded_at width places record_of record-front ws i h

pub record-past : (ws : List ℕ) (i : ℕ) → places ≤ i → get_or (records ws) i blank ≡ blank
unfolding records
record-past ws i h = decoded_past width places record_of ws i h

pub state-at : (ws : List ℕ) (i : ℕ) → i < places → (get_or (records ws) i blank).state ≡ state_of (get_or ws (i * width + Terms.width) 0)
unfolding record_of
state-at ws i h = ap (λ (r : Record). r.state) (record-at ws i h) ∙ ap state_of (get_or-drop (i * width) ws Terms.width 0)

-- ---- searches
pub meant-found : (identifier : Words) (ws : List ℕ) → words ≤ length ws → found (has_identifier last_state identifier) width places ws ≡ meant identifier (records ws)
unfolding meant records
meant-found identifier ws l =
    decoded_found width places record_of (has_identifier last_state identifier) (identified identifier) (identified-row identifier) ws (rows-room ws l)

pub elements-found :
    (l : Letter) (ws : List ℕ) → words ≤ length ws → found_fitting (states_for l.body) last_state (letter_names l) width places ws ≡ elements_mean l (records ws)
unfolding elements_mean records
elements-found l ws room =
    decoded_oldest width places record_of (states_for l.body) last_state (letter_names l) (fitting (letter_names l)) (is_for l.body) (fitting-row (letter_names l)) (for-row l.body) ws (rows-room ws room)

pub used-found : (i : ℕ) (ws : List ℕ) → words ≤ length ws → live_at last_state width places ws i ≡ used (get_or (records ws) i blank)
unfolding records
used-found i ws room = decoded_live width places record_of last_state used used-row ws i (rows-room ws room)

pub place_found : (ws : List ℕ) → words ≤ length ws → found (free last_state) width places ws ≡ place (records ws)
unfolding place records
place_found ws l = decoded_found width places record_of (free last_state) unused unused-row ws (rows-room ws l)

-- ---- a change of the words is that change of the records, and leaves as many words
pub applied-length : (ws : List ℕ) → length ws ≡ words → (c : Change) → length (applied ws c) ≡ words
unfolding applied removed_row
applied-length ws l Stay = l
applied-length ws l (Put i r) =
    pick_elim (λ (x : List ℕ). length x ≡ words) (ltb i places)
    (λ t.
    ap length (put-turn width ws i (record_words r))
    ∙ turn-length width places ws i 0 (record_words r) (omega arith) (ltb-true i places t) (omega arith) ∙ l)
    (λ f. l)
applied-length ws l (Turn i turn) =
    pick_elim (λ (x : List ℕ). length x ≡ words) (ltb i places)
    (λ t. turn-length width places ws i choices_at (turned_words turn) (omega arith) (ltb-true i places t) (omega arith) ∙ l)
    (λ f. l)
applied-length ws l (Remove i) =
    pick_elim (λ (x : List ℕ). length x ≡ words) (rows_fit width places (length ws))
    (λ u.
    pick_elim (λ (x : List ℕ). length x ≡ words) (ltb i places)
    (λ t. drop-length width places ws i (ltb-true i places t) (omega arith) ∙ l)
    (λ f. l))
    (λ u. l)

blank-row : record_of (blank_row width) ≡ blank
unfolding record_of terms_of
blank-row = refl

put-records : (ws : List ℕ) (i : ℕ) (r : Record) → length ws ≡ words → records (applied ws (Put i r)) ≡ set (records ws) i r
unfolding applied records
put-records ws i r l =
    pick_elim (λ (x : List ℕ). map record_of (rows width places x) ≡ set (map record_of (rows width places ws)) i r) (ltb i places)
    (λ t. decoded_over width places record_of (record_words r) r (λ row long. record-back r row) record-front ws i (omega arith) (ltb-true i places t) (omega arith))
    (λ f. sym (set_out (map record_of (rows width places ws)) i r (omega (arith, ltb-false i places f, decoded_length width places record_of ws))))

turn-records :
    (ws : List ℕ) (i : ℕ) (turn : Turned) → length ws ≡ words → records (applied ws (Turn i turn)) ≡ set (records ws) i (turned turn (get_or (records ws) i blank))
unfolding applied records
turn-records ws i turn l =
    let rs = map record_of (rows width places ws) in
    let r = turned turn (get_or rs i blank) in
    pick_elim (λ (x : List ℕ). map record_of (rows width places x) ≡ set rs i r) (ltb i places)
    (λ t. decoded_turn width places record_of choices_at (turned_words turn) (turned turn) (record-turned turn) record-front ws i (omega arith) (ltb-true i places t) (omega arith))
    (λ f. sym (set_out rs i r (omega (arith, ltb-false i places f, decoded_length width places record_of ws))))

remove-records : (ws : List ℕ) (i : ℕ) → length ws ≡ words → records (applied ws (Remove i)) ≡ without blank (records ws) i
unfolding applied removed_row records
remove-records ws i l =
    rw (rows-room ws (omega arith))
    (pick_elim (λ (x : List ℕ). map record_of (rows width places x) ≡ without blank (map record_of (rows width places ws)) i) (ltb i places)
    (λ t. decoded_drop width places record_of blank-row ws i (ltb-true i places t) (omega arith))
    (λ f. sym (without-past blank (map record_of (rows width places ws)) i (omega (arith, ltb-false i places f, decoded_length width places record_of ws)))))

pub records-applied : (ws : List ℕ) → length ws ≡ words → (c : Change) → records (applied ws c) ≡ records_after (records ws) c
unfolding applied
records-applied ws l Stay = refl
records-applied ws l (Put i r) = put-records ws i r l
records-applied ws l (Turn i turn) = turn-records ws i turn l
records-applied ws l (Remove i) = remove-records ws i l
