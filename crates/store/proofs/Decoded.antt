-- Rows of words read as records, over any width, count, type and decoder: each search, each store and each delete in words is the same in records. By the laws of rows, row by row.
use Rattle.std.specs.Prelude.{Some, None}
use Prim.Native.Nat.{ℕ, ◌+◌, ◌*◌, ◌≤◌, ◌<◌}
use mathlib.Core.Path.{◌≡◌, refl, sym, ap, ◌∙◌}
use mathlib.Core.Bool.{Bool, true, false, not}
use mathlib.Core.List.{List, [], ◌++◌, map}
use lib.ListN.{length, get_or, take, drop, set, length-drop, length-map, get_or-map}
use native.Mathlib.Omega.{arith}
use borrow.Author.Tests.{lt-ltb}
use lib.Dec.{eqb}
use Rattle.lists.specs.Choice.{pick}
use Rattle.lists.specs.Lists.{both, first, without}
use Rattle.lists.specs.Parts.{over}
use Rattle.lists.specs.Words.{same_words}
use Rattle.lists.specs.declared.words.Words.{Words}
use Rattle.lists.proofs.Lists.{first-map, first-same, map-set, map-without}
use Rattle.desk.specs.Letter.{same_identifier}
use Rattle.terms.specs.Means.{fits, oldest}
use Rattle.terms.specs.Terms.{identifier_in, terms_of}
use Rattle.terms.specs.declared.request.Names.{Names}
use Rattle.terms.proofs.MeansLaws.{oldest-map}
use Rattle.store.specs.declared.For.{For}
use Rattle.store.specs.Rows.{live, free, has_identifier, fits_row, is_for, rows, put_row, turn_row, drop_row, blank_row, rows_fit, found, found_fitting, live_at, removed_row}
use Rattle.store.proofs.RowsLaws.{place-within, get_d_past, rows-length, rows_at, rows-put, turned, turned-length, turn-put, put-turn, rows_drop}

-- where the rows fit, a search is that of the rows, and a row that is there is taken out
pub found-fit : (test : List ℕ → Bool) (width count : ℕ) (ws : List ℕ) → rows_fit width count (length ws) ≡ true → found test width count ws ≡ first test (rows width count ws)
unfolding found
found-fit test width count ws fit = rw fit

pub removed-fit : (width count : ℕ) (ws : List ℕ) (i : ℕ) → rows_fit width count (length ws) ≡ true → i < count → removed_row width count ws i ≡ drop_row width count ws i
unfolding removed_row
removed-fit width count ws i fit h = rw (fit, lt-ltb i count h)

-- where it is known whether a row is live: what an identifier finds, and what is free
-- low word, high word, flag and state, against the identifier that stands in the words
identified-by :
    (low high flag used : Bool) (own other : Words) → same_words own other ≡ both low high →
    both low (both high (both flag used)) ≡ both (same_identifier (pick flag (Some own) None) (Some other)) used
identified-by true true true used own other e = rw e
identified-by true true false used own other e = refl
identified-by true false true used own other e = rw e
identified-by true false false used own other e = refl
identified-by false high true used own other e = rw e
identified-by false high false used own other e = refl

pub identified-live :
    (top : ℕ) (identifier : Words) (row : List ℕ) (used : Bool) → live top row ≡ used →
    has_identifier top identifier row ≡ both (same_identifier (identifier_in row) (Some identifier)) used
unfolding has_identifier same_words
identified-live top identifier row used e =
    let low : Bool = eqb (get_or row 1 0) identifier.low in
    let high : Bool = eqb (get_or row 2 0) identifier.high in
    let flag : Bool = eqb (get_or row 0 0) 1 in
    ap (λ (b : Bool). both low (both high (both flag b))) e
    ∙ identified-by low high flag used (record { low = get_or row 1 0; high = get_or row 2 0 }) identifier refl

-- what fits
pub fits-live :
    (top : ℕ) (names : Names) (row : List ℕ) (used : Bool) → live top row ≡ used → fits_row top names row ≡ both used (fits names (terms_of row))
unfolding fits_row
fits-live top names row used e = rw e

pub free-live : (top : ℕ) (row : List ℕ) (used : Bool) → live top row ≡ used → free top row ≡ pick used false true
unfolding free
free-live top row used e = rw e (turned used)
  where
    turned : (b : Bool) → not b ≡ pick b false true
    turned true = refl
    turned false = refl

module _ {A : Type 0} (width count : ℕ) (decode : List ℕ → A) where
  pub decoded_length : (ws : List ℕ) → length (map decode (rows width count ws)) ≡ count
  decoded_length ws = length-map (rows width count ws) decode ∙ rows-length width count ws

  -- past the last place
  pub decoded_past : (ws : List ℕ) (i : ℕ) → count ≤ i → get_or (map decode (rows width count ws)) i (decode []) ≡ decode []
  decoded_past ws i h = get_d_past (map decode (rows width count ws)) i (decode []) (omega (arith, decoded_length ws))

  -- a search by a test of the words that is a test of the record
  pub decoded_found :
      (test : List ℕ → Bool) (passes : A → Bool) → ((row : List ℕ) → test row ≡ passes (decode row)) → (ws : List ℕ) →
      rows_fit width count (length ws) ≡ true → found test width count ws ≡ first passes (map decode (rows width count ws))
  decoded_found test passes same ws fit =
      found-fit test width count ws fit
      ∙ first-same test (λ row. passes (decode row)) (rows width count ws) same
      ∙ sym (first-map decode passes (rows width count ws))

  -- the oldest that fits, by tests of the words that are tests of the record
  pub decoded_oldest :
      (states : For) (top : ℕ) (names : Names) (fit ready : A → Bool) → ((row : List ℕ) → fits_row top names row ≡ fit (decode row)) →
      ((row : List ℕ) → is_for states row ≡ ready (decode row)) → (ws : List ℕ) → rows_fit width count (length ws) ≡ true →
      found_fitting states top names width count ws ≡ oldest fit ready (map decode (rows width count ws))
  unfolding found_fitting
  decoded_oldest states top names fit ready same_fit same_ready ws fitting =
      rw fitting (oldest-map decode (fits_row top names) (is_for states) fit ready same_fit same_ready (rows width count ws))

  -- whether the record of a place is in use
  pub decoded_live :
      (top : ℕ) (used : A → Bool) → ((row : List ℕ) → live top row ≡ used (decode row)) → (ws : List ℕ) (i : ℕ) →
      rows_fit width count (length ws) ≡ true → live_at top width count ws i ≡ used (get_or (map decode (rows width count ws)) i (decode []))
  unfolding live_at
  decoded_live top used same ws i fitting =
      rw fitting (same (get_or (rows width count ws) i []) ∙ ap used (sym (get_or-map decode (rows width count ws) i [])))

  -- the record of a place, where a record reads no word behind its row
  pub decoded_at :
      ((row : List ℕ) → decode (take width row) ≡ decode row) → (ws : List ℕ) (i : ℕ) → i < count →
      get_or (map decode (rows width count ws)) i (decode []) ≡ decode (drop (i * width) ws)
  decoded_at front ws i h =
      get_or-map decode (rows width count ws) i [] ∙ ap decode (rows_at width count ws i [] h) ∙ front (drop (i * width) ws)

  -- a record put at a place: its words are those of a row, and read as the record
  pub decoded_put :
      (ws row : List ℕ) (i : ℕ) (r : A) → decode row ≡ r → length row ≡ width → i < count → count * width ≤ length ws →
      map decode (rows width count (put_row width ws i row)) ≡ set (map decode (rows width count ws)) i r
  decoded_put ws row i r back size h fits =
      ap (map decode) (rows-put width count ws i row size h fits)
      ∙ map-set decode (rows width count ws) i row
      ∙ ap (λ (x : A). set (map decode (rows width count ws)) i x) back

  -- the record of a place turned: with those words put anew, its row reads as the record turned so
  pub decoded_turn :
      (from : ℕ) (words : List ℕ) (turns : A → A) →
      ((row : List ℕ) → width ≤ length row → decode (take from row ++ over words (drop from row)) ≡ turns (decode row)) →
      ((row : List ℕ) → decode (take width row) ≡ decode row) → (ws : List ℕ) (i : ℕ) → from + length words ≤ width → i < count → count * width ≤ length ws →
      map decode (rows width count (turn_row width ws i from words))
      ≡ set (map decode (rows width count ws)) i (turns (get_or (map decode (rows width count ws)) i (decode [])))
  decoded_turn from words turns reads front ws i within h fits =
      let row = turned width count ws i from words within h fits in
      let back : decode (take width row) ≡ turns (get_or (map decode (rows width count ws)) i (decode [])) =
      front row
      ∙ reads (drop (i * width) ws) (simp length-drop (omega (arith, place-within width count i (length ws) h fits)))
      ∙ ap turns (sym (decoded_at front ws i h)) in
      ap (λ (v : List ℕ). map decode (rows width count v)) (turn-put width count ws i from words within h fits)
      ∙ decoded_put ws (take width row) i _ back (turned-length width count ws i from words within h fits) h fits

  -- a record put at a place, over the front of the row there: with its words there any row reads as the record
  pub decoded_over :
      (words : List ℕ) (r : A) → ((row : List ℕ) → width ≤ length row → decode (over words row) ≡ r) → ((row : List ℕ) → decode (take width row) ≡ decode row) →
      (ws : List ℕ) (i : ℕ) → length words ≤ width → i < count → count * width ≤ length ws →
      map decode (rows width count (put_row width ws i words)) ≡ set (map decode (rows width count ws)) i r
  decoded_over words r reads front ws i within h fits =
      ap (λ (v : List ℕ). map decode (rows width count v)) (put-turn width ws i words) ∙ decoded_turn 0 words (λ x. r) reads front ws i (omega arith) h fits

  -- a record taken out: a row of zeros reads as no words do
  pub decoded_drop :
      decode (blank_row width) ≡ decode [] → (ws : List ℕ) (i : ℕ) → i < count → count * width ≤ length ws →
      map decode (rows width count (drop_row width count ws i)) ≡ without (decode []) (map decode (rows width count ws)) i
  decoded_drop blank ws i h fits =
      ap (map decode) (rows_drop width count ws i h fits)
      ∙ map-without decode (blank_row width) (rows width count ws) i
      ∙ ap (λ (x : A). without x (map decode (rows width count ws)) i) blank
