-- Laws of specs/Rows.antt, over any width and count: rows of joined words are joined rows, and the rest follows from that. Assumes nothing.
use Rattle.std.specs.Prelude.{Some, None}
use Prim.Native.Nat.{ℕ, zero, suc, ◌+◌, ◌-◌, ◌*◌, ◌≤◌, ◌<◌}
use mathlib.Core.Bool.{Bool, true, false}
use mathlib.Core.List.{List, [], ◌∷◌, ◌++◌, append_assoc}
use mathlib.Core.Path.{◌≡◌, refl, sym, ap, ◌∙◌}
use native.Mathlib.Nat.{not-suc-le-zero, le_of_suc-le-suc, mul-le-mul_right, zero-mul, zero-add, add-suc}
use native.Mathlib.Numerals.{add-one}
use native.Mathlib.Omega.{arith}
use borrow.Author.Tests.{eqb-true, ltb-true, leb-true, eq-eqb, lt-ltb, le-leb}
use lib.Dec.{leb, ltb, eqb}
use lib.ListN.{length, get_or, take, drop, set, replicate, length-append, length-drop, length-replicate, get_or-replicate, take-append-drop, replicate-append-replicate}
use lib.Seq.{length-take-le, take_all, drop-drop, take-add, take_at, drop_at, drop-append-add, set_at, set_split, get_or-take, get_or-drop, sets, sets-eq}
use Rattle.lists.specs.Lists.{both, first, without}
use Rattle.lists.specs.Parts.{over}
use Rattle.lists.specs.declared.words.Words.{Words}
use Rattle.lists.proofs.Lists.{both_parts, first_below, first_holds, first-earlier, first-none}
use Rattle.terms.specs.Terms as Terms
use Rattle.store.specs.Rows.{state_word, live, free, has_identifier, rows, row_at, put_row, turn_row, blank_row, drop_row, most, rows_fit}

-- ---- places: row i ends within the rows, and the rows behind it are the rest
pub place-within : (width count i n : ℕ) → i < count → count * width ≤ n → i * width + width ≤ n
place-within width count i n h fits =
    let k : (i + 1) * width ≤ count * width = mul-le-mul_right width (omega arith) in
    omega arith

pub place_rest : (width count i : ℕ) → i < count → i * width + width + (count - (i + 1)) * width ≡ count * width
place_rest width count i h =
    let e : i + 1 + (count - (i + 1)) ≡ count = omega arith in
    let p : (i + 1 + (count - (i + 1))) * width ≡ count * width = ap (λ (n : ℕ). n * width) e in
    omega arith

-- ---- rows that fit
pub fit_parts : (width count n : ℕ) → rows_fit width count n ≡ true → (Terms.width < width) × (count * width ≤ n)
unfolding rows_fit
fit_parts width count n e =
    let a = both_parts (ltb Terms.width width) (both (leb width most) (both (leb count most) (leb (count * width) n))) e in
    let b = both_parts (leb width most) (both (leb count most) (leb (count * width) n)) a.1 in
    let d = both_parts (leb count most) (leb (count * width) n) b.1 in
    (ltb-true _ _ a.0, leb-true _ _ d.1)

pub fit-from : (width count n : ℕ) → Terms.width < width → width ≤ most → count ≤ most → count * width ≤ n → rows_fit width count n ≡ true
unfolding rows_fit
fit-from width count n a b d e = rw (lt-ltb Terms.width width a, le-leb width most b, le-leb count most d, le-leb (count * width) n e)

-- ---- lists of anything
-- past its end
pub get_d_past : {A : Type 0} (xs : List A) (i : ℕ) (d : A) → length xs ≤ i → get_or xs i d ≡ d
get_d_past [] i d h = refl
get_d_past (x ∷ xs) zero d h = absurd (omega (arith, h))
get_d_past (x ∷ xs) (suc i) d h = get_d_past xs i d (omega (arith, h))

-- the n-th taken out, where what stands before it is known
without_at :
    {A : Type 0} (z : A) (xs : List A) (y : A) (ys : List A) (n : ℕ) → length xs ≡ n →
    without z (xs ++ (y ∷ ys)) n ≡ xs ++ (ys ++ (z ∷ []))
unfolding without
without_at z [] y ys n e = rw (← e)
without_at {A} z (x ∷ xs) y ys n e = rw (← e) (ap {B = List A} (λ r. x ∷ r) (without_at z xs y ys (length xs) refl))

-- words over a part: what stands behind them stays
pub over-behind : (n a : ℕ) (row ws : List ℕ) → a + length row ≤ n → a ≤ length ws → drop n (take a ws ++ over row (drop a ws)) ≡ drop n ws
over-behind n a row ws h f =
    let front = take a ws ++ row in
    let rest = drop (length row) (drop a ws) in
    let m = n - (a + length row) in
    let l : length front ≡ a + length row = length-append (take a ws) row ∙ ap (λ (k : ℕ). k + length row) (length-take-le a ws f) in
    let e : n ≡ length front + m = omega arith in
    let s : a + (length row + m) ≡ n = omega arith in
    ap (drop n) (sym (append_assoc (take a ws) row rest))
    ∙ ap (λ (k : ℕ). drop k (front ++ rest)) e
    ∙ drop-append-add front rest m
    ∙ drop-drop m (length row) (drop a ws)
    ∙ drop-drop (length row + m) a ws
    ∙ ap (λ (k : ℕ). drop k ws) s

-- words stored one by one, j words behind word k and on: at a literal j it computes to the stores of straight-line code
abbrev pub stores : List ℕ → ℕ → ℕ → List ℕ → List ℕ
stores ws k j [] = ws
stores ws k j (x ∷ xs) = stores (set ws (k + j) x) k (suc j) xs

stores-sets : (xs ws : List ℕ) (k j : ℕ) → stores ws k j xs ≡ sets ws (k + j) xs
stores-sets [] ws k j = refl
stores-sets (x ∷ xs) ws k j = stores-sets xs (set ws (k + j) x) k (suc j) ∙ rw (add-suc k j)

-- ---- what a row's tests say of its words
pub live_state : (top : ℕ) (row : List ℕ) → live top row ≡ true → (0 < state_word row) × (state_word row ≤ top)
unfolding live
live_state top row e =
    let h = both_parts (ltb 0 (state_word row)) (leb (state_word row) top) e in
    (ltb-true _ _ h.0, leb-true _ _ h.1)

pub state-live : (top : ℕ) (row : List ℕ) → 0 < state_word row → state_word row ≤ top → live top row ≡ true
unfolding live
state-live top row a b = rw (lt-ltb 0 (state_word row) a, le-leb (state_word row) top b)

pub identifier_parts :
    (top : ℕ) (identifier : Words) (row : List ℕ) → has_identifier top identifier row ≡ true →
    (get_or row 1 0 ≡ identifier.low) × ((get_or row 2 0 ≡ identifier.high) × ((get_or row 0 0 ≡ 1) × (live top row ≡ true)))
unfolding has_identifier
identifier_parts top identifier row e =
    let there = both (eqb (get_or row 0 0) 1) (live top row) in
    let a = both_parts (eqb (get_or row 1 0) identifier.low) (both (eqb (get_or row 2 0) identifier.high) there) e in
    let b = both_parts (eqb (get_or row 2 0) identifier.high) there a.1 in
    let d = both_parts (eqb (get_or row 0 0) 1) (live top row) b.1 in
    (eqb-true _ _ a.0, (eqb-true _ _ b.0, (eqb-true _ _ d.0, d.1)))

pub parts_identifier :
    (top : ℕ) (identifier : Words) (row : List ℕ) → get_or row 1 0 ≡ identifier.low → get_or row 2 0 ≡ identifier.high → get_or row 0 0 ≡ 1 →
    live top row ≡ true → has_identifier top identifier row ≡ true
unfolding has_identifier
parts_identifier top identifier row a b d l =
    rw (eq-eqb (get_or row 1 0) identifier.low a, eq-eqb (get_or row 2 0) identifier.high b, eq-eqb (get_or row 0 0) 1 d, l)

module _ (width : ℕ) where
  -- ---- as many rows as are counted, and which row stands at a place
  pub rows-length : (count : ℕ) (ws : List ℕ) → length (rows width count ws) ≡ count
  unfolding rows
  rows-length zero ws = refl
  rows-length (suc n) ws = ap suc (rows-length n (drop width ws))

  pub rows_at :
      (count : ℕ) (ws : List ℕ) (i : ℕ) (d : List ℕ) → i < count → get_or (rows width count ws) i d ≡ row_at width ws i
  unfolding rows
  rows_at zero ws i d h = absurd (not-suc-le-zero h)
  rows_at (suc n) ws zero d h = rw (zero-mul width)
  rows_at (suc n) ws (suc i) d h =
      let e : width + i * width ≡ suc i * width = omega arith in
      rows_at n (drop width ws) i d (le_of_suc-le-suc h) ∙ rw (drop-drop, e)

  pub row-length : (ws : List ℕ) (i : ℕ) → (i + 1) * width ≤ length ws → length (row_at width ws i) ≡ width
  row-length ws i h = length-take-le width (drop (i * width) ws) (simp length-drop (omega arith))

  -- a word of a row
  pub row_word : (ws : List ℕ) (i k : ℕ) → k < width → get_or (row_at width ws i) k 0 ≡ get_or ws (i * width + k) 0
  row_word ws i k h = get_or-take width (drop (i * width) ws) k 0 h ∙ get_or-drop (i * width) ws k 0

  -- ---- joined words
  rows_split : (m n : ℕ) (ws : List ℕ) → rows width (m + n) ws ≡ rows width m ws ++ rows width n (drop (m * width) ws)
  unfolding rows
  rows_split zero n ws = rw (zero-mul width, zero-add n)
  rows_split (suc m) n ws =
      let e : width + m * width ≡ suc m * width = omega arith in
      let c : suc m + n ≡ suc (m + n) = omega arith in
      rw c (ap {B = List (List ℕ)} (λ r. take width ws ∷ r) (rows_split m n (drop width ws) ∙ rw (drop-drop, e)))

  rows_behind :
      (m n : ℕ) (ws rest : List ℕ) → m * width ≤ length ws →
      rows width (m + n) (take (m * width) ws ++ rest) ≡ rows width m ws ++ rows width n rest
  unfolding rows
  rows_behind zero n ws rest h = rw (zero-mul width, zero-add n)
  rows_behind (suc m) n ws rest h =
      let e : suc m * width ≡ width + m * width = omega arith in
      let c : suc m + n ≡ suc (m + n) = omega arith in
      let front = take width ws in
      let behind = take (m * width) (drop width ws) ++ rest in
      let l : length front ≡ width = length-take-le width ws (omega arith) in
      let s : take (suc m * width) ws ++ rest ≡ front ++ behind = rw (e, take-add, append_assoc) in
      rw (c, s, take_at front behind width l, drop_at front behind width l)
      (ap {B = List (List ℕ)} (λ r. front ∷ r) (rows_behind m n (drop width ws) rest (simp length-drop (omega arith))))

  -- one row and what stands behind it
  pub rows_cons : (n : ℕ) (row rest : List ℕ) → length row ≡ width → rows width (suc n) (row ++ rest) ≡ row ∷ rows width n rest
  unfolding rows
  rows_cons n row rest l = rw (take_at row rest width l, drop_at row rest width l)

  -- words behind the rows tell nothing of them
  pub rows_front : (n : ℕ) (ws : List ℕ) → n * width ≤ length ws → rows width n (take (n * width) ws) ≡ rows width n ws
  unfolding rows
  rows_front zero ws h = refl
  rows_front (suc n) ws h =
      let e : suc n * width ≡ width + n * width = omega arith in
      ap (rows width (suc n)) (ap (λ (k : ℕ). take k ws) e ∙ take-add width (n * width) ws)
      ∙ rows_cons n (take width ws) (take (n * width) (drop width ws)) (length-take-le width ws (omega arith))
      ∙ ap {B = List (List ℕ)} (λ r. take width ws ∷ r) (rows_front n (drop width ws) (simp length-drop (omega arith)))

  -- ---- a row put at a place
  put_parts :
      (i n : ℕ) (ws row : List ℕ) → length row ≡ width → (i + suc n) * width ≤ length ws →
      rows width (i + suc n) (put_row width ws i row) ≡ set (rows width (i + suc n) ws) i row
  unfolding put_row rows
  put_parts i n ws row l h =
      rows_behind i (suc n) ws (over row (drop (i * width) ws)) (omega arith)
      ∙ rw (rows_cons n row (drop (length row) (drop (i * width) ws)) l, l, rows_split i (suc n) ws)
      (sym (set_at (rows width i ws) (row_at width ws i) (rows width n (drop width (drop (i * width) ws))) row i (rows-length i ws)))

  pub rows-put :
      (count : ℕ) (ws : List ℕ) (i : ℕ) (row : List ℕ) → length row ≡ width → i < count → count * width ≤ length ws →
      rows width count (put_row width ws i row) ≡ set (rows width count ws) i row
  rows-put count ws i row l h fits =
      let c : count ≡ i + suc (count - suc i) = omega arith in
      rw c (put_parts i (count - suc i) ws row l (rw (← c) fits))

  pub put-length :
      (count : ℕ) (ws : List ℕ) (i : ℕ) (row : List ℕ) → length row ≡ width → i < count → count * width ≤ length ws →
      length (put_row width ws i row) ≡ length ws
  unfolding put_row
  put-length count ws i row l h fits =
      let k = place-within width count i (length ws) h fits in
      simp (length-append, length-drop) (omega (arith, length-take-le (i * width) ws (omega arith)))

  -- ---- words of a row put anew: the same as the row put that has them and is else the one there
  module _ (count : ℕ) (ws : List ℕ) (i from : ℕ) (words : List ℕ) (within : from + length words ≤ width) (h : i < count) (fits : count * width ≤ length ws) where
    abbrev behind : List ℕ
    behind = drop (i * width) ws

    abbrev pub turned : List ℕ
    turned = take from behind ++ over words (drop from behind)

    room : width ≤ length behind
    room = simp length-drop (omega (arith, place-within width count i (length ws) h fits))

    pub turned-length : length (take width turned) ≡ width
    turned-length =
        let l : length turned ≡ length behind =
        simp (length-append, length-drop) (omega (arith, room, length-drop (i * width) ws, length-take-le from behind (omega (arith, room)))) in
        length-take-le width turned (omega (arith, room))

    pub turn-put : turn_row width ws i from words ≡ put_row width ws i (take width turned)
    unfolding turn_row put_row
    turn-put =
        rw (turned-length, take-add (i * width) from ws, ← drop-drop from (i * width) ws, ← over-behind width from words behind within (omega (arith, room)), take-append-drop width turned)
        (simp append_assoc)

    pub turn-length : length (turn_row width ws i from words) ≡ length ws
    turn-length = ap length turn-put ∙ put-length count ws i (take width turned) turned-length h fits

  -- a row put at a place is words of it put anew from the first on; where they are fewer than a row, what stands behind them stays
  pub put-turn : (ws : List ℕ) (i : ℕ) (words : List ℕ) → put_row width ws i words ≡ turn_row width ws i 0 words
  unfolding put_row turn_row
  put-turn ws i words =
      let same : i * width ≡ i * width + 0 = omega arith in
      ap (λ (k : ℕ). take k ws ++ over words (drop k ws)) same

  -- and so is one word
  pub set-turn : (ws : List ℕ) (i from x : ℕ) → i * width + from < length ws → set ws (i * width + from) x ≡ turn_row width ws i from (x ∷ [])
  unfolding turn_row
  set-turn ws i from x h =
      let at = i * width + from in
      let next : drop (suc at) ws ≡ drop 1 (drop at ws) = sym (drop-drop 1 at ws ∙ ap (λ (k : ℕ). drop k ws) (add-one at)) in
      set_split ws at x h ∙ ap (λ (t : List ℕ). take at ws ++ (x ∷ t)) next

  -- a row stored word by word, as straight-line code leaves it
  pub put-words :
      (ws : List ℕ) (i x : ℕ) (xs : List ℕ) → i * width + suc (length xs) ≤ length ws →
      stores (set ws (i * width) x) (i * width) 1 xs ≡ put_row width ws i (x ∷ xs)
  unfolding put_row
  put-words ws i x xs h =
      stores-sets xs (set ws (i * width) x) (i * width) 1
      ∙ rw add-one (sets-eq (x ∷ xs) ws (i * width) h ∙ rw (append_assoc, drop-drop))

  -- ---- a row taken out
  -- n rows and a blank one behind them
  rows_last :
      (n : ℕ) (ws rest : List ℕ) → n * width ≤ length ws →
      rows width (suc n) (take (n * width) ws ++ (blank_row width ++ rest)) ≡ rows width n ws ++ (blank_row width ∷ [])
  unfolding rows
  rows_last n ws rest h =
      ap (λ (k : ℕ). rows width k (take (n * width) ws ++ (blank_row width ++ rest))) (sym (add-one n))
      ∙ rows_behind n 1 ws (blank_row width ++ rest) h
      ∙ rw (rows_cons 0 (blank_row width) rest (length-replicate width 0))

  drop_parts :
      (i n : ℕ) (ws rest : List ℕ) → (i + suc n) * width ≤ length ws →
      rows width (i + suc n) (take (i * width) ws ++ (take (n * width) (drop ((i + 1) * width) ws) ++ (blank_row width ++ rest)))
      ≡ without (blank_row width) (rows width (i + suc n) ws) i
  unfolding rows
  drop_parts i n ws rest h =
      let later = drop ((i + 1) * width) ws in
      let e : (i + 1) * width ≡ i * width + width = omega arith in
      let d : drop width (drop (i * width) ws) ≡ later = rw (drop-drop, e) in
      rows_behind i (suc n) ws (take (n * width) later ++ (blank_row width ++ rest)) (omega arith)
      ∙ rw (rows_last n later rest (simp length-drop (omega arith)), rows_split i (suc n) ws, d)
      (sym (without_at (blank_row width) (rows width i ws) (row_at width ws i) (rows width n later) i (rows-length i ws)))

  pub rows_drop :
      (count : ℕ) (ws : List ℕ) (i : ℕ) → i < count → count * width ≤ length ws →
      rows width count (drop_row width count ws i) ≡ without (blank_row width) (rows width count ws) i
  unfolding drop_row
  rows_drop count ws i h fits =
      let n = count - (i + 1) in
      let c : i + suc n ≡ count = omega arith in
      simp append_assoc (rw c at (drop_parts i n ws (drop (count * width) ws) (rw c fits)))

  pub drop-length :
      (count : ℕ) (ws : List ℕ) (i : ℕ) → i < count → count * width ≤ length ws → length (drop_row width count ws i) ≡ length ws
  unfolding drop_row
  drop-length count ws i h fits =
      let k = place_rest width count i h in
      let later = drop ((i + 1) * width) ws in
      let n = (count - (i + 1)) * width in
      let a : length (take (i * width) ws) ≡ i * width = length-take-le (i * width) ws (omega arith) in
      let b : length (take n later) ≡ n = length-take-le n later (simp length-drop (omega arith)) in
      simp (length-append, a, b, length-replicate, length-drop) (omega arith)

  -- ---- the rows say all of the words, and blank words are blank rows
  pub rows_tell :
      (count : ℕ) (ws vs : List ℕ) → length ws ≡ count * width → length vs ≡ count * width →
      rows width count ws ≡ rows width count vs → ws ≡ vs
  unfolding rows
  rows_tell zero ws vs lw lv e = sym (take_all 0 ws (omega arith)) ∙ take_all 0 vs (omega arith)
  rows_tell (suc n) ws vs lw lv e =
      let a : take width ws ≡ take width vs = cc in
      let t : rows width n (drop width ws) ≡ rows width n (drop width vs) = cc in
      let b = rows_tell n (drop width ws) (drop width vs) (simp length-drop (omega arith)) (simp length-drop (omega arith)) t in
      sym (take-append-drop width ws) ∙ rw (a, b) (take-append-drop width vs)

  pub rows-blank : (count : ℕ) → rows width count (replicate (count * width) 0) ≡ replicate count (blank_row width)
  unfolding rows
  rows-blank zero = refl
  rows-blank (suc n) =
      let e : suc n * width ≡ width + n * width = omega arith in
      rw (e, ← replicate-append-replicate {A = ℕ} width (n * width) 0)
      (rows_cons n (blank_row width) (replicate (n * width) 0) (length-replicate width 0)
      ∙ ap {B = List (List ℕ)} (λ r. blank_row width ∷ r) (rows-blank n))

  -- ---- whether a row is live is told by no word behind its state
  pub live-take : Terms.width < width → (top : ℕ) (row : List ℕ) → live top (take width row) ≡ live top row
  unfolding live
  live-take wide top row = rw (get_or-take width row Terms.width 0)

  -- the place of a blank row is free
  pub blank-free : Terms.width < width → (top : ℕ) → free top (blank_row width) ≡ true
  unfolding free live
  blank-free wide top = rw (get_or-replicate {A = ℕ} width Terms.width 0 0 wide)

  -- ---- what a search of the rows says of the places, by any test
  module _ (p : List ℕ → Bool) (count : ℕ) (ws : List ℕ) where
    pub found_below : (i : ℕ) → first p (rows width count ws) ≡ Some i → i < count
    found_below i e = let k = first_below p 0 (rows width count ws) i e in omega (arith, rows-length count ws)

    pub found-row : (i : ℕ) → first p (rows width count ws) ≡ Some i → p (row_at width ws i) ≡ true
    found-row i e = ap p (sym (rows_at count ws i [] (found_below i e))) ∙ first_holds p (rows width count ws) i [] e

    pub found-earlier : (i : ℕ) → first p (rows width count ws) ≡ Some i → (j : ℕ) → j < i → p (row_at width ws j) ≡ false
    found-earlier i e j h =
        let k = found_below i e in
        ap p (sym (rows_at count ws j [] (omega arith))) ∙ first-earlier p (rows width count ws) i [] e j h

    pub found_none : first p (rows width count ws) ≡ None → (j : ℕ) → j < count → p (row_at width ws j) ≡ false
    found_none e j h =
        ap p (sym (rows_at count ws j [] h))
        ∙ first-none p (rows width count ws) [] e j (omega (arith, rows-length count ws))
