-- What a search of the rows answers, chunk by chunk: a chunk that comes is the first row that is left. Assumes nothing.
use Rattle.std.specs.Prelude.{Option, Some, None, MatchOption, cond}
use Prim.Native.Nat.{ℕ, zero, suc, ◌+◌, ◌-◌, ◌*◌, ◌≤◌, ◌<◌}
use mathlib.Core.Bool.{Bool, true, false, not}
use mathlib.Core.List.{List, [], ◌∷◌}
use mathlib.Core.Path.{◌≡◌, refl, sym, ap, ◌∙◌}
use native.Mathlib.Nat.{zero-add}
use native.Mathlib.Omega.{arith}
use denote.Param.Members.{Mut}
use denote.Ref.{Bor}
use lib.Dec.{ltb}
use lib.ListN.{length, take, drop, length-append}
use lib.Seq.{length-take-le}
use Rattle.std.specs.Fn.{Called}
use Rattle.std.specs.Iterator.{AlwaysYields, YieldsThen}
use Rattle.std.specs.List.{FoldsTo, position_or_len}
use Rattle.std.specs.Slice.Iter.{chunks_exact_rest, chunks_exact_size, chunks_exact_steps}
use Rattle.std.proofs.lemmas.Bool.Decides.{nat_tests}
use Rattle.std.proofs.lemmas.Iterator.Search.{position_from_yields_List}
use Rattle.lists.specs.Choice.{pick}
use Rattle.lists.specs.Lists.{both, first, first_from}
use Rattle.lists.proofs.Parts.{tail_of_lem}
use Rattle.terms.specs.Means.{means_of, oldest}
use Rattle.terms.specs.declared.means.Means.{Means}
use Rattle.terms.specs.declared.request.Names.{Names}
use Rattle.store.specs.declared.For.{For}
use Rattle.store.specs.Rows.{live, fits_row, is_for, rows, rows_fit, found, found_fitting, live_at}
use Rattle.store.proofs.RowsLaws.{fit_parts, get_d_past, rows-length, rows_at, rows_cons, rows_front, live-take}

-- ---- the place that `position` answers is that of the first that passes
turn : (b : Bool) (k p n : ℕ) (r : Option ℕ) → cond (ltb p n) (Some (suc k + p)) None ≡ r →
    cond (ltb (cond (not b) (1 + p) 0) (suc n)) (Some (k + cond (not b) (1 + p) 0)) None ≡ pick b (Some k) r
turn true k p n r e = grind (arith, nat_tests)
turn false k p n r e = grind (arith, nat_tests)

position_from : (test : List ℕ → Bool) (k : ℕ) (xs : List (List ℕ)) →
    cond (ltb (position_or_len test xs) (length xs)) (Some (k + position_or_len test xs)) None ≡ first_from test k xs
unfolding first_from
position_from test k [] = refl
position_from test k (x ∷ xs) = turn (test x) k (position_or_len test xs) (length xs) (first_from test (suc k) xs) (position_from test (suc k) xs)

position_first : (test : List ℕ → Bool) (xs : List (List ℕ)) →
    cond (ltb (position_or_len test xs) (length xs)) (Some (position_or_len test xs)) None ≡ first test xs
position_first test xs =
    let n = position_or_len test xs in
    ap (λ (k : ℕ). cond (ltb n (length xs)) (Some k) None) (sym (zero-add n)) ∙ position_from test 0 xs

-- ---- the chunks of so many rows' words
-- a chunk comes: it is the first row that is left, and the others stand behind it
pub record Chunk (width n : ℕ) (ws row rest : List ℕ) : Type 0 where
  pub left : ℕ
  pub fewer : n ≡ suc left
  pub long : length rest ≡ left * width
  pub split : rows width n ws ≡ row ∷ rows width left rest

module _ (width : ℕ) (wide : 0 < width) (s t : _) (size : chunks_exact_size {T = ℕ} s ≡ width) where
  pub chunk_comes : (n : ℕ) (x : Bor (List ℕ)) → length (chunks_exact_rest s) ≡ n * width → chunks_exact_steps s (Some x) t →
      Chunk width n (chunks_exact_rest s) x.now (chunks_exact_rest t)
  chunk_comes zero x long p =
      let l = ap length p.1.0 ∙ length-append x.now (chunks_exact_rest t) in
      absurd (omega (arith, l, p.1.1, long, size))
  chunk_comes (suc n) x long p =
      let l = ap length p.1.0 ∙ length-append x.now (chunks_exact_rest t) in
      record {
        left = n;
        fewer = refl;
        long = omega (arith, l, p.1.1, long, size);
        split = ap (rows width (suc n)) p.1.0 ∙ rows_cons width n x.now (chunks_exact_rest t) (p.1.1 ∙ size);
      }

  pub chunks_end : (n : ℕ) → length (chunks_exact_rest s) ≡ n * width → chunks_exact_steps s None t → n ≡ 0
  chunks_end zero long p = refl
  chunks_end (suc n) long p = absurd (omega (arith, p.1.0, long, size))

chunks_give :
    (width : ℕ) (wide : 0 < width) (xs : List (List ℕ)) (n : ℕ) (s : _) → chunks_exact_size s ≡ width → length (chunks_exact_rest s) ≡ n * width →
    xs ≡ rows width n (chunks_exact_rest s) → AlwaysYields chunks_exact_steps (λ x. x.now) s xs
chunks_give width wide [] n s size long e = λ x j p.
    let k = chunk_comes width wide s j size n x long p in
    let l : 0 ≡ n = ap length e ∙ rows-length width n (chunks_exact_rest s) in
    absurd (omega (arith, k.fewer, l))
chunks_give width wide (y ∷ ys) n s size long e = (
  (λ j p.
      let l : suc (length ys) ≡ n = ap length e ∙ rows-length width n (chunks_exact_rest s) in
      absurd (omega (arith, chunks_end width wide s j size n long p, l))),
  λ x j p.
      let k = chunk_comes width wide s j size n x long p in
      let same : y ∷ ys ≡ x.now ∷ rows width k.left (chunks_exact_rest j) = e ∙ k.split in
      let head : x.now ≡ y = cc in
      let tail : ys ≡ rows width k.left (chunks_exact_rest j) = cc in
      (head, chunks_give width wide ys k.left j (p.0 ∙ size) k.long tail),
)

-- ---- what `position` answers of the chunks
pub position_found :
    {F : Type 0} {g : Mut F (Bor (List ℕ) × Unit {0}) Bool} (test : List ℕ → Bool) (width count : ℕ) (ws : List ℕ) (s u : _) (f : F) (r : Option ℕ) →
    rows_fit width count (length ws) ≡ true → chunks_exact_rest s ≡ take (count * width) ws → length (chunks_exact_rest s) ≡ count * width → chunks_exact_size s ≡ width →
    (xs : List (Bor (List ℕ))) × (o : Option (Bor (List ℕ))) × (j : F) × YieldsThen chunks_exact_steps s xs o u × FoldsTo (λ p x q. Called g p (x, tt) false q) f xs j
    × MatchOption o (r ≡ None) (λ x. (r ≡ Some (length xs)) × ((h : F) × Called g j (x, tt) true h)) →
    ((x : Bor (List ℕ)) (b : Bool) (q : F) → Called g f (x, tt) b q → (q ≡ f) × (b ≡ test x.now)) → r ≡ found test width count ws
unfolding found
position_found test width count ws s u f r fit rest long size ran calls =
    let parts = fit_parts width count (length ws) fit in
    let wide : 0 < width = omega (arith, parts.0) in
    let same : rows width count ws ≡ rows width count (chunks_exact_rest s) = sym (ap (rows width count) rest ∙ rows_front width count ws parts.1) in
    rw fit
    (position_from_yields_List {steps = chunks_exact_steps {A = ℕ}} {s = s} test u f r ran (record { runs = chunks_give width wide (rows width count ws) count s size long same }) calls
    ∙ position_first test (rows width count ws))

-- ---- a search for the oldest row that fits and is ready: what it answers of the rows that are left, the first at place k, where one that fits was seen before, or none
abbrev pub oldest_from : (List ℕ → Bool) → (List ℕ → Bool) → Bool → ℕ → List (List ℕ) → Means
oldest_from fit ready some k rs = means_of (first_from (λ row. both (fit row) (ready row)) k rs) (pick some (Some 0) (first_from fit k rs))

oldest_start : (fit ready : List ℕ → Bool) (rs : List (List ℕ)) → oldest fit ready rs ≡ oldest_from fit ready false 0 rs
unfolding oldest
oldest_start fit ready rs = refl

-- any place that fits tells the same
any_fit : (some : Bool) (here : Option ℕ) (j : ℕ) → means_of here (pick some (Some 0) (Some j)) ≡ means_of here (Some 0)
any_fit some (Some k) j = refl
any_fit true None j = refl
any_fit false None j = refl

end_told : (some : Bool) → means_of None (pick some (Some 0) None) ≡ pick some Means.NotNow Means.Nothing
end_told true = refl
end_told false = refl

module _ (fit ready : List ℕ → Bool) (k next : ℕ) (e : next ≡ suc k) (row : List ℕ) (rs : List (List ℕ)) (some : Bool) where
  oldest_not_ready : fit row ≡ true → ready row ≡ false → oldest_from fit ready some k (row ∷ rs) ≡ oldest_from fit ready true next rs
  unfolding first_from
  oldest_not_ready f r = rw (f, r, e) (any_fit some (first_from (λ (v : List ℕ). both (fit v) (ready v)) (suc k) rs) k)

  oldest_miss : fit row ≡ false → oldest_from fit ready some k (row ∷ rs) ≡ oldest_from fit ready some next rs
  unfolding first_from
  oldest_miss f = rw (f, e)

oldest_hit :
    (fit ready : List ℕ → Bool) (k : ℕ) (row : List ℕ) (rs : List (List ℕ)) (some : Bool) → fit row ≡ true → ready row ≡ true →
    oldest_from fit ready some k (row ∷ rs) ≡ Means.At k
unfolding first_from
oldest_hit fit ready k row rs some f r = rw (f, r)

oldest_end : (fit ready : List ℕ → Bool) (k : ℕ) (some : Bool) → oldest_from fit ready some k [] ≡ pick some Means.NotNow Means.Nothing
unfolding first_from
oldest_end fit ready k some = end_told some

-- what is left of the search: so many rows, and what it answers of them
pub record Ahead (width : ℕ) (fit ready : List ℕ → Bool) (some : Bool) (k : ℕ) (rest : List ℕ) (answer : Means) : Type 0 where
  pub left : ℕ
  pub long : length rest ≡ left * width
  pub told : answer ≡ oldest_from fit ready some k (rows width left rest)

pub ahead_start :
    (states : For) (top : ℕ) (names : Names) (width count : ℕ) (ws rest : List ℕ) (k : ℕ) → rows_fit width count (length ws) ≡ true → k ≡ 0 →
    rest ≡ take (count * width) ws →
    Ahead width (fits_row top names) (is_for states) false k rest (found_fitting states top names width count ws)
unfolding found_fitting
ahead_start states top names width count ws rest k fit start same =
    let parts = fit_parts width count (length ws) fit in
    let rs : rows width count ws ≡ rows width count rest = sym (ap (rows width count) same ∙ rows_front width count ws parts.1) in
    record {
      left = count;
      long = ap length same ∙ length-take-le (count * width) ws parts.1;
      told = rw (fit, start, rs) (oldest_start (fits_row top names) (is_for states) (rows width count rest));
    }

module _
    (width : ℕ) (wide : 0 < width) (fit ready : List ℕ → Bool) (some : Bool) (k : ℕ) (answer : Means) (s t : _) (size : chunks_exact_size {T = ℕ} s ≡ width)
    (ahead : Ahead width fit ready some k (chunks_exact_rest s) answer)
  where
    module _ (x : Bor (List ℕ)) (comes : chunks_exact_steps s (Some x) t) where
      chunk : Chunk width ahead.left (chunks_exact_rest s) x.now (chunks_exact_rest t)
      chunk = chunk_comes width wide s t size ahead.left x ahead.long comes

      here : answer ≡ oldest_from fit ready some k (x.now ∷ rows width chunk.left (chunks_exact_rest t))
      here = ahead.told ∙ ap (oldest_from fit ready some k) chunk.split

      pub ahead_hit : fit x.now ≡ true → ready x.now ≡ true → answer ≡ Means.At k
      ahead_hit f r = here ∙ oldest_hit fit ready k x.now (rows width chunk.left (chunks_exact_rest t)) some f r

      pub ahead_not_ready : (next : ℕ) → next ≡ suc k → fit x.now ≡ true → ready x.now ≡ false → Ahead width fit ready true next (chunks_exact_rest t) answer
      ahead_not_ready next e f r = record {
        left = chunk.left;
        long = chunk.long;
        told = here ∙ oldest_not_ready fit ready k next e x.now (rows width chunk.left (chunks_exact_rest t)) some f r;
      }

      pub ahead_miss : (next : ℕ) → next ≡ suc k → fit x.now ≡ false → Ahead width fit ready some next (chunks_exact_rest t) answer
      ahead_miss next e f = record {
        left = chunk.left;
        long = chunk.long;
        told = here ∙ oldest_miss fit ready k next e x.now (rows width chunk.left (chunks_exact_rest t)) some f;
      }

    pub ahead_end : chunks_exact_steps s None t → answer ≡ pick some Means.NotNow Means.Nothing
    unfolding rows
    ahead_end done =
        let none : ahead.left ≡ 0 = chunks_end width wide s t size ahead.left ahead.long done in
        ahead.told ∙ ap (λ (n : ℕ). oldest_from fit ready some k (rows width n (chunks_exact_rest s))) none ∙ oldest_end fit ready k some

-- ---- the row of a place, and past the last place none
pub live_row :
    (top width count : ℕ) (ws all : List ℕ) (i : ℕ) → rows_fit width count (length ws) ≡ true → all ≡ take (count * width) ws → i < count →
    live_at top width count ws i ≡ live top (take (length all - i * width) (drop (i * width) all))
unfolding live_at
live_row top width count ws all i fit same h =
    let parts = fit_parts width count (length ws) fit in
    let rs : rows width count ws ≡ rows width count all = sym (ap (rows width count) same ∙ rows_front width count ws parts.1) in
    rw (fit, rs)
    (ap (live top) (rows_at width count all i [] h) ∙ live-take width parts.0 top (drop (i * width) all) ∙ ap (live top) (sym (tail_of_lem (i * width) all)))

pub live_past : (top width count : ℕ) (ws : List ℕ) (i : ℕ) → count ≤ i → live_at top width count ws i ≡ false
unfolding live_at live
live_past top width count ws i h = rw (get_d_past (rows width count ws) i [] (omega (arith, rows-length width count ws))) (pick_same (rows_fit width count (length ws)))
  where
    pick_same : (b : Bool) → pick b false false ≡ false
    pick_same true = refl
    pick_same false = refl
