-- The lengths of the timers stand behind the records, and no step changes a word there: so they are those of the start.
use Rattle.std.specs.Prelude.{Option, Some, None}
use Prim.Native.Nat.{ℕ, ◌+◌, ◌-◌, ◌*◌, ◌%◌, ◌≤◌, ◌<◌}
use mathlib.Core.Path.{◌≡◌, refl, sym, ap, ◌∙◌}
use mathlib.Core.Bool.{Bool, true}
use mathlib.Core.List.{List, [], ◌∷◌, ◌++◌}
use lib.ListN.{length, get_or, take, drop, replicate, length-append, length-drop, length-replicate}
use lib.Seq.{get_or-drop, drop_at, length-take-le}
use lib.Dec.{leb, ltb}
use native.Mathlib.Nat.{mod-eq_of_lt}
use native.Mathlib.Omega.{arith}
use borrow.Author.Tests.{leb-true, ltb-true}
use Rattle.lists.specs.Lists.{both}
use Rattle.lists.proofs.Choice.{pick_elim}
use Rattle.lists.proofs.Lists.{both_parts}
use Rattle.clock.specs.Clock.{turn}
use Rattle.message.specs.declared.Kind.{Kind}
use Rattle.message.specs.declared.Kind.TheVariants.{Ccbs, Ccnr}
use Rattle.desk.specs.declared.outcome.Timers.{Timers}
use Rattle.terms.specs.Terms.{choices_at}
use Rattle.store.specs.Rows.{turn_row, drop_row, removed_row, rows_fit, blank_row}
use Rattle.store.proofs.RowsLaws.{place_rest, over-behind, put-turn}
use Rattle.clerk_table.specs.declared.table.Timer.{Timer}
use Rattle.clerk_table.specs.declared.table.Timer.TheVariants.{T1, T2, T3}
use Rattle.clerk_table.specs.declared.record.Change.{Change}
use Rattle.clerk_table.specs.declared.record.Change.TheVariants.{Stay, Put, Turn, Remove}
use Rattle.desk.specs.declared.plan.Plan.{Plan}
use Rattle.clerk_records.specs.Layout.{width, places, lengths_at, words}
use Rattle.clerk_records.specs.Records.{record_words, turned_words, applied}
use Rattle.clerk_records.specs.Deadlines.{length_of, started_if, timed}
use Rattle.clerk_records.proofs.RecordsLaws.{applied-length}
use Rattle.clerk_records.proofs.DeadlinesLaws.{if-length}
use Rattle.clerk_records.proofs.TimersLaws.{if-behind}
use Rattle.clerk.specs.Start.{from, good_lengths, started_desk}
use Rattle.clerk.specs.Steps.{made}
use Rattle.clerk.specs.declared.start.Lengths.{Lengths}
use Rattle.clerk.specs.declared.Desk.{Desk}
use Rattle.clerk_sound.specs.Notes.{seconds_of}

-- ---- what a change leaves behind the records
abbrev Behind : List ℕ → List ℕ → Type 0
Behind ws after = drop lengths_at after ≡ drop lengths_at ws

turned-behind :
    (ws : List ℕ) (i from : ℕ) (new : List ℕ) → from + length new ≤ width → i < places → length ws ≡ words → Behind ws (turn_row width ws i from new)
unfolding turn_row
turned-behind ws i from new inside h l =
    let below : i * width + width ≤ places * width = omega (arith, h) in
    over-behind lengths_at (i * width + from) new ws (omega (arith, below, inside)) (omega (arith, below, inside, l))

dropped-behind : (ws : List ℕ) (i : ℕ) → i < places → length ws ≡ words → Behind ws (drop_row width places ws i)
unfolding drop_row
dropped-behind ws i h l =
    let k = place_rest width places i h in
    let later = drop ((i + 1) * width) ws in
    let n = (places - (i + 1)) * width in
    let a : length (take (i * width) ws) ≡ i * width = length-take-le (i * width) ws (omega arith) in
    let b : length (take n later) ≡ n = length-take-le n later (simp length-drop (omega arith)) in
    drop_at (take (i * width) ws ++ take n later ++ blank_row width) (drop lengths_at ws) lengths_at
    (simp (length-append, a, b, length-replicate) (omega arith))

applied-behind : (ws : List ℕ) → length ws ≡ words → (change : Change) → Behind ws (applied ws change)
unfolding applied removed_row
applied-behind ws l Stay = refl
applied-behind ws l (Put i r) =
    pick_elim (Behind ws) (ltb i places)
    (λ t. ap (drop lengths_at) (put-turn width ws i (record_words r)) ∙ turned-behind ws i 0 (record_words r) (omega arith) (ltb-true i places t) l)
    (λ f. refl)
applied-behind ws l (Turn i turn) =
    pick_elim (Behind ws) (ltb i places) (λ t. turned-behind ws i choices_at (turned_words turn) (omega arith) (ltb-true i places t) l) (λ f. refl)
applied-behind ws l (Remove i) =
    pick_elim (Behind ws) (rows_fit width places (length ws))
    (λ u. pick_elim (Behind ws) (ltb i places) (λ t. dropped-behind ws i (ltb-true i places t) l) (λ f. refl))
    (λ u. refl)

timed-behind : (ws : List ℕ) → length ws ≡ words → (count : ℕ) (at : Option ℕ) (starts : Timers) → Behind ws (timed count at starts ws)
unfolding timed
timed-behind ws l count None starts = refl
timed-behind ws l count (Some i) starts =
    let one = started_if starts.t1 count i T1 ws in
    let two = started_if starts.t2 count i T2 one in
    let l1 : length one ≡ words = if-length ws starts.t1 count i T1 ∙ l in
    let l2 : length two ≡ words = if-length one starts.t2 count i T2 ∙ l1 in
    if-behind two l2 starts.t3 count i T3 ∙ if-behind one l1 starts.t2 count i T2 ∙ if-behind ws l starts.t1 count i T1

-- ---- the lengths of the start
abbrev pub length_words : Lengths → List ℕ
length_words l = l.t1 ∷ l.t2Ccbs ∷ l.t2Ccnr ∷ l.t3 ∷ []

abbrev pub Measured : Lengths → List ℕ → Type 0
Measured l ws = drop lengths_at ws ≡ length_words l

pub start-measured : (l : Lengths) → Measured l (started_desk l).words
start-measured l = drop_at (replicate lengths_at 0) (length_words l) lengths_at (length-replicate {A = ℕ} lengths_at 0)

pub applied-measured : (l : Lengths) (ws : List ℕ) → length ws ≡ words → (change : Change) → Measured l ws → Measured l (applied ws change)
applied-measured l ws full change so = applied-behind ws full change ∙ so

pub made-measured : (l : Lengths) (d : Desk) → length d.words ≡ words → (count : ℕ) (plan : Plan Change) → Measured l d.words → Measured l (made d count plan).desk.words
made-measured l d full count plan so =
    timed-behind (applied d.words plan.change) (applied-length d.words full plan.change) count plan.outcome.at plan.outcome.starts
    ∙ applied-measured l d.words full plan.change so

-- none is longer than a day
from-most : (least most seconds : ℕ) → from least most seconds ≡ true → seconds ≤ most
from-most least most seconds e = leb-true seconds most (both_parts (leb least seconds) (leb seconds most) e).1

abbrev InRange : Lengths → Type 0
InRange l = (from 1 3600 l.t1 ≡ true) × ((from 60 3600 l.t2Ccbs ≡ true) × ((from 60 86400 l.t2Ccnr ≡ true) × (from 10 30 l.t3 ≡ true)))

each-good : (l : Lengths) → good_lengths l ≡ true → InRange l
unfolding good_lengths
each-good l good = by (from 1 3600 l.t1) (from 60 3600 l.t2Ccbs) (from 60 86400 l.t2Ccnr) (from 10 30 l.t3) good
  where
    by : (a b c d : Bool) → both a (both b (both c d)) ≡ true → (a ≡ true) × ((b ≡ true) × ((c ≡ true) × (d ≡ true)))
    by a b c d e =
        let one = both_parts a (both b (both c d)) e in
        let two = both_parts b (both c d) one.1 in
        (one.0, (two.0, both_parts c d two.1))

pub short : (l : Lengths) → good_lengths l ≡ true → (timer : Timer) (kind : Kind) → seconds_of l timer kind ≤ 86400
short l good T1 kind = omega (arith, from-most 1 3600 l.t1 (each-good l good).0)
short l good T2 Ccbs = omega (arith, from-most 60 3600 l.t2Ccbs (each-good l good).1.0)
short l good T2 Ccnr = from-most 60 86400 l.t2Ccnr (each-good l good).1.1.0
short l good T3 kind = omega (arith, from-most 10 30 l.t3 (each-good l good).1.1.1)

pub measured : (l : Lengths) (ws : List ℕ) → good_lengths l ≡ true → Measured l ws → (timer : Timer) (kind : Kind) → length_of ws timer kind ≡ seconds_of l timer kind
measured l ws good so timer kind = by timer kind
  where
    word : (k x : ℕ) → get_or (length_words l) k 0 ≡ x → x ≤ 86400 → get_or ws (lengths_at + k) 0 % turn ≡ x
    word k x is h =
        ap (λ (n : ℕ). n % turn) (sym (get_or-drop lengths_at ws k 0) ∙ ap (λ (t : List ℕ). get_or t k 0) so ∙ is) ∙ mod-eq_of_lt (omega (arith, h))

    by : (timer : Timer) (kind : Kind) → length_of ws timer kind ≡ seconds_of l timer kind
    by T1 kind = word 0 l.t1 refl (short l good T1 kind)
    by T2 Ccbs = word 1 l.t2Ccbs refl (short l good T2 Ccbs)
    by T2 Ccnr = word 2 l.t2Ccnr refl (short l good T2 Ccnr)
    by T3 kind = word 3 l.t3 refl (short l good T3 kind)
