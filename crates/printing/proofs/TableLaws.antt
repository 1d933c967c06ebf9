-- What a loop over a table asks at an index: each law takes the byte at the index off the rest.
use Rattle.std.specs.Prelude.{ℕ, zero, suc, ◌+◌, ◌-◌, ◌≤◌, ◌<◌, Bool, true, false, List, [], ◌∷◌, ◌++◌, ◌≡◌, refl, eqb, length, take, drop}
use Rattle.std.proofs.Common.{arith, get_or, add-one, append_assoc, append-nil, drop_of_length-le, take-append-drop}
use Rattle.std.proofs.Math.Seq.{drop-cons, take-suc}
use Rattle.lists.specs.Choice.{pick}
use Rattle.printing.specs.Table.{entries_from, line_of}

-- ---- entries
pub entries_first : (table : List ℕ) → entries_from table 0 ≡ table
unfolding entries_from
entries_first [] = refl
entries_first (byte ∷ table) = refl

entries_picked : (table : List ℕ) (b : Bool) (entry : ℕ) → pick b (entries_from table entry) (entries_from table (suc entry)) ≡ entries_from table (pick b entry (suc entry))
entries_picked table true entry = refl
entries_picked table false entry = refl

entries_head : (byte : ℕ) (table : List ℕ) (entry : ℕ) → (entry ≡ 0 → ⊥) → entries_from (byte ∷ table) entry ≡ entries_from table (pick (eqb byte 10) (entry - 1) entry)
unfolding entries_from
entries_head byte table zero some = absurd (some refl)
entries_head byte table (suc entry) some = let e : suc entry - 1 ≡ entry = omega arith in rw e (entries_picked table (eqb byte 10) entry)

pub entries_step :
    (table : List ℕ) (i entry : ℕ) → i < length table → (entry ≡ 0 → ⊥) →
    entries_from (drop i table) entry ≡ entries_from (drop (i + 1) table) (pick (eqb (get_or table i 0) 10) (entry - 1) entry)
entries_step table i entry h some = rw (add-one, drop-cons table i 0) (entries_head (get_or table i 0) (drop (suc i) table) entry some)

pub entries_end : (table : List ℕ) (i entry : ℕ) → length table ≤ i → drop i table ≡ entries_from (drop i table) entry
unfolding entries_from
entries_end table i entry h = rw (drop_of_length-le table h)

-- ---- a line
pub line_hit : (text : List ℕ) (i : ℕ) → i < length text → eqb (get_or text i 0) 10 ≡ true → take i text ++ line_of (drop i text) ≡ take i text
unfolding line_of
line_hit text i h e = rw (drop-cons text i 0) (rw e (append-nil (take i text)))

pub line_miss :
    (text : List ℕ) (i : ℕ) → i < length text → eqb (get_or text i 0) 10 ≡ false →
    take i text ++ line_of (drop i text) ≡ take (i + 1) text ++ line_of (drop (i + 1) text)
unfolding line_of
line_miss text i h e = rw (add-one, drop-cons text i 0, e, take-suc text i 0, append_assoc)

pub line_end : (text : List ℕ) (i : ℕ) → length text ≤ i → take i text ++ line_of (drop i text) ≡ text
unfolding line_of
line_end text i h = rw (drop_of_length-le text h) (rw (drop_of_length-le text h) at (take-append-drop i text))
