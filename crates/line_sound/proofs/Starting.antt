-- A started desk is sound: no place is used, and the number of each line was looked for before it was put.
use Rattle.std.specs.Prelude.{Option, Some, None}
use Prim.Native.Nat.{ℕ, zero, suc, ◌*◌, ◌/◌, ◌<◌}
use mathlib.Core.Path.{◌≡◌, refl, sym, ap, ◌∙◌, subst}
use mathlib.Core.Bool.{Bool, true, false}
use mathlib.Core.List.{List}
use lib.ListN.{length, get_or, take, drop, set, replicate, length-replicate, get_or-eq_default}
use lib.Dec.{ltb, leb, eqb}
use native.Mathlib.Omega.{arith}
use borrow.Author.Tests.{ltb-true, ltb-false}
use Rattle.lists.specs.Lists.{both}
use Rattle.lists.specs.declared.words.Words.{Words}
use Rattle.lists.proofs.Choice.{no_true, pick_elim}
use Rattle.lists.proofs.Lists.{both_parts, first-none}
use Rattle.lists.proofs.WordsLaws.{words_same}
use Rattle.message.specs.Number.{digits_in_range}
use Rattle.store.specs.Rows.{rows}
use Rattle.desk.specs.Letter.{number_words}
use Rattle.desk.specs.Sends.{no_number}
use Rattle.places.specs.Places.{View}
use Rattle.places.proofs.Staying.{set_elim, start-placed}
use Rattle.places.proofs.Counting.{stored-none}
use Rattle.line_table.specs.Search.{used, of_line}
use Rattle.line_table.specs.declared.line.Line.{Line}
use Rattle.line_table.specs.declared.record.Record.{Record}
use Rattle.terms.specs.Terms.{terms_of}
use Rattle.line_records.specs.Layout as Layout
use Rattle.line_records.specs.Codes.{state_of}
use Rattle.line_records.specs.Records.{record_of, blank, records}
use Rattle.line_records.specs.Lines.{line_of, no_line, lines, has_number, line_at, put_line, with_settings}
use Rattle.line_records.proofs.LinesLaws.{lines-length, over_line-length, records-over_line, lines-put}
use Rattle.line.specs.Start.{kinds_at, given_width, absent, line_given, good_line, line_taken, Lines, take_lines, started_by, started}
use Rattle.desk.specs.declared.outcome.Stepped.{Stepped}
use Rattle.line_sound.specs.Sound.{line_view, Sound}
use Rattle.line.specs.declared.Desk.{Desk}

-- ---- what a free place and a place without a line have
pub blank-unused : used blank ≡ false
unfolding record_of state_of
blank-unused = refl

-- the records of one line, as records that are used
abbrev pub of_line_view : Words → View Record
of_line_view number = record { used = of_line number; name = λ r. r.terms.identifier; blank = blank }

pub blank_of_line : (number : Words) → of_line number blank ≡ false
unfolding record_of state_of
blank_of_line number = refl

no-line-number : no_line.number ≡ no_number
unfolding line_of
no-line-number = refl

-- ---- lines that differ
abbrev pub Apart : List Line → Type 0
Apart ls = (k m : ℕ) → ((get_or ls k no_line).number ≡ no_number → ⊥) → (get_or ls k no_line).number ≡ (get_or ls m no_line).number → k ≡ m

-- a line, as a record of the places of lines
abbrev place_of_line : View Line
place_of_line = record { used = λ line. true; name = λ line. Some line.number; blank = no_line }

-- a number that is no line's, put at a place
module _ (ls : List Line) (k : ℕ) (line : Line) (inside : k < length ls) (apart : Apart ls) (new : line_at line.number ls ≡ None) where
  nowhere : (j : ℕ) → (line.number ≡ no_number → ⊥) → line.number ≡ (get_or ls j no_line).number → ⊥
  unfolding line_at
  nowhere j n e = by (ltb j (length ls)) refl
    where
      by : (b : Bool) → ltb j (length ls) ≡ b → ⊥
      by true t =
          no_true
          (sym (first-none (has_number line.number) ls no_line new j (ltb-true j (length ls) t))
          ∙ words_same (get_or ls j no_line).number line.number (sym e))
      by false f =
          n (e ∙ ap (λ (x : Line). x.number) (get_or-eq_default ls no_line (ltb-false j (length ls) f)) ∙ no-line-number)

  apart-put : Apart (set ls k line)
  apart-put a b n q =
      set_elim place_of_line
      (λ x. (x.number ≡ no_number → ⊥) → x.number ≡ (get_or (set ls k line) b no_line).number → a ≡ b) ls k a line inside
      (λ ea n.
      set_elim place_of_line (λ y. line.number ≡ y.number → a ≡ b) ls k b line inside
      (λ eb q. ea ∙ sym eb)
      (λ nb q. absurd (nowhere b n q)))
      (λ na n.
      set_elim place_of_line (λ y. (get_or ls a no_line).number ≡ y.number → a ≡ b) ls k b line inside
      (λ eb q. absurd (nowhere a (λ z. n (q ∙ z)) (sym q)))
      (λ nb q. apart a b n q))
      n q

-- ---- a desk without records
record Started (ws : List ℕ) : Type 0 where
  full : length ws ≡ Layout.words
  free : (i : ℕ) → get_or (records ws) i blank ≡ blank
  apart : Apart (lines ws)

sound-start : (ws : List ℕ) → Started ws → Sound ws
sound-start ws s =
    record {
      full = s.full;
      placed = start-placed line_view (records ws) s.free blank-unused;
      each = λ i u. absurd (no_true (sym (ap used (s.free i) ∙ blank-unused) ∙ u));
      five = λ number.
          omega (arith, stored-none (of_line_view number) (records ws) (λ j. ap (of_line number) (s.free j) ∙ blank_of_line number));
      apart = s.apart;
    }

-- ---- before any line: all zeros, or zeros and the settings
replicate-at : {A : Type 0} (n : ℕ) (x : A) (i : ℕ) → get_or (replicate n x) i x ≡ x
replicate-at zero x i = refl
replicate-at (suc n) x zero = refl
replicate-at (suc n) x (suc i) = replicate-at n x i

all-blank : (ws : List ℕ) → length ws ≡ Layout.words → records ws ≡ replicate Layout.places blank → lines ws ≡ replicate Layout.line_places no_line → Started ws
all-blank ws full rs ls =
    record {
      full = full;
      free = λ i. ap (λ (x : List Record). get_or x i blank) rs ∙ replicate-at Layout.places blank i;
      apart = λ k m n e.
          absurd
          (n
          (ap (λ (x : List Line). (get_or x k no_line).number) ls ∙ ap (λ (line : Line). line.number) (replicate-at Layout.line_places no_line k) ∙ no-line-number));
    }

zeros-records : records (replicate Layout.words 0) ≡ replicate Layout.places blank
unfolding records rows record_of terms_of
zeros-records = refl

zeros-lines : lines (replicate Layout.words 0) ≡ replicate Layout.line_places no_line
unfolding lines rows line_of
zeros-lines = refl

zeros-started : Started (replicate Layout.words 0)
zeros-started = all-blank (replicate Layout.words 0) (length-replicate {A = ℕ} Layout.words 0) zeros-records zeros-lines

settings-length : (keep retain : Bool) → length (with_settings (replicate Layout.words 0) keep retain) ≡ Layout.words
unfolding with_settings
settings-length keep retain = refl

settings-records : (keep retain : Bool) → records (with_settings (replicate Layout.words 0) keep retain) ≡ replicate Layout.places blank
unfolding with_settings records rows record_of terms_of
settings-records keep retain = refl

settings-lines : (keep retain : Bool) → lines (with_settings (replicate Layout.words 0) keep retain) ≡ replicate Layout.line_places no_line
unfolding with_settings lines rows line_of
settings-lines keep retain = refl

settings-started : (keep retain : Bool) → Started (with_settings (replicate Layout.words 0) keep retain)
settings-started keep retain =
    all-blank (with_settings (replicate Layout.words 0) keep retain) (settings-length keep retain) (settings-records keep retain) (settings-lines keep retain)

-- ---- one line after the other
put-started : (ws : List ℕ) (k : ℕ) (line : Line) → Started ws → line_at line.number (lines ws) ≡ None → Started (put_line ws k line)
unfolding put_line
put-started ws k line s new =
    pick_elim Started (ltb k Layout.line_places)
    (λ t.
    let h : k < Layout.line_places = ltb-true k Layout.line_places t in
    record {
      full = over_line-length ws k line h s.full ∙ s.full;
      free = λ i. ap (λ (rs : List Record). get_or rs i blank) (records-over_line ws k line h s.full) ∙ s.free i;
      apart =
          subst Apart (sym (lines-put ws k line h s.full))
          (apart-put (lines ws) k line (omega (arith, lines-length ws)) s.apart new);
    })
    (λ f. s)

absent-nothing : (f : Option ℕ) → absent f ≡ true → f ≡ None
absent-nothing (Some k) e = absurd (no_true e)
absent-nothing None e = refl

good_new : (ws digits : List ℕ) (kinds : ℕ) → good_line ws digits kinds ≡ true → line_at (number_words digits) (lines ws) ≡ None
unfolding good_line
good_new ws digits kinds e =
    let there : Option ℕ = line_at (number_words digits) (lines ws) in
    let p = both_parts (digits_in_range 1 digits) (both (leb kinds 3) (absent there)) e in
    absent-nothing there (both_parts (leb kinds 3) (absent there) p.1).1

taken-started : (ws : List ℕ) (k : ℕ) (digits : List ℕ) (kinds : ℕ) → Started ws → Started (line_taken ws k digits kinds)
unfolding line_taken
taken-started ws k digits kinds s =
    pick_elim Started (good_line ws digits kinds)
    (λ t. put-started ws k (line_given (number_words digits) kinds) s (good_new ws digits kinds t))
    (λ f. s)

abbrev Made : Lines → Type 0
Made ls = Started (started_by ls).desk.words

lines-made : (left k : ℕ) (bytes ws : List ℕ) → Started ws → Made (take_lines left k bytes ws)
unfolding take_lines
lines-made zero k bytes ws s = s
lines-made (suc left) k bytes ws s =
    pick_elim Made (good_line ws (take kinds_at bytes) (get_or bytes kinds_at 0))
    (λ t.
    lines-made left (suc k) (drop given_width bytes) (line_taken ws k (take kinds_at bytes) (get_or bytes kinds_at 0))
    (taken-started ws k (take kinds_at bytes) (get_or bytes kinds_at 0) s))
    (λ f. zeros-started)

started-made : (given : List ℕ) (keep retain : Bool) → Started (started given keep retain).desk.words
unfolding started
started-made given keep retain =
    pick_elim (λ (step : Stepped Desk). Started step.desk.words) (leb (length given / given_width) Layout.line_places)
    (λ h.
    pick_elim (λ (step : Stepped Desk). Started step.desk.words) (eqb (length given / given_width * given_width) (length given))
    (λ g.
    lines-made (length given / given_width) 0 given (with_settings (replicate Layout.words 0) keep retain) (settings-started keep retain))
    (λ g. zeros-started))
    (λ h. zeros-started)

pub start-sound : (given : List ℕ) (keep retain : Bool) → Sound (started given keep retain).desk.words
start-sound given keep retain = sound-start (started given keep retain).desk.words (started-made given keep retain)

-- no place of a started desk has a record
pub start-free : (given : List ℕ) (keep retain : Bool) (i : ℕ) → get_or (records (started given keep retain).desk.words) i blank ≡ blank
start-free given keep retain = (started-made given keep retain).free
