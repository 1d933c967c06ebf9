-- A step about one record keeps a desk sound, by the laws of a list of places: a record that turns keeps its line, a new one finds fewer than 5 of its line, a removal takes from one line. So does a report: it keeps numbers, identifiers and states. The same for the order of acceptance, and for every other record.
use Rattle.std.specs.Prelude.{Option, Some, None}
use Prim.Native.Nat.{ℕ, zero, suc, ◌≤◌, ◌<◌}
use mathlib.Core.Path.{◌≡◌, refl, sym, ap, ◌∙◌, subst}
use mathlib.Core.Bool.{Bool, true, false}
use mathlib.Core.List.{List, [], ◌∷◌, map}
use lib.ListN.{length, get_or, set}
use native.Mathlib.Omega.{arith}
use Rattle.lists.specs.Choice.{pick}
use Rattle.lists.specs.Lists.{first_from, count}
use Rattle.lists.specs.Words.{same_words}
use Rattle.lists.specs.declared.words.Words.{Words}
use Rattle.lists.proofs.Choice.{pick_elim}
use Rattle.lists.proofs.WordsLaws.{same-words-true}
use Rattle.places.specs.Places as P
use Rattle.places.specs.Places.{Placed, place_in, names, Queued, Moved, OthersStay}
use Rattle.places.proofs.Staying.{place_inside, place-unused, at_map, change-placed}
use Rattle.places.proofs.Moving.{moved-placed, moved-each, moved_order, moved-others}
use Rattle.places.proofs.Ordering.{names-change}
use Rattle.places.proofs.Counting.{stored-filled, stored_same, stored-without, stored-change}
use Rattle.desk.specs.declared.outcome.Timers.{Timers}
use Rattle.terms.specs.declared.Terms.{Terms}
use Rattle.line_table.specs.Line.{with_status}
use Rattle.line_table.specs.Search.{used, of_line, marks}
use Rattle.line_table.specs.declared.line.Line.{Line}
use Rattle.line_table.specs.declared.record.Record.{Record}
use Rattle.line_table.specs.declared.record.Change.{Change}
use Rattle.line_table.specs.declared.record.Change.TheVariants.{Report}
use Rattle.line_table.specs.declared.inputs.Input.{Input}
use Rattle.line_records.specs.Layout as Layout
use Rattle.line_records.specs.Codes.{state_of}
use Rattle.line_records.specs.Records.{record_of, blank, records}
use Rattle.line_records.specs.Lines.{no_line, lines, has_number, line_at}
use Rattle.line_records.specs.Change.{applied, marking, records_after, lines_after}
use Rattle.line_plan.specs.Decide.{line_most}
use Rattle.line_records.specs.Deadlines.{timed}
use Rattle.line.proofs.StepsLaws.{made-length, records-made, lines-made}
use Rattle.line_sound.specs.Sound.{line_view, Whole, Sound, NoReport}
use Rattle.line_sound.proofs.Starting.{of_line_view, blank_of_line, Apart}

-- ---- a desk's records and lines
record Parts (rs : List Record) (ls : List Line) : Type 0 where
  placed : Placed line_view rs
  each : (i : ℕ) → used (get_or rs i blank) ≡ true → Whole ls (get_or rs i blank)
  five : (number : Words) → count (of_line number) rs ≤ line_most
  apart : Apart ls

parts_of : (ws : List ℕ) → Sound ws → Parts (records ws) (lines ws)
parts_of ws sound =
    record { placed = sound.placed; each = sound.each; five = λ number. omega (arith, sound.five number); apart = sound.apart }

sound_of : (ws : List ℕ) {rs : List Record} {ls : List Line} → length ws ≡ Layout.words → records ws ≡ rs → lines ws ≡ ls → Parts rs ls → Sound ws
sound_of ws full re le parts =
    let p : Parts (records ws) (lines ws) = rw (re, le) parts in
    record { full = full; placed = p.placed; each = p.each; five = λ number. omega (arith, p.five number); apart = p.apart }

-- ---- whether a record is of a line
of_line-same : (number : Words) (a b : Record) → used a ≡ used b → a.terms.numberB ≡ b.terms.numberB → of_line number a ≡ of_line number b
of_line-same number a b u e = rw (u, e)

of_line-unused : (number : Words) (r : Record) → used r ≡ false → of_line number r ≡ false
of_line-unused number r f = rw f

-- ---- a step about the record of one place, or about none
-- a record keeps its line where it turns, and a new one finds fewer than 5 of its line
pub record Turned (ls : List Line) (a b : Record) : Type 0 where
  pub numberB : b.terms.numberB ≡ a.terms.numberB
  pub whole : Whole ls b

pub record Added (rs : List Record) (ls : List Line) (r : Record) : Type 0 where
  pub few : count (of_line r.terms.numberB) rs < line_most
  pub whole : Whole ls r

abbrev pub Moves : List Record → List Line → Option ℕ → List Record → Type 0
Moves rs ls about after = Moved line_view (Turned ls) (Added rs ls) about rs after

module _ (rs : List Record) (ls : List Line) (five : (number : Words) → count (of_line number) rs ≤ line_most) where
  added_five :
      (i : ℕ) (r : Record) → place_in line_view rs ≡ Some i → used r ≡ true → count (of_line r.terms.numberB) rs < line_most →
      (number : Words) → count (of_line number) (set rs i r) ≤ line_most
  added_five i r free is few number = by (same_words r.terms.numberB number) refl
    where
      before : of_line number (get_or rs i blank) ≡ false
      before = of_line-unused number (get_or rs i blank) (place-unused line_view rs i free)

      by : (b : Bool) → same_words r.terms.numberB number ≡ b → count (of_line number) (set rs i r) ≤ line_most
      by true t =
          let fewer : count (of_line number) rs < line_most =
          subst (λ (n : Words). count (of_line n) rs < line_most) (same-words-true r.terms.numberB number t) few in
          let its : of_line number r ≡ true = rw (is, t) in
          omega (arith, stored-filled (of_line_view number) rs i r (place_inside line_view rs i free) before its)
      by false f =
          let other : of_line number r ≡ false = rw (is, f) in
          omega (arith, stored_same (of_line_view number) rs i r (other ∙ sym before), five number)

  moved-five : {about : Option ℕ} {after : List Record} → Moves rs ls about after → (number : Words) → count (of_line number) after ≤ line_most
  moved-five (P.stays here e) number = rw e (five number)
  moved-five (P.turns i r here was is own turn e) number =
      rw e
      (omega (
        arith,
        stored_same (of_line_view number) rs i r (of_line-same number r (get_or rs i blank) (is ∙ sym was) turn.numberB),
        five number,
      ))
  moved-five (P.stores i r here free new is added e) number = rw e (added_five i r free is added.few number)
  moved-five (P.removes i here was e) number = rw e (omega (arith, stored-without (of_line_view number) rs i (blank_of_line number), five number))

moved_parts : {rs : List Record} {ls : List Line} {about : Option ℕ} {after : List Record} → Parts rs ls → Moves rs ls about after → Parts after ls
moved_parts {rs} {ls} parts moves =
    record {
      placed = moved-placed line_view parts.placed moves;
      each = moved-each line_view (Whole ls) (λ a b turn. turn.whole) (λ r added. added.whole) parts.placed parts.each moves;
      five = moved-five rs ls parts.five moves;
      apart = parts.apart;
    }

-- ---- a report
-- another status at a place leaves all numbers
number-status :
    (ls : List Line) (k : ℕ) (busy : Bool) (m : ℕ) →
    (get_or (set ls k (with_status (get_or ls k no_line) busy)) m no_line).number ≡ (get_or ls m no_line).number
number-status [] k busy m = refl
number-status (x ∷ xs) zero busy zero = refl
number-status (x ∷ xs) zero busy (suc m) = refl
number-status (x ∷ xs) (suc k) busy zero = refl
number-status (x ∷ xs) (suc k) busy (suc m) = number-status xs k busy m

line-status-from :
    (number : Words) (n : ℕ) (ls : List Line) (k : ℕ) (busy : Bool) →
    first_from (has_number number) n (set ls k (with_status (get_or ls k no_line) busy)) ≡ first_from (has_number number) n ls
unfolding first_from
line-status-from number n [] k busy = refl
line-status-from number n (x ∷ xs) zero busy = refl
line-status-from number n (x ∷ xs) (suc k) busy = rw (line-status-from number (suc n) xs k busy)

line-status : (number : Words) (ls : List Line) (k : ℕ) (busy : Bool) → line_at number (set ls k (with_status (get_or ls k no_line) busy)) ≡ line_at number ls
unfolding line_at
line-status number ls k busy = line-status-from number 0 ls k busy

status_parts : (rs : List Record) (ls : List Line) (k : ℕ) (busy : Bool) → Parts rs ls → Parts rs (set ls k (with_status (get_or ls k no_line) busy))
status_parts rs ls k busy parts =
    record {
      placed = parts.placed;
      each = λ i u.
          let whole = parts.each i u in
          record {
            agreed = whole.agreed;
            line = λ e. whole.line (sym (line-status (get_or rs i blank).terms.numberB ls k busy) ∙ e);
            suspension = whole.suspension;
            fell = whole.fell;
          };
      five = parts.five;
      apart = λ a b n e.
          parts.apart a b (λ z. n (number-status ls k busy a ∙ z)) (sym (number-status ls k busy a) ∙ e ∙ number-status ls k busy b);
    }

-- the marks of a busy report
pub marking-used : (number : Words) (r : Record) → used (marking number r) ≡ used r
marking-used number r = pick_elim (λ (x : Record). used x ≡ used r) (marks number r) (λ t. refl) (λ f. refl)

marking-terms : (number : Words) (r : Record) → (marking number r).terms ≡ r.terms
marking-terms number r = pick_elim (λ (x : Record). x.terms ≡ r.terms) (marks number r) (λ t. refl) (λ f. refl)

pub marking-name : (number : Words) (r : Record) → (marking number r).terms.identifier ≡ r.terms.identifier
marking-name number r = ap (λ (t : Terms). t.identifier) (marking-terms number r)

pub marking-blank : (number : Words) → marking number blank ≡ blank
unfolding record_of state_of
marking-blank number = refl

marking-whole : (ls : List Line) (number : Words) (r : Record) → Whole ls r → Whole ls (marking number r)
marking-whole ls number r whole =
    pick_elim (Whole ls) (marks number r)
    (λ t. record { agreed = whole.agreed; line = whole.line; suspension = whole.suspension; fell = whole.fell })
    (λ f. whole)

marked_parts : (number : Words) (rs : List Record) (ls : List Line) → Parts rs ls → Parts (map (marking number) rs) ls
marked_parts number rs ls parts =
    record {
      placed = change-placed line_view rs (marking number) parts.placed (marking-used number) (marking-name number) (marking-blank number);
      each = λ i u.
          let e : get_or (map (marking number) rs) i blank ≡ marking number (get_or rs i blank) = at_map line_view rs (marking number) (marking-blank number) i in
          subst (Whole ls) (sym e)
          (marking-whole ls number (get_or rs i blank) (parts.each i (sym (marking-used number (get_or rs i blank)) ∙ sym (ap used e) ∙ u)));
      five = λ other.
          omega (
            arith,
            stored-change (of_line_view other) rs (marking number) (λ r. of_line-same other (marking number r) r (marking-used number r) (ap (λ (t : Terms). t.numberB) (marking-terms number r))),
            parts.five other,
          );
      apart = parts.apart;
    }

report_parts :
    (rs : List Record) (ls : List Line) (k : ℕ) (number : Words) (busy : Bool) → Parts rs ls →
    Parts (pick busy (map (marking number) rs) rs) (set ls k (with_status (get_or ls k no_line) busy))
report_parts rs ls k number busy parts =
    status_parts (pick busy (map (marking number) rs) rs) ls k busy
    (pick_elim (λ (x : List Record). Parts x ls) busy (λ t. marked_parts number rs ls parts) (λ f. parts))

-- ---- what a change makes of a desk, with the place that the outcome tells; the deadlines of what it starts change no record and no line
pub data Goes (ws : List ℕ) : Input → Option ℕ → Change → Type 0 where
  -- about the record of one place, or about none
  moved :
      {input : Input} {about : Option ℕ} {c : Change} → lines_after (lines ws) c ≡ lines ws → Moves (records ws) (lines ws) about (records_after (records ws) c) →
      Goes ws input about c
  reported : (k : ℕ) (number : Words) (busy : Bool) → Goes ws (Input.Report number busy) None (Report k number busy)

module _ (ws : List ℕ) (sound : Sound ws) (count : ℕ) (starts : Timers) where
  abbrev after : Option ℕ → Change → List ℕ
  after about c = timed count about starts (applied ws c)

  after-records : (about : Option ℕ) (c : Change) → records (after about c) ≡ records_after (records ws) c
  after-records about c = records-made ws c sound.full count about starts

  after-sound : (about : Option ℕ) (c : Change) → Parts (records_after (records ws) c) (lines_after (lines ws) c) → Sound (after about c)
  after-sound about c =
      sound_of (after about c) (made-length ws c sound.full count about starts) (after-records about c) (lines-made ws c sound.full count about starts)

  pub goes-sound : {input : Input} {about : Option ℕ} {c : Change} → Goes ws input about c → Sound (after about c)
  goes-sound {about = about} {c = c} (moved same moves) =
      after-sound about c (subst (Parts (records_after (records ws) c)) (sym same) (moved_parts (parts_of ws sound) moves))
  goes-sound (reported k number busy) =
      after-sound None (Report k number busy) (report_parts (records ws) (lines ws) k number busy (parts_of ws sound))

  -- ---- the order of acceptance
  abbrev Ordered : List Record → Type 0
  Ordered rs = Queued (names line_view (records ws)) (names line_view rs)

  pub goes_order : {input : Input} {about : Option ℕ} {c : Change} → Goes ws input about c → Ordered (records (after about c))
  goes_order {about = about} {c = c} (moved same moves) = subst Ordered (sym (after-records about c)) (moved_order line_view sound.placed moves)
  goes_order (reported k number busy) =
      subst Ordered (sym (after-records None (Report k number busy)))
      (pick_elim Ordered busy
      (λ t.
      subst (Queued (names line_view (records ws)))
      (sym (names-change line_view (records ws) (marking number) (marking-used number) (marking-name number))) P.same)
      (λ f. P.same))

  -- ---- every other record
  pub goes-others :
      {input : Input} {about : Option ℕ} {c : Change} → Goes ws input about c → NoReport input → OthersStay line_view about (records ws) (records (after about c))
  goes-others {about = about} {c = c} (moved same moves) silent =
      subst (OthersStay line_view about (records ws)) (sym (after-records about c)) (moved-others line_view moves)
  goes-others (reported k number busy) silent = absurd silent
