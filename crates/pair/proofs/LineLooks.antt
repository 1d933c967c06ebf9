-- A Look and a line report at the line desk: a Look does nothing or offers one request as the reading says; a report marks activity, which is no part of the reading.
use Rattle.std.specs.Prelude.{Option, Some, None}
use Prim.Native.Nat.{ℕ}
use mathlib.Core.Path.{◌≡◌, refl, sym, ap, ◌∙◌, subst}
use mathlib.Core.Logic.{◌⊎◌, inl, inr}
use mathlib.Core.Bool.{Bool, true, false}
use mathlib.Core.List.{List, map}
use lib.ListN.{get_or}
use native.Mathlib.Omega.{arith}
use Rattle.lists.specs.Lists.{first}
use Rattle.lists.specs.Words.{same_words}
use Rattle.lists.specs.declared.words.Words.{Words}
use Rattle.lists.proofs.Choice.{pick_elim}
use Rattle.lists.proofs.Lists.{both_parts, first_holds}
use Rattle.message.specs.declared.refusal.Refusal.{Refusal}
use Rattle.message.specs.declared.refusal.Refusal.TheVariants.{NoLine, NothingToOffer}
use Rattle.desk.specs.declared.sends.Elements.{Elements}
use Rattle.places.specs.Places as P
use Rattle.line_table.specs.Line.{can_take}
use Rattle.line_table.specs.Table.{in_use}
use Rattle.line_table.specs.Search.{invoked, marks, fits_kind, fits, passes}
use Rattle.line_table.specs.Step.{row_taken}
use Rattle.line_table.specs.declared.table.State.{State}
use Rattle.line_table.specs.declared.table.State.TheVariants.{Free, Invoked, Await, Alert}
use Rattle.line_table.specs.declared.table.Row.TheVariants.{Offers}
use Rattle.line_table.specs.declared.line.Line.{Line}
use Rattle.line_table.specs.declared.record.Record.{Record}
use Rattle.line_table.specs.declared.record.Decision.{Decision}
use Rattle.desk.specs.declared.plan.Plan.{Plan}
use Rattle.line_table.specs.declared.inputs.Input.TheVariants as Input
use Rattle.line_table.specs.declared.search.Sought.TheVariants.{Blocking, Fitting}
use Rattle.line_records.specs.Records.{blank, records}
use Rattle.line_records.specs.Lines.{no_line, lines, line_at}
use Rattle.line_records.specs.Change.{marking, records_after}
use Rattle.line_plan.specs.Decide.{offer_found, offer_at, offer_decision, look_found, look_decision, report_found, report_decision, decided}
use Rattle.line_plan.specs.Plan.{plan_of, plan_for}
use Rattle.line.specs.declared.Desk.{Desk}
use Rattle.pair_request.specs.Reading as R
use Rattle.pair.specs.World.{Touch, line_change}
use Rattle.pair.proofs.Ends.{line_read}
use Rattle.pair.proofs.Sits.{not-one}
use Rattle.pair.proofs.LineRows.{Answers, offer_found_lem}
use Rattle.pair.proofs.LineChanges as Changed
use Rattle.pair.proofs.LineChanges.{own-row, touches_row, Acted, takes-row}
use Rattle.pair.proofs.LineEnd.{found-read}
use Rattle.line_table.specs.declared.record.Change.{Change}

-- ---- a Look
-- it is refused, or offers a record that fits
data Look (rs : List Record) (number : Words) : Decision → Type 0 where
  refuses : (refusal : Refusal) → Look rs number (Decision.Refuse refusal None)
  gives : (i : ℕ) → fits number (get_or rs i blank) ≡ true → Look rs number (Decision.Take i Offers)

module _ (ws : List ℕ) (number : Words) where
  no_place : {i : ℕ} → None ≡ Some i → ⊥
  no_place e = let z : ◌≡◌ {A = ℕ} 0 1 = cc in omega arith

  offered-fits : (blocking : Option ℕ) (i : ℕ) → offer_found ws number blocking ≡ Some i → fits number (get_or (records ws) i blank) ≡ true
  offered-fits (Some j) i e = absurd (no_place e)
  offered-fits None i e = first_holds (passes (Fitting number)) (records ws) i blank e

  offer_fits : (line : Line) (i : ℕ) → offer_at ws line number ≡ Some i → fits number (get_or (records ws) i blank) ≡ true
  unfolding offer_at
  offer_fits line i =
      pick_elim (λ (f : Option ℕ). f ≡ Some i → fits number (get_or (records ws) i blank) ≡ true) (can_take line)
      (λ t. offered-fits (first (passes (Blocking number)) (records ws)) i)
      (λ t e. absurd (no_place e))

  offer_look : (line : Line) (f : Option ℕ) → offer_at ws line number ≡ f → Look (records ws) number (offer_decision f)
  offer_look line None e = refuses NothingToOffer
  offer_look line (Some i) e = gives i (offer_fits line i e)

  found-look : (f : Option ℕ) → Look (records ws) number (look_found ws number f)
  found-look None = refuses NoLine
  found-look (Some k) = offer_look (get_or (lines ws) k no_line) (offer_at ws (get_or (lines ws) k no_line) number) refl

invoked-used : (s : State) → invoked s ≡ true → in_use s ≡ true
invoked-used Free e = e
invoked-used Invoked e = refl
invoked-used Await e = refl
invoked-used Alert e = refl

fits-invoked : (number : Words) (r : Record) → fits number r ≡ true → invoked r.state ≡ true
fits-invoked number r e =
    (both_parts (invoked r.state) (same_words r.terms.numberB number) (both_parts (marks number r) (fits_kind r.terms.kind r.active) e).0).0

module _ (d : Desk) (number : Words) where
  abbrev rs : List Record
  rs = records d.words

  -- a record that fits is Invoked, and is offered
  offer_answers :
      (i : ℕ) → fits number (get_or rs i blank) ≡ true → (j : Elements) (l : R.Line) (b : Bool) → P.one (get_or rs i blank) ≡ line_read j b l →
      Answers (row_taken i (get_or rs i blank) Offers) j b l (R.line_acts l R.offers)
  offer_answers i fit j R.none b read = not-one (sym read)
  offer_answers i fit j (R.holds t own s) b read =
      let e = found-read d.words j b t own s i read in
      subst (λ (r : Record). Answers (row_taken i r Offers) j b (R.holds t own s) (R.line_acts (R.holds t own s) R.offers)) (sym e)
      (offer_found_lem i j b t own s (sym (ap (λ (r : Record). invoked r.state) e) ∙ fits-invoked number (get_or rs i blank) fit))

  look-acted : (decision : Decision) → Look rs number decision → Acted rs R.offers (plan_of d.words (Input.Look number) decision)
  unfolding plan_of
  look-acted decision (refuses refusal) = Changed.refuses refl refl refl
  look-acted decision (gives i fit) =
      let r = get_or rs i blank in
      takes-row i (invoked-used r.state (fits-invoked number r fit)) (touches_row i r Offers) (own-row rs i r Offers) (offer_answers i fit)

  pub line-looks : Acted rs R.offers (plan_for d.words (Input.Look number))
  unfolding plan_for decided look_decision
  line-looks = look-acted _ (found-look d.words number (line_at number (lines d.words)))

-- ---- a line report: it sends nothing, touches no place, and at most it marks activity
pub record Reported (rs : List Record) (number : Words) (busy : Bool) (plan : Plan Change) : Type 0 where
  pub silent : plan.outcome.sending ≡ None
  pub untouched : line_change plan.change ≡ Touch.nothing
  pub marks : (records_after rs plan.change ≡ rs) ⊎ ((busy ≡ true) × (records_after rs plan.change ≡ map (marking number) rs))

found-reported : (ws : List ℕ) (number : Words) (busy : Bool) (f : Option ℕ) → Reported (records ws) number busy (plan_of ws (Input.Report number busy) (report_found busy f))
unfolding plan_of
found-reported ws number busy None = record { silent = refl; untouched = refl; marks = inl refl }
found-reported ws number true (Some k) = record { silent = refl; untouched = refl; marks = inr (refl, refl) }
found-reported ws number false (Some k) = record { silent = refl; untouched = refl; marks = inl refl }

pub line-reports : (d : Desk) (number : Words) (busy : Bool) → Reported (records d.words) number busy (plan_for d.words (Input.Report number busy))
unfolding plan_for decided report_decision
line-reports d number busy = found-reported d.words number busy (line_at number (lines d.words))
