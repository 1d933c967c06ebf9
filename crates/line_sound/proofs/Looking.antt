-- Which record a Look offers: by the outcome of each search in turn. What a search finds passes and no earlier one does; where it finds none, none passes.
use Rattle.std.specs.Prelude.{Option, Some, None}
use Prim.Native.Nat.{ℕ}
use mathlib.Core.Path.{◌≡◌, refl, sym, ap, ◌∙◌}
use mathlib.Core.Bool.{Bool, true, false}
use mathlib.Core.List.{List}
use lib.ListN.{length, get_or, get_or-eq_default}
use lib.Dec.{ltb}
use native.Mathlib.Omega.{arith}
use borrow.Author.Tests.{ltb-true, ltb-false}
use Rattle.lists.specs.Lists.{first}
use Rattle.lists.specs.declared.words.Words.{Words}
use Rattle.lists.proofs.Choice.{no_true, pick_elim}
use Rattle.lists.proofs.Lists.{first_holds, first-earlier, first-none}
use Rattle.lists.proofs.WordsLaws.{words_same}
use Rattle.message.specs.declared.Kind.TheVariants.{Ccbs}
use Rattle.message.specs.declared.refusal.Refusal.TheVariants.{NoLine, NothingToOffer}
use Rattle.std.proofs.lemmas.Option.{none-some}
use Rattle.desk.specs.Outcome.{no_timers}
use Rattle.line_table.specs.Line.{can_take}
use Rattle.line_table.specs.Step.{row_taken}
use Rattle.line_table.specs.Search.{blocks, fits, passes}
use Rattle.line_table.specs.declared.table.State.TheVariants.{Invoked, Await}
use Rattle.line_table.specs.declared.record.Record.{Record}
use Rattle.line_table.specs.declared.record.Turned.{Turned}
use Rattle.line_table.specs.declared.record.Decision.{Decision}
use Rattle.line_table.specs.declared.record.Change.TheVariants.{Turn}
use Rattle.line_table.specs.declared.inputs.Input.TheVariants as Input
use Rattle.line_table.specs.declared.search.Sought.TheVariants.{Blocking, Fitting}
use Rattle.line_records.specs.Layout as Layout
use Rattle.line_records.specs.Codes.{state_of}
use Rattle.line_records.specs.Records.{record_of, blank, records}
use Rattle.line_records.specs.Lines.{no_line, lines, line_at}
use Rattle.line.proofs.StepsLaws.{records-made, lines-made}
use Rattle.line_plan.specs.Decide.{offer_found, offer_at, offer_decision, look_found, look_decision, decided}
use Rattle.line_plan.specs.Plan.{plan_of, plan_for}
use Rattle.line.specs.Steps.{made, step}
use Rattle.line.specs.declared.Desk.{Desk}
use Rattle.line_sound.specs.Sound.{record_at, Offered, OldestOffered, kept, KeptFits}

-- ---- a search
blank-passes-not : (number : Words) → (blocks number blank ≡ false) × (fits number blank ≡ false)
unfolding record_of state_of
blank-passes-not number = (refl, refl)

-- where none is found no place passes, also none behind the last
none_passes :
    (p : Record → Bool) (rs : List Record) → p blank ≡ false → first p rs ≡ None → (j : ℕ) → p (get_or rs j blank) ≡ false
none_passes p rs free none j = by (ltb j (length rs)) refl
  where
    by : (b : Bool) → ltb j (length rs) ≡ b → p (get_or rs j blank) ≡ false
    by true t = first-none p rs blank none j (ltb-true j (length rs) t)
    by false f = ap p (get_or-eq_default rs blank (ltb-false j (length rs) f)) ∙ free

-- where no place passes none is found
none_found : (p : Record → Bool) (rs : List Record) → ((j : ℕ) → p (get_or rs j blank) ≡ false) → first p rs ≡ None
none_found p rs none = by (first p rs) refl
  where
    by : (f : Option ℕ) → first p rs ≡ f → first p rs ≡ None
    by None e = e
    by (Some i) e = absurd (no_true (sym (none i) ∙ first_holds p rs i blank e))

-- ---- a Look that is not refused
module _ (d : Desk) (count : ℕ) (number : Words) (full : length d.words ≡ Layout.words) where
  abbrev Tells : Decision → Type 0
  Tells decision =
      (plan_of d.words (Input.Look number) decision).outcome.refusal ≡ None →
      Offered d number (made d count (plan_of d.words (Input.Look number) decision)).desk (plan_of d.words (Input.Look number) decision).outcome.at

  module _ (k : ℕ) (its : line_at number (lines d.words) ≡ Some k) (free : can_take (get_or (lines d.words) k no_line) ≡ true) where
    tells-fitting :
        first (passes (Blocking number)) (records d.words) ≡ None → (f : Option ℕ) →
        first (passes (Fitting number)) (records d.words) ≡ f → Tells (offer_decision f)
    unfolding plan_of row_taken
    tells-fitting unblocked None e taken = absurd (none-some NothingToOffer (sym taken))
    tells-fitting unblocked (Some i) e taken =
        let t : Turned = record { kind = (record_at d i).terms.kind; state = Await; active = (record_at d i).active; suspended = (record_at d i).suspended; down = (record_at d i).down } in
        record {
          place = i;
          at = refl;
          line = k;
          its = its;
          free = free;
          unblocked = none_passes (blocks number) (records d.words) (blank-passes-not number).0 unblocked;
          fitting = first_holds (fits number) (records d.words) i blank e;
          oldest = λ j h. first-earlier (fits number) (records d.words) i blank e j (omega (arith, h));
          stored = records-made d.words (Turn t i) full count (Some i) no_timers;
          others = lines-made d.words (Turn t i) full count (Some i) no_timers;
        }

    tells_blocking :
        (f : Option ℕ) → first (passes (Blocking number)) (records d.words) ≡ f → Tells (offer_decision (offer_found d.words number f))
    unfolding plan_of
    tells_blocking (Some i) e = λ taken. absurd (none-some NothingToOffer (sym taken))
    tells_blocking None e = tells-fitting e (first (passes (Fitting number)) (records d.words)) refl

  tells-found : (f : Option ℕ) → line_at number (lines d.words) ≡ f → Tells (look_found d.words number f)
  unfolding plan_of offer_at
  tells-found None e = λ taken. absurd (none-some NoLine (sym taken))
  tells-found (Some k) e =
      pick_elim (λ (f : Option ℕ). Tells (offer_decision f)) (can_take (get_or (lines d.words) k no_line))
      (λ t. tells_blocking k e t (first (passes (Blocking number)) (records d.words)) refl)
      (λ f taken. absurd (none-some NothingToOffer (sym taken)))

  look-offers : (step d count (Input.Look number)).outcome.refusal ≡ None → Offered d number (step d count (Input.Look number)).desk (step d count (Input.Look number)).outcome.at
  unfolding step plan_for decided look_decision
  look-offers = tells-found (line_at number (lines d.words)) refl

-- ---- a Look where a record can be offered
offer_done :
    (ws : List ℕ) (number : Words) (i : ℕ) → fits number (get_or (records ws) i blank) ≡ true → (f : Option ℕ) →
    first (passes (Fitting number)) (records ws) ≡ f → (plan_of ws (Input.Look number) (offer_decision f)).outcome.refusal ≡ None
unfolding plan_of row_taken
offer_done ws number i fit (Some j) e = refl
offer_done ws number i fit None e =
    absurd (no_true (sym (none_passes (fits number) (records ws) (blank-passes-not number).1 e i) ∙ fit))

look-done :
    (d : Desk) (count : ℕ) (number : Words) (k : ℕ) → line_at number (lines d.words) ≡ Some k → can_take (get_or (lines d.words) k no_line) ≡ true →
    ((j : ℕ) → blocks number (record_at d j) ≡ false) → (i : ℕ) → fits number (record_at d i) ≡ true →
    (step d count (Input.Look number)).outcome.refusal ≡ None
unfolding step plan_for decided look_decision offer_at
look-done d count number k its free unblocked i fit =
    rw (its, free, none_found (passes (Blocking number)) (records d.words) unblocked)
    (offer_done d.words number i fit (first (passes (Fitting number)) (records d.words)) refl)

pub oldest-offered : OldestOffered
oldest-offered = record { offers = look-offers; nothing = look-done }

-- ---- a record that busy again left: Invoked and CCBS
pub kept-fits : KeptFits
unfolding row_taken
kept-fits place r =
    kept (record { kind = Ccbs; state = Invoked; active = true; suspended = false; down = r.down })
    (λ active. rw (words_same r.terms.numberB r.terms.numberB refl))
