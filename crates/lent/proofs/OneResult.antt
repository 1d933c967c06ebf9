-- Why a promise about a lent desk allows one desk and one answer, of whichever desk: both are read off the step's record.
use mathlib.Core.Path.{◌≡◌, sym, ◌∙◌, ap}
use Rattle.desk.specs.Steps.{answered, answered_bytes}
use Rattle.desk.specs.declared.outcome.Outcome.{Outcome}
use Rattle.desk.specs.declared.outcome.BytesOutcome.{BytesOutcome}
use Rattle.desk.specs.declared.outcome.Stepped.{Stepped}
use Rattle.desk.specs.declared.outcome.SteppedBytes.{SteppedBytes}

pub one-answer : {Desk : Type 0} (d d' : Desk) (r r' : Outcome) {step : Stepped Desk} → answered d r ≡ step → answered d' r' ≡ step → (d ≡ d') × (r ≡ r')
one-answer {Desk} d d' r r' p q =
    let same = p ∙ sym q in
    (ap (λ (s : Stepped Desk). s.desk) same, ap (λ (s : Stepped Desk). s.outcome) same)

pub one-answer-bytes :
    {Desk : Type 0} (d d' : Desk) (r r' : BytesOutcome) {step : SteppedBytes Desk} → answered_bytes d r ≡ step → answered_bytes d' r' ≡ step →
    (d ≡ d') × ((r.outcome ≡ r'.outcome) × ((r.next ≡ r'.next) × (r.fault ≡ r'.fault)))
one-answer-bytes {Desk} d d' r r' p q =
    let same = p ∙ sym q in (
      ap (λ (s : SteppedBytes Desk). s.desk) same,
      (
        ap (λ (s : SteppedBytes Desk). s.outcome) same,
        (ap (λ (s : SteppedBytes Desk). s.next) same, ap (λ (s : SteppedBytes Desk). s.fault) same),
      ),
    )
