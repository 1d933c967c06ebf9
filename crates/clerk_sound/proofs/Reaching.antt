-- Every fair step is about one record or none, so every reached desk is sound and has all its words, its records stand in the order of storing, and a step leaves every other record as it was.
use Rattle.std.specs.Prelude.{Ok, Err, Result}
use Prim.Native.Nat.{ℕ}
use mathlib.Core.Path.{◌≡◌, refl, sym, subst}
use mathlib.Core.Bool.{Bool}
use mathlib.Core.List.{List}
use lib.ListN.{length}
use Rattle.lists.proofs.Choice.{pick-then}
use Rattle.message.specs.Reading.{Read}
use Rattle.message.specs.Format.{in_range}
use Rattle.message.specs.Wire.{message_at}
use Rattle.message.specs.declared.Message.{Message}
use Rattle.message.specs.declared.refusal.Refusal.TheVariants.{OutOfRange}
use Rattle.message.specs.declared.refusal.Refusal.{Refusal}
use Rattle.desk.specs.Letter.{letter_of}
use Rattle.places.specs.Places.{Moved, same}
use Rattle.places.proofs.Moving.{moved-placed, moved-each, moved_order, moved-others}
use Rattle.clerk_table.specs.declared.inputs.Input.{Input}
use Rattle.clerk_records.specs.Layout as Layout
use Rattle.clerk_records.specs.Records.{records}
use Rattle.clerk.proofs.StepsLaws.{made-length, records-made}
use Rattle.clerk_plan.specs.Plan.{plan_for}
use Rattle.clerk.specs.Entry.{message_entry, read_entry, bytes_entry}
use Rattle.clerk.specs.Steps.{step, entered, received, received_bytes}
use Rattle.clerk.specs.declared.Desk.{Desk}
use Rattle.desk.specs.declared.outcome.Stepped.{Stepped}
use Rattle.clerk_sound.specs.Sound as S
use Rattle.clerk_sound.specs.Sound.{clerk_view, Whole, Sound, Fair, hears, Reached, ReachedSound, ReachedFull, InOrder, OrderOfStoring, OthersHeld}
use Rattle.clerk_sound.proofs.Start.{start-sound}
use Rattle.clerk_sound.proofs.Plans.{Turned, fair-goes}
use Rattle.clerk_sound.proofs.Ranges.{no-input}

-- ---- a desk: sound, with as many words as it has to have
record Good (d : Desk) : Type 0 where
  full : length d.words ≡ Layout.words
  sound : Sound (records d.words)

-- what a step makes of the records
abbrev Steps : Desk → Stepped Desk → Type 0
Steps d step = Moved clerk_view Turned Whole step.outcome.at (records d.words) (records step.desk.words)

good-moved : (d : Desk) → Good d → (count : ℕ) (input : Input) → Fair input → Steps d (step d count input)
unfolding step
good-moved d good count input fair =
    let rs = records d.words in
    subst (Moved clerk_view Turned Whole (plan_for rs input).outcome.at rs) (sym (records-made d good.full count (plan_for rs input)))
    (fair-goes rs good.sound input fair)

good-step : (d : Desk) → Good d → (count : ℕ) (input : Input) → Fair input → Good (step d count input).desk
unfolding step
good-step d good count input fair =
    let moved = good-moved d good count input fair in
    record {
      full = made-length d good.full count (plan_for (records d.words) input);
      sound = record {
        placed = moved-placed clerk_view good.sound.placed moved;
        each = moved-each clerk_view Whole (λ a b whole. whole) (λ b whole. whole) good.sound.placed good.sound.each moved;
      };
    }

-- ---- what comes in at the entry: a fair input, or a refusal that leaves the desk
abbrev FairEntry : Result Input Refusal → Type 0
FairEntry entry = (input : Input) → entry ≡ Ok input → Fair input

message-fair : (m : Message) (busy : Bool) (place : ℕ) → FairEntry (message_entry m busy place)
unfolding message_entry
message-fair m busy place input e =
    let p = pick-then (in_range m) (Ok (Input.Message (letter_of m) busy place)) (Err OutOfRange) (Ok input) no-input e in
    let q = p.1 in
    let same-input : Input.Message (letter_of m) busy place ≡ input = cc in
    subst Fair same-input (hears (letter_of m) busy place)

read-fair : (busy : Bool) (place : ℕ) (r : Read Message) → FairEntry (read_entry busy place r).entry
read-fair busy place (Ok (m, next)) = message-fair m busy place
read-fair busy place (Err number) = λ input e. absurd (no-input e)

bytes-fair : (bytes : List ℕ) (busy : Bool) (place : ℕ) → FairEntry (bytes_entry bytes busy place).entry
unfolding bytes_entry
bytes-fair bytes busy place = read-fair busy place (message_at bytes)

good-entered : (d : Desk) → Good d → (count : ℕ) (entry : Result Input Refusal) → FairEntry entry → Good (entered d count entry).desk
unfolding entered
good-entered d good count (Err refusal) fair = good
good-entered d good count (Ok input) fair = good-step d good count input (fair input refl)

-- ---- every reached desk
reached-good : {d : Desk} → Reached d → Good d
unfolding received_bytes
reached-good (S.starts lengths) = record { full = refl; sound = start-sound lengths }
reached-good (S.steps {d} {input} count fair r) = good-step d (reached-good r) count input fair
reached-good (S.reads {d} count bytes busy place r) = good-entered d (reached-good r) count (bytes_entry bytes busy place).entry (bytes-fair bytes busy place)

pub reached-sound : ReachedSound
reached-sound d r = (reached-good r).sound

pub reached-full : ReachedFull
reached-full d r = (reached-good r).full

-- a desk that is reached, after what comes in at the entry
pub reached-entered : (d : Desk) → Reached d → (count : ℕ) (entry : Result Input Refusal) → FairEntry entry → Reached (entered d count entry).desk
unfolding entered
reached-entered d reached count (Err refusal) fair = reached
reached-entered d reached count (Ok input) fair = S.steps count (fair input refl) reached

pub reached-received : (d : Desk) → Reached d → (count : ℕ) (m : Message) (busy : Bool) (place : ℕ) → Reached (received d count m busy place).desk
reached-received d reached count m busy place = reached-entered d reached count (message_entry m busy place) (message-fair m busy place)

-- ---- what a step leaves as it was
pub step-moved : (d : Desk) → Reached d → (count : ℕ) (input : Input) → Fair input → Steps d (step d count input)
step-moved d reached count input fair = good-moved d (reached-good reached) count input fair

entered-order : (d : Desk) → Reached d → (count : ℕ) (entry : Result Input Refusal) → FairEntry entry → InOrder d (entered d count entry).desk
unfolding entered
entered-order d reached count (Err refusal) fair = same
entered-order d reached count (Ok input) fair = moved_order clerk_view (reached-sound d reached).placed (step-moved d reached count input (fair input refl))

pub order_of_storing : OrderOfStoring
unfolding received_bytes
order_of_storing =
    record {
      steps = λ d reached count input fair. moved_order clerk_view (reached-sound d reached).placed (step-moved d reached count input fair);
      bytes = λ d reached count bytes busy place. entered-order d reached count (bytes_entry bytes busy place).entry (bytes-fair bytes busy place);
    }

pub others-held : OthersHeld
others-held d reached count input fair = moved-others clerk_view (step-moved d reached count input fair)
