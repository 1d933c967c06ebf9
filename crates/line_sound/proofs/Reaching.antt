-- A fair input is decided well, so its step is about one record, or a report: every reached desk is sound, its records stand in the order of acceptance, and a step leaves every other record as it was.
use Rattle.std.specs.Prelude.{Ok, Err, Result}
use Prim.Native.Nat.{ℕ}
use mathlib.Core.Path.{◌≡◌, refl, subst}
use mathlib.Core.Bool.{Bool, true, false}
use mathlib.Core.List.{List}
use native.Mathlib.Omega.{arith}
use Rattle.lists.specs.Choice.{pick}
use Rattle.lists.specs.Words.{Bytes}
use Rattle.message.specs.Reading.{Read, took}
use Rattle.message.specs.Format.{in_range}
use Rattle.message.specs.Wire.{message_at}
use Rattle.message.specs.declared.Message.{Message}
use Rattle.message.specs.declared.refusal.Refusal.TheVariants.{OutOfRange}
use Rattle.message.specs.declared.refusal.Refusal.{Refusal}
use Rattle.desk.specs.Letter.{letter_of}
use Rattle.places.specs.Places.{same}
use Rattle.places.proofs.Counting.{stored-most}
use Rattle.line_table.specs.Inputs.{row_of_act}
use Rattle.line_table.specs.declared.table.Row.TheVariants.{GuardRunsOut}
use Rattle.line_table.specs.declared.inputs.Input.{Input}
use Rattle.line_records.specs.Layout as Layout
use Rattle.line_records.specs.Records.{records}
use Rattle.line_records.proofs.RecordsLaws.{records-length}
use Rattle.line_plan.specs.Decide.{decided}
use Rattle.line_plan.specs.Plan.{plan_for}
use Rattle.line.specs.Entry.{message_entry, read_entry, bytes_entry}
use Rattle.line.specs.Steps.{step, entered, received, received_bytes}
use Rattle.line.specs.declared.Desk.{Desk}
use Rattle.line_sound.specs.Sound as S
use Rattle.line_sound.specs.Sound.{line_view, Sound, Typed, Fair, hears, acts, guards, reports, looks, Reached, ReachedSound, ReachedMost, InOrder, OrderOfAcceptance, OthersHeld}
use Rattle.line_sound.proofs.Starting.{start-sound}
use Rattle.line_sound.proofs.Changes.{Goes, goes-sound, goes_order, goes-others}
use Rattle.line_sound.proofs.Decisions.{Good, goes-plan, good-own, good-report, good-look, good-message}
use Rattle.line_sound.proofs.Ranges.{request-whole, read-typed}

-- ---- a fair input is decided well
good-entry :
    (ws : List ℕ) (m : Message) (place : ℕ) → Typed m → (b : Bool) → in_range m ≡ b → {input : Input} →
    pick b (Ok (Input.Message (letter_of m) place)) (Err OutOfRange) ≡ Ok input → Good ws input (decided ws input)
unfolding decided
good-entry ws m place typed true ranged {input} e =
    let same : Input.Message (letter_of m) place ≡ input = cc in
    subst (λ (x : Input). Good ws x (decided ws x)) same (good-message ws (letter_of m) place (request-whole ws m typed ranged))
good-entry ws m place typed false ranged e = absurd (let z : ◌≡◌ {A = ℕ} 0 1 = cc in omega arith)

pub good-input : (ws : List ℕ) {input : Input} → Fair input → Good ws input (decided ws input)
unfolding decided message_entry
good-input ws (hears m place typed e) = good-entry ws m place typed (in_range m) refl e
good-input ws (acts name act) = good-own ws (Input.Act name act) name (row_of_act act)
good-input ws (guards name) = good-own ws (Input.Guard name) name GuardRunsOut
good-input ws (reports number busy) = good-report ws number busy
good-input ws (looks number) = good-look ws number

-- ---- a step
step-goes :
    (d : Desk) → Sound d.words → {input : Input} → Fair input → Goes d.words input (plan_for d.words input).outcome.at (plan_for d.words input).change
unfolding plan_for
step-goes d sound fair = goes-plan d.words sound (good-input d.words fair)

sound-step : (d : Desk) → Sound d.words → (count : ℕ) {input : Input} → Fair input → Sound (step d count input).desk.words
unfolding step
sound-step d sound count {input} fair = goes-sound d.words sound count (plan_for d.words input).outcome.starts (step-goes d sound fair)

-- ---- what comes in at the entry: a fair input, or a refusal that leaves the desk
abbrev pub FairEntry : Result Input Refusal → Type 0
FairEntry entry = (input : Input) → entry ≡ Ok input → Fair input

read-fair : (r : Read Message) (place : ℕ) → ((m : Message) (n : ℕ) → r ≡ took m n → Typed m) → FairEntry (read_entry r place).entry
read-fair (Ok (m, next)) place typed = λ input e. hears m place (typed m next refl) e
read-fair (Err number) place typed = λ input e. absurd (let z : ◌≡◌ {A = ℕ} 0 1 = cc in omega arith)

pub bytes-fair : (bytes : List ℕ) (place : ℕ) → Bytes bytes → FairEntry (bytes_entry bytes place).entry
unfolding bytes_entry
bytes-fair bytes place b = read-fair (message_at bytes) place (read-typed bytes b)

sound-entered : (d : Desk) → Sound d.words → (count : ℕ) (entry : Result Input Refusal) → FairEntry entry → Sound (entered d count entry).desk.words
unfolding entered
sound-entered d sound count (Err refusal) fair = sound
sound-entered d sound count (Ok input) fair = sound-step d sound count (fair input refl)

-- ---- every reached desk
sound-reached : {d : Desk} → Reached d → Sound d.words
unfolding received_bytes
sound-reached (S.starts given keep retain b) = start-sound given keep retain
sound-reached (S.steps {d} count fair r) = sound-step d (sound-reached r) count fair
sound-reached (S.reads {d} count bytes place b r) = sound-entered d (sound-reached r) count (bytes_entry bytes place).entry (bytes-fair bytes place b)

pub reached-sound : ReachedSound
reached-sound d r = sound-reached r

pub reached-most : ReachedMost
reached-most d r = stored-most line_view (records d.words) Layout.places (records-length d.words)

-- what a reached desk's step is about
pub reached-goes :
    (d : Desk) → Reached d → {input : Input} → Fair input → Goes d.words input (plan_for d.words input).outcome.at (plan_for d.words input).change
reached-goes d reached fair = step-goes d (reached-sound d reached) fair

-- a desk that is reached, after what comes in at the entry
pub reached-entered : (d : Desk) → Reached d → (count : ℕ) (entry : Result Input Refusal) → FairEntry entry → Reached (entered d count entry).desk
unfolding entered
reached-entered d reached count (Err refusal) fair = reached
reached-entered d reached count (Ok input) fair = S.steps count (fair input refl) reached

pub reached-received : (d : Desk) → Reached d → (count : ℕ) (m : Message) (place : ℕ) → Typed m → Reached (received d count m place).desk
reached-received d reached count m place typed = reached-entered d reached count (message_entry m place) (λ input e. hears m place typed e)

-- ---- the order of acceptance, and every other record
step-order : (d : Desk) → Reached d → (count : ℕ) {input : Input} → Fair input → InOrder d (step d count input).desk
unfolding step
step-order d reached count {input} fair =
    goes_order d.words (reached-sound d reached) count (plan_for d.words input).outcome.starts (reached-goes d reached fair)

entered-order : (d : Desk) → Reached d → (count : ℕ) (entry : Result Input Refusal) → FairEntry entry → InOrder d (entered d count entry).desk
unfolding entered
entered-order d reached count (Err refusal) fair = same
entered-order d reached count (Ok input) fair = step-order d reached count (fair input refl)

bytes-order : (d : Desk) → Reached d → (count : ℕ) (bytes : List ℕ) (place : ℕ) → Bytes bytes → InOrder d (received_bytes d count bytes place).desk
unfolding received_bytes
bytes-order d reached count bytes place b = entered-order d reached count (bytes_entry bytes place).entry (bytes-fair bytes place b)

pub order_of_acceptance : OrderOfAcceptance
order_of_acceptance = record { steps = λ d reached count input fair. step-order d reached count fair; bytes = bytes-order }

pub others-held : OthersHeld
unfolding step
others-held d reached count input fair silent =
    goes-others d.words (reached-sound d reached) count (plan_for d.words input).outcome.starts (reached-goes d reached fair) silent
