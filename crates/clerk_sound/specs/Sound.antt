-- The sentences of document 01 on the clerk's desk as a whole: a refusal leaves it as it was, and what every reached desk is. Each claim is a type; its proof has its name.
use Rattle.std.specs.Prelude.{ℕ, suc, ◌≤◌, ◌<◌, ◌≡◌, Bool, true, false, List, length, get_or, set, Some, None, Ok, Result}
use Rattle.lists.specs.Lists.{without}
use Rattle.lists.specs.Words.{Bytes, bytes_of}
use Rattle.message.specs.Number.{digits_in_range}
use Rattle.message.specs.Format.{in_range}
use Rattle.message.specs.declared.refusal.Refusal.TheVariants.{Full}
use Rattle.message.specs.declared.refusal.Refusal.{Refusal}
use Rattle.desk.specs.Letter.{identifier_of}
use Rattle.desk.specs.declared.letter.Letter.{Letter}
use Rattle.desk.specs.Outcome.{refused_with}
use Rattle.desk.specs.declared.outcome.Outcome.{Outcome}
use Rattle.desk.specs.declared.Connection.TheVariants as Connection
use Rattle.desk.specs.declared.Keep.TheVariants as Keep
use Rattle.terms.specs.declared.request.Name.{Name}
use Rattle.terms.specs.declared.request.Names.{Names}
use Rattle.terms.specs.declared.request.Request.{Request}
use Rattle.places.specs.Places.{View, Placed, stored, names, Queued, OthersStay}
use Rattle.clerk_table.specs.declared.table.State.TheVariants.{WaitAck}
use Rattle.clerk_table.specs.declared.table.Timer.{Timer}
use Rattle.clerk_table.specs.declared.record.Record.{Record}
use Rattle.clerk_table.specs.declared.record.Decision.TheVariants.{Refuse, Store}
use Rattle.clerk_table.specs.declared.inputs.Act.{Act}
use Rattle.clerk_table.specs.declared.inputs.Input.{Input}
use Rattle.clerk_records.specs.Layout as Layout
use Rattle.clerk_records.specs.Records.{blank, records, used, place}
use Rattle.clerk_records.specs.Meaning.{identifier_means}
use Rattle.clerk_plan.specs.Plan.{decided, new_record}
use Rattle.clerk.specs.Entry.{ask_request, ask_message, ask_names, ask_entry}
use Rattle.clerk.specs.Start.{started_desk}
use Rattle.clerk.specs.Steps.{step, entered, asked, received_bytes}
use Rattle.clerk.specs.declared.start.Lengths.{Lengths}
use Rattle.clerk.specs.declared.Desk.{Desk}
use Rattle.clerk.specs.declared.entry.Asking.{Asking}

-- how a record of the clerk's desk is looked at
abbrev pub clerk_view : View Record
clerk_view = record { used = used; name = λ r. r.terms.identifier; blank = blank }

-- ---- a refusal leaves the desk as it was, and tells which it is and perhaps a reply: no timer, no notice, no word to clear the call, no place
abbrev pub Same : Desk → Desk → Outcome → Type 0
Same before after outcome = (refusal : Refusal) → outcome.refusal ≡ Some refusal → (after ≡ before) × (outcome ≡ refused_with refusal outcome.sending)

pub record RefusedSame : Type 0 where
  -- whatever comes in at the entry: an ask, a message, an act, a timer's report
  pub steps : (d : Desk) (count : ℕ) (entry : Result Input Refusal) → Same d (entered d count entry).desk (entered d count entry).outcome
  pub bytes :
      (d : Desk) (count : ℕ) (bytes : List ℕ) (busy : Bool) (place : ℕ) →
      Same d (received_bytes d count bytes busy place).desk (received_bytes d count bytes busy place).outcome

-- ---- a sound list of records
-- a used record: its choices and its fields
pub record Whole (r : Record) : Type 0 where
  -- keep and connection choices are empty exactly before the acknowledgment
  pub before : r.state ≡ WaitAck → (r.terms.keep ≡ Keep.Empty) × (r.terms.connection ≡ Connection.Empty)
  pub behind : (r.state ≡ WaitAck → ⊥) → (r.terms.keep ≡ Keep.Empty → ⊥) × (r.terms.connection ≡ Connection.Empty → ⊥)
  -- only a retained connection is marked down
  pub fell : r.down ≡ true → r.terms.connection ≡ Connection.Ret
  -- only numberA may be missing
  pub numberA : digits_in_range 0 (bytes_of r.terms.numberA) ≡ true
  pub numberB : digits_in_range 1 (bytes_of r.terms.numberB) ≡ true
  pub service : r.terms.service < 16384

pub record Sound (rs : List Record) : Type 0 where
  -- used places come first, a free one is blank, identifiers all differ, of records that have one
  pub placed : Placed clerk_view rs
  pub each : (i : ℕ) → used (get_or rs i blank) ≡ true → Whole (get_or rs i blank)

-- ---- a desk reached from the start with any lengths, by any inputs at any counts
-- what the code's type says of an ask: sixteen bytes for the identifier and for each number
pub record Typed (a : Asking) : Type 0 where
  pub length_identifier : length a.identifier ≡ 16
  pub bytes_identifier : Bytes a.identifier
  pub length_a : length a.numberA ≡ 16
  pub bytes_a : Bytes a.numberA
  pub length_b : length a.numberB ≡ 16
  pub bytes_b : Bytes a.numberB

-- an input as the entry makes it: an ask of values of the code's type; of all others every one will do
pub data Fair : Input → Type 0 where
  asks : {names : Names} {q : Request} (a : Asking) → Typed a → ask_entry a ≡ Ok (Input.Ask names q) → Fair (Input.Ask names q)
  hears : (l : Letter) (busy : Bool) (place : ℕ) → Fair (Input.Message l busy place)
  acts : (name : Name) (act : Act) → Fair (Input.Act name act)
  times : (name : Name) (timer : Timer) → Fair (Input.Timer name timer)

pub data Reached : Desk → Type 0 where
  starts : (lengths : Lengths) → Reached (started_desk lengths)
  steps : {d : Desk} {input : Input} (count : ℕ) → Fair input → Reached d → Reached (step d count input).desk
  reads : {d : Desk} (count : ℕ) (bytes : List ℕ) (busy : Bool) (place : ℕ) → Reached d → Reached (received_bytes d count bytes busy place).desk

abbrev pub StartSound : Type 0
StartSound = (lengths : Lengths) → Sound (records (started_desk lengths).words)

-- a started desk holds no request
abbrev pub StartEmpty : Type 0
StartEmpty = (lengths : Lengths) (i : ℕ) → used (get_or (records (started_desk lengths).words) i blank) ≡ false

abbrev pub ReachedSound : Type 0
ReachedSound = (d : Desk) → Reached d → Sound (records d.words)

abbrev pub ReachedFull : Type 0
ReachedFull = (d : Desk) → Reached d → length d.words ≡ Layout.words

-- ---- used places come first, in the order of storing, and a freed place is used again
pub record Sixteen : Type 0 where
  pub most : (rs : List Record) → length rs ≡ Layout.places → stored clerk_view rs ≤ Layout.places
  -- the first place that is not used is behind all that are, and there is one exactly if fewer than 16 are
  pub room : (rs : List Record) → Sound rs → length rs ≡ Layout.places → stored clerk_view rs < Layout.places → place rs ≡ Some (stored clerk_view rs)
  pub full : (rs : List Record) → Sound rs → length rs ≡ Layout.places → stored clerk_view rs ≡ Layout.places → place rs ≡ None
  -- a new record is one more, a record in another state is none, a removed record is one less
  pub more :
      (rs : List Record) (r : Record) → Sound rs → length rs ≡ Layout.places → stored clerk_view rs < Layout.places → used r ≡ true →
      stored clerk_view (set rs (stored clerk_view rs) r) ≡ suc (stored clerk_view rs)
  pub same : (rs : List Record) (i : ℕ) (r : Record) → used (get_or rs i blank) ≡ true → used r ≡ true → stored clerk_view (set rs i r) ≡ stored clerk_view rs
  pub fewer : (rs : List Record) (i : ℕ) → used (get_or rs i blank) ≡ true → suc (stored clerk_view (without blank rs i)) ≡ stored clerk_view rs

-- an ask without an identifier, or under one that no used record has: stored behind all used ones exactly if fewer than 16 are, and 5 when 16 are
pub record AskSixteen : Type 0 where
  pub taken :
      (rs : List Record) (names : Names) (q : Request) → Sound rs → length rs ≡ Layout.places → identifier_means names.identifier rs ≡ None →
      stored clerk_view rs < Layout.places → decided rs (Input.Ask names q) ≡ Store (stored clerk_view rs) q
  pub refused :
      (rs : List Record) (names : Names) (q : Request) → Sound rs → length rs ≡ Layout.places → identifier_means names.identifier rs ≡ None →
      stored clerk_view rs ≡ Layout.places → decided rs (Input.Ask names q) ≡ Refuse Full None

-- an ask in range, without an identifier or under one that no used record of the desk has
pub record Proper (d : Desk) (a : Asking) : Type 0 where
  pub typed : Typed a
  pub preference : a.preference < 3
  pub ranged : in_range (ask_message a) ≡ true
  pub new : identifier_means (identifier_of a.identified a.identifier) (records d.words) ≡ None

-- the record of an ask
abbrev pub asked_record : Asking → Record
asked_record a = new_record (ask_names a) (ask_request a)

-- the same on a reached desk: its record is stored behind all used ones; or the desk is full
pub record AskedBehind : Type 0 where
  pub taken :
      (d : Desk) → Reached d → (count : ℕ) (a : Asking) → Proper d a → stored clerk_view (records d.words) < Layout.places →
      ((asked d count a).outcome.refusal ≡ None) × (records (asked d count a).desk.words ≡ set (records d.words) (stored clerk_view (records d.words)) (asked_record a))
  -- and the outcome tells its place
  pub told :
      (d : Desk) → Reached d → (count : ℕ) (a : Asking) → Proper d a → stored clerk_view (records d.words) < Layout.places →
      (asked d count a).outcome.at ≡ Some (stored clerk_view (records d.words))
  pub refused : (d : Desk) → Reached d → (count : ℕ) (a : Asking) → Proper d a → stored clerk_view (records d.words) ≡ Layout.places → (asked d count a).outcome.refusal ≡ Some Full
  -- a freed place is used again: after a record was removed the next ask is taken, also where the desk was full
  pub again :
      (d after : Desk) (i : ℕ) → used (get_or (records d.words) i blank) ≡ true → records after.words ≡ without blank (records d.words) i →
      Reached after → (count : ℕ) (a : Asking) → Proper after a → (asked after count a).outcome.refusal ≡ None

-- 16 asks are taken and the 17th is 5: so many proper asks, one after the other from the start
pub data Asks : Desk → ℕ → Type 0 where
  none : (lengths : Lengths) → Asks (started_desk lengths) 0
  more : {d : Desk} {n : ℕ} (count : ℕ) (a : Asking) → Proper d a → Asks d n → Asks (asked d count a).desk (suc n)

pub record SeventeenthRefused : Type 0 where
  pub taken : (d : Desk) (n : ℕ) → Asks d n → (count : ℕ) (a : Asking) → Proper d a → n < Layout.places → (asked d count a).outcome.refusal ≡ None
  pub refused : (d : Desk) → Asks d Layout.places → (count : ℕ) (a : Asking) → Proper d a → (asked d count a).outcome.refusal ≡ Some Full

-- ---- used records stand in the order of storing
abbrev pub InOrder : Desk → Desk → Type 0
InOrder before after = Queued (names clerk_view (records before.words)) (names clerk_view (records after.words))

pub record OrderOfStoring : Type 0 where
  pub steps : (d : Desk) → Reached d → (count : ℕ) (input : Input) → Fair input → InOrder d (step d count input).desk
  pub bytes : (d : Desk) → Reached d → (count : ℕ) (bytes : List ℕ) (busy : Bool) (place : ℕ) → InOrder d (received_bytes d count bytes busy place).desk

-- ---- a step is about the record at the place that its outcome tells: every other stays, behind a removed one a place further to the front
abbrev pub OthersHeld : Type 0
OthersHeld =
    (d : Desk) → Reached d → (count : ℕ) (input : Input) → Fair input →
    OthersStay clerk_view (step d count input).outcome.at (records d.words) (records (step d count input).desk.words)
