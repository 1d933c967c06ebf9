-- The sentences of document 01 on the line desk as a whole: a refusal leaves it as it was, what every reached desk is, and which record a Look offers. Each claim is a type; its proof has its name.
use Rattle.std.specs.Prelude.{ℕ, ◌≤◌, ◌<◌, ◌≡◌, Bool, true, false, List, map, length, get_or, set, replicate, Option, Some, None, Ok, Result}
use Rattle.lists.specs.Choice.{pick}
use Rattle.lists.specs.Lists.{both, count}
use Rattle.lists.specs.Words.{Bytes, bytes_of}
use Rattle.lists.specs.declared.words.Words.{Words}
use Rattle.message.specs.Number.{digits_in_range}
use Rattle.message.specs.declared.Message.{Message}
use Rattle.message.specs.declared.refusal.Refusal.{Refusal}
use Rattle.desk.specs.Sends.{no_number}
use Rattle.desk.specs.Outcome.{refused_with}
use Rattle.desk.specs.declared.outcome.Outcome.{Outcome}
use Rattle.desk.specs.declared.Connection.TheVariants as Connection
use Rattle.desk.specs.declared.Keep.TheVariants as Keep
use Rattle.terms.specs.declared.Terms.{Terms}
use Rattle.terms.specs.declared.request.Name.{Name}
use Rattle.terms.specs.declared.request.Names.{Names}
use Rattle.terms.specs.declared.request.Request.{Request}
use Rattle.places.specs.Places.{View, Placed, stored, names, Queued, OthersStay}
use Rattle.line_table.specs.Line.{can_take, with_status}
use Rattle.line_table.specs.Record.{with_state, with_activity, turned, activated}
use Rattle.line_table.specs.Search.{used, of_line, marks, blocks, fits}
use Rattle.line_table.specs.Step.{row_taken}
use Rattle.line_table.specs.declared.table.State.TheVariants.{Await}
use Rattle.line_table.specs.declared.table.Row.TheVariants.{BusyAgainKept}
use Rattle.line_table.specs.declared.line.Line.{Line}
use Rattle.line_table.specs.declared.record.Record.{Record}
use Rattle.line_table.specs.declared.record.Turned.{Turned}
use Rattle.line_table.specs.declared.record.Change.{Change}
use Rattle.line_table.specs.declared.record.Change.TheVariants.{Turn}
use Rattle.line_table.specs.declared.record.Decision.TheVariants.{Deny, Store}
use Rattle.line_table.specs.declared.inputs.Act.{Act}
use Rattle.line_table.specs.declared.inputs.Input.{Input}
use Rattle.line_records.specs.Layout as Layout
use Rattle.line_records.specs.Records.{blank, records}
use Rattle.line_records.specs.Lines.{no_line, lines, line_at}
use Rattle.line_plan.specs.Decide.{line_most, counted_decision}
use Rattle.line.specs.Entry.{message_entry}
use Rattle.line.specs.Start.{started}
use Rattle.line.specs.Steps.{step, entered, received_bytes}
use Rattle.line.specs.declared.Desk.{Desk}

-- how a record of the line desk is looked at
abbrev pub line_view : View Record
line_view = record { used = used; name = λ r. r.terms.identifier; blank = blank }

-- the record of a place
abbrev pub record_at : Desk → ℕ → Record
record_at d i = get_or (records d.words) i blank

-- ---- a refusal leaves everything as it was: lines, status, settings, every place; and tells which it is and perhaps a reply: no timer, no place
abbrev pub Same : Desk → Desk → Outcome → Type 0
Same before after outcome = (refusal : Refusal) → outcome.refusal ≡ Some refusal → (after ≡ before) × (outcome ≡ refused_with refusal outcome.sending)

pub record RefusedSame : Type 0 where
  pub steps : (d : Desk) (count : ℕ) (entry : Result Input Refusal) → Same d (entered d count entry).desk (entered d count entry).outcome
  pub bytes :
      (d : Desk) (count : ℕ) (bytes : List ℕ) (place : ℕ) →
      Same d (received_bytes d count bytes place).desk (received_bytes d count bytes place).outcome
  -- no desk is made: the answer has one without lines
  pub starts :
      (given : List ℕ) (keep retain : Bool) → ((started given keep retain).outcome.refusal ≡ None → ⊥) →
      (started given keep retain).desk.words ≡ replicate Layout.words 0

-- ---- a sound desk
-- the terms of a record: both choices are made, and its fields are in range
pub record Agreed (t : Terms) : Type 0 where
  pub keep : t.keep ≡ Keep.Empty → ⊥
  pub connection : t.connection ≡ Connection.Empty → ⊥
  -- only numberA may be missing
  pub numberA : digits_in_range 0 (bytes_of t.numberA) ≡ true
  pub numberB : digits_in_range 1 (bytes_of t.numberB) ≡ true
  pub service : t.service < 16384

-- a used record: its line is there, it is suspended only in Await, and only a retained connection is marked down
pub record Whole (ls : List Line) (r : Record) : Type 0 where
  pub agreed : Agreed r.terms
  pub line : line_at r.terms.numberB ls ≡ None → ⊥
  pub suspension : r.suspended ≡ true → r.state ≡ Await
  pub fell : r.down ≡ true → r.terms.connection ≡ Connection.Ret

pub record Sound (words : List ℕ) : Type 0 where
  pub full : length words ≡ Layout.words
  -- used places come first, a free one is blank, identifiers all differ, of records that have one
  pub placed : Placed line_view (records words)
  pub each : (i : ℕ) → used (get_or (records words) i blank) ≡ true → Whole (lines words) (get_or (records words) i blank)
  -- at most 5 records a line
  pub five : (number : Words) → count (of_line number) (records words) ≤ line_most
  -- no number twice: a place without a line has none
  pub apart :
      (k m : ℕ) → ((get_or (lines words) k no_line).number ≡ no_number → ⊥) → (get_or (lines words) k no_line).number ≡ (get_or (lines words) m no_line).number → k ≡ m

-- ---- a desk reached from a start, by any inputs, each at any count of seconds
-- what the code's type says of a message's numbers: sixteen bytes each
pub record Typed (m : Message) : Type 0 where
  pub length_a : length m.numberA ≡ 16
  pub bytes_a : Bytes m.numberA
  pub length_b : length m.numberB ≡ 16
  pub bytes_b : Bytes m.numberB

-- an input that the entry makes of values of the code's types: a message in range, with any place; any name, and any number
pub data Fair : Input → Type 0 where
  hears : {input : Input} (m : Message) (place : ℕ) → Typed m → message_entry m place ≡ Ok input → Fair input
  acts : (name : Name) (act : Act) → Fair (Input.Act name act)
  guards : (name : Name) → Fair (Input.Guard name)
  reports : (number : Words) (busy : Bool) → Fair (Input.Report number busy)
  looks : (number : Words) → Fair (Input.Look number)

pub data Reached : Desk → Type 0 where
  starts : (given : List ℕ) (keep retain : Bool) → Bytes given → Reached (started given keep retain).desk
  steps : {d : Desk} {input : Input} (count : ℕ) → Fair input → Reached d → Reached (step d count input).desk
  reads : {d : Desk} (count : ℕ) (bytes : List ℕ) (place : ℕ) → Bytes bytes → Reached d → Reached (received_bytes d count bytes place).desk

abbrev pub ReachedSound : Type 0
ReachedSound = (d : Desk) → Reached d → Sound d.words

abbrev pub ReachedMost : Type 0
ReachedMost = (d : Desk) → Reached d → stored line_view (records d.words) ≤ Layout.places

-- ---- records stand in the order of acceptance
abbrev pub InOrder : Desk → Desk → Type 0
InOrder before after = Queued (names line_view (records before.words)) (names line_view (records after.words))

pub record OrderOfAcceptance : Type 0 where
  pub steps : (d : Desk) → Reached d → (count : ℕ) (input : Input) → Fair input → InOrder d (step d count input).desk
  pub bytes : (d : Desk) → Reached d → (count : ℕ) (bytes : List ℕ) (place : ℕ) → Bytes bytes → InOrder d (received_bytes d count bytes place).desk

-- ---- a step is about the record at the place that its outcome tells: every other stays, behind a removed one a place further to the front. A line report is about none, and marks some (`Reports`)
abbrev pub NoReport : Input → Type 0
NoReport (Input.Message l place) = Unit
NoReport (Input.Act name act) = Unit
NoReport (Input.Guard name) = Unit
NoReport (Input.Report number busy) = ⊥
NoReport (Input.Look number) = Unit

abbrev pub OthersHeld : Type 0
OthersHeld =
    (d : Desk) → Reached d → (count : ℕ) (input : Input) → Fair input → NoReport input →
    OthersStay line_view (step d count input).outcome.at (records d.words) (records (step d count input).desk.words)

-- ---- 5 against 6 on one line, 32 against 33 records: a request that is neither long nor a duplicate
pub record Admitted : Type 0 where
  -- stored behind all used records
  pub accepted :
      (d : Desk) → Reached d → (asked : Names) (q : Request) (busy : Bool) →
      count (of_line asked.numberB) (records d.words) < line_most → stored line_view (records d.words) < Layout.places →
      counted_decision d.words asked q busy ≡ Store (stored line_view (records d.words)) q busy
  pub sixth :
      (d : Desk) (asked : Names) (q : Request) (busy : Bool) → line_most ≤ count (of_line asked.numberB) (records d.words) →
      counted_decision d.words asked q busy ≡ Deny 1
  pub thirty_third :
      (d : Desk) (asked : Names) (q : Request) (busy : Bool) → stored line_view (records d.words) ≡ Layout.places →
      counted_decision d.words asked q busy ≡ Deny 1

-- ---- which record a Look offers, on every desk: the oldest of the line that fits
pub record Offered (d : Desk) (number : Words) (after : Desk) (told : Option ℕ) : Type 0 where
  pub place : ℕ
  -- the outcome tells its place
  pub at : told ≡ Some place
  pub line : ℕ
  pub its : line_at number (lines d.words) ≡ Some line
  pub free : can_take (get_or (lines d.words) line no_line) ≡ true
  pub unblocked : (j : ℕ) → blocks number (record_at d j) ≡ false
  pub fitting : fits number (record_at d place) ≡ true
  -- no older record fits
  pub oldest : (j : ℕ) → j < place → fits number (record_at d j) ≡ false
  pub stored : records after.words ≡ set (records d.words) place (with_state (record_at d place) Await)
  pub others : lines after.words ≡ lines d.words

pub record OldestOffered : Type 0 where
  pub offers :
      (d : Desk) (count : ℕ) (number : Words) → length d.words ≡ Layout.words → (step d count (Input.Look number)).outcome.refusal ≡ None →
      Offered d number (step d count (Input.Look number)).desk (step d count (Input.Look number)).outcome.at
  -- 11 only if the line is busy, a record of the line blocks it, or none fits
  pub nothing :
      (d : Desk) (count : ℕ) (number : Words) (k : ℕ) → line_at number (lines d.words) ≡ Some k → can_take (get_or (lines d.words) k no_line) ≡ true →
      ((j : ℕ) → blocks number (record_at d j) ≡ false) → (i : ℕ) → fits number (record_at d i) ≡ true →
      (step d count (Input.Look number)).outcome.refusal ≡ None

-- ---- what busy again with keep leaves (document 02, Ask 5): a record that fits a Look from now on, whatever its activity mark
pub data Kept (place : ℕ) (r : Record) : Change → Type 0 where
  kept : (t : Turned) → ((active : Bool) → fits r.terms.numberB (with_activity (turned t r) active) ≡ true) → Kept place r (Turn t place)

abbrev pub KeptFits : Type 0
KeptFits = (place : ℕ) (r : Record) → Kept place r (row_taken place r BusyAgainKept).change

-- ---- what a line report changes: the line's status, and marks of activity, set and never cleared
pub record Reports : Type 0 where
  pub marks :
      (d : Desk) (count : ℕ) (number : Words) (busy : Bool) → length d.words ≡ Layout.words → (step d count (Input.Report number busy)).outcome.refusal ≡ None →
      records (step d count (Input.Report number busy)).desk.words
      ≡ map (λ r. pick (both busy (marks number r)) (activated r) r) (records d.words)
  pub status :
      (d : Desk) (count : ℕ) (number : Words) (busy : Bool) (k : ℕ) → length d.words ≡ Layout.words → line_at number (lines d.words) ≡ Some k →
      lines (step d count (Input.Report number busy)).desk.words ≡ set (lines d.words) k (with_status (get_or (lines d.words) k no_line) busy)
