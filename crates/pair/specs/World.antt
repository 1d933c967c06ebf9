-- Two desks, two wires that deliver in order or drop, and the history of the run. A step is an input at a desk, as the desk's contract has it, or the drop of a message.
-- A request is an ask that was taken. The run notes beside records and messages which one they come from; no desk sees it.
use Rattle.lists.specs.declared.words.Words.{Words}
use Rattle.desk.specs.declared.letter.Letter.{Letter}
use Rattle.std.specs.Prelude.{ℕ, suc, Option, Some, None, Ok, Err, Result}
use mathlib.Core.{Path.◌≡◌, Bool.Bool, Bool.true, Bool.false, Bool.not, List.List, List.[], List.◌∷◌, List.◌++◌, List.map, List.Memᴰ as Noted}
use lib.{Dec.eqb, Dec.ltb, ListN.get_or, ListN.set, ListN.length, ListN.replicate, ListN.take, ListN.drop}
use Rattle.lists.specs.{Choice.pick, Lists.both, Lists.without, Words.Bytes, Words.same_words}
use Rattle.message.specs.Format.{typeNumber, has_elements}
use Rattle.message.specs.declared.{Message.Message, Body.Body, Body.TheVariants.RequestError, Body.TheVariants.CallFailed, Carrier.TheVariants.ReleaseComplete}
use Rattle.message.specs.declared.refusal.Refusal.{Refusal}
use Rattle.desk.specs.{Letter.identifier_of, Letter.letter_of, Letter.message_of, Sends.plain_letter, declared.letter.Letter.Letter}
use Rattle.terms.specs.declared.{request.Name.Name, request.Names.Names, request.Request.Request, means.Means.Means, means.Means.TheVariants.At, means.Means.TheVariants.Nothing}
use Rattle.places.specs.Places.{View, at, Held, none, one}
use Rattle.clerk_table.specs.{Inputs.names_of as clerk_names, declared.inputs.Input.Input as ClerkInput, declared.record.Change.Change as ClerkChange, declared.record.Record.Record as ClerkRecord, declared.table.Timer.Timer}
use Rattle.clerk_records.specs.{Layout.places as clerk_places, Meaning.meaning as clerk_meaning, Records.records as clerk_records}
use Rattle.clerk_plan.specs.Plan as ClerkPlan
use Rattle.clerk.specs.{Entry.message_entry as clerk_entry, declared.Desk.Desk as ClerkDesk}
use Rattle.clerk.specs.{Start.started_desk as clerk_started, declared.start.Lengths.Lengths}
use Rattle.clerk.specs.Steps as Clerk
use Rattle.clerk_sound.specs.Sound.{clerk_view, Fair}
use Rattle.line_table.specs.{Inputs.names_of as line_names, declared.inputs.Input.Input as LineInput, declared.record.Change.Change as LineChange, declared.record.Record.Record as LineRecord}
use Rattle.line_records.specs.{Layout.places as line_places, Meaning.meaning as line_meaning, Records.records as line_records}
use Rattle.line_plan.specs.Plan as LinePlan
use Rattle.line.specs.{Entry.message_entry as line_entry, Start.started as line_started, declared.Desk.Desk as LineDesk}
use Rattle.line.specs.Steps as Line
use Rattle.line_sound.specs.Sound.{line_view}
use Rattle.pair_request.specs.Signal.{Signal, call_died, rejected}

-- ---- origins
-- a record or a message, with the number of the ask that it comes from
pub record Of (A : Type 0) : Type 0 where
  pub origin : ℕ
  pub it : A

abbrev pub from : {A : Type 0} → ℕ → A → Of A
from origin it = record { origin = origin; it = it }

-- a label is an identifier, or that there is none, with its origin; and a request is named by one part of it
pub record Naming (K : Type 0) : Type 0 where
  pub key : Of (Option Words) → K
  pub same : K → K → Bool

abbrev pub origins : Naming ℕ
origins = record { key = λ l. l.origin; same = eqb }

abbrev pub alike : Option Words → Option Words → Bool
alike None None = true
alike None (Some other) = false
alike (Some own) None = false
alike (Some own) (Some other) = same_words own other

abbrev pub identifiers : Naming (Option Words)
identifiers = record { key = λ l. l.it; same = alike }

-- ---- the world
-- what is noted of a request: an ask took it up; a message of it was dropped; a T1 or T2 report of it was taken at the clerk's end; a guard report at the line's
-- (that a note is in the history, `Noted`, is mathlib's membership of a list)
pub data Note : Type 0 where
  taken_up dropped run_out guarded : Of (Option Words) → Note

-- `up` is the wire to the line's end, `down` the one to the clerk's; messages arrive from the front. Beside each desk stand the origins of the records at its places
pub record World : Type 0 where
  pub clerk : ClerkDesk
  pub clerk_origins : List ℕ
  pub up : List (Of Message)
  pub line : LineDesk
  pub line_origins : List ℕ
  pub down : List (Of Message)
  pub history : List Note
  -- the count of seconds that a host gives with each step. It may become any between two steps, so the hosts of the two ends need not agree on it
  pub count : ℕ

-- a message's identifier, as the desks compare it
abbrev pub name_of : Message → Option Words
name_of m = identifier_of m.identified m.identifier

-- the label of an ask that is taken now (its number is how long the history is, so no two have one), of a message, and of the record at a place
abbrev pub new_label : World → Option Words → Of (Option Words)
new_label w identifier = from (length w.history) identifier

abbrev pub label_of : Of Message → Of (Option Words)
label_of x = from x.origin (name_of x.it)

abbrev pub label_at : {A : Type 0} → View A → List ℕ → List A → ℕ → Of (Option Words)
label_at v os rs i = from (get_or os i 0) (v.name (at v rs i))

-- what a desk holds of a request: its record, or none
unfoldable pub held_of : {A K : Type 0} → View A → Naming K → K → List ℕ → List A → Held A
held_of v n k os [] = none
held_of v n k [] (r ∷ rs) = none
held_of v n k (o ∷ os) (r ∷ rs) = pick (both (n.same (n.key (from o (v.name r))) k) (v.used r)) (one r) (held_of v n k os rs)

abbrev pub clerk_holds : {K : Type 0} → Naming K → World → K → Held ClerkRecord
clerk_holds n w k = held_of clerk_view n k w.clerk_origins (clerk_records w.clerk.words)

abbrev pub line_holds : {K : Type 0} → Naming K → World → K → Held LineRecord
line_holds n w k = held_of line_view n k w.line_origins (line_records w.line.words)

-- the messages of a request, replies too
unfoldable pub messages_of : {K : Type 0} → Naming K → K → List (Of Message) → List Message
messages_of n k [] = []
messages_of n k (x ∷ xs) = pick (n.same (n.key (label_of x)) k) (x.it ∷ messages_of n k xs) (messages_of n k xs)

-- ---- what a step does to the places of a desk
pub data Touch : Type 0 where
  nothing : Touch
  storing turning removing : ℕ → Touch

abbrev pub clerk_change : ClerkChange → Touch
clerk_change ClerkChange.Stay = nothing
clerk_change (ClerkChange.Put i r) = storing i
clerk_change (ClerkChange.Turn i t) = turning i
clerk_change (ClerkChange.Remove i) = removing i

abbrev pub line_change : LineChange → Touch
line_change LineChange.Stay = nothing
line_change (LineChange.Put i r) = storing i
line_change (LineChange.Turn t i) = turning i
line_change (LineChange.Remove i) = removing i
line_change (LineChange.Report k number busy) = nothing

-- as the desk plans it for what comes in at its entry
abbrev pub clerk_touch : ClerkDesk → Result ClerkInput Refusal → Touch
clerk_touch d (Err refusal) = nothing
clerk_touch d (Ok input) = clerk_change (ClerkPlan.plan_for (clerk_records d.words) input).change

abbrev pub line_touch : LineDesk → Result LineInput Refusal → Touch
line_touch d (Err refusal) = nothing
line_touch d (Ok input) = line_change (LinePlan.plan_for d.words input).change

-- the origins beside the desk afterwards: a record that is stored has the origin that is given, of the ask or of the request message; a removal closes the gap
abbrev pub origins_after : Touch → ℕ → List ℕ → List ℕ
origins_after nothing given os = os
origins_after (storing i) given os = set os i given
origins_after (turning i) given os = os
origins_after (removing i) given os = without 0 os i

-- whom the step is for: the record that it turns or removes; where one is stored what is given; else nobody
abbrev pub touched : {A : Type 0} → View A → List ℕ → List A → Of (Option Words) → Touch → List (Of (Option Words))
touched v os rs given nothing = []
touched v os rs given (storing i) = given ∷ []
touched v os rs given (turning i) = label_at v os rs i ∷ []
touched v os rs given (removing i) = label_at v os rs i ∷ []

abbrev pub clerk_touched : World → Of (Option Words) → Result ClerkInput Refusal → List (Of (Option Words))
clerk_touched w given entry = touched clerk_view w.clerk_origins (clerk_records w.clerk.words) given (clerk_touch w.clerk entry)

abbrev pub line_touched : World → Of (Option Words) → Result LineInput Refusal → List (Of (Option Words))
line_touched w given entry = touched line_view w.line_origins (line_records w.line.words) given (line_touch w.line entry)

-- ---- the steps
pub data Event : Type 0 where
  -- what a host puts in at an end: at the clerk's an ask, User A's act, a timer's report; at the line's a line report, a Look, an act, the guard's report (no message:
  -- `Allowed`)
  clerk_does : ClerkInput → Event
  line_does : LineInput → Event
  -- what the signalling of a request's call tells the clerk's host, with the host's word on User A
  clerk_is_told : Signal → Name → Bool → Event
  -- the head of a wire is delivered, with the place that the host names for it: of `down`, with the host's word on User A; of `up`
  clerk_hears : Bool → ℕ → Event
  line_hears : ℕ → Event
  -- any message of a wire is dropped, by its place
  drops_up drops_down : ℕ → Event
  -- the count is another one
  counts : ℕ → Event

-- what an outcome sends, a reply too
abbrev pub sent_by : Option Letter → List Message
sent_by None = []
sent_by (Some l) = message_of l ∷ []

-- what is noted of those that an input is for: an ask takes up a request; T1, T2 or a guard has run out. T3 is no timer of the demand
abbrev pub clerk_notes : ClerkInput → List (Of (Option Words)) → List Note
clerk_notes (ClerkInput.Ask names q) ls = map taken_up ls
clerk_notes (ClerkInput.Message l busy place) ls = []
clerk_notes (ClerkInput.Act name act) ls = []
clerk_notes (ClerkInput.Timer name Timer.T1) ls = map run_out ls
clerk_notes (ClerkInput.Timer name Timer.T2) ls = map run_out ls
clerk_notes (ClerkInput.Timer name Timer.T3) ls = []

abbrev pub line_notes : LineInput → List (Of (Option Words)) → List Note
line_notes (LineInput.Message l place) ls = []
line_notes (LineInput.Act name act) ls = []
line_notes (LineInput.Guard name) ls = map guarded ls
line_notes (LineInput.Report number busy) ls = []
line_notes (LineInput.Look number) ls = []

-- the world after a step of a desk: with what is left of the wire that it heard from, the label of what came in, and what is noted of those that the step is for. What is
-- sent is for them; a reply is for the message that is refused
abbrev pub clerk_stepped : World → List (Of Message) → Of (Option Words) → Result ClerkInput Refusal → (List (Of (Option Words)) → List Note) → World
clerk_stepped w down given entry notes =
    let step = Clerk.entered w.clerk w.count entry in
    let whom = clerk_touched w given entry in
    let os = origins_after (clerk_touch w.clerk entry) given.origin w.clerk_origins in
    let sent = map (from (get_or whom 0 given).origin) (sent_by step.outcome.sending) in
    record { clerk = step.desk; clerk_origins = os; up = w.up ++ sent; line = w.line; line_origins = w.line_origins; down = down; history = notes whom ++ w.history; count = w.count }

abbrev pub line_stepped : World → List (Of Message) → Of (Option Words) → Result LineInput Refusal → (List (Of (Option Words)) → List Note) → World
line_stepped w up given entry notes =
    let step = Line.entered w.line w.count entry in
    let whom = line_touched w given entry in
    let os = origins_after (line_touch w.line entry) given.origin w.line_origins in
    let sent = map (from (get_or whom 0 given).origin) (sent_by step.outcome.sending) in
    record { clerk = w.clerk; clerk_origins = w.clerk_origins; up = up; line = step.desk; line_origins = os; down = w.down ++ sent; history = notes whom ++ w.history; count = w.count }

-- the head is delivered, refused or not; an empty wire delivers nothing
unfoldable pub clerkHeard : World → Bool → ℕ → List (Of Message) → World
clerkHeard w busy place [] = w
clerkHeard w busy place (x ∷ rest) = clerk_stepped w rest (label_of x) (clerk_entry x.it busy place) (λ whom. [])

unfoldable pub lineHeard : World → ℕ → List (Of Message) → World
lineHeard w place [] = w
lineHeard w place (x ∷ rest) = line_stepped w rest (label_of x) (line_entry x.it place) (λ whom. [])

-- a message that nobody sent (docs/HOST.md, 12): type 12, or type 4 short, in Release Complete. The types 11 and 7 that HOST.md names there are no
-- steps of a run, since claim 3 would not hold of them (`LeftOut` in crate pair_runs)
abbrev pub signal_letter : Signal → Option Words → Letter
signal_letter call_died identifier = plain_letter identifier ReleaseComplete CallFailed
signal_letter rejected identifier = plain_letter identifier ReleaseComplete (RequestError 1)

abbrev pub signal_entry : Signal → Name → Bool → Result ClerkInput Refusal
signal_entry signal name busy = Ok (ClerkInput.Message (signal_letter signal name.identifier) busy name.place)

-- a wire without the message at a place, and the note of it; behind its end there is none
abbrev pub lost_at : ℕ → List (Of Message) → List Note
lost_at i wire = map (λ x. dropped (label_of x)) (take 1 (drop i wire))

-- the world with other wires and another count, which leaves both desks as they are
abbrev pub lossy : World → List (Of Message) → List (Of Message) → List Note → ℕ → World
lossy w up down notes count =
    record { clerk = w.clerk; clerk_origins = w.clerk_origins; up = up; line = w.line; line_origins = w.line_origins; down = down; history = notes ++ w.history; count = count }

-- what a host puts in has the label of an ask that is taken now: it counts only if it is one
unfoldable pub next : World → Event → World
next w (clerk_does input) = clerk_stepped w w.down (new_label w (clerk_names input).identifier) (Ok input) (clerk_notes input)
next w (line_does input) = line_stepped w w.up (new_label w (line_names input).identifier) (Ok input) (line_notes input)
next w (clerk_is_told signal name busy) = clerk_stepped w w.down (new_label w name.identifier) (signal_entry signal name busy) (λ whom. [])
next w (clerk_hears busy place) = clerkHeard w busy place w.down
next w (line_hears place) = lineHeard w place w.up
next w (drops_up i) = lossy w (take i w.up ++ drop (suc i) w.up) w.down (lost_at i w.up) w.count
next w (drops_down i) = lossy w w.up (take i w.down ++ drop (suc i) w.down) (lost_at i w.down) w.count
next w (counts count) = lossy w w.up w.down [] count

-- ---- runs
pub record Allowed (w : World) (e : Event) : Type 0 where
  -- an ask is any that the entry makes of values of the code's types
  pub asked : (names : Names) (q : Request) → e ≡ clerk_does (ClerkInput.Ask names q) → Fair (ClerkInput.Ask names q)
  -- no host makes up a message: but for what the signalling tells, messages come by the wires
  pub toClerk : (l : Letter) (busy : Bool) (place : ℕ) → e ≡ clerk_does (ClerkInput.Message l busy place) → ⊥
  pub toLine : (l : Letter) (place : ℕ) → e ≡ line_does (LineInput.Message l place) → ⊥

-- a run in which a premise holds at each step
pub data Run (Holds : World → Event → Type 0) (first : World) : World → Type 0 where
  stop : Run Holds first first
  then : {w : World} → Run Holds first w → (e : Event) → Allowed w e → Holds w e → Run Holds first (next w e)

-- two desks started empty, the clerk's with any lengths of its timers, the line desk with any lines and settings; where these are refused, a desk without lines, which no host is given
abbrev pub start_world : Lengths → List ℕ → Bool → Bool → World
start_world lengths given keep retain =
    record { clerk = clerk_started lengths; clerk_origins = replicate clerk_places 0; up = []; line = (line_started given keep retain).desk; line_origins = replicate line_places 0; down = []; history = []; count = 0 }

-- a world of a run from the start
pub data Reached (Holds : World → Event → Type 0) (w : World) : Type 0 where
  reached : (lengths : Lengths) (given : List ℕ) (keep retain : Bool) → Bytes given → Run Holds (start_world lengths given keep retain) w → Reached Holds w

-- ---- premises of a run
-- none
abbrev pub Any : World → Event → Type 0
Any w e = Unit

-- every ask that is taken has an identifier, and one that none before it had
abbrev pub Once : World → Event → Type 0
Once w e =
    (names : Names) (q : Request) → e ≡ clerk_does (ClerkInput.Ask names q) → (Clerk.step w.clerk w.count (ClerkInput.Ask names q)).outcome.refusal ≡ None →
    (names.identifier ≡ None → ⊥) × ((o : ℕ) → Noted (taken_up (from o names.identifier)) w.history → ⊥)

-- types 1 and 2, whose numbers are below 3
abbrev pub is_request : Body → Bool
is_request body = ltb (typeNumber body) 3

-- the record that a message means at each end, as the desk finds it: by its identifier, by its elements in Setup, or by the place that the host names. A request means
-- none, it makes one
abbrev pub clerk_means : World → Message → ℕ → Means
clerk_means w m place = clerk_meaning (letter_of m) place (clerk_records w.clerk.words)

abbrev pub line_means : World → Message → ℕ → Means
line_means w m place = pick (is_request m.body) Nothing (line_meaning (letter_of m) place (line_records w.line.words))

-- it goes by the place: it has no identifier, and no elements in Setup
abbrev pub by_place : Message → Bool
by_place m = both (not m.identified) (not (has_elements m.body m.carrier))

-- a message is of a request, by its key k, exactly if the record that it means is; and where it goes by the place, the one that is named is that of the request's record
pub record Rightly {A K : Type 0} (v : View A) (n : Naming K) (k : K) (os : List ℕ) (rs : List A) (x : Of Message) (place : ℕ) (means : Means) : Type 0 where
  pub its : (i : ℕ) → means ≡ At i → (n.key (label_at v os rs i) ≡ k → n.key (label_of x) ≡ k) × (n.key (label_of x) ≡ k → n.key (label_at v os rs i) ≡ k)
  pub named : by_place x.it ≡ true → n.key (label_of x) ≡ k → (i : ℕ) → v.used (at v rs i) ≡ true → n.key (label_at v os rs i) ≡ k → place ≡ i

-- no message of another request means its record, none of its own means another's record, and a place that is named for it is its record's
pub record KeptApart {K : Type 0} (n : Naming K) (k : K) (w : World) (e : Event) : Type 0 where
  pub atClerk :
      (busy : Bool) (place : ℕ) (x : Of Message) (rest : List (Of Message)) → e ≡ clerk_hears busy place → w.down ≡ x ∷ rest →
      Rightly clerk_view n k w.clerk_origins (clerk_records w.clerk.words) x place (clerk_means w x.it place)
  pub atLine :
      (place : ℕ) (x : Of Message) (rest : List (Of Message)) → e ≡ line_hears place → w.up ≡ x ∷ rest →
      Rightly line_view n k w.line_origins (line_records w.line.words) x place (line_means w x.it place)

-- of a request by its origin
abbrev pub Apart : ℕ → World → Event → Type 0
Apart = KeptApart origins
