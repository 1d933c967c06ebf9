-- Demand 3: what is claimed of two desks and two wires that deliver in order or drop, in every run. Each claim is a type; its proof has its name.
-- What the words of a claim mean stands before it, and World.antt says what can happen.
use Rattle.lists.specs.declared.words.Words.{Words}
use Rattle.std.specs.Prelude.{ℕ, take, drop, Option, Some, Ok}
use mathlib.Core.{Path.◌≡◌, Bool.Bool, Bool.true, Bool.false, Logic.◌⊎◌, List.List, List.[], List.◌∷◌, List.map, List.Memᴰ as Noted}
use Rattle.lists.specs.{Words.Bytes, declared.words.Words.Words}
use Rattle.message.specs.declared.Message.{Message}
use Rattle.message.specs.declared.refusal.Refusal.TheVariants.{NotInCarrier}
use Rattle.desk.specs.declared.Connection.TheVariants.{Empty}
use Rattle.places.specs.Places.{Held, none, one}
use Rattle.clerk_table.specs.{Inputs.names_of as clerk_names, declared.record.Record.Record as ClerkRecord, declared.table.State.State as ClerkState}
use Rattle.line_table.specs.{Inputs.names_of as line_names, Record.activated, Search.marks, declared.inputs.Input.Input as LineInput}
use Rattle.line_table.specs.declared.{record.Record.Record as LineRecord, table.State.State as LineState}
use Rattle.clerk.specs.declared.start.Lengths.{Lengths}
use Rattle.clerk.specs.Steps as Clerk
use Rattle.line.specs.Steps as Line
use Rattle.pair.specs.World.{Of, Naming, origins, identifiers, Note, taken_up, dropped, run_out, guarded, World, new_label, label_of, clerk_holds, line_holds, messages_of, clerk_touched, line_touched, signal_entry}
use Rattle.pair.specs.World.{Event, clerk_does, line_does, clerk_is_told, clerk_hears, line_hears, drops_up, drops_down, counts, next, Allowed, Run, stop, then, start_world, Reached, is_request, Once, Apart}

-- the words that need no name for a request
-- acknowledged: the connection choice is not empty
abbrev pub Acknowledged : ClerkRecord → Type 0
Acknowledged c = c.terms.connection ≡ Empty → ⊥

-- while both hold it the data agree
pub record Agree (c : ClerkRecord) (l : LineRecord) : Type 0 where
  pub identifier : c.terms.identifier ≡ l.terms.identifier
  pub numberA : c.terms.numberA ≡ l.terms.numberA
  pub numberB : c.terms.numberB ≡ l.terms.numberB
  pub service : c.terms.service ≡ l.terms.service
  -- once acknowledged also keep choice and connection choice
  pub keep : Acknowledged c → c.terms.keep ≡ l.terms.keep
  pub connection : Acknowledged c → c.terms.connection ≡ l.terms.connection

-- a listed pair (document 01, "Pairs when the wires are quiet")
pub data Listed : Held ClerkRecord → Held LineRecord → Type 0 where
  no_record : Listed none none
  invoked : {c : ClerkRecord} {l : LineRecord} → c.state ≡ ClerkState.Invoked → l.state ≡ LineState.Invoked → Listed (one c) (one l)
  -- suspended mark set or not
  wait_answer : {c : ClerkRecord} {l : LineRecord} → c.state ≡ ClerkState.WaitAnswer → l.state ≡ LineState.Await → Listed (one c) (one l)
  suspended : {c : ClerkRecord} {l : LineRecord} → c.state ≡ ClerkState.Suspended → l.state ≡ LineState.Await → l.suspended ≡ true → Listed (one c) (one l)
  ringout : {c : ClerkRecord} {l : LineRecord} → c.state ≡ ClerkState.Ringout → l.state ≡ LineState.Alert → Listed (one c) (one l)

-- none of these messages is a request
abbrev pub NoRequest : List Message → Type 0
NoRequest [] = Unit
NoRequest (m ∷ ms) = (is_request m.body ≡ false) × NoRequest ms

-- the request that a step is about, at most one: the one that an input at an end touches, a Look's too, or of which the signalling tells; or whose message is
-- delivered. A line report, a drop and another count are about none
abbrev pub whom : World → Event → List (Of (Option Words))
whom w (clerk_does input) = clerk_touched w (new_label w (clerk_names input).identifier) (Ok input)
whom w (line_does input) = line_touched w (new_label w (line_names input).identifier) (Ok input)
whom w (clerk_is_told signal name busy) = clerk_touched w (new_label w name.identifier) (signal_entry signal name busy)
whom w (clerk_hears busy place) = map label_of (take 1 w.down)
whom w (line_hears place) = map label_of (take 1 w.up)
whom w (drops_up i) = []
whom w (drops_down i) = []
whom w (counts count) = []

-- the same, except that a busy report of its line may mark the activity of an Invoked record (which are marked: `Reports` in line_sound)
pub data Unaltered : Event → Held LineRecord → Held LineRecord → Type 0 where
  same : {e : Event} {r : Held LineRecord} → Unaltered e r r
  marked :
      {number : Words} (r : LineRecord) → marks number r ≡ true →
      Unaltered (line_does (LineInput.Report number true)) (one r) (one (activated r))

-- ---- the claims, of a request by its key k, in runs in which a premise holds of it at each step
module _ {K : Type 0} (n : Naming K) where
  -- the head of a wire is of the request
  abbrev pub Heads : List (Of Message) → K → Type 0
  Heads [] k = ⊥
  Heads (x ∷ xs) k = n.key (label_of x) ≡ k

  -- something is noted of it
  abbrev pub Told : (Of (Option Words) → Note) → K → World → Type 0
  Told note k w = (l : Of (Option Words)) × ((n.key l ≡ k) × Noted (note l) w.history)

  -- ---- 1. what the clerk's end holds as acknowledged was accepted earlier at the line's end
  -- the head of a wire is its request message
  abbrev pub Requests : List (Of Message) → K → Type 0
  Requests [] k = ⊥
  Requests (x ∷ xs) k = (n.key (label_of x) ≡ k) × (is_request x.it.body ≡ true)

  -- the step by which the line's end, which held nothing of it, hears the request and stores it
  pub record Stores (k : K) (w : World) (e : Event) : Type 0 where
    pub place : ℕ
    pub heard : e ≡ line_hears place
    pub request : Requests w.up k
    pub absent : line_holds n w k ≡ none
    pub stored : LineRecord
    pub present : line_holds n (next w e) k ≡ one stored

  -- some step of the run is that one; `w` is the world before it
  unfoldable pub Accepted : {P : World → Event → Type 0} {first w : World} → K → Run P first w → Type 0
  Accepted k stop = ⊥
  Accepted k (then {w} run e allowed so) = Stores k w e ⊎ Accepted k run

  abbrev pub AcknowledgedWasAccepted : (K → World → Event → Type 0) → Type 0
  AcknowledgedWasAccepted Holds =
      (k : K) (lengths : Lengths) (given : List ℕ) (keep retain : Bool) → Bytes given → (w : World) (run : Run (Holds k) (start_world lengths given keep retain) w) →
      (c : ClerkRecord) → clerk_holds n w k ≡ one c → Acknowledged c → Accepted k run

  -- ---- 2. while both hold it the data agree
  abbrev pub DataAgree : (K → World → Event → Type 0) → Type 0
  DataAgree Holds =
      (k : K) (w : World) → Reached (Holds k) w → (c : ClerkRecord) (l : LineRecord) → clerk_holds n w k ≡ one c → line_holds n w k ≡ one l → Agree c l

  -- ---- 3. quiet wires mean a listed pair
  -- none of its messages was dropped or is under way
  pub record Quiet (k : K) (w : World) : Type 0 where
    pub undropped : Told dropped k w → ⊥
    pub up : messages_of n k w.up ≡ []
    pub down : messages_of n k w.down ≡ []

  abbrev pub QuietListed : (K → World → Event → Type 0) → Type 0
  QuietListed Holds = (k : K) (w : World) → Reached (Holds k) w → Quiet k w → Listed (clerk_holds n w k) (line_holds n w k)

  -- and the kinds agree (document 02, Ask 5): busy again changes the kind at the line's end first, and at the clerk's when the message has come
  abbrev pub KindAgrees : (K → World → Event → Type 0) → Type 0
  KindAgrees Holds =
      (k : K) (w : World) → Reached (Holds k) w → Quiet k w → (c : ClerkRecord) (l : LineRecord) →
      clerk_holds n w k ≡ one c → line_holds n w k ≡ one l → c.terms.kind ≡ l.terms.kind

  -- ---- 4. run-out timers mean nobody holds it
  -- neither end holds it, now or later
  abbrev pub Over : (K → World → Event → Type 0) → K → World → Type 0
  Over Holds k w = (later : World) → Run (Holds k) w later → (clerk_holds n later k ≡ none) × (line_holds n later k ≡ none)

  -- a T1 or T2 report was taken at the clerk's end and a guard report at the line's, its request message is not under way
  abbrev pub OverForGood : (K → World → Event → Type 0) → Type 0
  OverForGood Holds = (k : K) (w : World) → Reached (Holds k) w → Told run_out k w → Told guarded k w → NoRequest (messages_of n k w.up) → Over Holds k w

  -- and a request that was taken up, is held by neither end and has no request message under way is not held again
  abbrev pub GoneForGood : (K → World → Event → Type 0) → Type 0
  GoneForGood Holds =
      (k : K) (w : World) → Reached (Holds k) w → Told taken_up k w → clerk_holds n w k ≡ none → line_holds n w k ≡ none →
      NoRequest (messages_of n k w.up) → Over Holds k w

  -- ---- 5. no step alters another request
  abbrev pub About : World → Event → K → Type 0
  About w e k = Noted k (map n.key (whom w e))

  abbrev pub NoOtherAltered : (K → World → Event → Type 0) → Type 0
  NoOtherAltered Holds =
      (k : K) (w : World) → Reached (Holds k) w → (e : Event) → Allowed w e → Holds k w e → (About w e k → ⊥) →
      (clerk_holds n (next w e) k ≡ clerk_holds n w k) × Unaltered e (line_holds n w k) (line_holds n (next w e) k)

  -- a step that drops one of its messages
  pub data Drops (w : World) : Event → K → Type 0 where
    from_up : {i : ℕ} {k : K} → Heads (drop i w.up) k → Drops w (drops_up i) k
    from-down : {i : ℕ} {k : K} → Heads (drop i w.down) k → Drops w (drops_down i) k

  -- and a step that is not about a request, and does not drop one of its messages, leaves its messages on both wires as they were
  abbrev pub NoOtherMessage : (K → World → Event → Type 0) → Type 0
  NoOtherMessage Holds =
      (k : K) (w : World) → Reached (Holds k) w → (e : Event) → Allowed w e → Holds k w e → (About w e k → ⊥) → (Drops w e k → ⊥) →
      (messages_of n k (next w e).up ≡ messages_of n k w.up) × (messages_of n k (next w e).down ≡ messages_of n k w.down)

  -- ---- the carriers fit (document 02, Ask 11): an end does not refuse with 8 what the other sent, whichever connection fell, and when
  abbrev pub CarriersFit : (K → World → Event → Type 0) → Type 0
  CarriersFit Holds =
      (k : K) (w : World) → Reached (Holds k) w → (x : Of Message) (rest : List (Of Message)) → n.key (label_of x) ≡ k →
      ((busy : Bool) (place : ℕ) → w.down ≡ x ∷ rest → Holds k w (clerk_hears busy place) → (Clerk.received w.clerk w.count x.it busy place).outcome.refusal ≡ Some NotInCarrier → ⊥) ×
      ((place : ℕ) → w.up ≡ x ∷ rest → Holds k w (line_hears place) → (Line.received w.line w.count x.it place).outcome.refusal ≡ Some NotInCarrier → ⊥)

  pub record Claims (Holds : K → World → Event → Type 0) : Type 0 where
    pub acknowledged_was_accepted : AcknowledgedWasAccepted Holds
    pub data_agree : DataAgree Holds
    pub quiet_listed : QuietListed Holds
    pub kind_agrees : KindAgrees Holds
    pub over_for_good : OverForGood Holds
    pub gone_for_good : GoneForGood Holds
    pub no_other_altered : NoOtherAltered Holds
    pub no_other_message : NoOtherMessage Holds
    pub carriers_fit : CarriersFit Holds

-- ---- all of it
-- in runs in which every request has an identifier, each used once, the premise holds by itself
abbrev pub OnceApart : Type 0
OnceApart = (o : ℕ) (w : World) → Reached Once w → (e : Event) → Once w e → Apart o w e

pub record Demand3 : Type 0 where
  -- of a request by its origin, while it is kept apart
  pub by_origin : Claims origins Apart
  pub once_apart : OnceApart
  -- where every request has an identifier, each used once, also by its identifier; none is without one
  pub by_identifier : Claims identifiers (λ j. Once)
