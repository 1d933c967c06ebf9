-- The run of demand 3 is what a host makes by its calls. Each claim is a type; its proof has its name.
use Rattle.lists.specs.declared.words.Words.{Words}
use Rattle.std.specs.Prelude.{ℕ, ◌*◌, ◌≤◌, ◌≡◌, Bool, true, ◌⊎◌, length, Option, Some, None, Ok}
use mathlib.Core.List.{List, [], ◌∷◌, ◌++◌, Memᴰ as Noted}
use Rattle.lists.specs.Choice.{pick}
use Rattle.lists.specs.Parts.{over}
use Rattle.message.specs.Format.{writable, message_bytes}
use Rattle.message.specs.Reading as Reading
use Rattle.message.specs.Wire.{message_at}
use Rattle.message.specs.declared.Fault.{Fault}
use Rattle.message.specs.declared.Message.{Message}
use Rattle.message.specs.declared.refusal.Refusal.TheVariants.{OutOfRange}
use Rattle.desk.specs.Letter.{identifier_of, message_of, number_words}
use Rattle.desk.specs.Steps.{with_next}
use Rattle.desk.specs.declared.outcome.Outcome.{Outcome}
use Rattle.told.specs.Told.{told_of, refusal_told}
use Rattle.clerk_table.specs.declared.inputs.Act as ClerkAct
use Rattle.clerk_table.specs.declared.inputs.Input.TheVariants as AtClerk
use Rattle.clerk_table.specs.declared.table.Timer.{Timer}
use Rattle.clerk.specs.declared.start.Lengths.{Lengths}
use Rattle.clerk_records.specs.Layout.{places as clerk_places}
use Rattle.clerk.specs.Steps as Clerk
use Rattle.clerk.specs.Entry.{ask_names, ask_request, ask_entry}
use Rattle.clerk.specs.declared.entry.Asking.{Asking}
use Rattle.clerk_sound.specs.Sound.{Typed}
use Rattle.line_table.specs.declared.inputs.Act as LineAct
use Rattle.line_table.specs.declared.inputs.Input.TheVariants as AtLine
use Rattle.line_records.specs.Layout.{places as line_places}
use Rattle.line.specs.Steps as Line
use Rattle.host_numbers.specs.Identifiers.{name_given}
use Rattle.host_numbers.specs.Given.{asking_of, is_word, yes}
use Rattle.told.specs.Face.{Face, face}
use Rattle.tollherring.specs.Face.{refused_face, faced}
use Rattle.tollherring.specs.Clerk.{lengths_of, clerk_started_words, clerk_started_answer, clerk_asked, clerk_received, clerk_acted, clerk_reported}
use Rattle.tollherring.specs.Line.{line_started_words, line_started_answer, line_received, line_status_reported, line_looked, line_acted, line_guarded}
use Rattle.ticks.specs.Clerk.{clerk_ticked}
use Rattle.ticks.specs.Line.{line_ticked}
use Rattle.pair_request.specs.Signal.{Signal}
use Rattle.pair.specs.World.{Of, from, taken_up, World, Event, clerk_does, line_does, clerk_is_told, clerk_hears, line_hears, name_of, sent_by, signal_letter, next, Allowed, start_world, Reached, Any, Once}
use Rattle.pair.specs.Ticks as Run
use Rattle.exported.specs.Calls.{carried, clerk_end, line_end, Puts, IsStep, IsTick}

-- ---- what a step puts on a wire, the call writes as its bytes
pub record AsBytes (m : Message) : Type 0 where
  -- so the writer never answers 2, and 54 bytes are always enough
  pub ranged : writable m ≡ true
  pub most : length (message_bytes m) ≤ 54
  -- where there is room, a call whose outcome sends it is done: the front of the buffer is the bytes of the message, and nothing behind them changes
  pub roomy :
      (words after out : List ℕ) (outcome : Outcome) (unread : ℕ) → sent_by outcome.sending ≡ m ∷ [] → length (message_bytes m) ≤ length out →
      faced words after out outcome unread ≡ face after (over (message_bytes m) out) (told_of outcome (length (message_bytes m)) unread) (refusal_told outcome.refusal)

abbrev pub SentAsBytes : Type 0
SentAsBytes =
    (w : World) → Reached Any w → (e : Event) → Allowed w e → (m : Message) →
    Puts (clerk_end w) (clerk_end (next w e)) m ⊎ Puts (line_end w) (line_end (next w e)) m → AsBytes m

-- ---- a delivery may as well be of bytes: those that the writer makes of a message, whatever follows them
abbrev pub ClerkHearsBytes : World → Bool → ℕ → List ℕ → List Message → Type 0
ClerkHearsBytes w busy place rest [] = Unit
ClerkHearsBytes w busy place rest (m ∷ ms) =
    Clerk.received_bytes w.clerk w.count (message_bytes m ++ rest) busy place ≡ with_next (Clerk.received w.clerk w.count m busy place) (length (message_bytes m)) None

abbrev pub LineHearsBytes : World → ℕ → List ℕ → List Message → Type 0
LineHearsBytes w place rest [] = Unit
LineHearsBytes w place rest (m ∷ ms) =
    Line.received_bytes w.line w.count (message_bytes m ++ rest) place ≡ with_next (Line.received w.line w.count m place) (length (message_bytes m)) None

abbrev pub HeardAsBytes : Type 0
HeardAsBytes =
    (w : World) → Reached Any w → (busy : Bool) (place : ℕ) (rest : List ℕ) → ClerkHearsBytes w busy place rest (carried w.down) × LineHearsBytes w place rest (carried w.up)

-- ---- a call is a step of `next`, or leaves the desk and the buffer as they were
-- a call at an end is the step of an event
abbrev pub ClerkCall : World → Event → List ℕ → ℕ → Face → Type 0
ClerkCall w e = IsStep (clerk_end w) (clerk_end (next w e))

abbrev pub LineCall : World → Event → List ℕ → ℕ → Face → Type 0
LineCall w e = IsStep (line_end w) (line_end (next w e))

abbrev pub ask_event : Asking → Event
ask_event a = clerk_does (AtClerk.Ask (ask_names a) (ask_request a))

-- the calls at the desks of a world, each with the world's count, whatever numbers and arrays are passed with the buffer `out`
pub record Calls (w : World) (out : List ℕ) : Type 0 where
  -- an ask; a run may have it if it is of values of the code's types, and one in which every request has an identifier, each used once, if it has one that was not taken up before
  pub clerk_ask :
      (identifier : List ℕ) (kind : ℕ) (numberA numberB : List ℕ) (service canKeep preference : ℕ) →
      ClerkCall w (ask_event (asking_of identifier kind numberA numberB service canKeep preference)) out 0
      (clerk_asked w.clerk.words w.count out identifier kind numberA numberB service canKeep preference)
  pub ask_allowed :
      (a : Asking) → Typed a → ask_entry a ≡ Ok (AtClerk.Ask (ask_names a) (ask_request a)) → Allowed w (ask_event a)
  pub ask_once :
      (a : Asking) → a.identified ≡ true → ((o : ℕ) → Noted (taken_up (from o (identifier_of a.identified a.identifier))) w.history → ⊥) → Once w (ask_event a)
  -- User A's act, and a timer's report, with the place that the host names
  pub clerk_act :
      (place : ℕ) (identifier : List ℕ) (number : ℕ) →
      (act : ClerkAct.Act) × ClerkCall w (clerk_does (AtClerk.Act (name_given identifier place) act)) out 0 (clerk_acted w.clerk.words w.count out place identifier number)
  pub clerk_report :
      (place : ℕ) (identifier : List ℕ) (number : ℕ) →
      (timer : Timer) × ClerkCall w (clerk_does (AtClerk.Timer (name_given identifier place) timer)) out 0 (clerk_reported w.clerk.words w.count out place identifier number)
  -- a line report, a Look, an act, the guard's report
  pub line_report :
      (digits : List ℕ) (busy : ℕ) → LineCall w (line_does (AtLine.Report (number_words digits) (yes busy))) out 0 (line_status_reported w.line.words w.count out digits busy)
  pub line_look : (digits : List ℕ) → LineCall w (line_does (AtLine.Look (number_words digits))) out 0 (line_looked w.line.words w.count out digits)
  pub line_act :
      (place : ℕ) (identifier : List ℕ) (number : ℕ) →
      (act : LineAct.Act) × LineCall w (line_does (AtLine.Act (name_given identifier place) act)) out 0 (line_acted w.line.words w.count out place identifier number)
  pub line_guard : (place : ℕ) (identifier : List ℕ) → LineCall w (line_does (AtLine.Guard (name_given identifier place))) out 0 (line_guarded w.line.words w.count out place identifier)
  -- bytes that begin with those of the head of the wire
  pub clerk_receive :
      (x : Of Message) (rest : List (Of Message)) → w.down ≡ x ∷ rest → (place : ℕ) (behind : List ℕ) (busy : ℕ) →
      let m = x.it in
      ClerkCall w (clerk_hears (yes busy) place) out (length (message_bytes m)) (clerk_received w.clerk.words w.count out place (message_bytes m ++ behind) busy)
  pub line_receive :
      (x : Of Message) (rest : List (Of Message)) → w.up ≡ x ∷ rest → (place : ℕ) (behind : List ℕ) →
      let m = x.it in
      LineCall w (line_hears place) out (length (message_bytes m)) (line_received w.line.words w.count out place (message_bytes m ++ behind))
  -- the bytes that the clerk's host makes of what the signalling of a call tells it
  pub clerk_told :
      (signal : Signal) (identifier : Option Words) (place : ℕ) (behind : List ℕ) (busy : ℕ) →
      let m = message_of (signal_letter signal identifier) in
      ClerkCall w (clerk_is_told signal (record { identifier = name_of m; place = place }) (yes busy)) out (length (message_bytes m))
      (clerk_received w.clerk.words w.count out place (message_bytes m ++ behind) busy)
  -- bytes that the reader refuses are told with the fault's number and place; a word on User A that is none comes first. Of other bytes nothing is said: they are a message that is neither the head of the wire nor a signal, so nobody of the pair sent it
  pub clerk_unread :
      (place : ℕ) (bytes : List ℕ) (fault : Fault) (busy : ℕ) → message_at bytes ≡ Reading.refused fault →
      clerk_received w.clerk.words w.count out place bytes busy
      ≡ pick (is_word busy) (refused_face w.clerk.words out fault.refusal (Some fault.place)) (refused_face w.clerk.words out OutOfRange None)
  pub line_unread :
      (place : ℕ) (bytes : List ℕ) (fault : Fault) → message_at bytes ≡ Reading.refused fault →
      line_received w.line.words w.count out place bytes ≡ refused_face w.line.words out fault.refusal (Some fault.place)

abbrev pub FaceIsStep : Type 0
FaceIsStep = (w : World) → Reached Any w → (out : List ℕ) → Calls w out

-- ---- a tick is the run of the reports of the timers that are due, or leaves the desk and the buffer as they were. A message has at most 54 bytes
abbrev pub TickIsRun : Type 0
TickIsRun =
    (w : World) → Reached Any w → (out : List ℕ) →
    IsTick (clerk_end w) (clerk_end (Run.clerk_ticked w)) (54 * clerk_places) out (clerk_ticked w.clerk.words w.count out)
    × IsTick (line_end w) (line_end (Run.line_ticked w)) (54 * line_places) out (line_ticked w.line.words w.count out)

-- ---- a desk that a host starts is the one that a run starts from
pub record StartsAsRun : Type 0 where
  pub clerk :
      (words given : List ℕ) (keep retain : Bool) (t1 t2Ccbs t2Ccnr t3 : ℕ) → clerk_started_answer t1 t2Ccbs t2Ccnr t3 ≡ 0 →
      clerk_started_words words t1 t2Ccbs t2Ccnr t3 ≡ (start_world (lengths_of t1 t2Ccbs t2Ccnr t3) given keep retain).clerk.words
  pub line :
      (lengths : Lengths) (words given : List ℕ) (keep retain : ℕ) → line_started_answer given keep retain ≡ 0 →
      line_started_words words given keep retain ≡ (start_world lengths given (yes keep) (yes retain)).line.words
