-- A call is the step of what its entry makes, on the desk of the world; bytes that a desk of the pair sent, or that stand for a signal, read back as the message.
use Rattle.lists.specs.declared.words.Words.{Words}
use Rattle.std.specs.Prelude.{Option, Some, None, Result, Ok, Err}
use Prim.Native.Nat.{ℕ}
use mathlib.Core.Path.{◌≡◌, refl, sym, ◌∙◌, ap, subst}
use mathlib.Core.Bool.{Bool, true, false, false≢true}
use mathlib.Core.List.{List, [], ◌∷◌, ◌++◌, map, Memᴰ as Noted}
use lib.ListN.{length, get_or, replicate}
use lib.Dec.{ltb, eqb}
use native.Mathlib.Omega.{arith}
use Rattle.lists.specs.Choice.{pick}
use Rattle.lists.specs.Lists.{both}
use Rattle.lists.specs.Words.{word, octets, words_of, bytes_of}
use Rattle.lists.proofs.Choice.{pick_elim}
use Rattle.lists.proofs.WordsLaws.{length-bytes_of}
use Rattle.message.specs.Format.{in_range, complete, writable, message_bytes}
use Rattle.message.specs.Equality.{Formed, normal}
use Rattle.message.specs.Number.{digits_in_range}
use Rattle.message.specs.Reading as Reading
use Rattle.message.specs.Refusals.{refusal_number}
use Rattle.message.specs.Wire.{message_at}
use Rattle.message.specs.declared.Fault.{Fault}
use Rattle.message.specs.declared.Message.{Message}
use Rattle.message.specs.declared.refusal.Refusal.TheVariants.{OutOfRange, NoLine}
use Rattle.told.proofs.RefusalLaws.{none-told}
use Rattle.desk.specs.Letter.{identifier_of, identifier_words, number_words, letter_of, message_of}
use Rattle.desk.specs.Outcome.{no_timers, done_with, refused_with}
use Rattle.desk.specs.Steps.{with_next}
use Rattle.desk.specs.declared.entry.BytesEntry.{BytesEntry}
use Rattle.desk.specs.declared.outcome.Outcome.{Outcome}
use Rattle.desk.specs.declared.outcome.Stepped.{Stepped}
use Rattle.desk.specs.declared.outcome.SteppedBytes.{SteppedBytes}
use Rattle.terms.specs.declared.request.Name.{Name}
use Rattle.terms.specs.declared.request.Names.{Names}
use Rattle.terms.specs.declared.request.Request.{Request}
use Rattle.message.specs.declared.refusal.Refusal.{Refusal}
use Rattle.writer.proofs.RoundTrip.{round_trip}
use Rattle.told.specs.Told.{sent_written, refusal_told}
use Rattle.clerk_table.specs.declared.inputs.Act as ClerkActs
use Rattle.clerk_table.specs.declared.inputs.Act.TheVariants as ClerkAct
use Rattle.clerk_table.specs.declared.inputs.Input.TheVariants as AtClerk
use Rattle.clerk_table.specs.declared.table.Timer.{Timer}
use Rattle.clerk_table.specs.declared.table.Timer.TheVariants.{T1, T2, T3}
use Rattle.clerk_records.specs.Layout as Layout
use Rattle.clerk.specs.Entry as ClerkEntry
use Rattle.clerk.specs.Entry.{ask_message, ask_names, ask_request, ask_entry}
use Rattle.clerk.specs.Start as ClerkStart
use Rattle.clerk.specs.Steps as Clerk
use Rattle.clerk.specs.declared.start.Lengths.{Lengths}
use Rattle.clerk.specs.declared.entry.Asking.{Asking}
use Rattle.clerk_table.specs.declared.inputs.Input as ClerkInputs
use Rattle.clerk.specs.declared.Desk as ClerkDesk
use Rattle.clerk_sound.specs.Sound.{Typed, Fair, asks}
use Rattle.line_table.specs.declared.inputs.Act as LineActs
use Rattle.line_table.specs.declared.inputs.Act.TheVariants as LineAct
use Rattle.line_table.specs.declared.inputs.Input.TheVariants as AtLine
use Rattle.line.specs.Entry as LineEntry
use Rattle.line.specs.Start.{started}
use Rattle.line.specs.Steps as Line
use Rattle.line_table.specs.declared.inputs.Input as LineInputs
use Rattle.line.specs.declared.Desk as LineDesk
use Rattle.host_numbers.specs.Identifiers.{is_identifier, name_given}
use Rattle.host_numbers.specs.Given.{clerk_act_named, clerk_act_given, timer_named, timer_given, line_act_named, line_act_given, guard_given, is_word, yes, report_given, ask_words, asking_of, ask_given, clerk_bytes_given}
use Rattle.tollherring.specs.Face.{start_words, refused_face, faced}
use Rattle.tollherring.specs.Clerk.{lengths_of, clerk_started_words, clerk_started_answer, clerk_entered, clerk_bytes, clerk_asked, clerk_received, clerk_acted, clerk_reported}
use Rattle.tollherring.specs.Line.{line_start_words, line_started_words, line_started_answer, line_entered, line_bytes, line_received, line_status_reported, line_looked, line_acted, line_guarded}
use Rattle.tollherring.proofs.Claims.{no-room-nothing}
use Rattle.line_table.specs.Inputs.{names_of}
use Rattle.pair_request.specs.Signal.{Signal, call_died, rejected}
use Rattle.pair.specs.World.{Of, from, Note, taken_up, World, Event, clerk_does, line_does, clerk_is_told, clerk_hears, line_hears, name_of, new_label, label_of, clerk_touched, line_touched, clerk_notes, line_notes, sent_by, clerk_stepped, line_stepped, clerkHeard, lineHeard, signal_letter, signal_entry, next, Allowed, start_world, Once}
use Rattle.exported.specs.Calls.{End, carried, clerk_end, line_end, IsStep, done, refused}
use Rattle.exported.specs.Claims.{ClerkHearsBytes, LineHearsBytes, ClerkCall, LineCall, ask_event, FaceIsStep, StartsAsRun}
use Rattle.exported.proofs.Heard.{heard-as-bytes}

-- ---- a step's face: done, or refused for want of room
faced-step :
    (before after : End) (out : List ℕ) (outcome : Outcome) (unread : ℕ) → after.wire ≡ before.wire ++ sent_by outcome.sending →
    IsStep before after out unread (faced before.words after.words out outcome unread)
unfolding faced
faced-step before after out outcome unread wire = by (sent_written out 0 outcome.sending) refl
  where
    by : (x : Result ℕ Refusal) → sent_written out 0 outcome.sending ≡ x → IsStep before after out unread (faced before.words after.words out outcome unread)
    by (Ok n) e = rw e (done outcome n wire e)
    by (Err refusal) e =
        subst (IsStep before after out unread) (sym (no-room-nothing before.words after.words out outcome unread refusal e)) (refused refusal None)

-- a wire with what is sent, without origins
wire-sent : (xs : List (Of Message)) (o : ℕ) (ms : List Message) → carried xs ++ ms ≡ carried (xs ++ map (from o) ms)
wire-sent [] o [] = refl
wire-sent [] o (m ∷ ms) = ap (λ (ys : List Message). m ∷ ys) (wire-sent [] o ms)
wire-sent (x ∷ xs) o ms = ap (λ (ys : List Message). x.it ∷ ys) (wire-sent xs o ms)

module _ (w : World) (out : List ℕ) where
  -- the end after a step of its desk
  pub clerk-after :
      (down : List (Of Message)) (given : Of (Option Words)) (entry : Result ClerkInputs.Input Refusal) (notes : List (Of (Option Words)) → List Note) →
      ◌≡◌ {A = End} (record { words = (Clerk.entered w.clerk w.count entry).desk.words; wire = carried w.up ++ sent_by (Clerk.entered w.clerk w.count entry).outcome.sending })
      (clerk_end (clerk_stepped w down given entry notes))
  clerk-after down given entry notes =
      ap (λ (ms : List Message). record { words = (Clerk.entered w.clerk w.count entry).desk.words; wire = ms })
      (wire-sent w.up (get_or (clerk_touched w given entry) 0 given).origin (sent_by (Clerk.entered w.clerk w.count entry).outcome.sending))

  pub line_after_lem :
      (up : List (Of Message)) (given : Of (Option Words)) (entry : Result LineInputs.Input Refusal) (notes : List (Of (Option Words)) → List Note) →
      ◌≡◌ {A = End} (record { words = (Line.entered w.line w.count entry).desk.words; wire = carried w.down ++ sent_by (Line.entered w.line w.count entry).outcome.sending })
      (line_end (line_stepped w up given entry notes))
  line_after_lem up given entry notes =
      ap (λ (ms : List Message). record { words = (Line.entered w.line w.count entry).desk.words; wire = ms })
      (wire-sent w.down (get_or (line_touched w given entry) 0 given).origin (sent_by (Line.entered w.line w.count entry).outcome.sending))

  -- ---- what comes in at the entry of a desk, for an event that leaves the end as the entry's step does
  abbrev clerk_left : Stepped ClerkDesk.Desk → End
  clerk_left step = record { words = step.desk.words; wire = carried w.up ++ sent_by step.outcome.sending }

  clerk-entry :
      (e : Event) (entry : Result ClerkInputs.Input Refusal) (unread : ℕ) (fault : Option ℕ) → clerk_left (Clerk.entered w.clerk w.count entry) ≡ clerk_end (next w e) →
      ClerkCall w e out unread (clerk_entered w.clerk.words w.count out entry unread fault)
  unfolding clerk_entered Clerk.entered
  clerk-entry e (Err refusal) unread fault left = refused refusal fault
  clerk-entry e (Ok input) unread fault left =
      let step = Clerk.step w.clerk w.count input in
      subst (λ (after : End). IsStep (clerk_end w) after out unread (faced w.clerk.words step.desk.words out step.outcome unread)) left
      (faced-step (clerk_end w) (clerk_left step) out step.outcome unread refl)

  abbrev line_left : Stepped LineDesk.Desk → End
  line_left step = record { words = step.desk.words; wire = carried w.down ++ sent_by step.outcome.sending }

  line-entry :
      (e : Event) (entry : Result LineInputs.Input Refusal) (unread : ℕ) (fault : Option ℕ) → line_left (Line.entered w.line w.count entry) ≡ line_end (next w e) →
      LineCall w e out unread (line_entered w.line.words w.count out entry unread fault)
  unfolding line_entered Line.entered
  line-entry e (Err refusal) unread fault left = refused refusal fault
  line-entry e (Ok input) unread fault left =
      let step = Line.step w.line w.count input in
      subst (λ (after : End). IsStep (line_end w) after out unread (faced w.line.words step.desk.words out step.outcome unread)) left
      (faced-step (line_end w) (line_left step) out step.outcome unread refl)

  -- ---- what a host gives: a number that stands for nothing is refused
  abbrev ClerkIn : Event → Result ClerkInputs.Input Refusal → Type 0
  ClerkIn e entry = ClerkCall w e out 0 (clerk_entered w.clerk.words w.count out entry 0 None)

  asking :
      (identifier : List ℕ) (kind : ℕ) (numberA numberB : List ℕ) (service canKeep preference : ℕ) →
      ClerkIn (ask_event (asking_of identifier kind numberA numberB service canKeep preference)) (ask_given identifier kind numberA numberB service canKeep preference)
  unfolding ask_given ClerkEntry.ask_entry clerk_entered Clerk.entered next
  asking identifier kind numberA numberB service canKeep preference =
      let a = asking_of identifier kind numberA numberB service canKeep preference in
      let input = AtClerk.Ask (ClerkEntry.ask_names a) (ClerkEntry.ask_request a) in
      pick_elim (ClerkIn (ask_event a)) (ask_words identifier kind canKeep)
      (λ t. pick_elim (ClerkIn (ask_event a)) (ltb a.preference 3)
      (λ t. pick_elim (ClerkIn (ask_event a)) (in_range (ask_message a)) (λ t. clerk-entry (ask_event a) (Ok input) 0 None (clerk-after w.down (new_label w (ClerkEntry.ask_names a).identifier) (Ok input) (clerk_notes input))) (λ f. refused OutOfRange None))
      (λ f. refused OutOfRange None))
      (λ f. refused OutOfRange None)

  abbrev ActIn : Name → Result ClerkInputs.Input Refusal → Type 0
  ActIn name entry = (act : ClerkActs.Act) × ClerkIn (clerk_does (AtClerk.Act name act)) entry

  act-in : (name : Name) (act : ClerkActs.Act) → ActIn name (ClerkEntry.act_entry name act)
  unfolding Clerk.entered next
  act-in name act = (
    act,
    clerk-entry (clerk_does (AtClerk.Act name act)) (ClerkEntry.act_entry name act) 0 None
        (clerk-after w.down (new_label w name.identifier) (ClerkEntry.act_entry name act) (clerk_notes (AtClerk.Act name act))),
  )

  act-named : (name : Name) (number : ℕ) → ActIn name (clerk_act_named name number)
  unfolding clerk_act_named clerk_entered
  act-named name number =
      pick_elim (ActIn name) (eqb number 1) (λ t. act-in name ClerkAct.Accept)
      (λ f. pick_elim (ActIn name) (eqb number 2) (λ t. act-in name ClerkAct.Resume)
      (λ f. pick_elim (ActIn name) (eqb number 3) (λ t. act-in name ClerkAct.GoOn)
      (λ f. pick_elim (ActIn name) (eqb number 4) (λ t. act-in name ClerkAct.Cancel)
      (λ f. pick_elim (ActIn name) (eqb number 5) (λ t. act-in name ClerkAct.Fell) (λ f. (ClerkAct.Cancel, refused OutOfRange None))))))

  acting : (place : ℕ) (identifier : List ℕ) (number : ℕ) → ActIn (name_given identifier place) (clerk_act_given identifier place number)
  unfolding clerk_act_given clerk_entered
  acting place identifier number =
      let name = name_given identifier place in
      pick_elim (ActIn name) (is_identifier identifier) (λ t. act-named name number) (λ f. (ClerkAct.Cancel, refused OutOfRange None))

  abbrev TimerIn : Name → Result ClerkInputs.Input Refusal → Type 0
  TimerIn name entry = (timer : Timer) × ClerkIn (clerk_does (AtClerk.Timer name timer)) entry

  timer-in : (name : Name) (timer : Timer) → TimerIn name (ClerkEntry.timer_entry name timer)
  unfolding Clerk.entered next
  timer-in name timer = (
    timer,
    clerk-entry (clerk_does (AtClerk.Timer name timer)) (ClerkEntry.timer_entry name timer) 0 None
        (clerk-after w.down (new_label w name.identifier) (ClerkEntry.timer_entry name timer) (clerk_notes (AtClerk.Timer name timer))),
  )

  timer-named : (name : Name) (number : ℕ) → TimerIn name (timer_named name number)
  unfolding timer_named clerk_entered
  timer-named name number =
      pick_elim (TimerIn name) (eqb number 1) (λ t. timer-in name T1)
      (λ f. pick_elim (TimerIn name) (eqb number 2) (λ t. timer-in name T2)
      (λ f. pick_elim (TimerIn name) (eqb number 3) (λ t. timer-in name T3) (λ f. (T3, refused OutOfRange None))))

  reporting : (place : ℕ) (identifier : List ℕ) (number : ℕ) → TimerIn (name_given identifier place) (timer_given identifier place number)
  unfolding timer_given clerk_entered
  reporting place identifier number =
      let name = name_given identifier place in
      pick_elim (TimerIn name) (is_identifier identifier) (λ t. timer-named name number) (λ f. (T3, refused OutOfRange None))

  abbrev LineIn : Event → Result LineInputs.Input Refusal → Type 0
  LineIn e entry = LineCall w e out 0 (line_entered w.line.words w.count out entry 0 None)

  line-reporting : (digits : List ℕ) (busy : ℕ) → LineIn (line_does (AtLine.Report (number_words digits) (yes busy))) (report_given digits busy)
  unfolding report_given LineEntry.report_entry line_entered Line.entered next
  line-reporting digits busy =
      let input = AtLine.Report (number_words digits) (yes busy) in
      pick_elim (LineIn (line_does input)) (is_word busy)
      (λ t. pick_elim (LineIn (line_does input)) (digits_in_range 1 digits) (λ t. line-entry (line_does input) (Ok input) 0 None (line_after_lem w.up (new_label w (names_of input).identifier) (Ok input) (line_notes input))) (λ f. refused NoLine None))
      (λ f. refused OutOfRange None)

  looking : (digits : List ℕ) → LineIn (line_does (AtLine.Look (number_words digits))) (LineEntry.look_entry digits)
  unfolding LineEntry.look_entry line_entered Line.entered next
  looking digits =
      let input = AtLine.Look (number_words digits) in
      pick_elim (LineIn (line_does input)) (digits_in_range 1 digits) (λ t. line-entry (line_does input) (Ok input) 0 None (line_after_lem w.up (new_label w (names_of input).identifier) (Ok input) (line_notes input))) (λ f. refused NoLine None)

  abbrev LineActIn : Name → Result LineInputs.Input Refusal → Type 0
  LineActIn name entry = (act : LineActs.Act) × LineIn (line_does (AtLine.Act name act)) entry

  line-act-in : (name : Name) (act : LineActs.Act) → LineActIn name (LineEntry.act_entry name act)
  unfolding Line.entered next
  line-act-in name act = (
    act,
    line-entry (line_does (AtLine.Act name act)) (LineEntry.act_entry name act) 0 None
        (line_after_lem w.up (new_label w name.identifier) (LineEntry.act_entry name act) (line_notes (AtLine.Act name act))),
  )

  line-act-named : (name : Name) (number : ℕ) → LineActIn name (line_act_named name number)
  unfolding line_act_named line_entered
  line-act-named name number =
      pick_elim (LineActIn name) (eqb number 1) (λ t. line-act-in name LineAct.Alerted)
      (λ f. pick_elim (LineActIn name) (eqb number 2) (λ t. line-act-in name LineAct.CallFailed)
      (λ f. pick_elim (LineActIn name) (eqb number 3) (λ t. line-act-in name LineAct.Cancel)
      (λ f. pick_elim (LineActIn name) (eqb number 4) (λ t. line-act-in name LineAct.Fell) (λ f. (LineAct.Cancel, refused OutOfRange None)))))

  line-acting : (place : ℕ) (identifier : List ℕ) (number : ℕ) → LineActIn (name_given identifier place) (line_act_given identifier place number)
  unfolding line_act_given line_entered
  line-acting place identifier number =
      let name = name_given identifier place in
      pick_elim (LineActIn name) (is_identifier identifier) (λ t. line-act-named name number) (λ f. (LineAct.Cancel, refused OutOfRange None))

  guarding : (place : ℕ) (identifier : List ℕ) → LineIn (line_does (AtLine.Guard (name_given identifier place))) (guard_given identifier place)
  unfolding guard_given line_entered Line.entered next
  guarding place identifier =
      let name = name_given identifier place in
      pick_elim (LineIn (line_does (AtLine.Guard name))) (is_identifier identifier)
      (λ t. line-entry (line_does (AtLine.Guard name)) (Ok (AtLine.Guard name)) 0 None
      (line_after_lem w.up (new_label w name.identifier) (Ok (AtLine.Guard name)) (line_notes (AtLine.Guard name))))
      (λ f. refused OutOfRange None)

  -- ---- bytes of the head of a wire: the entry's step is that of the message
  clerk_hearing :
      (x : Of Message) (rest : List (Of Message)) → w.down ≡ x ∷ rest → (place : ℕ) (behind : List ℕ) (busy : Bool) →
      let m = x.it in
      Clerk.received_bytes w.clerk w.count (message_bytes m ++ behind) busy place ≡ with_next (Clerk.received w.clerk w.count m busy place) (length (message_bytes m)) None →
      ClerkCall w (clerk_hears busy place) out (length (message_bytes m)) (clerk_bytes w.clerk.words w.count out (ClerkEntry.bytes_entry (message_bytes m ++ behind) busy place))
  unfolding Clerk.received_bytes next clerkHeard
  clerk_hearing x rest head place behind busy e =
      let m = x.it in
      let read = ClerkEntry.bytes_entry (message_bytes m ++ behind) busy place in
      subst (λ (unread : ℕ). ClerkCall w (clerk_hears busy place) out unread (clerk_bytes w.clerk.words w.count out read)) (ap (λ (s : SteppedBytes ClerkDesk.Desk). s.next) e)
      (clerk-entry (clerk_hears busy place) read.entry read.next read.fault
      (ap (λ (s : SteppedBytes ClerkDesk.Desk). clerk_left (record { desk = s.desk; outcome = s.outcome })) e
      ∙ clerk-after rest (label_of x) (ClerkEntry.message_entry m busy place) (λ whom. [])
      ∙ sym (ap (λ (xs : List (Of Message)). clerk_end (clerkHeard w busy place xs)) head)))

  line_hearing :
      (x : Of Message) (rest : List (Of Message)) → w.up ≡ x ∷ rest → (place : ℕ) (behind : List ℕ) →
      let m = x.it in
      Line.received_bytes w.line w.count (message_bytes m ++ behind) place ≡ with_next (Line.received w.line w.count m place) (length (message_bytes m)) None →
      LineCall w (line_hears place) out (length (message_bytes m)) (line_bytes w.line.words w.count out (LineEntry.bytes_entry (message_bytes m ++ behind) place))
  unfolding Line.received_bytes next lineHeard
  line_hearing x rest head place behind e =
      let m = x.it in
      let read = LineEntry.bytes_entry (message_bytes m ++ behind) place in
      subst (λ (unread : ℕ). LineCall w (line_hears place) out unread (line_bytes w.line.words w.count out read)) (ap (λ (s : SteppedBytes LineDesk.Desk). s.next) e)
      (line-entry (line_hears place) read.entry read.next read.fault
      (ap (λ (s : SteppedBytes LineDesk.Desk). line_left (record { desk = s.desk; outcome = s.outcome })) e
      ∙ line_after_lem rest (label_of x) (LineEntry.message_entry m place) (λ whom. [])
      ∙ sym (ap (λ (xs : List (Of Message)). line_end (lineHeard w place xs)) head)))

-- ---- the bytes of a signal read back as its message, whose letter is that of the identifier that its bytes name
abbrev signal_message : Signal → Option Words → Message
signal_message signal identifier = message_of (signal_letter signal identifier)

signal-formed : (signal : Signal) (identifier : Option Words) → Formed (signal_message signal identifier)
unfolding message_of
signal-formed signal identifier =
    let l = signal_letter signal identifier in
    record { identifier = length-bytes_of (identifier_words l.identifier); numberA = length-bytes_of l.numberA; numberB = length-bytes_of l.numberB }

signal-ranged : (signal : Signal) (identifier : Option Words) → in_range (signal_message signal identifier) ≡ true
unfolding in_range message_of
signal-ranged call_died identifier = refl
signal-ranged rejected identifier = refl

signal-writable : (signal : Signal) (identifier : Option Words) → writable (signal_message signal identifier) ≡ true
unfolding writable complete in_range message_of
signal-writable call_died identifier = refl
signal-writable rejected identifier = refl

signal-normal : (signal : Signal) (identifier : Option Words) → normal (signal_message signal identifier) ≡ signal_message signal identifier
unfolding normal message_of bytes_of octets
signal-normal call_died None = refl
signal-normal call_died (Some identifier) = refl
signal-normal rejected None = refl
signal-normal rejected (Some identifier) = refl

signal-letter : (signal : Signal) (identifier : Option Words) → letter_of (signal_message signal identifier) ≡ signal_letter signal (name_of (signal_message signal identifier))
unfolding letter_of message_of number_words bytes_of words_of octets word
signal-letter call_died identifier = refl
signal-letter rejected identifier = refl

-- as it is told: by the identifier that its bytes name, and the place
abbrev told_name : Signal → Option Words → ℕ → Name
told_name signal identifier place = record { identifier = name_of (signal_message signal identifier); place = place }

signal-entry :
    (signal : Signal) (identifier : Option Words) (busy : Bool) (place : ℕ) (behind : List ℕ) →
    let m = signal_message signal identifier in
    ClerkEntry.bytes_entry (message_bytes m ++ behind) busy place ≡
    record { entry = Ok (AtClerk.Message (signal_letter signal (name_of m)) busy place); next = length (message_bytes m); fault = None }
unfolding ClerkEntry.bytes_entry ClerkEntry.message_entry
signal-entry signal identifier busy place behind =
    let m = signal_message signal identifier in
    let reads : message_at (message_bytes m ++ behind) ≡ Reading.took m (length (message_bytes m)) =
    round_trip m behind (signal-formed signal identifier) (signal-writable signal identifier)
    ∙ ap (λ (x : Message). Reading.took x (length (message_bytes m))) (signal-normal signal identifier) in
    rw (reads, signal-ranged signal identifier, signal-letter signal identifier)

clerk_telling :
    (w : World) (out : List ℕ) (signal : Signal) (identifier : Option Words) (place : ℕ) (behind : List ℕ) (busy : Bool) →
    let m = signal_message signal identifier in
    ClerkCall w (clerk_is_told signal (told_name signal identifier place) busy) out (length (message_bytes m)) (clerk_bytes w.clerk.words w.count out (ClerkEntry.bytes_entry (message_bytes m ++ behind) busy place))
unfolding Clerk.entered next
clerk_telling w out signal identifier place behind busy =
    let m = signal_message signal identifier in
    let name = told_name signal identifier place in
    let e = clerk_is_told signal name busy in
    subst (λ (read : BytesEntry (Result ClerkInputs.Input Refusal)). ClerkCall w e out (length (message_bytes m)) (clerk_bytes w.clerk.words w.count out read)) (sym (signal-entry signal identifier busy place behind))
    (clerk-entry w out e (Ok (AtClerk.Message (signal_letter signal (name_of m)) busy place)) (length (message_bytes m)) None
    (clerk-after w out w.down (new_label w (name_of m)) (signal_entry signal name busy) (λ whom. [])))

-- ---- bytes at the clerk's end, with a number for the host's word on User A: one that is no word is refused
clerk-worded :
    (w : World) (e : Event) (out : List ℕ) (unread place : ℕ) (bytes : List ℕ) (busy : ℕ) →
    ClerkCall w e out unread (clerk_bytes w.clerk.words w.count out (ClerkEntry.bytes_entry bytes (yes busy) place)) →
    ClerkCall w e out unread (clerk_bytes w.clerk.words w.count out (clerk_bytes_given bytes busy place))
unfolding clerk_bytes_given clerk_entered
clerk-worded w e out unread place bytes busy call =
    pick_elim (λ (read : BytesEntry (Result ClerkInputs.Input Refusal)). ClerkCall w e out unread (clerk_bytes w.clerk.words w.count out read)) (is_word busy) (λ t. call) (λ f. refused OutOfRange None)

-- ---- bytes that the reader refuses
clerk-unread :
    (words : List ℕ) (count : ℕ) (out : List ℕ) (place : ℕ) (bytes : List ℕ) (fault : Fault) (busy : ℕ) → message_at bytes ≡ Reading.refused fault →
    clerk_received words count out place bytes busy ≡ pick (is_word busy) (refused_face words out fault.refusal (Some fault.place)) (refused_face words out OutOfRange None)
unfolding clerk_received clerk_bytes_given ClerkEntry.bytes_entry clerk_entered
clerk-unread words count out place bytes fault busy e = by (is_word busy)
  where
    by :
        (worded : Bool) →
        clerk_bytes words count out (pick worded (ClerkEntry.bytes_entry bytes (yes busy) place) (record { entry = Err OutOfRange; next = 0; fault = None }))
        ≡ pick worded (refused_face words out fault.refusal (Some fault.place)) (refused_face words out OutOfRange None)
    by true = rw e
    by false = refl

line-unread :
    (words : List ℕ) (count : ℕ) (out : List ℕ) (place : ℕ) (bytes : List ℕ) (fault : Fault) → message_at bytes ≡ Reading.refused fault →
    line_received words count out place bytes ≡ refused_face words out fault.refusal (Some fault.place)
unfolding line_received LineEntry.bytes_entry line_entered
line-unread words count out place bytes fault e = rw e

-- an ask of values of the code's types
ask-allowed : (w : World) (a : Asking) → Typed a → ask_entry a ≡ Ok (AtClerk.Ask (ask_names a) (ask_request a)) → Allowed w (ask_event a)
ask-allowed w a typed e =
    record {
      asked = λ names q is.
          let name : ask_names a ≡ names = cc in
          let request : ask_request a ≡ q = cc in
          subst (λ (n : Names). Fair (AtClerk.Ask n q)) name (subst (λ (r : Request). Fair (AtClerk.Ask (ask_names a) r)) request (asks a typed e));
      toClerk = λ l busy place is. let z : ◌≡◌ {A = ℕ} 0 1 = cc in absurd (omega (arith, z));
      toLine = λ l place is. let z : ◌≡◌ {A = ℕ} 0 1 = cc in absurd (omega (arith, z));
    }

-- under an identifier that was not taken up
given_is : (identified : Bool) (bytes : List ℕ) → identified ≡ true → identifier_of identified bytes ≡ None → ⊥
unfolding identifier_of
given_is true bytes so e = let z : ◌≡◌ {A = ℕ} 0 1 = cc in omega (arith, z)
given_is false bytes so e = false≢true so

ask-once :
    (w : World) (a : Asking) → a.identified ≡ true → ((o : ℕ) → Noted (taken_up (from o (identifier_of a.identified a.identifier))) w.history → ⊥) → Once w (ask_event a)
unfolding letter_of
ask-once w a given fresh names q is taken =
    let name : ask_names a ≡ names = cc in (
      λ absent. given_is a.identified a.identifier given (ap (λ (n : Names). n.identifier) name ∙ absent),
      λ o noted. fresh o (subst (λ (n : Names). Noted (taken_up (from o n.identifier)) w.history) (sym name) noted),
    )

pub face-is-step : FaceIsStep
unfolding clerk_asked clerk_received clerk_acted clerk_reported line_received line_status_reported line_looked line_acted line_guarded letter_of
face-is-step w reach out =
    let heard = heard-as-bytes w reach in
    record {
      clerk_ask = asking w out;
      ask_allowed = ask-allowed w;
      ask_once = ask-once w;
      clerk_act = acting w out;
      clerk_report = reporting w out;
      line_report = line-reporting w out;
      line_look = looking w out;
      line_act = line-acting w out;
      line_guard = guarding w out;
      clerk_receive = λ x rest head place behind busy.
          let m = x.it in
          clerk-worded w (clerk_hears (yes busy) place) out (length (message_bytes m)) place (message_bytes m ++ behind) busy
          (clerk_hearing w out x rest head place behind (yes busy)
          (subst (λ (xs : List (Of Message)). ClerkHearsBytes w (yes busy) place behind (carried xs)) head (heard (yes busy) place behind).0));
      line_receive = λ x rest head place behind.
          line_hearing w out x rest head place behind (subst (λ (xs : List (Of Message)). LineHearsBytes w place behind (carried xs)) head (heard true place behind).1);
      clerk_told = λ signal identifier place behind busy.
          let m = signal_message signal identifier in
          clerk-worded w (clerk_is_told signal (told_name signal identifier place) (yes busy)) out (length (message_bytes m)) place (message_bytes m ++ behind) busy
          (clerk_telling w out signal identifier place behind (yes busy));
      clerk_unread = clerk-unread w.clerk.words w.count out;
      line_unread = line-unread w.line.words w.count out;
    }

-- ---- the starts
clerk-starts :
    (words given : List ℕ) (keep retain : Bool) (t1 t2Ccbs t2Ccnr t3 : ℕ) → clerk_started_answer t1 t2Ccbs t2Ccnr t3 ≡ 0 →
    clerk_started_words words t1 t2Ccbs t2Ccnr t3 ≡ (start_world (lengths_of t1 t2Ccbs t2Ccnr t3) given keep retain).clerk.words
unfolding clerk_started_words clerk_started_answer ClerkStart.started
clerk-starts words given keep retain t1 t2Ccbs t2Ccnr t3 ok = by (ClerkStart.good_lengths l) ok
  where
    l : Lengths
    l = lengths_of t1 t2Ccbs t2Ccnr t3

    made : Bool → Stepped ClerkDesk.Desk
    made good =
        pick good (record { desk = ClerkStart.started_desk l; outcome = done_with None no_timers no_timers None })
        (record { desk = record { words = replicate Layout.words 0 }; outcome = refused_with OutOfRange None })

    by : (good : Bool) → refusal_told (made good).outcome.refusal ≡ 0 → start_words words (made good).outcome.refusal (made good).desk.words ≡ (ClerkStart.started_desk l).words
    by true e = refl
    by false e = absurd (omega (arith, e))

line-starts :
    (lengths : Lengths) (words given : List ℕ) (keep retain : ℕ) → line_started_answer given keep retain ≡ 0 →
    line_started_words words given keep retain ≡ (start_world lengths given (yes keep) (yes retain)).line.words
unfolding line_started_words line_started_answer
line-starts lengths words given keep retain ok = by (both (is_word keep) (is_word retain)) ok
  where
    by :
        (b : Bool) → pick b (refusal_told (started given (yes keep) (yes retain)).outcome.refusal) (refusal_number OutOfRange) ≡ 0 →
        pick b (line_start_words words given (yes keep) (yes retain)) words ≡ (started given (yes keep) (yes retain)).desk.words
    by true e = rw (none-told (started given (yes keep) (yes retain)).outcome.refusal e)
    by false e = absurd (omega (arith, e))

pub starts-as-run : StartsAsRun
starts-as-run = record { clerk = clerk-starts; line = line-starts }
