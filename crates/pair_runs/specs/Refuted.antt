-- Wrong claims: demand 3's with a premise left out or a word altered. A run of Runs.antt refutes each, so what was left out is needed.
use Rattle.std.specs.Prelude.{ℕ, ◌≡◌, Bool, false, get_or, Option, None}
use mathlib.Core.List.{List, [], ◌∷◌, Memᴰ as Noted}
use Rattle.clerk.specs.declared.start.Lengths.{Lengths}
use Rattle.message.specs.declared.Message.{Message}
use Rattle.lists.specs.Words.{Bytes}
use Rattle.lists.specs.declared.words.Words.{Words}
use Rattle.terms.specs.declared.{request.Name.Name, request.Names.Names, request.Request.Request, means.Means.TheVariants.At}
use Rattle.places.specs.Places.{none, one}
use Rattle.clerk_table.specs.declared.inputs.Input.TheVariants as AtClerk
use Rattle.clerk_table.specs.declared.record.Record as ClerkRecord
use Rattle.clerk_table.specs.declared.table.State.TheVariants as ClerkState
use Rattle.clerk_table.specs.declared.table.Timer.TheVariants.{T2}
use Rattle.line_table.specs.declared.inputs.Input.TheVariants as AtLine
use Rattle.line_table.specs.declared.record.Record as LineRecord
use Rattle.pair.specs.World.{Of, from, origins, identifiers, taken_up, dropped, run_out, guarded, World, Event, clerk_does, line_does, clerk_holds, line_holds, messages_of, next, Allowed, Run, start_world, Reached, Any, Once, clerk_hears, line_hears, clerk_means, line_means}
use Rattle.pair.specs.Demand3.{Told, Accepted, Listed, Quiet, NoRequest, About, Unaltered, AcknowledgedWasAccepted, QuietListed, NoOtherAltered}

-- ---- 1. without "acknowledged"
abbrev pub AcceptedThoughWaiting : Type 0
AcceptedThoughWaiting =
    (lengths : Lengths) (given : List ℕ) (keep retain : Bool) → Bytes given → (w : World) (run : Run Once (start_world lengths given keep retain) w) →
    (identifier : Option Words) (c : ClerkRecord.Record) → clerk_holds identifiers w identifier ≡ one c → Accepted identifiers identifier run

-- ---- 2. keep choice and connection choice without "once acknowledged"
abbrev pub KeepBeforeAcknowledged : Type 0
KeepBeforeAcknowledged =
    (w : World) → Reached Once w → (identifier : Option Words) (c : ClerkRecord.Record) (l : LineRecord.Record) →
    clerk_holds identifiers w identifier ≡ one c → line_holds identifiers w identifier ≡ one l → c.terms.keep ≡ l.terms.keep

abbrev pub ConnectionBeforeAcknowledged : Type 0
ConnectionBeforeAcknowledged =
    (w : World) → Reached Once w → (identifier : Option Words) (c : ClerkRecord.Record) (l : LineRecord.Record) →
    clerk_holds identifiers w identifier ≡ one c → line_holds identifiers w identifier ≡ one l → c.terms.connection ≡ l.terms.connection

-- ---- 3. without "none of its messages was dropped"
abbrev pub QuietThoughDropped : Type 0
QuietThoughDropped =
    (w : World) → Reached Once w → (identifier : Option Words) → messages_of identifiers identifier w.up ≡ [] → messages_of identifiers identifier w.down ≡ [] →
    Listed (clerk_holds identifiers w identifier) (line_holds identifiers w identifier)

-- Wait-Answer stands with Await, the suspended mark not set
abbrev pub AnswerUnmarked : Type 0
AnswerUnmarked =
    (w : World) → Reached Once w → (identifier : Option Words) → (Told identifiers dropped identifier w → ⊥) →
    messages_of identifiers identifier w.up ≡ [] → messages_of identifiers identifier w.down ≡ [] →
    (c : ClerkRecord.Record) (l : LineRecord.Record) → clerk_holds identifiers w identifier ≡ one c → line_holds identifiers w identifier ≡ one l →
    c.state ≡ ClerkState.WaitAnswer → l.suspended ≡ false

-- the kinds agree while both hold it: without "under way", and without "dropped"
abbrev pub KindThoughUnderWay : Type 0
KindThoughUnderWay =
    (w : World) → Reached Once w → (identifier : Option Words) → (Told identifiers dropped identifier w → ⊥) →
    (c : ClerkRecord.Record) (l : LineRecord.Record) → clerk_holds identifiers w identifier ≡ one c → line_holds identifiers w identifier ≡ one l → c.terms.kind ≡ l.terms.kind

abbrev pub KindThoughDropped : Type 0
KindThoughDropped =
    (w : World) → Reached Once w → (identifier : Option Words) (c : ClerkRecord.Record) (l : LineRecord.Record) → clerk_holds identifiers w identifier ≡ one c → line_holds identifiers w identifier ≡ one l →
    messages_of identifiers identifier w.up ≡ [] → messages_of identifiers identifier w.down ≡ [] → c.terms.kind ≡ l.terms.kind

-- the marks "connection down" agree as the kinds do: each end sets its own
abbrev pub MarksAgree : Type 0
MarksAgree =
    (w : World) → Reached Once w → (identifier : Option Words) → Quiet identifiers identifier w → (c : ClerkRecord.Record) (l : LineRecord.Record) →
    clerk_holds identifiers w identifier ≡ one c → line_holds identifiers w identifier ≡ one l → c.down ≡ l.down

-- ---- 4. without the guard's report
abbrev pub OverUnguarded : Type 0
OverUnguarded =
    (w : World) → Reached Once w → (identifier : Option Words) → Told identifiers run_out identifier w → NoRequest (messages_of identifiers identifier w.up) →
    (later : World) → Run Once w later → (clerk_holds identifiers later identifier ≡ none) × (line_holds identifiers later identifier ≡ none)

-- with a T2 report that is taken or refused (mend M1)
abbrev pub OverByRefusedT2 : Type 0
OverByRefusedT2 =
    (w : World) → Reached Once w → (name : Name) →
    let identifier = name.identifier in
    Told identifiers guarded identifier w → NoRequest (messages_of identifiers identifier w.up) →
    (later : World) → Run Once (next w (clerk_does (AtClerk.Timer name T2))) later → (clerk_holds identifiers later identifier ≡ none) × (line_holds identifiers later identifier ≡ none)

-- without "was taken up"; without "no request message under way"
abbrev pub GoneBeforeTakenUp : Type 0
GoneBeforeTakenUp =
    (w : World) → Reached Once w → (identifier : Option Words) → clerk_holds identifiers w identifier ≡ none → line_holds identifiers w identifier ≡ none →
    NoRequest (messages_of identifiers identifier w.up) →
    (later : World) → Run Once w later → (clerk_holds identifiers later identifier ≡ none) × (line_holds identifiers later identifier ≡ none)

abbrev pub GoneThoughUnderWay : Type 0
GoneThoughUnderWay =
    (w : World) → Reached Once w → (identifier : Option Words) → Told identifiers taken_up identifier w → clerk_holds identifiers w identifier ≡ none → line_holds identifiers w identifier ≡ none →
    (later : World) → Run Once w later → (clerk_holds identifiers later identifier ≡ none) × (line_holds identifiers later identifier ≡ none)

-- ---- 5. a Look is about no request
abbrev pub LookAltersNothing : Type 0
LookAltersNothing =
    (w : World) → Reached Once w → (number : Words) (identifier : Option Words) →
    let e = line_does (AtLine.Look number) in
    (clerk_holds identifiers (next w e) identifier ≡ clerk_holds identifiers w identifier) × Unaltered e (line_holds identifiers w identifier) (line_holds identifiers (next w e) identifier)

-- without the exception of a busy report
abbrev pub ReportMarksNothing : Type 0
ReportMarksNothing =
    (w : World) → Reached Once w → (e : Event) → Allowed w e → Once w e → (identifier : Option Words) → (About identifiers w e identifier → ⊥) →
    line_holds identifiers (next w e) identifier ≡ line_holds identifiers w identifier

-- without "does not drop one of its messages"
abbrev pub DropTakesNothing : Type 0
DropTakesNothing =
    (w : World) → Reached Once w → (e : Event) → Allowed w e → Once w e → (identifier : Option Words) → (About identifiers w e identifier → ⊥) →
    (messages_of identifiers identifier (next w e).up ≡ messages_of identifiers identifier w.up) × (messages_of identifiers identifier (next w e).down ≡ messages_of identifiers identifier w.down)

-- ---- the premise: without it an identifier may be used again, and a message of the first request means the second's record
abbrev pub AcceptedThoughMixed : Type 0
AcceptedThoughMixed = AcknowledgedWasAccepted origins (λ o. Any)

abbrev pub AlteredThoughMixed : Type 0
AlteredThoughMixed = NoOtherAltered origins (λ o. Any)

-- requests without identifiers, where only those that have one must each have another: a message in Setup of the first fits the second's record too
abbrev pub OnceIfGiven : World → Event → Type 0
OnceIfGiven w e =
    (names : Names) (q : Request) → e ≡ clerk_does (AtClerk.Ask names q) → (names.identifier ≡ None → ⊥) → (o : ℕ) → Noted (taken_up (from o names.identifier)) w.history → ⊥

abbrev pub AlteredThoughNameless : Type 0
AlteredThoughNameless = NoOtherAltered origins (λ o. OnceIfGiven)

-- the premise without the places: a place that is named for a request may be no record's
pub record MeansApart (o : ℕ) (w : World) (e : Event) : Type 0 where
  pub atClerk :
      (busy : Bool) (place : ℕ) (x : Of Message) (rest : List (Of Message)) (i : ℕ) → e ≡ clerk_hears busy place → w.down ≡ x ∷ rest → clerk_means w x.it place ≡ At i →
      (get_or w.clerk_origins i 0 ≡ o → x.origin ≡ o) × (x.origin ≡ o → get_or w.clerk_origins i 0 ≡ o)
  pub atLine :
      (place : ℕ) (x : Of Message) (rest : List (Of Message)) (i : ℕ) → e ≡ line_hears place → w.up ≡ x ∷ rest → line_means w x.it place ≡ At i →
      (get_or w.line_origins i 0 ≡ o → x.origin ≡ o) × (x.origin ≡ o → get_or w.line_origins i 0 ≡ o)

abbrev pub QuietThoughMisplaced : Type 0
QuietThoughMisplaced = QuietListed origins MeansApart

-- ---- all of them
pub record Refuted : Type 0 where
  pub accepted_though_waiting : AcceptedThoughWaiting → ⊥
  pub keep_before_acknowledged : KeepBeforeAcknowledged → ⊥
  pub connection_before_acknowledged : ConnectionBeforeAcknowledged → ⊥
  pub quiet_though_dropped : QuietThoughDropped → ⊥
  pub answer_unmarked : AnswerUnmarked → ⊥
  pub kind_though_under_way : KindThoughUnderWay → ⊥
  pub kind_though_dropped : KindThoughDropped → ⊥
  pub marks_agree : MarksAgree → ⊥
  pub over_unguarded : OverUnguarded → ⊥
  pub over_by_refused_t2 : OverByRefusedT2 → ⊥
  pub gone_before_taken_up : GoneBeforeTakenUp → ⊥
  pub gone_though_under_way : GoneThoughUnderWay → ⊥
  pub look_alters_nothing : LookAltersNothing → ⊥
  pub report_marks_nothing : ReportMarksNothing → ⊥
  pub drop_takes_nothing : DropTakesNothing → ⊥
  pub accepted_though_mixed : AcceptedThoughMixed → ⊥
  pub altered_though_mixed : AlteredThoughMixed → ⊥
  pub altered_though_nameless : AlteredThoughNameless → ⊥
  pub quiet_though_misplaced : QuietThoughMisplaced → ⊥
