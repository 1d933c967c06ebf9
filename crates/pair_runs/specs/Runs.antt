-- What demand 3 speaks of does happen: runs of two desks and two wires, in tables under one claim. Each row is computed on the definitions that the contracts cite. Refuted.antt has what some of them refute.
use Rattle.lists.specs.declared.words.Words.{Words}
use Rattle.std.specs.Prelude.{ℕ, ◌≡◌, Bool, true, false, List, [], ◌∷◌, ◌++◌, map, eqb, length, Option, Some, None}
use Rattle.lists.specs.Choice.{pick}
use Rattle.lists.specs.Lists.{both}
use Rattle.lists.specs.Words.{words_of}
use Rattle.message.specs.declared.Kind.{Kind}
use Rattle.message.specs.declared.Kind.TheVariants.{Ccbs, Ccnr}
use Rattle.message.specs.declared.Carrier.TheVariants.{Alerting, ReleaseComplete}
use Rattle.message.specs.declared.Body.TheVariants.{RingoutError, CallAlerts}
use Rattle.terms.specs.Codes.{kind_code, keep_code, flag_code}
use Rattle.desk.specs.Letter.{number_words}
use Rattle.desk.specs.Sends.{plain_letter}
use Rattle.desk.specs.declared.letter.Letter.{Letter}
use Rattle.terms.specs.declared.request.Name.{Name}
use Rattle.desk.specs.declared.Connection.TheVariants.{Empty}
use Rattle.places.specs.Places.{Held, none, one}
use Rattle.clerk_table.specs.declared.inputs.Act as ClerkAct
use Rattle.clerk_table.specs.declared.inputs.Act.TheVariants as User
use Rattle.clerk_table.specs.declared.inputs.Input.TheVariants as AtClerk
use Rattle.clerk_table.specs.declared.record.Record as ClerkRecord
use Rattle.clerk_table.specs.declared.table.State.TheVariants as ClerkState
use Rattle.clerk_table.specs.declared.table.Timer.{Timer}
use Rattle.clerk_table.specs.declared.table.Timer.TheVariants.{T1, T2, T3}
use Rattle.clerk_records.specs.Codes as ClerkCodes
use Rattle.clerk.specs.declared.start.Lengths.{Lengths}
use Rattle.clerk.specs.Entry.{ask_names, ask_request}
use Rattle.clerk.specs.declared.entry.Asking.{Asking}
use Rattle.line_table.specs.declared.inputs.Act as LineAct
use Rattle.line_table.specs.declared.inputs.Act.TheVariants as Far
use Rattle.line_table.specs.declared.inputs.Input.TheVariants as AtLine
use Rattle.line_table.specs.declared.record.Record as LineRecord
use Rattle.line_table.specs.declared.table.State.TheVariants as LineState
use Rattle.line_records.specs.Codes as LineCodes
use Rattle.pair.specs.World.{alike, origins, identifiers, Note, World, Event, clerk_does, line_does, clerk_is_told, clerk_hears, line_hears, drops_up, drops_down, clerk_holds, line_holds, messages_of, next, start_world, Reached, Once, Apart}
use Rattle.pair.specs.Demand3.{Told, Acknowledged, Listed, NoRequest}
use Rattle.pair_request.specs.Signal.{call_died, rejected}

-- events one after the other
unfoldable pub play : World → List Event → World
play w [] = w
play w (e ∷ es) = play (next w e) es

-- ---- whether a note of an identifier is in a history, by its kind
abbrev pub kind_of : Note → ℕ
kind_of (Note.taken_up l) = 0
kind_of (Note.dropped l) = 1
kind_of (Note.run_out l) = 2
kind_of (Note.guarded l) = 3

abbrev pub whose : Note → Option Words
whose (Note.taken_up l) = l.it
whose (Note.dropped l) = l.it
whose (Note.run_out l) = l.it
whose (Note.guarded l) = l.it

unfoldable pub has : ℕ → Option Words → List Note → Bool
has kind identifier [] = false
has kind identifier (x ∷ xs) = pick (both (alike (whose x) identifier) (eqb (kind_of x) kind)) true (has kind identifier xs)

-- ---- what is seen of a request in a world, as plain numbers
pub record Seen : Type 0 where
  -- 0 no record, 1 Wait-Ack, 2 Invoked, 3 Wait-Answer, 4 Ringout, 5 Suspended
  pub clerk : ℕ
  -- 0 no record, 1 Invoked, 2 Await, 3 Alert
  pub line : ℕ
  -- the activity mark and the suspended mark: 1 if set
  pub active : ℕ
  pub suspended : ℕ
  -- the keep choice at each end: 0 empty or no record, 1 ends, 2 keeps
  pub clerk_keep : ℕ
  pub line_keep : ℕ
  -- how many of its messages are under way to the line's end, and to the clerk's
  pub up : ℕ
  pub down : ℕ
  -- 1 if a message of it was dropped; if a T1 or T2 report was taken; if a guard report was taken
  pub dropped : ℕ
  pub run_out : ℕ
  pub guarded : ℕ

abbrev pub sees : ℕ → ℕ → ℕ → ℕ → ℕ → ℕ → ℕ → ℕ → ℕ → ℕ → ℕ → Seen
sees clerk line active suspended clerk_keep line_keep up down dropped run_out guarded =
    record {
      clerk = clerk;
      line = line;
      active = active;
      suspended = suspended;
      clerk_keep = clerk_keep;
      line_keep = line_keep;
      up = up;
      down = down;
      dropped = dropped;
      run_out = run_out;
      guarded = guarded;
    }

-- a number that a record tells, 0 if there is none
abbrev told : {A : Type 0} → (A → ℕ) → Held A → ℕ
told tells none = 0
told tells (one r) = tells r

unfoldable pub seen : World → Option Words → Seen
seen w identifier =
    sees
    (told (λ (c : ClerkRecord.Record). ClerkCodes.state_code c.state) (clerk_holds identifiers w identifier))
    (told (λ (l : LineRecord.Record). LineCodes.state_code l.state) (line_holds identifiers w identifier))
    (told (λ (l : LineRecord.Record). flag_code l.active) (line_holds identifiers w identifier))
    (told (λ (l : LineRecord.Record). flag_code l.suspended) (line_holds identifiers w identifier))
    (told (λ (c : ClerkRecord.Record). keep_code c.terms.keep) (clerk_holds identifiers w identifier))
    (told (λ (l : LineRecord.Record). keep_code l.terms.keep) (line_holds identifiers w identifier))
    (length (messages_of identifiers identifier w.up))
    (length (messages_of identifiers identifier w.down))
    (flag_code (has 1 identifier w.history))
    (flag_code (has 2 identifier w.history))
    (flag_code (has 3 identifier w.history))

-- ---- the data of the runs
-- two identifiers, sixteen bytes each
abbrev pub first : List ℕ
first = 0x5A ∷ 0 ∷ 0 ∷ 0 ∷ 0 ∷ 0 ∷ 0 ∷ 0 ∷ 0 ∷ 0 ∷ 0 ∷ 0 ∷ 0 ∷ 0 ∷ 0 ∷ 0x01 ∷ []

abbrev pub second : List ℕ
second = 0x5A ∷ 0 ∷ 0 ∷ 0 ∷ 0 ∷ 0 ∷ 0 ∷ 0 ∷ 0 ∷ 0 ∷ 0 ∷ 0 ∷ 0 ∷ 0 ∷ 0 ∷ 0x02 ∷ []

-- User A's number and the line's, of four digits
abbrev numberA : List ℕ
numberA = 4 ∷ 2 ∷ 0 ∷ 1 ∷ 7 ∷ 0 ∷ 0 ∷ 0 ∷ 0 ∷ 0 ∷ 0 ∷ 0 ∷ 0 ∷ 0 ∷ 0 ∷ 0 ∷ []

abbrev pub numberB : List ℕ
numberB = 4 ∷ 3 ∷ 0 ∷ 0 ∷ 5 ∷ 0 ∷ 0 ∷ 0 ∷ 0 ∷ 0 ∷ 0 ∷ 0 ∷ 0 ∷ 0 ∷ 0 ∷ 0 ∷ []

-- as the desks compare them, and as a host names a request by one: then no place is looked at
abbrev pub called : List ℕ → Option Words
called identifier = Some (words_of identifier)

abbrev pub named : List ℕ → Name
named identifier = record { identifier = called identifier; place = 0 }

-- an ask of a kind, with can-keep or without; no preference. With an identifier, or without one
abbrev asking : Bool → Kind → Bool → List ℕ → Asking
asking identified kind canKeep identifier =
    record {
      identified = identified;
      identifier = identifier;
      kind = kind;
      numberA = numberA;
      numberB = numberB;
      service = 300;
      canKeep = canKeep;
      preference = 0;
    }

-- one line, both kinds allowed
abbrev pub one_line : List ℕ
one_line = numberB ++ (3 ∷ [])

-- the clerk's timers, in seconds
abbrev pub usual : Lengths
usual = record { t1 = 20; t2Ccbs = 900; t2Ccnr = 3600; t3 = 20 }

-- the line desk keeps requests; it retains connections by default, or releases them
abbrev pub start : Bool → World
start retain = start_world usual one_line true retain

-- what a host puts in at each end, as the entry makes it of these bytes; the line is always the one
abbrev pub asks : Kind → Bool → List ℕ → Event
asks kind canKeep identifier = let a = asking true kind canKeep identifier in clerk_does (AtClerk.Ask (ask_names a) (ask_request a))

abbrev pub clerk_acts : List ℕ → ClerkAct.Act → Event
clerk_acts identifier act = clerk_does (AtClerk.Act (named identifier) act)

abbrev clerk_reports : List ℕ → Timer → Event
clerk_reports identifier timer = clerk_does (AtClerk.Timer (named identifier) timer)

abbrev line_acts : List ℕ → LineAct.Act → Event
line_acts identifier act = line_does (AtLine.Act (named identifier) act)

abbrev guard_reports : List ℕ → Event
guard_reports identifier = line_does (AtLine.Guard (named identifier))

abbrev pub line_reports : Bool → Event
line_reports busy = line_does (AtLine.Report (number_words numberB) busy)

abbrev line_looks : Event
line_looks = line_does (AtLine.Look (number_words numberB))

-- the head of a wire is delivered; of a request with an identifier no place is looked at
abbrev pub clerk_gets : Bool → Event
clerk_gets busy = clerk_hears busy 0

abbrev pub line_gets : Event
line_gets = line_hears 0

-- the same without an identifier: a request is named by the place of its record
abbrev pub placed : ℕ → Name
placed place = record { identifier = None; place = place }

abbrev pub asks_nameless : Event
asks_nameless = let a = asking false Ccbs true first in clerk_does (AtClerk.Ask (ask_names a) (ask_request a))

-- ---- the runs, each from the start
-- the request is heard and stored; its result is still under way
abbrev pub stored : List Event
stored = asks Ccbs true first ∷ line_gets ∷ []

-- the result is heard
abbrev pub acknowledged : List Event
acknowledged = stored ++ (clerk_gets false ∷ [])

-- a Look, and ccExecPossible is heard: User A is not busy, or busy and ccSuspend is heard
abbrev pub recalled : List Event
recalled = line_looks ∷ clerk_gets false ∷ []

abbrev suspends : List Event
suspends = line_looks ∷ clerk_gets true ∷ line_gets ∷ []

-- the clerk went on from Suspended without a resume
abbrev pub went_on : List Event
went_on = acknowledged ++ (suspends ++ (clerk_acts first User.GoOn ∷ []))

-- accept, and ccRingout is heard
abbrev rings_out : List Event
rings_out = clerk_acts first User.Accept ∷ line_gets ∷ []

abbrev pub ringing : List Event
ringing = acknowledged ++ (recalled ++ rings_out)

-- alerted, and type 11 is heard
abbrev completes : List Event
completes = line_acts first Far.Alerted ∷ clerk_gets false ∷ []

abbrev completed : List Event
completed = ringing ++ completes

-- another ask with the same numbers, its request heard, the error heard
abbrev denied : List Event
denied = acknowledged ++ (asks Ccbs true second ∷ line_gets ∷ clerk_gets false ∷ [])

-- a cancel while ccExecPossible is under way
abbrev crossed : List Event
crossed = acknowledged ++ (line_looks ∷ clerk_acts first User.Cancel ∷ [])

-- recall and accept, but the line is busy again when ccRingout is heard
abbrev meets_busy : List Event
meets_busy = recalled ++ (clerk_acts first User.Accept ∷ line_reports true ∷ line_gets ∷ [])

abbrev busy_again : List Event
busy_again = acknowledged ++ meets_busy

-- its error is heard
abbrev kept : List Event
kept = busy_again ++ (clerk_gets false ∷ [])

-- the same, of an ask without can-keep
abbrev unkept : List Event
unkept = asks Ccbs false first ∷ line_gets ∷ clerk_gets false ∷ meets_busy

-- a CCNR request is acknowledged, its line free all the while
abbrev pub no_reply : List Event
no_reply = asks Ccnr true first ∷ line_gets ∷ clerk_gets false ∷ []

-- its line was busy and is free again; it is offered, and the line is busy again when ccRingout is heard; the error is heard, or dropped
abbrev pub no_reply_busy : List Event
no_reply_busy = no_reply ++ (line_reports true ∷ line_reports false ∷ meets_busy)

abbrev no_reply_kept : List Event
no_reply_kept = no_reply_busy ++ (clerk_gets false ∷ [])

abbrev pub no_reply_lost : List Event
no_reply_lost = no_reply_busy ++ (drops_down 0 ∷ [])

-- the retained connection falls (where it was released there is none, and the act is refused): the line's end sees it, and then the clerk's
abbrev pub line_fell : List Event
line_fell = acknowledged ++ (line_acts first Far.Fell ∷ [])

abbrev both_fell : List Event
both_fell = line_fell ++ (clerk_acts first User.Fell ∷ [])

-- T2 is reported, and its ccCancel is dropped
abbrev pub run_out : List Event
run_out = acknowledged ++ (clerk_reports first T2 ∷ drops_up 0 ∷ [])

-- a guard is reported, and its ccCancel is dropped
abbrev pub over : List Event
over = run_out ++ (guard_reports first ∷ drops_down 0 ∷ [])

-- of two requests under way the second is dropped, and the first heard
abbrev second_lost : List Event
second_lost = asks Ccbs true first ∷ asks Ccbs true second ∷ drops_up 1 ∷ line_gets ∷ []

-- alerted, but type 11 is dropped; T2 is reported in Ringout, and refused
abbrev unheard : List Event
unheard = ringing ++ (line_acts first Far.Alerted ∷ drops_down 0 ∷ clerk_reports first T2 ∷ [])

-- the guard is reported while the call rings, and its ccCancel is dropped
abbrev pub deserted : List Event
deserted = ringing ++ (guard_reports first ∷ drops_down 0 ∷ [])

-- the clerk's host is told that the request was rejected, while it is under way
abbrev pub rejection : List Event
rejection = asks Ccbs true first ∷ clerk_is_told rejected (named first) false ∷ []

-- an identifier is used again, and a message of the first request is heard as the second's: its result; and the line's ccCancel is the next to be heard
abbrev pub reused : List Event
reused = stored ++ (clerk_acts first User.Cancel ∷ asks Ccbs true first ∷ clerk_gets false ∷ [])

abbrev pub reused_late : List Event
reused_late = acknowledged ++ (line_acts first Far.Cancel ∷ clerk_acts first User.Cancel ∷ asks Ccbs true first ∷ [])

-- it is used again when the first request is over at both ends, and the second is acknowledged
abbrev pub used_again : List Event
used_again = completed ++ acknowledged

-- two requests without identifier, with the same numbers: the clerk asks, cancels, and asks again; the first request is heard and stored, and the line cancels it. Its result is heard, for which the
-- host names a place without a record; and the ccCancel, in Setup, is the next to be heard
abbrev pub nowhere : ℕ
nowhere = 9

abbrev pub nameless : List Event
nameless =
    asks_nameless ∷ clerk_does (AtClerk.Act (placed 0) User.Cancel) ∷ asks_nameless ∷ line_gets ∷ line_does (AtLine.Act (placed 0) Far.Cancel) ∷ clerk_hears false nowhere ∷ []

-- one request without identifier, heard and stored. Its result is heard, but the host names no record's place, and none for the ccCancel that answers it
abbrev pub misplaced : List Event
misplaced = asks_nameless ∷ line_gets ∷ clerk_hears false nowhere ∷ line_hears nowhere ∷ []

-- named rightly it is acknowledged, offered, suspended and resumed, though no message has its identifier: ccResume finds it by its elements in Setup
abbrev pub nameless_alone : List Event
nameless_alone =
    asks_nameless ∷ line_gets ∷ clerk_gets false ∷ line_looks ∷ clerk_gets true ∷ line_gets ∷ clerk_does (AtClerk.Act (placed 0) User.Resume) ∷ line_hears nowhere ∷ []

-- ---- the tables: a run, an identifier, and what is seen of that request at its end
pub record Row : Type 0 where
  pub events : List Event
  pub identifier : List ℕ
  pub said : Seen

abbrev row : List Event → List ℕ → Seen → Row
row events identifier said = record { events = events; identifier = identifier; said = said }

abbrev pub ends : Bool → Row → World
ends retain r = play (start retain) r.events

-- clerk, line; activity mark, suspended mark; keep at the clerk's end and at the line's; under way up and down; dropped, run out, guarded

-- the listed pairs, on quiet wires
unfoldable pub pairs : List Row
pairs =
    -- Invoked and Invoked
    row acknowledged first (sees 2 1 0 0 2 2 0 0 0 0 0) ∷
    -- Wait-Answer and Await, suspended mark not set
    row (acknowledged ++ recalled) first (sees 3 2 0 0 2 2 0 0 0 0 0) ∷
    -- Suspended and Await, suspended mark set
    row (acknowledged ++ suspends) first (sees 5 2 0 1 2 2 0 0 0 0 0) ∷
    -- Wait-Answer and Await, suspended mark set: the clerk went on from Suspended without a resume
    row went_on first (sees 3 2 0 1 2 2 0 0 0 0 0) ∷
    -- User A is free and resumes, ccResume is heard: back to Invoked and Invoked, the mark cleared
    row (acknowledged ++ (suspends ++ (clerk_acts first User.Resume ∷ line_gets ∷ []))) first (sees 2 1 0 0 2 2 0 0 0 0 0) ∷
    -- Ringout and Alert
    row ringing first (sees 4 3 0 0 2 2 0 0 0 0 0) ∷
    -- no record and no record: the request is completed
    row completed first (sees 0 0 0 0 0 0 0 0 0 0 0) ∷
    []

-- a request is asked for, answered, offered, kept or ended
unfoldable pub answers : List Row
answers =
    -- after a completed request another ask, with an identifier that was not taken up before
    row (completed ++ (asks Ccbs true second ∷ [])) second (sees 1 0 0 0 0 0 1 0 0 0 0) ∷
    -- before the acknowledgment: the line's end holds the request, the clerk's is in Wait-Ack
    row stored first (sees 1 1 0 0 0 2 0 1 0 0 0) ∷
    -- another ask for the same two numbers is denied short, and its error heard: it is gone at both ends, and the first is as it was
    row denied second (sees 0 0 0 0 0 0 0 0 0 0 0) ∷
    row denied first (sees 2 1 0 0 2 2 0 0 0 0 0) ∷
    -- a cancel meets a ring-back: ccCancel and ccExecPossible are under way at once
    row crossed first (sees 0 2 0 0 0 2 1 1 0 0 0) ∷
    -- both are heard: nobody holds it; the answer to a ccExecPossible without a record is a ccCancel, under way
    row (crossed ++ (line_gets ∷ clerk_gets false ∷ [])) first (sees 0 0 0 0 0 0 1 0 0 0 0) ∷
    -- the other order, and that ccCancel is heard too
    row (crossed ++ (clerk_gets false ∷ line_gets ∷ line_gets ∷ [])) first (sees 0 0 0 0 0 0 0 0 0 0 0) ∷
    -- the line's end cancels, and its ccCancel is heard
    row (acknowledged ++ (line_acts first Far.Cancel ∷ clerk_gets false ∷ [])) first (sees 0 0 0 0 0 0 0 0 0 0 0) ∷
    -- busy again: the line's end kept the request, its activity marked; the clerk's has not heard yet
    row busy_again first (sees 4 1 1 0 2 2 0 1 0 0 0) ∷
    -- kept at both ends
    row kept first (sees 2 1 1 0 2 2 0 0 0 0 0) ∷
    -- then the line is free, a Look offers it again, and it is completed
    row (kept ++ (line_reports false ∷ (recalled ++ (rings_out ++ completes)))) first (sees 0 0 0 0 0 0 0 0 0 0 0) ∷
    -- keep not chosen: busy again ends the request at the line's end, and at the clerk's when the error is heard
    row unkept first (sees 4 0 0 0 1 0 0 1 0 0 0) ∷
    row (unkept ++ (clerk_gets false ∷ [])) first (sees 0 0 0 0 0 0 0 0 0 0 0) ∷
    -- CCNR on a line that has been free since acceptance: a Look offers nothing
    row (no_reply ++ (line_looks ∷ [])) first (sees 2 1 0 0 2 2 0 0 0 0 0) ∷
    -- a busy report, which names no request, marks its activity
    row (no_reply ++ (line_reports true ∷ [])) first (sees 2 1 1 0 2 2 0 0 0 0 0) ∷
    -- only then a Look at the free line offers it
    row (no_reply ++ (line_reports true ∷ line_reports false ∷ line_looks ∷ [])) first (sees 2 2 1 0 2 2 0 1 0 0 0) ∷
    -- the connection fell at the line's end: the offer, which goes in Setup now, is taken all the same; and the call rings when it fell at the clerk's too
    row (line_fell ++ recalled) first (sees 3 2 0 0 2 2 0 0 0 0 0) ∷
    row (both_fell ++ (recalled ++ rings_out)) first (sees 4 3 0 0 2 2 0 0 0 0 0) ∷
    -- it falls at the clerk's end while an offer is under way: what is sent in Facility is taken, and ccSuspend goes in Release Complete
    row (acknowledged ++ (line_looks ∷ clerk_acts first User.Fell ∷ clerk_gets true ∷ line_gets ∷ [])) first (sees 5 2 0 1 2 2 0 0 0 0 0) ∷
    -- and a ccResume in Setup, sent by an end that saw it, is taken by one that did not
    row (acknowledged ++ (suspends ++ (clerk_acts first User.Fell ∷ clerk_acts first User.Resume ∷ line_gets ∷ []))) first (sees 2 1 0 0 2 2 0 0 0 0 0) ∷
    -- busy again: kept, and offered once more when the line is free
    row no_reply_kept first (sees 2 1 1 0 2 2 0 0 0 0 0) ∷
    row (no_reply_kept ++ (line_reports false ∷ line_looks ∷ [])) first (sees 2 2 1 0 2 2 0 1 0 0 0) ∷
    []

-- a timer runs out, or a message is dropped
unfoldable pub losses : List Row
losses =
    -- T1 is reported in Wait-Ack and its ccCancel heard: nobody holds it; the result is still under way
    row (stored ++ (clerk_reports first T1 ∷ line_gets ∷ [])) first (sees 0 0 0 0 0 0 0 1 0 1 0) ∷
    -- T3 is reported and its ccCancel heard; T3 is no timer of the demand
    row (acknowledged ++ (recalled ++ (clerk_reports first T3 ∷ line_gets ∷ []))) first (sees 0 0 0 0 0 0 0 0 0 0 0) ∷
    -- the guard first, and its ccCancel heard at the clerk's end
    row (acknowledged ++ (guard_reports first ∷ clerk_gets false ∷ [])) first (sees 0 0 0 0 0 0 0 0 0 0 1) ∷
    -- a T2 report is taken, its ccCancel is dropped: the line's end still holds the request
    row run_out first (sees 0 1 0 0 0 2 0 0 1 1 0) ∷
    -- a guard report is taken and its ccCancel dropped: nobody holds it
    row over first (sees 0 0 0 0 0 0 0 0 1 1 1) ∷
    -- a drop behind the head of a wire: the second request is lost, the first stored
    row second_lost second (sees 1 0 0 0 0 0 0 0 1 0 0) ∷
    row second_lost first (sees 1 1 0 0 0 2 0 1 0 0 0) ∷
    -- type 11 is dropped: no timer ends Ringout (mend M1), so the clerk's end waits for its host
    row unheard first (sees 4 0 0 0 2 0 0 0 1 0 0) ∷
    -- so too where the guard's ccCancel is dropped in Ringout: a T2 report is refused there, and has not run out
    row (deserted ++ (clerk_reports first T2 ∷ [])) first (sees 4 0 0 0 2 0 0 0 1 0 1) ∷
    []

-- the signalling of the call tells of a failure
unfoldable pub signals : List Row
signals =
    -- the call fails at the line's end: type 12 is heard, and the ccCancel that it brings (mend M2)
    row (ringing ++ (line_acts first Far.CallFailed ∷ clerk_gets false ∷ line_gets ∷ [])) first (sees 0 0 0 0 0 0 0 0 0 0 0) ∷
    -- type 11 was dropped and the host is told that the call died: that ends Ringout, and its ccCancel is heard
    row (unheard ++ (clerk_is_told call_died (named first) false ∷ line_gets ∷ [])) first (sees 0 0 0 0 0 0 0 0 1 0 0) ∷
    -- the call died, and the line's end has not noticed: its ccCancel is under way
    row (ringing ++ (clerk_is_told call_died (named first) false ∷ [])) first (sees 0 3 0 0 0 2 1 0 0 0 0) ∷
    -- the request is rejected while it is under way, and then stored all the same
    row (rejection ++ (line_gets ∷ [])) first (sees 0 1 0 0 0 2 0 1 0 0 0) ∷
    -- its result is answered with ccCancel, which is heard: nobody holds it
    row (rejection ++ (line_gets ∷ clerk_gets false ∷ line_gets ∷ [])) first (sees 0 0 0 0 0 0 0 0 0 0 0) ∷
    []

-- ---- the kinds (document 02, Ask 5): a run, and the request's kind at the clerk's end and at the line's (0 no record, 1 CCBS, 2 CCNR)
pub record Kinds : Type 0 where
  pub clerk : ℕ
  pub line : ℕ

pub record KindRow : Type 0 where
  pub events : List Event
  pub said : Kinds

abbrev kind_row : List Event → ℕ → ℕ → KindRow
kind_row events clerk line = record { events = events; said = record { clerk = clerk; line = line } }

unfoldable pub kinds : List KindRow
kinds =
    -- as it was asked for
    kind_row no_reply 2 2 ∷
    -- busy again is under way: the line's end has made it CCBS, the clerk's has not heard yet
    kind_row no_reply_busy 2 1 ∷
    -- it is heard
    kind_row no_reply_kept 1 1 ∷
    -- it is dropped
    kind_row no_reply_lost 2 1 ∷
    -- a request that was CCBS stays so
    kind_row kept 1 1 ∷
    []

unfoldable pub kinds_seen : World → Option Words → Kinds
kinds_seen w identifier =
    record {
      clerk = told (λ (c : ClerkRecord.Record). kind_code c.terms.kind) (clerk_holds identifiers w identifier);
      line = told (λ (l : LineRecord.Record). kind_code l.terms.kind) (line_holds identifiers w identifier);
    }

abbrev pub KindsShown : Type 0
KindsShown =
    (retain : Bool) → map (λ (r : KindRow). kinds_seen (play (start retain) r.events) (called first)) kinds ≡ map (λ (r : KindRow). r.said) kinds

-- ---- the mark "connection down" (document 02, Ask 11), where connections are retained or released: a run, and 1 where the clerk's end, and the line's, has set it
pub record Marks : Type 0 where
  pub clerk : ℕ
  pub line : ℕ

pub record MarkRow : Type 0 where
  pub events : List Event
  pub said : Marks

abbrev mark_row : List Event → ℕ → ℕ → MarkRow
mark_row events clerk line = record { events = events; said = record { clerk = clerk; line = line } }

unfoldable pub falls : Bool → List MarkRow
falls retain =
    mark_row acknowledged 0 0 ∷
    -- each end sets its own
    mark_row line_fell 0 (flag_code retain) ∷
    mark_row both_fell (flag_code retain) (flag_code retain) ∷
    -- before the acknowledgment it is refused at the clerk's end
    mark_row (stored ++ (clerk_acts first User.Fell ∷ [])) 0 0 ∷
    -- nothing clears it: a ringout, a resume, busy again
    mark_row (both_fell ++ (recalled ++ rings_out)) (flag_code retain) (flag_code retain) ∷
    mark_row (both_fell ++ (suspends ++ (clerk_acts first User.Resume ∷ line_gets ∷ []))) (flag_code retain) (flag_code retain) ∷
    mark_row (both_fell ++ (meets_busy ++ (clerk_gets false ∷ []))) (flag_code retain) (flag_code retain) ∷
    []

unfoldable pub marks_seen : World → Option Words → Marks
marks_seen w identifier =
    record {
      clerk = told (λ (c : ClerkRecord.Record). flag_code c.down) (clerk_holds identifiers w identifier);
      line = told (λ (l : LineRecord.Record). flag_code l.down) (line_holds identifiers w identifier);
    }

abbrev pub FallsShown : Type 0
FallsShown =
    (retain : Bool) →
    map (λ (r : MarkRow). marks_seen (play (start retain) r.events) (called first)) (falls retain) ≡ map (λ (r : MarkRow). r.said) (falls retain)

abbrev pub table : List Row
table = pairs ++ (answers ++ (losses ++ signals))

-- the one claim: each row is what is seen at its run's end
abbrev pub RowsShown : List Row → Type 0
RowsShown rows = (retain : Bool) → map (λ (r : Row). seen (ends retain r) (called r.identifier)) rows ≡ map (λ (r : Row). r.said) rows

pub record Shown : Type 0 where
  pub pairs : RowsShown pairs
  pub answers : RowsShown answers
  pub losses : RowsShown losses
  pub signals : RowsShown signals
  pub kinds : KindsShown
  pub falls : FallsShown

-- every row ends in a world of a run: each ask is one that the entry makes, and no identifier is taken up twice
abbrev pub EachReached : Bool → List Row → Type 0
EachReached retain [] = Unit
EachReached retain (r ∷ rs) = Reached Once (ends retain r) × EachReached retain rs

abbrev pub TableReached : Type 0
TableReached = (retain : Bool) → EachReached retain table

-- ---- the premises of demand 3's claims, each met in a reached world
-- both ends hold a request, of which something is so at the clerk's
pub record BothHold (So : ClerkRecord.Record → Type 0) : Type 0 where
  pub world : World
  pub reached : Reached Once world
  pub identifier : Option Words
  pub c : ClerkRecord.Record
  pub l : LineRecord.Record
  pub clerk : clerk_holds identifiers world identifier ≡ one c
  pub line : line_holds identifiers world identifier ≡ one l
  pub so : So c

-- a T1 or T2 report and a guard report were taken, a message was dropped, and the request is not under way
pub record RunOut : Type 0 where
  pub world : World
  pub reached : Reached Once world
  pub identifier : Option Words
  pub dropped : Told identifiers Note.dropped identifier world
  pub run_out : Told identifiers Note.run_out identifier world
  pub guarded : Told identifiers Note.guarded identifier world
  pub request : NoRequest (messages_of identifiers identifier world.up)

-- two requests of one identifier, one after the other, are each kept apart: the claims by origin hold of both
pub record UsedAgain (w : World) : Type 0 where
  pub first : Reached (Apart 0) w
  pub second : Reached (Apart 1) w
  pub c : ClerkRecord.Record
  pub held : clerk_holds origins w 1 ≡ one c
  pub so : Acknowledged c

-- a request without identifier is kept apart where it is alone and the host names its record, and it is back in Invoked at both ends
pub record Nameless (w : World) : Type 0 where
  pub apart : Reached (Apart 0) w
  pub c : ClerkRecord.Record
  pub l : LineRecord.Record
  pub clerk : clerk_holds origins w 0 ≡ one c
  pub line : line_holds origins w 0 ≡ one l
  pub waits : (c.state ≡ ClerkState.Invoked) × (l.state ≡ LineState.Invoked)

pub record Premises : Type 0 where
  pub nameless : Nameless (play (start false) nameless_alone)
  pub acknowledged : BothHold Acknowledged
  pub before : BothHold (λ (c : ClerkRecord.Record). c.terms.connection ≡ Empty)
  pub over : RunOut
  pub used_again : UsedAgain (play (start false) used_again)

-- ---- what is no event of a run
-- nothing of a request was dropped or is under way, and yet its pair is not listed
pub record Unlisted (w : World) (identifier : Option Words) : Type 0 where
  pub dropped : Told identifiers Note.dropped identifier w → ⊥
  pub up : messages_of identifiers identifier w.up ≡ []
  pub down : messages_of identifiers identifier w.down ≡ []
  pub unlisted : Listed (clerk_holds identifiers w identifier) (line_holds identifiers w identifier) → ⊥

-- Two inputs of docs/HOST.md, 12, handed in though nobody sent them, would break the claim of quiet wires in Ringout and Alert: they end the clerk's record, send
-- nothing, and the line's stays in Alert. So neither is a signal of `clerk_is_told`. Type 11 is the Alerting or Connect that the line's act sends: a host hands it
-- in only when it arrives. After a reject of the ringout, type 7 failureToMatch, the line's record waits for its guard.
abbrev pub handed_in : World → Letter → World
handed_in w l = next w (clerk_does (AtClerk.Message l false 0))

pub record LeftOut (retain : Bool) : Type 0 where
  pub reached : Reached Once (play (start retain) ringing)
  pub alerts : Unlisted (handed_in (play (start retain) ringing) (plain_letter (called first) Alerting CallAlerts)) (called first)
  pub not_matched : Unlisted (handed_in (play (start retain) ringing) (plain_letter (called first) ReleaseComplete (RingoutError 2))) (called first)
