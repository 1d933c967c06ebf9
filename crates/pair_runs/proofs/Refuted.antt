-- Each wrong claim, held against a run that was computed.
use Rattle.lists.specs.declared.words.Words.{Words}
use Rattle.std.specs.Prelude.{Option, Some, None}
use Prim.Native.Nat.{ℕ}
use mathlib.Core.Path.{◌≡◌, refl, sym, ◌∙◌, ap, subst}
use mathlib.Core.Bool.{Bool, true, false, not, true≢false, false≢true}
use mathlib.Core.Logic.{◌⊎◌, inl, inr}
use mathlib.Core.List.Memᴰ
use mathlib.Core.List.{List, [], ◌∷◌, Memᴰ as Noted}
use lib.ListN.{take}
use native.Mathlib.Omega.{arith}
use Rattle.message.specs.declared.Kind.{Kind}
use Rattle.message.specs.declared.Kind.TheVariants.{Ccbs, Ccnr}
use Rattle.message.specs.declared.Message.{Message}
use Rattle.desk.specs.Letter.{is_identified, number_words}
use Rattle.terms.specs.declared.means.Means.{Means}
use Rattle.desk.specs.declared.Connection.{Connection}
use Rattle.desk.specs.declared.Keep.{Keep}
use Rattle.places.specs.Places.{Held, none, one}
use Rattle.clerk_table.specs.declared.inputs.Act.TheVariants as User
use Rattle.clerk_table.specs.declared.inputs.Input.TheVariants as AtClerk
use Rattle.clerk_table.specs.declared.record.Record as ClerkRecord
use Rattle.clerk_table.specs.declared.table.State as ClerkState
use Rattle.clerk_table.specs.declared.table.State.TheVariants as ClerkStates
use Rattle.clerk_table.specs.declared.table.Timer.TheVariants.{T2}
use Rattle.clerk_records.specs.Records as ClerkRecords
use Rattle.line_table.specs.declared.record.Record as LineRecord
use Rattle.line_table.specs.declared.table.State.{State}
use Rattle.line_table.specs.declared.table.State.TheVariants as LineState
use Rattle.line_records.specs.Records as LineRecords
use Rattle.pair.specs.World.{Of, Note, from, origins, identifiers, World, Event, clerk_does, line_does, clerk_is_told, clerk_hears, line_hears, drops_up, drops_down, counts, clerk_holds, line_holds, next, Allowed, Run, stop, then, Reached, reached, Any, Once, clerk_means, line_means}
use Rattle.pair.specs.Demand3.{Accepted, Stores, Unaltered, same, marked, Listed, no_record, invoked, wait_answer, suspended, ringout}
use Rattle.pair_runs.specs.Refuted as Wrong
use Rattle.pair_runs.specs.Runs.{play, first, numberB, usual, one_line, start, asks, clerk_acts, line_reports, stored, acknowledged, went_on, no_reply, no_reply_busy, no_reply_lost, line_fell, run_out, deserted, rejection, reused, reused_late, called, named, clerk_gets, line_gets, nowhere, nameless, misplaced}
use Rattle.pair_runs.proofs.Allowed.{passes, passes-told, bytes-told, undropped, allowed, allowed-told, new_told, goes-told, alike_at, alike_at_lem}
use Rattle.pair_runs.proofs.Runs.{all, reach, held_or, someone, held_one, not_listed, not-empty}

abbrev at : List Event → World
at es = play (start false) es

abbrev clerk_at : List Event → ClerkRecord.Record
clerk_at es = held_or ClerkRecords.blank (clerk_holds identifiers (at es) (called first))

abbrev line_at : List Event → LineRecord.Record
line_at es = held_or LineRecords.blank (line_holds identifiers (at es) (called first))

clerk-holds : (es : List Event) → someone (clerk_holds identifiers (at es) (called first)) ≡ true → clerk_holds identifiers (at es) (called first) ≡ one (clerk_at es)
clerk-holds es so = held_one ClerkRecords.blank (clerk_holds identifiers (at es) (called first)) so

line-holds : (es : List Event) → someone (line_holds identifiers (at es) (called first)) ≡ true → line_holds identifiers (at es) (called first) ≡ one (line_at es)
line-holds es so = held_one LineRecords.blank (line_holds identifiers (at es) (called first)) so

-- ---- 1. an ask alone
abbrev hears : Event → Bool
hears (clerk_does input) = false
hears (line_does input) = false
hears (clerk_is_told signal identifier busy) = false
hears (clerk_hears busy place) = false
hears (line_hears place) = true
hears (drops_up i) = false
hears (drops_down i) = false
hears (counts count) = false

abbrev asked : List Event
asked = asks Ccbs true first ∷ []

not-heard : (w : World) (e : Event) → hears e ≡ false → Stores identifiers (called first) w e ⊎ ⊥ → ⊥
not-heard w e other (inl s) = true≢false (sym (ap hears s.heard) ∙ other)
not-heard w e other (inr x) = x

pub accepted_though_waiting_lem : Wrong.AcceptedThoughWaiting → ⊥
unfolding play passes Accepted all
accepted_though_waiting_lem wrong =
    let run : Run Once (start false) (at asked) = then stop (asks Ccbs true first) (allowed-told (start false) (asks Ccbs true first) refl) (new_told (start false) (asks Ccbs true first) refl) in
    not-heard (start false) (asks Ccbs true first) refl
    (wrong usual one_line true false (bytes-told one_line refl) (at asked) run (called first) (clerk_at asked) (clerk-holds asked refl))

-- ---- 2. a request that is stored, its result under way
abbrev keep_settled : Keep → Bool
keep_settled Keep.Empty = false
keep_settled Keep.Ends = true
keep_settled Keep.Keeps = true

pub keep-before-acknowledged : Wrong.KeepBeforeAcknowledged → ⊥
unfolding play passes all
keep-before-acknowledged wrong =
    false≢true
    (ap keep_settled
    (wrong (at stored) (reach false stored refl) (called first) (clerk_at stored) (line_at stored) (clerk-holds stored refl) (line-holds stored refl)))

abbrev connection_settled : Connection → Bool
connection_settled Connection.Empty = false
connection_settled Connection.Ret = true
connection_settled Connection.Rls = true

pub connection-before-acknowledged : Wrong.ConnectionBeforeAcknowledged → ⊥
unfolding play passes all
connection-before-acknowledged wrong =
    false≢true
    (ap connection_settled
    (wrong (at stored) (reach false stored refl) (called first) (clerk_at stored) (line_at stored) (clerk-holds stored refl) (line-holds stored refl)))

-- ---- 3. a ccCancel was dropped; the clerk went on from Suspended
pub quiet_though_dropped_lem : Wrong.QuietThoughDropped → ⊥
unfolding play passes all
quiet_though_dropped_lem wrong =
    not_listed (clerk_holds identifiers (at run_out) (called first)) (line_holds identifiers (at run_out) (called first)) refl
    (wrong (at run_out) (reach false run_out refl) (called first) refl refl)

pub answer_unmarked_lem : Wrong.AnswerUnmarked → ⊥
unfolding play passes all
answer_unmarked_lem wrong =
    true≢false
    (wrong (at went_on) (reach false went_on refl) (called first) (undropped (at went_on) (called first) refl) refl refl (clerk_at went_on) (line_at went_on) (clerk-holds went_on refl) (line-holds went_on refl) refl)

-- busy again is under way, or was dropped: the line's end has made the request CCBS, the clerk's has not
abbrev waits_for_free : Kind → Bool
waits_for_free Ccbs = true
waits_for_free Ccnr = false

pub kind_though_under-way : Wrong.KindThoughUnderWay → ⊥
unfolding play passes all
kind_though_under-way wrong =
    false≢true
    (ap waits_for_free
    (wrong (at no_reply_busy) (reach false no_reply_busy refl) (called first) (undropped (at no_reply_busy) (called first) refl) (clerk_at no_reply_busy) (line_at no_reply_busy) (clerk-holds no_reply_busy refl) (line-holds no_reply_busy refl)))

pub kind_though_dropped_lem : Wrong.KindThoughDropped → ⊥
unfolding play passes all
kind_though_dropped_lem wrong =
    false≢true
    (ap waits_for_free
    (wrong (at no_reply_lost) (reach false no_reply_lost refl) (called first) (clerk_at no_reply_lost) (line_at no_reply_lost) (clerk-holds no_reply_lost refl) (line-holds no_reply_lost refl) refl refl))

-- the line's end alone saw the connection fall, at a desk that retains
pub marks-agree : Wrong.MarksAgree → ⊥
unfolding play passes all
marks-agree wrong =
    let w = play (start true) line_fell in
    let c = held_or ClerkRecords.blank (clerk_holds identifiers w (called first)) in
    let l = held_or LineRecords.blank (line_holds identifiers w (called first)) in
    false≢true
    (wrong w (reach true line_fell refl) (called first) (record { undropped = undropped w (called first) refl; up = refl; down = refl }) c l (held_one ClerkRecords.blank (clerk_holds identifiers w (called first)) refl) (held_one LineRecords.blank (line_holds identifiers w (called first)) refl))

-- ---- 4. T2 alone; a T2 report in Ringout; an ask after the start; a request heard after it was rejected
not_none : {A : Type 0} (h : Held A) → someone h ≡ true → h ≡ none → ⊥
not_none h so e = true≢false (sym so ∙ ap someone e)

pub over_unguarded_lem : Wrong.OverUnguarded → ⊥
unfolding play passes all
over_unguarded_lem wrong =
    not_none (line_holds identifiers (at run_out) (called first)) refl
    (wrong (at run_out) (reach false run_out refl) (called first) (from 0 (called first), (refl, Noted.tail (Noted.head refl))) tt (at run_out) stop).1

pub over-by-refused-t2 : Wrong.OverByRefusedT2 → ⊥
unfolding play passes all
over-by-refused-t2 wrong =
    let later = next (at deserted) (clerk_does (AtClerk.Timer (named first) T2)) in
    not_none (clerk_holds identifiers later (called first)) refl (wrong (at deserted) (reach false deserted refl) (named first) (from 0 (called first), (refl, Noted.tail (Noted.head refl))) tt later stop).0

pub gone-before-taken-up : Wrong.GoneBeforeTakenUp → ⊥
unfolding play passes all
gone-before-taken-up wrong =
    not_none (clerk_holds identifiers (at asked) (called first)) refl
    (wrong (at []) (reach false [] refl) (called first) refl refl tt (at asked)
    (then stop (asks Ccbs true first) (allowed-told (start false) (asks Ccbs true first) refl) (new_told (start false) (asks Ccbs true first) refl))).0

pub gone_though_under-way : Wrong.GoneThoughUnderWay → ⊥
unfolding play passes all
gone_though_under-way wrong =
    not_none (line_holds identifiers (next (at rejection) line_gets) (called first)) refl
    (wrong (at rejection) (reach false rejection refl) (called first) (from 0 (called first), (refl, Noted.head refl)) refl refl (next (at rejection) line_gets) (then stop line_gets (allowed-told (at rejection) line_gets refl) (new_told (at rejection) line_gets refl))).1

-- ---- 5. a Look that offers; a busy report; a drop
-- who is in no list
nobody : {B : Type 0} {k : Option Words} → Noted k [] → B
nobody m = elim m [ ]

abbrev waiting : State → Bool
waiting LineState.Free = false
waiting LineState.Invoked = true
waiting LineState.Await = false
waiting LineState.Alert = false

abbrev waits : Held LineRecord.Record → Bool
waits none = false
waits (one l) = waiting l.state

-- what is unaltered is in its state
state-unaltered : {e : Event} {before after : Held LineRecord.Record} → Unaltered e before after → waits before ≡ waits after
state-unaltered same = refl
state-unaltered (marked r so) = refl

pub look_alters_nothing_lem : Wrong.LookAltersNothing → ⊥
unfolding play passes all
look_alters_nothing_lem wrong =
    true≢false (state-unaltered (wrong (at acknowledged) (reach false acknowledged refl) (number_words numberB) (called first)).1)

abbrev active : Held LineRecord.Record → Bool
active none = false
active (one l) = l.active

pub report-marks-nothing : Wrong.ReportMarksNothing → ⊥
unfolding play passes all
report-marks-nothing wrong =
    true≢false (ap active (wrong (at no_reply) (reach false no_reply refl) (line_reports true) (allowed-told (at no_reply) (line_reports true) refl) (new_told (at no_reply) (line_reports true) refl) (called first) (λ about. nobody about)))

abbrev empty : List Message → Bool
empty [] = true
empty (m ∷ ms) = false

pub drop-takes-nothing : Wrong.DropTakesNothing → ⊥
unfolding play passes all
drop-takes-nothing wrong = true≢false (ap empty (wrong (at asked) (reach false asked refl) (drops_up 0) (allowed-told (at asked) (drops_up 0) refl) (new_told (at asked) (drops_up 0) refl) (called first) (λ about. nobody about)).0)

-- ---- the premise. Of two requests with one identifier the first's result acknowledges the second, of which the line's end has not heard
-- a step that is no delivery to the line stores nothing there, nor does one of another's message
unheard : (w : World) (e : Event) → hears e ≡ false → Stores origins 1 w e → ⊥
unheard w e other s = true≢false (sym (ap hears s.heard) ∙ other)

abbrev after : ℕ → World
after n = at (take n reused)

allows : (n : ℕ) (e : Event) → allowed (after n) e ≡ true → Allowed (after n) e
allows n e so = allowed-told (after n) e so

mixed_run : Run Any (start false) (at reused)
unfolding play all
mixed_run =
    then (then (then (then (then stop (asks Ccbs true first) (allows 0 (asks Ccbs true first) refl) tt) line_gets (allows 1 line_gets refl) tt) (clerk_acts first User.Cancel) (allows 2 (clerk_acts first User.Cancel) refl) tt)
    (asks Ccbs true first) (allows 3 (asks Ccbs true first) refl) tt) (clerk_gets false) (allows 4 (clerk_gets false) refl) tt

not-accepted : Accepted origins 1 mixed_run → ⊥
unfolding play all mixed_run Accepted
not-accepted (inl s) = unheard (after 4) (clerk_gets false) refl s
not-accepted (inr (inl s)) = unheard (after 3) (asks Ccbs true first) refl s
not-accepted (inr (inr (inl s))) = unheard (after 2) (clerk_acts first User.Cancel) refl s
not-accepted (inr (inr (inr (inl s)))) = let z : ◌≡◌ {A = ℕ} 0 1 = s.request.0 in omega (arith, z)
not-accepted (inr (inr (inr (inr (inl s))))) = unheard (after 0) (asks Ccbs true first) refl s
not-accepted (inr (inr (inr (inr (inr x))))) = x

pub accepted_though_mixed_lem : Wrong.AcceptedThoughMixed → ⊥
unfolding play all
accepted_though_mixed_lem wrong =
    let h = clerk_holds origins (at reused) 1 in
    not-accepted (wrong 1 usual one_line true false (bytes-told one_line refl) (at reused) mixed_run (held_or ClerkRecords.blank h) (held_one ClerkRecords.blank h refl) (not-empty Connection.Rls refl))

-- of the first request, and not of the second
not-second : Noted {A = ℕ} 1 (0 ∷ []) → ⊥
not-second m = by (Memᴰ.cases_cons m)
  where
    by : (◌≡◌ {A = ℕ} 1 0) ⊎ Noted {A = ℕ} 1 [] → ⊥
    by (inl e) = omega (arith, e)
    by (inr x) = elim x [ ]

-- and its ccCancel ends it
pub altered_though_mixed_lem : Wrong.AlteredThoughMixed → ⊥
unfolding play passes all
altered_though_mixed_lem wrong =
    let w = at reused_late in
    let reach : Reached Any w = reached usual one_line true false (bytes-told one_line refl) (goes-told (start false) reused_late stop refl) in
    true≢false (sym (ap someone (wrong 1 w reach (clerk_gets false) (allowed-told w (clerk_gets false) refl) tt (λ about. not-second about)).0))

-- ---- requests without identifiers: a ccCancel in Setup of the first, which is gone at the clerk's end, ends the second
abbrev unnamed : World → Event → Bool
unnamed w (clerk_does (AtClerk.Ask names q)) = not (is_identified names.identifier)
unnamed w (clerk_does (AtClerk.Message l busy place)) = true
unnamed w (clerk_does (AtClerk.Act name act)) = true
unnamed w (clerk_does (AtClerk.Timer name timer)) = true
unnamed w (line_does input) = true
unnamed w (clerk_is_told signal name busy) = true
unnamed w (clerk_hears busy place) = true
unnamed w (line_hears place) = true
unnamed w (drops_up i) = true
unnamed w (drops_down i) = true
unnamed w (counts count) = true

unnamed_told : (w : World) (e : Event) → unnamed w e ≡ true → Wrong.OnceIfGiven w e
unnamed_told w e so names q is given o noted = given (by names.identifier (subst (λ (x : Event). unnamed w x ≡ true) is so))
  where
    by : (j : Option Words) → not (is_identified j) ≡ true → j ≡ None
    by None t = refl
    by (Some words) t = absurd (false≢true t)

pub altered_though_nameless_lem : Wrong.AlteredThoughNameless → ⊥
unfolding play passes all
altered_though_nameless_lem wrong =
    let w = at nameless in
    let e = clerk_hears false nowhere in
    let reach : Reached Wrong.OnceIfGiven w = reached usual one_line true false (bytes-told one_line refl) (passes-told Wrong.OnceIfGiven unnamed unnamed_told (start false) nameless stop refl) in
    true≢false (sym (ap someone (wrong 1 w reach e (allowed-told w e refl) (unnamed_told w e refl) (λ about. not-second about)).0))

-- ---- a place that is no record's: the result is answered as if the request were gone, and so is that answer
abbrev head_alike : ℕ → List ℕ → (Message → Means) → List (Of Message) → Bool
head_alike o os means [] = true
head_alike o os means (x ∷ xs) = alike_at o x.origin os (means x.it)

abbrev means_apart : ℕ → World → Event → Bool
means_apart o w (clerk_does input) = true
means_apart o w (line_does input) = true
means_apart o w (clerk_is_told signal name busy) = true
means_apart o w (clerk_hears busy place) = head_alike o w.clerk_origins (λ m. clerk_means w m place) w.down
means_apart o w (line_hears place) = head_alike o w.line_origins (λ m. line_means w m place) w.up
means_apart o w (drops_up i) = true
means_apart o w (drops_down i) = true
means_apart o w (counts count) = true

means-apart-told : (o : ℕ) (w : World) (e : Event) → means_apart o w e ≡ true → Wrong.MeansApart o w e
means-apart-told o w e so =
    record {
      atClerk = λ busy place x rest i is head at.
          alike_at_lem o x.origin w.clerk_origins (clerk_means w x.it place)
          (subst (λ (xs : List (Of Message)). head_alike o w.clerk_origins (λ m. clerk_means w m place) xs ≡ true) head (subst (λ (y : Event). means_apart o w y ≡ true) is so)) i at;
      atLine = λ place x rest i is head at.
          alike_at_lem o x.origin w.line_origins (line_means w x.it place)
          (subst (λ (xs : List (Of Message)). head_alike o w.line_origins (λ m. line_means w m place) xs ≡ true) head (subst (λ (y : Event). means_apart o w y ≡ true) is so)) i at;
    }

-- what is listed is acknowledged
abbrev waits_ack : ClerkState.State → Bool
waits_ack ClerkStates.Free = false
waits_ack ClerkStates.WaitAck = true
waits_ack ClerkStates.Invoked = false
waits_ack ClerkStates.WaitAnswer = false
waits_ack ClerkStates.Ringout = false
waits_ack ClerkStates.Suspended = false

abbrev unanswered : Held ClerkRecord.Record → Bool
unanswered none = false
unanswered (one c) = waits_ack c.state

listed-answered : {c : Held ClerkRecord.Record} {l : Held LineRecord.Record} → Listed c l → unanswered c ≡ false
listed-answered no_record = refl
listed-answered (invoked a b) = ap waits_ack a
listed-answered (wait_answer a b) = ap waits_ack a
listed-answered (suspended a b m) = ap waits_ack a
listed-answered (ringout a b) = ap waits_ack a

not-dropped : (l x : Of (Option Words)) → Noted (Note.dropped l) (Note.taken_up x ∷ []) → ⊥
not-dropped l x m = by (Memᴰ.cases_cons m)
  where
    by : (Note.dropped l ≡ Note.taken_up x) ⊎ Noted (Note.dropped l) [] → ⊥
    by (inl e) = let z : ◌≡◌ {A = ℕ} 0 1 = cc in omega (arith, z)
    by (inr n) = elim n [ ]

pub quiet_though_misplaced_lem : Wrong.QuietThoughMisplaced → ⊥
unfolding play passes all
quiet_though_misplaced_lem wrong =
    let w = at misplaced in
    let reach : Reached (Wrong.MeansApart 0) w = reached usual one_line true false (bytes-told one_line refl) (passes-told (Wrong.MeansApart 0) (means_apart 0) (means-apart-told 0) (start false) misplaced stop refl) in
    true≢false (listed-answered (wrong 0 w reach (record { undropped = λ told. not-dropped told.0 _ told.1.1; up = refl; down = refl })))

pub refuted : Wrong.Refuted
refuted =
    record {
      accepted_though_waiting = accepted_though_waiting_lem;
      keep_before_acknowledged = keep-before-acknowledged;
      connection_before_acknowledged = connection-before-acknowledged;
      quiet_though_dropped = quiet_though_dropped_lem;
      answer_unmarked = answer_unmarked_lem;
      kind_though_under_way = kind_though_under-way;
      kind_though_dropped = kind_though_dropped_lem;
      marks_agree = marks-agree;
      over_unguarded = over_unguarded_lem;
      over_by_refused_t2 = over-by-refused-t2;
      gone_before_taken_up = gone-before-taken-up;
      gone_though_under_way = gone_though_under-way;
      look_alters_nothing = look_alters_nothing_lem;
      report_marks_nothing = report-marks-nothing;
      drop_takes_nothing = drop-takes-nothing;
      accepted_though_mixed = accepted_though_mixed_lem;
      altered_though_mixed = altered_though_mixed_lem;
      altered_though_nameless = altered_though_nameless_lem;
      quiet_though_misplaced = quiet_though_misplaced_lem;
    }
