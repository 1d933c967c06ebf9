-- A message, an act and the guard's report at the line desk do what the reading says at the place of the about that they mean, and a request that is stored at a free place.
use Rattle.lists.specs.declared.words.Words.{Words}
use Rattle.std.specs.Prelude.{Option, Some, None}
use Prim.Native.Nat.{ℕ}
use mathlib.Core.Path.{◌≡◌, refl, sym, ap, ◌∙◌, subst}
use mathlib.Core.Bool.{Bool, true, false}
use mathlib.Core.List.{List, [], ◌∷◌, map}
use lib.ListN.{get_or}
use lib.Dec.{ltb}
use Rattle.lists.specs.Choice.{pick}
use Rattle.lists.specs.Lists.{first, count}
use Rattle.lists.proofs.Choice.{pick_elim}
use Rattle.lists.proofs.Lists.{both_true}
use Rattle.message.specs.Format.{request_body, has_elements}
use Rattle.message.specs.declared.Body.TheVariants.{CcCancel, RingoutError}
use Rattle.message.specs.declared.Kind.{Kind}
use Rattle.message.specs.declared.Kind.TheVariants.{Ccbs, Ccnr}
use Rattle.message.specs.declared.Carrier.TheVariants as Carrier
use Rattle.message.specs.declared.refusal.Refusal.TheVariants.{NotHere, NoRecord, NoRow, NotInCarrier}
use Rattle.message.specs.declared.refusal.Refusal.{Refusal}
use Rattle.desk.specs.Carriers.{carrier_fits}
use Rattle.desk.specs.declared.Connection.TheVariants as Connection
use Rattle.desk.specs.Letter.{message_of}
use Rattle.desk.specs.Sends.{plain_letter}
use Rattle.desk.specs.declared.letter.Letter.{Letter}
use Rattle.desk.specs.declared.sends.Elements.{Elements}
use Rattle.terms.specs.Terms.{elements_of}
use Rattle.terms.specs.Means.{fits, oldest}
use Rattle.terms.specs.Request.{letter_names}
use Rattle.terms.specs.declared.request.Names.{Names}
use Rattle.terms.specs.declared.means.Means.{Means}
use Rattle.terms.specs.declared.request.Name.{Name}
use Rattle.places.specs.Places as P
use Rattle.clerk.specs.Entry.{ask_flags}
use Rattle.line_table.specs.Inputs.{message_for, row_for, row_of_act, reply_missed}
use Rattle.line_table.specs.Line.{allows}
use Rattle.line_table.specs.Record.{refused_plan}
use Rattle.line_table.specs.Search.{used, of_line, passes}
use Rattle.line_table.specs.Step.{row_taken}
use Rattle.line_table.specs.declared.table.Row.{Row}
use Rattle.line_table.specs.declared.table.Row.TheVariants.{GuardRunsOut}
use Rattle.line_table.specs.declared.record.Record.{Record}
use Rattle.line_table.specs.declared.record.Decision.{Decision}
use Rattle.line_table.specs.declared.record.Decision.TheVariants.{Refuse, Deny, Take, Store, Report}
use Rattle.line_table.specs.declared.record.Change.TheVariants.{Stay}
use Rattle.desk.specs.declared.plan.Plan.{Plan}
use Rattle.line_table.specs.declared.inputs.Act.{Act}
use Rattle.line_table.specs.declared.inputs.Input.{Input}
use Rattle.line_table.specs.declared.inputs.RecordMessage.{RecordMessage}
use Rattle.line_table.specs.declared.inputs.RecordMessage.TheVariants as Message
use Rattle.line_table.specs.declared.inputs.Meant.TheVariants as Meant
use Rattle.line_table.specs.declared.search.Sought.TheVariants.{Duplicate}
use Rattle.line_records.specs.Records.{blank, records, meant, place}
use Rattle.line_records.specs.Meaning as Meaning
use Rattle.line_records.specs.Meaning.{is_for, meaning, named}
use Rattle.line_records.proofs.MeaningLaws.{named-uses}
use Rattle.line_records.specs.Lines.{no_line, lines, line_at}
use Rattle.line_plan.specs.Decide.{line_most, holds_for, takes_call, row_decision, record_meant, record_decision, store_found, counted_decision, duplicate_found, admitted_decision, line_found, request_decision, message_decision, own_meant, own_decision, decided}
use Rattle.line_plan.specs.Plan.{new_record, plan_of, plan_for}
use Rattle.line.specs.declared.Desk.{Desk}
use Rattle.line_sound.specs.Sound.{Reached}
use Rattle.pair_request.specs.Reading as R
use Rattle.pair_request.specs.Listed.{NotReq, NoReq}
use Rattle.pair.specs.World.{Of, line_change, sent_by}
use Rattle.pair.proofs.Ends.{line_sight, line_record, line_read, names_read, request_read, letter_read, set_of, message_read, line_act_read, policy_of, LineStep}
use Rattle.pair.proofs.Letters.{letter-name, letter-body, letter-carrier, set-names}
use Rattle.pair.proofs.Means.{or_else, place_means, meaning_in, own-fits, Meant, found, late, missed, no_longer}
use Rattle.pair.proofs.Sits.{view, there, Touches, not-one, the_one}
use Rattle.pair.proofs.Changes.{stays, stores, pick-ap}
use Rattle.pair.proofs.LineRows.{Answers, word_of, nothing-done, record_message, row_plan, record-found, record-missed, record-late, own_row, act-found, guard-found, request-stored, request-denied}
use Rattle.pair.proofs.LineChanges.{OwnChange, plan-step, own-row, touches_row, Acted, refuses, takes-row}
use Rattle.line_table.specs.declared.record.Change.{Change}

pub request-meant :
    (kind : Kind) (service flags : ℕ) →
    message_for (request_body kind service flags) ≡ Meant.Request (record { kind = kind; service = service; flags = flags })
request-meant Ccbs service flags = refl
request-meant Ccnr service flags = refl

pub request-carried : (kind : Kind) (service flags : ℕ) → carrier_fits (request_body kind service flags) Connection.Empty Carrier.Setup ≡ true
unfolding carrier_fits
request-carried Ccbs service flags = refl
request-carried Ccnr service flags = refl

-- the about that is found is the one that is read
pub found-read :
    (ws : List ℕ) (e : Elements) (b : Bool) (t : R.Terms) (own : R.Own) (s : R.LState) (i : ℕ) →
    P.one (get_or (records ws) i blank) ≡ line_read e b (R.holds t own s) → get_or (records ws) i blank ≡ line_record e b t own s
found-read ws e b t own s i h = the_one (get_or (records ws) i blank) (line_record e b t own s) h

-- whether a record is in a state that a message is for
abbrev pub ready_for : Elements → R.Msg → Record → Bool
ready_for e m r = is_for (letter_read e m).body r

abbrev heard : Elements → R.Msg → ℕ → Input
heard e m place = Input.Message (letter_read e m) place

-- the place that is named is no part of a plan, but for the about that it means
plan-place : (ws : List ℕ) (e : Elements) (m : R.Msg) (place : ℕ) (d : Decision) → plan_of ws (heard e m place) d ≡ plan_of ws (heard e m 0) d
unfolding plan_of
plan-place ws e m place (Refuse refusal reply) = refl
plan-place ws e m place (Deny error) = refl
plan-place ws e m place (Take i row) = refl
plan-place ws e m place (Store i q busy) = refl
plan-place ws e m place (Report k busy) = refl

module _ (ws : List ℕ) (e : Elements) (b : Bool) where
  abbrev rs : List Record
  rs = records ws

  -- what a decision on a message does at a place, with the desk's word on it
  abbrev Does : R.Msg → Option ℕ → R.Line → Decision → Type 0
  Does m f l decision =
      (w : R.Word) × (OwnChange rs f (plan_of ws (heard e m 0) decision).change × Answers (plan_of ws (heard e m 0) decision) e b l (R.line_takes (policy_of ws) l m w))

  -- ---- a message about a record
  module _ (message : RecordMessage) (n' : R.Conn) where
    abbrev code : R.Msg
    code = record_message message n'

    abbrev letter : Letter
    letter = letter_read e code

    abbrev row_at : Record → Row
    row_at r = row_for message (takes_call ws r.terms.numberB) r.terms.keep

    row-at :
        (i : ℕ) →
        plan_of ws (heard e code 0) (row_decision i (get_or rs i blank) letter message (row_at (get_or rs i blank)))
        ≡ row_plan i (get_or rs i blank) letter message (row_at (get_or rs i blank))
    unfolding plan_of
    row-at i =
        let r = get_or rs i blank in
        pick-ap (plan_of ws (heard e code 0)) (holds_for (row_at r) r) _ _
        ∙ ap (λ (plan : Plan Change). pick (holds_for (row_at r) r) plan (plan_of ws (heard e code 0) (Refuse NoRow (reply_missed message))))
        (pick-ap (plan_of ws (heard e code 0)) (carrier_fits letter.body r.terms.connection letter.carrier) _ _)

    own_at : (i : ℕ) → OwnChange rs (Some i) (row_plan i (get_or rs i blank) letter message (row_at (get_or rs i blank))).change
    own_at i =
        let r = get_or rs i blank in
        pick_elim (λ (plan : Plan Change). OwnChange rs (Some i) plan.change) (holds_for (row_at r) r)
        (λ h.
        pick_elim (λ (plan : Plan Change). OwnChange rs (Some i) plan.change) (carrier_fits letter.body r.terms.connection letter.carrier)
        (λ g. own-row rs i r (row_at r))
        (λ g. stays))
        (λ h. stays)

    found-heard : (i : ℕ) (l : R.Line) → P.one (get_or rs i blank) ≡ line_read e b l → Does code (Some i) l (record_meant ws letter message (Means.At i))
    found-heard i R.none h = not-one (sym h)
    found-heard i (R.holds t own s) h =
        let free = takes_call ws e.numberB in
        let answer = R.line_takes (policy_of ws) (R.holds t own s) code (word_of R.takes free) in (
          word_of R.takes free,
          subst (λ (plan : Plan Change). OwnChange rs (Some i) plan.change × Answers plan e b (R.holds t own s) answer) (sym (row-at i)) (
            own_at i,
            subst (λ (r : Record). Answers (row_plan i r letter message (row_at r)) e b (R.holds t own s) answer) (sym (found-read ws e b t own s i h))
                (record-found e b (policy_of ws) i message n' free t own s),
          ),
        )

    record-heard :
        (f : Option ℕ) (means : Means) (l : R.Line) → Meant line_sight rs (set_of e code) (ready_for e code) f means → there line_sight rs f ≡ line_read e b l →
        Does code f l (record_meant ws letter message means)
    unfolding plan_of
    record-heard f means l (found i) h = found-heard i l h
    record-heard f means R.none missed h = (word_of R.takes true, (stays, record-missed e b (policy_of ws) NoRecord message n' (word_of R.takes true)))
    record-heard f means (R.holds t own s) missed h = not-one h
    record-heard f means R.none (no_longer set) h = (word_of R.takes true, (stays, record-missed e b (policy_of ws) NoRow message n' (word_of R.takes true)))
    record-heard f means (R.holds t own s) (no_longer set) h = not-one h
    record-heard f means R.none (late i set ready) h = not-one (sym h)
    record-heard f means (R.holds t own s) (late i set ready) h =
        let its = ap (λ (r : Record). ready_for e code r) (sym (found-read ws e b t own s i h)) ∙ ready in
        (word_of R.takes true, (stays, record-late e b (policy_of ws) message n' true t own s set its))

  -- ---- a request, of which the desk holds nothing
  module _ (d : R.Data) (kind : Kind) (q : ℕ) where
    abbrev asked : R.Msg
    asked = R.request d kind q

    denied : (short : Bool) → Does asked None R.none (Deny (pick short 1 2))
    unfolding plan_of
    denied short = (word_of (R.denies short) true, (stays, request-denied ws e b short true d kind q R.none))

    store-heard : (busy : Bool) (free : Option ℕ) → place rs ≡ free → Does asked None R.none (store_found (request_read e d kind q) busy free)
    unfolding plan_of place
    store-heard busy None e' = denied true
    store-heard busy (Some i) e' =
        (word_of R.takes true, (stores i (new_record ws (names_read e) (request_read e d kind q) busy) e', request-stored ws i e b busy true d kind q))

    duplicate_heard : (busy : Bool) (x : Option ℕ) → Does asked None R.none (duplicate_found ws (names_read e) (request_read e d kind q) busy x)
    unfolding counted_decision
    duplicate_heard busy (Some i) = denied true
    duplicate_heard busy None =
        pick_elim (Does asked None R.none) (ltb (count (of_line e.numberB) rs) line_most) (λ t. store-heard busy (place rs) refl) (λ t. denied true)

    line-heard : (x : Option ℕ) → Does asked None R.none (line_found ws (names_read e) (request_read e d kind q) x)
    unfolding admitted_decision
    line-heard None = denied false
    line-heard (Some k) =
        let line = get_or (lines ws) k no_line in
        pick_elim (Does asked None R.none) (allows line kind)
        (λ t. duplicate_heard line.busy (first (passes (Duplicate (names_read e))) rs))
        (λ t. denied false)

    request-heard : (at : ℕ) → Does asked None R.none (message_decision ws (letter_read e asked) at)
    unfolding message_decision request_decision
    request-heard at =
        rw (request-meant kind e.service (ask_flags d.canKeep q), request-carried kind e.service (ask_flags d.canKeep q))
        (line-heard (line_at e.numberB (lines ws)))

  -- ---- every other message, at the place of the request's record, by what it means
  module _ (at : ℕ) (f : Option ℕ) (l : R.Line) (h : there line_sight rs f ≡ line_read e b l) where
    -- a message that goes to the clerk
    not-here : (w : R.Word) × (OwnChange rs f (refused_plan NotHere None).change × Answers (refused_plan NotHere None) e b l (l, []))
    not-here = (word_of R.takes true, (stays, nothing-done NotHere e b l))

    abbrev Its-means : R.Msg → Type 0
    Its-means m = Meant line_sight rs (set_of e m) (ready_for e m) f (meaning (letter_read e m) at rs)

    message-heard : (m : R.Msg) → NotReq m → Its-means m → Does m f l (message_decision ws (letter_read e m) at)
    unfolding message_decision record_decision plan_of R.line_takes
    message-heard (R.request d kind q) never means = absurd never
    message-heard (R.result k n) plain means = not-here
    message-heard (R.denied short) plain means = not-here
    message-heard (R.exec R.ret) plain means = not-here
    message-heard (R.exec R.rls) plain means = not-here
    message-heard R.ringout plain means = record-heard Message.Ringout R.ret f _ l means h
    message-heard R.busy_again plain means = not-here
    message-heard R.no_match plain means = not-here
    message-heard (R.suspend n) plain means = record-heard Message.Suspend n f _ l means h
    message-heard (R.resume R.ret) plain means = record-heard Message.Resume R.ret f _ l means h
    message-heard (R.resume R.rls) plain means = record-heard Message.Resume R.rls f _ l means h
    message-heard (R.cancel R.ret) plain means = record-heard Message.Cancel R.ret f _ l means h
    message-heard (R.cancel R.rls) plain means = record-heard Message.Cancel R.rls f _ l means h
    message-heard R.alerts plain means = not-here
    message-heard R.failed plain means = not-here

-- ---- any message but a request, whosever it is: refused, with a reply of its own or none; or taken for the about that it means, as if it were of that one
pub data Heard (ws : List ℕ) (e : Elements) (m : R.Msg) (means : Means) (plan : Plan Change) : Type 0 where
  replies : (ms : List R.Msg) → plan.change ≡ Stay → sent_by plan.outcome.sending ≡ map (message_read e) ms → NoReq ms → Heard ws e m means plan
  turns-row :
      (i : ℕ) → means ≡ Means.At i → Touches i (line_change plan.change) → OwnChange (records ws) (Some i) plan.change →
      ((y : Elements) (l : R.Line) (b : Bool) → P.one (get_or (records ws) i blank) ≡ line_read y b l → (w : R.Word) × Answers plan y b l (R.line_takes (policy_of ws) l m w)) → Heard ws e m means plan

module _ (ws : List ℕ) (e : Elements) (message : RecordMessage) (n : R.Conn) where
  abbrev about : R.Msg
  about = record_message message n

  record-plain : NotReq about
  record-plain = by message
    where
      by : (x : RecordMessage) → NotReq (record_message x n)
      by Message.Suspend = tt
      by Message.Resume = tt
      by Message.Ringout = tt
      by Message.Cancel = tt

  missed-replies : (means : Means) (refusal : Refusal) (x : RecordMessage) → Heard ws e about means (plan_of ws (heard e about 0) (Refuse refusal (reply_missed x)))
  unfolding plan_of
  missed-replies means refusal Message.Suspend = replies [] refl refl tt
  missed-replies means refusal Message.Resume =
      replies (R.cancel R.ret ∷ []) refl (ap (λ (x : Option Words). message_of (plain_letter x Carrier.ReleaseComplete CcCancel) ∷ []) (letter-name e about)) (tt, tt)
  missed-replies means refusal Message.Ringout =
      replies (R.no_match ∷ []) refl (ap (λ (x : Option Words). message_of (plain_letter x Carrier.ReleaseComplete (RingoutError 2)) ∷ []) (letter-name e about)) (tt, tt)
  missed-replies means refusal Message.Cancel = replies [] refl refl tt

  silent-replies : (means : Means) (refusal : Refusal) → Heard ws e about means (plan_of ws (heard e about 0) (Refuse refusal None))
  unfolding plan_of
  silent-replies means refusal = replies [] refl refl tt

  record-any : (means : Means) → Heard ws e about means (plan_of ws (heard e about 0) (record_meant ws (letter_read e about) message means))
  unfolding plan_of
  record-any Means.Nothing = missed-replies Means.Nothing NoRecord message
  record-any Means.NotNow = missed-replies Means.NotNow NoRow message
  record-any (Means.At i) = by
      (λ y l b read.
      let so = found-heard ws y b message n i l read in
      (so.0, subst (λ (d : Decision). Answers (plan_of ws (heard y about 0) d) y b l (R.line_takes (policy_of ws) l about so.0)) (same y) so.1.1))
    where
      same : (y : Elements) → record_meant ws (letter_read y about) message (Means.At i) ≡ record_meant ws (letter_read e about) message (Means.At i)
      same y = rw (letter-body y e about record-plain, letter-carrier y e about)

      by :
          ((y : Elements) (l : R.Line) (b : Bool) → P.one (get_or (records ws) i blank) ≡ line_read y b l →
          (w : R.Word) × Answers (plan_of ws (heard y about 0) (record_meant ws (letter_read e about) message (Means.At i))) y b l (R.line_takes (policy_of ws) l about w)) →
          Heard ws e about (Means.At i) (plan_of ws (heard e about 0) (record_meant ws (letter_read e about) message (Means.At i)))
      by =
          let row = row_for message (takes_call ws (get_or (records ws) i blank).terms.numberB) (get_or (records ws) i blank).terms.keep in
          pick_elim
          (λ (d : Decision).
          ((y : Elements) (l : R.Line) (b : Bool) → P.one (get_or (records ws) i blank) ≡ line_read y b l →
          (w : R.Word) × Answers (plan_of ws (heard y about 0) d) y b l (R.line_takes (policy_of ws) l about w)) → Heard ws e about (Means.At i) (plan_of ws (heard e about 0) d))
          (holds_for row (get_or (records ws) i blank))
          (λ h.
          pick_elim
          (λ (d : Decision).
          ((y : Elements) (l : R.Line) (b : Bool) → P.one (get_or (records ws) i blank) ≡ line_read y b l →
          (w : R.Word) × Answers (plan_of ws (heard y about 0) d) y b l (R.line_takes (policy_of ws) l about w)) → Heard ws e about (Means.At i) (plan_of ws (heard e about 0) d))
          (carrier_fits (letter_read e about).body (get_or (records ws) i blank).terms.connection (letter_read e about).carrier)
          (λ g says. turns-row i refl (touches_row i (get_or (records ws) i blank) row) (own-row (records ws) i (get_or (records ws) i blank) row) says)
          (λ g says. silent-replies (Means.At i) NotInCarrier))
          (λ h says. missed-replies (Means.At i) NoRow message)

module _ (ws : List ℕ) (e : Elements) (at : ℕ) where
  abbrev AnyHeard : R.Msg → Type 0
  AnyHeard m = Heard ws e m (meaning (letter_read e m) at (records ws)) (plan_of ws (heard e m 0) (message_decision ws (letter_read e m) at))

  away : (m : R.Msg) → Heard ws e m (meaning (letter_read e m) at (records ws)) (refused_plan NotHere None)
  away m = replies [] refl refl tt

  any-heard : (m : R.Msg) → NotReq m → AnyHeard m
  unfolding message_decision record_decision plan_of
  any-heard (R.request d kind q) never = absurd never
  any-heard (R.result k n) plain = away (R.result k n)
  any-heard (R.denied short) plain = away (R.denied short)
  any-heard (R.exec R.ret) plain = away (R.exec R.ret)
  any-heard (R.exec R.rls) plain = away (R.exec R.rls)
  any-heard R.ringout plain = record-any ws e Message.Ringout R.ret _
  any-heard R.busy_again plain = away R.busy_again
  any-heard R.no_match plain = away R.no_match
  any-heard (R.suspend n) plain = record-any ws e Message.Suspend n _
  any-heard (R.resume R.ret) plain = record-any ws e Message.Resume R.ret _
  any-heard (R.resume R.rls) plain = record-any ws e Message.Resume R.rls _
  any-heard (R.cancel R.ret) plain = record-any ws e Message.Cancel R.ret _
  any-heard (R.cancel R.rls) plain = record-any ws e Message.Cancel R.rls _
  any-heard R.alerts plain = away R.alerts
  any-heard R.failed plain = away R.failed

-- ---- acts and the guard
module _ (ws : List ℕ) (input : Input) (row : Row) (x : R.LAct) where
  acted-found :
      ((i : ℕ) (j : Elements) (b : Bool) (t : R.Terms) (own : R.Own) (s : R.LState) →
      Answers (own_row i row (line_record j b t own s)) j b (R.holds t own s) (R.line_acts (R.holds t own s) x)) →
      (means : Means) → ((i : ℕ) → means ≡ Means.At i → used (get_or (records ws) i blank) ≡ true) → Acted (records ws) x (plan_of ws input (own_meant ws row means))
  unfolding plan_of
  acted-found ways Means.Nothing u = refuses refl refl refl
  acted-found ways Means.NotNow u = refuses refl refl refl
  acted-found ways (Means.At i) u =
      let r = get_or (records ws) i blank in
      pick_elim (λ (d : Decision). Acted (records ws) x (plan_of ws input d)) (holds_for row r)
      (λ h. takes-row i (u i refl) (touches_row i r row) (own-row (records ws) i r row) (by h))
      (λ h. refuses refl refl refl)
    where
      by :
          holds_for row (get_or (records ws) i blank) ≡ true → (j : Elements) (l : R.Line) (b : Bool) → P.one (get_or (records ws) i blank) ≡ line_read j b l →
          Answers (row_taken i (get_or (records ws) i blank) row) j b l (R.line_acts l x)
      by h j R.none b read = not-one (sym read)
      by h j (R.holds t own s) b read =
          let r = get_or (records ws) i blank in
          subst (λ (so : Bool). Answers (pick so (row_taken i r row) (refused_plan NoRow None)) j b (R.holds t own s) (R.line_acts (R.holds t own s) x)) h
          (subst (λ (y : Record). Answers (own_row i row y) j b (R.holds t own s) (R.line_acts (R.holds t own s) x)) (sym (found-read ws j b t own s i read)) (ways i j b t own s))

-- ---- which record is meant, as it is said for both desks
meaning-or : (f : Option ℕ) (otherwise : Means) → Meaning.or_else f otherwise ≡ or_else f otherwise
meaning-or (Some i) otherwise = refl
meaning-or None otherwise = refl

meaning-by :
    (identifier : Option Words) (set : Bool) (elements : Means) (place : ℕ) (rs : List Record) →
    Meaning.or_else (Meaning.identifier_means identifier rs) (pick set elements (Meaning.place_means identifier place rs))
    ≡ or_else (P.known_in (view line_sight) identifier rs) (pick set elements (place_means line_sight identifier place rs))
unfolding meant
meaning-by None set elements place rs = refl
meaning-by (Some identifier) set elements place rs = meaning-or (meant identifier rs) (pick set elements Means.Nothing)

pub line-meaning :
    (l : Letter) (place : ℕ) (rs : List Record) →
    meaning l place rs ≡ meaning_in line_sight l.identifier (has_elements l.body l.carrier) (Meaning.fitting (letter_names l)) (is_for l.body) place rs
unfolding meaning Meaning.elements_mean
line-meaning l place rs = meaning-by l.identifier (has_elements l.body l.carrier) (oldest (Meaning.fitting (letter_names l)) (is_for l.body) rs) place rs

-- a record with its elements fits a message that has them
pub line-fitting :
    (e : Elements) (m : R.Msg) → set_of e m ≡ true → e.identifier ≡ None → (r : Record) → used r ≡ true → elements_of r.terms ≡ e →
    Meaning.fitting (letter_names (letter_read e m)) r ≡ true
line-fitting e m set absent r u same = both_true u ∙ ap (λ (names : Names). fits names r.terms) (set-names e m set) ∙ own-fits e absent r.terms same

-- ---- the desk's steps
module _ (d : Desk) (reached : Reached d) (count : ℕ) where
  -- what a decision on a message does is a step
  does_step :
      (given : Of Elements) (j : Elements) (m : R.Msg) (at : ℕ) (f : Option ℕ) (l : R.Line) (b : Bool) → given.it ≡ j → there line_sight (records d.words) f ≡ line_read j b l →
      Does d.words j b m f l (message_decision d.words (letter_read j m) at) →
      (w : R.Word) × LineStep d count given f (plan_for d.words (heard j m at)) j (R.line_takes (policy_of d.words) l m w)
  unfolding plan_for decided
  does_step given j m at f l b came h does = (
    does.0,
    subst (λ (plan : Plan Change). LineStep d count given f plan j (R.line_takes (policy_of d.words) l m does.0)) (sym (plan-place d.words j m at (message_decision d.words (letter_read j m) at)))
        (plan-step d reached count given f j (plan_of d.words (heard j m 0) (message_decision d.words (letter_read j m) at)) (R.line_takes (policy_of d.words) l m does.0) l b does.1.0 h does.1.1
        (λ i q. came)),
  )

  -- a message of a request, by what it means
  pub line-hears :
      (given : Of Elements) (j : Elements) (m : R.Msg) (at : ℕ) (f : Option ℕ) (l : R.Line) (b : Bool) → given.it ≡ j → NotReq m →
      Meant line_sight (records d.words) (set_of j m) (ready_for j m) f (meaning (letter_read j m) at (records d.words)) → there line_sight (records d.words) f ≡ line_read j b l →
      (w : R.Word) × LineStep d count given f (plan_for d.words (heard j m at)) j (R.line_takes (policy_of d.words) l m w)
  line-hears given j m at f l b came plain means h = does_step given j m at f l b came h (message-heard d.words j b at f l h m plain means)

  -- its request, of which nothing is held
  pub line-asked :
      (given : Of Elements) (j : Elements) (x : R.Data) (kind : Kind) (q at : ℕ) → given.it ≡ j →
      (w : R.Word) × LineStep d count given None (plan_for d.words (heard j (R.request x kind q) at)) j (R.line_takes (policy_of d.words) R.none (R.request x kind q) w)
  line-asked given j x kind q at came = does_step given j (R.request x kind q) at None R.none true came refl (request-heard d.words j true x kind q at)

  -- any message but a request
  pub line-heard-any : (j : Elements) (m : R.Msg) (at : ℕ) → NotReq m → Heard d.words j m (meaning (letter_read j m) at (records d.words)) (plan_for d.words (heard j m at))
  unfolding plan_for decided
  line-heard-any j m at plain =
      subst (Heard d.words j m (meaning (letter_read j m) at (records d.words))) (sym (plan-place d.words j m at (message_decision d.words (letter_read j m) at))) (any-heard d.words j at m plain)

  pub line-acts : (name : Name) (act : Act) → Acted (records d.words) (line_act_read act) (plan_for d.words (Input.Act name act))
  unfolding plan_for decided own_decision
  line-acts name act =
      acted-found d.words (Input.Act name act) (row_of_act act) (line_act_read act) (λ i y b. act-found i y b act) (named name (records d.words)) (named-uses name (records d.words))

  pub line-guards : (name : Name) → Acted (records d.words) R.guard (plan_for d.words (Input.Guard name))
  unfolding plan_for decided own_decision
  line-guards name =
      acted-found d.words (Input.Guard name) GuardRunsOut R.guard (λ i y b. guard-found i y b) (named name (records d.words)) (named-uses name (records d.words))
