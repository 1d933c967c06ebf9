-- What each decision about a record of the line desk plans, against the reading of that record: one clause for each state and choice that the table looks at.
use Rattle.std.specs.Prelude.{None}
use Prim.Native.Nat.{ℕ, ◌+◌, ◌*◌, ◌/◌, ◌%◌}
use mathlib.Core.Path.{◌≡◌, refl, sym, ap, ◌∙◌, subst}
use mathlib.Core.Bool.{Bool, true, false}
use mathlib.Core.List.{List, [], ◌∷◌, map}
use lib.Dec.{eqb}
use native.Mathlib.Omega.{arith}
use Rattle.lists.specs.Choice.{pick}
use Rattle.lists.proofs.Choice.{no_true}
use Rattle.message.specs.declared.Kind.{Kind}
use Rattle.message.specs.Format.{has_elements}
use Rattle.message.specs.declared.refusal.Refusal.TheVariants.{NoRecord, NoRow, NotInCarrier}
use Rattle.message.specs.declared.refusal.Refusal.{Refusal}
use Rattle.desk.specs.Carriers.{carrier_fits}
use Rattle.desk.specs.Sends.{answered}
use Rattle.desk.specs.declared.Connection.TheVariants as Connection
use Rattle.desk.specs.declared.Keep.TheVariants as Keep
use Rattle.desk.specs.declared.letter.Letter.{Letter}
use Rattle.desk.specs.declared.sends.Elements.{Elements}
use Rattle.terms.specs.Request.{can_keep_sent}
use Rattle.places.specs.Places as P
use Rattle.clerk.specs.Entry.{ask_flags}
use Rattle.line_table.specs.Inputs.{row_for, row_of_act, reply_missed, keep_chosen, connection_chosen}
use Rattle.line_table.specs.Record.{turned, refused_plan}
use Rattle.line_table.specs.Search.{invoked}
use Rattle.line_table.specs.Step.{row_taken}
use Rattle.line_table.specs.declared.table.Row.{Row}
use Rattle.line_table.specs.declared.table.Row.TheVariants.{Offers, GuardRunsOut}
use Rattle.line_table.specs.declared.record.Record.{Record}
use Rattle.line_table.specs.declared.record.Change.{Change}
use Rattle.line_table.specs.declared.record.Change.TheVariants.{Stay, Put, Turn, Remove, Report}
use Rattle.desk.specs.declared.plan.Plan.{Plan}
use Rattle.line_table.specs.declared.inputs.Act.{Act}
use Rattle.line_table.specs.declared.inputs.RecordMessage.{RecordMessage}
use Rattle.line_table.specs.declared.inputs.RecordMessage.TheVariants as Message
use Rattle.line_records.specs.Lines.{keeps, retains}
use Rattle.line_records.specs.Meaning.{is_for}
use Rattle.line_plan.specs.Decide.{holds_for}
use Rattle.line_plan.specs.Plan.{new_record, stored_plan, denied_plan}
use Rattle.pair_request.specs.Reading as R
use Rattle.pair.specs.World.{sent_by}
use Rattle.pair.proofs.Ends.{keep_read, conn_read, line_record, line_read, line_state_read, names_read, request_read, letter_read, message_read, line_act_read, policy_of}

-- ---- what a plan says of the one request that it is about
-- what a change leaves of the record that it is about
abbrev pub leaves : Change → P.Held Record → P.Held Record
leaves Stay before = before
leaves (Put i r) before = P.one r
leaves (Turn t i) P.none = P.none
leaves (Turn t i) (P.one r) = P.one (turned t r)
leaves (Remove i) before = P.none
leaves (Report k number busy) before = before

-- a plan does to what is read as l what the answer says, and sends what it says
pub data Answers (plan : Plan Change) (identifier : Elements) (active : Bool) (l : R.Line) (answer : R.LAnswer) : Type 0 where
  answers :
      (after : Bool) → leaves plan.change (line_read identifier active l) ≡ line_read identifier after answer.0 →
      sent_by plan.outcome.sending ≡ map (message_read identifier) answer.1 → Answers plan identifier active l answer

-- the desk's word on a message
abbrev pub word_of : R.Verdict → Bool → R.Word
word_of verdict free = record { verdict = verdict; free = free }

-- ---- a message without a row at the line's end
pub nothing-done : (refusal : Refusal) (identifier : Elements) (b : Bool) (l : R.Line) → Answers (refused_plan refusal None) identifier b l (l, [])
nothing-done refusal identifier b l = answers b refl refl

-- ---- messages about a record
-- as they are read, with the connection choice of the clerk that sent them
abbrev pub record_message : RecordMessage → R.Conn → R.Msg
record_message Message.Suspend n = R.suspend n
record_message Message.Resume n = R.resume n
record_message Message.Ringout n = R.ringout
record_message Message.Cancel n = R.cancel n

-- a plan by the record that it is about
abbrev pub row_plan : ℕ → Record → Letter → RecordMessage → Row → Plan Change
row_plan i r l message row =
    pick (holds_for row r)
    (pick (carrier_fits l.body r.terms.connection l.carrier) (row_taken i r row) (refused_plan NotInCarrier None))
    (refused_plan NoRow (answered l.identifier (reply_missed message)))

module _ (identifier : Elements) (b : Bool) (p : R.Policy) where
  pub record-found :
      (i : ℕ) (message : RecordMessage) (n' : R.Conn) (free : Bool) (t : R.Terms) (own : R.Own) (s : R.LState) →
      Answers (row_plan i (line_record identifier b t own s) (letter_read identifier (record_message message n')) message (row_for message free (keep_read (R.keep t))))
      identifier b (R.holds t own s) (R.line_takes p (R.holds t own s) (record_message message n') (word_of R.takes free))
  unfolding carrier_fits row_taken R.line_takes R.on_ringout R.on_suspend R.on_resume
  record-found i Message.Ringout n' true t own R.idle = answers b refl refl
  record-found i Message.Ringout n' true t own (R.await m) = answers b refl refl
  record-found i Message.Ringout n' true t own R.alert = answers b refl refl
  record-found i Message.Ringout n' false (R.chosen d true n) own R.idle = answers b refl refl
  record-found i Message.Ringout n' false (R.chosen d true n) (R.has kind down) (R.await m) = answers true refl refl
  record-found i Message.Ringout n' false (R.chosen d true n) own R.alert = answers b refl refl
  record-found i Message.Ringout n' false (R.chosen d false n) own R.idle = answers b refl refl
  record-found i Message.Ringout n' false (R.chosen d false n) own (R.await m) = answers b refl refl
  record-found i Message.Ringout n' false (R.chosen d false n) own R.alert = answers b refl refl
  record-found i Message.Suspend n' free t own R.idle = answers b refl refl
  record-found i Message.Suspend R.ret free (R.chosen d k R.ret) own (R.await m) = answers b refl refl
  record-found i Message.Suspend R.ret free (R.chosen d k R.rls) own (R.await m) = answers b refl refl
  record-found i Message.Suspend R.rls free (R.chosen d k R.ret) own (R.await m) = answers b refl refl
  record-found i Message.Suspend R.rls free (R.chosen d k R.rls) own (R.await m) = answers b refl refl
  record-found i Message.Suspend n' free t own R.alert = answers b refl refl
  record-found i Message.Resume R.ret free t own R.idle = answers b refl refl
  record-found i Message.Resume R.rls free t own R.idle = answers b refl refl
  record-found i Message.Resume R.ret free (R.chosen d k R.ret) own (R.await m) = answers b refl refl
  record-found i Message.Resume R.ret free (R.chosen d k R.rls) own (R.await m) = answers b refl refl
  record-found i Message.Resume R.rls free (R.chosen d k R.ret) own (R.await m) = answers b refl refl
  record-found i Message.Resume R.rls free (R.chosen d k R.rls) own (R.await m) = answers b refl refl
  record-found i Message.Resume R.ret free t own R.alert = answers b refl refl
  record-found i Message.Resume R.rls free t own R.alert = answers b refl refl
  record-found i Message.Cancel R.ret free t own R.idle = answers b refl refl
  record-found i Message.Cancel R.ret free t own (R.await m) = answers b refl refl
  record-found i Message.Cancel R.ret free t own R.alert = answers b refl refl
  record-found i Message.Cancel R.rls free t own R.idle = answers b refl refl
  record-found i Message.Cancel R.rls free t own (R.await m) = answers b refl refl
  record-found i Message.Cancel R.rls free t own R.alert = answers b refl refl

  -- no record
  pub record-missed :
      (refusal : Refusal) (message : RecordMessage) (n' : R.Conn) (w : R.Word) →
      Answers (refused_plan refusal (answered (letter_read identifier (record_message message n')).identifier (reply_missed message))) identifier b R.none
      (R.line_takes p R.none (record_message message n') w)
  unfolding R.line_takes
  record-missed refusal Message.Suspend n' w = answers b refl refl
  record-missed refusal Message.Resume R.ret w = answers b refl refl
  record-missed refusal Message.Resume R.rls w = answers b refl refl
  record-missed refusal Message.Ringout n' w = answers b refl refl
  record-missed refusal Message.Cancel n' w = answers b refl refl

  -- a record that fits, in no state that the message is for
  pub record-late :
      (message : RecordMessage) (n' : R.Conn) (free : Bool) (t : R.Terms) (own : R.Own) (s : R.LState) →
      has_elements (letter_read identifier (record_message message n')).body (letter_read identifier (record_message message n')).carrier ≡ true →
      is_for (letter_read identifier (record_message message n')).body (line_record identifier b t own s) ≡ false →
      Answers (refused_plan NoRow (answered (letter_read identifier (record_message message n')).identifier (reply_missed message))) identifier b (R.holds t own s)
      (R.line_takes p (R.holds t own s) (record_message message n') (word_of R.takes free))
  unfolding R.line_takes R.on_ringout R.on_resume
  record-late Message.Suspend n' free t own s set ready = absurd (no_true set)
  record-late Message.Resume R.ret free t own s set ready = absurd (no_true set)
  record-late Message.Resume R.rls free t own R.idle set ready = answers b refl refl
  record-late Message.Resume R.rls free t own (R.await m) set ready = absurd (no_true (sym ready))
  record-late Message.Resume R.rls free t own R.alert set ready = answers b refl refl
  record-late Message.Ringout n' free t own R.idle set ready = answers b refl refl
  record-late Message.Ringout n' free t own (R.await m) set ready = absurd (no_true (sym ready))
  record-late Message.Ringout n' free t own R.alert set ready = answers b refl refl
  record-late Message.Cancel R.ret free t own s set ready = absurd (no_true set)
  record-late Message.Cancel R.rls free t own s set ready = absurd (no_true (sym ready))

-- ---- acts, the guard, an offer
-- a row of the desk's own
abbrev pub own_row : ℕ → Row → Record → Plan Change
own_row i row r = pick (holds_for row r) (row_taken i r row) (refused_plan NoRow None)

pub own-missed : (identifier : Elements) (b : Bool) (x : R.LAct) → Answers (refused_plan NoRecord None) identifier b R.none (R.line_acts R.none x)
unfolding R.line_acts
own-missed identifier b x = answers b refl refl

module _ (i : ℕ) (identifier : Elements) (b : Bool) where
  pub act-found :
      (act : Act) (t : R.Terms) (own : R.Own) (s : R.LState) →
      Answers (own_row i (row_of_act act) (line_record identifier b t own s)) identifier b (R.holds t own s) (R.line_acts (R.holds t own s) (line_act_read act))
  unfolding row_taken R.line_acts
  act-found Act.Alerted t own R.idle = answers b refl refl
  act-found Act.Alerted t own (R.await m) = answers b refl refl
  act-found Act.Alerted t own R.alert = answers b refl refl
  act-found Act.CallFailed t own R.idle = answers b refl refl
  act-found Act.CallFailed t own (R.await m) = answers b refl refl
  act-found Act.CallFailed t own R.alert = answers b refl refl
  act-found Act.Cancel (R.chosen d k R.ret) (R.has kind true) R.idle = answers b refl refl
  act-found Act.Cancel (R.chosen d k R.ret) (R.has kind false) R.idle = answers b refl refl
  act-found Act.Cancel (R.chosen d k R.ret) (R.has kind true) (R.await m) = answers b refl refl
  act-found Act.Cancel (R.chosen d k R.ret) (R.has kind false) (R.await m) = answers b refl refl
  act-found Act.Cancel (R.chosen d k R.ret) (R.has kind true) R.alert = answers b refl refl
  act-found Act.Cancel (R.chosen d k R.ret) (R.has kind false) R.alert = answers b refl refl
  act-found Act.Cancel (R.chosen d k R.rls) own R.idle = answers b refl refl
  act-found Act.Cancel (R.chosen d k R.rls) own (R.await m) = answers b refl refl
  act-found Act.Cancel (R.chosen d k R.rls) own R.alert = answers b refl refl
  act-found Act.Fell (R.chosen d k R.ret) (R.has kind down) R.idle = answers b refl refl
  act-found Act.Fell (R.chosen d k R.rls) own R.idle = answers b refl refl
  act-found Act.Fell (R.chosen d k R.ret) (R.has kind down) (R.await m) = answers b refl refl
  act-found Act.Fell (R.chosen d k R.rls) own (R.await m) = answers b refl refl
  act-found Act.Fell (R.chosen d k R.ret) (R.has kind down) R.alert = answers b refl refl
  act-found Act.Fell (R.chosen d k R.rls) own R.alert = answers b refl refl

  pub guard-found :
      (t : R.Terms) (own : R.Own) (s : R.LState) →
      Answers (own_row i GuardRunsOut (line_record identifier b t own s)) identifier b (R.holds t own s) (R.line_acts (R.holds t own s) R.guard)
  unfolding row_taken R.line_acts
  guard-found (R.chosen d k R.ret) (R.has kind true) R.idle = answers b refl refl
  guard-found (R.chosen d k R.ret) (R.has kind false) R.idle = answers b refl refl
  guard-found (R.chosen d k R.ret) (R.has kind true) (R.await m) = answers b refl refl
  guard-found (R.chosen d k R.ret) (R.has kind false) (R.await m) = answers b refl refl
  guard-found (R.chosen d k R.ret) (R.has kind true) R.alert = answers b refl refl
  guard-found (R.chosen d k R.ret) (R.has kind false) R.alert = answers b refl refl
  guard-found (R.chosen d k R.rls) own R.idle = answers b refl refl
  guard-found (R.chosen d k R.rls) own (R.await m) = answers b refl refl
  guard-found (R.chosen d k R.rls) own R.alert = answers b refl refl

  -- a record that fits is Invoked
  pub offer_found_lem :
      (t : R.Terms) (own : R.Own) (s : R.LState) → invoked (line_state_read s) ≡ true →
      Answers (row_taken i (line_record identifier b t own s) Offers) identifier b (R.holds t own s) (R.line_acts (R.holds t own s) R.offers)
  unfolding row_taken R.line_acts
  offer_found_lem (R.chosen d k R.ret) (R.has kind true) R.idle e = answers b refl refl
  offer_found_lem (R.chosen d k R.ret) (R.has kind false) R.idle e = answers b refl refl
  offer_found_lem (R.chosen d k R.rls) own R.idle e = answers b refl refl
  offer_found_lem t own (R.await m) e = absurd (no_true e)
  offer_found_lem t own R.alert e = absurd (no_true e)

-- ---- a request: flags are can-keep plus twice the preference
can-keep-sent : (ck : Bool) (q : ℕ) → can_keep_sent (ask_flags ck q) ≡ ck
can-keep-sent true q =
    let e : (1 + 2 * q) % 2 ≡ 1 = omega arith in
    rw e
can-keep-sent false q =
    let e : 2 * q % 2 ≡ 0 = omega arith in
    rw e

preference-sent : (ck : Bool) (q : ℕ) → ask_flags ck q / 2 ≡ q
preference-sent true q = omega arith
preference-sent false q = omega arith

keep-chosen : (ck keeps : Bool) → pick ck (pick keeps Keep.Keeps Keep.Ends) Keep.Ends ≡ keep_read (R.and ck keeps)
keep-chosen true true = refl
keep-chosen true false = refl
keep-chosen false keeps = refl

connection-chosen :
    (a b c : Bool) →
    pick a Connection.Ret (pick b Connection.Rls (pick c Connection.Ret Connection.Rls))
    ≡ conn_read (pick a R.ret (pick b R.rls (pick c R.ret R.rls)))
connection-chosen true b c = refl
connection-chosen false true c = refl
connection-chosen false false true = refl
connection-chosen false false false = refl

keep-read : (ck : Bool) (q : ℕ) (keeps : Bool) → keep_chosen (ask_flags ck q) keeps ≡ keep_read (R.and ck keeps)
keep-read ck q keeps = ap (λ (t : Bool). pick t (pick keeps Keep.Keeps Keep.Ends) Keep.Ends) (can-keep-sent ck q) ∙ keep-chosen ck keeps

connection-read : (ck : Bool) (q : ℕ) (ws : List ℕ) → connection_chosen (ask_flags ck q) (retains ws) ≡ conn_read (R.conn_of (policy_of ws) q)
connection-read ck q ws =
    ap (λ (x : ℕ). pick (eqb x 1) Connection.Ret (pick (eqb x 2) Connection.Rls (pick (retains ws) Connection.Ret Connection.Rls))) (preference-sent ck q)
    ∙ connection-chosen (eqb q 1) (eqb q 2) (retains ws)

new-read :
    (ws : List ℕ) (identifier : Elements) (busy : Bool) (d : R.Data) (kind : Kind) (q : ℕ) →
    new_record ws (names_read identifier) (request_read identifier d kind q) busy
    ≡ line_record identifier busy (R.terms_of (policy_of ws) d q) (R.has kind false) R.idle
new-read ws identifier busy d kind q = rw (keep-read d.canKeep q (keeps ws), connection-read d.canKeep q ws)

stored-read :
    (i : ℕ) (identifier : Elements) (b busy : Bool) (t : R.Terms) (kind : Kind) →
    Answers (stored_plan i (line_record identifier busy t (R.has kind false) R.idle)) identifier b R.none (R.holds t (R.has kind false) R.idle, R.result_of t ∷ [])
stored-read i identifier b busy (R.chosen d true R.ret) kind = answers busy refl refl
stored-read i identifier b busy (R.chosen d true R.rls) kind = answers busy refl refl
stored-read i identifier b busy (R.chosen d false R.ret) kind = answers busy refl refl
stored-read i identifier b busy (R.chosen d false R.rls) kind = answers busy refl refl

pub request-stored :
    (ws : List ℕ) (i : ℕ) (identifier : Elements) (b busy free : Bool) (d : R.Data) (kind : Kind) (q : ℕ) →
    Answers (stored_plan i (new_record ws (names_read identifier) (request_read identifier d kind q) busy)) identifier b R.none
    (R.line_takes (policy_of ws) R.none (R.request d kind q) (word_of R.takes free))
unfolding R.line_takes R.on_request
request-stored ws i identifier b busy free d kind q =
    subst
    (λ (r : Record). Answers (stored_plan i r) identifier b R.none (R.line_takes (policy_of ws) R.none (R.request d kind q) (word_of R.takes free)))
    (sym (new-read ws identifier busy d kind q))
    (stored-read i identifier b busy (R.terms_of (policy_of ws) d q) kind)

pub request-denied :
    (ws : List ℕ) (identifier : Elements) (b short free : Bool) (d : R.Data) (kind : Kind) (q : ℕ) (l : R.Line) →
    Answers (denied_plan identifier.identifier (pick short 1 2)) identifier b l (R.line_takes (policy_of ws) l (R.request d kind q) (word_of (R.denies short) free))
unfolding R.line_takes R.on_request
request-denied ws identifier b short free d kind q l = answers b refl refl
