-- What is decided is good for the desk: a row is taken for the record that is meant, or that fits a Look; a request is stored at the first free place, under a new identifier or none, if its line has fewer than 5. And a good decision's plan is about one record, or a report: no row changes the terms or leads to Free, and only Await is suspended.
use Rattle.message.specs.declared.Body.{Body}
use Rattle.std.specs.Prelude.{Option, Some, None}
use Prim.Native.Nat.{ℕ, ◌<◌}
use mathlib.Core.Path.{◌≡◌, refl, sym, ap, ◌∙◌}
use mathlib.Core.Bool.{Bool, true}
use mathlib.Core.List.{List}
use lib.ListN.{get_or}
use lib.Dec.{ltb}
use native.Mathlib.Omega.{arith}
use borrow.Author.Tests.{ltb-true}
use Rattle.lists.specs.Lists.{both, first, count}
use Rattle.lists.specs.Words.{same_words}
use Rattle.lists.specs.declared.words.Words.{Words}
use Rattle.lists.proofs.Choice.{no_true, pick_elim}
use Rattle.lists.proofs.Lists.{both_parts, first_holds, first-none}
use Rattle.desk.specs.Carriers.{carrier_fits}
use Rattle.desk.specs.Letter.{same_identifier}
use Rattle.desk.specs.declared.Connection.TheVariants as Connection
use Rattle.desk.specs.declared.Connection.TheVariants.{Ret}
use Rattle.desk.proofs.CarriersLaws.{retained-holds}
use Rattle.desk.specs.declared.letter.Letter.{Letter}
use Rattle.terms.specs.Request.{letter_names}
use Rattle.terms.specs.declared.means.Means.{Means}
use Rattle.terms.specs.declared.request.Name.{Name}
use Rattle.terms.specs.declared.request.Names.{Names}
use Rattle.terms.specs.declared.request.Request.{Request}
use Rattle.places.specs.Places as P
use Rattle.places.proofs.Identifiers.{is_same}
use Rattle.places.proofs.Staying.{used-inside}
use Rattle.places.proofs.Holding.{meant-its}
use Rattle.line_table.specs.Line.{allows, can_take}
use Rattle.line_table.specs.Record.{turned}
use Rattle.line_table.specs.Step.{row_taken}
use Rattle.line_table.specs.Inputs.{names_of, message_for, row_for}
use Rattle.message.specs.declared.Kind.{Kind}
use Rattle.message.specs.declared.refusal.Refusal.{Refusal}
use Rattle.terms.specs.Terms.{with_kind}
use Rattle.terms.specs.declared.Terms.{Terms}
use Rattle.line_table.specs.Table.{in_use, home_of, holds_in}
use Rattle.line_table.specs.Search.{used, invoked, of_line, marks, fits_kind, fits, passes}
use Rattle.line_table.specs.declared.table.State.{State}
use Rattle.line_table.specs.declared.table.State.TheVariants.{Free, Invoked, Await, Alert}
use Rattle.line_table.specs.declared.table.Row.{Row}
use Rattle.line_table.specs.declared.table.Row.TheVariants.{Offers, Suspends, Resumes, RingsOut, BusyAgainKept, BusyAgainEnded, Alerts, CallFails, ClerkCancels, LineCancels, Falls, GuardRunsOut}
use Rattle.line_table.specs.declared.line.Line.{Line}
use Rattle.line_table.specs.declared.record.Record.{Record}
use Rattle.line_table.specs.declared.record.Turned.{Turned}
use Rattle.line_table.specs.declared.record.Decision.{Decision}
use Rattle.line_table.specs.declared.record.Decision.TheVariants.{Refuse, Deny, Take, Store, Report}
use Rattle.line_table.specs.declared.record.Change.{Change}
use Rattle.line_table.specs.declared.record.Change.TheVariants.{Turn, Remove}
use Rattle.line_table.specs.declared.inputs.Input.{Input}
use Rattle.line_table.specs.declared.inputs.RecordMessage.{RecordMessage}
use Rattle.line_table.specs.declared.inputs.Meant.{Meant}
use Rattle.line_table.specs.declared.search.Sought.TheVariants.{Blocking, Fitting, Duplicate}
use Rattle.line_records.specs.Records.{blank, records, place}
use Rattle.line_records.specs.Meaning.{meaning, named}
use Rattle.line_records.proofs.MeaningLaws.{meaning-uses, named-uses}
use Rattle.line_records.specs.Lines.{no_line, lines, line_at}
use Rattle.line_records.specs.Change.{records_after, lines_after}
use Rattle.line_plan.specs.Decide.{line_most, holds_for, takes_call, row_decision, record_meant, record_decision, store_found, counted_decision, duplicate_found, admitted_decision, line_found, request_decision, meant_decision, message_decision, own_meant, own_decision, report_found, report_decision, offer_found, offer_at, offer_decision, look_found, look_decision}
use Rattle.line_plan.specs.Plan.{new_record, plan_of}
use Rattle.line_sound.specs.Sound.{line_view, Agreed, Whole, Sound}
use Rattle.line_sound.proofs.Starting.{blank-unused}
use Rattle.line_sound.proofs.Changes.{Moves, Goes, moved, reported}

-- ---- a decision that is good for a desk
pub data Good (ws : List ℕ) : Input → Decision → Type 0 where
  refuses : {input : Input} {refusal : Refusal} {reply : Option Body} → Good ws input (Refuse refusal reply)
  denies : {input : Input} {error : ℕ} → Good ws input (Deny error)
  takes :
      {input : Input} (i : ℕ) (row : Row) → used (get_or (records ws) i blank) ≡ true → holds_for row (get_or (records ws) i blank) ≡ true →
      Good ws input (Take i row)
  stores :
      {input : Input} (i : ℕ) (q : Request) (busy : Bool) → place (records ws) ≡ Some i → P.known_in line_view (names_of input).identifier (records ws) ≡ None →
      count (of_line (names_of input).numberB) (records ws) < line_most → Whole (lines ws) (new_record ws (names_of input) q busy) →
      Good ws input (Store i q busy)
  reports : {number : Words} {busy : Bool} (k : ℕ) → Good ws (Input.Report number busy) (Report k busy)

-- a turn may change the kind, and no other term
kind-agreed : {terms : Terms} (kind : Kind) → Agreed terms → Agreed (with_kind terms kind)
kind-agreed kind a = record { keep = a.keep; connection = a.connection; numberA = a.numberA; numberB = a.numberB; service = a.service }

-- ---- its plan
module _ (ws : List ℕ) (sound : Sound ws) where
  -- a change about the record of a place, which leaves the lines
  record Turns (i : ℕ) (c : Change) : Type 0 where
    lines_same : lines_after (lines ws) c ≡ lines ws
    moves : Moves (records ws) (lines ws) (Some i) (records_after (records ws) c)

  module _ (i : ℕ) (u : used (get_or (records ws) i blank) ≡ true) where
    abbrev its : Record
    its = get_or (records ws) i blank

    turn : (t : Turned) → in_use t.state ≡ true → (t.suspended ≡ true → t.state ≡ Await) → (t.down ≡ true → its.terms.connection ≡ Ret) → Turns i (Turn t i)
    turn t is suspension fell =
        let whole = sound.each i u in
        record {
          lines_same = refl;
          moves =
              P.turns i (turned t its) refl u is refl
              (record { numberB = refl; whole = record { agreed = kind-agreed t.kind whole.agreed; line = whole.line; suspension = suspension; fell = fell } })
              refl;
        }

    remove : Turns i (Remove i)
    remove = record { lines_same = refl; moves = P.removes i refl u refl }

    turn-row : (row : Row) → holds_for row its ≡ true → Turns i (row_taken i its row).change
    unfolding row_taken
    turn-row Offers h = turn _ refl (λ e. refl) (sound.each i u).fell
    turn-row Suspends h = turn _ refl (λ e. refl) (sound.each i u).fell
    turn-row Resumes h = turn _ refl (λ e. absurd (no_true e)) (sound.each i u).fell
    turn-row RingsOut h = turn _ refl (λ e. absurd (no_true e)) (sound.each i u).fell
    turn-row BusyAgainKept h = turn _ refl (λ e. absurd (no_true e)) (sound.each i u).fell
    turn-row BusyAgainEnded h = remove
    turn-row Alerts h = remove
    turn-row CallFails h = remove
    turn-row ClerkCancels h = remove
    turn-row LineCancels h = remove
    turn-row Falls h = turn _ u (sound.each i u).suspension (λ e. (retained-holds its.terms.connection (in_use its.state) h).0)
    turn-row GuardRunsOut h = remove

  pub goes-plan :
      {input : Input} {decision : Decision} → Good ws input decision → Goes ws input (plan_of ws input decision).outcome.at (plan_of ws input decision).change
  unfolding plan_of row_taken place
  goes-plan refuses = moved refl (P.stays refl refl)
  goes-plan denies = moved refl (P.stays refl refl)
  goes-plan (takes i row u h) = let t = turn-row i u row h in moved t.lines_same t.moves
  goes-plan {input} (stores i q busy free new few whole) =
      moved refl (P.stores i (new_record ws (names_of input) q busy) refl free new refl (record { few = few; whole = whole }) refl)
  goes-plan {input = Input.Report number busy} (reports k) = reported k number busy

-- ---- what fits a Look is used, and a row offers it
fitting-holds : (number : Words) (r : Record) → fits number r ≡ true → (used r ≡ true) × (holds_for Offers r ≡ true)
fitting-holds number r e = by r.state (both_parts (marks number r) (fits_kind r.terms.kind r.active) e).0
  where
    by : (s : State) → both (invoked s) (same_words r.terms.numberB number) ≡ true → (in_use s ≡ true) × (holds_in (home_of Offers) s r.terms.connection ≡ true)
    by Free m = absurd (no_true m)
    by Invoked m = (refl, refl)
    by Await m = absurd (no_true m)
    by Alert m = absurd (no_true m)

-- ---- acts and the guard
module _ (ws : List ℕ) (input : Input) (name : Name) (row : Row) where
  good-own-meant : (m : Means) → named name (records ws) ≡ m → Good ws input (own_meant ws row m)
  good-own-meant Means.Nothing e = refuses
  good-own-meant Means.NotNow e = refuses
  good-own-meant (Means.At i) e =
      pick_elim (Good ws input) (holds_for row (get_or (records ws) i blank)) (λ h. takes i row (named-uses name (records ws) i e) h) (λ h. refuses)

  pub good-own : Good ws input (own_decision ws name row)
  unfolding own_decision
  good-own = good-own-meant (named name (records ws)) refl

-- ---- a line report
module _ (ws : List ℕ) (number : Words) (busy : Bool) where
  good-report-found : (f : Option ℕ) → Good ws (Input.Report number busy) (report_found busy f)
  good-report-found None = refuses
  good-report-found (Some k) = reports k

  pub good-report : Good ws (Input.Report number busy) (report_decision ws number busy)
  unfolding report_decision
  good-report = good-report-found (line_at number (lines ws))

-- ---- Look: what is offered fits
module _ (ws : List ℕ) (number : Words) where
  abbrev GoodLook : Option ℕ → Type 0
  GoodLook f = Good ws (Input.Look number) (offer_decision f)

  good-fitting : (f : Option ℕ) → first (passes (Fitting number)) (records ws) ≡ f → GoodLook f
  good-fitting None e = refuses
  good-fitting (Some i) e =
      let h = fitting-holds number (get_or (records ws) i blank) (first_holds (passes (Fitting number)) (records ws) i blank e) in
      takes i Offers h.0 h.1

  good_blocking : (f : Option ℕ) → GoodLook (offer_found ws number f)
  good_blocking (Some i) = refuses
  good_blocking None = good-fitting (first (passes (Fitting number)) (records ws)) refl

  good_offer : (line : Line) → GoodLook (offer_at ws line number)
  unfolding offer_at
  good_offer line =
      pick_elim GoodLook (can_take line) (λ t. good_blocking (first (passes (Blocking number)) (records ws))) (λ f. refuses)

  good-look-found : (f : Option ℕ) → Good ws (Input.Look number) (look_found ws number f)
  good-look-found None = refuses
  good-look-found (Some k) = good_offer (get_or (lines ws) k no_line)

  pub good-look : Good ws (Input.Look number) (look_decision ws number)
  unfolding look_decision
  good-look = good-look-found (line_at number (lines ws))

-- ---- messages
-- where none is a duplicate, no record has the identifier, if there is one
new-identifier : (rs : List Record) (asked : Names) → first (passes (Duplicate asked)) rs ≡ None → P.known_in line_view asked.identifier rs ≡ None
new-identifier rs asked none = by asked.identifier refl
  where
    found : (identifier : Words) → asked.identifier ≡ Some identifier → (f : Option ℕ) → P.meant_in line_view identifier rs ≡ f → P.meant_in line_view identifier rs ≡ None
    found identifier q None e = e
    found identifier q (Some i) e =
        let r : Record = get_or rs i blank in
        let m = meant-its line_view rs identifier i e in
        let same : same_identifier r.terms.identifier asked.identifier ≡ true =
        ap (same_identifier r.terms.identifier) q ∙ is_same r.terms.identifier identifier m.1 in
        let t : passes (Duplicate asked) r ≡ true = rw (m.0, same) in
        absurd (no_true (sym (first-none (passes (Duplicate asked)) rs blank none i (used-inside line_view rs i blank-unused m.0)) ∙ t))

    by : (k : Option Words) → asked.identifier ≡ k → P.known_in line_view k rs ≡ None
    by None q = refl
    by (Some identifier) q = found identifier q (P.meant_in line_view identifier rs) refl

found-line : (f : Option ℕ) (k : ℕ) → f ≡ Some k → f ≡ None → ⊥
found-line f k e n = let z : ◌≡◌ {A = ℕ} 0 1 = cc in omega arith

module _ (ws : List ℕ) (l : Letter) (at : ℕ) where
  abbrev GoodHere : Decision → Type 0
  GoodHere = Good ws (Input.Message l at)

  -- ---- messages about a record
  good-row :
      (i : ℕ) (message : RecordMessage) (row : Row) → used (get_or (records ws) i blank) ≡ true →
      GoodHere (row_decision i (get_or (records ws) i blank) l message row)
  good-row i message row u =
      let r : Record = get_or (records ws) i blank in
      pick_elim GoodHere (holds_for row r)
      (λ h. pick_elim GoodHere (carrier_fits l.body r.terms.connection l.carrier) (λ g. takes i row u h) (λ g. refuses))
      (λ h. refuses)

  good-record-meant : (message : RecordMessage) (m : Means) → meaning l at (records ws) ≡ m → GoodHere (record_meant ws l message m)
  good-record-meant message Means.Nothing e = refuses
  good-record-meant message Means.NotNow e = refuses
  good-record-meant message (Means.At i) e =
      let r : Record = get_or (records ws) i blank in
      good-row i message (row_for message (takes_call ws r.terms.numberB) r.terms.keep) (meaning-uses l at (records ws) i e)

  good-record : (message : RecordMessage) → GoodHere (record_decision ws l at message)
  unfolding record_decision
  good-record message = good-record-meant message (meaning l at (records ws)) refl

  -- ---- requests
  -- what a request of this letter stores is in range
  abbrev Stored : Request → Type 0
  Stored q = (busy : Bool) → (line_at l.numberB (lines ws) ≡ None → ⊥) → Whole (lines ws) (new_record ws (letter_names l) q busy)

  abbrev pub Ranged : Type 0
  Ranged = (q : Request) → message_for l.body ≡ Meant.Request q → Stored q

  module _ (q : Request) (whole : Stored q) where
    module _ (busy : Bool) (line : line_at l.numberB (lines ws) ≡ None → ⊥) where
      good-store : P.known_in line_view l.identifier (records ws) ≡ None → count (of_line l.numberB) (records ws) < line_most → (f : Option ℕ) → place (records ws) ≡ f → GoodHere (store_found q busy f)
      good-store new few None e = denies
      good-store new few (Some i) e = stores i q busy e new few (whole busy line)

      good-counted : P.known_in line_view l.identifier (records ws) ≡ None → GoodHere (counted_decision ws (letter_names l) q busy)
      unfolding counted_decision
      good-counted new =
          let n : ℕ = count (of_line l.numberB) (records ws) in
          pick_elim GoodHere (ltb n line_most) (λ t. good-store new (ltb-true n line_most t) (place (records ws)) refl) (λ f. denies)

      good_duplicate : (f : Option ℕ) → first (passes (Duplicate (letter_names l))) (records ws) ≡ f → GoodHere (duplicate_found ws (letter_names l) q busy f)
      good_duplicate (Some i) e = denies
      good_duplicate None e = good-counted (new-identifier (records ws) (letter_names l) e)

      good-admitted : GoodHere (admitted_decision ws (letter_names l) q busy)
      unfolding admitted_decision
      good-admitted = good_duplicate (first (passes (Duplicate (letter_names l))) (records ws)) refl

    good-line : (f : Option ℕ) → line_at l.numberB (lines ws) ≡ f → GoodHere (line_found ws (letter_names l) q f)
    good-line None e = denies
    good-line (Some k) e =
        let line : Line = get_or (lines ws) k no_line in
        pick_elim GoodHere (allows line q.kind) (λ h. good-admitted line.busy (found-line (line_at l.numberB (lines ws)) k e)) (λ h. denies)

    good-request : GoodHere (request_decision ws l q)
    unfolding request_decision
    good-request =
        pick_elim GoodHere (carrier_fits l.body Connection.Empty l.carrier) (λ h. good-line (line_at l.numberB (lines ws)) refl) (λ h. refuses)

  good-meant : Ranged → (m : Meant) → message_for l.body ≡ m → GoodHere (meant_decision ws l at m)
  good-meant ranged (Meant.Request q) e = good-request q (ranged q e)
  good-meant ranged (Meant.Record message) e = good-record message
  good-meant ranged Meant.NotHere e = refuses

  pub good-message : Ranged → GoodHere (message_decision ws l at)
  unfolding message_decision
  good-message ranged = good-meant ranged (message_for l.body) refl
