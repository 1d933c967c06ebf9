-- Each step at the line's end is about the request whose record it touches, or whose message is delivered, or about none: it moves that request's net by the end's reading, and leaves every other.
use Rattle.std.specs.Prelude.{Option, Some, None, Ok, Result}
use Prim.Native.Nat.{ℕ}
use mathlib.Core.Path.{◌≡◌, refl, sym, ◌∙◌, ap, subst}
use mathlib.Core.Bool.{Bool, true, false, true≢false}
use mathlib.Core.Logic.{◌⊎◌, inl, inr}
use mathlib.Core.List.{List, [], ◌∷◌, ◌++◌, map}
use lib.ListN.{length, get_or}
use native.Mathlib.Omega.{arith}
use Rattle.lists.specs.Choice.{pick}
use Rattle.lists.specs.declared.words.Words.{Words}
use Rattle.lists.proofs.Choice.{pick_elim}
use Rattle.lists.proofs.WordsLaws.{length-bytes_of, bytes-bytes_of}
use Rattle.message.specs.Format.{request_body}
use Rattle.message.specs.declared.Kind.{Kind}
use Rattle.message.specs.declared.Kind.TheVariants.{Ccbs, Ccnr}
use Rattle.message.specs.declared.Message.{Message}
use Rattle.message.specs.declared.refusal.Refusal.{Refusal}
use Rattle.desk.specs.Letter.{letter_of, message_of}
use Rattle.desk.specs.Sends.{no_number}
use Rattle.desk.specs.declared.letter.Letter.{Letter}
use Rattle.desk.specs.declared.sends.Elements.{Elements}
use Rattle.terms.specs.Terms.{elements_of}
use Rattle.terms.specs.Request.{letter_names}
use Rattle.terms.specs.declared.means.Means.{Means}
use Rattle.places.specs.Places as P
use Rattle.places.proofs.Staying.{at_map}
use Rattle.clerk.specs.Entry.{ask_flags}
use Rattle.line_table.specs.Inputs.{names_of}
use Rattle.line_table.specs.Record.{activated}
use Rattle.line_table.specs.Search.{used, marks}
use Rattle.line_table.specs.declared.inputs.Act.{Act}
use Rattle.line_table.specs.declared.inputs.Input.{Input}
use Rattle.line_table.specs.declared.record.Change.{Change}
use Rattle.line_table.specs.declared.record.Change.TheVariants.{Stay}
use Rattle.desk.specs.declared.plan.Plan.{Plan}
use Rattle.line_table.specs.declared.record.Record.{Record}
use Rattle.line_records.specs.Records.{blank, records}
use Rattle.line_records.specs.Meaning.{fitting, meaning}
use Rattle.line_records.proofs.MeaningLaws.{meaning-uses}
use Rattle.line_records.specs.Lines.{lines}
use Rattle.line_records.specs.Change.{marking, records_after, applied}
use Rattle.line_records.specs.Deadlines.{timed}
use Rattle.line.proofs.StepsLaws.{records-made}
use Rattle.line_plan.specs.Plan.{plan_for}
use Rattle.line.specs.Entry.{message_entry}
use Rattle.line.specs.Steps.{made, step, entered}
use Rattle.line_sound.specs.Sound as Line
use Rattle.line_sound.specs.Sound.{line_view}
use Rattle.line_sound.proofs.Changes.{marking-used, marking-blank}
use Rattle.line_sound.proofs.Starting.{blank-unused}
use Rattle.line_sound.proofs.Reaching.{reached-sound}
use Rattle.pair_request.specs.Reading as R
use Rattle.pair_request.specs.Listed.{NotReq, NoReq}
use Rattle.pair_request.proofs.Agree.{Agrees, before, early-waiting, early-absent, after, agreed}
use Rattle.pair_request.proofs.Effects.{line-act-effect, line-act-plain, line-take-effect, line-take-plain}
use Rattle.pair.specs.World.{Of, from, Naming, Note, World, Event, line_does, line_hears, name_of, new_label, label_of, line_holds, line_change, touched, line_stepped, lineHeard, line_notes, is_request, by_place, line_means, Allowed}
use Rattle.pair.specs.Demand3.{About, Heads, Unaltered, same, marked}
use Rattle.pair.proofs.Keys.{Tells, key?}
use Rattle.pair.proofs.Sits.{Sight, view, label, key_of, elements_at, there, Its, Did, Touches, sits_at, sits_mine, sits_same, touches_whom, touches_never, speaks, touches_speaks, speaks-name, speaks-own, nowhere-speaks, touched-other, not-one, the_one}
use Rattle.pair.proofs.Ends.{line_sight, line_record, line_read, letter_read, set_of, message_read, Clear, KeptName, line_act_read, policy_of, LineStep}
use Rattle.pair.proofs.Letters.{letter-name, clear-name, sent-name, by_place_lem}
use Rattle.pair.proofs.Means.{meaning_in, Meant, own-means}
use Rattle.pair.proofs.Changes.{stays}
use Rattle.pair.proofs.Grounds.{line-full}
use Rattle.pair.proofs.Readable.{line_reads}
use Rattle.pair.proofs.LineRows.{leaves as left, Answers, answers}
use Rattle.pair.proofs.LineChanges.{policy-kept, line-its, OwnChange, plan-step, Acted, refuses, takes-row}
use Rattle.pair.proofs.LineEnd.{ready_for, Heard, replies, turns-row, line-meaning, line-fitting, line-hears, line-asked, line-heard-any, line-acts, line-guards}
use Rattle.pair.proofs.LineLooks.{line-looks, Reported, line-reports}
use Rattle.pair.proofs.Wires.{Headed, AllClear, plain-clear, Worded, quiet, word, worded, worded-label, head-own, head-other, append_none}
use Rattle.pair.proofs.Notes.{Notes, unnoted, unnoted-other, noted-guard}
use Rattle.pair.proofs.Sim.{about-touched, about-head, Asked, asked-still, Good, Sim, Fine, about, leaves, moves, Turn, Turned, Grows, grows_not, grows_by, line_made, LineTold, line-good, line-own, line_other, line-held}
use Rattle.pair.proofs.ClerkSteps.{unmoved}

line_same_lem :
    (w : World) (given : Of Elements) (plan : Plan Change) (notes : List (Of (Option Words)) → List Note) → plan.change ≡ Stay → plan.outcome.at ≡ None → plan.outcome.sending ≡ None → notes [] ≡ [] →
    line_made w w.up given plan notes ≡ w
unfolding applied timed
line_same_lem w given plan notes e a s none = rw (e, a, s, none, append_none w.down)

-- ---- the history after the guard's report
abbrev is_guard : R.LAct → Bool
is_guard R.offers = false
is_guard R.alerted = false
is_guard R.call_failed = false
is_guard R.cancels = false
is_guard R.falls = false
is_guard R.guard = true

guard-ends : (j : Elements) (b : Bool) (r : Record) (l : R.Line) (x : R.LAct) → P.one r ≡ line_read j b l → R.guard_ends l x ≡ is_guard x
guard-ends j b r R.none x e = not-one (sym e)
guard-ends j b r (R.holds t own s) R.offers e = refl
guard-ends j b r (R.holds t own s) R.alerted e = refl
guard-ends j b r (R.holds t own s) R.call_failed e = refl
guard-ends j b r (R.holds t own s) R.cancels e = refl
guard-ends j b r (R.holds t own s) R.falls e = refl
guard-ends j b r (R.holds t own s) R.guard e = refl

guard_grows : (b : Bool) (l : Of (Option Words)) (h : List Note) → Grows h (pick b (Note.guarded l ∷ []) [] ++ h)
guard_grows true l h = grows_by (Note.guarded l) h (λ x e. let z : ◌≡◌ {A = ℕ} 0 1 = cc in omega (arith, z))
guard_grows false l h = grows_not h

guard-noted : {K : Type 0} (n : Naming K) (k : K) (b : Bool) (l : Of (Option Words)) (h : List Note) → n.key l ≡ k → Notes n k (pick b (Note.guarded l ∷ []) [] ++ h) h false false b false
guard-noted n k true l h e = noted-guard n k l h e
guard-noted n k false l h e = unnoted n k h

guard-unnoted : {K : Type 0} (n : Naming K) (k : K) (b : Bool) (l : Of (Option Words)) (h : List Note) → (n.key l ≡ k → ⊥) → Notes n k (pick b (Note.guarded l ∷ []) [] ++ h) h false false false false
guard-unnoted n k true l h d = unnoted-other n k (Note.guarded l) h d
guard-unnoted n k false l h d = unnoted n k h

-- a message that a desk sent has numbers of sixteen bytes
sent_typed : (j : Elements) (c : R.Msg) → Line.Typed (message_read j c)
unfolding message_of
sent_typed j c =
    record {
      length_a = length-bytes_of (letter_read j c).numberA;
      bytes_a = bytes-bytes_of (letter_read j c).numberA;
      length_b = length-bytes_of (letter_read j c).numberB;
      bytes_b = bytes-bytes_of (letter_read j c).numberB;
    }

-- a message is a request as its body says
pub request-body : (k : Kind) (service flags : ℕ) → is_request (request_body k service flags) ≡ true
request-body Ccbs service flags = refl
request-body Ccnr service flags = refl

pub plain_body : (j : Elements) (m : R.Msg) → NotReq m → is_request (message_read j m).body ≡ false
unfolding message_of
plain_body j (R.request d kind q) plain = absurd plain
plain_body j (R.result k n) plain = refl
plain_body j (R.denied short) plain = refl
plain_body j (R.exec R.ret) plain = refl
plain_body j (R.exec R.rls) plain = refl
plain_body j R.ringout plain = refl
plain_body j R.busy_again plain = refl
plain_body j R.no_match plain = refl
plain_body j (R.suspend n) plain = refl
plain_body j (R.resume R.ret) plain = refl
plain_body j (R.resume R.rls) plain = refl
plain_body j (R.cancel R.ret) plain = refl
plain_body j (R.cancel R.rls) plain = refl
plain_body j R.alerts plain = refl
plain_body j R.failed plain = refl

pub body-plain : (j : Elements) (m : R.Msg) → is_request (message_read j m).body ≡ false → NotReq m
unfolding message_of
body-plain j (R.request d kind q) h = absurd (true≢false (sym (request-body kind j.service (ask_flags d.canKeep q)) ∙ h))
body-plain j (R.result k n) h = tt
body-plain j (R.denied short) h = tt
body-plain j (R.exec n) h = tt
body-plain j R.ringout h = tt
body-plain j R.busy_again h = tt
body-plain j R.no_match h = tt
body-plain j (R.suspend n) h = tt
body-plain j (R.resume n) h = tt
body-plain j (R.cancel n) h = tt
body-plain j R.alerts h = tt
body-plain j R.failed h = tt

same_sort : (i j : Elements) (m c : R.Msg) → (message_read i m).body ≡ (message_read j c).body → NotReq c → NotReq m
same_sort i j m c e plain = body-plain i m (ap is_request e ∙ plain_body j c plain)

-- a message is a request, or not
pub data Sorted (m : R.Msg) : Type 0 where
  plain-message : NotReq m → Sorted m
  a-request : (d : R.Data) (kind : Kind) (q : ℕ) → m ≡ R.request d kind q → Sorted m

pub message_sort : (m : R.Msg) → Sorted m
message_sort (R.request d kind q) = a-request d kind q refl
message_sort (R.result k n) = plain-message tt
message_sort (R.denied short) = plain-message tt
message_sort (R.exec n) = plain-message tt
message_sort R.ringout = plain-message tt
message_sort R.busy_again = plain-message tt
message_sort R.no_match = plain-message tt
message_sort (R.suspend n) = plain-message tt
message_sort (R.resume n) = plain-message tt
message_sort (R.cancel n) = plain-message tt
message_sort R.alerts = plain-message tt
message_sort R.failed = plain-message tt

-- while a request message is under way, the line's end holds nothing of it
not-request : {B : Type 0} (u : List R.Msg) (d : R.Data) (kind : Kind) (q : ℕ) (rest : List R.Msg) → u ≡ R.request d kind q ∷ rest → NoReq u → B
not-request u d kind q rest e h = absurd (subst NoReq e h).0

pub request-first :
    {y : Bool} {c : R.Clerk} {u v : List R.Msg} {l : R.Line} {a : Bool} {d : R.Data} {kind : Kind} {q : ℕ} {rest : List R.Msg} → Agrees y c u l v a →
    u ≡ R.request d kind q ∷ rest → l ≡ R.none
request-first before e = refl
request-first (early-waiting h w) e = refl
request-first (early-absent h w) e = refl
request-first {u = u} {d = d} {kind} {q} {rest} (after f h w k l v) e = not-request u d kind q rest e h

no_record : {A : Type 0} (v : Sight A) (xs : List A) (f : Option ℕ) → there v xs f ≡ P.none → f ≡ None
no_record v xs None e = refl
no_record v xs (Some i) e = not-one (sym e)

-- ---- what a line report does to the places: each is used as before, with its identifier, and at most marked
record Places (e : Event) (rs qs : List Record) : Type 0 where
  uses : (i : ℕ) → used (get_or qs i blank) ≡ used (get_or rs i blank)
  names : (i : ℕ) → elements_of (get_or qs i blank).terms ≡ elements_of (get_or rs i blank).terms
  unaltered : (f : Option ℕ) → Unaltered e (there line_sight rs f) (there line_sight qs f)
  long : length qs ≡ length rs

length-map : {A B : Type 0} (f : A → B) (xs : List A) → length (map f xs) ≡ length xs
length-map f [] = refl
length-map f (x ∷ xs) = let z = length-map f xs in omega (arith, z)

marking-elements : (number : Words) (r : Record) → elements_of (marking number r).terms ≡ elements_of r.terms
marking-elements number r = pick_elim (λ (x : Record). elements_of x.terms ≡ elements_of r.terms) (marks number r) (λ t. refl) (λ t. refl)

report-places :
    (number : Words) (busy : Bool) (rs qs : List Record) → (qs ≡ rs) ⊎ ((busy ≡ true) × (qs ≡ map (marking number) rs)) → Places (line_does (Input.Report number busy)) rs qs
report-places number busy rs qs (inl e) =
    subst (Places (line_does (Input.Report number busy)) rs) (sym e) (record { uses = λ i. refl; names = λ i. refl; unaltered = λ f. same; long = refl })
report-places number busy rs qs (inr (b, e)) =
    subst (λ (y : Bool). Places (line_does (Input.Report number y)) rs qs) (sym b) (subst (Places (line_does (Input.Report number true)) rs) (sym e) marks-all)
  where
    at : (i : ℕ) → get_or (map (marking number) rs) i blank ≡ marking number (get_or rs i blank)
    at i = at_map (view line_sight) rs (marking number) (marking-blank number) i

    each : (f : Option ℕ) → Unaltered (line_does (Input.Report number true)) (there line_sight rs f) (there line_sight (map (marking number) rs) f)
    each None = same
    each (Some i) =
        subst (λ (r : Record). Unaltered (line_does (Input.Report number true)) (P.one (get_or rs i blank)) (P.one r)) (sym (at i))
        (pick_elim (λ (r : Record). Unaltered (line_does (Input.Report number true)) (P.one (get_or rs i blank)) (P.one r)) (marks number (get_or rs i blank)) (λ t. marked (get_or rs i blank) t) (λ t. same))

    marks-all : Places (line_does (Input.Report number true)) rs (map (marking number) rs)
    marks-all =
        record {
          uses = λ i. ap used (at i) ∙ marking-used number (get_or rs i blank);
          names = λ i. ap (λ (r : Record). elements_of r.terms) (at i) ∙ marking-elements number (get_or rs i blank);
          unaltered = each;
          long = length-map (marking number) rs;
        }

-- the reading of what is unaltered is the same
unaltered-read :
    {e : Event} {before after : P.Held Record} → Unaltered e before after →
    (j : Elements) (l : R.Line) (b : Bool) → before ≡ line_read j b l → (c : Bool) × (after ≡ line_read j c l)
unaltered-read same j l b e = (b, e)
unaltered-read (marked r so) j R.none b e = not-one (sym e)
unaltered-read (marked r so) j (R.holds t own s) b e =
    (true, ap (λ (x : Record). P.one (activated x)) (the_one r (line_record j b t own s) e))

module _ {K : Type 0} {n : Naming K} (tells : Tells n) {p : R.Policy} {w : World} (g : Good p w) where
  abbrev rs : List Record
  rs = records w.line.words

  abbrev os : List ℕ
  os = w.line_origins

  -- the settings are the start's
  settings : (plan : Plan Change) → policy_of (made w.line w.count plan).desk.words ≡ p
  settings plan = policy-kept w.line w.count plan (line-full g.line) ∙ g.policy

  -- the record at a used place, as it is read
  read_at :
      (i : ℕ) → used (get_or rs i blank) ≡ true →
      (l : R.Line) × (P.one (get_or rs i blank) ≡ line_read (elements_of (get_or rs i blank).terms) (get_or rs i blank).active l)
  read_at i u = line_reads (lines w.line.words) (get_or rs i blank) ((reached-sound w.line g.line).each i u) u

  -- a row taken for the record at a place, as it is read there
  row_told :
      (given : Of Elements) (plan : Plan Change) (ans : R.Line → R.LAnswer) → ((l : R.Line) → NoReq (ans l).1) → (i : ℕ) → used (get_or rs i blank) ≡ true → Touches i (line_change plan.change) →
      OwnChange rs (Some i) plan.change → (j : Elements) (l : R.Line) (b : Bool) (f : Option ℕ) → f ≡ Some i → P.one (get_or rs i blank) ≡ line_read j b l → Answers plan j b l (ans l) →
      (a : Bool) × LineTold w given f plan (line_read j a (ans l).0) (elements_at line_sight os rs i) (ans l).1
  row_told given plan ans plain i u touches own j l b f at h says =
      let whose = elements_at line_sight os rs i in
      let its = subst (Its line_sight j) (sym h) (line-its j b l) in
      let s = plan-step w.line g.line w.count given (Some i) j plan (ans l) l b own h says (λ m q. touches_never touches q) in (
        s.active,
        subst (λ (y : Option ℕ). LineTold w given y plan (line_read j s.active (ans l).0) whose (ans l).1) (sym at)
            (record {
              did = s.did;
              whom = touches_speaks line_sight os rs given touches;
              sends = s.sends ∙ ap (λ (y : Elements). map (message_read y) (ans l).1) (sym its.1);
              clear = plain-clear whose.it (ans l).1 (plain l) (g.line_labels i u).1;
            }),
      )

  -- ---- an act, the guard's report, a Look
  module _ (e : Event) (given : Of Elements) (x : R.LAct) (input : Input) (notes : List (Of (Option Words)) → List Note) (fair : Line.Fair input)
      (none : notes [] ≡ []) (one : (l : Of (Option Words)) → notes (l ∷ []) ≡ pick (is_guard x) (Note.guarded l ∷ []) [])
      (named : (l : Of (Option Words)) → touched line_view os rs (label given) (line_change (plan_for w.line.words input).change) ≡ l ∷ [] → About n w e (n.key l)) where
    abbrev plan : Plan Change
    plan = plan_for w.line.words input

    abbrev acted : World
    acted = line_made w w.up given plan notes

    act-reached : Line.Reached (made w.line w.count plan).desk
    unfolding step
    act-reached = Line.steps w.count fair g.line

    -- taken for the record at a place
    module _ (i : ℕ) (u : used (get_or rs i blank) ≡ true) (touches : Touches i (line_change plan.change)) (own : OwnChange rs (Some i) plan.change)
        (says : (j : Elements) (l : R.Line) (b : Bool) → P.one (get_or rs i blank) ≡ line_read j b l → Answers plan j b l (R.line_acts l x)) where
      abbrev whose : Of Elements
      whose = elements_at line_sight os rs i

      taken-up : Asked w.history whose
      taken-up = g.line_labels i u

      act-history : acted.history ≡ pick (is_guard x) (Note.guarded (label whose) ∷ []) [] ++ w.history
      act-history = ap (λ (h : List Note). h ++ w.history) (ap notes (touches_whom line_sight os rs given touches) ∙ one (label whose))

      act-told :
          (j : Elements) (l : R.Line) (b : Bool) (f : Option ℕ) → f ≡ Some i → P.one (get_or rs i blank) ≡ line_read j b l →
          (a : Bool) × LineTold w given f plan (line_read j a (R.line_acts l x).0) whose (R.line_acts l x).1
      act-told j l b f at h = row_told given plan (λ y. R.line_acts y x) (λ y. line-act-plain (line-act-effect y x)) i u touches own j l b f at h (says j l b h)

      act-good : Good p acted
      act-good =
          let read = read_at i u in
          let grows = subst (Grows w.history) (sym act-history) (guard_grows (is_guard x) (label whose) w.history) in
          line-good g w.up given plan notes (act-told whose.it read.0 (get_or rs i blank).active (Some i) refl read.1).1 act-reached (settings plan) g.up grows
          (asked-still grows whose taken-up) (λ m q. touches_never touches q)

      act-turn : (k : K) (s : R.Net) → Sim n k w s → (n.key (label whose) ≡ k) ⊎ (n.key (label whose) ≡ k → ⊥) → Turn n p k w e acted s
      unfolding R.next
      act-turn k s sim (inl key) =
          let at = sits_at line_sight n k sim.line_sits i (u, key) in
          let read : P.one (get_or rs i blank) ≡ line_read sim.name sim.active s.line = ap (there line_sight rs) (sym at) ∙ sim.line in
          let noted : Notes n k acted.history w.history false false (R.guard_ends s.line x) false =
          subst (λ (h : List Note). Notes n k h w.history false false (R.guard_ends s.line x) false) (sym act-history)
          (subst (λ (b : Bool). Notes n k (pick (is_guard x) (Note.guarded (label whose) ∷ []) [] ++ w.history) w.history false false b false)
          (sym (guard-ends sim.name sim.active (get_or rs i blank) s.line x read))
          (guard-noted n k (is_guard x) (label whose) w.history key)) in
          let told = act-told sim.name s.line sim.active sim.line_place at read in
          moves (about (subst (About n w e) key (named (label whose) (touches_whom line_sight os rs given touches)))) (R.line_does x) tt
          (line-own g w.up given plan notes tells sim told.0 told.1 key
          (subst (Its line_sight sim.name) (sym read) (line-its sim.name sim.active s.line)).1 (λ m q. touches_never touches q) sim.up sim.up_clear noted)
      act-turn k s sim (inr d) =
          let read = read_at i u in
          line_other g w.up given plan notes tells sim (act-told whose.it read.0 (get_or rs i blank).active (Some i) refl read.1).1 act-good
          (touched-other line_sight os rs given n k (line_change plan.change) (λ q. d (sym (ap (key_of n) (touches_speaks line_sight os rs given touches)) ∙ q))) d refl
          (subst (λ (h : List Note). Notes n k h w.history false false false false) (sym act-history) (guard-unnoted n k (is_guard x) (label whose) w.history d))

    acting : Acted rs x plan → Turned n p w e acted
    acting (refuses stay nowhere silent) = unmoved g (line_same_lem w given plan notes stay nowhere silent none)
    acting (takes-row i u touches own says) =
        (act-good i u touches own says, λ k s r sim fine. act-turn i u touches own says k s sim (key? tells (n.key (label (elements_at line_sight os rs i))) k))

  -- ---- a line report
  module _ (number : Words) (busy : Bool) where
    abbrev report : Input
    report = Input.Report number busy

    abbrev report_plan : Plan Change
    report_plan = plan_for w.line.words report

    abbrev reported : World
    reported = record { clerk = w.clerk; clerk_origins = w.clerk_origins; up = w.up; line = (made w.line w.count report_plan).desk; line_origins = os; down = w.down; history = w.history; count = w.count }

    report-same : (given : Of Elements) → Reported rs number busy report_plan → line_made w w.up given report_plan (line_notes report) ≡ reported
    report-same given told = rw (told.silent, told.untouched, append_none w.down)

    places : Reported rs number busy report_plan → Places (line_does report) rs (records reported.line.words)
    places told = report-places number busy rs (records reported.line.words) (by told.marks)
      where
        after : records reported.line.words ≡ records_after rs report_plan.change
        after = records-made w.line.words report_plan.change (line-full g.line) w.count report_plan.outcome.at report_plan.outcome.starts

        by :
            (records_after rs report_plan.change ≡ rs) ⊎ ((busy ≡ true) × (records_after rs report_plan.change ≡ map (marking number) rs)) →
            (records reported.line.words ≡ rs) ⊎ ((busy ≡ true) × (records reported.line.words ≡ map (marking number) rs))
        by (inl q) = inl (after ∙ q)
        by (inr (b, q)) = inr (b, after ∙ q)

    report-label : (at : Places (line_does report) rs (records reported.line.words)) (i : ℕ) → elements_at line_sight os (records reported.line.words) i ≡ elements_at line_sight os rs i
    report-label at i = ap (from (get_or os i 0)) (at.names i)

    report-reached : Line.Reached reported.line
    unfolding step
    report-reached = Line.steps w.count (Line.reports number busy) g.line

    report-good : Reported rs number busy report_plan → Good p reported
    report-good told =
        let at = places told in
        record {
          clerk = g.clerk;
          line = report-reached;
          policy = settings report_plan;
          clerk_full = g.clerk_full;
          line_full = g.line_full ∙ sym at.long;
          clerk_labels = g.clerk_labels;
          line_labels = λ i u. subst (Asked w.history) (sym (report-label at i)) (g.line_labels i (sym (at.uses i) ∙ u));
          up = g.up;
          down = g.down;
          taken = g.taken;
        }

    report-turn : Reported rs number busy report_plan → (k : K) (s : R.Net) → Sim n k w s → Turn n p k w (line_does report) reported s
    report-turn told k s sim =
        let at = places told in
        let read = unaltered-read (at.unaltered sim.line_place) sim.name s.line sim.active sim.line in
        let sits =
        sits_same line_sight n k (λ i m. (at.uses i ∙ m.0, ap (key_of n) (report-label at i) ∙ m.1))
        (λ i m. (sym (at.uses i) ∙ m.0, ap (key_of n) (sym (report-label at i)) ∙ m.1))
        sim.line_sits in
        let still : Sim n k reported s =
        record {
          name = sim.name;
          clerk_place = sim.clerk_place;
          clerk_sits = sim.clerk_sits;
          clerk = sim.clerk;
          line_place = sim.line_place;
          line_sits = sits;
          active = read.0;
          line = read.1;
          up = sim.up;
          down = sim.down;
          up_clear = sim.up_clear;
          down_clear = sim.down_clear;
          kept = sim.kept;
          used = sim.used;
          timed_out = sim.timed_out;
          guarded = sim.guarded;
          dropped = sim.dropped;
        } in
        leaves
        (record {
          clerk = refl;
          line =
              subst (λ h. Unaltered (line_does report) h (line_holds n reported k)) (sym (line-held tells g sim))
              (subst (λ h. Unaltered (line_does report) (there line_sight rs sim.line_place) h) (sym (line-held tells (report-good told) still)) (at.unaltered sim.line_place));
          up = refl;
          down = refl;
        })
        still

    line-report : (given : Of Elements) → Reported rs number busy report_plan → Turned n p w (line_does report) (line_made w w.up given report_plan (line_notes report))
    line-report given told =
        subst (Turned n p w (line_does report)) (sym (report-same given told)) (report-good told, λ k s r sim fine. report-turn told k s sim)

  -- ---- every input that a host gives
  host_made :
      (given : Of Elements) (input : Input) (notes : List (Of (Option Words)) → List Note) →
      line_stepped w w.up (label given) (Ok input) notes ≡ line_made w w.up given (plan_for w.line.words input) notes
  unfolding entered step
  host_made given input notes = refl

  act-none : (act : Act) → is_guard (line_act_read act) ≡ false
  act-none Act.Alerted = refl
  act-none Act.CallFailed = refl
  act-none Act.Cancel = refl
  act-none Act.Fell = refl

  -- what is put in for a request that is there has no elements of its own
  abbrev bare : Option Words → Of Elements
  bare identifier = from (length w.history) (record { identifier = identifier; numberA = no_number; numberB = no_number; service = 0 })

  made-turned : (input : Input) → Allowed w (line_does input) → Turned n p w (line_does input) (line_made w w.up (bare (names_of input).identifier) (plan_for w.line.words input) (line_notes input))
  made-turned (Input.Message l place) never = absurd (never.toLine l place refl)
  made-turned (Input.Act name act) allowed =
      acting (line_does (Input.Act name act)) (bare name.identifier) (line_act_read act) (Input.Act name act) (line_notes (Input.Act name act)) (Line.acts name act) refl
      (λ l. ap (λ (b : Bool). pick b (Note.guarded l ∷ []) []) (sym (act-none act))) (λ l q. about-touched n q) (line-acts w.line g.line w.count name act)
  made-turned (Input.Guard name) allowed =
      acting (line_does (Input.Guard name)) (bare name.identifier) R.guard (Input.Guard name) (line_notes (Input.Guard name)) (Line.guards name) refl (λ l. refl) (λ l q. about-touched n q) (line-guards w.line g.line w.count name)
  made-turned (Input.Report number busy) allowed = line-report number busy (bare (names_of (Input.Report number busy)).identifier) (line-reports w.line number busy)
  made-turned (Input.Look number) allowed =
      acting (line_does (Input.Look number)) (bare (names_of (Input.Look number)).identifier) R.offers (Input.Look number) (line_notes (Input.Look number)) (Line.looks number) refl (λ l. refl)
      (λ l q. about-touched n q) (line-looks w.line number)

  pub line_does_lem :
      (input : Input) → Allowed w (line_does input) →
      Turned n p w (line_does input) (line_stepped w w.up (new_label w (names_of input).identifier) (Ok input) (line_notes input))
  line_does_lem input allowed =
      subst (Turned n p w (line_does input)) (sym (host_made (bare (names_of input).identifier) input (line_notes input))) (made-turned input allowed)

  -- ---- a message delivered
  module _ (place : ℕ) (l : Of Elements) (m : R.Msg) (rest : List (Of Message)) (e : w.up ≡ worded l m ∷ rest) (taken : Asked w.history l) (clear : Clear l.it m) (others : Worded (Asked w.history) rest) where
    abbrev hears : Input
    hears = Input.Message (letter_read l.it m) place

    abbrev hear_plan : Plan Change
    hear_plan = plan_for w.line.words hears

    abbrev heard : World
    heard = line_made w rest l hear_plan (λ whom. [])

    l-kept : KeptName l.it.identifier
    l-kept = clear-name l.it m clear

    pub entry-as : message_entry (message_read l.it m) place ≡ Ok hears
    unfolding message_entry
    entry-as = rw (clear.ranged, clear.back)

    heard-as : lineHeard w place (worded l m ∷ rest) ≡ heard
    unfolding lineHeard entered step
    heard-as =
        ap (λ (x : Of (Option Words)). line_stepped w rest x (message_entry (message_read l.it m) place) (λ whom. [])) (worded-label l m l-kept)
        ∙ ap (λ (x : Result Input Refusal). line_stepped w rest (label l) x (λ whom. [])) entry-as

    -- the record that the message means, as the premise speaks of it; a request means none
    abbrev means : Means
    means = meaning (letter_read l.it m) place rs

    means-as : NotReq m → line_means w (message_read l.it m) place ≡ means
    means-as plain =
        ap (λ (b : Bool). pick b Means.Nothing (meaning (letter_of (message_read l.it m)) place rs)) (plain_body l.it m plain)
        ∙ ap (λ (x : Letter). meaning x place rs) clear.back

    hear_reached : Line.Reached (made w.line w.count hear_plan).desk
    unfolding step message_entry
    hear_reached = Line.steps w.count (Line.hears {input = hears} (message_read l.it m) place (sent_typed l.it m) (rw (clear.ranged, clear.back))) g.line

    head-key : {k : K} → n.key (label l) ≡ k → n.key (label_of (worded l m)) ≡ k
    head-key key = ap n.key (worded-label l m l-kept) ∙ key

    -- what the step did, and for whom: it replied for the message, or stored its request; or took a row for the record that is meant
    abbrev Told : Type 0
    Told =
        (f : Option ℕ) × ((left : P.Held Record) × ((whose : Of Elements) × ((ms : List R.Msg) ×
        (LineTold w l f hear_plan left whose ms × (Asked w.history whose × ((whose ≡ l) ⊎ ((i : ℕ) × (NotReq m × ((means ≡ Means.At i) × (whose ≡ elements_at line_sight os rs i))))))))))

    speaks-given :
        {f : Option ℕ} {left : P.Held Record} → Did line_sight rs l f (line_change hear_plan.change) (records (made w.line w.count hear_plan).desk.words) left → f ≡ None →
        speaks line_sight os rs l (line_change hear_plan.change) ≡ l
    speaks-given did q = nowhere-speaks line_sight os rs l did q

    hear_told : NotReq m → Heard w.line.words l.it m means hear_plan → Told
    hear_told plain (replies ms stay sends silent) =
        let own = subst (λ (c : Change). OwnChange rs None c) (sym stay) stays in
        let says : Answers hear_plan l.it true R.none (R.none, ms) = answers true (ap (λ (c : Change). left c P.none) stay) sends in
        let s = plan-step w.line g.line w.count l None l.it hear_plan (R.none, ms) R.none true own refl says (λ i q. refl) in (
          None,
          (
            P.none,
            (
              l,
              (
                ms,
                (
                  record { did = s.did; whom = ap (λ (c : Change). speaks line_sight os rs l (line_change c)) stay; sends = sends; clear = plain-clear l.it ms silent taken.1 },
                  (taken, inl refl),
                ),
              ),
            ),
          ),
        )
    hear_told plain (turns-row i at touches own says) =
        let u = meaning-uses (letter_read l.it m) place rs i at in
        let read = read_at i u in
        let whose = elements_at line_sight os rs i in
        let said = says whose.it read.0 (get_or rs i blank).active read.1 in
        let ans : R.Line → R.LAnswer = λ y. R.line_takes (policy_of w.line.words) y m said.0 in
        let told = row_told l hear_plan ans (λ y. line-take-plain (line-take-effect (policy_of w.line.words) y m said.0)) i u touches own whose.it read.0 (get_or rs i blank).active (Some i) refl read.1 said.1 in (
          Some i,
          (
            line_read whose.it told.0 (ans read.0).0,
            (
              whose,
              (
                (ans read.0).1,
                (
                  told.1,
                  (g.line_labels i u, inr (i, (plain, (at, refl)))),
                ),
              ),
            ),
          ),
        )

    -- a request, whosever it is: nothing of it is held
    ask-told : (d : R.Data) (kind : Kind) (q : ℕ) → m ≡ R.request d kind q → Told
    ask-told d kind q eq =
        let s = subst (λ (x : R.Msg). (word : R.Word) × LineStep w.line w.count l None (plan_for w.line.words (Input.Message (letter_read l.it x) place)) l.it (R.line_takes (policy_of w.line.words) R.none x word)) (sym eq)
        (line-asked w.line g.line w.count l l.it d kind q place refl) in
        let step = s.1 in
        let ans = R.line_takes (policy_of w.line.words) R.none m s.0 in
        let whose = speaks-given step.did refl in (
          None,
          (
            line_read l.it step.active ans.0,
            (
              l,
              (
                ans.1,
                (
                  record { did = step.did; whom = whose; sends = step.sends; clear = plain-clear l.it ans.1 (line-take-plain (line-take-effect (policy_of w.line.words) R.none m s.0)) taken.1 },
                  (taken, inl refl),
                ),
              ),
            ),
          ),
        )

    told : Told
    told = by (message_sort m)
      where
        by : Sorted m → Told
        by (plain-message plain) = hear_told plain (line-heard-any w.line g.line w.count l.it m place plain)
        by (a-request d kind q eq) = ask-told d kind q eq

    hear_good : Good p heard
    hear_good =
        line-good g rest l hear_plan (λ whom. []) told.1.1.1.1.0 hear_reached (settings hear_plan) others (grows_not w.history) told.1.1.1.1.1.0 (λ i q. taken)

    -- the head of the wire is the head of the request's net
    pub hear_head :
        (k : K) (s : R.Net) (sim : Sim n k w s) → n.key (label l) ≡ k →
        (h : Headed n k sim.name (worded l m) rest s.up) × (letter_read l.it m ≡ letter_read sim.name h.code)
    hear_head k s sim key =
        let h = head-own tells k e (head-key key) sim.up_clear sim.up in
        (h, sym clear.back ∙ ap letter_of h.same ∙ h.clear.back)

    -- and it means the request's record, or finds it late, or there is none; unless it is the request itself
    pub hear_means :
        (k : K) (s : R.Net) (sim : Sim n k w s) → Fine n k w (line_hears place) → (key : n.key (label l) ≡ k) →
        let j = sim.name in
        let code = (hear_head k s sim key).0.code in
        NotReq code → Meant line_sight rs (set_of j code) (ready_for j code) sim.line_place (meaning (letter_read j code) place rs)
    hear_means k s sim fine key plain =
        let x = hear_head k s sim key in
        let h = x.0 in
        let j = sim.name in
        let same-plain = same_sort l.it j m h.code (ap (λ (y : Message). y.body) h.same) plain in
        let apart = fine.apart.atLine place (worded l m) rest refl e in
        let its = subst (Its line_sight j) (sym sim.line) (line-its j sim.active s.line) in
        let as_said = line-meaning (letter_read j h.code) place rs ∙ ap (λ (y : Option Words). meaning_in line_sight y (set_of j h.code) (fitting (letter_names (letter_read j h.code))) (ready_for j h.code) place rs) (letter-name j h.code) in
        let meant =
        own-means line_sight blank-unused rs (fitting (letter_names (letter_read j h.code))) (ready_for j h.code) place n k os j (set_of j h.code)
        (line-fitting j h.code)
        (λ i q. (
          meaning-uses (letter_read j h.code) place rs i (as_said ∙ q),
          (apart.its i (means-as same-plain ∙ ap (λ (y : Letter). meaning y place rs) x.1 ∙ as_said ∙ q)).1 (head-key key),
        ))
        sim.line_place sim.line_sits its
        (λ absent unset i q.
        let mine = sits_mine line_sight n k sim.line_sits i q in
        apart.named (ap by_place h.same ∙ by_place_lem j h.code absent unset) (head-key key) i mine.0 mine.1) in
        subst (Meant line_sight rs (set_of j h.code) (ready_for j h.code) sim.line_place) (sym as_said) meant

    -- of the request itself: what came in has its label
    label_same : (k : K) (s : R.Net) (sim : Sim n k w s) → Headed n k sim.name (worded l m) rest s.up → label l ≡ label (from l.origin sim.name)
    label_same k s sim h =
        ap (from l.origin) (sym (sent-name l.it m l-kept) ∙ ap name_of h.same ∙ sent-name sim.name h.code (clear-name sim.name h.code h.clear))

    heard-same : (given : Of Elements) → label l ≡ label given → heard ≡ line_made w rest given hear_plan (λ whom. [])
    unfolding entered step
    heard-same given q = ap (λ (x : Of (Option Words)). line_stepped w rest x (Ok hears) (λ whom. [])) q

    own-moves :
        (k : K) (s : R.Net) (sim : Sim n k w s) → n.key (label l) ≡ k → (h : Headed n k sim.name (worded l m) rest s.up) →
        (x : R.Word) → LineStep w.line w.count (from l.origin sim.name) sim.line_place hear_plan sim.name (R.line_takes p s.line h.code x) → Turn n p k w (line_hears place) heard s
    unfolding R.next R.line_get_step
    own-moves k s sim key h x step =
        let given = from l.origin sim.name in
        let q = label_same k s sim h in
        let mine : n.key (label given) ≡ k = ap n.key (sym q) ∙ key in
        let its = subst (Its line_sight sim.name) (sym sim.line) (line-its sim.name sim.active s.line) in
        let kept = sim.kept (sim.used.no (label l, (key, taken.0))) in
        let name = speaks-name line_sight os rs given step.did sim.name refl its in
        let ms = (R.line_takes p s.line h.code x).1 in
        let told : LineTold w given sim.line_place hear_plan (line_read sim.name step.active (R.line_takes p s.line h.code x).0) (speaks line_sight os rs given (line_change hear_plan.change)) ms =
        record {
          did = step.did;
          whom = refl;
          sends = step.sends ∙ ap (λ (y : Elements). map (message_read y) ms) (sym name);
          clear = subst (λ (y : Elements). AllClear y ms) (sym name) (plain-clear sim.name ms (line-take-plain (line-take-effect p s.line h.code x)) kept);
        } in
        let head = subst (λ (xs : List (Of Message)). Heads n xs k) (sym e) (head-key key) in
        subst (λ (after : World). Turn n p k w (line_hears place) after s) (sym (heard-same given q))
        (moves (about (about-head n e (head-key key))) (R.line_gets x) (place, (refl, head))
        (subst (λ y. Sim n k (line_made w rest given hear_plan (λ whom. [])) (R.line_get_step p s x y)) (sym h.whole)
        (line-own g rest given hear_plan (λ whom. []) tells sim step.active told (speaks-own line_sight os rs given n k step.did mine sim.line_sits) name (λ i q. mine) h.tail h.others
        (unnoted n k w.history))))

    -- with the start's settings
    hear_step :
        (j : Elements) (code : R.Msg) (x : R.Line) (f : Option ℕ) → letter_read l.it m ≡ letter_read j code →
        (word : R.Word) × LineStep w.line w.count (from l.origin j) f (plan_for w.line.words (Input.Message (letter_read j code) place)) j (R.line_takes (policy_of w.line.words) x code word) →
        (word : R.Word) × LineStep w.line w.count (from l.origin j) f hear_plan j (R.line_takes p x code word)
    hear_step j code x f letter s = (
      s.0,
      subst (λ (y : Letter). LineStep w.line w.count (from l.origin j) f (plan_for w.line.words (Input.Message y place)) j (R.line_takes p x code s.0)) (sym letter)
          (subst (λ (q : R.Policy). LineStep w.line w.count (from l.origin j) f (plan_for w.line.words (Input.Message (letter_read j code) place)) j (R.line_takes q x code s.0)) g.policy s.1),
    )

    -- a request arrives where nothing of it is held
    own-asked :
        (k : K) (s : R.Net) (sim : Sim n k w s) → R.Reach p s → n.key (label l) ≡ k → (h : Headed n k sim.name (worded l m) rest s.up) →
        letter_read l.it m ≡ letter_read sim.name h.code → (d : R.Data) (kind : Kind) (q : ℕ) → h.code ≡ R.request d kind q → Turn n p k w (line_hears place) heard s
    own-asked k s sim reach key h letter d kind q eq =
        let none : s.line ≡ R.none = request-first (agreed reach) (h.whole ∙ ap (λ (c : R.Msg). c ∷ h.left) eq) in
        let nowhere : sim.line_place ≡ None = no_record line_sight rs sim.line_place (sim.line ∙ ap (line_read sim.name sim.active) none) in
        let asked = line-asked w.line g.line w.count (from l.origin sim.name) sim.name d kind q place refl in
        let step =
        hear_step sim.name h.code s.line sim.line_place letter
        (subst (λ (x : R.Line). (word : R.Word) × LineStep w.line w.count (from l.origin sim.name) sim.line_place (plan_for w.line.words (Input.Message (letter_read sim.name h.code) place)) sim.name (R.line_takes (policy_of w.line.words) x h.code word)) (sym none)
        (subst (λ (f : Option ℕ). (word : R.Word) × LineStep w.line w.count (from l.origin sim.name) f (plan_for w.line.words (Input.Message (letter_read sim.name h.code) place)) sim.name (R.line_takes (policy_of w.line.words) R.none h.code word)) (sym nowhere)
        (subst (λ (c : R.Msg). (word : R.Word) × LineStep w.line w.count (from l.origin sim.name) None (plan_for w.line.words (Input.Message (letter_read sim.name c) place)) sim.name (R.line_takes (policy_of w.line.words) R.none c word)) (sym eq) asked))) in
        own-moves k s sim key h step.0 step.1

    hear_own : (k : K) (s : R.Net) → R.Reach p s → Sim n k w s → Fine n k w (line_hears place) → n.key (label l) ≡ k → Turn n p k w (line_hears place) heard s
    hear_own k s reach sim fine key = by (message_sort (hear_head k s sim key).0.code)
      where
        by : Sorted (hear_head k s sim key).0.code → Turn n p k w (line_hears place) heard s
        by (plain-message plain) =
            let x = hear_head k s sim key in
            let step =
            hear_step sim.name x.0.code s.line sim.line_place x.1
            (line-hears w.line g.line w.count (from l.origin sim.name) sim.name x.0.code place sim.line_place s.line sim.active refl plain (hear_means k s sim fine key plain) sim.line) in
            own-moves k s sim key x.0 step.0 step.1
        by (a-request d kind q eq) = let x = hear_head k s sim key in own-asked k s sim reach key x.0 x.1 d kind q eq

    -- of another
    hear_other : (k : K) (s : R.Net) → Sim n k w s → Fine n k w (line_hears place) → (n.key (label l) ≡ k → ⊥) → Turn n p k w (line_hears place) heard s
    hear_other k s sim fine d =
        let apart : (n.key (label_of (worded l m)) ≡ k → ⊥) = λ q. d (sym (ap n.key (worded-label l m l-kept)) ∙ q) in
        let whose = told.1.1.0 in
        let t = told.1.1.1.1.0 in
        let not : (n.key (label whose) ≡ k → ⊥) = λ q. by whose told.1.1.1.1.1.1 q in
        line_other g rest l hear_plan (λ whom. []) tells sim t hear_good
        (touched-other line_sight os rs l n k (line_change hear_plan.change) (λ q. not (sym (ap (key_of n) t.whom) ∙ q))) not
        (head-other tells k e apart) (unnoted n k w.history)
      where
        by : (other : Of Elements) → (other ≡ l) ⊎ ((i : ℕ) × (NotReq m × ((means ≡ Means.At i) × (other ≡ elements_at line_sight os rs i)))) → n.key (label other) ≡ k → ⊥
        by other (inl its) q = d (sym (ap (key_of n) its) ∙ q)
        by other (inr (i, (plain, (at, its)))) q =
            d (sym (ap n.key (worded-label l m l-kept)) ∙ ((fine.apart.atLine place (worded l m) rest refl e).its i (means-as plain ∙ at)).0 (sym (ap (key_of n) its) ∙ q))

    hear_turned : Turned n p w (line_hears place) heard
    hear_turned = (hear_good, λ k s r sim fine. by k s r sim fine (key? tells (n.key (label l)) k))
      where
        by : (k : K) (s : R.Net) → R.Reach p s → Sim n k w s → Fine n k w (line_hears place) → (n.key (label l) ≡ k) ⊎ (n.key (label l) ≡ k → ⊥) → Turn n p k w (line_hears place) heard s
        by k s r sim fine (inl key) = hear_own k s r sim fine key
        by k s r sim fine (inr d) = hear_other k s sim fine d

  pub line_hear : (place : ℕ) (xs : List (Of Message)) → w.up ≡ xs → Worded (Asked w.history) xs → Turned n p w (line_hears place) (lineHeard w place xs)
  unfolding lineHeard
  line_hear place [] e quiet = unmoved g refl
  line_hear place (x ∷ rest) e (word l m taken clear others) =
      subst (Turned n p w (line_hears place)) (sym (heard-as place l m rest e taken clear others)) (hear_turned place l m rest e taken clear others)
