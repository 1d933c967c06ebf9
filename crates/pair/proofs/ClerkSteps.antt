-- Each step at the clerk's end is about the request whose record it touches, or whose message is delivered: it moves that request's net by the end's reading, and leaves every other.
use Rattle.lists.specs.declared.words.Words.{Words}
use Rattle.std.specs.Prelude.{Option, Some, None, Ok, Result}
use Prim.Native.Nat.{ℕ, ◌/◌}
use mathlib.Core.Path.{◌≡◌, refl, sym, ◌∙◌, ap, subst}
use mathlib.Core.Bool.{Bool, true, false, true≢false}
use mathlib.Core.Logic.{◌⊎◌, inl, inr}
use mathlib.Core.List.Memᴰ
use mathlib.Core.List.{List, [], ◌∷◌, ◌++◌, map}
use lib.ListN.{length, get_or}
use native.Mathlib.Omega.{arith}
use Rattle.lists.specs.Choice.{pick}
use Rattle.message.specs.declared.Message.{Message}
use Rattle.message.specs.declared.refusal.Refusal.{Refusal}
use Rattle.desk.specs.Letter.{letter_of}
use Rattle.desk.specs.Sends.{no_number}
use Rattle.desk.specs.declared.letter.Letter.{Letter}
use Rattle.desk.specs.declared.sends.Elements.{Elements}
use Rattle.terms.specs.Terms.{elements_of}
use Rattle.terms.specs.Request.{letter_names}
use Rattle.terms.specs.declared.means.Means.{Means}
use Rattle.terms.specs.declared.request.Name.{Name}
use Rattle.terms.specs.declared.request.Names.{Names}
use Rattle.terms.specs.declared.request.Request.{Request}
use Rattle.places.specs.Places as P
use Rattle.clerk_table.specs.Inputs.{names_of}
use Rattle.clerk_table.specs.declared.inputs.Act.{Act}
use Rattle.clerk_table.specs.declared.inputs.Input.{Input}
use Rattle.clerk_table.specs.declared.record.Change.{Change}
use Rattle.clerk_table.specs.declared.record.Change.TheVariants.{Stay}
use Rattle.desk.specs.declared.plan.Plan.{Plan}
use Rattle.clerk_table.specs.declared.record.Record.{Record}
use Rattle.clerk_table.specs.declared.table.Timer.{Timer}
use Rattle.clerk_table.specs.declared.table.Timer.TheVariants.{T1, T2, T3}
use Rattle.clerk_records.specs.Records.{blank, records, used, records_after, applied}
use Rattle.clerk_records.specs.Deadlines.{timed}
use Rattle.clerk_records.specs.Meaning.{fitting, meaning}
use Rattle.clerk_records.proofs.MeaningLaws.{meaning-used}
use Rattle.clerk_plan.specs.Plan.{plan_for}
use Rattle.clerk.specs.Entry.{message_entry}
use Rattle.clerk.specs.Steps.{made, step, entered}
use Rattle.clerk_sound.specs.Sound as Clerk
use Rattle.clerk_sound.specs.Sound.{clerk_view}
use Rattle.clerk_sound.proofs.Start.{blank-unused}
use Rattle.clerk_sound.proofs.Reaching.{reached-sound}
use Rattle.pair_request.specs.Signal.{Signal}
use Rattle.pair_request.specs.Reading as R
use Rattle.pair_request.specs.Listed.{NoReq}
use Rattle.pair_request.proofs.Effects.{clerk-act-effect, act-plain, clerk-take-effect, take-plain}
use Rattle.pair_request.proofs.Agree.{Agrees, before, early-waiting, early-absent, after, agreed}
use Rattle.pair.specs.World.{Of, from, Naming, Note, World, Event, clerk_does, clerk_is_told, clerk_hears, name_of, new_label, label_of, clerk_change, storing, touched, clerk_stepped, clerkHeard, clerk_notes, signal_letter, signal_entry, Allowed, by_place, clerk_means}
use Rattle.pair.specs.Demand3.{About, same}
use Rattle.pair.proofs.Keys.{Tells, key?}
use Rattle.pair.proofs.Sits.{Sight, label, key_of, elements_at, there, Its, Touches, sits_at, sits_mine, touches_whom, touches_never, speaks, touches_speaks, speaks-name, speaks-own, touched-other, not-one}
use Rattle.pair.proofs.Ends.{clerk_sight, clerk_read, line_read, letter_read, set_of, message_read, Clear, KeptName, Kept, ask_elements, data_of, ask_read, ClerkStep}
use Rattle.pair.proofs.Letters.{letter-name, clear-name, sent-name, by_place_lem, ask-kept, clear-ask}
use Rattle.pair.proofs.Means.{meaning_in, Meant, own-means}
use Rattle.pair.proofs.Readable.{clerk-reads}
use Rattle.pair.proofs.Changes.{Own, stays}
use Rattle.pair.proofs.ClerkEnd.{leaves as left, Says, clerk-its, ready_for, Heard, replies, turns-row, Acted, refuses, takes-row, clerk-meaning, clerk-fitting, plan-step, clerk-hears, clerk-heard, clerk-acts, clerk-reports, AskStep, refused, stored, clerk-asks}
use Rattle.pair.proofs.Signals.{clerk-told}
use Rattle.pair.proofs.Wires.{Headed, AllClear, no-message, one_more, plain-clear, Worded, quiet, word, worded, worded-label, head-own, head-other, append_none}
use Rattle.pair.proofs.Notes.{knows_false, Notes, unnoted, unnoted-other, noted-ask, noted-timer}
use Rattle.pair.proofs.Sim.{about-touched, about-head, Taken, Asked, asked-still, Good, Sim, Fine, about, leaves, moves, Turn, Turned, Grows, grows_not, grows_by, grows_ask, clerk_made, ClerkTold, clerk-good, clerk-own, clerk-other}

-- ---- a step that changes nothing
pub unmoved : {K : Type 0} {n : Naming K} {p : R.Policy} {w : World} {e : Event} {after : World} → Good p w → after ≡ w → Turned n p w e after
unmoved {n = n} {p} {w} {e} g q =
    subst (Turned n p w e) (sym q) (g, λ k s r sim fine. leaves (record { clerk = refl; line = same; up = refl; down = refl }) sim)

clerk-same :
    (w : World) (given : Of Elements) (plan : Plan Change) (notes : List (Of (Option Words)) → List Note) → plan.change ≡ Stay → plan.outcome.at ≡ None → plan.outcome.sending ≡ None → notes [] ≡ [] →
    clerk_made w w.down given plan notes ≡ w
unfolding applied timed
clerk-same w given plan notes e a s none = rw (e, a, s, none, append_none w.up)

-- ---- the history after a timer's report
timer_grows : (b : Bool) (l : Of (Option Words)) (h : List Note) → Grows h (pick b (Note.run_out l ∷ []) [] ++ h)
timer_grows true l h = grows_by (Note.run_out l) h (λ x e. let z : ◌≡◌ {A = ℕ} 0 1 = cc in omega (arith, z))
timer_grows false l h = grows_not h

timer-noted : {K : Type 0} (n : Naming K) (k : K) (b : Bool) (l : Of (Option Words)) (h : List Note) → n.key l ≡ k → Notes n k (pick b (Note.run_out l ∷ []) [] ++ h) h false b false false
timer-noted n k true l h e = noted-timer n k l h e
timer-noted n k false l h e = unnoted n k h

timer-unnoted : {K : Type 0} (n : Naming K) (k : K) (b : Bool) (l : Of (Option Words)) (h : List Note) → (n.key l ≡ k → ⊥) → Notes n k (pick b (Note.run_out l ∷ []) [] ++ h) h false false false false
timer-unnoted n k true l h d = unnoted-other n k (Note.run_out l) h d
timer-unnoted n k false l h d = unnoted n k h

-- a request that was not taken up is nowhere
emptied : {y : Bool} {c : R.Clerk} {u v : List R.Msg} {l : R.Line} {a : Bool} → Agrees y c u l v a → y ≡ false → (c ≡ R.absent) × ((l ≡ R.none) × ((u ≡ []) × (v ≡ [])))
emptied before e = (refl, (refl, (refl, refl)))
emptied (early-waiting h w) e = absurd (true≢false e)
emptied (early-absent h w) e = absurd (true≢false e)
emptied (after f h w k l v) e = absurd (true≢false e)

module _ {K : Type 0} {n : Naming K} (tells : Tells n) {p : R.Policy} {w : World} (g : Good p w) where
  abbrev rs : List Record
  rs = records w.clerk.words

  abbrev os : List ℕ
  os = w.clerk_origins

  -- the record at a used place, as it is read
  read_at : (i : ℕ) → used (get_or rs i blank) ≡ true → (c : R.Clerk) × (P.one (get_or rs i blank) ≡ clerk_read (elements_of (get_or rs i blank).terms) c)
  read_at i u = clerk-reads (get_or rs i blank) ((reached-sound w.clerk g.clerk).each i u) u

  -- a row taken for the record at a place, as it is read there
  row_told :
      (given : Of Elements) (plan : Plan Change) (ans : R.Clerk → R.CAnswer) → ((c : R.Clerk) → NoReq (ans c).1) → (i : ℕ) → used (get_or rs i blank) ≡ true → Touches i (clerk_change plan.change) →
      Own clerk_sight rs (Some i) (clerk_change plan.change) (records_after rs plan.change) (left plan.change (P.one (get_or rs i blank))) →
      ((y : Elements) (c : R.Clerk) → P.one (get_or rs i blank) ≡ clerk_read y c → Says y plan (P.one (get_or rs i blank)) (ans c)) →
      (j : Elements) (c : R.Clerk) (f : Option ℕ) → f ≡ Some i → P.one (get_or rs i blank) ≡ clerk_read j c →
      ClerkTold w given f plan (clerk_read j (ans c).0) (elements_at clerk_sight os rs i) (ans c).1
  row_told given plan ans plain i u touches own says j c f at h =
      let whose = elements_at clerk_sight os rs i in
      let its = subst (Its clerk_sight j) (sym h) (clerk-its j c) in
      let s = plan-step w.clerk g.clerk w.count given (Some i) j plan (ans c) own its (says j c h) (λ m q. touches_never touches q) in
      subst (λ (y : Option ℕ). ClerkTold w given y plan (clerk_read j (ans c).0) whose (ans c).1) (sym at)
      (record {
        did = s.did;
        whom = touches_speaks clerk_sight os rs given touches;
        sends = s.sends ∙ ap (λ (y : Elements). map (message_read y) (ans c).1) (sym its.1);
        clear = plain-clear whose.it (ans c).1 (plain c) (g.clerk_labels i u).1;
      })

  -- ---- an act, a timer's report, a signal
  module _ (e : Event) (given : Of Elements) (x : R.CAct) (input : Input) (notes : List (Of (Option Words)) → List Note) (fair : Clerk.Fair input)
      (none : notes [] ≡ []) (one : (l : Of (Option Words)) → notes (l ∷ []) ≡ pick (R.is_t1_or_t2 x) (Note.run_out l ∷ []) [])
      (named : (l : Of (Option Words)) → touched clerk_view os rs (label given) (clerk_change (plan_for rs input).change) ≡ l ∷ [] → About n w e (n.key l)) where
    abbrev plan : Plan Change
    plan = plan_for rs input

    abbrev acted : World
    acted = clerk_made w w.down given plan notes

    act-reached : Clerk.Reached (made w.clerk w.count plan).desk
    unfolding step
    act-reached = Clerk.steps w.count fair g.clerk

    -- taken for the record at a place
    module _ (i : ℕ) (u : used (get_or rs i blank) ≡ true) (touches : Touches i (clerk_change plan.change))
        (own : Own clerk_sight rs (Some i) (clerk_change plan.change) (records_after rs plan.change) (left plan.change (P.one (get_or rs i blank))))
        (says : (j : Elements) (c : R.Clerk) → P.one (get_or rs i blank) ≡ clerk_read j c → Says j plan (P.one (get_or rs i blank)) (R.clerk_acts c x) × (R.runs_out c x ≡ R.is_t1_or_t2 x)) where
      abbrev whose : Of Elements
      whose = elements_at clerk_sight os rs i

      taken-up : Asked w.history whose
      taken-up = g.clerk_labels i u

      act-history : acted.history ≡ pick (R.is_t1_or_t2 x) (Note.run_out (label whose) ∷ []) [] ++ w.history
      act-history = ap (λ (h : List Note). h ++ w.history) (ap notes (touches_whom clerk_sight os rs given touches) ∙ one (label whose))

      act-told :
          (j : Elements) (c : R.Clerk) (f : Option ℕ) → f ≡ Some i → P.one (get_or rs i blank) ≡ clerk_read j c →
          ClerkTold w given f plan (clerk_read j (R.clerk_acts c x).0) whose (R.clerk_acts c x).1
      act-told = row_told given plan (λ c. R.clerk_acts c x) (λ c. act-plain (clerk-act-effect c x)) i u touches own (λ y c h. (says y c h).0)

      act-good : Good p acted
      act-good =
          let read = read_at i u in
          let grows = subst (Grows w.history) (sym act-history) (timer_grows (R.is_t1_or_t2 x) (label whose) w.history) in
          clerk-good g w.down given plan notes (act-told whose.it read.0 (Some i) refl read.1) act-reached g.down grows (asked-still grows whose taken-up)
          (λ m q. touches_never touches q)

      act-turn : (k : K) (s : R.Net) → Sim n k w s → (n.key (label whose) ≡ k) ⊎ (n.key (label whose) ≡ k → ⊥) → Turn n p k w e acted s
      unfolding R.next
      act-turn k s sim (inl key) =
          let at = sits_at clerk_sight n k sim.clerk_sits i (u, key) in
          let read : P.one (get_or rs i blank) ≡ clerk_read sim.name s.clerk = ap (there clerk_sight rs) (sym at) ∙ sim.clerk in
          let noted : Notes n k acted.history w.history false (R.runs_out s.clerk x) false false =
          subst (λ (h : List Note). Notes n k h w.history false (R.runs_out s.clerk x) false false) (sym act-history)
          (subst (λ (b : Bool). Notes n k (pick (R.is_t1_or_t2 x) (Note.run_out (label whose) ∷ []) [] ++ w.history) w.history false b false false) (sym (says sim.name s.clerk read).1)
          (timer-noted n k (R.is_t1_or_t2 x) (label whose) w.history key)) in
          moves (about (subst (About n w e) key (named (label whose) (touches_whom clerk_sight os rs given touches)))) (R.clerk_does x) tt
          (clerk-own g w.down given plan notes tells sim (act-told sim.name s.clerk sim.clerk_place at read) key
          (subst (Its clerk_sight sim.name) (sym read) (clerk-its sim.name s.clerk)).1 (λ m q. touches_never touches q) sim.down sim.down_clear noted sim.kept)
      act-turn k s sim (inr d) =
          let read = read_at i u in
          clerk-other g w.down given plan notes tells sim (act-told whose.it read.0 (Some i) refl read.1) act-good
          (touched-other clerk_sight os rs given n k (clerk_change plan.change) (λ q. d (sym (ap (key_of n) (touches_speaks clerk_sight os rs given touches)) ∙ q))) d refl
          (subst (λ (h : List Note). Notes n k h w.history false false false false) (sym act-history) (timer-unnoted n k (R.is_t1_or_t2 x) (label whose) w.history d))

    acting : Acted rs x plan → Turned n p w e acted
    acting (refuses stay nowhere silent) = unmoved g (clerk-same w given plan notes stay nowhere silent none)
    acting (takes-row i u touches own says) =
        (act-good i u touches own says, λ k s r sim fine. act-turn i u touches own says k s sim (key? tells (n.key (label (elements_at clerk_sight os rs i))) k))

  -- the steps of a host, as the world makes them
  host_made : (given : Of Elements) (input : Input) (notes : List (Of (Option Words)) → List Note) → clerk_stepped w w.down (label given) (Ok input) notes ≡ clerk_made w w.down given (plan_for rs input) notes
  unfolding entered step
  host_made given input notes = refl

  -- what is put in for a request that is there has no elements of its own
  abbrev bare : Option Words → Of Elements
  bare identifier = from (length w.history) (record { identifier = identifier; numberA = no_number; numberB = no_number; service = 0 })

  clerk-act : (name : Name) (act : Act) → Turned n p w (clerk_does (Input.Act name act)) (clerk_made w w.down (bare name.identifier) (plan_for rs (Input.Act name act)) (clerk_notes (Input.Act name act)))
  clerk-act name act =
      acting (clerk_does (Input.Act name act)) (bare name.identifier) (R.act act) (Input.Act name act) (clerk_notes (Input.Act name act)) (Clerk.acts name act) refl (λ l. refl) (λ l q. about-touched n q)
      (clerk-acts w.clerk g.clerk w.count name act)

  timer-notes : (name : Name) (timer : Timer) → (clerk_notes (Input.Timer name timer) [] ≡ []) × ((l : Of (Option Words)) → clerk_notes (Input.Timer name timer) (l ∷ []) ≡ pick (R.is_t1_or_t2 (R.timer timer)) (Note.run_out l ∷ []) [])
  timer-notes name T1 = (refl, λ l. refl)
  timer-notes name T2 = (refl, λ l. refl)
  timer-notes name T3 = (refl, λ l. refl)

  clerk-timer : (name : Name) (timer : Timer) → Turned n p w (clerk_does (Input.Timer name timer)) (clerk_made w w.down (bare name.identifier) (plan_for rs (Input.Timer name timer)) (clerk_notes (Input.Timer name timer)))
  clerk-timer name timer =
      let notes = timer-notes name timer in
      acting (clerk_does (Input.Timer name timer)) (bare name.identifier) (R.timer timer) (Input.Timer name timer) (clerk_notes (Input.Timer name timer)) (Clerk.times name timer) notes.0 notes.1 (λ l q. about-touched n q)
      (clerk-reports w.clerk g.clerk w.count name timer)

  pub clerk-tells : (x : Signal) (name : Name) (busy : Bool) → Turned n p w (clerk_is_told x name busy) (clerk_stepped w w.down (new_label w name.identifier) (signal_entry x name busy) (λ whom. []))
  clerk-tells x name busy =
      let input = Input.Message (signal_letter x name.identifier) busy name.place in
      let given = bare name.identifier in
      subst (Turned n p w (clerk_is_told x name busy)) (sym (host_made given input (λ whom. [])))
      (acting (clerk_is_told x name busy) given (R.signal x) input (λ whom. []) (Clerk.hears (signal_letter x name.identifier) busy name.place) refl (λ l. refl) (λ l q. about-touched n q)
      (clerk-told rs name x busy))

  -- ---- an ask
  module _ (names : Names) (q : Request) (allowed : Allowed w (clerk_does (Input.Ask names q))) where
    abbrev ask : Input
    ask = Input.Ask names q

    abbrev its : Of Elements
    its = from (length w.history) (ask_elements names q)

    abbrev answer : R.CAnswer
    answer = (R.waiting (data_of q) q.kind, ask_read q ∷ [])

    abbrev asked : World
    asked = clerk_made w w.down its (plan_for rs ask) (clerk_notes ask)

    fair : Clerk.Fair ask
    fair = allowed.asked names q refl

    clear : Clear (ask_elements names q) (ask_read q)
    clear = clear-ask names q fair

    kept : Kept (ask_elements names q)
    kept = (ask-kept names q fair).0

    ask-reached : Clerk.Reached (made w.clerk w.count (plan_for rs ask)).desk
    unfolding step
    ask-reached = Clerk.steps w.count fair g.clerk

    module _ (i : ℕ) (touch : clerk_change (plan_for rs ask).change ≡ storing i) (zero : (plan_for rs ask).outcome.refusal ≡ None)
        (steps : (given : Of Elements) → given.it ≡ ask_elements names q → ClerkStep w.clerk w.count given None (plan_for rs ask) (ask_elements names q) answer) where
      whom : touched clerk_view os rs (label its) (clerk_change (plan_for rs ask).change) ≡ label its ∷ []
      whom = ap (touched clerk_view os rs (label its)) touch

      ask-history : asked.history ≡ Note.taken_up (label its) ∷ w.history
      ask-history = ap (λ (ls : List (Of (Option Words))). map Note.taken_up ls ++ w.history) whom

      ask-told : ClerkTold w its None (plan_for rs ask) (clerk_read (ask_elements names q) answer.0) its answer.1
      ask-told =
          let s = steps its refl in
          record { did = s.did; whom = ap (speaks clerk_sight os rs its) touch; sends = s.sends; clear = one_more clear no-message }

      its-taken : Asked asked.history its
      its-taken = (subst (λ (h : List Note). Taken h (label its)) (sym ask-history) (Memᴰ.head refl), kept)

      ask-good : Good p asked
      ask-good =
          clerk-good g w.down its (plan_for rs ask) (clerk_notes ask) ask-told ask-reached g.down
          (subst (Grows w.history) (sym ask-history) (grows_ask names.identifier w.history)) its-taken (λ m e. its-taken)

      -- a new request: its net is empty
      new-place : {A : Type 0} (v : Sight A) (xs : List A) (f : Option ℕ) → there v xs f ≡ P.none → f ≡ None
      new-place v xs None e = refl
      new-place v xs (Some m) e = not-one (sym e)

      unnamed : {k : K} {s : R.Net} → R.Reach p s → (sim : Sim n k w s) → s.used ≡ false → (y : Sim n k w s) × ((y.name ≡ ask_elements names q) × (y.clerk_place ≡ None))
      unnamed {k} {s} r sim e =
          let none = emptied (agreed r) e in
          let place = new-place clerk_sight rs sim.clerk_place (sim.clerk ∙ ap (clerk_read sim.name) none.0) in (
            record {
              name = ask_elements names q;
              clerk_place = sim.clerk_place;
              clerk_sits = sim.clerk_sits;
              clerk = sim.clerk ∙ ap (clerk_read sim.name) none.0 ∙ sym (ap (clerk_read (ask_elements names q)) none.0);
              line_place = sim.line_place;
              line_sits = sim.line_sits;
              active = sim.active;
              line = sim.line ∙ ap (line_read sim.name sim.active) none.1.0 ∙ sym (ap (line_read (ask_elements names q) sim.active) none.1.0);
              up = sim.up ∙ ap (map (message_read sim.name)) none.1.1.0 ∙ sym (ap (map (message_read (ask_elements names q))) none.1.1.0);
              down = sim.down ∙ ap (map (message_read sim.name)) none.1.1.1 ∙ sym (ap (map (message_read (ask_elements names q))) none.1.1.1);
              up_clear = subst (AllClear (ask_elements names q)) (sym none.1.1.0) no-message;
              down_clear = subst (AllClear (ask_elements names q)) (sym none.1.1.1) no-message;
              kept = λ t. kept;
              used = sim.used;
              timed_out = sim.timed_out;
              guarded = sim.guarded;
              dropped = sim.dropped;
            },
            (refl, place),
          )

      ask-own : (k : K) (s : R.Net) → s.used ≡ false → (sim : Sim n k w s) → sim.name ≡ ask_elements names q → sim.clerk_place ≡ None → n.key (label its) ≡ k → Turn n p k w (clerk_does ask) asked s
      unfolding R.next R.ask_step
      ask-own k s fresh sim name place key =
          let told = subst (λ (f : Option ℕ). ClerkTold w its f (plan_for rs ask) (clerk_read (ask_elements names q) answer.0) its answer.1) (sym place) ask-told in
          let mine = subst (λ (j : Elements). ClerkTold w its sim.clerk_place (plan_for rs ask) (clerk_read j answer.0) its answer.1) (sym name) told in
          let noted = subst (λ (h : List Note). Notes n k h w.history true false false false) (sym ask-history) (noted-ask n k (label its) w.history key) in
          moves (about (subst (About n w (clerk_does ask)) key (about-touched n whom))) (R.asks (data_of q) q.kind (q.flags / 2)) tt
          (rw fresh
          (clerk-own g w.down its (plan_for rs ask) (clerk_notes ask) tells sim mine key (sym name) (λ m e. key) sim.down sim.down_clear noted
          (λ e. subst Kept (sym name) kept)))

      ask-turn : (k : K) (s : R.Net) → R.Reach p s → Sim n k w s → Fine n k w (clerk_does ask) → (n.key (label its) ≡ k) ⊎ (n.key (label its) ≡ k → ⊥) → Turn n p k w (clerk_does ask) asked s
      unfolding step
      ask-turn k s r sim fine (inl key) =
          let fresh = knows_false n k s.used sim.used (fine.fresh names q refl zero key) in
          let y = unnamed r sim fresh in
          ask-own k s fresh y.0 y.1.0 y.1.1 key
      ask-turn k s r sim fine (inr d) =
          clerk-other g w.down its (plan_for rs ask) (clerk_notes ask) tells sim ask-told ask-good
          (λ l e h. d (ap (λ (ls : List (Of (Option Words))). n.key (get_or ls 0 (label its))) (sym whom ∙ e) ∙ h)) d refl
          (subst (λ (h : List Note). Notes n k h w.history false false false false) (sym ask-history) (unnoted-other n k (Note.taken_up (label its)) w.history d))

    clerk-ask : AskStep w.clerk w.count names q (plan_for rs ask) → Turned n p w (clerk_does ask) asked
    clerk-ask (refused stay nowhere silent) = unmoved g (clerk-same w its (plan_for rs ask) (clerk_notes ask) stay nowhere silent refl)
    clerk-ask (stored i touch zero steps) =
        (ask-good i touch zero steps, λ k s r sim fine. ask-turn i touch zero steps k s r sim fine (key? tells (n.key (label its)) k))

  -- ---- every input that a host gives
  pub clerk_does_lem :
      (input : Input) → Allowed w (clerk_does input) →
      Turned n p w (clerk_does input) (clerk_stepped w w.down (new_label w (names_of input).identifier) (Ok input) (clerk_notes input))
  clerk_does_lem (Input.Ask names q) allowed =
      subst (Turned n p w (clerk_does (Input.Ask names q))) (sym (host_made (from (length w.history) (ask_elements names q)) (Input.Ask names q) (clerk_notes (Input.Ask names q))))
      (clerk-ask names q allowed (clerk-asks w.clerk g.clerk w.count names q))
  clerk_does_lem (Input.Message l busy place) never = absurd (never.toClerk l busy place refl)
  clerk_does_lem (Input.Act name act) allowed =
      subst (Turned n p w (clerk_does (Input.Act name act))) (sym (host_made (bare name.identifier) (Input.Act name act) (clerk_notes (Input.Act name act)))) (clerk-act name act)
  clerk_does_lem (Input.Timer name timer) allowed =
      subst (Turned n p w (clerk_does (Input.Timer name timer))) (sym (host_made (bare name.identifier) (Input.Timer name timer) (clerk_notes (Input.Timer name timer)))) (clerk-timer name timer)

  -- ---- a message delivered
  module _ (busy : Bool) (place : ℕ) (l : Of Elements) (m : R.Msg) (rest : List (Of Message)) (e : w.down ≡ worded l m ∷ rest) (taken : Asked w.history l) (clear : Clear l.it m) (others : Worded (Asked w.history) rest) where
    abbrev hears : Input
    hears = Input.Message (letter_read l.it m) busy place

    abbrev hear_plan : Plan Change
    hear_plan = plan_for rs hears

    abbrev heard : World
    heard = clerk_made w rest l hear_plan (λ whom. [])

    l-kept : KeptName l.it.identifier
    l-kept = clear-name l.it m clear

    pub entry-as : message_entry (message_read l.it m) busy place ≡ Ok hears
    unfolding message_entry
    entry-as = rw (clear.ranged, clear.back)

    heard-as : clerkHeard w busy place (worded l m ∷ rest) ≡ heard
    unfolding clerkHeard entered step
    heard-as =
        ap (λ (x : Of (Option Words)). clerk_stepped w rest x (message_entry (message_read l.it m) busy place) (λ whom. [])) (worded-label l m l-kept)
        ∙ ap (λ (x : Result Input Refusal). clerk_stepped w rest (label l) x (λ whom. [])) entry-as

    -- the record that the message means, as the premise speaks of it
    abbrev means : Means
    means = meaning (letter_read l.it m) place rs

    means-as : clerk_means w (message_read l.it m) place ≡ means
    means-as = ap (λ (x : Letter). meaning x place rs) clear.back

    hear_reached : Clerk.Reached (made w.clerk w.count hear_plan).desk
    unfolding step
    hear_reached = Clerk.steps w.count (Clerk.hears (letter_read l.it m) busy place) g.clerk

    head-key : {k : K} → n.key (label l) ≡ k → n.key (label_of (worded l m)) ≡ k
    head-key key = ap n.key (worded-label l m l-kept) ∙ key

    -- what the step did, and for whom: it replied for the message, or took a row for the record that is meant
    abbrev Told : Type 0
    Told =
        (f : Option ℕ) × ((left : P.Held Record) × ((whose : Of Elements) × ((ms : List R.Msg) ×
        (ClerkTold w l f hear_plan left whose ms × (Asked w.history whose × ((whose ≡ l) ⊎ ((i : ℕ) × ((means ≡ Means.At i) × (whose ≡ elements_at clerk_sight os rs i)))))))))

    hear_told : Heard rs l.it m busy means hear_plan → Told
    hear_told (replies ms stay sends plain) =
        let own = subst (λ (c : Change). Own clerk_sight rs None (clerk_change c) (records_after rs c) (left c P.none)) (sym stay) stays in
        let says : Says l.it hear_plan P.none (R.absent, ms) = (ap (λ (c : Change). left c P.none) stay, sends) in
        let s = plan-step w.clerk g.clerk w.count l None l.it hear_plan (R.absent, ms) own tt says (λ i q. refl) in (
          None,
          (
            P.none,
            (
              l,
              (
                ms,
                (
                  record { did = s.did; whom = ap (λ (c : Change). speaks clerk_sight os rs l (clerk_change c)) stay; sends = sends; clear = plain-clear l.it ms plain taken.1 },
                  (taken, inl refl),
                ),
              ),
            ),
          ),
        )
    hear_told (turns-row i at touches own says) =
        let u = meaning-used (letter_read l.it m) place rs i at in
        let read = read_at i u in
        let whose = elements_at clerk_sight os rs i in
        let ans : R.Clerk → R.CAnswer = λ c. R.clerk_takes c m busy in (
          Some i,
          (
            clerk_read whose.it (ans read.0).0,
            (
              whose,
              (
                (ans read.0).1,
                (
                  row_told l hear_plan ans (λ c. take-plain (clerk-take-effect c m busy)) i u touches own says whose.it read.0 (Some i) refl read.1,
                  (g.clerk_labels i u, inr (i, (at, refl))),
                ),
              ),
            ),
          ),
        )

    told : Told
    told = hear_told (clerk-heard w.clerk g.clerk w.count l.it m busy place)

    hear_good : Good p heard
    hear_good = clerk-good g rest l hear_plan (λ whom. []) told.1.1.1.1.0 hear_reached others (grows_not w.history) told.1.1.1.1.1.0 (λ i q. taken)

    -- the head of the wire is the head of the request's net, and it means its record, or finds it late, or there is none
    pub hear_head :
        (k : K) (s : R.Net) (sim : Sim n k w s) → Fine n k w (clerk_hears busy place) → n.key (label l) ≡ k →
        (h : Headed n k sim.name (worded l m) rest s.down) ×
        ((letter_read l.it m ≡ letter_read sim.name h.code) ×
        Meant clerk_sight rs (set_of sim.name h.code) (ready_for sim.name h.code) sim.clerk_place (meaning (letter_read sim.name h.code) place rs))
    hear_head k s sim fine key =
        let h = head-own tells k e (head-key key) sim.down_clear sim.down in
        let j = sim.name in
        let letter : letter_read l.it m ≡ letter_read j h.code = sym clear.back ∙ ap letter_of h.same ∙ h.clear.back in
        let apart = fine.apart.atClerk busy place (worded l m) rest refl e in
        let its = subst (Its clerk_sight j) (sym sim.clerk) (clerk-its j s.clerk) in
        let as_said = clerk-meaning (letter_read j h.code) place rs ∙ ap (λ (x : Option Words). meaning_in clerk_sight x (set_of j h.code) (fitting (letter_names (letter_read j h.code))) (ready_for j h.code) place rs) (letter-name j h.code) in
        let meant =
        own-means clerk_sight blank-unused rs (fitting (letter_names (letter_read j h.code))) (ready_for j h.code) place n k os j (set_of j h.code)
        (clerk-fitting j h.code)
        (λ i q. (
          meaning-used (letter_read j h.code) place rs i (as_said ∙ q),
          (apart.its i (means-as ∙ ap (λ (x : Letter). meaning x place rs) letter ∙ as_said ∙ q)).1 (head-key key),
        ))
        sim.clerk_place sim.clerk_sits its
        (λ absent unset i q.
        let mine = sits_mine clerk_sight n k sim.clerk_sits i q in
        apart.named (ap by_place h.same ∙ by_place_lem j h.code absent unset) (head-key key) i mine.0 mine.1) in
        (h, (letter, subst (Meant clerk_sight rs (set_of j h.code) (ready_for j h.code) sim.clerk_place) (sym as_said) meant))

    -- of the request itself: what came in has its label
    label_same : (k : K) (s : R.Net) (sim : Sim n k w s) → Headed n k sim.name (worded l m) rest s.down → label l ≡ label (from l.origin sim.name)
    label_same k s sim h =
        ap (from l.origin) (sym (sent-name l.it m l-kept) ∙ ap name_of h.same ∙ sent-name sim.name h.code (clear-name sim.name h.code h.clear))

    heard-same : (given : Of Elements) → label l ≡ label given → heard ≡ clerk_made w rest given hear_plan (λ whom. [])
    unfolding entered step
    heard-same given q = ap (λ (x : Of (Option Words)). clerk_stepped w rest x (Ok hears) (λ whom. [])) q

    own-moves :
        (k : K) (s : R.Net) (sim : Sim n k w s) → n.key (label l) ≡ k → (h : Headed n k sim.name (worded l m) rest s.down) →
        ClerkStep w.clerk w.count (from l.origin sim.name) sim.clerk_place hear_plan sim.name (R.clerk_takes s.clerk h.code busy) → Turn n p k w (clerk_hears busy place) heard s
    unfolding R.next R.clerk_get_step
    own-moves k s sim key h step =
        let given = from l.origin sim.name in
        let q = label_same k s sim h in
        let mine : n.key (label given) ≡ k = ap n.key (sym q) ∙ key in
        let its = subst (Its clerk_sight sim.name) (sym sim.clerk) (clerk-its sim.name s.clerk) in
        let kept = sim.kept (sim.used.no (label l, (key, taken.0))) in
        let name = speaks-name clerk_sight os rs given step.did sim.name refl its in
        let ms = (R.clerk_takes s.clerk h.code busy).1 in
        let told : ClerkTold w given sim.clerk_place hear_plan (clerk_read sim.name (R.clerk_takes s.clerk h.code busy).0) (speaks clerk_sight os rs given (clerk_change hear_plan.change)) ms =
        record {
          did = step.did;
          whom = refl;
          sends = step.sends ∙ ap (λ (y : Elements). map (message_read y) ms) (sym name);
          clear = subst (λ (y : Elements). AllClear y ms) (sym name) (plain-clear sim.name ms (take-plain (clerk-take-effect s.clerk h.code busy)) kept);
        } in
        subst (λ (after : World). Turn n p k w (clerk_hears busy place) after s) (sym (heard-same given q))
        (moves (about (about-head n e (head-key key))) (R.clerk_gets busy) tt
        (subst (λ y. Sim n k (clerk_made w rest given hear_plan (λ whom. [])) (R.clerk_get_step s busy y)) (sym h.whole)
        (clerk-own g rest given hear_plan (λ whom. []) tells sim told (speaks-own clerk_sight os rs given n k step.did mine sim.clerk_sits) name (λ i q. mine) h.tail h.others
        (unnoted n k w.history) sim.kept)))

    hear_own : (k : K) (s : R.Net) → Sim n k w s → Fine n k w (clerk_hears busy place) → n.key (label l) ≡ k → Turn n p k w (clerk_hears busy place) heard s
    hear_own k s sim fine key =
        let x = hear_head k s sim fine key in
        own-moves k s sim key x.0
        (subst (λ (y : Letter). ClerkStep w.clerk w.count (from l.origin sim.name) sim.clerk_place (plan_for rs (Input.Message y busy place)) sim.name (R.clerk_takes s.clerk x.0.code busy)) (sym x.1.0)
        (clerk-hears w.clerk g.clerk w.count (from l.origin sim.name) sim.name x.0.code busy place s.clerk sim.clerk_place refl x.1.1 sim.clerk))

    -- of another
    hear_other : (k : K) (s : R.Net) → Sim n k w s → Fine n k w (clerk_hears busy place) → (n.key (label l) ≡ k → ⊥) → Turn n p k w (clerk_hears busy place) heard s
    hear_other k s sim fine d =
        let apart : (n.key (label_of (worded l m)) ≡ k → ⊥) = λ q. d (sym (ap n.key (worded-label l m l-kept)) ∙ q) in
        let whose = told.1.1.0 in
        let t = told.1.1.1.1.0 in
        let not : (n.key (label whose) ≡ k → ⊥) = λ q. by whose told.1.1.1.1.1.1 q in
        clerk-other g rest l hear_plan (λ whom. []) tells sim t hear_good
        (touched-other clerk_sight os rs l n k (clerk_change hear_plan.change) (λ q. not (sym (ap (key_of n) t.whom) ∙ q))) not
        (head-other tells k e apart) (unnoted n k w.history)
      where
        by : (other : Of Elements) → (other ≡ l) ⊎ ((i : ℕ) × ((means ≡ Means.At i) × (other ≡ elements_at clerk_sight os rs i))) → n.key (label other) ≡ k → ⊥
        by other (inl its) q = d (sym (ap (key_of n) its) ∙ q)
        by other (inr (i, (at, its))) q =
            d (sym (ap n.key (worded-label l m l-kept)) ∙ ((fine.apart.atClerk busy place (worded l m) rest refl e).its i (means-as ∙ at)).0 (sym (ap (key_of n) its) ∙ q))

    hear_turned : Turned n p w (clerk_hears busy place) heard
    hear_turned = (hear_good, λ k s r sim fine. by k s sim fine (key? tells (n.key (label l)) k))
      where
        by : (k : K) (s : R.Net) → Sim n k w s → Fine n k w (clerk_hears busy place) → (n.key (label l) ≡ k) ⊎ (n.key (label l) ≡ k → ⊥) → Turn n p k w (clerk_hears busy place) heard s
        by k s sim fine (inl key) = hear_own k s sim fine key
        by k s sim fine (inr d) = hear_other k s sim fine d

  pub clerk_hear : (busy : Bool) (place : ℕ) (xs : List (Of Message)) → w.down ≡ xs → Worded (Asked w.history) xs → Turned n p w (clerk_hears busy place) (clerkHeard w busy place xs)
  unfolding clerkHeard
  clerk_hear busy place [] e quiet = unmoved g refl
  clerk_hear busy place (x ∷ rest) e (word l m taken clear others) =
      subst (Turned n p w (clerk_hears busy place)) (sym (heard-as busy place l m rest e taken clear others)) (hear_turned busy place l m rest e taken clear others)
