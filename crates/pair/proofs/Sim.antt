-- One request's part of a world: where its records stand, its messages and its history, as a net of crate pair_request. A step is about one request, whose net it moves, or leaves it.
use Rattle.lists.specs.declared.words.Words.{Words}
use Rattle.std.specs.Prelude.{Option, None}
use Prim.Native.Nat.{ℕ, suc, ◌<◌}
use mathlib.Core.Path.{◌≡◌, refl, sym, ◌∙◌, ap, subst}
use mathlib.Core.Bool.{Bool, true, false}
use mathlib.Core.Logic.{◌⊎◌, inl, inr}
use mathlib.Core.List.Memᴰ
use mathlib.Core.List.{List, [], ◌∷◌, ◌++◌, map, Memᴰ as Noted}
use lib.ListN.{length, get_or, take}
use native.Mathlib.Omega.{arith}
use Rattle.desk.specs.declared.plan.Plan.{Plan}
use Rattle.desk.specs.declared.sends.Elements.{Elements}
use Rattle.message.specs.declared.Message.{Message}
use Rattle.terms.specs.declared.request.Names.{Names}
use Rattle.terms.specs.declared.request.Request.{Request}
use Rattle.places.specs.Places as P
use Rattle.clerk_table.specs.declared.inputs.Input.TheVariants as ClerkInput
use Rattle.clerk_table.specs.declared.record.Change as ClerkChanges
use Rattle.clerk_table.specs.declared.record.Record as ClerkRecord
use Rattle.clerk_records.specs.Records as ClerkRecords
use Rattle.clerk.specs.Steps as Clerk
use Rattle.clerk_sound.specs.Sound as ClerkSound
use Rattle.clerk_sound.specs.Sound.{clerk_view}
use Rattle.clerk_sound.proofs.Start as ClerkStart
use Rattle.line_table.specs.declared.record.Change as LineChanges
use Rattle.line_table.specs.declared.record.Record as LineRecord
use Rattle.line_records.specs.Records as LineRecords
use Rattle.line.specs.Steps as Line
use Rattle.line_sound.specs.Sound as LineSound
use Rattle.line_sound.specs.Sound.{line_view}
use Rattle.line_sound.proofs.Starting as LineStarting
use Rattle.pair_request.specs.Reading as R
use Rattle.pair.specs.World.{Of, from, Naming, Note, World, Event, clerk_does, line_hears, label_of, clerk_holds, line_holds, messages_of, Touch, storing, clerk_change, line_change, origins_after, touched, sent_by, KeptApart}
use Rattle.pair.specs.Demand3.{Heads, About, Drops, Unaltered, same}
use Rattle.pair.proofs.Keys.{Tells}
use Rattle.pair.proofs.Sits.{Sight, view, label, there, Did, Sits, All, sits_held, did-other, did-own, did-all, did-length, speaks, speaks-label}
use Rattle.pair.proofs.Ends.{clerk_sight, line_sight, clerk_read, line_read, message_read, Kept, policy_of}
use Rattle.pair.proofs.Wires.{AllClear, clear_append, Worded, worded, worded_append, worded-sent, worded-more, sent-worded, wire-own, wire-other}
use Rattle.pair.proofs.Notes.{Knows, ToldIn, Notes, Unnoted}

-- ---- what holds of every world of a run
-- an ask took up a label
abbrev pub Taken : List Note → Of (Option Words) → Type 0
Taken h l = Noted (Note.taken_up l) h

-- of a request that was taken up, with elements that their bytes give back
abbrev pub Asked : List Note → Of Elements → Type 0
Asked h l = Taken h (label l) × Kept l.it

-- both desks are reached, the settings are the start's, every record and every message is of a request that was taken up, and every message is as a desk sent it
pub record Good (p : R.Policy) (w : World) : Type 0 where
  pub clerk : ClerkSound.Reached w.clerk
  pub line : LineSound.Reached w.line
  pub policy : policy_of w.line.words ≡ p
  pub clerk_full : length w.clerk_origins ≡ length (ClerkRecords.records w.clerk.words)
  pub line_full : length w.line_origins ≡ length (LineRecords.records w.line.words)
  pub clerk_labels : All clerk_sight (Asked w.history) w.clerk_origins (ClerkRecords.records w.clerk.words)
  pub line_labels : All line_sight (Asked w.history) w.line_origins (LineRecords.records w.line.words)
  pub up : Worded (Asked w.history) w.up
  pub down : Worded (Asked w.history) w.down
  -- origins that were given
  pub taken : (l : Of (Option Words)) → Taken w.history l → l.origin < length w.history

-- ---- one request
pub record Sim {K : Type 0} (n : Naming K) (k : K) (w : World) (s : R.Net) : Type 0 where
  -- its identifier or that it has none, its numbers and its service
  pub name : Elements
  pub clerk_place : Option ℕ
  pub clerk_sits : Sits clerk_sight n k w.clerk_origins (ClerkRecords.records w.clerk.words) clerk_place
  pub clerk : there clerk_sight (ClerkRecords.records w.clerk.words) clerk_place ≡ clerk_read name s.clerk
  pub line_place : Option ℕ
  pub line_sits : Sits line_sight n k w.line_origins (LineRecords.records w.line.words) line_place
  pub active : Bool
  pub line : there line_sight (LineRecords.records w.line.words) line_place ≡ line_read name active s.line
  pub up : messages_of n k w.up ≡ map (message_read name) s.up
  pub down : messages_of n k w.down ≡ map (message_read name) s.down
  pub up_clear : AllClear name s.up
  pub down_clear : AllClear name s.down
  pub kept : s.used ≡ true → Kept name
  pub used : Knows n k Note.taken_up w.history s.used
  pub timed_out : Knows n k Note.run_out w.history s.timed_out
  pub guarded : Knows n k Note.guarded w.history s.guarded
  pub dropped : Knows n k Note.dropped w.history s.dropped

-- the premise of its steps: an ask that is taken is a new request, and it is kept apart
pub record Fine {K : Type 0} (n : Naming K) (k : K) (w : World) (e : Event) : Type 0 where
  pub fresh :
      (names : Names) (q : Request) → e ≡ clerk_does (ClerkInput.Ask names q) → (Clerk.step w.clerk w.count (ClerkInput.Ask names q)).outcome.refusal ≡ None →
      n.key (from (length w.history) names.identifier) ≡ k → ToldIn n k Note.taken_up w.history → ⊥
  pub apart : KeptApart n k w e

-- ---- what a step makes of a request
-- of one that it leaves: nothing, except that a busy report may mark its activity
pub record Left {K : Type 0} (n : Naming K) (k : K) (w : World) (e : Event) (after : World) : Type 0 where
  pub clerk : clerk_holds n after k ≡ clerk_holds n w k
  pub line : Unaltered e (line_holds n w k) (line_holds n after k)
  pub up : messages_of n k after.up ≡ messages_of n k w.up
  pub down : messages_of n k after.down ≡ messages_of n k w.down

-- only a delivery of the request's own message to the line is one in its net
abbrev pub Hearing : {K : Type 0} → Naming K → K → World → Event → R.Event → Type 0
Hearing n k w e (R.asks d kind q) = Unit
Hearing n k w e (R.clerk_does x) = Unit
Hearing n k w e (R.line_does x) = Unit
Hearing n k w e (R.clerk_gets busy) = Unit
Hearing n k w e (R.line_gets x) = (place : ℕ) × ((e ≡ line_hears place) × Heads n w.up k)
Hearing n k w e (R.loses_up i) = Unit
Hearing n k w e (R.loses_down i) = Unit

-- one that it is about is named, or loses a message and keeps its records
pub data Named {K : Type 0} (n : Naming K) (k : K) (w : World) (e : Event) (after : World) : Type 0 where
  about : About n w e k → Named n k w e after
  loses : Drops n w e k → clerk_holds n after k ≡ clerk_holds n w k → line_holds n after k ≡ line_holds n w k → Named n k w e after

-- and its net makes a step
pub data Turn {K : Type 0} (n : Naming K) (p : R.Policy) (k : K) (w : World) (e : Event) (after : World) (s : R.Net) : Type 0 where
  leaves : Left n k w e after → Sim n k after s → Turn n p k w e after s
  moves : Named n k w e after → (r : R.Event) → Hearing n k w e r → Sim n k after (R.next p s r) → Turn n p k w e after s

-- a good world stays good
abbrev pub Turned : {K : Type 0} → Naming K → R.Policy → World → Event → World → Type 0
Turned {K} n p w e after = Good p after × ((k : K) (s : R.Net) → R.Reach p s → Sim n k w s → Fine n k w e → Turn n p k w e after s)

-- who is touched, and whose message is the head of a wire, is whom a step is about
pub about-touched : {K : Type 0} (n : Naming K) {ls : List (Of (Option Words))} {l : Of (Option Words)} → ls ≡ l ∷ [] → Noted (n.key l) (map n.key ls)
about-touched n {l = l} e = subst (λ (xs : List (Of (Option Words))). Noted (n.key l) (map n.key xs)) (sym e) (Noted.head refl)

pub about-head :
    {K : Type 0} (n : Naming K) {k : K} {xs rest : List (Of Message)} {x : Of Message} → xs ≡ x ∷ rest → n.key (label_of x) ≡ k →
    Noted k (map n.key (map label_of (take 1 xs)))
about-head n {k} e key = subst (λ (ys : List (Of Message)). Noted k (map n.key (map label_of (take 1 ys)))) (sym e) (Noted.head (sym key))

-- ---- what is held is what stands there
pub clerk-held :
    {K : Type 0} {n : Naming K} (tells : Tells n) {k : K} {p : R.Policy} {w : World} {s : R.Net} → Good p w → (sim : Sim n k w s) →
    clerk_holds n w k ≡ there clerk_sight (ClerkRecords.records w.clerk.words) sim.clerk_place
clerk-held tells {k} {w = w} g sim =
    sits_held clerk_sight tells k w.clerk_origins (ClerkRecords.records w.clerk.words) sim.clerk_place g.clerk_full sim.clerk_sits ClerkStart.blank-unused

pub line-held :
    {K : Type 0} {n : Naming K} (tells : Tells n) {k : K} {p : R.Policy} {w : World} {s : R.Net} → Good p w → (sim : Sim n k w s) →
    line_holds n w k ≡ there line_sight (LineRecords.records w.line.words) sim.line_place
line-held tells {k} {w = w} g sim =
    sits_held line_sight tells k w.line_origins (LineRecords.records w.line.words) sim.line_place g.line_full sim.line_sits LineStarting.blank-unused

-- ---- a history that grows: what was taken up stays so, and what is taken up now is as it has to be
pub record Grows (before after : List Note) : Type 0 where
  pub still : (l : Of (Option Words)) → Taken before l → Taken after l
  pub fits : ((l : Of (Option Words)) → Taken before l → l.origin < length before) → (l : Of (Option Words)) → Taken after l → l.origin < length after

pub asked-still : {before after : List Note} → Grows before after → (l : Of Elements) → Asked before l → Asked after l
asked-still grows l a = (grows.still (label l) a.0, a.1)

pub grows_not : (h : List Note) → Grows h h
grows_not h = record { still = λ l m. m; fits = λ f. f }

-- by a note that takes up nothing
pub grows_by : (x : Note) (h : List Note) → ((l : Of (Option Words)) → Note.taken_up l ≡ x → ⊥) → Grows h (x ∷ h)
grows_by x h d = record { still = λ l m. Noted.tail m; fits = λ f l m. by f l (Memᴰ.cases_cons m) }
  where
    by : ((l : Of (Option Words)) → Taken h l → l.origin < length h) → (l : Of (Option Words)) → (Note.taken_up l ≡ x) ⊎ Taken h l → l.origin < suc (length h)
    by f l (inl e) = absurd (d l e)
    by f l (inr m) = let z = f l m in omega (arith, z)

abbrev pub label_in : Of (Option Words) → Note → Of (Option Words)
label_in other (Note.taken_up l) = l
label_in other (Note.dropped l) = other
label_in other (Note.run_out l) = other
label_in other (Note.guarded l) = other

pub grows_ask : (x : Option Words) (h : List Note) → Grows h (Note.taken_up (from (length h) x) ∷ h)
grows_ask x h = record { still = λ l m. Noted.tail m; fits = λ f l m. by f l (Memᴰ.cases_cons m) }
  where
    by :
        ((l : Of (Option Words)) → Taken h l → l.origin < length h) → (l : Of (Option Words)) → (Note.taken_up l ≡ Note.taken_up (from (length h) x)) ⊎ Taken h l →
        l.origin < suc (length h)
    by f l (inl e) =
        let q : l.origin ≡ length h = ap (λ (y : Of (Option Words)). y.origin) (ap (label_in l) e) in
        omega (arith, q)
    by f l (inr m) = let z = f l m in omega (arith, z)

-- ---- a step of the clerk's desk
-- whom the step speaks for, as the world has it
abbrev speaker : {A : Type 0} → Sight A → List ℕ → List A → Of Elements → Touch → ℕ
speaker v os rs given touch = (get_or (touched (view v) os rs (label given) touch) 0 (label given)).origin

-- the world after a plan that is made there
abbrev pub clerk_made : World → List (Of Message) → Of Elements → Plan ClerkChanges.Change → (List (Of (Option Words)) → List Note) → World
clerk_made w down given plan notes =
    let rs = ClerkRecords.records w.clerk.words in
    let touch = clerk_change plan.change in
    record {
      clerk = (Clerk.made w.clerk w.count plan).desk;
      clerk_origins = origins_after touch given.origin w.clerk_origins;
      up = w.up ++ map (from (speaker clerk_sight w.clerk_origins rs given touch)) (sent_by plan.outcome.sending);
      line = w.line;
      line_origins = w.line_origins;
      down = down;
      history = notes (touched clerk_view w.clerk_origins rs (label given) touch) ++ w.history;
      count = w.count;
    }

abbrev pub line_made : World → List (Of Message) → Of Elements → Plan LineChanges.Change → (List (Of (Option Words)) → List Note) → World
line_made w up given plan notes =
    let rs = LineRecords.records w.line.words in
    let touch = line_change plan.change in
    record {
      clerk = w.clerk;
      clerk_origins = w.clerk_origins;
      up = up;
      line = (Line.made w.line w.count plan).desk;
      line_origins = origins_after touch given.origin w.line_origins;
      down = w.down ++ map (from (speaker line_sight w.line_origins rs given touch)) (sent_by plan.outcome.sending);
      history = notes (touched line_view w.line_origins rs (label given) touch) ++ w.history;
      count = w.count;
    }

-- a step of the clerk's desk: what it did at a place, and what it sent for whom
pub record ClerkTold (w : World) (given : Of Elements) (f : Option ℕ) (plan : Plan ClerkChanges.Change) (left : P.Held ClerkRecord.Record) (l : Of Elements) (ms : List R.Msg) : Type 0 where
  pub did :
      Did clerk_sight (ClerkRecords.records w.clerk.words) given f (clerk_change plan.change) (ClerkRecords.records (Clerk.made w.clerk w.count plan).desk.words) left
  pub whom : speaks clerk_sight w.clerk_origins (ClerkRecords.records w.clerk.words) given (clerk_change plan.change) ≡ l
  pub sends : sent_by plan.outcome.sending ≡ map (message_read l.it) ms
  pub clear : AllClear l.it ms

module _ {p : R.Policy} {w : World} (g : Good p w) (down : List (Of Message)) (given : Of Elements) (plan : Plan ClerkChanges.Change) (notes : List (Of (Option Words)) → List Note) where
  abbrev clerks : List ClerkRecord.Record
  clerks = ClerkRecords.records w.clerk.words

  abbrev clerk_after : World
  clerk_after = clerk_made w down given plan notes

  clerk-sent :
      {f : Option ℕ} {left : P.Held ClerkRecord.Record} {l : Of Elements} {ms : List R.Msg} → ClerkTold w given f plan left l ms →
      map (from (speaker clerk_sight w.clerk_origins clerks given (clerk_change plan.change))) (sent_by plan.outcome.sending) ≡ map (worded l) ms
  clerk-sent {l = l} {ms} told =
      ap (λ (x : Of (Option Words)). map (from x.origin) (sent_by plan.outcome.sending)) (speaks-label clerk_sight w.clerk_origins clerks given (clerk_change plan.change))
      ∙ ap (λ (x : Of Elements). map (from x.origin) (sent_by plan.outcome.sending)) told.whom
      ∙ sent-worded l plan.outcome.sending ms told.sends

  pub clerk-good :
      {f : Option ℕ} {left : P.Held ClerkRecord.Record} {l : Of Elements} {ms : List R.Msg} → ClerkTold w given f plan left l ms → ClerkSound.Reached (Clerk.made w.clerk w.count plan).desk →
      Worded (Asked w.history) down → Grows w.history clerk_after.history → Asked clerk_after.history l →
      ((i : ℕ) → clerk_change plan.change ≡ storing i → Asked clerk_after.history given) → Good p clerk_after
  clerk-good {l = l} {ms} told reached heard grows its new =
      record {
        clerk = reached;
        line = g.line;
        policy = g.policy;
        clerk_full = did-length told.did given.origin w.clerk_origins g.clerk_full;
        line_full = g.line_full;
        clerk_labels =
            did-all clerk_sight (Asked clerk_after.history) w.clerk_origins clerks g.clerk_full ClerkStart.blank-unused told.did new
            (λ i u. asked-still grows _ (g.clerk_labels i u));
        line_labels = λ i u. asked-still grows _ (g.line_labels i u);
        up =
            worded_append (worded-more (asked-still grows) g.up)
            (subst (Worded (Asked clerk_after.history)) (sym (clerk-sent told)) (worded-sent l its told.clear));
        down = worded-more (asked-still grows) heard;
        taken = grows.fits g.taken;
      }

  module _ {K : Type 0} {n : Naming K} (tells : Tells n) {k : K} {s : R.Net} (sim : Sim n k w s) where
    -- the request's net after a step that is for it
    pub clerk-own :
        {answer : R.CAnswer} {l : Of Elements} {rest : List R.Msg} {u t : Bool} → ClerkTold w given sim.clerk_place plan (clerk_read sim.name answer.0) l answer.1 → n.key (label l) ≡ k → l.it ≡ sim.name →
        ((i : ℕ) → clerk_change plan.change ≡ storing i → n.key (label given) ≡ k) → messages_of n k down ≡ map (message_read sim.name) rest → AllClear sim.name rest →
        Notes n k clerk_after.history w.history u t false false → (R.or u s.used ≡ true → Kept sim.name) → Sim n k clerk_after (R.after_clerk s rest u t answer)
    clerk-own {answer} {l} told its name new heard clear noted kept =
        let after = did-own clerk_sight tells k ClerkStart.blank-unused w.clerk_origins clerks g.clerk_full told.did sim.clerk_sits new in
        let sent =
        wire-own tells k l w.up (map (from (speaker clerk_sight w.clerk_origins clerks given (clerk_change plan.change))) (sent_by plan.outcome.sending)) s.up answer.1 its
        (sim.up ∙ ap (λ (j : Elements). map (message_read j) s.up) (sym name)) (clerk-sent told) told.clear in
        record {
          name = sim.name;
          clerk_place = after.0;
          clerk_sits = after.1.0;
          clerk = after.1.1;
          line_place = sim.line_place;
          line_sits = sim.line_sits;
          active = sim.active;
          line = sim.line;
          up = sent ∙ ap (λ (j : Elements). map (message_read j) (s.up ++ answer.1)) name;
          down = heard;
          up_clear = clear_append sim.up_clear (subst (λ (j : Elements). AllClear j answer.1) name told.clear);
          down_clear = clear;
          kept = kept;
          used = noted.taken_up _ sim.used;
          timed_out = noted.run_out _ sim.timed_out;
          guarded = noted.guarded _ sim.guarded;
          dropped = noted.dropped _ sim.dropped;
        }

    -- and after a step that is for another, or for none: it is left
    pub clerk-other :
        {f : Option ℕ} {left : P.Held ClerkRecord.Record} {l : Of Elements} {ms : List R.Msg} {e : Event} → ClerkTold w given f plan left l ms → Good p clerk_after →
        ((x : Of (Option Words)) → touched clerk_view w.clerk_origins clerks (label given) (clerk_change plan.change) ≡ x ∷ [] → n.key x ≡ k → ⊥) → (n.key (label l) ≡ k → ⊥) →
        messages_of n k down ≡ messages_of n k w.down → Unnoted n k clerk_after.history w.history → Turn n p k w e clerk_after s
    clerk-other {l = l} {ms} {e} told good apart not heard noted =
        let after = did-other clerk_sight tells k ClerkStart.blank-unused w.clerk_origins clerks g.clerk_full told.did apart sim.clerk_sits in
        let sent =
        wire-other tells k l w.up (map (from (speaker clerk_sight w.clerk_origins clerks given (clerk_change plan.change))) (sent_by plan.outcome.sending)) ms not (clerk-sent told) told.clear in
        let still : Sim n k clerk_after s =
        record {
          name = sim.name;
          clerk_place = after.0;
          clerk_sits = after.1.0;
          clerk = after.1.1 ∙ sim.clerk;
          line_place = sim.line_place;
          line_sits = sim.line_sits;
          active = sim.active;
          line = sim.line;
          up = sent ∙ sim.up;
          down = heard ∙ sim.down;
          up_clear = sim.up_clear;
          down_clear = sim.down_clear;
          kept = sim.kept;
          used = noted.taken_up _ sim.used;
          timed_out = noted.run_out _ sim.timed_out;
          guarded = noted.guarded _ sim.guarded;
          dropped = noted.dropped _ sim.dropped;
        } in
        let clerk_same = clerk-held tells good still ∙ after.1.1 ∙ sym (clerk-held tells g sim) in
        leaves (record { clerk = clerk_same; line = same; up = sent; down = heard }) still

-- a step of the line desk: what it did at a place, and what it sent for whom
pub record LineTold (w : World) (given : Of Elements) (f : Option ℕ) (plan : Plan LineChanges.Change) (left : P.Held LineRecord.Record) (l : Of Elements) (ms : List R.Msg) : Type 0 where
  pub did :
      Did line_sight (LineRecords.records w.line.words) given f (line_change plan.change) (LineRecords.records (Line.made w.line w.count plan).desk.words) left
  pub whom : speaks line_sight w.line_origins (LineRecords.records w.line.words) given (line_change plan.change) ≡ l
  pub sends : sent_by plan.outcome.sending ≡ map (message_read l.it) ms
  pub clear : AllClear l.it ms

module _ {p : R.Policy} {w : World} (g : Good p w) (up : List (Of Message)) (given : Of Elements) (plan : Plan LineChanges.Change) (notes : List (Of (Option Words)) → List Note) where
  abbrev lines : List LineRecord.Record
  lines = LineRecords.records w.line.words

  abbrev line_after : World
  line_after = line_made w up given plan notes

  line-sent :
      {f : Option ℕ} {left : P.Held LineRecord.Record} {l : Of Elements} {ms : List R.Msg} → LineTold w given f plan left l ms →
      map (from (speaker line_sight w.line_origins lines given (line_change plan.change))) (sent_by plan.outcome.sending) ≡ map (worded l) ms
  line-sent {l = l} {ms} told =
      ap (λ (x : Of (Option Words)). map (from x.origin) (sent_by plan.outcome.sending)) (speaks-label line_sight w.line_origins lines given (line_change plan.change))
      ∙ ap (λ (x : Of Elements). map (from x.origin) (sent_by plan.outcome.sending)) told.whom
      ∙ sent-worded l plan.outcome.sending ms told.sends

  pub line-good :
      {f : Option ℕ} {left : P.Held LineRecord.Record} {l : Of Elements} {ms : List R.Msg} → LineTold w given f plan left l ms → LineSound.Reached (Line.made w.line w.count plan).desk → policy_of (Line.made w.line w.count plan).desk.words ≡ p →
      Worded (Asked w.history) up → Grows w.history line_after.history → Asked line_after.history l →
      ((i : ℕ) → line_change plan.change ≡ storing i → Asked line_after.history given) → Good p line_after
  line-good {l = l} {ms} told reached settings heard grows its new =
      record {
        line = reached;
        clerk = g.clerk;
        policy = settings;
        line_full = did-length told.did given.origin w.line_origins g.line_full;
        clerk_full = g.clerk_full;
        line_labels =
            did-all line_sight (Asked line_after.history) w.line_origins lines g.line_full LineStarting.blank-unused told.did new
            (λ i u. asked-still grows _ (g.line_labels i u));
        clerk_labels = λ i u. asked-still grows _ (g.clerk_labels i u);
        down =
            worded_append (worded-more (asked-still grows) g.down)
            (subst (Worded (Asked line_after.history)) (sym (line-sent told)) (worded-sent l its told.clear));
        up = worded-more (asked-still grows) heard;
        taken = grows.fits g.taken;
      }

  module _ {K : Type 0} {n : Naming K} (tells : Tells n) {k : K} {s : R.Net} (sim : Sim n k w s) where
    -- the request's net after a step that is for it
    pub line-own :
        {answer : R.LAnswer} (active : Bool) {l : Of Elements} {rest : List R.Msg} {b : Bool} → LineTold w given sim.line_place plan (line_read sim.name active answer.0) l answer.1 → n.key (label l) ≡ k → l.it ≡ sim.name →
        ((i : ℕ) → line_change plan.change ≡ storing i → n.key (label given) ≡ k) → messages_of n k up ≡ map (message_read sim.name) rest → AllClear sim.name rest →
        Notes n k line_after.history w.history false false b false → Sim n k line_after (R.after_line s rest b answer)
    line-own {answer} active {l} told its name new heard clear noted =
        let after = did-own line_sight tells k LineStarting.blank-unused w.line_origins lines g.line_full told.did sim.line_sits new in
        let sent =
        wire-own tells k l w.down (map (from (speaker line_sight w.line_origins lines given (line_change plan.change))) (sent_by plan.outcome.sending)) s.down answer.1 its
        (sim.down ∙ ap (λ (j : Elements). map (message_read j) s.down) (sym name)) (line-sent told) told.clear in
        record {
          name = sim.name;
          line_place = after.0;
          line_sits = after.1.0;
          line = after.1.1;
          clerk_place = sim.clerk_place;
          clerk_sits = sim.clerk_sits;
          active = active;
          clerk = sim.clerk;
          down = sent ∙ ap (λ (j : Elements). map (message_read j) (s.down ++ answer.1)) name;
          up = heard;
          down_clear = clear_append sim.down_clear (subst (λ (j : Elements). AllClear j answer.1) name told.clear);
          up_clear = clear;
          kept = sim.kept;
          used = noted.taken_up _ sim.used;
          timed_out = noted.run_out _ sim.timed_out;
          guarded = noted.guarded _ sim.guarded;
          dropped = noted.dropped _ sim.dropped;
        }

    -- and after a step that is for another, or for none: it is left
    pub line_other :
        {f : Option ℕ} {left : P.Held LineRecord.Record} {l : Of Elements} {ms : List R.Msg} {e : Event} → LineTold w given f plan left l ms → Good p line_after →
        ((x : Of (Option Words)) → touched line_view w.line_origins lines (label given) (line_change plan.change) ≡ x ∷ [] → n.key x ≡ k → ⊥) → (n.key (label l) ≡ k → ⊥) →
        messages_of n k up ≡ messages_of n k w.up → Unnoted n k line_after.history w.history → Turn n p k w e line_after s
    line_other {l = l} {ms} {e} told good apart not heard noted =
        let after = did-other line_sight tells k LineStarting.blank-unused w.line_origins lines g.line_full told.did apart sim.line_sits in
        let sent =
        wire-other tells k l w.down (map (from (speaker line_sight w.line_origins lines given (line_change plan.change))) (sent_by plan.outcome.sending)) ms not (line-sent told) told.clear in
        let still : Sim n k line_after s =
        record {
          name = sim.name;
          line_place = after.0;
          line_sits = after.1.0;
          line = after.1.1 ∙ sim.line;
          clerk_place = sim.clerk_place;
          clerk_sits = sim.clerk_sits;
          active = sim.active;
          clerk = sim.clerk;
          down = sent ∙ sim.down;
          up = heard ∙ sim.up;
          up_clear = sim.up_clear;
          down_clear = sim.down_clear;
          kept = sim.kept;
          used = noted.taken_up _ sim.used;
          timed_out = noted.run_out _ sim.timed_out;
          guarded = noted.guarded _ sim.guarded;
          dropped = noted.dropped _ sim.dropped;
        } in
        let line_same = line-held tells good still ∙ after.1.1 ∙ sym (line-held tells g sim) in
        leaves (record { clerk = refl; line = subst (Unaltered e (line_holds n w k)) (sym line_same) same; up = heard; down = sent }) still
