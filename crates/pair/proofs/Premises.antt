-- What the premises of a run give. By origin: a new ask has a new origin, so keeping apart is all that is needed. By identifier: where every request has one, a message means the record that has its
-- identifier, so it is enough that each is used once; and then labels with one identifier are one, so every request is kept apart.
use Rattle.lists.specs.declared.words.Words.{Words}
use Rattle.std.specs.Prelude.{Option, Some, None, Ok}
use Prim.Native.Nat.{ℕ}
use mathlib.Core.Path.{◌≡◌, refl, sym, ◌∙◌, ap, subst}
use mathlib.Core.Bool.{Bool, true, false, not}
use mathlib.Core.Logic.{◌⊎◌, inl, inr}
use mathlib.Core.List.Memᴰ
use mathlib.Core.List.{List, [], ◌∷◌, ◌++◌, map, Memᴰ as Noted}
use lib.ListN.{length, get_or, take, drop}
use native.Mathlib.Omega.{arith}
use Rattle.lists.specs.Choice.{pick}
use Rattle.lists.proofs.Choice.{no_true}
use Rattle.lists.proofs.Lists.{both_parts}
use Rattle.message.specs.Format.{has_elements}
use Rattle.message.specs.declared.Message.{Message}
use Rattle.desk.specs.Letter.{identifier_of, letter_of}
use Rattle.terms.specs.Means.{fits}
use Rattle.terms.specs.Request.{letter_names}
use Rattle.terms.specs.declared.means.Means.TheVariants as Means
use Rattle.terms.specs.declared.request.Names.{Names}
use Rattle.terms.specs.declared.request.Request.{Request}
use Rattle.clerk_table.specs.declared.inputs.Input.TheVariants as ClerkInput
use Rattle.clerk_table.specs.declared.table.Timer.TheVariants.{T1, T2, T3}
use Rattle.clerk_records.specs.Records as ClerkRecords
use Rattle.clerk_records.specs.Meaning as ClerkMeaning
use Rattle.clerk_plan.specs.Plan.{plan_for}
use Rattle.clerk.specs.Steps as Clerk
use Rattle.clerk_sound.specs.Sound.{clerk_view}
use Rattle.line_table.specs.declared.inputs.Input.TheVariants as LineInput
use Rattle.line_table.specs.Search.{used}
use Rattle.line_table.specs.declared.record.Record as LineRecord
use Rattle.line_records.specs.Records as LineRecords
use Rattle.line_records.specs.Meaning as LineMeaning
use Rattle.pair_request.specs.Reading as R
use Rattle.pair.specs.World.{Of, from, origins, identifiers, Note, World, Event, clerk_does, line_does, clerk_is_told, clerk_hears, line_hears, drops_up, drops_down, counts, name_of, label_of, touched, clerk_touched, line_touched, clerk_change, clerkHeard, lineHeard, next, Run, stop, then, reached, Once, is_request, by_place, clerk_means, line_means, KeptApart, Apart}
use Rattle.pair.specs.Demand3.{OnceApart}
use Rattle.pair.proofs.Sits.{label, elements_at}
use Rattle.pair.proofs.Ends.{clerk_sight, line_sight}
use Rattle.pair.proofs.Letters.{clear-name}
use Rattle.pair.proofs.Means.{meaning_in, named-means, lone-fit}
use Rattle.pair.proofs.ClerkEnd.{clerk-meaning, AskStep, refused, stored, clerk-asks}
use Rattle.pair.proofs.LineEnd.{line-meaning}
use Rattle.pair.proofs.Wires.{Worded, word, worded-label}
use Rattle.pair.proofs.Sim.{Taken, Asked, Good}
use Rattle.pair.proofs.Runs.{Fines, good_start, run-good}

-- ---- what a step takes up: nothing, or the label of an ask that is taken
data Newly (w : World) (e : Event) (l : Of (Option Words)) : Type 0 where
  old : Taken w.history l → Newly w e l
  new :
      (names : Names) (q : Request) → e ≡ clerk_does (ClerkInput.Ask names q) → (Clerk.step w.clerk w.count (ClerkInput.Ask names q)).outcome.refusal ≡ None →
      l ≡ from (length w.history) names.identifier → Newly w e l

-- notes of another kind take up nothing
skip : {B : Type 0} (note : B → Note) → ((l : Of (Option Words)) (x : B) → Note.taken_up l ≡ note x → ⊥) → (xs : List B) (h : List Note) (l : Of (Option Words)) → Taken (map note xs ++ h) l → Taken h l
skip note d [] h l m = m
skip note d (x ∷ xs) h l m = skip note d xs h l (by (Memᴰ.cases_cons m))
  where
    by : (Note.taken_up l ≡ note x) ⊎ Taken (map note xs ++ h) l → Taken (map note xs ++ h) l
    by (inl e) = absurd (d l x e)
    by (inr i) = i

abbrev label_in : Of (Option Words) → Note → Of (Option Words)
label_in other (Note.taken_up l) = l
label_in other (Note.dropped l) = other
label_in other (Note.run_out l) = other
label_in other (Note.guarded l) = other

module _ {p : R.Policy} {w : World} (g : Good p w) where
  ask-newly :
      (names : Names) (q : Request) → AskStep w.clerk w.count names q (plan_for (ClerkRecords.records w.clerk.words) (ClerkInput.Ask names q)) → (l : Of (Option Words)) →
      Taken (map Note.taken_up (touched clerk_view w.clerk_origins (ClerkRecords.records w.clerk.words) (from (length w.history) names.identifier) (clerk_change (plan_for (ClerkRecords.records w.clerk.words) (ClerkInput.Ask names q)).change)) ++ w.history) l →
      Newly w (clerk_does (ClerkInput.Ask names q)) l
  unfolding Clerk.step
  ask-newly names q (refused stay nowhere silent) l m = old (rw stay at m)
  ask-newly names q (stored i touch zero steps) l m = by (Memᴰ.cases_cons (rw touch at m))
    where
      by : (Note.taken_up l ≡ Note.taken_up (from (length w.history) names.identifier)) ⊎ Taken w.history l → Newly w (clerk_does (ClerkInput.Ask names q)) l
      by (inl e) = new names q refl zero (ap (label_in l) e)
      by (inr m) = old m

  clerk-heard : (busy : Bool) (place : ℕ) (l : Of (Option Words)) (xs : List (Of Message)) → Taken (clerkHeard w busy place xs).history l → Taken w.history l
  unfolding clerkHeard
  clerk-heard busy place l [] m = m
  clerk-heard busy place l (x ∷ xs) m = m

  line-heard : (place : ℕ) (l : Of (Option Words)) (xs : List (Of Message)) → Taken (lineHeard w place xs).history l → Taken w.history l
  unfolding lineHeard
  line-heard place l [] m = m
  line-heard place l (x ∷ xs) m = m

  newly : (e : Event) (l : Of (Option Words)) → Taken (next w e).history l → Newly w e l
  unfolding next
  newly (clerk_does (ClerkInput.Ask names q)) l m = ask-newly names q (clerk-asks w.clerk g.clerk w.count names q) l m
  newly (clerk_does (ClerkInput.Message x busy place)) l m = old m
  newly (clerk_does (ClerkInput.Act j act)) l m = old m
  newly (clerk_does (ClerkInput.Timer j T1)) l m =
      old (skip Note.run_out (λ a b e. let z : ◌≡◌ {A = ℕ} 0 1 = cc in omega (arith, z)) (clerk_touched w (from (length w.history) j.identifier) (Ok (ClerkInput.Timer j T1))) w.history l m)
  newly (clerk_does (ClerkInput.Timer j T2)) l m =
      old (skip Note.run_out (λ a b e. let z : ◌≡◌ {A = ℕ} 0 1 = cc in omega (arith, z)) (clerk_touched w (from (length w.history) j.identifier) (Ok (ClerkInput.Timer j T2))) w.history l m)
  newly (clerk_does (ClerkInput.Timer j T3)) l m = old m
  newly (line_does (LineInput.Message x place)) l m = old m
  newly (line_does (LineInput.Act j act)) l m = old m
  newly (line_does (LineInput.Guard j)) l m =
      old (skip Note.guarded (λ a b e. let z : ◌≡◌ {A = ℕ} 0 1 = cc in omega (arith, z)) (line_touched w (from (length w.history) j.identifier) (Ok (LineInput.Guard j))) w.history l m)
  newly (line_does (LineInput.Report number busy)) l m = old m
  newly (line_does (LineInput.Look number)) l m = old m
  newly (clerk_is_told x j busy) l m = old m
  newly (clerk_hears busy place) l m = old (clerk-heard busy place l w.down m)
  newly (line_hears place) l m = old (line-heard place l w.up m)
  newly (drops_up i) l m = old (skip (λ x. Note.dropped (label_of x)) (λ a b e. let z : ◌≡◌ {A = ℕ} 0 1 = cc in omega (arith, z)) (take 1 (drop i w.up)) w.history l m)
  newly (drops_down i) l m = old (skip (λ x. Note.dropped (label_of x)) (λ a b e. let z : ◌≡◌ {A = ℕ} 0 1 = cc in omega (arith, z)) (take 1 (drop i w.down)) w.history l m)
  newly (counts count) l m = old m

-- ---- where identifiers are used once, labels with one identifier are one
abbrev Unique : World → Type 0
Unique w = (a b : ℕ) (j : Option Words) → Taken w.history (from a j) → Taken w.history (from b j) → a ≡ b

unique_next : {p : R.Policy} {w : World} → Good p w → Unique w → (e : Event) → Once w e → Unique (next w e)
unique_next {w = w} g unique e once a b j x y = by (newly g e (from a j) x) (newly g e (from b j) y)
  where
    -- an old label and a new one have two identifiers
    apart : (names : Names) (q : Request) → e ≡ clerk_does (ClerkInput.Ask names q) → (Clerk.step w.clerk w.count (ClerkInput.Ask names q)).outcome.refusal ≡ None → (o c : ℕ) → from c j ≡ from (length w.history) names.identifier → Taken w.history (from o j) → ⊥
    apart names q is zero o c same m = (once names q is zero).1 o (subst (λ (i : Option Words). Taken w.history (from o i)) (ap (λ (l : Of (Option Words)). l.it) same) m)

    by : Newly w e (from a j) → Newly w e (from b j) → a ≡ b
    by (old m) (old i) = unique a b j m i
    by (old m) (new names q is zero same) = absurd (apart names q is zero a b same m)
    by (new names q is zero same) (old i) = absurd (apart names q is zero b a same i)
    by (new names q is zero same) (new others r its none alike) = ap (λ (l : Of (Option Words)). l.origin) same ∙ sym (ap (λ (l : Of (Option Words)). l.origin) alike)

run_unique : {p : R.Policy} {first w : World} → Run Once first w → Good p first → Unique first → Unique w
run_unique stop g unique = unique
run_unique (then run e allowed once) g unique = unique_next (run-good run g) (run_unique run g unique) e once

nothing-noted : {B : Type 0} (x : Note) → Noted x [] → B
nothing-noted x m = elim m [ ]

-- the head of a wire is of a request that was taken up
first_taken : {h : List Note} {x : Of Message} {rest : List (Of Message)} → Worded (Asked h) (x ∷ rest) → Taken h (label_of x)
first_taken {h} (word l m taken clear others) = subst (Taken h) (sym (worded-label l m (clear-name l.it m clear))) taken.0

head-taken : {h : List Note} (x : Of Message) (rest xs : List (Of Message)) → xs ≡ x ∷ rest → Worded (Asked h) xs → Taken h (label_of x)
head-taken {h} x rest xs e worded = first_taken (subst (Worded (Asked h)) e worded)

-- ---- where every request has an identifier
abbrev Identified : World → Type 0
Identified w = (l : Of (Option Words)) → Taken w.history l → l.it ≡ None → ⊥

identified-next : {p : R.Policy} {w : World} → Good p w → Identified w → (e : Event) → Once w e → Identified (next w e)
identified-next {w = w} g all e once l m = by (newly g e l m)
  where
    by : Newly w e l → l.it ≡ None → ⊥
    by (old i) q = all l i q
    by (new names request is zero same) q = (once names request is zero).0 (sym (ap (λ (x : Of (Option Words)). x.it) same) ∙ q)

run-identified : {p : R.Policy} {first w : World} → Run Once first w → Good p first → Identified first → Identified w
run-identified stop g all = all
run-identified (then run e allowed once) g all = identified-next (run-good run g) (run-identified run g all) e once

module _ {p : R.Policy} {w : World} (g : Good p w) (all : Identified w) (x : Of Message) (taken : Taken w.history (label_of x)) (place : ℕ) where
  -- a message has an identifier, so it does not go by the place
  not-placed : {B : Type 0} → by_place x.it ≡ true → B
  unfolding identifier_of
  not-placed e = absurd (all (label_of x) taken (by x.it.identified (both_parts (not x.it.identified) _ e).0))
    where
      by : (b : Bool) → not b ≡ true → identifier_of b x.it.identifier ≡ None
      by true q = absurd (no_true q)
      by false q = refl

  -- and the record that it means has it
  clerk-its :
      (name : Option Words) → name_of x.it ≡ name → (i : ℕ) → clerk_means w x.it place ≡ Means.At i →
      (ClerkRecords.used (get_or (ClerkRecords.records w.clerk.words) i ClerkRecords.blank) ≡ true) × ((get_or (ClerkRecords.records w.clerk.words) i ClerkRecords.blank).terms.identifier ≡ name)
  unfolding letter_of
  clerk-its None e i at = absurd (all (label_of x) taken e)
  clerk-its (Some words) e i at =
      let l = letter_of x.it in
      let rs = ClerkRecords.records w.clerk.words in
      named-means clerk_sight rs (ClerkMeaning.fitting (letter_names l)) (ClerkMeaning.is_for l.body) place
      (λ r fit. let z = both_parts (ClerkRecords.used r) (fits (letter_names l) r.terms) fit in (z.0, lone-fit (letter_names l) words e r.terms z.1))
      (λ j u none. all (label (elements_at clerk_sight w.clerk_origins rs j)) (g.clerk_labels j u).0 none)
      words (has_elements l.body l.carrier) i
      (ap (λ (y : Option Words). meaning_in clerk_sight y (has_elements l.body l.carrier) (ClerkMeaning.fitting (letter_names l)) (ClerkMeaning.is_for l.body) place rs) (sym e) ∙ sym (clerk-meaning l place rs) ∙ at)

  line-its :
      (name : Option Words) → name_of x.it ≡ name → (i : ℕ) → line_means w x.it place ≡ Means.At i →
      (used (get_or (LineRecords.records w.line.words) i LineRecords.blank) ≡ true) × ((get_or (LineRecords.records w.line.words) i LineRecords.blank).terms.identifier ≡ name)
  unfolding letter_of
  line-its None e i at = absurd (all (label_of x) taken e)
  line-its (Some words) e i at = by (is_request x.it.body) at
    where
      rs : List LineRecord.Record
      rs = LineRecords.records w.line.words

      by : (b : Bool) → pick b Means.Nothing (LineMeaning.meaning (letter_of x.it) place (LineRecords.records w.line.words)) ≡ Means.At i → (used (get_or (LineRecords.records w.line.words) i LineRecords.blank) ≡ true) × ((get_or (LineRecords.records w.line.words) i LineRecords.blank).terms.identifier ≡ Some words)
      by true q = let z : ◌≡◌ {A = ℕ} 0 1 = cc in absurd (omega (arith, z))
      by false q =
          let l = letter_of x.it in
          named-means line_sight rs (LineMeaning.fitting (letter_names l)) (LineMeaning.is_for l.body) place
          (λ r fit. let z = both_parts (used r) (fits (letter_names l) r.terms) fit in (z.0, lone-fit (letter_names l) words e r.terms z.1))
          (λ j u none. all (label (elements_at line_sight w.line_origins rs j)) (g.line_labels j u).0 none)
          words (has_elements l.body l.carrier) i
          (ap (λ (y : Option Words). meaning_in line_sight y (has_elements l.body l.carrier) (LineMeaning.fitting (letter_names l)) (LineMeaning.is_for l.body) place rs) (sym e) ∙ sym (line-meaning l place rs) ∙ q)

-- ---- by origin
pub apart-fine : Fines origins Apart
apart-fine =
    record {
      Inv = λ w. Unit;
      begins = λ lengths given keep retain. tt;
      keeps = λ g inv k e so. tt;
      fine = λ g inv o e apart.
          record {
            fresh = λ names q is zero key told.
                let young = g.taken told.0 told.1.1 in
                let its : told.0.origin ≡ o = told.1.0 in
                omega (arith, young, its, key);
            apart = apart;
          };
    }

-- ---- by identifier
once-kept : {p : R.Policy} {w : World} → Good p w → Identified w → (k : Option Words) (e : Event) → KeptApart identifiers k w e
once-kept {w = w} g all k e =
    record {
      atClerk = λ busy place x rest is head.
          let taken = head-taken x rest w.down head g.down in
          record {
            its = λ i at. let its = (clerk-its g all x taken place (name_of x.it) refl i at).1 in (λ q. sym its ∙ q, λ q. its ∙ q);
            named = λ goes key i u mine. not-placed g all x taken place goes;
          };
      atLine = λ place x rest is head.
          let taken = head-taken x rest w.up head g.up in
          record {
            its = λ i at. let its = (line-its g all x taken place (name_of x.it) refl i at).1 in (λ q. sym its ∙ q, λ q. its ∙ q);
            named = λ goes key i u mine. not-placed g all x taken place goes;
          };
    }

pub once-fine : Fines identifiers (λ j. Once)
once-fine =
    record {
      Inv = Identified;
      begins = λ lengths given keep retain l m. nothing-noted (Note.taken_up l) m;
      keeps = λ g all k e once. identified-next g all e once;
      fine = λ {p} {w} g all k e once.
          record {
            fresh = λ names q is zero key told.
                (once names q is zero).1 told.0.origin (subst (λ (x : Option Words). Noted (Note.taken_up (from told.0.origin x)) w.history) (told.1.0 ∙ sym key) told.1.1);
            apart = once-kept g all k e;
          };
    }

pub once-apart : OnceApart
once-apart o w (reached lengths given keep retain b run) e once =
    let start = good_start lengths given keep retain b in
    let g = run-good run start in
    let unique = run_unique run start (λ a b j x y. nothing-noted (Note.taken_up (from a j)) x) in
    let all = run-identified run start (λ l m. nothing-noted (Note.taken_up l) m) in
    record {
      atClerk = λ busy place x rest is head.
          let taken = head-taken x rest w.down head g.down in
          record {
            its = λ i at.
                let its = clerk-its g all x taken place (name_of x.it) refl i at in
                let same : get_or w.clerk_origins i 0 ≡ x.origin =
                unique (get_or w.clerk_origins i 0) x.origin (name_of x.it)
                (subst (λ (j : Option Words). Taken w.history (from (get_or w.clerk_origins i 0) j)) its.1 (g.clerk_labels i its.0).0) taken in
                (λ q. sym same ∙ q, λ q. same ∙ q);
            named = λ goes key i u mine. not-placed g all x taken place goes;
          };
      atLine = λ place x rest is head.
          let taken = head-taken x rest w.up head g.up in
          record {
            its = λ i at.
                let its = line-its g all x taken place (name_of x.it) refl i at in
                let same : get_or w.line_origins i 0 ≡ x.origin =
                unique (get_or w.line_origins i 0) x.origin (name_of x.it)
                (subst (λ (j : Option Words). Taken w.history (from (get_or w.line_origins i 0) j)) its.1 (g.line_labels i its.0).0) taken in
                (λ q. sym same ∙ q, λ q. same ∙ q);
            named = λ goes key i u mine. not-placed g all x taken place goes;
          };
    }
