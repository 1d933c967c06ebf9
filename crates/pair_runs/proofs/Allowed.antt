-- A run from a list of events, by tests that compute: each ask is one that the entry makes; and whether no identifier is taken up twice.
use Rattle.lists.specs.declared.words.Words.{Words}
use Rattle.std.specs.Prelude.{Option, Some, None, Ok, is_none}
use Prim.Native.Nat.{ℕ, zero, suc, ◌+◌, ◌/◌}
use mathlib.Core.Path.{◌≡◌, refl, sym, ◌∙◌, ap, subst}
use mathlib.Core.Bool.{Bool, true, false, not, false≢true}
use mathlib.Core.List.{List, [], ◌∷◌, Memᴰ as Noted}
use lib.{Dec.eqb, Dec.ltb, Dec.lit<, ListN.get_or}
use borrow.Author.Tests.{eq-eqb, eqb-true, ltb-true}
use Rattle.lists.specs.Choice.{pick}
use Rattle.lists.specs.Lists.{both}
use Rattle.lists.specs.Words.{Bytes, bytes_of, same_words}
use native.Mathlib.Omega.{arith}
use Rattle.lists.proofs.Lists.{both_true, both_parts}
use Rattle.lists.proofs.WordsLaws.{same-words-true, length-bytes_of, bytes-bytes_of}
use Rattle.message.specs.Format.{in_range}
use Rattle.message.specs.declared.Message.{Message}
use Rattle.desk.specs.Letter.{is_identified, identifier_words}
use Rattle.terms.specs.Request.{can_keep_sent}
use Rattle.terms.specs.declared.means.Means.{Means}
use Rattle.terms.specs.declared.means.Means.TheVariants.{Nothing, NotNow, At}
use Rattle.places.specs.Places.{View, at}
use Rattle.terms.specs.declared.request.Names.{Names}
use Rattle.terms.specs.declared.request.Request.{Request}
use Rattle.clerk_table.specs.declared.inputs.Input.TheVariants as AtClerk
use Rattle.clerk.specs.Entry.{ask_message, ask_names, ask_entry}
use Rattle.clerk.specs.Steps as Clerk
use Rattle.clerk.specs.declared.entry.Asking.{Asking}
use Rattle.clerk_records.specs.Records.{records as clerk_records}
use Rattle.clerk_sound.specs.Sound as ClerkSound
use Rattle.clerk_sound.specs.Sound.{clerk_view}
use Rattle.clerk_sound.proofs.Start as ClerkStart
use Rattle.line_table.specs.declared.inputs.Input.TheVariants as AtLine
use Rattle.line_records.specs.Records.{records as line_records}
use Rattle.line_sound.specs.Sound.{line_view}
use Rattle.line_sound.proofs.Starting as LineStart
use Rattle.pair.specs.World.{Of, from, alike, origins, identifiers, Note, World, Event, clerk_does, line_does, clerk_is_told, clerk_hears, line_hears, drops_up, drops_down, counts, next, Allowed, Run, stop, then, reached, Any, Once, clerk_means, line_means, Apart, by_place, Rightly}
use Rattle.pair.specs.Demand3.{Told}
use Rattle.pair.proofs.Keys.{identifiers-tell, key-same}
use Rattle.pair.proofs.Letters.{flags-sent}
use Rattle.pair_runs.specs.Runs.{play, kind_of, whose, has, Row, usual, one_line, start, EachReached}

-- ---- the bytes of the line that is given
abbrev pub all_bytes : List ℕ → Bool
all_bytes [] = true
all_bytes (x ∷ xs) = both (ltb x 256) (all_bytes xs)

pub bytes-told : (xs : List ℕ) → all_bytes xs ≡ true → Bytes xs
bytes-told [] e i = lit< tt
bytes-told (x ∷ xs) e zero = ltb-true x 256 (both_parts (ltb x 256) (all_bytes xs) e).0
bytes-told (x ∷ xs) e (suc i) = bytes-told xs (both_parts (ltb x 256) (all_bytes xs) e).1 i

-- ---- an ask: the one that a host would give
abbrev asking : Names → Request → Asking
asking names q =
    record {
      identified = is_identified names.identifier;
      identifier = bytes_of (identifier_words names.identifier);
      kind = q.kind;
      numberA = bytes_of names.numberA;
      numberB = bytes_of names.numberB;
      service = q.service;
      canKeep = can_keep_sent q.flags;
      preference = q.flags / 2;
    }

asking-typed : (names : Names) (q : Request) → ClerkSound.Typed (asking names q)
asking-typed names q =
    record {
      length_identifier = length-bytes_of (identifier_words names.identifier);
      bytes_identifier = bytes-bytes_of (identifier_words names.identifier);
      length_a = length-bytes_of names.numberA;
      bytes_a = bytes-bytes_of names.numberA;
      length_b = length-bytes_of names.numberB;
      bytes_b = bytes-bytes_of names.numberB;
    }

-- it names what is asked for; an ask has its service beside what it names
abbrev is_absent : Option ℕ → Bool
is_absent None = true
is_absent (Some service) = false

abbrev same_names : Names → Names → Bool
same_names a b =
    both (alike a.identifier b.identifier)
    (both (same_words a.numberA b.numberA) (both (same_words a.numberB b.numberB) (both (is_absent a.service) (is_absent b.service))))

absent-told : (s : Option ℕ) → is_absent s ≡ true → s ≡ None
absent-told None e = refl
absent-told (Some service) e = absurd (false≢true e)

same-names-told : (a b : Names) → same_names a b ≡ true → a ≡ b
same-names-told a b e =
    let i = both_parts (alike a.identifier b.identifier) (both (same_words a.numberA b.numberA) (both (same_words a.numberB b.numberB) (both (is_absent a.service) (is_absent b.service)))) e in
    let n = both_parts (same_words a.numberA b.numberA) (both (same_words a.numberB b.numberB) (both (is_absent a.service) (is_absent b.service))) i.1 in
    let m = both_parts (same_words a.numberB b.numberB) (both (is_absent a.service) (is_absent b.service)) n.1 in
    let s = both_parts (is_absent a.service) (is_absent b.service) m.1 in
    rw (
      identifiers-tell.yes a.identifier b.identifier i.0,
      same-words-true a.numberA b.numberA n.0,
      same-words-true a.numberB b.numberB m.0,
      absent-told a.service s.0,
      absent-told b.service s.1,
    )

abbrev fair : Names → Request → Bool
fair names q = both (ltb (q.flags / 2) 3) (both (in_range (ask_message (asking names q))) (same_names (ask_names (asking names q)) names))

fair-told : (names : Names) (q : Request) → fair names q ≡ true → ClerkSound.Fair (AtClerk.Ask names q)
unfolding ask_entry
fair-told names q e =
    let a = asking names q in
    let p = both_parts (ltb (q.flags / 2) 3) (both (in_range (ask_message a)) (same_names (ask_names a) names)) e in
    let r = both_parts (in_range (ask_message a)) (same_names (ask_names a) names) p.1 in
    let entry : ask_entry a ≡ Ok (AtClerk.Ask names q) = rw (p.0, r.0, same-names-told (ask_names a) names r.1, flags-sent q.flags) in
    ClerkSound.asks a (asking-typed names q) entry

-- a note that a history does not have is not in it
has-noted : (n : Note) (h : List Note) → Noted n h → has (kind_of n) (whose n) h ≡ true
unfolding has
has-noted n [] m = elim m [ ]
has-noted n (x ∷ xs) (Noted.head e) = rw (key-same identifiers-tell (whose x) (whose n) (ap whose (sym e)), eq-eqb (kind_of x) (kind_of n) (ap kind_of (sym e)))
has-noted n (x ∷ xs) (Noted.tail m) = later (both (alike (whose x) (whose n)) (eqb (kind_of x) (kind_of n))) (has-noted n xs m)
  where
    later : (b : Bool) → has (kind_of n) (whose n) xs ≡ true → pick b true (has (kind_of n) (whose n) xs) ≡ true
    later true e = refl
    later false e = e

-- of an identifier
pub has-not :
    (note : Of (Option Words) → Note) (kind : ℕ) → ((l : Of (Option Words)) → (kind_of (note l) ≡ kind) × (whose (note l) ≡ l.it)) → (identifier : Option Words) (h : List Note) → has kind identifier h ≡ false →
    (l : Of (Option Words)) → l.it ≡ identifier → Noted (note l) h → ⊥
has-not note kind same identifier h e l its m =
    false≢true (sym e ∙ ap (λ (j : Option Words). has kind j h) (sym its) ∙ ap (λ (j : Option Words). has kind j h) (sym (same l).1) ∙ ap (λ (i : ℕ). has i (whose (note l)) h) (sym (same l).0) ∙ has-noted (note l) h m)

pub undropped : (w : World) (identifier : Option Words) → has 1 identifier w.history ≡ false → Told identifiers Note.dropped identifier w → ⊥
undropped w identifier e told = has-not Note.dropped 1 (λ l. (refl, refl)) identifier w.history e told.0 told.1.0 told.1.1

-- an ask that is not refused takes up an identifier that was not taken up before
abbrev once : World → Names → Request → Bool
once w names q = pick (is_none (Clerk.step w.clerk w.count (AtClerk.Ask names q)).outcome.refusal) (both (is_identified names.identifier) (not (has 0 names.identifier w.history))) true

once-so : (take given had : Bool) → pick take (both given (not had)) true ≡ true → take ≡ true → (given ≡ true) × (had ≡ false)
once-so true given had e t = ((both_parts given (not had) e).0, by had (both_parts given (not had) e).1)
  where
    by : (b : Bool) → not b ≡ true → b ≡ false
    by true q = absurd (false≢true q)
    by false q = refl
once-so false given had e t = absurd (false≢true t)

-- ---- what is allowed, and whether an ask has an identifier of its own
abbrev pub allowed : World → Event → Bool
allowed w (clerk_does (AtClerk.Ask names q)) = fair names q
allowed w (clerk_does (AtClerk.Message l busy place)) = false
allowed w (clerk_does (AtClerk.Act identifier act)) = true
allowed w (clerk_does (AtClerk.Timer identifier timer)) = true
allowed w (line_does (AtLine.Message l place)) = false
allowed w (line_does (AtLine.Act identifier act)) = true
allowed w (line_does (AtLine.Guard identifier)) = true
allowed w (line_does (AtLine.Report number busy)) = true
allowed w (line_does (AtLine.Look number)) = true
allowed w (clerk_is_told signal identifier busy) = true
allowed w (clerk_hears busy place) = true
allowed w (line_hears place) = true
allowed w (drops_up i) = true
allowed w (drops_down i) = true
allowed w (counts count) = true

pub allowed-told : (w : World) (e : Event) → allowed w e ≡ true → Allowed w e
allowed-told w e so =
    record {
      asked = λ names q is. fair-told names q (subst (λ (x : Event). allowed w x ≡ true) is so);
      toClerk = λ l busy place is. false≢true (subst (λ (x : Event). allowed w x ≡ true) is so);
      toLine = λ l place is. false≢true (subst (λ (x : Event). allowed w x ≡ true) is so);
    }

abbrev pub new : World → Event → Bool
new w (clerk_does (AtClerk.Ask names q)) = once w names q
new w (clerk_does (AtClerk.Message l busy place)) = true
new w (clerk_does (AtClerk.Act identifier act)) = true
new w (clerk_does (AtClerk.Timer identifier timer)) = true
new w (line_does input) = true
new w (clerk_is_told signal identifier busy) = true
new w (clerk_hears busy place) = true
new w (line_hears place) = true
new w (drops_up i) = true
new w (drops_down i) = true
new w (counts count) = true

pub new_told : (w : World) (e : Event) → new w e ≡ true → Once w e
new_told w e so names q is taken =
    let had =
    once-so (is_none (Clerk.step w.clerk w.count (AtClerk.Ask names q)).outcome.refusal) (is_identified names.identifier) (has 0 names.identifier w.history) (subst (λ (x : Event). new w x ≡ true) is so) (ap is_none taken) in (
      λ absent. false≢true (sym (ap is_identified absent) ∙ had.0),
      λ o noted. has-not Note.taken_up 0 (λ l. (refl, refl)) names.identifier w.history had.1 (from o names.identifier) refl noted,
    )

-- ---- a run in which a premise holds at each step, by a test of it; and one with none
unfoldable pub passes : (World → Event → Bool) → World → List Event → Bool
passes test w [] = true
passes test w (e ∷ es) = both (both (allowed w e) (test w e)) (passes test (next w e) es)

pub passes-told :
    (Holds : World → Event → Type 0) (test : World → Event → Bool) → ((w : World) (e : Event) → test w e ≡ true → Holds w e) →
    {first : World} (w : World) (es : List Event) → Run Holds first w → passes test w es ≡ true → Run Holds first (play w es)
unfolding play passes
passes-told Holds test told w [] before so = before
passes-told Holds test told w (e ∷ es) before so =
    let parts = both_parts (both (allowed w e) (test w e)) (passes test (next w e) es) so in
    let here = both_parts (allowed w e) (test w e) parts.0 in
    passes-told Holds test told (next w e) es (then before e (allowed-told w e here.0) (told w e here.1)) parts.1

abbrev pub goes : World → List Event → Bool
goes w es = passes (λ w e. true) w es

pub goes-told : {first : World} (w : World) (es : List Event) → Run Any first w → goes w es ≡ true → Run Any first (play w es)
goes-told w es before so = passes-told Any (λ w e. true) (λ w e so. tt) w es before so

-- ---- one in which each identifier is used once
abbrev pub runs : World → List Event → Bool
runs w es = passes new w es

pub run-told : {first : World} (w : World) (es : List Event) → Run Once first w → runs w es ≡ true → Run Once first (play w es)
run-told w es before so = passes-told Once new new_told w es before so

-- ---- a run in which a request is kept apart
-- two tests say the same
abbrev agrees : Bool → Bool → Bool
agrees true b = b
agrees false b = not b

agrees-told : (o a b : ℕ) → agrees (eqb a o) (eqb b o) ≡ true → (a ≡ o → b ≡ o) × (b ≡ o → a ≡ o)
agrees-told o a b so = (λ e. eqb-true b o (there (eqb a o) (eqb b o) so (eq-eqb a o e)), λ e. eqb-true a o (back (eqb a o) (eqb b o) so (eq-eqb b o e)))
  where
    there : (x y : Bool) → agrees x y ≡ true → x ≡ true → y ≡ true
    there true y s e = s
    there false y s e = absurd (false≢true e)

    back : (x y : Bool) → agrees x y ≡ true → y ≡ true → x ≡ true
    back true y s e = refl
    back false true s e = absurd (false≢true s)
    back false false s e = absurd (false≢true e)

-- a message and the record that it means
abbrev pub alike_at : ℕ → ℕ → List ℕ → Means → Bool
alike_at o origin os Nothing = true
alike_at o origin os NotNow = true
alike_at o origin os (At i) = agrees (eqb (get_or os i 0) o) (eqb origin o)

pub alike_at_lem :
    (o origin : ℕ) (os : List ℕ) (means : Means) → alike_at o origin os means ≡ true → (i : ℕ) → means ≡ At i → (get_or os i 0 ≡ o → origin ≡ o) × (origin ≡ o → get_or os i 0 ≡ o)
alike_at_lem o origin os means so i at = agrees-told o (get_or os i 0) origin (subst (λ (m : Means). alike_at o origin os m ≡ true) at so)

-- a place that is named is that of each record of the request
abbrev its : {A : Type 0} → View A → ℕ → ℕ → A → Bool
its v o origin r = both (v.used r) (eqb origin o)

abbrev only_at : {A : Type 0} → View A → ℕ → ℕ → ℕ → List ℕ → List A → Bool
only_at v o place i os [] = true
only_at v o place i [] (r ∷ rs) = both (pick (its v o 0 r) (eqb place i) true) (only_at v o place (suc i) [] rs)
only_at v o place i (x ∷ os) (r ∷ rs) = both (pick (its v o x r) (eqb place i) true) (only_at v o place (suc i) os rs)

here-told : {A : Type 0} (v : View A) (o place i origin : ℕ) (r : A) → pick (its v o origin r) (eqb place i) true ≡ true → v.used r ≡ true → origin ≡ o → place ≡ i
here-told v o place i origin r so u e =
    let t : its v o origin r ≡ true = both_true u ∙ eq-eqb origin o e in
    eqb-true place i (subst (λ (b : Bool). pick b (eqb place i) true ≡ true) t so)

only-told :
    {A : Type 0} (v : View A) (o place i : ℕ) (os : List ℕ) (rs : List A) → v.used v.blank ≡ false → only_at v o place i os rs ≡ true →
    (j : ℕ) → v.used (at v rs j) ≡ true → get_or os j 0 ≡ o → place ≡ i + j
only-told v o place i os [] free so j u e = absurd (false≢true (sym free ∙ u))
only-told v o place i [] (r ∷ rs) free so zero u e =
    let z = here-told v o place i 0 r (both_parts (pick (its v o 0 r) (eqb place i) true) (only_at v o place (suc i) [] rs) so).0 u e in omega (arith, z)
only-told v o place i [] (r ∷ rs) free so (suc j) u e =
    let z = only-told v o place (suc i) [] rs free (both_parts (pick (its v o 0 r) (eqb place i) true) (only_at v o place (suc i) [] rs) so).1 j u e in omega (arith, z)
only-told v o place i (x ∷ os) (r ∷ rs) free so zero u e =
    let z = here-told v o place i x r (both_parts (pick (its v o x r) (eqb place i) true) (only_at v o place (suc i) os rs) so).0 u e in omega (arith, z)
only-told v o place i (x ∷ os) (r ∷ rs) free so (suc j) u e =
    let z = only-told v o place (suc i) os rs free (both_parts (pick (its v o x r) (eqb place i) true) (only_at v o place (suc i) os rs) so).1 j u e in omega (arith, z)

-- the head of a wire
abbrev rightly : {A : Type 0} → View A → ℕ → List ℕ → List A → ℕ → (Message → Means) → Of Message → Bool
rightly v o os rs place means x = both (alike_at o x.origin os (means x.it)) (pick (both (by_place x.it) (eqb x.origin o)) (only_at v o place 0 os rs) true)

abbrev right_head : {A : Type 0} → View A → ℕ → List ℕ → List A → ℕ → (Message → Means) → List (Of Message) → Bool
right_head v o os rs place means [] = true
right_head v o os rs place means (x ∷ xs) = rightly v o os rs place means x

rightly-told :
    {A : Type 0} (v : View A) (o : ℕ) (os : List ℕ) (rs : List A) (place : ℕ) (means : Message → Means) → v.used v.blank ≡ false → (x : Of Message) →
    rightly v o os rs place means x ≡ true → Rightly v origins o os rs x place (means x.it)
rightly-told v o os rs place means free x so =
    let parts = both_parts (alike_at o x.origin os (means x.it)) (pick (both (by_place x.it) (eqb x.origin o)) (only_at v o place 0 os rs) true) so in
    record {
      its = alike_at_lem o x.origin os (means x.it) parts.0;
      named = λ goes key i u mine.
          let t : both (by_place x.it) (eqb x.origin o) ≡ true = both_true goes ∙ eq-eqb x.origin o key in
          let z = only-told v o place 0 os rs free (subst (λ (b : Bool). pick b (only_at v o place 0 os rs) true ≡ true) t parts.1) i u mine in omega (arith, z);
    }

abbrev apart : ℕ → World → Event → Bool
apart o w (clerk_does input) = true
apart o w (line_does input) = true
apart o w (clerk_is_told signal name busy) = true
apart o w (clerk_hears busy place) = right_head clerk_view o w.clerk_origins (clerk_records w.clerk.words) place (λ m. clerk_means w m place) w.down
apart o w (line_hears place) = right_head line_view o w.line_origins (line_records w.line.words) place (λ m. line_means w m place) w.up
apart o w (drops_up i) = true
apart o w (drops_down i) = true
apart o w (counts count) = true

apart-told : (o : ℕ) (w : World) (e : Event) → apart o w e ≡ true → Apart o w e
apart-told o w e so =
    record {
      atClerk = λ busy place x rest is head.
          rightly-told clerk_view o w.clerk_origins (clerk_records w.clerk.words) place (λ m. clerk_means w m place) ClerkStart.blank-unused x
          (subst (λ (xs : List (Of Message)). right_head clerk_view o w.clerk_origins (clerk_records w.clerk.words) place (λ m. clerk_means w m place) xs ≡ true) head
          (subst (λ (y : Event). apart o w y ≡ true) is so));
      atLine = λ place x rest is head.
          rightly-told line_view o w.line_origins (line_records w.line.words) place (λ m. line_means w m place) LineStart.blank-unused x
          (subst (λ (xs : List (Of Message)). right_head line_view o w.line_origins (line_records w.line.words) place (λ m. line_means w m place) xs ≡ true) head
          (subst (λ (y : Event). apart o w y ≡ true) is so));
    }

abbrev pub keeps : ℕ → World → List Event → Bool
keeps o w es = passes (apart o) w es

pub keeps-told : (o : ℕ) {first : World} (w : World) (es : List Event) → Run (Apart o) first w → keeps o w es ≡ true → Run (Apart o) first (play w es)
keeps-told o w es before so = passes-told (Apart o) (apart o) (apart-told o) w es before so

unfoldable pub all_run : Bool → List Row → Bool
all_run retain [] = true
all_run retain (r ∷ rs) = both (runs (start retain) r.events) (all_run retain rs)

pub each-reached : (retain : Bool) (rs : List Row) → all_run retain rs ≡ true → EachReached retain rs
unfolding all_run
each-reached retain [] so = tt
each-reached retain (r ∷ rs) so =
    let parts = both_parts (runs (start retain) r.events) (all_run retain rs) so in
    (reached usual one_line true retain (bytes-told one_line refl) (run-told (start retain) r.events stop parts.0), each-reached retain rs parts.1)
