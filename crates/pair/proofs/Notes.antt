-- The history for one request: what a note adds to what is told of it, and what a note of another leaves.
use Rattle.lists.specs.declared.words.Words.{Words}
use Rattle.std.specs.Prelude.{Option}
use Prim.Native.Nat.{ℕ}
use mathlib.Core.Path.{◌≡◌, refl, sym, ◌∙◌, ap}
use mathlib.Core.Bool.{Bool, true, false, false≢true}
use mathlib.Core.Logic.{◌⊎◌, inl, inr}
use mathlib.Core.List.Memᴰ
use mathlib.Core.List.{List, [], ◌∷◌, Memᴰ as Noted}
use lib.Dec.{eqb}
use borrow.Author.Tests.{eq-eqb}
use Rattle.pair_request.specs.Reading.{or}
use Rattle.pair.specs.World.{Of, Naming, Note, taken_up, dropped, run_out, guarded}

-- notes are told apart by their kind and by their label
abbrev kind : Note → ℕ
kind (taken_up l) = 0
kind (dropped l) = 1
kind (run_out l) = 2
kind (guarded l) = 3

abbrev pub whose : Note → Of (Option Words)
whose (taken_up l) = l
whose (dropped l) = l
whose (run_out l) = l
whose (guarded l) = l

module _ {K : Type 0} (n : Naming K) (k : K) where
  -- what is told of a request in a history
  abbrev pub ToldIn : (Of (Option Words) → Note) → List Note → Type 0
  ToldIn note h = (l : Of (Option Words)) × ((n.key l ≡ k) × Noted (note l) h)

  -- a word tells whether it is
  pub record Knows (note : Of (Option Words) → Note) (h : List Note) (b : Bool) : Type 0 where
    pub yes : b ≡ true → ToldIn note h
    pub no : ToldIn note h → b ≡ true

  pub knows_false : {note : Of (Option Words) → Note} {h : List Note} (b : Bool) → Knows note h b → (ToldIn note h → ⊥) → b ≡ false
  knows_false true t d = absurd (d (t.yes refl))
  knows_false false t d = refl

  pub knows_none : (note : Of (Option Words) → Note) → Knows note [] false
  knows_none note = record { yes = λ e. absurd (false≢true e); no = λ m. never (note m.0) m.1.1 }
    where
      never : (x : Note) → Noted x [] → false ≡ true
      never x m = elim m [ ]

  -- ---- what a note in front of a history tells: of the request, or nothing of it
  abbrev Adds : (Of (Option Words) → Note) → List Note → List Note → Bool → Type 0
  Adds note after before so = (b : Bool) → Knows note before b → Knows note after (or so b)

  itself : {note : Of (Option Words) → Note} {h : List Note} (l : Of (Option Words)) → n.key l ≡ k → Adds note (note l ∷ h) h true
  itself l e b t = record { yes = λ q. (l, (e, Noted.head refl)); no = λ m. refl }

  behind : {note : Of (Option Words) → Note} {x : Note} {h : List Note} → ((l : Of (Option Words)) → n.key l ≡ k → note l ≡ x → ⊥) → Adds note (x ∷ h) h false
  behind {note} {x} {h} d b t =
      record { yes = λ e. let m = t.yes e in (m.0, (m.1.0, Noted.tail m.1.1)); no = λ m. by m (Memᴰ.cases_cons m.1.1) }
    where
      by : (m : ToldIn note (x ∷ h)) → (note m.0 ≡ x) ⊎ Noted (note m.0) h → b ≡ true
      by m (inl e) = absurd (d m.0 m.1.0 e)
      by m (inr i) = t.no (m.0, (m.1.0, i))

  unlike : {note : Of (Option Words) → Note} {x : Note} {h : List Note} → ((l : Of (Option Words)) → eqb (kind (note l)) (kind x) ≡ false) → Adds note (x ∷ h) h false
  unlike d = behind (λ l q e. false≢true (sym (d l) ∙ eq-eqb _ _ (ap kind e)))

  other : {note : Of (Option Words) → Note} {x : Note} {h : List Note} → ((l : Of (Option Words)) → whose (note l) ≡ l) → (n.key (whose x) ≡ k → ⊥) → Adds note (x ∷ h) h false
  other same d = behind (λ l q e. d (ap n.key (sym (ap whose e) ∙ same l) ∙ q))

  -- ---- what is told of it after a step: whether it was taken up, ran out, was guarded, lost a message
  pub record Notes (after before : List Note) (u t g x : Bool) : Type 0 where
    pub taken_up : Adds Note.taken_up after before u
    pub run_out : Adds Note.run_out after before t
    pub guarded : Adds Note.guarded after before g
    pub dropped : Adds Note.dropped after before x

  abbrev pub Unnoted : List Note → List Note → Type 0
  Unnoted after before = Notes after before false false false false

  pub unnoted : (h : List Note) → Unnoted h h
  unnoted h = record { taken_up = λ b t. t; run_out = λ b t. t; guarded = λ b t. t; dropped = λ b t. t }

  pub unnoted-other : (x : Note) (h : List Note) → (n.key (whose x) ≡ k → ⊥) → Unnoted (x ∷ h) h
  unnoted-other x h d = record { taken_up = other (λ l. refl) d; run_out = other (λ l. refl) d; guarded = other (λ l. refl) d; dropped = other (λ l. refl) d }

  pub noted-ask : (l : Of (Option Words)) (h : List Note) → n.key l ≡ k → Notes (taken_up l ∷ h) h true false false false
  noted-ask l h e = record { taken_up = itself l e; run_out = unlike (λ x. refl); guarded = unlike (λ x. refl); dropped = unlike (λ x. refl) }

  pub noted-timer : (l : Of (Option Words)) (h : List Note) → n.key l ≡ k → Notes (run_out l ∷ h) h false true false false
  noted-timer l h e = record { taken_up = unlike (λ x. refl); run_out = itself l e; guarded = unlike (λ x. refl); dropped = unlike (λ x. refl) }

  pub noted-guard : (l : Of (Option Words)) (h : List Note) → n.key l ≡ k → Notes (guarded l ∷ h) h false false true false
  noted-guard l h e = record { taken_up = unlike (λ x. refl); run_out = unlike (λ x. refl); guarded = itself l e; dropped = unlike (λ x. refl) }

  pub noted-drop : (l : Of (Option Words)) (h : List Note) → n.key l ≡ k → Notes (dropped l ∷ h) h false false false true
  noted-drop l h e = record { taken_up = unlike (λ x. refl); run_out = unlike (λ x. refl); guarded = unlike (λ x. refl); dropped = itself l e }
