-- In every world of a run a request for which the premise holds at each step has its net, and every step of the world is a step of it or leaves it.
use Rattle.std.specs.Prelude.{None}
use Prim.Native.Nat.{ℕ}
use mathlib.Core.Path.{◌≡◌, refl, sym, ◌∙◌, ap}
use mathlib.Core.Bool.{Bool, false, false≢true}
use mathlib.Core.List.{List, [], Memᴰ as Noted}
use lib.ListN.{length-replicate}
use Rattle.lists.specs.Words.{Bytes}
use Rattle.desk.specs.Sends.{no_number}
use Rattle.lists.proofs.Choice.{no_true}
use Rattle.clerk_records.specs.Layout as ClerkLayout
use Rattle.clerk_records.proofs.RecordsLaws as ClerkLaws
use Rattle.clerk.specs.Start.{started_desk}
use Rattle.clerk.specs.declared.start.Lengths.{Lengths}
use Rattle.clerk_sound.specs.Sound as ClerkSound
use Rattle.clerk_sound.proofs.Start as ClerkStart
use Rattle.line_table.specs.Search.{used}
use Rattle.line_records.specs.Layout as LineLayout
use Rattle.line_records.proofs.RecordsLaws as LineLaws
use Rattle.line.specs.Start.{started}
use Rattle.line_sound.specs.Sound as LineSound
use Rattle.line_sound.proofs.Starting as LineStarting
use Rattle.pair_request.specs.Reading as R
use Rattle.pair.specs.World.{Naming, Note, World, Event, clerk_does, line_does, clerk_is_told, clerk_hears, line_hears, drops_up, drops_down, counts, clerk_holds, line_holds, messages_of, next, Allowed, Run, stop, then, start_world, Reached, reached}
use Rattle.pair.proofs.Keys.{Tells, origins-tell}
use Rattle.pair.proofs.Sits.{nowhere}
use Rattle.pair.proofs.Ends.{clerk_read, line_read, policy_of}
use Rattle.pair.proofs.Wires.{no-message, quiet}
use Rattle.pair.proofs.Notes.{knows_none}
use Rattle.pair.proofs.Sim.{Good, Sim, Fine, Hearing, Turn, leaves, moves, Turned, clerk-held, line-held}
use Rattle.pair.proofs.ClerkSteps.{clerk_does_lem, clerk-tells, clerk_hear}
use Rattle.pair.proofs.LineSteps.{line_does_lem, line_hear}
use Rattle.pair.proofs.Drops.{drop-up, drop-down, counts-on}

-- ---- every step, once
pub turned : {K : Type 0} {n : Naming K} (tells : Tells n) {p : R.Policy} {w : World} → Good p w → (e : Event) → Allowed w e → Turned n p w e (next w e)
unfolding next
turned tells g (clerk_does input) allowed = clerk_does_lem tells g input allowed
turned tells g (line_does input) allowed = line_does_lem tells g input allowed
turned tells g (clerk_is_told x j busy) allowed = clerk-tells tells g x j busy
turned tells {w = w} g (clerk_hears busy place) allowed = clerk_hear tells g busy place w.down refl g.down
turned tells {w = w} g (line_hears place) allowed = line_hear tells g place w.up refl g.up
turned tells g (drops_up i) allowed = drop-up tells g i
turned tells g (drops_down i) allowed = drop-down tells g i
turned tells g (counts count) allowed = counts-on tells g count

-- ---- the start: every desk empty, every wire quiet, nothing in the history
abbrev pub start_policy : List ℕ → Bool → Bool → R.Policy
start_policy given keep retain = policy_of (started given keep retain).desk.words

nothing-noted : {B : Type 0} (x : Note) → Noted x [] → B
nothing-noted x m = elim m [ ]

line-unused : (given : List ℕ) (keep retain : Bool) (i : ℕ) → (LineSound.line_view).used (LineSound.record_at (started given keep retain).desk i) ≡ false
line-unused given keep retain i = ap used (LineStarting.start-free given keep retain i) ∙ LineStarting.blank-unused

pub good_start : (lengths : Lengths) (given : List ℕ) (keep retain : Bool) → Bytes given → Good (start_policy given keep retain) (start_world lengths given keep retain)
good_start lengths given keep retain b =
    record {
      clerk = ClerkSound.starts lengths;
      line = LineSound.starts given keep retain b;
      policy = refl;
      clerk_full = length-replicate {A = ℕ} ClerkLayout.places 0 ∙ sym (ClerkLaws.records-length (started_desk lengths).words);
      line_full = length-replicate {A = ℕ} LineLayout.places 0 ∙ sym (LineLaws.records-length (started given keep retain).desk.words);
      clerk_labels = λ i u. absurd (no_true (sym (ClerkStart.start-empty lengths i) ∙ u));
      line_labels = λ i u. absurd (no_true (sym (line-unused given keep retain i) ∙ u));
      up = quiet;
      down = quiet;
      taken = λ l m. nothing-noted (Note.taken_up l) m;
    }

pub start-sim : {K : Type 0} (n : Naming K) (k : K) (lengths : Lengths) (given : List ℕ) (keep retain : Bool) → Sim n k (start_world lengths given keep retain) R.start
unfolding messages_of
start-sim n k lengths given keep retain =
    record {
      name = record { identifier = None; numberA = no_number; numberB = no_number; service = 0 };
      clerk_place = None;
      clerk_sits = nowhere (λ i m. no_true (sym (ClerkStart.start-empty lengths i) ∙ m.0));
      clerk = refl;
      line_place = None;
      line_sits = nowhere (λ i m. no_true (sym (line-unused given keep retain i) ∙ m.0));
      active = false;
      line = refl;
      up = refl;
      down = refl;
      up_clear = no-message;
      down_clear = no-message;
      kept = λ e. absurd (false≢true e);
      used = knows_none n k _;
      timed_out = knows_none n k _;
      guarded = knows_none n k _;
      dropped = knows_none n k _;
    }

-- ---- runs
pub run-good : {P : World → Event → Type 0} {p : R.Policy} {first w : World} → Run P first w → Good p first → Good p w
run-good stop g = g
run-good (then run e allowed so) g = (turned origins-tell (run-good run g) e allowed).0

pub good-world : {P : World → Event → Type 0} (w : World) → Reached P w → (p : R.Policy) × Good p w
good-world w (reached lengths given keep retain b run) = (start_policy given keep retain, run-good run (good_start lengths given keep retain b))

-- what a step makes of one request's net: it leaves it, or is a step of it
pub data Follows {K : Type 0} (n : Naming K) (p : R.Policy) (k : K) (w : World) (e : Event) (s : R.Net) : R.Net → Type 0 where
  stays : Follows n p k w e s s
  steps : (r : R.Event) → Hearing n k w e r → Follows n p k w e s (R.next p s r)

pub turn_step : {K : Type 0} {n : Naming K} {p : R.Policy} {k : K} {w : World} {e : Event} {after : World} {s : R.Net} → Turn n p k w e after s → (m : R.Net) × (Follows n p k w e s m × Sim n k after m)
turn_step {s = s} (leaves left sim) = (s, (stays, sim))
turn_step {p = p} {s = s} (moves named r heard sim) = (R.next p s r, (steps r heard, sim))

pub follows_reach : {K : Type 0} {n : Naming K} {p : R.Policy} {k : K} {w : World} {e : Event} {s m : R.Net} → Follows n p k w e s m → R.Reach p s → R.Reach p m
follows_reach stays r = r
follows_reach (steps x h) r = R.more r x

-- a request's net in a world, and what else holds there
pub record Known {K : Type 0} (n : Naming K) (Inv : World → Type 0) (k : K) (p : R.Policy) (w : World) : Type 0 where
  pub net : R.Net
  pub reach : R.Reach p net
  pub sim : Sim n k w net
  pub inv : Inv w

-- what its end holds, as it is read
pub clerk-reads :
    {K : Type 0} {n : Naming K} (tells : Tells n) {Inv : World → Type 0} {k : K} {p : R.Policy} {w : World} → Good p w → (x : Known n Inv k p w) →
    clerk_holds n w k ≡ clerk_read x.sim.name x.net.clerk
clerk-reads tells g x = clerk-held tells g x.sim ∙ x.sim.clerk

pub line_reads :
    {K : Type 0} {n : Naming K} (tells : Tells n) {Inv : World → Type 0} {k : K} {p : R.Policy} {w : World} → Good p w → (x : Known n Inv k p w) →
    line_holds n w k ≡ line_read x.sim.name x.sim.active x.net.line
line_reads tells g x = line-held tells g x.sim ∙ x.sim.line

-- a premise from which the steps of a request are fine, by what it makes hold in every world of its runs
pub record Fines {K : Type 0} (n : Naming K) (Holds : K → World → Event → Type 0) : Type 1 where
  pub Inv : World → Type 0
  pub begins : (lengths : Lengths) (given : List ℕ) (keep retain : Bool) → Inv (start_world lengths given keep retain)
  pub keeps : {p : R.Policy} {w : World} → Good p w → Inv w → (k : K) (e : Event) → Holds k w e → Inv (next w e)
  pub fine : {p : R.Policy} {w : World} → Good p w → Inv w → (k : K) (e : Event) → Holds k w e → Fine n k w e

module _ {K : Type 0} {n : Naming K} (tells : Tells n) {Holds : K → World → Event → Type 0} (fines : Fines n Holds) where
  pub step-known :
      {k : K} {p : R.Policy} {w : World} → Good p w → (x : Known n fines.Inv k p w) → (e : Event) → Allowed w e → Holds k w e →
      (y : Known n fines.Inv k p (next w e)) × Follows n p k w e x.net y.net
  step-known {k} {p} {w} g x e allowed so =
      let s = turn_step ((turned tells g e allowed).1 k x.net x.reach x.sim (fines.fine g x.inv k e so)) in
      (record { net = s.0; reach = follows_reach s.1.0 x.reach; sim = s.1.1; inv = fines.keeps g x.inv k e so }, s.1.0)

  pub run-known : {k : K} {p : R.Policy} {first w : World} → Run (Holds k) first w → Good p first → Known n fines.Inv k p first → Known n fines.Inv k p w
  run-known stop g x = x
  run-known (then run e allowed so) g x = (step-known (run-good run g) (run-known run g x) e allowed so).0

  abbrev pub known_start : (k : K) (lengths : Lengths) (given : List ℕ) (keep retain : Bool) → Known n fines.Inv k (start_policy given keep retain) (start_world lengths given keep retain)
  known_start k lengths given keep retain = record { net = R.start; reach = R.begin; sim = start-sim n k lengths given keep retain; inv = fines.begins lengths given keep retain }

  pub known-world : (k : K) (w : World) → Reached (Holds k) w → (p : R.Policy) × (Good p w × Known n fines.Inv k p w)
  known-world k w (reached lengths given keep retain b run) =
      (start_policy given keep retain, (run-good run (good_start lengths given keep retain b), run-known run (good_start lengths given keep retain b) (known_start k lengths given keep retain)))
