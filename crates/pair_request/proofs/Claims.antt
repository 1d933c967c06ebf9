-- What is claimed of one request at its two ends, for every net that some run leads to: by the invariants of Agree, Quiet and Over.
use Prim.Native.Nat.{ℕ}
use mathlib.Core.Path.{◌≡◌, refl, sym, ◌∙◌}
use mathlib.Core.Bool.{Bool, true, false, true≢false, false≢true}
use mathlib.Core.Logic.{◌⊎◌, inl, inr}
use mathlib.Core.List.{List, [], ◌∷◌}
use Rattle.message.specs.declared.Kind.{Kind}
use Rattle.pair_request.specs.Reading.{Data, Own, has, Terms, asked, Msg, request, CState, waiting, live, LState, idle, Line, none, holds, Policy, terms_of, Word, line_takes, line_acts, Net, held, Event, asks, clerk_does, line_does, clerk_gets, line_gets, loses_up, loses_down, ask_step, clerk_get_step, line_get_step, next, Reach}
use Rattle.pair_request.specs.Listed.{Listed}
use Rattle.pair_request.proofs.Effects.{Carried, LineActEffect, line_stays, line_quits, line-offers, line-alerts, line-fails, line-marks, line-act-effect, LineTakeEffect, line-take-stays, line-take-ends, line-take-moves, line-take-accepts, line-take-effect, or_elim, Move, still, ask, clerk-act, line-act, clerk-get, line-get, up-lost, down-lost, moves}
use Rattle.pair_request.proofs.Agree.{agreed, live-accepted, held-accepted, accepted-plain, waiting-agrees, live-agrees, live-carried, held_carried}
use Rattle.pair_request.proofs.Quiet.{undropped, quiet-listed}
use Rattle.pair_request.proofs.Over.{Over, over-move, ran}

-- ---- accepted first
pub acked_was_accepted : {p : Policy} {s : Net} (t : Terms) (own : Own) (x : CState) → Reach p s → s.clerk ≡ live t own x → s.accepted ≡ true
acked_was_accepted t own x r e = live-accepted (rw e at (agreed r))

newly : {p : Policy} {s s' : Net} → Move p s s' → s'.accepted ≡ true → (s.accepted ≡ true) ⊎ (held s'.line ≡ true)
newly still h = inl h
newly (ask q e) h = inl h
newly (clerk-act e t) h = inl h
newly (line-act {l} e t) h = or_elim (held l) _ h inr inl
newly (clerk-get b e) h = inl h
newly {p} {s} (line-get {m} w e) h = or_elim (held (line_takes p s.line m w).0) _ h inr inl
newly (up-lost i) h = inl h
newly (down-lost i) h = inl h

-- accepted after a step: it was before, or the line holds it now
pub newly-next : (p : Policy) (s : Net) (e : Event) → (next p s e).accepted ≡ true → (s.accepted ≡ true) ⊎ (held (next p s e).line ≡ true)
newly-next p s e h = newly (moves p s e) h

-- from s to s' the line, which held nothing, takes up the request at the head of its wire
pub record TakesUp (p : Policy) (s s' : Net) : Type 0 where
  pub asked_data : Data
  pub asked-kind : Kind
  pub preference : ℕ
  pub rest : List Msg
  pub under-way : s.up ≡ request asked_data asked-kind preference ∷ rest
  pub held_none : s.line ≡ none
  pub holds-now : s'.line ≡ holds (terms_of p asked_data preference) (has asked-kind false) idle

-- an act leaves nothing held where nothing was
held-before : {l l' : Line} {o : List Msg} → LineActEffect l l' o → held l' ≡ true → held l ≡ true
held-before line_stays h = h
held-before line_quits h = refl
held-before (line-offers f) h = refl
held-before line-alerts h = refl
held-before line-fails h = refl
held-before line-marks h = refl

not-held : (l : Line) → (held l ≡ true → ⊥) → l ≡ none
not-held none h = refl
not-held (holds t own s) h = absurd (h refl)

-- a message at a line that holds nothing, after which it holds something
takes-up : {p : Policy} {m : Msg} {s s' : Net} {u o : List Msg} {l l' : Line} → LineTakeEffect p l m l' o → s.up ≡ m ∷ u → s.line ≡ l → s'.line ≡ l' → l ≡ none → held l' ≡ true → TakesUp p s s'
takes-up (line-take-stays i) e f g n h = absurd (false≢true cc)
takes-up (line-take-ends i) e f g n h = absurd (false≢true h)
takes-up (line-take-moves i) e f g n h = absurd (false≢true cc)
takes-up {u} (line-take-accepts {d} {kind} {q}) e f g n h =
    record { asked_data = d; asked-kind = kind; preference = q; rest = u; under-way = e; held_none = f; holds-now = g }

ask-accepts-none : (s : Net) (d : Data) (kind : Kind) (q : ℕ) (b : Bool) → (ask_step s d kind q b).accepted ≡ s.accepted
unfolding ask_step
ask-accepts-none s d kind q true = refl
ask-accepts-none s d kind q false = refl

clerk-accepts-none : (s : Net) (b : Bool) (v : List Msg) → (clerk_get_step s b v).accepted ≡ s.accepted
unfolding clerk_get_step
clerk-accepts-none s b [] = refl
clerk-accepts-none s b (m ∷ v) = refl

both_ways : {b : Bool} → b ≡ false → b ≡ true → ⊥
both_ways f h = true≢false (sym h ∙ f)

line-accepts : {p : Policy} (s : Net) (w : Word) (u : List Msg) → s.up ≡ u → s.line ≡ none → s.accepted ≡ false → (line_get_step p s w u).accepted ≡ true → TakesUp p s (line_get_step p s w u)
unfolding line_get_step
line-accepts s w [] e n f h = absurd (both_ways f h)
line-accepts {p} s w (m ∷ u) e n f h =
    or_elim (held (line_takes p s.line m w).0) _ h (λ g. takes-up (line-take-effect p s.line m w) e refl refl n g) (λ g. absurd (both_ways f g))

-- nothing but a delivery to the line, which takes a request, makes a request accepted
pub accepts-by-request : {p : Policy} {s : Net} (e : Event) → Reach p s → s.accepted ≡ false → (next p s e).accepted ≡ true → (w : Word) × (e ≡ line_gets w) × TakesUp p s (next p s e)
unfolding next
accepts-by-request {s} (asks d kind q) r f h = absurd (both_ways f (sym (ask-accepts-none s d kind q s.used) ∙ h))
accepts-by-request (clerk_does x) r f h = absurd (both_ways f h)
accepts-by-request {s} (line_does x) r f h = absurd (both_ways f (or_elim (held (line_acts s.line x).0) _ h (λ g. held-accepted (agreed r) (held-before (line-act-effect s.line x) g)) (λ g. g)))
accepts-by-request {s} (clerk_gets b) r f h = absurd (both_ways f (sym (clerk-accepts-none s b s.down) ∙ h))
accepts-by-request {s} (line_gets w) r f h = (w, refl, line-accepts s w s.up refl (not-held s.line (λ g. both_ways f (held-accepted (agreed r) g))) f h)
accepts-by-request (loses_up i) r f h = absurd (both_ways f h)
accepts-by-request (loses_down i) r f h = absurd (both_ways f h)

-- ---- the data agree while both hold it
pub both_hold_waiting :
    {p : Policy} {s : Net} (d : Data) (t : Terms) (kind : Kind) (own' : Own) (y : LState) → Reach p s → s.clerk ≡ waiting d kind → s.line ≡ holds t own' y →
    d ≡ asked t
both_hold_waiting d t kind own' y r e f = waiting-agrees (rw (e, f) at (agreed r))

pub both_hold_live :
    {p : Policy} {s : Net} (t t' : Terms) (own own' : Own) (x : CState) (y : LState) → Reach p s → s.clerk ≡ live t own x → s.line ≡ holds t' own' y →
    t ≡ t'
both_hold_live t t' own own' x y r e f = live-agrees (rw (e, f) at (agreed r))

-- ---- what arrives is carried so that it is taken, whatever was dropped
pub clerk-carried : {p : Policy} {s : Net} (t : Terms) (own : Own) (x : CState) (m : Msg) (v : List Msg) → Reach p s → s.clerk ≡ live t own x → s.down ≡ m ∷ v → Carried t m
clerk-carried t own x m v r e f = live-carried (rw (e, f) at (agreed r))

pub line-carried : {p : Policy} {s : Net} (t : Terms) (own : Own) (x : LState) (m : Msg) (u : List Msg) → Reach p s → s.line ≡ holds t own x → s.up ≡ m ∷ u → Carried t m
line-carried t own x m u r e f = held_carried (rw (e, f) at (agreed r))

-- ---- nothing dropped and nothing under way: a listed pair
pub quiet_pair : {p : Policy} {s : Net} → Reach p s → s.dropped ≡ false → s.up ≡ [] → s.down ≡ [] → Listed s.clerk s.line
quiet_pair r f u v = quiet-listed (rw (u, v) at (undropped r f))

-- ---- T1 or T2 ran out at one end and the guard at the other: over now, and from then on
pub over-now : {p : Policy} {s : Net} → Reach p s → s.timed_out ≡ true → s.guarded ≡ true → Over s
over-now r t g =
    record {
      was_used = ((ran r).timer-ran t).0;
      clerk-none = ((ran r).timer-ran t).1;
      line-none = ((ran r).guard-ran g).1;
      no-request = accepted-plain (rw ((ran r).guard-ran g).0 at (agreed r));
    }

pub over-next : (p : Policy) {s : Net} (e : Event) → Over s → Over (next p s e)
over-next p {s} e h = over-move (moves p s e) h
