-- What the ends store and the wires carry of a request is what was asked, whatever is dropped: an invariant of a run, by the forms of a step.
use Prim.Native.Nat.{ℕ, zero, suc}
use mathlib.Core.Path.{◌≡◌, refl, sym}
use mathlib.Core.Bool.{Bool, true, false, false≢true}
use mathlib.Core.List.{List, [], ◌∷◌, ◌++◌}
use Rattle.message.specs.declared.Kind.{Kind}
use Rattle.pair_request.specs.Reading.{ret, Own, Data, Terms, chosen, asked, Msg, request, cancel, CState, Clerk, absent, waiting, live, LState, Line, none, holds, Policy, terms_of, result_of, Net, or, present, held, Reach, begin, more, left_out}
use Rattle.pair_request.specs.Listed.{NotReq, NoReq}
use Rattle.pair_request.proofs.Effects.{no_req++, no_req_left, just_cancel, NotRes, NoRes, ClerkActEffect, stays, quit_waiting, drops_waiting, quit_live, accepts, resuming, recalling, marking, act-plain, ClerkTakeEffect, take-stays, take-replies, take-ends-waiting, take_ends, take-ends-cancel, take-moves, take-suspends, take_acks, clerk-take-effect, take-plain, LineActEffect, line_stays, line_quits, line-offers, line-alerts, line-fails, line-marks, line-act-silent, silent, silent-carried, Carried, AllCarried, carried++, carried-left, LineTakeEffect, line-take-stays, line-take-ends, line-take-moves, line-take-accepts, line-take-effect, Keepable, keepable, Move, still, ask, clerk-act, line-act, clerk-get, line-get, up-lost, down-lost, moves}

-- what was asked and chosen, the terms t; whether it was accepted; what the clerk's end holds. Of the kind nothing is said: busy again changes it at one end first
pub data ClerkOk (t : Terms) : Bool → Clerk → Type 0 where
  ok_absent : {a : Bool} → ClerkOk t a absent
  ok_waiting : {kind : Kind} {a : Bool} → ClerkOk t a (waiting (asked t) kind)
  ok_live : {own : Own} {s : CState} → ClerkOk t true (live t own s)

pub data LineOk (t : Terms) : Bool → Line → Type 0 where
  ok_none : {a : Bool} → LineOk t a none
  ok_holds : {own : Own} {s : LState} → LineOk t true (holds t own s)

pub data DownOk (t : Terms) : Bool → List Msg → Type 0 where
  down_nil : {a : Bool} → DownOk t a []
  down-result : {v : List Msg} → DownOk t true v → DownOk t true (result_of t ∷ v)
  down-other : {a : Bool} {m : Msg} {v : List Msg} → NotRes m → DownOk t a v → DownOk t a (m ∷ v)

-- was it asked, the ends and the wires, was it accepted; and what goes by a connection choice on either wire goes by one that is taken for these terms
pub data Agrees : Bool → Clerk → List Msg → Line → List Msg → Bool → Type 0 where
  before : Agrees false absent [] none [] false
  early-waiting : {d : Data} {kind : Kind} {q : ℕ} {u : List Msg} → NoReq u → ((t : Terms) → AllCarried t u) → Agrees true (waiting d kind) (request d kind q ∷ u) none [] false
  early-absent : {d : Data} {kind : Kind} {q : ℕ} {u : List Msg} → NoReq u → ((t : Terms) → AllCarried t u) → Agrees true absent (request d kind q ∷ u) none [] false
  after :
      {t : Terms} {c : Clerk} {u : List Msg} {l : Line} {v : List Msg} {a : Bool} → Keepable t → NoReq u →
      AllCarried t u × AllCarried t v → ClerkOk t a c → LineOk t a l → DownOk t a v → Agrees true c u l v a

down++ : {t : Terms} {a : Bool} {v : List Msg} (o : List Msg) → DownOk t a v → NoRes o → DownOk t a (v ++ o)
down++ [] down_nil h = down_nil
down++ (m ∷ o) down_nil h = down-other h.0 (down++ o down_nil h.1)
down++ o (down-result j) h = down-result (down++ o j h)
down++ o (down-other n j) h = down-other n (down++ o j h)

down-left : {t : Terms} {a : Bool} {v : List Msg} (i : ℕ) → DownOk t a v → DownOk t a (left_out i v)
unfolding left_out
down-left i down_nil = down_nil
down-left zero (down-result j) = j
down-left (suc i) (down-result j) = down-result (down-left i j)
down-left zero (down-other n j) = j
down-left (suc i) (down-other n j) = down-other n (down-left i j)

down-tail : {t : Terms} {a : Bool} {m : Msg} {v : List Msg} → DownOk t a (m ∷ v) → DownOk t a v
down-tail (down-result j) = j
down-tail (down-other n j) = j

-- ---- the ask, and an act at the clerk's end
agrees-asks :
    {c : Clerk} {u v : List Msg} {l : Line} {a : Bool} (d : Data) (kind : Kind) (q : ℕ) → Agrees false c u l v a →
    Agrees true (waiting d kind) (u ++ (request d kind q ∷ [])) l v a
agrees-asks d kind q before = early-waiting tt (λ t. tt)

ok_acts : {t : Terms} {a : Bool} {c c' : Clerk} {o : List Msg} → ClerkOk t a c → ClerkActEffect c c' o → ClerkOk t a c'
ok_acts k stays = k
ok_acts ok_waiting quit_waiting = ok_absent
ok_acts ok_waiting drops_waiting = ok_absent
ok_acts ok_live quit_live = ok_absent
ok_acts ok_live accepts = ok_live
ok_acts ok_live (resuming f) = ok_live
ok_acts ok_live recalling = ok_live
ok_acts ok_live marking = ok_live

act-carried : {t : Terms} {a : Bool} {c c' : Clerk} {o : List Msg} → ClerkOk t a c → ClerkActEffect c c' o → AllCarried t o
act-carried k stays = tt
act-carried k quit_waiting = (tt, tt)
act-carried k drops_waiting = tt
act-carried k quit_live = (tt, tt)
act-carried k accepts = (tt, tt)
act-carried ok_live (resuming f) = (f, tt)
act-carried k recalling = tt
act-carried k marking = tt

agrees-acts : {y : Bool} {c c' : Clerk} {u o : List Msg} {l : Line} {v : List Msg} {a : Bool} → Agrees y c u l v a → ClerkActEffect c c' o → Agrees y c' (u ++ o) l v a
agrees-acts before stays = before
agrees-acts (early-waiting {u} h w) stays = early-waiting (no_req++ u _ h tt) (λ t. carried++ t u _ (w t) tt)
agrees-acts (early-waiting {u} h w) quit_waiting = early-absent (no_req++ u _ h (just_cancel ret)) (λ t. carried++ t u (cancel ret ∷ []) (w t) (tt, tt))
agrees-acts (early-waiting {u} h w) drops_waiting = early-absent (no_req++ u _ h tt) (λ t. carried++ t u _ (w t) tt)
agrees-acts (early-absent {u} h w) stays = early-absent (no_req++ u _ h tt) (λ t. carried++ t u _ (w t) tt)
agrees-acts {u} {o} (after {t} f h w k l v) e = after f (no_req++ u o h (act-plain e)) (carried++ t u o w.0 (act-carried k e), w.1) (ok_acts k e) l v

-- ---- a message at the clerk's end
ok_gets :
    (t : Terms) {a : Bool} {m : Msg} {v : List Msg} {c c' : Clerk} {o : List Msg} → Keepable t → ClerkOk t a c → DownOk t a (m ∷ v) →
    ClerkTakeEffect c m c' o → ClerkOk t a c'
ok_gets t f k j take-stays = k
ok_gets t f k j take-replies = k
ok_gets t f ok_waiting j take-ends-waiting = ok_absent
ok_gets t f ok_live j take_ends = ok_absent
ok_gets t f ok_live j take-ends-cancel = ok_absent
ok_gets t f ok_live j take-moves = ok_live
ok_gets t f ok_live j (take-suspends g) = ok_live
ok_gets (chosen d k n) f ok_waiting (down-result j) take_acks = rw f ok_live
ok_gets t f ok_waiting (down-other h j) take_acks = absurd h

take-carried : {t : Terms} {a : Bool} {m : Msg} {c c' : Clerk} {o : List Msg} → ClerkOk t a c → ClerkTakeEffect c m c' o → AllCarried t o
take-carried k take-stays = tt
take-carried k take-replies = (tt, tt)
take-carried k take-ends-waiting = tt
take-carried k take_ends = tt
take-carried k take-ends-cancel = (tt, tt)
take-carried k take-moves = tt
take-carried ok_live (take-suspends f) = (f, tt)
take-carried k take_acks = tt

agrees-clerk_gets :
    {y : Bool} {c c' : Clerk} {m : Msg} {u o v : List Msg} {l : Line} {a : Bool} → Agrees y c u l (m ∷ v) a → ClerkTakeEffect c m c' o →
    Agrees y c' (u ++ o) l v a
agrees-clerk_gets {u} {o} (after {t} f h w k l v) e =
    after f (no_req++ u o h (take-plain e)) (carried++ t u o w.0 (take-carried k e), w.1.1) (ok_gets t f k v e) l (down-tail v)

-- ---- an act at the line's end
ok_line-acts : {t : Terms} {a : Bool} {l l' : Line} {o : List Msg} → LineOk t a l → LineActEffect l l' o → LineOk t a l'
ok_line-acts k line_stays = k
ok_line-acts k line_quits = ok_none
ok_line-acts ok_holds (line-offers f) = ok_holds
ok_line-acts k line-alerts = ok_none
ok_line-acts k line-fails = ok_none
ok_line-acts ok_holds line-marks = ok_holds

line-act-carried : {t : Terms} {a : Bool} {l l' : Line} {o : List Msg} → LineOk t a l → LineActEffect l l' o → AllCarried t o
line-act-carried k line_stays = tt
line-act-carried k line_quits = (tt, tt)
line-act-carried ok_holds (line-offers f) = (f, tt)
line-act-carried k line-alerts = (tt, tt)
line-act-carried k line-fails = (tt, tt)
line-act-carried k line-marks = tt

-- the history's flag after a step of the line's: set if the line holds the request now
flag_same : {t : Terms} {a : Bool} {l : Line} → LineOk t a l → or (held l) a ≡ a
flag_same ok_none = refl
flag_same ok_holds = refl

agrees-line-acts :
    {y : Bool} {c : Clerk} {u o v : List Msg} {l l' : Line} {a : Bool} → Agrees y c u l v a → LineActEffect l l' o →
    Agrees y c u l' (v ++ o) (or (held l') a)
agrees-line-acts before line_stays = before
agrees-line-acts (early-waiting h w) line_stays = early-waiting h w
agrees-line-acts (early-absent h w) line_stays = early-absent h w
agrees-line-acts {o} {v = down} (after {t} f h w k l v) e =
    rw (flag_same (ok_line-acts l e)) (after f h (w.0, carried++ t down o w.1 (line-act-carried l e)) k (ok_line-acts l e) (down++ o v (line-act-silent e)))

-- ---- a message at the line's end
line_gets_plain :
    {p : Policy} {t : Terms} {a : Bool} {m : Msg} {l l' : Line} {o v : List Msg} → NotReq m → LineOk t a l → DownOk t a v →
    LineTakeEffect p l m l' o → LineOk t a l' × (DownOk t a (v ++ o) × AllCarried t o)
line_gets_plain {t = t} {o = o} h k j (line-take-stays i) = (k, (down++ o j (silent i), silent-carried t i))
line_gets_plain {t = t} {o = o} h k j (line-take-ends i) = (ok_none, (down++ o j (silent i), silent-carried t i))
line_gets_plain {t = t} {o = o} h ok_holds j (line-take-moves i) = (ok_holds, (down++ o j (silent i), silent-carried t i))
line_gets_plain h k j line-take-accepts = absurd h

early_gets :
    {p : Policy} {c : Clerk} {d : Data} {kind : Kind} {q : ℕ} {u o : List Msg} {l' : Line} → NoReq u → ((t : Terms) → AllCarried t u) → ((a : Bool) → ClerkOk (terms_of p d q) a c) →
    LineTakeEffect p none (request d kind q) l' o → Agrees true c u l' o (or (held l') false)
early_gets {p} {d} {q} {o} h w k (line-take-stays i) = after (keepable p d q) h (w (terms_of p d q), silent-carried (terms_of p d q) i) (k _) ok_none (down++ o down_nil (silent i))
early_gets {p} {d} {q} {o} h w k (line-take-ends i) = after (keepable p d q) h (w (terms_of p d q), silent-carried (terms_of p d q) i) (k _) ok_none (down++ o down_nil (silent i))
early_gets {p} {d} {q} {u} h w k line-take-accepts =
    let t = terms_of p d q in
    let carried : AllCarried t u × AllCarried t (result_of t ∷ []) = (w t, (tt, tt)) in
    after (keepable p d q) h carried (k _) ok_holds (down-result down_nil)

agrees-line_gets :
    {p : Policy} {y : Bool} {c : Clerk} {m : Msg} {u o v : List Msg} {l l' : Line} {a : Bool} → Agrees y c (m ∷ u) l v a → LineTakeEffect p l m l' o →
    Agrees y c u l' (v ++ o) (or (held l') a)
agrees-line_gets (early-waiting h w) e = early_gets h w (λ a. ok_waiting) e
agrees-line_gets (early-absent h w) e = early_gets h w (λ a. ok_absent) e
agrees-line_gets {o = o} {v = down} (after {t} f h w k l v) e =
    let g = line_gets_plain h.0 l v e in
    rw (flag_same g.0) (after f h.1 (w.0.1, carried++ t down o w.1 g.1.1) k g.0 g.1.0)

-- ---- drops
agrees-loses-up : {y : Bool} {c : Clerk} {u v : List Msg} {l : Line} {a : Bool} (p : Policy) (i : ℕ) → Agrees y c u l v a → Agrees y c (left_out i u) l v a
unfolding left_out
agrees-loses-up p i before = before
agrees-loses-up p zero (early-waiting {d} {q} h w) = after {t = terms_of p d q} (keepable p d q) h (w (terms_of p d q), tt) ok_waiting ok_none down_nil
agrees-loses-up p (suc i) (early-waiting {u} h w) = early-waiting (no_req_left i u h) (λ t. carried-left t i u (w t))
agrees-loses-up p zero (early-absent {d} {q} h w) = after {t = terms_of p d q} (keepable p d q) h (w (terms_of p d q), tt) ok_absent ok_none down_nil
agrees-loses-up p (suc i) (early-absent {u} h w) = early-absent (no_req_left i u h) (λ t. carried-left t i u (w t))
agrees-loses-up {u} p i (after {t} f h w k l v) = after f (no_req_left i u h) (carried-left t i u w.0, w.1) k l v

agrees-loses-down : {y : Bool} {c : Clerk} {u v : List Msg} {l : Line} {a : Bool} (i : ℕ) → Agrees y c u l v a → Agrees y c u l (left_out i v) a
unfolding left_out
agrees-loses-down i before = before
agrees-loses-down i (early-waiting h w) = early-waiting h w
agrees-loses-down i (early-absent h w) = early-absent h w
agrees-loses-down {v = down} i (after {t} f h w k l v) = after f h (w.0, carried-left t i down w.1) k l (down-left i v)

-- ---- over a run
abbrev pub NetAgrees : Net → Type 0
NetAgrees s = Agrees s.used s.clerk s.up s.line s.down s.accepted

agrees-move : {p : Policy} {s s' : Net} → Move p s s' → NetAgrees s → NetAgrees s'
agrees-move still i = i
agrees-move (ask {d} {kind} q e) i = agrees-asks d kind q (rw e at i)
agrees-move (clerk-act e t) i = agrees-acts i e
agrees-move (line-act e t) i = agrees-line-acts i e
agrees-move {s} (clerk-get {m} b e) i = agrees-clerk_gets (rw e at i) (clerk-take-effect s.clerk m b)
agrees-move {p} {s} (line-get {m} w e) i = agrees-line_gets (rw e at i) (line-take-effect p s.line m w)
agrees-move {p} (up-lost k) i = agrees-loses-up p k i
agrees-move (down-lost k) i = agrees-loses-down k i

pub agreed : {p : Policy} {s : Net} → Reach p s → NetAgrees s
agreed begin = before
agreed {p} (more {s} r e) = agrees-move (moves p s e) (agreed r)

-- ---- what the invariant tells
pub live-accepted : {y : Bool} {t : Terms} {own : Own} {x : CState} {u v : List Msg} {l : Line} {a : Bool} → Agrees y (live t own x) u l v a → a ≡ true
live-accepted (after f h w ok_live l v) = refl

pub held-accepted : {y : Bool} {c : Clerk} {u v : List Msg} {l : Line} {a : Bool} → Agrees y c u l v a → held l ≡ true → a ≡ true
held-accepted before e = absurd (false≢true e)
held-accepted (early-waiting h w) e = absurd (false≢true e)
held-accepted (early-absent h w) e = absurd (false≢true e)
held-accepted (after f h w k ok_none v) e = absurd (false≢true e)
held-accepted (after f h w k ok_holds v) e = refl

-- once accepted, no request is under way any more
pub accepted-plain : {y : Bool} {c : Clerk} {u v : List Msg} {l : Line} → Agrees y c u l v true → NoReq u
accepted-plain (after f h w k l v) = h

pub present-used : {y : Bool} {c : Clerk} {u v : List Msg} {l : Line} {a : Bool} → Agrees y c u l v a → present c ≡ true → y ≡ true
present-used before e = absurd (false≢true e)
present-used (early-waiting h w) e = refl
present-used (early-absent h w) e = refl
present-used (after f h w k l v) e = refl

pub waiting-agrees :
    {y : Bool} {d : Data} {t : Terms} {kind : Kind} {own' : Own} {s : LState} {u v : List Msg} {a : Bool} → Agrees y (waiting d kind) u (holds t own' s) v a →
    d ≡ asked t
waiting-agrees (after f h w ok_waiting ok_holds v) = refl

pub live-agrees :
    {y : Bool} {t t' : Terms} {own own' : Own} {x : CState} {s : LState} {u v : List Msg} {a : Bool} → Agrees y (live t own x) u (holds t' own' s) v a →
    t ≡ t'
live-agrees (after f h w ok_live ok_holds v) = refl

-- a request that was not taken up is nowhere
pub untaken : {y : Bool} {c : Clerk} {u : List Msg} {l : Line} {v : List Msg} {a : Bool} → Agrees y c u l v a → y ≡ false → (c ≡ absent) × (l ≡ none)
untaken before e = (refl, refl)
untaken (early-waiting h w) e = absurd (false≢true (sym e))
untaken (early-absent h w) e = absurd (false≢true (sym e))
untaken (after f h w k l v) e = absurd (false≢true (sym e))

-- what arrives at an end that holds the request is carried so that it is taken
pub live-carried :
    {y : Bool} {t : Terms} {own : Own} {x : CState} {m : Msg} {u v : List Msg} {l : Line} {a : Bool} → Agrees y (live t own x) u l (m ∷ v) a → Carried t m
live-carried (after f h w ok_live l v) = w.1.0

pub held_carried :
    {y : Bool} {c : Clerk} {t : Terms} {own : Own} {x : LState} {m : Msg} {u v : List Msg} {a : Bool} → Agrees y c (m ∷ u) (holds t own x) v a → Carried t m
held_carried (after f h w k ok_holds v) = w.0.0
