-- What an input can do to an end's record and its wire, in few forms, and the forms of a step of the net: by the rows of the tables.
use Prim.Native.Nat.{ℕ, zero, suc}
use mathlib.Core.Path.{◌≡◌, refl, ap}
use mathlib.Core.Bool.{Bool, true, false, false≢true}
use mathlib.Core.List.{List, [], ◌∷◌, ◌++◌}
use Rattle.message.specs.declared.Kind.{Kind}
use Rattle.clerk_table.specs.declared.inputs.Act.TheVariants as Act
use Rattle.clerk_table.specs.declared.table.Timer.TheVariants.{T1, T2, T3}
use Rattle.pair_request.specs.Reading.{Conn, ret, rls, Data, Terms, chosen, asked, keep, conn, Msg, request, result, denied, exec, ringout, busy_again, no_match, suspend, resume, cancel, alerts, failed, CState, invoked, wait_answer, ringing, suspended, Clerk, absent, waiting, live, LState, idle, await, alert, Line, none, holds, and, not, way_of, way_fits, Own, has, down_of, CAnswer, in_ringing, on_busy_again, unfit, on_exec, clerk_takes, signal_msg, CAct, act, timer, signal, live_acts, waiting_acts, clerk_acts, Policy, terms_of, result_of, Verdict, takes, denies, Word, on_request, on_ringout, on_resume, on_suspend, line_takes, LAct, offers, alerted, call_failed, cancels, falls, guard, line_acts, Net, or, present, is_t1_or_t2, guard_ends, held, Event, asks, clerk_does, line_does, clerk_gets, line_gets, loses_up, loses_down, after_clerk, after_line, lost, after_ask, ask_step, clerk_get_step, line_get_step, next, left_out}
use Rattle.pair_request.specs.Signal.{Signal, call_died, rejected}
use Rattle.pair_request.specs.Listed.{NotReq, NoReq}

-- ---- lists of messages
pub no_req++ : (u v : List Msg) → NoReq u → NoReq v → NoReq (u ++ v)
no_req++ [] v h k = k
no_req++ (m ∷ u) v h k = (h.0, no_req++ u v h.1 k)

pub no_req_left : (i : ℕ) (u : List Msg) → NoReq u → NoReq (left_out i u)
unfolding left_out
no_req_left i [] h = tt
no_req_left zero (m ∷ u) h = h.1
no_req_left (suc i) (m ∷ u) h = (h.0, no_req_left i u h.1)

pub just_cancel : (n : Conn) → NoReq (cancel n ∷ [])
just_cancel n = (tt, tt)

-- a ccCancel is under way
pub data Has : List Msg → Type 0 where
  here : {n : Conn} {ms : List Msg} → Has (cancel n ∷ ms)
  there : {m : Msg} {ms : List Msg} → Has ms → Has (m ∷ ms)

pub has++ : {u : List Msg} (v : List Msg) → Has u → Has (u ++ v)
has++ v here = here
has++ v (there h) = there (has++ v h)

pub has-sent : (n : Conn) (u : List Msg) → Has (u ++ (cancel n ∷ []))
has-sent n [] = here
has-sent n (m ∷ u) = there (has-sent n u)

pub ++[] : (u : List Msg) → u ++ [] ≡ u
++[] [] = refl
++[] (m ∷ u) = ap (λ v. m ∷ v) (++[] u)

-- no result among the messages
abbrev pub NotRes : Msg → Type 0
NotRes (request d kind q) = Unit
NotRes (result k n) = ⊥
NotRes (denied w) = Unit
NotRes (exec n) = Unit
NotRes ringout = Unit
NotRes busy_again = Unit
NotRes no_match = Unit
NotRes (suspend n) = Unit
NotRes (resume n) = Unit
NotRes (cancel n) = Unit
NotRes alerts = Unit
NotRes failed = Unit

abbrev pub NoRes : List Msg → Type 0
NoRes [] = Unit
NoRes (m ∷ ms) = NotRes m × NoRes ms

-- ---- carriers
-- a message sent by the carrier of a choice is taken for these terms
abbrev pub Fits : Terms → Conn → Type 0
Fits t n = way_fits (conn t) n ≡ true

pub way-fits : (n : Conn) (down : Bool) → way_fits n (way_of n down) ≡ true
way-fits ret down = refl
way-fits rls down = refl

abbrev pub Carried : Terms → Msg → Type 0
Carried t (request d kind q) = Unit
Carried t (result k n) = Unit
Carried t (denied w) = Unit
Carried t (exec n) = Fits t n
Carried t ringout = Unit
Carried t busy_again = Unit
Carried t no_match = Unit
Carried t (suspend n) = Fits t n
Carried t (resume n) = Fits t n
Carried t (cancel n) = Unit
Carried t alerts = Unit
Carried t failed = Unit

abbrev pub AllCarried : Terms → List Msg → Type 0
AllCarried t [] = Unit
AllCarried t (m ∷ ms) = Carried t m × AllCarried t ms

pub carried++ : (t : Terms) (u v : List Msg) → AllCarried t u → AllCarried t v → AllCarried t (u ++ v)
carried++ t [] v h k = k
carried++ t (m ∷ u) v h k = (h.0, carried++ t u v h.1 k)

pub carried-left : (t : Terms) (i : ℕ) (u : List Msg) → AllCarried t u → AllCarried t (left_out i u)
unfolding left_out
carried-left t i [] h = tt
carried-left t zero (m ∷ u) h = h.1
carried-left t (suc i) (m ∷ u) h = (h.0, carried-left t i u h.1)

-- ---- an act at the clerk's end
pub data ClerkActEffect : Clerk → Clerk → List Msg → Type 0 where
  stays : {c : Clerk} → ClerkActEffect c c []
  quit_waiting : {d : Data} {kind : Kind} → ClerkActEffect (waiting d kind) absent (cancel ret ∷ [])
  drops_waiting : {d : Data} {kind : Kind} → ClerkActEffect (waiting d kind) absent []
  quit_live : {t : Terms} {own : Own} {s : CState} {n : Conn} → ClerkActEffect (live t own s) absent (cancel n ∷ [])
  accepts : {t : Terms} {own : Own} → ClerkActEffect (live t own wait_answer) (live t own ringing) (ringout ∷ [])
  resuming : {t : Terms} {own : Own} {n : Conn} → Fits t n → ClerkActEffect (live t own suspended) (live t own invoked) (resume n ∷ [])
  recalling : {t : Terms} {own : Own} → ClerkActEffect (live t own suspended) (live t own wait_answer) []
  marking : {t : Terms} {kind : Kind} {a b : Bool} {s : CState} → ClerkActEffect (live t (has kind a) s) (live t (has kind b) s) []

live-act-effect : (t : Terms) (own : Own) (s : CState) (x : CAct) → ClerkActEffect (live t own s) (live_acts t own s x).0 (live_acts t own s x).1
unfolding live_acts clerk_takes in_ringing
live-act-effect t own wait_answer (act Act.Accept) = accepts
live-act-effect t own invoked (act Act.Accept) = stays
live-act-effect t own ringing (act Act.Accept) = stays
live-act-effect t own suspended (act Act.Accept) = stays
live-act-effect t own suspended (act Act.Resume) = resuming (way-fits (conn t) (down_of own))
live-act-effect t own invoked (act Act.Resume) = stays
live-act-effect t own wait_answer (act Act.Resume) = stays
live-act-effect t own ringing (act Act.Resume) = stays
live-act-effect t own suspended (act Act.GoOn) = recalling
live-act-effect t own invoked (act Act.GoOn) = stays
live-act-effect t own wait_answer (act Act.GoOn) = stays
live-act-effect t own ringing (act Act.GoOn) = stays
live-act-effect t own s (act Act.Cancel) = quit_live
live-act-effect (chosen d k ret) (has kind down) s (act Act.Fell) = marking
live-act-effect (chosen d k rls) own s (act Act.Fell) = stays
live-act-effect t own s (timer T1) = stays
live-act-effect t own invoked (timer T2) = quit_live
live-act-effect t own wait_answer (timer T2) = quit_live
live-act-effect t own ringing (timer T2) = stays
live-act-effect t own suspended (timer T2) = quit_live
live-act-effect t own invoked (timer T3) = stays
live-act-effect t own wait_answer (timer T3) = quit_live
live-act-effect t own ringing (timer T3) = stays
live-act-effect t own suspended (timer T3) = stays
live-act-effect t own invoked (signal call_died) = stays
live-act-effect t own wait_answer (signal call_died) = stays
live-act-effect t own ringing (signal call_died) = quit_live
live-act-effect t own suspended (signal call_died) = stays
live-act-effect t own s (signal rejected) = stays

waiting-act-effect : (d : Data) (kind : Kind) (x : CAct) → ClerkActEffect (waiting d kind) (waiting_acts d kind x).0 (waiting_acts d kind x).1
unfolding waiting_acts clerk_takes in_ringing
waiting-act-effect d kind (act Act.Accept) = stays
waiting-act-effect d kind (act Act.Resume) = stays
waiting-act-effect d kind (act Act.GoOn) = stays
waiting-act-effect d kind (act Act.Cancel) = quit_waiting
waiting-act-effect d kind (act Act.Fell) = stays
waiting-act-effect d kind (timer T1) = quit_waiting
waiting-act-effect d kind (timer T2) = stays
waiting-act-effect d kind (timer T3) = stays
waiting-act-effect d kind (signal call_died) = stays
waiting-act-effect d kind (signal rejected) = drops_waiting

pub clerk-act-effect : (c : Clerk) (x : CAct) → ClerkActEffect c (clerk_acts c x).0 (clerk_acts c x).1
unfolding clerk_acts
clerk-act-effect absent x = stays
clerk-act-effect (waiting d kind) x = waiting-act-effect d kind x
clerk-act-effect (live t own s) x = live-act-effect t own s x

-- a signal is taken as the message that it stands for, whatever User A does
pub signal-takes : (c : Clerk) (x : Signal) (b : Bool) → clerk_takes c (signal_msg x) b ≡ clerk_acts c (signal x)
unfolding clerk_acts live_acts waiting_acts clerk_takes in_ringing
signal-takes absent call_died b = refl
signal-takes absent rejected b = refl
signal-takes (waiting d kind) call_died b = refl
signal-takes (waiting d kind) rejected b = refl
signal-takes (live t own s) call_died b = refl
signal-takes (live t own s) rejected b = refl

-- what it sends holds no request
pub act-plain : {c c' : Clerk} {o : List Msg} → ClerkActEffect c c' o → NoReq o
act-plain stays = tt
act-plain quit_waiting = (tt, tt)
act-plain drops_waiting = tt
act-plain quit_live = (tt, tt)
act-plain accepts = (tt, tt)
act-plain (resuming f) = (tt, tt)
act-plain recalling = tt
act-plain marking = tt

-- ---- a message at the clerk's end
pub data ClerkTakeEffect : Clerk → Msg → Clerk → List Msg → Type 0 where
  take-stays : {m : Msg} {c : Clerk} → ClerkTakeEffect c m c []
  take-replies : {m : Msg} {c : Clerk} → ClerkTakeEffect c m c (cancel ret ∷ [])
  take-ends-waiting : {m : Msg} {d : Data} {kind : Kind} → ClerkTakeEffect (waiting d kind) m absent []
  take_ends : {m : Msg} {t : Terms} {own : Own} {s : CState} → ClerkTakeEffect (live t own s) m absent []
  take-ends-cancel : {m : Msg} {t : Terms} {own : Own} {s : CState} {n : Conn} → ClerkTakeEffect (live t own s) m absent (cancel n ∷ [])
  take-moves : {m : Msg} {t : Terms} {own own' : Own} {s s' : CState} → ClerkTakeEffect (live t own s) m (live t own' s') []
  take-suspends : {m : Msg} {t : Terms} {own : Own} {s : CState} {n : Conn} → Fits t n → ClerkTakeEffect (live t own s) m (live t own suspended) (suspend n ∷ [])
  take_acks : {d : Data} {kind : Kind} {k : Bool} {n : Conn} → ClerkTakeEffect (waiting d kind) (result k n) (live (chosen d (and d.canKeep k) n) (has kind false) invoked) []

ringing-effect : (c : Clerk) (m : Msg) (f : Terms → Own → CAnswer) → ((t : Terms) (own : Own) → ClerkTakeEffect (live t own ringing) m (f t own).0 (f t own).1) → ClerkTakeEffect c m (in_ringing c f).0 (in_ringing c f).1
unfolding in_ringing
ringing-effect absent m f h = take-stays
ringing-effect (waiting d kind) m f h = take-stays
ringing-effect (live t own invoked) m f h = take-stays
ringing-effect (live t own wait_answer) m f h = take-stays
ringing-effect (live t own ringing) m f h = h t own
ringing-effect (live t own suspended) m f h = take-stays

busy_again-effect : (t : Terms) (own : Own) → ClerkTakeEffect (live t own ringing) busy_again (on_busy_again t own).0 (on_busy_again t own).1
unfolding on_busy_again
busy_again-effect (chosen d true n) own = take-moves
busy_again-effect (chosen d false n) own = take_ends

unfit-effect : (c : Clerk) (m : Msg) (n : Conn) → ClerkTakeEffect c m c (unfit n)
unfit-effect c m ret = take-stays
unfit-effect c m rls = take-replies

exec-effect : (t : Terms) (own : Own) (m : Conn) (e b : Bool) → ClerkTakeEffect (live t own invoked) (exec m) (on_exec t own m e b).0 (on_exec t own m e b).1
unfolding on_exec
exec-effect t own m false b = unfit-effect _ _ m
exec-effect t own m true false = take-moves
exec-effect t own m true true = take-suspends (way-fits (conn t) (down_of own))

pub clerk-take-effect : (c : Clerk) (m : Msg) (b : Bool) → ClerkTakeEffect c m (clerk_takes c m b).0 (clerk_takes c m b).1
unfolding clerk_takes
clerk-take-effect c (request d kind q) b = take-stays
clerk-take-effect c ringout b = take-stays
clerk-take-effect c (suspend n) b = take-stays
clerk-take-effect c (resume n) b = take-stays
clerk-take-effect absent (result k n) b = take-replies
clerk-take-effect (waiting d kind) (result k n) b = take_acks
clerk-take-effect (live t own s) (result k' n') b = take-stays
clerk-take-effect absent (denied w) b = take-stays
clerk-take-effect (waiting d kind) (denied w) b = take-ends-waiting
clerk-take-effect (live t own s) (denied w) b = take-stays
clerk-take-effect absent (exec m) b = take-replies
clerk-take-effect (waiting d kind) (exec m) b = unfit-effect _ _ m
clerk-take-effect (live t own invoked) (exec m) b = exec-effect t own m (way_fits (conn t) m) b
clerk-take-effect (live t own wait_answer) (exec m) b = unfit-effect _ _ m
clerk-take-effect (live t own ringing) (exec m) b = unfit-effect _ _ m
clerk-take-effect (live t own suspended) (exec m) b = unfit-effect _ _ m
clerk-take-effect absent (cancel m) b = take-stays
clerk-take-effect (waiting d kind) (cancel m) b = take-ends-waiting
clerk-take-effect (live t own s) (cancel m) b = take_ends
clerk-take-effect c busy_again b = ringing-effect c busy_again on_busy_again busy_again-effect
clerk-take-effect c no_match b = ringing-effect c no_match _ (λ t own. take_ends)
clerk-take-effect c alerts b = ringing-effect c alerts _ (λ t own. take_ends)
clerk-take-effect c failed b = ringing-effect c failed _ (λ t own. take-ends-cancel)

-- what it sends holds no request
pub take-plain : {c c' : Clerk} {m : Msg} {o : List Msg} → ClerkTakeEffect c m c' o → NoReq o
take-plain take-stays = tt
take-plain take-replies = (tt, tt)
take-plain take-ends-waiting = tt
take-plain take_ends = tt
take-plain take-ends-cancel = (tt, tt)
take-plain take-moves = tt
take-plain (take-suspends f) = (tt, tt)
take-plain take_acks = tt

-- ---- an act at the line's end
pub data LineActEffect : Line → Line → List Msg → Type 0 where
  line_stays : {l : Line} → LineActEffect l l []
  line_quits : {t : Terms} {own : Own} {s : LState} {n : Conn} → LineActEffect (holds t own s) none (cancel n ∷ [])
  line-offers : {t : Terms} {own : Own} {n : Conn} → Fits t n → LineActEffect (holds t own idle) (holds t own (await false)) (exec n ∷ [])
  line-alerts : {t : Terms} {own : Own} → LineActEffect (holds t own alert) none (alerts ∷ [])
  line-fails : {t : Terms} {own : Own} → LineActEffect (holds t own alert) none (failed ∷ [])
  line-marks : {t : Terms} {kind : Kind} {a b : Bool} {s : LState} → LineActEffect (holds t (has kind a) s) (holds t (has kind b) s) []

pub line-act-effect : (l : Line) (x : LAct) → LineActEffect l (line_acts l x).0 (line_acts l x).1
unfolding line_acts
line-act-effect none x = line_stays
line-act-effect (holds t own idle) offers = line-offers (way-fits (conn t) (down_of own))
line-act-effect (holds t own (await m)) offers = line_stays
line-act-effect (holds t own alert) offers = line_stays
line-act-effect (holds t own idle) alerted = line_stays
line-act-effect (holds t own (await m)) alerted = line_stays
line-act-effect (holds t own alert) alerted = line-alerts
line-act-effect (holds t own idle) call_failed = line_stays
line-act-effect (holds t own (await m)) call_failed = line_stays
line-act-effect (holds t own alert) call_failed = line-fails
line-act-effect (holds t own s) cancels = line_quits
line-act-effect (holds (chosen d k ret) (has kind down) s) falls = line-marks
line-act-effect (holds (chosen d k rls) own s) falls = line_stays
line-act-effect (holds t own s) guard = line_quits

-- it sends no result
pub line-act-silent : {l l' : Line} {o : List Msg} → LineActEffect l l' o → NoRes o
line-act-silent line_stays = tt
line-act-silent line_quits = (tt, tt)
line-act-silent (line-offers f) = (tt, tt)
line-act-silent line-alerts = (tt, tt)
line-act-silent line-fails = (tt, tt)
line-act-silent line-marks = tt

-- nor a request
pub line-act-plain : {l l' : Line} {o : List Msg} → LineActEffect l l' o → NoReq o
line-act-plain line_stays = tt
line-act-plain line_quits = (tt, tt)
line-act-plain (line-offers f) = (tt, tt)
line-act-plain line-alerts = (tt, tt)
line-act-plain line-fails = (tt, tt)
line-act-plain line-marks = tt

-- ---- a message at the line's end
-- what the line's end sends in answer to a message, but a result
pub data Silent : List Msg → Type 0 where
  send-nothing : Silent []
  send-denied : {w : Bool} → Silent (denied w ∷ [])
  send-busy : Silent (busy_again ∷ [])
  send-no_match : Silent (no_match ∷ [])
  send-cancel : Silent (cancel ret ∷ [])

pub silent : {o : List Msg} → Silent o → NoRes o
silent send-nothing = tt
silent send-denied = (tt, tt)
silent send-busy = (tt, tt)
silent send-no_match = (tt, tt)
silent send-cancel = (tt, tt)

pub silent-carried : {o : List Msg} (t : Terms) → Silent o → AllCarried t o
silent-carried t send-nothing = tt
silent-carried t send-denied = (tt, tt)
silent-carried t send-busy = (tt, tt)
silent-carried t send-no_match = (tt, tt)
silent-carried t send-cancel = (tt, tt)

silent-plain : {o : List Msg} → Silent o → NoReq o
silent-plain send-nothing = tt
silent-plain send-denied = (tt, tt)
silent-plain send-busy = (tt, tt)
silent-plain send-no_match = (tt, tt)
silent-plain send-cancel = (tt, tt)

pub data LineTakeEffect (p : Policy) : Line → Msg → Line → List Msg → Type 0 where
  line-take-stays : {l : Line} {m : Msg} {o : List Msg} → Silent o → LineTakeEffect p l m l o
  line-take-ends : {l : Line} {m : Msg} {o : List Msg} → Silent o → LineTakeEffect p l m none o
  line-take-moves : {m : Msg} {t : Terms} {own own' : Own} {s s' : LState} {o : List Msg} → Silent o → LineTakeEffect p (holds t own s) m (holds t own' s') o
  line-take-accepts : {d : Data} {kind : Kind} {q : ℕ} → LineTakeEffect p none (request d kind q) (holds (terms_of p d q) (has kind false) idle) (result_of (terms_of p d q) ∷ [])

request-effect : (p : Policy) (l : Line) (d : Data) (kind : Kind) (q : ℕ) (v : Verdict) → LineTakeEffect p l (request d kind q) (on_request p l d kind q v).0 (on_request p l d kind q v).1
unfolding on_request
request-effect p l d kind q (denies w) = line-take-stays send-denied
request-effect p none d kind q takes = line-take-accepts
request-effect p (holds t own s) d kind q takes = line-take-stays send-denied

ringout-effect : (p : Policy) (t : Terms) (own : Own) (m b : Bool) → LineTakeEffect p (holds t own (await m)) ringout (on_ringout t own b).0 (on_ringout t own b).1
unfolding on_ringout
ringout-effect p t own m true = line-take-moves send-nothing
ringout-effect p (chosen d true n) own m false = line-take-moves send-busy
ringout-effect p (chosen d false n) own m false = line-take-ends send-busy

resume-effect : (p : Policy) (t : Terms) (own : Own) (n' : Conn) (m b : Bool) → LineTakeEffect p (holds t own (await m)) (resume n') (on_resume t own m b).0 (on_resume t own m b).1
unfolding on_resume
resume-effect p t own n' m true = line-take-moves send-nothing
resume-effect p t own n' m false = line-take-stays send-nothing

suspend-effect : (p : Policy) (t : Terms) (own : Own) (n' : Conn) (m b : Bool) → LineTakeEffect p (holds t own (await m)) (suspend n') (on_suspend t own m b).0 (on_suspend t own m b).1
unfolding on_suspend
suspend-effect p t own n' m true = line-take-moves send-nothing
suspend-effect p t own n' m false = line-take-stays send-nothing

pub line-take-effect : (p : Policy) (l : Line) (m : Msg) (w : Word) → LineTakeEffect p l m (line_takes p l m w).0 (line_takes p l m w).1
unfolding line_takes
line-take-effect p l (request d kind q) w = request-effect p l d kind q w.verdict
line-take-effect p l (result k n) w = line-take-stays send-nothing
line-take-effect p l (denied v) w = line-take-stays send-nothing
line-take-effect p l (exec n) w = line-take-stays send-nothing
line-take-effect p l busy_again w = line-take-stays send-nothing
line-take-effect p l no_match w = line-take-stays send-nothing
line-take-effect p l alerts w = line-take-stays send-nothing
line-take-effect p l failed w = line-take-stays send-nothing
line-take-effect p l (cancel n) w = line-take-ends send-nothing
line-take-effect p none ringout w = line-take-stays send-no_match
line-take-effect p (holds t own idle) ringout w = line-take-stays send-no_match
line-take-effect p (holds t own (await m)) ringout w = ringout-effect p t own m w.free
line-take-effect p (holds t own alert) ringout w = line-take-stays send-no_match
line-take-effect p none (suspend n') w = line-take-stays send-nothing
line-take-effect p (holds t own idle) (suspend n') w = line-take-stays send-nothing
line-take-effect p (holds t own (await m)) (suspend n') w = suspend-effect p t own n' m (way_fits (conn t) n')
line-take-effect p (holds t own alert) (suspend n') w = line-take-stays send-nothing
line-take-effect p none (resume n') w = line-take-stays send-cancel
line-take-effect p (holds t own idle) (resume n') w = line-take-stays send-cancel
line-take-effect p (holds t own (await m)) (resume n') w = resume-effect p t own n' m (way_fits (conn t) n')
line-take-effect p (holds t own alert) (resume n') w = line-take-stays send-cancel

-- what it sends holds no request
pub line-take-plain : {p : Policy} {l l' : Line} {m : Msg} {o : List Msg} → LineTakeEffect p l m l' o → NoReq o
line-take-plain (line-take-stays i) = silent-plain i
line-take-plain (line-take-ends i) = silent-plain i
line-take-plain (line-take-moves i) = silent-plain i
line-take-plain line-take-accepts = (tt, tt)

-- where the line holds nothing, only a request makes it hold something
pub none_stays : (p : Policy) (m : Msg) (w : Word) → NotReq m → (line_takes p none m w).0 ≡ none
unfolding line_takes
none_stays p (request d kind q) w h = absurd h
none_stays p (result k n) w h = refl
none_stays p (denied v) w h = refl
none_stays p (exec n) w h = refl
none_stays p ringout w h = refl
none_stays p busy_again w h = refl
none_stays p no_match w h = refl
none_stays p (suspend n) w h = refl
none_stays p (resume n) w h = refl
none_stays p (cancel n) w h = refl
none_stays p alerts w h = refl
none_stays p failed w h = refl

-- ---- choices
and_again : (x y : Bool) → and x (and x y) ≡ and x y
and_again true y = refl
and_again false y = refl

-- keep is chosen only where the clerk's end can keep
abbrev pub Keepable : Terms → Type 0
Keepable t = and (asked t).canKeep (keep t) ≡ keep t

pub keepable : (p : Policy) (d : Data) (q : ℕ) → Keepable (terms_of p d q)
keepable p d q = and_again d.canKeep p.keeps

and_right : (x y : Bool) → and x y ≡ true → y ≡ true
and_right true y h = h
and_right false y h = absurd (false≢true h)

pub or_elim : {P : Type 0} (x y : Bool) → or x y ≡ true → (x ≡ true → P) → (y ≡ true → P) → P
or_elim true y h f g = f h
or_elim false y h f g = g h

-- ---- a step of the net: one form for each sort of event
pub data Move (p : Policy) : Net → Net → Type 0 where
  still : {s : Net} → Move p s s
  ask : {s : Net} {d : Data} {kind : Kind} (q : ℕ) → s.used ≡ false → Move p s (after_ask s d kind q)
  clerk-act : {s : Net} {c : Clerk} {o : List Msg} {t : Bool} → ClerkActEffect s.clerk c o → (t ≡ true → (c ≡ absent) × (present s.clerk ≡ true)) → Move p s (after_clerk s s.down false t (c, o))
  line-act : {s : Net} {l : Line} {o : List Msg} {t : Bool} → LineActEffect s.line l o → (t ≡ true → (l ≡ none) × (held s.line ≡ true)) → Move p s (after_line s s.up t (l, o))
  clerk-get : {s : Net} {m : Msg} {v : List Msg} (b : Bool) → s.down ≡ m ∷ v → Move p s (after_clerk s v false false (clerk_takes s.clerk m b))
  line-get : {s : Net} {m : Msg} {u : List Msg} (w : Word) → s.up ≡ m ∷ u → Move p s (after_line s u false (line_takes p s.line m w))
  up-lost : {s : Net} (i : ℕ) → Move p s (lost s (left_out i s.up) s.down)
  down-lost : {s : Net} (i : ℕ) → Move p s (lost s s.up (left_out i s.down))

guard-ends : (l : Line) (x : LAct) → guard_ends l x ≡ true → ((line_acts l x).0 ≡ none) × (held l ≡ true)
unfolding line_acts
guard-ends none x h = absurd (false≢true h)
guard-ends (holds t own s) offers h = absurd (false≢true h)
guard-ends (holds t own s) alerted h = absurd (false≢true h)
guard-ends (holds t own s) call_failed h = absurd (false≢true h)
guard-ends (holds t own s) cancels h = absurd (false≢true h)
guard-ends (holds t own s) falls h = absurd (false≢true h)
guard-ends (holds t own s) guard h = (refl, refl)

clerk-ends : (c c' : Clerk) (x : CAct) → and (is_t1_or_t2 x) (and (present c) (not (present c'))) ≡ true → (c' ≡ absent) × (present c ≡ true)
clerk-ends c c' x h = go c c' (and_right (is_t1_or_t2 x) _ h)
  where
    go : (c c' : Clerk) → and (present c) (not (present c')) ≡ true → (c' ≡ absent) × (present c ≡ true)
    go absent c' e = absurd (false≢true e)
    go (waiting d kind) absent e = (refl, refl)
    go (waiting d kind) (waiting d' kind') e = absurd (false≢true e)
    go (waiting d kind) (live t own s) e = absurd (false≢true e)
    go (live t own s) absent e = (refl, refl)
    go (live t own s) (waiting d' kind') e = absurd (false≢true e)
    go (live t own s) (live t' own' s') e = absurd (false≢true e)

ask-moves : (p : Policy) (s : Net) (d : Data) (kind : Kind) (q : ℕ) (b : Bool) → s.used ≡ b → Move p s (ask_step s d kind q b)
unfolding ask_step
ask-moves p s d kind q true e = still
ask-moves p s d kind q false e = ask q e

clerk-get-moves : (p : Policy) (s : Net) (b : Bool) (v : List Msg) → s.down ≡ v → Move p s (clerk_get_step s b v)
unfolding clerk_get_step
clerk-get-moves p s b [] e = still
clerk-get-moves p s b (m ∷ v) e = clerk-get b e

line-get-moves : (p : Policy) (s : Net) (w : Word) (u : List Msg) → s.up ≡ u → Move p s (line_get_step p s w u)
unfolding line_get_step
line-get-moves p s w [] e = still
line-get-moves p s w (m ∷ u) e = line-get w e

pub moves : (p : Policy) (s : Net) (e : Event) → Move p s (next p s e)
unfolding next
moves p s (asks d kind q) = ask-moves p s d kind q s.used refl
moves p s (clerk_does x) = clerk-act (clerk-act-effect s.clerk x) (clerk-ends s.clerk _ x)
moves p s (line_does x) = line-act (line-act-effect s.line x) (guard-ends s.line x)
moves p s (clerk_gets b) = clerk-get-moves p s b s.down refl
moves p s (line_gets w) = line-get-moves p s w s.up refl
moves p s (loses_up i) = up-lost i
moves p s (loses_down i) = down-lost i
