-- Without drops, two ends whose wires are quiet stand in a listed pair: an invariant that tells what is under way in each pair of states.
use Prim.Native.Nat.{ℕ}
use mathlib.Core.Path.{◌≡◌}
use mathlib.Core.Bool.{Bool, true, false, true≢false}
use mathlib.Core.List.{List, [], ◌∷◌, ◌++◌}
use Rattle.message.specs.declared.Kind.{Kind}
use Rattle.message.specs.declared.Kind.TheVariants.{Ccbs}
use Rattle.pair_request.specs.Reading.{Conn, ret, Own, has, way, Data, Terms, chosen, conn, Msg, request, result, denied, exec, ringout, busy_again, suspend, resume, cancel, alerts, failed, CState, invoked, wait_answer, ringing, suspended, Clerk, absent, waiting, live, LState, idle, await, alert, Line, none, holds, in_ringing, on_busy_again, on_exec, clerk_takes, Policy, Verdict, takes, denies, Word, on_request, on_ringout, on_resume, on_suspend, line_takes, Net, Reach, begin, more}
use Rattle.pair_request.specs.Listed.{Listed, no_record, invoked-invoked, answer-await, suspended-await, ringout-alert, NoReq}
use Rattle.pair_request.proofs.Effects.{no_req++, just_cancel, Has, here, there, has++, has-sent, ++[], ClerkActEffect, stays, quit_waiting, drops_waiting, quit_live, accepts, resuming, recalling, marking, act-plain, ClerkTakeEffect, take-stays, take-replies, clerk-take-effect, take-plain, LineActEffect, line_stays, line_quits, line-offers, line-alerts, line-fails, line-marks, none_stays, Fits, way-fits, Keepable, keepable, Move, still, ask, clerk-act, line-act, clerk-get, line-get, up-lost, down-lost, moves}

-- a constructor with a pair as premise tells what the head of a wire will make of its receiver
pub data Pair : Clerk → List Msg → Line → List Msg → Type 0 where
  -- the listed pairs: of one kind; either end may have seen the connection fall
  both-invoked : {t : Terms} {kind : Kind} {a b : Bool} → Pair (live t (has kind a) invoked) [] (holds t (has kind b) idle) []
  answering : {t : Terms} {kind : Kind} {a b : Bool} (m : Bool) → Pair (live t (has kind a) wait_answer) [] (holds t (has kind b) (await m)) []
  paused : {t : Terms} {kind : Kind} {a b : Bool} → Pair (live t (has kind a) suspended) [] (holds t (has kind b) (await true)) []
  ring : {t : Terms} {kind : Kind} {a b : Bool} → Pair (live t (has kind a) ringing) [] (holds t (has kind b) alert) []
  -- a message of the clerk's is under way
  requested : {d : Data} {kind : Kind} {q : ℕ} → Pair (waiting d kind) (request d kind q ∷ []) none []
  resumed : {t : Terms} {kind : Kind} {a b : Bool} {n : Conn} → Fits t n → Pair (live t (has kind a) invoked) (resume n ∷ []) (holds t (has kind b) (await true)) []
  called : {t : Terms} {kind : Kind} {a b : Bool} (m : Bool) → Pair (live t (has kind a) ringing) (ringout ∷ []) (holds t (has kind b) (await m)) []
  late : {c : Clerk} {u : List Msg} {t : Terms} {own : Own} {n : Conn} → Fits t n → Pair c u (holds t own (await true)) [] → Pair c (suspend n ∷ u) (holds t own (await false)) []
  -- a message of the line's is under way
  offered : {t : Terms} {kind : Kind} {a b : Bool} {n : Conn} → Fits t n → Pair (live t (has kind a) invoked) [] (holds t (has kind b) (await false)) (exec n ∷ [])
  unacked :
      {d : Data} {kind : Kind} {k : Bool} {n : Conn} {l : Line} {v : List Msg} → Keepable (chosen d k n) → Pair (live (chosen d k n) (has kind false) invoked) [] l v →
      Pair (waiting d kind) [] l (result k n ∷ v)
  again :
      {d : Data} {n : Conn} {kind : Kind} {a : Bool} {l : Line} {v : List Msg} → Pair (live (chosen d true n) (has Ccbs a) invoked) [] l v →
      Pair (live (chosen d true n) (has kind a) ringing) [] l (busy_again ∷ v)
  refused : {d : Data} {kind : Kind} {w : Bool} → Pair (waiting d kind) [] none (denied w ∷ [])
  ended : {d : Data} {n : Conn} {own : Own} → Pair (live (chosen d false n) own ringing) [] none (busy_again ∷ [])
  alerting : {t : Terms} {own : Own} → Pair (live t own ringing) [] none (alerts ∷ [])
  failing : {t : Terms} {own : Own} → Pair (live t own ringing) [] none (failed ∷ [])

-- a message is under way that a clerk's end without the record answers with a ccCancel
pub data Owed : List Msg → Type 0 where
  owed_result : {k : Bool} {n : Conn} {ms : List Msg} → Owed (result k n ∷ ms)
  owed_later : {m : Msg} {ms : List Msg} → Owed ms → Owed (m ∷ ms)

owed++ : {u : List Msg} (v : List Msg) → Owed u → Owed (u ++ v)
owed++ v owed_result = owed_result
owed++ v (owed_later h) = owed_later (owed++ v h)

-- the invariant of a run without drops, once the request is asked
pub data Inv : Clerk → List Msg → Line → List Msg → Type 0 where
  pair : {c : Clerk} {u : List Msg} {l : Line} {v : List Msg} → Pair c u l v → Inv c u l v
  line-out : {c : Clerk} {u : List Msg} {v : List Msg} → NoReq u → Has v → Inv c u none v
  clerk-out : {u : List Msg} {l : Line} {v : List Msg} → NoReq u → Has u → Inv absent u l v
  early-out : {d : Data} {kind : Kind} {q : ℕ} {u : List Msg} → NoReq u → Has u → Inv absent (request d kind q ∷ u) none []
  both_out : {u : List Msg} {v : List Msg} → NoReq u → Inv absent u none v
  -- the request was rejected by what carries it, and yet it is under way, or its result is
  unheard : {d : Data} {kind : Kind} {q : ℕ} → Inv absent (request d kind q ∷ []) none []
  deserted : {u : List Msg} {l : Line} {v : List Msg} → NoReq u → Owed v → Inv absent u l v

-- ---- an act at the clerk's end
pair-accept : {t : Terms} {own : Own} {u : List Msg} {l : Line} {v : List Msg} → Pair (live t own wait_answer) u l v → Pair (live t own ringing) (u ++ (ringout ∷ [])) l v
pair-accept (answering m) = called m
pair-accept (late f p) = late f (pair-accept p)

pair-resume :
    {t : Terms} {own : Own} {u : List Msg} {l : Line} {v : List Msg} (n : Conn) → Fits t n → Pair (live t own suspended) u l v →
    Pair (live t own invoked) (u ++ (resume n ∷ [])) l v
pair-resume n g paused = resumed g
pair-resume n g (late f p) = late f (pair-resume n g p)

pair_recall : {t : Terms} {own : Own} {u : List Msg} {l : Line} {v : List Msg} → Pair (live t own suspended) u l v → Pair (live t own wait_answer) (u ++ []) l v
pair_recall paused = answering true
pair_recall (late f p) = late f (pair_recall p)

-- the connection fell at the clerk's end: no pair asks whether it did
pair-marks :
    {t : Terms} {kind : Kind} {a b : Bool} {s : CState} {u : List Msg} {l : Line} {v : List Msg} → Pair (live t (has kind a) s) u l v → Pair (live t (has kind b) s) u l v
pair-marks both-invoked = both-invoked
pair-marks (answering m) = answering m
pair-marks paused = paused
pair-marks ring = ring
pair-marks (resumed f) = resumed f
pair-marks (called m) = called m
pair-marks (late f p) = late f (pair-marks p)
pair-marks (offered f) = offered f
pair-marks (again p) = again (pair-marks p)
pair-marks ended = ended
pair-marks alerting = alerting
pair-marks failing = failing

-- a pair of a live record has no request under way
live-plain : {t : Terms} {own : Own} {s : CState} {u : List Msg} {l : Line} {v : List Msg} → Pair (live t own s) u l v → NoReq u
live-plain both-invoked = tt
live-plain (answering m) = tt
live-plain paused = tt
live-plain ring = tt
live-plain (resumed f) = (tt, tt)
live-plain (called m) = (tt, tt)
live-plain (late f p) = (tt, live-plain p)
live-plain (offered f) = tt
live-plain (again p) = tt
live-plain ended = tt
live-plain alerting = tt
live-plain failing = tt

quit_from-live : {t : Terms} {own : Own} {s : CState} {u : List Msg} {l : Line} {v : List Msg} (n : Conn) → Pair (live t own s) u l v → Inv absent (u ++ (cancel n ∷ [])) l v
quit_from-live {u = u} n p = clerk-out (no_req++ u _ (live-plain p) (just_cancel n)) (has-sent n u)

quit_from-waiting : {d : Data} {kind : Kind} {u : List Msg} {l : Line} {v : List Msg} → Pair (waiting d kind) u l v → Inv absent (u ++ (cancel ret ∷ [])) l v
quit_from-waiting requested = early-out (just_cancel ret) here
quit_from-waiting (unacked e p) = clerk-out (just_cancel ret) here
quit_from-waiting refused = clerk-out (just_cancel ret) here
quit_from-waiting (late f p) = elim p [ ]

reject_waiting : {d : Data} {kind : Kind} {u : List Msg} {l : Line} {v : List Msg} → Pair (waiting d kind) u l v → Inv absent (u ++ []) l v
reject_waiting requested = unheard
reject_waiting (unacked e p) = deserted tt owed_result
reject_waiting refused = both_out tt
reject_waiting (late f p) = elim p [ ]

pair-acts : {c c' : Clerk} {o u : List Msg} {l : Line} {v : List Msg} → Pair c u l v → ClerkActEffect c c' o → Inv c' (u ++ o) l v
pair-acts {u} p stays = rw (++[] u) (pair p)
pair-acts p quit_waiting = quit_from-waiting p
pair-acts p drops_waiting = reject_waiting p
pair-acts p (quit_live {n = n}) = quit_from-live n p
pair-acts p accepts = pair (pair-accept p)
pair-acts p (resuming {n = n} f) = pair (pair-resume n f p)
pair-acts p recalling = pair (pair_recall p)
pair-acts {u} p marking = rw (++[] u) (pair (pair-marks p))

inv-clerk-acts : {c c' : Clerk} {o u : List Msg} {l : Line} {v : List Msg} → Inv c u l v → ClerkActEffect c c' o → Inv c' (u ++ o) l v
inv-clerk-acts (pair p) e = pair-acts p e
inv-clerk-acts {o} {u} (line-out h k) e = line-out (no_req++ u o h (act-plain e)) k
inv-clerk-acts {u} (clerk-out h k) stays = rw (++[] u) (clerk-out h k)
inv-clerk-acts {u} (early-out h k) stays = rw (++[] u) (early-out h k)
inv-clerk-acts {u} (both_out h) stays = rw (++[] u) (both_out h)
inv-clerk-acts unheard stays = unheard
inv-clerk-acts {u} (deserted h k) stays = rw (++[] u) (deserted h k)

-- ---- a message at the clerk's end
pair-clerk_gets : {c : Clerk} {m : Msg} {u v : List Msg} {l : Line} → Pair c u l (m ∷ v) → (b : Bool) → Inv (clerk_takes c m b).0 (u ++ (clerk_takes c m b).1) l v
unfolding clerk_takes in_ringing on_busy_again on_exec
pair-clerk_gets (offered f) false = rw (f, on_exec) (pair (answering false))
pair-clerk_gets (offered {t} {a = a} f) true = rw (f, on_exec) (pair (late (way-fits (conn t) a) paused))
pair-clerk_gets (unacked e p) b = rw e (pair p)
pair-clerk_gets (again p) b = pair p
pair-clerk_gets refused b = both_out tt
pair-clerk_gets ended b = both_out tt
pair-clerk_gets alerting b = both_out tt
pair-clerk_gets (failing {t} {own}) b = both_out (just_cancel (way t own))

-- a ccCancel ends whatever the clerk holds
cancelled : (c : Clerk) (n : Conn) (b : Bool) (u v : List Msg) → NoReq u → Inv (clerk_takes c (cancel n) b).0 (u ++ (clerk_takes c (cancel n) b).1) none v
unfolding clerk_takes
cancelled absent n b u v h = both_out (no_req++ u _ h tt)
cancelled (waiting d kind) n b u v h = both_out (no_req++ u _ h tt)
cancelled (live t own s) n b u v h = both_out (no_req++ u _ h tt)

-- a deleted record stays deleted
gone-out : {m : Msg} {c' : Clerk} {o : List Msg} {l : Line} {v : List Msg} (u : List Msg) → ClerkTakeEffect absent m c' o → NoReq u → Has u → Inv c' (u ++ o) l v
gone-out u take-stays h k = clerk-out (no_req++ u [] h tt) (has++ [] k)
gone-out u take-replies h k = clerk-out (no_req++ u _ h (just_cancel ret)) (has++ _ k)

gone-both : {m : Msg} {c' : Clerk} {o : List Msg} {v : List Msg} (u : List Msg) → ClerkTakeEffect absent m c' o → NoReq u → Inv c' (u ++ o) none v
gone-both u take-stays h = both_out (no_req++ u [] h tt)
gone-both u take-replies h = both_out (no_req++ u _ h (just_cancel ret))

deserted_gets : {m : Msg} {c' : Clerk} {o : List Msg} {l : Line} {v : List Msg} (u : List Msg) → ClerkTakeEffect absent m c' o → NoReq u → Owed v → Inv c' (u ++ o) l v
deserted_gets u take-stays h k = deserted (no_req++ u [] h tt) k
deserted_gets u take-replies h k = deserted (no_req++ u _ h (just_cancel ret)) k

inv-clerk_gets : {c : Clerk} {m : Msg} {u v : List Msg} {l : Line} → Inv c u l (m ∷ v) → (b : Bool) → Inv (clerk_takes c m b).0 (u ++ (clerk_takes c m b).1) l v
inv-clerk_gets (pair p) b = pair-clerk_gets p b
inv-clerk_gets {c} {u} {v} (line-out h (here {n})) b = cancelled c n b u v h
inv-clerk_gets {c} {m} {u} (line-out h (there k)) b = line-out (no_req++ u _ h (take-plain (clerk-take-effect c m b))) k
inv-clerk_gets {m} {u} (clerk-out h k) b = gone-out u (clerk-take-effect _ m b) h k
inv-clerk_gets {m} {u} (both_out h) b = gone-both u (clerk-take-effect _ m b) h
inv-clerk_gets {u} (deserted h owed_result) b = unfold clerk_takes in clerk-out (no_req++ u _ h (just_cancel ret)) (has-sent ret u)
inv-clerk_gets {m} {u} (deserted h (owed_later k)) b = deserted_gets u (clerk-take-effect _ m b) h k

-- ---- an act at the line's end
held_plain : {c : Clerk} {t : Terms} {own : Own} {s : LState} {u : List Msg} {v : List Msg} → Pair c u (holds t own s) v → NoReq u
held_plain both-invoked = tt
held_plain (answering m) = tt
held_plain paused = tt
held_plain ring = tt
held_plain (resumed f) = (tt, tt)
held_plain (called m) = (tt, tt)
held_plain (late f p) = (tt, held_plain p)
held_plain (offered f) = tt
held_plain (unacked e p) = tt
held_plain (again p) = tt

pair_offer :
    {c : Clerk} {u : List Msg} {t : Terms} {own : Own} {v : List Msg} (n : Conn) → Fits t n → Pair c u (holds t own idle) v →
    Pair c u (holds t own (await false)) (v ++ (exec n ∷ []))
pair_offer n f both-invoked = offered f
pair_offer n f (unacked e p) = unacked e (pair_offer n f p)
pair_offer n f (again p) = again (pair_offer n f p)

-- the connection fell at the line's end
pair-line-marks :
    {c : Clerk} {u : List Msg} {t : Terms} {kind : Kind} {a b : Bool} {s : LState} {v : List Msg} → Pair c u (holds t (has kind a) s) v → Pair c u (holds t (has kind b) s) v
pair-line-marks both-invoked = both-invoked
pair-line-marks (answering m) = answering m
pair-line-marks paused = paused
pair-line-marks ring = ring
pair-line-marks (resumed f) = resumed f
pair-line-marks (called m) = called m
pair-line-marks (late f p) = late f (pair-line-marks p)
pair-line-marks (offered f) = offered f
pair-line-marks (unacked e p) = unacked e (pair-line-marks p)
pair-line-marks (again p) = again (pair-line-marks p)

-- in Alert the wires are quiet
pair-alerts : {c : Clerk} {u : List Msg} {t : Terms} {own : Own} {v : List Msg} → Pair c u (holds t own alert) v → Pair c u none (v ++ (alerts ∷ []))
pair-alerts ring = alerting
pair-alerts (unacked e p) = elim p [ ]
pair-alerts (again p) = elim p [ ]

pair-fails : {c : Clerk} {u : List Msg} {t : Terms} {own : Own} {v : List Msg} → Pair c u (holds t own alert) v → Pair c u none (v ++ (failed ∷ []))
pair-fails ring = failing
pair-fails (unacked e p) = elim p [ ]
pair-fails (again p) = elim p [ ]

pair-line-acts : {c : Clerk} {u : List Msg} {l l' : Line} {o v : List Msg} → Pair c u l v → LineActEffect l l' o → Inv c u l' (v ++ o)
pair-line-acts {v} p line_stays = rw (++[] v) (pair p)
pair-line-acts {v} p (line_quits {n = n}) = line-out (held_plain p) (has-sent n v)
pair-line-acts p (line-offers {n = n} f) = pair (pair_offer n f p)
pair-line-acts {v} p line-marks = rw (++[] v) (pair (pair-line-marks p))
pair-line-acts p line-alerts = pair (pair-alerts p)
pair-line-acts p line-fails = pair (pair-fails p)

inv-line-acts : {c : Clerk} {u : List Msg} {l l' : Line} {o v : List Msg} → Inv c u l v → LineActEffect l l' o → Inv c u l' (v ++ o)
inv-line-acts (pair p) e = pair-line-acts p e
inv-line-acts (line-out h k) line_stays = line-out h (has++ _ k)
inv-line-acts (clerk-out h k) e = clerk-out h k
inv-line-acts (early-out h k) line_stays = early-out h k
inv-line-acts (both_out h) line_stays = both_out h
inv-line-acts unheard line_stays = unheard
inv-line-acts (deserted h k) e = deserted h (owed++ _ k)

-- ---- a message at the line's end
request-taken : (p : Policy) (d : Data) (kind : Kind) (q : ℕ) (a : Verdict) → Inv (waiting d kind) [] (on_request p none d kind q a).0 (on_request p none d kind q a).1
unfolding on_request
request-taken p d kind q takes = pair (unacked (keepable p d q) both-invoked)
request-taken p d kind q (denies w) = pair refused

ringout-taken :
    (t : Terms) (kind : Kind) (a b free : Bool) → Inv (live t (has kind a) ringing) [] (on_ringout t (has kind b) free).0 (on_ringout t (has kind b) free).1
unfolding on_ringout
ringout-taken t kind a b true = pair ring
ringout-taken (chosen d true n) kind a b false = pair (again both-invoked)
ringout-taken (chosen d false n) kind a b false = pair ended

pair-line_gets : {c : Clerk} {m : Msg} {u v : List Msg} {l : Line} (p : Policy) (w : Word) → Pair c (m ∷ u) l v → Inv c u (line_takes p l m w).0 (v ++ (line_takes p l m w).1)
unfolding line_takes on_resume on_suspend
pair-line_gets p w (requested {d} {kind} {q}) = request-taken p d kind q w.verdict
pair-line_gets p w (resumed f) = rw (f, on_resume) (pair both-invoked)
pair-line_gets p w (called {t} {kind} {a} {b} m) = ringout-taken t kind a b w.free
pair-line_gets p w (late f i) = rw (f, on_suspend) (pair i)

unheard-taken : (p : Policy) (d : Data) (kind : Kind) (q : ℕ) (a : Verdict) → Inv absent [] (on_request p none d kind q a).0 (on_request p none d kind q a).1
unfolding on_request
unheard-taken p d kind q takes = deserted tt owed_result
unheard-taken p d kind q (denies w) = both_out tt

inv-line_gets : {c : Clerk} {m : Msg} {u v : List Msg} {l : Line} (p : Policy) (w : Word) → Inv c (m ∷ u) l v → Inv c u (line_takes p l m w).0 (v ++ (line_takes p l m w).1)
inv-line_gets p w (pair i) = pair-line_gets p w i
inv-line_gets {m} p w (line-out h k) = rw (none_stays p m w h.0) (line-out h.1 (has++ _ k))
inv-line_gets p w (clerk-out h here) = unfold line_takes in both_out h.1
inv-line_gets p w (clerk-out h (there k)) = clerk-out h.1 k
inv-line_gets p w (early-out h k) = clerk-out h k
inv-line_gets p w (unheard {d} {kind} {q}) = unfold line_takes in unheard-taken p d kind q w.verdict
inv-line_gets p w (deserted h k) = deserted h.1 (owed++ _ k)
inv-line_gets {m} p w (both_out h) = rw (none_stays p m w h.0) (both_out h.1)

-- ---- over a run
-- the invariant of a net: before the ask there is nothing at all
pub data Stage : Bool → Clerk → List Msg → Line → List Msg → Type 0 where
  new : Stage false absent [] none []
  old : {c : Clerk} {u : List Msg} {l : Line} {v : List Msg} → Inv c u l v → Stage true c u l v

-- the history says whether something was dropped
abbrev pub Undropped : Net → Type 0
Undropped s = s.dropped ≡ false → Stage s.used s.clerk s.up s.line s.down

stage_asks : {c : Clerk} {u v : List Msg} {l : Line} (d : Data) (kind : Kind) (q : ℕ) → Stage false c u l v → Stage true (waiting d kind) (u ++ (request d kind q ∷ [])) l v
stage_asks d kind q new = old (pair requested)

stage_acts : {t : Bool} {c c' : Clerk} {o u v : List Msg} {l : Line} → Stage t c u l v → ClerkActEffect c c' o → Stage t c' (u ++ o) l v
stage_acts new stays = new
stage_acts (old i) e = old (inv-clerk-acts i e)

stage_line-acts : {t : Bool} {c : Clerk} {o u v : List Msg} {l l' : Line} → Stage t c u l v → LineActEffect l l' o → Stage t c u l' (v ++ o)
stage_line-acts new line_stays = new
stage_line-acts (old i) e = old (inv-line-acts i e)

stage_gets : {t : Bool} {c : Clerk} {m : Msg} {u v : List Msg} {l : Line} (b : Bool) → Stage t c u l (m ∷ v) → Stage t (clerk_takes c m b).0 (u ++ (clerk_takes c m b).1) l v
stage_gets b (old i) = old (inv-clerk_gets i b)

stage_line_gets : {t : Bool} {c : Clerk} {m : Msg} {u v : List Msg} {l : Line} (p : Policy) (w : Word) → Stage t c (m ∷ u) l v → Stage t c u (line_takes p l m w).0 (v ++ (line_takes p l m w).1)
stage_line_gets p w (old i) = old (inv-line_gets p w i)

move-undropped : {p : Policy} {s s' : Net} → Move p s s' → Undropped s → Undropped s'
move-undropped still i h = i h
move-undropped (ask {d} {kind} q e) i h = stage_asks d kind q (rw e at (i h))
move-undropped (clerk-act e t) i h = stage_acts (i h) e
move-undropped (line-act e t) i h = stage_line-acts (i h) e
move-undropped (clerk-get b e) i h = stage_gets b (rw e at (i h))
move-undropped {p} (line-get w e) i h = stage_line_gets p w (rw e at (i h))
move-undropped (up-lost k) i h = absurd (true≢false h)
move-undropped (down-lost k) i h = absurd (true≢false h)

pub undropped : {p : Policy} {s : Net} → Reach p s → Undropped s
undropped begin = λ h. new
undropped {p} (more {s} r e) = move-undropped (moves p s e) (undropped r)

-- ---- what the invariant tells
pub quiet-listed : {t : Bool} {c : Clerk} {l : Line} → Stage t c [] l [] → Listed c l
quiet-listed new = no_record
quiet-listed (old (pair both-invoked)) = invoked-invoked
quiet-listed (old (pair (answering m))) = answer-await
quiet-listed (old (pair paused)) = suspended-await
quiet-listed (old (pair ring)) = ringout-alert
quiet-listed (old (both_out h)) = no_record
quiet-listed (old (line-out h k)) = elim k [ ]
quiet-listed (old (clerk-out h k)) = elim k [ ]
quiet-listed (old (deserted h k)) = elim k [ ]
