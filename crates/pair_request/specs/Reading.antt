-- One request at its two ends and on the two wires: what the desks' tables read for it. That the desks' own definitions do exactly this is proved
-- in crate pair; nothing that the product promises is stated here.
use Rattle.std.specs.Prelude.{Bool, true, false, List, [], ◌∷◌, ◌++◌, ℕ, zero, suc, eqb}
use Rattle.lists.specs.Choice.{pick}
use Rattle.message.specs.declared.Kind.{Kind}
use Rattle.message.specs.declared.Kind.TheVariants.{Ccbs}
use Rattle.pair_request.specs.Signal.{Signal, call_died, rejected}
use Rattle.clerk_table.specs.declared.inputs.Act.{Act}
use Rattle.clerk_table.specs.declared.table.Timer.{Timer}
use Rattle.clerk_table.specs.declared.table.Timer.TheVariants.{T1, T2, T3}

pub data Conn : Type 0 where
  ret rls : Conn

-- what an ask stores and its request message carries, beside the kind and what no step changes (its identifier, numbers and service)
pub record Data : Type 0 where
  pub canKeep : Bool

-- what both ends go by once the line's end has stored the request: what was asked, the keep choice, the connection choice. No step changes them. It is no
-- record, so that the constructor stands in patterns and indices where a choice decides.
pub data Terms : Type 0 where
  chosen : Data → Bool → Conn → Terms

abbrev pub asked : Terms → Data
asked (chosen d k n) = d

abbrev pub keep : Terms → Bool
keep (chosen d k n) = k

abbrev pub conn : Terms → Conn
conn (chosen d k n) = n

-- a request has its data, kind and preference; a message with a connection choice goes in the carrier of that choice (a ccCancel in Release Complete for ret, in Setup for rls)
pub data Msg : Type 0 where
  request : Data → Kind → ℕ → Msg
  result : Bool → Conn → Msg
  denied : Bool → Msg
  exec : Conn → Msg
  ringout : Msg
  busy_again no_match : Msg
  suspend resume : Conn → Msg
  cancel : Conn → Msg
  alerts failed : Msg

pub data CState : Type 0 where
  invoked wait_answer ringing suspended : CState

-- what an end has by itself of a request: the kind, which busy again changes, and the mark "connection down"
pub data Own : Type 0 where
  has : Kind → Bool → Own

abbrev pub kind_of : Own → Kind
kind_of (has kind down) = kind

abbrev pub down_of : Own → Bool
down_of (has kind down) = down

abbrev pub as_ccbs : Own → Own
as_ccbs (has kind down) = has Ccbs down

-- what was asked, or the terms once acknowledged; and what a step may change: what the end has by itself, and the state
pub data Clerk : Type 0 where
  absent : Clerk
  waiting : Data → Kind → Clerk
  live : Terms → Own → CState → Clerk

-- Await with the suspended mark or without it
pub data LState : Type 0 where
  idle : LState
  await : Bool → LState
  alert : LState

pub data Line : Type 0 where
  none : Line
  holds : Terms → Own → LState → Line

abbrev pub and : Bool → Bool → Bool
and true b = b
and false b = false

abbrev pub not : Bool → Bool
not true = false
not false = true

-- by whose carriers an end sends: those of RLS where its retained connection fell; and in which a message is taken: for RET in either, for RLS in its own
abbrev pub way_of : Conn → Bool → Conn
way_of ret true = rls
way_of ret false = ret
way_of rls down = rls

abbrev pub way : Terms → Own → Conn
way t own = way_of (conn t) (down_of own)

abbrev pub way_fits : Conn → Conn → Bool
way_fits ret m = true
way_fits rls ret = false
way_fits rls rls = true

-- a report that the connection fell marks what is RET
abbrev pub fell_on : Conn → Own → Own
fell_on ret (has kind down) = has kind true
fell_on rls own = own

abbrev pub fallen : Terms → Own → Own
fallen t own = fell_on (conn t) own

-- an end's answer to an input: its record afterwards, and what it sends; a refusal leaves the record
abbrev pub CAnswer : Type 0
CAnswer = Clerk × List Msg

abbrev pub LAnswer : Type 0
LAnswer = Line × List Msg

-- ---- the clerk's end
-- an input that has a row in Ringout alone
unfoldable pub in_ringing : Clerk → (Terms → Own → CAnswer) → CAnswer
in_ringing absent f = (absent, [])
in_ringing (waiting d kind) f = (waiting d kind, [])
in_ringing (live t own invoked) f = (live t own invoked, [])
in_ringing (live t own wait_answer) f = (live t own wait_answer, [])
in_ringing (live t own ringing) f = f t own
in_ringing (live t own suspended) f = (live t own suspended, [])

-- kept, it goes on as CCBS, whatever its kind was; so it does at the line's end
unfoldable pub on_busy_again : Terms → Own → CAnswer
on_busy_again (chosen d true n) own = (live (chosen d true n) (as_ccbs own) invoked, [])
on_busy_again (chosen d false n) own = (absent, [])

-- the reply to a ccExecPossible in Setup that is refused with 7 or 8 (mend M3)
abbrev pub unfit : Conn → List Msg
unfit ret = []
unfit rls = cancel ret ∷ []

-- ccExecPossible in Invoked: is the carrier right, is User A busy
unfoldable pub on_exec : Terms → Own → Conn → Bool → Bool → CAnswer
on_exec t own m false b = (live t own invoked, unfit m)
on_exec t own m true false = (live t own wait_answer, [])
on_exec t own m true true = (live t own suspended, suspend (way t own) ∷ [])

-- a message at the clerk's end, with the host's word on User A (true: busy)
unfoldable pub clerk_takes : Clerk → Msg → Bool → CAnswer
clerk_takes c (request d kind p) b = (c, [])
clerk_takes c ringout b = (c, [])
clerk_takes c (suspend n) b = (c, [])
clerk_takes c (resume n) b = (c, [])
clerk_takes absent (result k n) b = (absent, cancel ret ∷ [])
clerk_takes (waiting d kind) (result k n) b = (live (chosen d (and d.canKeep k) n) (has kind false) invoked, [])
clerk_takes (live t own s) (result k' n') b = (live t own s, [])
clerk_takes absent (denied w) b = (absent, [])
clerk_takes (waiting d kind) (denied w) b = (absent, [])
clerk_takes (live t own s) (denied w) b = (live t own s, [])
clerk_takes absent (exec m) b = (absent, cancel ret ∷ [])
clerk_takes (waiting d kind) (exec m) b = (waiting d kind, unfit m)
clerk_takes (live t own invoked) (exec m) b = on_exec t own m (way_fits (conn t) m) b
clerk_takes (live t own wait_answer) (exec m) b = (live t own wait_answer, unfit m)
clerk_takes (live t own ringing) (exec m) b = (live t own ringing, unfit m)
clerk_takes (live t own suspended) (exec m) b = (live t own suspended, unfit m)
clerk_takes absent (cancel m) b = (absent, [])
clerk_takes (waiting d kind) (cancel m) b = (absent, [])
clerk_takes (live t own s) (cancel m) b = (absent, [])
clerk_takes c busy_again b = in_ringing c on_busy_again
clerk_takes c no_match b = in_ringing c (λ t own. (absent, []))
clerk_takes c alerts b = in_ringing c (λ t own. (absent, []))
clerk_takes c failed b = in_ringing c (λ t own. (absent, cancel (way t own) ∷ []))

-- a signal is handed in as the message that it stands for
abbrev pub signal_msg : Signal → Msg
signal_msg call_died = failed
signal_msg rejected = denied true

-- an act of User A, a timer's report, a signal
pub data CAct : Type 0 where
  act : Act → CAct
  timer : Timer → CAct
  signal : Signal → CAct

-- user's acts and timers at the clerk's end, by the state of an acknowledged record
unfoldable pub live_acts : Terms → Own → CState → CAct → CAnswer
live_acts t own wait_answer (act Act.Accept) = (live t own ringing, ringout ∷ [])
live_acts t own invoked (act Act.Accept) = (live t own invoked, [])
live_acts t own ringing (act Act.Accept) = (live t own ringing, [])
live_acts t own suspended (act Act.Accept) = (live t own suspended, [])
live_acts t own suspended (act Act.Resume) = (live t own invoked, resume (way t own) ∷ [])
live_acts t own invoked (act Act.Resume) = (live t own invoked, [])
live_acts t own wait_answer (act Act.Resume) = (live t own wait_answer, [])
live_acts t own ringing (act Act.Resume) = (live t own ringing, [])
live_acts t own suspended (act Act.GoOn) = (live t own wait_answer, [])
live_acts t own invoked (act Act.GoOn) = (live t own invoked, [])
live_acts t own wait_answer (act Act.GoOn) = (live t own wait_answer, [])
live_acts t own ringing (act Act.GoOn) = (live t own ringing, [])
live_acts t own s (act Act.Cancel) = (absent, cancel (way t own) ∷ [])
live_acts t own s (act Act.Fell) = (live t (fallen t own) s, [])
live_acts t own s (timer T1) = (live t own s, [])
live_acts t own invoked (timer T2) = (absent, cancel (way t own) ∷ [])
live_acts t own wait_answer (timer T2) = (absent, cancel (way t own) ∷ [])
live_acts t own ringing (timer T2) = (live t own ringing, [])
live_acts t own suspended (timer T2) = (absent, cancel (way t own) ∷ [])
live_acts t own invoked (timer T3) = (live t own invoked, [])
live_acts t own wait_answer (timer T3) = (absent, cancel (way t own) ∷ [])
live_acts t own ringing (timer T3) = (live t own ringing, [])
live_acts t own suspended (timer T3) = (live t own suspended, [])
live_acts t own s (signal x) = clerk_takes (live t own s) (signal_msg x) false

unfoldable pub waiting_acts : Data → Kind → CAct → CAnswer
waiting_acts d kind (act Act.Accept) = (waiting d kind, [])
waiting_acts d kind (act Act.Resume) = (waiting d kind, [])
waiting_acts d kind (act Act.GoOn) = (waiting d kind, [])
waiting_acts d kind (act Act.Cancel) = (absent, cancel ret ∷ [])
waiting_acts d kind (act Act.Fell) = (waiting d kind, [])
waiting_acts d kind (timer T1) = (absent, cancel ret ∷ [])
waiting_acts d kind (timer T2) = (waiting d kind, [])
waiting_acts d kind (timer T3) = (waiting d kind, [])
waiting_acts d kind (signal x) = clerk_takes (waiting d kind) (signal_msg x) false

unfoldable pub clerk_acts : Clerk → CAct → CAnswer
clerk_acts absent x = (absent, [])
clerk_acts (waiting d kind) x = waiting_acts d kind x
clerk_acts (live t own s) x = live_acts t own s x

-- ---- the line's end
-- the desk's settings: whether it keeps, and the connection it chooses by default
pub record Policy : Type 0 where
  pub keeps : Bool
  pub default : Conn

abbrev pub conn_of : Policy → ℕ → Conn
conn_of p preference = pick (eqb preference 1) ret (pick (eqb preference 2) rls p.default)

-- the terms on which it stores a request
abbrev pub terms_of : Policy → Data → ℕ → Terms
terms_of p d q = chosen d (and d.canKeep p.keeps) (conn_of p q)

abbrev pub result_of : Terms → Msg
result_of t = result (keep t) (conn t)

-- what the desk as a whole decides: a request is taken, or denied short (true) or long
pub data Verdict : Type 0 where
  takes : Verdict
  denies : Bool → Verdict

-- the word of the desk on a message: the verdict on a request, and whether the line can take a call
pub record Word : Type 0 where
  pub verdict : Verdict
  pub free : Bool

unfoldable pub on_request : Policy → Line → Data → Kind → ℕ → Verdict → LAnswer
on_request p l d kind q (denies w) = (l, denied w ∷ [])
on_request p none d kind q takes = (holds (terms_of p d q) (has kind false) idle, result_of (terms_of p d q) ∷ [])
on_request p (holds t own s) d kind q takes = (holds t own s, denied true ∷ [])

-- ccRingout in Await, by whether the line can take a call and keep is chosen
unfoldable pub on_ringout : Terms → Own → Bool → LAnswer
on_ringout t own true = (holds t own alert, [])
on_ringout (chosen d true n) own false = (holds (chosen d true n) (as_ccbs own) idle, busy_again ∷ [])
on_ringout (chosen d false n) own false = (none, busy_again ∷ [])

-- is the carrier right
unfoldable pub on_resume : Terms → Own → Bool → Bool → LAnswer
on_resume t own m true = (holds t own idle, [])
on_resume t own m false = (holds t own (await m), [])

unfoldable pub on_suspend : Terms → Own → Bool → Bool → LAnswer
on_suspend t own m true = (holds t own (await true), [])
on_suspend t own m false = (holds t own (await m), [])

unfoldable pub line_takes : Policy → Line → Msg → Word → LAnswer
line_takes p l (request d kind q) w = on_request p l d kind q w.verdict
line_takes p l (result k n) w = (l, [])
line_takes p l (denied v) w = (l, [])
line_takes p l (exec n) w = (l, [])
line_takes p l busy_again w = (l, [])
line_takes p l no_match w = (l, [])
line_takes p l alerts w = (l, [])
line_takes p l failed w = (l, [])
line_takes p l (cancel n) w = (none, [])
line_takes p none ringout w = (none, no_match ∷ [])
line_takes p (holds t own idle) ringout w = (holds t own idle, no_match ∷ [])
line_takes p (holds t own (await m)) ringout w = on_ringout t own w.free
line_takes p (holds t own alert) ringout w = (holds t own alert, no_match ∷ [])
line_takes p none (suspend n') w = (none, [])
line_takes p (holds t own idle) (suspend n') w = (holds t own idle, [])
line_takes p (holds t own (await m)) (suspend n') w = on_suspend t own m (way_fits (conn t) n')
line_takes p (holds t own alert) (suspend n') w = (holds t own alert, [])
line_takes p none (resume n') w = (none, cancel ret ∷ [])
line_takes p (holds t own idle) (resume n') w = (holds t own idle, cancel ret ∷ [])
line_takes p (holds t own (await m)) (resume n') w = on_resume t own m (way_fits (conn t) n')
line_takes p (holds t own alert) (resume n') w = (holds t own alert, cancel ret ∷ [])

pub data LAct : Type 0 where
  offers alerted call_failed cancels falls guard : LAct

unfoldable pub line_acts : Line → LAct → LAnswer
line_acts none x = (none, [])
line_acts (holds t own idle) offers = (holds t own (await false), exec (way t own) ∷ [])
line_acts (holds t own (await m)) offers = (holds t own (await m), [])
line_acts (holds t own alert) offers = (holds t own alert, [])
line_acts (holds t own idle) alerted = (holds t own idle, [])
line_acts (holds t own (await m)) alerted = (holds t own (await m), [])
line_acts (holds t own alert) alerted = (none, alerts ∷ [])
line_acts (holds t own idle) call_failed = (holds t own idle, [])
line_acts (holds t own (await m)) call_failed = (holds t own (await m), [])
line_acts (holds t own alert) call_failed = (none, failed ∷ [])
line_acts (holds t own s) cancels = (none, cancel (way t own) ∷ [])
line_acts (holds t own s) falls = (holds t (fallen t own) s, [])
line_acts (holds t own s) guard = (none, cancel (way t own) ∷ [])

-- ---- the net
-- the two ends, the two wires (`up`: to the line's end), and the history: was it taken up, was it accepted, was a T1 or T2 report taken at the
-- clerk's end, a guard report at the line's, was a message dropped
pub record Net : Type 0 where
  pub clerk : Clerk
  pub up : List Msg
  pub line : Line
  pub down : List Msg
  pub used : Bool
  pub accepted : Bool
  pub timed_out : Bool
  pub guarded : Bool
  pub dropped : Bool

-- a wire without what stands at a place; behind its end nothing does
unfoldable pub left_out : {A : Type 0} → ℕ → List A → List A
left_out i [] = []
left_out zero (x ∷ xs) = xs
left_out (suc i) (x ∷ xs) = x ∷ left_out i xs

abbrev pub start : Net
start = record { clerk = absent; up = []; line = none; down = []; used = false; accepted = false; timed_out = false; guarded = false; dropped = false }

abbrev pub or : Bool → Bool → Bool
or true b = true
or false b = b

abbrev pub present : Clerk → Bool
present absent = false
present (waiting d kind) = true
present (live t own s) = true

abbrev pub is_t1_or_t2 : CAct → Bool
is_t1_or_t2 (act x) = false
is_t1_or_t2 (timer T1) = true
is_t1_or_t2 (timer T2) = true
is_t1_or_t2 (timer T3) = false
is_t1_or_t2 (signal x) = false

-- did T1 or T2 run out and end the record, which was there
abbrev pub runs_out : Clerk → CAct → Bool
runs_out c x = and (is_t1_or_t2 x) (and (present c) (not (present (clerk_acts c x).0)))

abbrev pub guard_ends : Line → LAct → Bool
guard_ends none x = false
guard_ends (holds t own s) offers = false
guard_ends (holds t own s) alerted = false
guard_ends (holds t own s) call_failed = false
guard_ends (holds t own s) cancels = false
guard_ends (holds t own s) falls = false
guard_ends (holds t own s) guard = true

abbrev pub held : Line → Bool
held none = false
held (holds t own s) = true

pub data Event : Type 0 where
  asks : Data → Kind → ℕ → Event
  clerk_does : CAct → Event
  line_does : LAct → Event
  clerk_gets : Bool → Event
  line_gets : Word → Event
  loses_up loses_down : ℕ → Event

-- the clerk's end answered r: was the request taken up by it, did it run out
abbrev pub after_clerk : Net → List Msg → Bool → Bool → CAnswer → Net
after_clerk s d u o r =
    record {
      clerk = r.0;
      up = s.up ++ r.1;
      line = s.line;
      down = d;
      used = or u s.used;
      accepted = s.accepted;
      timed_out = or o s.timed_out;
      guarded = s.guarded;
      dropped = s.dropped;
    }

-- the line's end answered r
abbrev pub after_line : Net → List Msg → Bool → LAnswer → Net
after_line s u o r =
    record {
      clerk = s.clerk;
      up = u;
      line = r.0;
      down = s.down ++ r.1;
      used = s.used;
      accepted = or (held r.0) s.accepted;
      timed_out = s.timed_out;
      guarded = or o s.guarded;
      dropped = s.dropped;
    }

abbrev pub lost : Net → List Msg → List Msg → Net
lost s u d =
    record {
      clerk = s.clerk;
      up = u;
      line = s.line;
      down = d;
      used = s.used;
      accepted = s.accepted;
      timed_out = s.timed_out;
      guarded = s.guarded;
      dropped = true;
    }

abbrev pub after_ask : Net → Data → Kind → ℕ → Net
after_ask s d kind q = after_clerk s s.down true false (waiting d kind, request d kind q ∷ [])

-- an identifier is taken up at most once
unfoldable pub ask_step : Net → Data → Kind → ℕ → Bool → Net
ask_step s d kind q true = s
ask_step s d kind q false = after_ask s d kind q

unfoldable pub clerk_get_step : Net → Bool → List Msg → Net
clerk_get_step s b [] = s
clerk_get_step s b (m ∷ d) = after_clerk s d false false (clerk_takes s.clerk m b)

unfoldable pub line_get_step : Policy → Net → Word → List Msg → Net
line_get_step p s w [] = s
line_get_step p s w (m ∷ u) = after_line s u false (line_takes p s.line m w)

unfoldable pub next : Policy → Net → Event → Net
next p s (asks d kind q) = ask_step s d kind q s.used
next p s (clerk_does x) = after_clerk s s.down false (runs_out s.clerk x) (clerk_acts s.clerk x)
next p s (line_does x) = after_line s s.up (guard_ends s.line x) (line_acts s.line x)
next p s (clerk_gets b) = clerk_get_step s b s.down
next p s (line_gets w) = line_get_step p s w s.up
next p s (loses_up i) = lost s (left_out i s.up) s.down
next p s (loses_down i) = lost s s.up (left_out i s.down)

-- the nets that some run leads to
pub data Reach (p : Policy) : Net → Type 0 where
  begin : Reach p start
  more : {s : Net} → Reach p s → (e : Event) → Reach p (next p s e)
