-- A request that ran out at both ends is over for good: a deleted record is not made again, as no request of it is under way.
use mathlib.Core.Path.{◌≡◌, refl}
use mathlib.Core.Bool.{Bool, true, false, true≢false, false≢true}
use mathlib.Core.List.{List}
use Rattle.pair_request.specs.Reading.{Msg, Clerk, absent, Line, none, Policy, line_takes, Net, or, held, Reach, begin, more}
use Rattle.pair_request.specs.Listed.{NotReq, NoReq}
use Rattle.pair_request.proofs.Effects.{no_req++, no_req_left, ClerkActEffect, stays, quit_waiting, drops_waiting, quit_live, accepts, resuming, recalling, marking, act-plain, ClerkTakeEffect, take-stays, take-replies, take-ends-waiting, take_ends, take-ends-cancel, take-moves, take-suspends, take_acks, clerk-take-effect, take-plain, LineActEffect, line_stays, line_quits, line-offers, line-alerts, line-fails, line-marks, LineTakeEffect, line-take-stays, line-take-ends, line-take-moves, line-take-accepts, line-take-effect, or_elim, Move, still, ask, clerk-act, line-act, clerk-get, line-get, up-lost, down-lost, moves}
use Rattle.pair_request.proofs.Agree.{NetAgrees, agreed, held-accepted, accepted-plain, present-used}

-- ---- over stays over
gone-acts : {c c' : Clerk} {o : List Msg} → ClerkActEffect c c' o → c ≡ absent → c' ≡ absent
gone-acts stays h = h
gone-acts quit_waiting h = refl
gone-acts drops_waiting h = refl
gone-acts quit_live h = refl
gone-acts accepts h = cc
gone-acts (resuming f) h = cc
gone-acts recalling h = cc
gone-acts marking h = cc

gone_gets : {c c' : Clerk} {m : Msg} {o : List Msg} → ClerkTakeEffect c m c' o → c ≡ absent → c' ≡ absent
gone_gets take-stays h = h
gone_gets take-replies h = h
gone_gets take-ends-waiting h = refl
gone_gets take_ends h = refl
gone_gets take-ends-cancel h = refl
gone_gets take-moves h = cc
gone_gets (take-suspends f) h = cc
gone_gets take_acks h = cc

none-acts : {l l' : Line} {o : List Msg} → LineActEffect l l' o → l ≡ none → l' ≡ none
none-acts line_stays h = h
none-acts line_quits h = refl
none-acts (line-offers f) h = cc
none-acts line-alerts h = refl
none-acts line-fails h = refl
none-acts line-marks h = cc

none_gets : {p : Policy} {l l' : Line} {m : Msg} {o : List Msg} → LineTakeEffect p l m l' o → NotReq m → l ≡ none → l' ≡ none
none_gets (line-take-stays i) n h = h
none_gets (line-take-ends i) n h = refl
none_gets (line-take-moves i) n h = cc
none_gets line-take-accepts n h = absurd n

-- it was asked, neither end holds a record of it, and no request is under way
pub record Over (s : Net) : Type 0 where
  pub was_used : s.used ≡ true
  pub clerk-none : s.clerk ≡ absent
  pub line-none : s.line ≡ none
  pub no-request : NoReq s.up

pub over-move : {p : Policy} {s s' : Net} → Move p s s' → Over s → Over s'
over-move still h = h
over-move (ask q e) h = absurd (true≢false (cc h.was_used))
over-move {s} (clerk-act {o} e t) h =
    record {
      was_used = h.was_used;
      clerk-none = gone-acts e h.clerk-none;
      line-none = h.line-none;
      no-request = no_req++ s.up o h.no-request (act-plain e);
    }
over-move (line-act e t) h =
    record { was_used = h.was_used; clerk-none = h.clerk-none; line-none = none-acts e h.line-none; no-request = h.no-request }
over-move {s} (clerk-get {m} b e) h =
    let f = clerk-take-effect s.clerk m b in
    record {
      was_used = h.was_used;
      clerk-none = gone_gets f h.clerk-none;
      line-none = h.line-none;
      no-request = no_req++ s.up _ h.no-request (take-plain f);
    }
over-move {p} {s} (line-get {m} w e) h =
    let n = rw e at h.no-request in
    record {
      was_used = h.was_used;
      clerk-none = h.clerk-none;
      line-none = none_gets (line-take-effect p s.line m w) n.0 h.line-none;
      no-request = n.1;
    }
over-move {s} (up-lost i) h =
    record { was_used = h.was_used; clerk-none = h.clerk-none; line-none = h.line-none; no-request = no_req_left i s.up h.no-request }
over-move (down-lost i) h =
    record { was_used = h.was_used; clerk-none = h.clerk-none; line-none = h.line-none; no-request = h.no-request }

-- ---- what the histories of the timers tell
pub record Ran (s : Net) : Type 0 where
  pub timer-ran : s.timed_out ≡ true → (s.used ≡ true) × (s.clerk ≡ absent)
  pub guard-ran : s.guarded ≡ true → (s.accepted ≡ true) × (s.line ≡ none)

or_right : (x y : Bool) → y ≡ true → or x y ≡ true
or_right true y h = refl
or_right false y h = h

ran_move : {p : Policy} {s s' : Net} → Move p s s' → NetAgrees s → Ran s → Ran s'
ran_move still g h = h
ran_move (ask q e) g h = record { timer-ran = λ t. absurd (true≢false (cc (h.timer-ran t).0)); guard-ran = h.guard-ran }
ran_move {s} (clerk-act {t} e k) g h =
    record {
      timer-ran = λ j. or_elim t s.timed_out j (λ i. (present-used g (k i).1, (k i).0)) (λ i. ((h.timer-ran i).0, gone-acts e (h.timer-ran i).1));
      guard-ran = h.guard-ran;
    }
ran_move {s} (line-act {l} {t} e k) g h =
    record {
      timer-ran = h.timer-ran;
      guard-ran = λ j. or_elim t s.guarded j (λ i. (or_right (held l) _ (held-accepted g (k i).1), (k i).0))
          (λ i. (or_right (held l) _ (h.guard-ran i).0, none-acts e (h.guard-ran i).1));
    }
ran_move {s} (clerk-get {m} b e) g h = record { timer-ran = λ j. ((h.timer-ran j).0, gone_gets (clerk-take-effect s.clerk m b) (h.timer-ran j).1); guard-ran = h.guard-ran }
ran_move {p} {s} (line-get {m} w e) g h =
    record {
      timer-ran = h.timer-ran;
      guard-ran = λ j. (
        or_right (held (line_takes p s.line m w).0) _ (h.guard-ran j).0,
        none_gets (line-take-effect p s.line m w) (accepted-plain (rw (e, (h.guard-ran j).0) at g)).0 (h.guard-ran j).1,
      );
    }
ran_move (up-lost i) g h = record { timer-ran = h.timer-ran; guard-ran = h.guard-ran }
ran_move (down-lost i) g h = record { timer-ran = h.timer-ran; guard-ran = h.guard-ran }

pub ran : {p : Policy} {s : Net} → Reach p s → Ran s
ran begin = record { timer-ran = λ h. absurd (false≢true h); guard-ran = λ h. absurd (false≢true h) }
ran {p} (more {s} r e) = ran_move (moves p s e) (agreed r) (ran r)
