-- Document 01, "Pairs when the wires are quiet", on the reading of one request, of one kind at both ends; and messages that are no request.
use Rattle.std.specs.Prelude.{Bool, true, List, [], ◌∷◌}
use Rattle.message.specs.declared.Kind.{Kind}
use Rattle.pair_request.specs.Reading.{Terms, has, Msg, request, result, denied, exec, ringout, busy_again, no_match, suspend, resume, cancel, alerts, failed, Clerk, absent, live, invoked, wait_answer, ringing, suspended, Line, none, holds, idle, await, alert}

pub data Listed : Clerk → Line → Type 0 where
  no_record : Listed absent none
  invoked-invoked : {t : Terms} {kind : Kind} {a b : Bool} → Listed (live t (has kind a) invoked) (holds t (has kind b) idle)
  answer-await : {t : Terms} {kind : Kind} {a b m : Bool} → Listed (live t (has kind a) wait_answer) (holds t (has kind b) (await m))
  suspended-await : {t : Terms} {kind : Kind} {a b : Bool} → Listed (live t (has kind a) suspended) (holds t (has kind b) (await true))
  ringout-alert : {t : Terms} {kind : Kind} {a b : Bool} → Listed (live t (has kind a) ringing) (holds t (has kind b) alert)

abbrev pub NotReq : Msg → Type 0
NotReq (request d kind q) = ⊥
NotReq (result k n) = Unit
NotReq (denied w) = Unit
NotReq (exec n) = Unit
NotReq ringout = Unit
NotReq busy_again = Unit
NotReq no_match = Unit
NotReq (suspend n) = Unit
NotReq (resume n) = Unit
NotReq (cancel n) = Unit
NotReq alerts = Unit
NotReq failed = Unit

abbrev pub NoReq : List Msg → Type 0
NoReq [] = Unit
NoReq (m ∷ ms) = NotReq m × NoReq ms
