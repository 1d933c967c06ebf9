-- An outcome as a host is told it: its message as bytes at the front of a buffer, and the rest as plain numbers.
use Rattle.desk.specs.declared.letter.Letter.{Letter}
use Rattle.std.specs.Prelude.{ℕ, ◌+◌, List, [], ◌∷◌, Option, Some, None, Result, Ok}
use Rattle.lists.specs.Choice.{pick}
use Rattle.message.specs.Refusals.{refusal_number}
use Rattle.message.specs.declared.refusal.Refusal.{Refusal}
use Rattle.terms.specs.Codes.{flag_code}
use Rattle.desk.specs.Letter.{message_of}
use Rattle.desk.specs.declared.outcome.Timers.{Timers}
use Rattle.desk.specs.declared.outcome.Notice.{Notice}
use Rattle.desk.specs.declared.outcome.Notice.TheVariants.{Silent, Accepted, DeniedShort, DeniedLong, Recall, Completed, Failed, BusyAgainKept, BusyAgainEnded, Cancelled, BusyAgainWaiting}
use Rattle.desk.specs.declared.outcome.Outcome.{Outcome}
use Rattle.writer.specs.Write.{message_written, message_buffer}
use Rattle.message.specs.declared.refusal.Refusal.{Refusal}

-- T1 1, T2 2, T3 4, guard 8
abbrev pub timers_number : Timers → ℕ
timers_number timers = pick timers.t1 1 0 + pick timers.t2 2 0 + pick timers.t3 4 0 + pick timers.guard 8 0

abbrev pub notice_number : Notice → ℕ
notice_number Silent = 0
notice_number Accepted = 1
notice_number DeniedShort = 2
notice_number DeniedLong = 3
notice_number Recall = 4
notice_number Completed = 5
notice_number Failed = 6
notice_number BusyAgainKept = 7
notice_number BusyAgainEnded = 8
notice_number Cancelled = 9
notice_number BusyAgainWaiting = 10

-- ---- the message sent, written at a place: the writer's answer, and no bytes where nothing is sent
unfoldable pub sent_written : List ℕ → ℕ → Option Letter → Result ℕ Refusal
sent_written out place None = Ok 0
sent_written out place (Some l) = message_written out place (message_of l)

unfoldable pub sent_buffer : List ℕ → ℕ → Option Letter → List ℕ
sent_buffer out place None = out
sent_buffer out place (Some l) = message_buffer out place (message_of l)

-- ---- a place as two numbers: 1 and the place, or 0 and 0 where there is none
abbrev pub is_place : Option ℕ → ℕ
is_place (Some place) = 1
is_place None = 0

abbrev pub place_number : Option ℕ → ℕ
place_number (Some place) = place
place_number None = 0

-- ---- a refusal by its number, 0 for none
abbrev pub refusal_told : Option Refusal → ℕ
refusal_told None = 0
refusal_told (Some refusal) = refusal_number refusal

-- ---- the eleven numbers: refusal, bytes written, first unread place, timers started, timers stopped, notice, clear the call; of bytes that cannot be read 1 and the
-- place of the fault; of a step about a record 1 and the record's place
abbrev pub told_of : Outcome → ℕ → ℕ → List ℕ
told_of outcome length next =
    refusal_told outcome.refusal
    ∷ length
    ∷ next
    ∷ timers_number outcome.starts
    ∷ timers_number outcome.stops
    ∷ notice_number outcome.notice
    ∷ flag_code outcome.clear
    ∷ 0
    ∷ 0
    ∷ is_place outcome.at
    ∷ place_number outcome.at
    ∷ []

-- a refusal of the face itself: nothing was done, nothing is sent and nothing is read
abbrev pub told_refused : Refusal → Option ℕ → List ℕ
told_refused refusal fault = refusal_number refusal ∷ 0 ∷ 0 ∷ 0 ∷ 0 ∷ 0 ∷ 0 ∷ is_place fault ∷ place_number fault ∷ 0 ∷ 0 ∷ []
