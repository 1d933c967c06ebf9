-- Document 01, "Examples to prove, as a single table under one claim". Each row is computed on the definitions that the contracts cite.
use Rattle.std.specs.Prelude.{ℕ, true, ◌≡◌, List, [], ◌∷◌, map}
use Rattle.examples.specs.Tells.{number_of, message_of, joined, outcome_tells, clerk_tells, line_tells, held, status}
use Rattle.examples.specs.Scenes.{identifier, one_digit, busy_line, accepted, again, filled, unknown, no_reply, looked_before, busy_then_free, looked_after, invoked, possible, ringout, busy_again, timer_three}

-- what an example finds and what the paper says, both as numbers. On the wire: 0 and the values, or the refusal's number and the place of the fault. At a desk: what stands
-- before the step where the example names it, then the outcome, then what the desk holds after it; specs/Tells.antt has the numbers, specs/Scenes.antt the steps
pub record Example : Type 0 where
  pub found : List ℕ
  pub said : List ℕ

abbrev row : List ℕ → List ℕ → Example
row found said = record { found = found; said = said }

unfoldable pub table : List Example
table =
    -- 1. Bytes AC 02 are 300.
    row (number_of (0xAC ∷ 0x02 ∷ [])) (0 ∷ 300 ∷ []) ∷
    -- 2. FF 7F are 16383.
    row (number_of (0xFF ∷ 0x7F ∷ [])) (0 ∷ 16383 ∷ []) ∷
    -- 3. 80 00: refusal 1. The number begins at 0.
    row (number_of (0x80 ∷ 0x00 ∷ [])) (1 ∷ 0 ∷ []) ∷
    -- 4. 80 80 01: refusal 1. The number begins at 0.
    row (number_of (0x80 ∷ 0x80 ∷ 0x01 ∷ [])) (1 ∷ 0 ∷ []) ∷
    -- 5. No bytes: refusal 1, for a number and for a message. They end at 0.
    row (number_of []) (1 ∷ 0 ∷ []) ∷
    row (message_of []) (1 ∷ 0 ∷ []) ∷
    -- 6. Busy line, CCBS, can-keep, no preference, desk keeps and defaults to release: result keep 1 in Release Complete, record Invoked RLS.
    -- Line 1 is busy (1). No refusal (0); a result (3), keep 1, in Release Complete (4). Invoked (1), keep chosen (2), RLS (2).
    row (joined (status busy_line (one_digit 1) ∷ outcome_tells accepted.outcome ∷ line_tells accepted.desk (identifier 1) ∷ []))
    (1 ∷ 0 ∷ 3 ∷ 1 ∷ 4 ∷ 1 ∷ 2 ∷ 2 ∷ []) ∷
    -- 7. Other identifier, same two numbers: short.
    -- The desk holds 1. No refusal (0); a request error (4), short (1), in Release Complete (4). The other identifier has no record (0); the desk holds 1.
    row (joined (held accepted.desk ∷ outcome_tells again.outcome ∷ line_tells again.desk (identifier 2) ∷ held again.desk ∷ []))
    (1 ∷ 0 ∷ 4 ∷ 1 ∷ 4 ∷ 0 ∷ 1 ∷ []) ∷
    -- 8. Unknown numberB at a full desk: long.
    -- The desk holds 32; number 9 is no line (2). No refusal (0); a request error (4), long (2), in Release Complete (4). The desk holds 32.
    row (joined (held (filled 32) ∷ status (filled 32) (one_digit 9) ∷ outcome_tells unknown.outcome ∷ held unknown.desk ∷ []))
    (32 ∷ 2 ∷ 0 ∷ 4 ∷ 2 ∷ 4 ∷ 32 ∷ []) ∷
    -- 9. CCNR on a free line, Look: 11; after busy, free, Look: offered.
    -- Line 1 is free (0). Refusal 11, nothing sent (0). Invoked (1), keep chosen (2), RLS (2).
    row (joined (status no_reply (one_digit 1) ∷ outcome_tells looked_before.outcome ∷ line_tells looked_before.desk (identifier 1) ∷ []))
    (0 ∷ 11 ∷ 0 ∷ 1 ∷ 2 ∷ 2 ∷ []) ∷
    -- Line 1 is free (0). No refusal (0); ccExecPossible (5) in Setup (1), as the record is RLS. Await (2), keep chosen (2), RLS (2).
    row (joined (status busy_then_free (one_digit 1) ∷ outcome_tells looked_after.outcome ∷ line_tells looked_after.desk (identifier 1) ∷ []))
    (0 ∷ 0 ∷ 5 ∷ 1 ∷ 2 ∷ 2 ∷ 2 ∷ []) ∷
    -- 10. RET, ccExecPossible, User A busy: ccSuspend in Facility.
    -- Invoked (2), keep chosen (2), RET (1). No refusal (0); ccSuspend (8) in Facility (3). Suspended (5), keep chosen (2), RET (1).
    row (joined (clerk_tells (invoked 1) (identifier 1) ∷ outcome_tells (possible 1 true).outcome ∷ clerk_tells (possible 1 true).desk (identifier 1) ∷ []))
    (2 ∷ 2 ∷ 1 ∷ 0 ∷ 8 ∷ 3 ∷ 5 ∷ 2 ∷ 1 ∷ []) ∷
    -- 11. Busy again in Ringout, keep chosen: Invoked; not chosen: gone.
    -- Ringout (4), keep chosen (2), RET (1). No refusal (0), nothing sent (0). Invoked (2), keep chosen (2), RET (1).
    row (joined (clerk_tells (ringout 1) (identifier 1) ∷ outcome_tells (busy_again 1).outcome ∷ clerk_tells (busy_again 1).desk (identifier 1) ∷ []))
    (4 ∷ 2 ∷ 1 ∷ 0 ∷ 0 ∷ 2 ∷ 2 ∷ 1 ∷ []) ∷
    -- Ringout (4), keep not chosen (1), RET (1). No refusal (0), nothing sent (0). No record (0).
    row (joined (clerk_tells (ringout 0) (identifier 1) ∷ outcome_tells (busy_again 0).outcome ∷ clerk_tells (busy_again 0).desk (identifier 1) ∷ []))
    (4 ∷ 1 ∷ 1 ∷ 0 ∷ 0 ∷ 0 ∷ []) ∷
    -- 12. T3 reported in Suspended: 9.
    -- Suspended (5), keep chosen (2), RET (1). Refusal 9, nothing sent (0). Suspended (5), keep chosen (2), RET (1).
    row (joined (clerk_tells (possible 1 true).desk (identifier 1) ∷ outcome_tells timer_three.outcome ∷ clerk_tells timer_three.desk (identifier 1) ∷ []))
    (5 ∷ 2 ∷ 1 ∷ 9 ∷ 0 ∷ 5 ∷ 2 ∷ 1 ∷ []) ∷
    []

-- the one claim
abbrev pub Examples : Type 0
Examples = map (λ (example : Example). example.found) table ≡ map (λ (example : Example). example.said) table
