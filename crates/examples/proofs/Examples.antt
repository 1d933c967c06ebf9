-- The examples hold: both columns of the table compute to the same numbers. The rows of the desks are computed on their own: inside the cells of
-- the table those of the line desk pass the step limit.
use mathlib.Core.Bool.{true}
use mathlib.Core.Path.{◌≡◌, refl}
use mathlib.Core.List.{List, [], ◌∷◌}
use Rattle.lists.specs.Lists.{first_from, count}
use Rattle.lists.specs.Words.{word, words_of, same_words}
use Rattle.message.specs.Number.{number_at, field_at, scan_at, digits_at, digits_in_range}
use Rattle.message.specs.Format.{in_range}
use Rattle.message.specs.Wire.{message_at}
use Rattle.store.specs.Rows.{rows, put_row, turn_row, drop_row, rows_fit, removed_row}
use Rattle.desk.specs.Carriers.{carrier_fits}
use Rattle.desk.specs.Letter.{identifier_of, number_words, letter_of}
use Rattle.terms.specs.Codes.{kind_of, keep_of, connection_of}
use Rattle.terms.specs.Terms.{terms_of}
use Rattle.clerk_table.specs.Step as ClerkStep
use Rattle.clerk_records.specs.Codes as ClerkCodes
use Rattle.clerk_records.specs.Records as ClerkRecords
use Rattle.clerk_records.specs.Meaning as ClerkMeaning
use Rattle.clerk_records.specs.Deadlines as ClerkDeadlines
use Rattle.clerk_plan.specs.Plan as ClerkPlan
use Rattle.clerk.specs.Start as ClerkStart
use Rattle.clerk.specs.Entry as ClerkEntry
use Rattle.clerk.specs.Steps as Clerk
use Rattle.line_table.specs.Step as LineStep
use Rattle.line_records.specs.Codes as LineCodes
use Rattle.line_records.specs.Records as LineRecords
use Rattle.line_records.specs.Lines as Lines
use Rattle.line_records.specs.Change as Change
use Rattle.line_records.specs.Deadlines as LineDeadlines
use Rattle.line_plan.specs.Decide as Decide
use Rattle.line_plan.specs.Plan as LinePlan
use Rattle.line.specs.Start as LineStart
use Rattle.line.specs.Entry as LineEntry
use Rattle.line.specs.Steps as Line
use Rattle.examples.specs.Tells.{joined, outcome_tells, clerk_tells, line_tells, held, status}
use Rattle.examples.specs.Scenes.{identifier, one_digit, busy_line, accepted, again, filled, unknown, no_reply, looked_before, busy_then_free, looked_after, invoked, possible, ringout, busy_again, timer_three}
use Rattle.examples.specs.Examples.{Examples, table}

-- a first row and the others
cells : {A : Type 0} {x y : A} {xs ys : List A} → x ≡ y → xs ≡ ys → x ∷ xs ≡ y ∷ ys
cells first others = λ i. first i ∷ others i

-- examples 6 to 12
desks :
    joined (status busy_line (one_digit 1) ∷ outcome_tells accepted.outcome ∷ line_tells accepted.desk (identifier 1) ∷ []) ∷
    joined (held accepted.desk ∷ outcome_tells again.outcome ∷ line_tells again.desk (identifier 2) ∷ held again.desk ∷ []) ∷
    joined (held (filled 32) ∷ status (filled 32) (one_digit 9) ∷ outcome_tells unknown.outcome ∷ held unknown.desk ∷ []) ∷
    joined (status no_reply (one_digit 1) ∷ outcome_tells looked_before.outcome ∷ line_tells looked_before.desk (identifier 1) ∷ []) ∷
    joined (status busy_then_free (one_digit 1) ∷ outcome_tells looked_after.outcome ∷ line_tells looked_after.desk (identifier 1) ∷ []) ∷
    joined (clerk_tells (invoked 1) (identifier 1) ∷ outcome_tells (possible 1 true).outcome ∷ clerk_tells (possible 1 true).desk (identifier 1) ∷ []) ∷
    joined (clerk_tells (ringout 1) (identifier 1) ∷ outcome_tells (busy_again 1).outcome ∷ clerk_tells (busy_again 1).desk (identifier 1) ∷ []) ∷
    joined (clerk_tells (ringout 0) (identifier 1) ∷ outcome_tells (busy_again 0).outcome ∷ clerk_tells (busy_again 0).desk (identifier 1) ∷ []) ∷
    joined (clerk_tells (possible 1 true).desk (identifier 1) ∷ outcome_tells timer_three.outcome ∷ clerk_tells timer_three.desk (identifier 1) ∷ []) ∷
    []
    ≡
    (1 ∷ 0 ∷ 3 ∷ 1 ∷ 4 ∷ 1 ∷ 2 ∷ 2 ∷ []) ∷
    (1 ∷ 0 ∷ 4 ∷ 1 ∷ 4 ∷ 0 ∷ 1 ∷ []) ∷
    (32 ∷ 2 ∷ 0 ∷ 4 ∷ 2 ∷ 4 ∷ 32 ∷ []) ∷
    (0 ∷ 11 ∷ 0 ∷ 1 ∷ 2 ∷ 2 ∷ []) ∷
    (0 ∷ 0 ∷ 5 ∷ 1 ∷ 2 ∷ 2 ∷ 2 ∷ []) ∷
    (2 ∷ 2 ∷ 1 ∷ 0 ∷ 8 ∷ 3 ∷ 5 ∷ 2 ∷ 1 ∷ []) ∷
    (4 ∷ 2 ∷ 1 ∷ 0 ∷ 0 ∷ 2 ∷ 2 ∷ 1 ∷ []) ∷
    (4 ∷ 1 ∷ 1 ∷ 0 ∷ 0 ∷ 0 ∷ []) ∷
    (5 ∷ 2 ∷ 1 ∷ 9 ∷ 0 ∷ 5 ∷ 2 ∷ 1 ∷ []) ∷
    []
unfolding joined outcome_tells clerk_tells line_tells held status first_from count word words_of same_words number_at field_at scan_at digits_at digits_in_range in_range rows put_row turn_row drop_row rows_fit removed_row carrier_fits kind_of keep_of connection_of terms_of number_words identifier_of letter_of ClerkStep.row_taken ClerkCodes.state_of ClerkRecords.record_of ClerkRecords.records ClerkRecords.meant ClerkRecords.place ClerkRecords.applied ClerkMeaning.meaning ClerkMeaning.named ClerkDeadlines.started_at ClerkDeadlines.timed ClerkPlan.decided ClerkPlan.plan_of ClerkPlan.plan_for ClerkStart.good_lengths ClerkStart.started ClerkEntry.ask_entry ClerkEntry.message_entry Clerk.step Clerk.entered LineStep.row_taken LineCodes.state_of LineRecords.record_of LineRecords.records LineRecords.meant LineRecords.place LineRecords.put_record LineRecords.turn_record LineRecords.removed Lines.line_of Lines.lines Lines.line_at Lines.over_line Lines.put_line Lines.keeps Lines.retains Lines.with_settings Change.mark_place Change.marked Change.status_stored Change.with_report Change.applied LineDeadlines.started_at LineDeadlines.timed Decide.counted_decision Decide.admitted_decision Decide.request_decision Decide.message_decision Decide.offer_at Decide.look_decision Decide.report_decision Decide.decided LinePlan.plan_of LinePlan.plan_for LineStart.good_line LineStart.line_taken LineStart.take_lines LineStart.started LineEntry.message_entry LineEntry.report_entry LineEntry.look_entry Line.step Line.entered
desks = refl

-- examples 1 to 5, in six rows, before those of the desks
pub examples : Examples
unfolding table number_at field_at message_at
examples = cells refl (cells refl (cells refl (cells refl (cells refl (cells refl desks)))))
