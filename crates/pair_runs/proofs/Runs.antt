-- The table holds: each row computes to what it says, and ends in a world of a run.
use Rattle.lists.specs.declared.words.Words.{Words}
use Rattle.std.specs.Prelude.{Option}
use Prim.Native.Nat.{ℕ}
use mathlib.Core.Path.{◌≡◌, refl, sym, ◌∙◌, ap}
use mathlib.Core.Bool.{Bool, true, false, true≢false, false≢true}
use mathlib.Core.List.Memᴰ
use mathlib.Core.List.{List, []}
use Rattle.lists.specs.Lists.{first_from, count, without}
use Rattle.lists.specs.Words.{word, octets, words_of, bytes_of, same_words}
use Rattle.message.specs.Number.{number_at, field_at, scan_at, digits_at, digits_in_range}
use Rattle.message.specs.Format.{in_range}
use Rattle.store.specs.Rows.{rows, put_row, turn_row, drop_row, rows_fit, removed_row}
use Rattle.desk.specs.Letter.{identifier_of, number_words, letter_of, message_of}
use Rattle.terms.specs.Means.{fits, oldest}
use Rattle.desk.specs.Carriers.{carrier_fits}
use Rattle.terms.specs.Codes.{kind_of, keep_of, connection_of}
use Rattle.terms.specs.Terms.{terms_of}
use Rattle.desk.specs.declared.Connection.{Connection}
use Rattle.desk.specs.declared.Connection.TheVariants.{Empty, Ret, Rls}
use Rattle.places.specs.Places.{Held, none, one}
use Rattle.clerk_table.specs.Step as ClerkStep
use Rattle.clerk_table.specs.declared.record.Record as ClerkRecord
use Rattle.clerk_records.specs.Codes as ClerkCodes
use Rattle.clerk_records.specs.Records as ClerkRecords
use Rattle.clerk_records.specs.Deadlines as ClerkDeadlines
use Rattle.line_records.specs.Deadlines as LineDeadlines
use Rattle.clock.specs.Clock.{deadline_of}
use Rattle.clerk_records.specs.Meaning as ClerkMeaning
use Rattle.clerk_plan.specs.Plan as ClerkPlan
use Rattle.clerk.specs.Entry as ClerkEntry
use Rattle.clerk.specs.Steps as Clerk
use Rattle.line_table.specs.Step as LineStep
use Rattle.line_table.specs.declared.record.Record as LineRecord
use Rattle.line_records.specs.Codes as LineCodes
use Rattle.line_records.specs.Records as LineRecords
use Rattle.line_records.specs.Meaning as LineMeaning
use Rattle.line_records.specs.Lines as Lines
use Rattle.line_records.specs.Change as Change
use Rattle.line_plan.specs.Decide as Decide
use Rattle.line_plan.specs.Plan as LinePlan
use Rattle.line.specs.Start as Start
use Rattle.line.specs.Entry as LineEntry
use Rattle.line.specs.Steps as Line
use Rattle.pair.specs.World.{from, origins, identifiers, World, Event, held_of, clerk_holds, line_holds, Reached, reached, Once, Apart, stop, messages_of, clerkHeard, lineHeard, next}
use Rattle.pair.specs.Demand3.{Listed, no_record, invoked, wait_answer, suspended, ringout}
use Rattle.pair_runs.specs.Runs.{has, RowsShown, KindsShown, FallsShown, Shown, TableReached, Premises, Unlisted, LeftOut, play, seen, kinds_seen, kinds, marks_seen, falls, pairs, answers, losses, signals, table, first, usual, one_line, start, stored, acknowledged, ringing, over, used_again, called, nameless_alone}
use Rattle.pair_runs.proofs.Allowed.{passes, bytes-told, undropped, runs, run-told, keeps, keeps-told, all_run, each-reached}

-- all that a run computes with: who names this unfolds every definition on its line
unfoldable pub all : Bool
unfolding first_from count identifier_of fits oldest word octets words_of bytes_of same_words number_at field_at scan_at digits_at digits_in_range in_range rows put_row turn_row drop_row rows_fit removed_row number_words letter_of message_of carrier_fits kind_of keep_of connection_of terms_of without ClerkStep.row_taken ClerkCodes.state_of ClerkRecords.record_of ClerkRecords.records ClerkRecords.meant ClerkMeaning.elements_mean ClerkMeaning.meaning ClerkMeaning.named ClerkRecords.place ClerkRecords.applied ClerkDeadlines.started_at ClerkDeadlines.timed LineDeadlines.started_at LineDeadlines.timed deadline_of ClerkPlan.decided ClerkPlan.plan_of ClerkPlan.plan_for ClerkEntry.message_entry Clerk.step Clerk.entered LineStep.row_taken LineCodes.state_of LineRecords.record_of LineRecords.records LineRecords.meant LineMeaning.elements_mean LineMeaning.meaning LineMeaning.named LineRecords.place LineRecords.put_record LineRecords.turn_record LineRecords.removed Lines.line_of Lines.lines Lines.line_at Lines.over_line Lines.put_line Lines.keeps Lines.retains Lines.with_settings Change.mark_place Change.marked Change.status_stored Change.with_report Change.applied Decide.takes_call Decide.record_decision Decide.counted_decision Decide.admitted_decision Decide.request_decision Decide.message_decision Decide.own_decision Decide.offer_at Decide.look_decision Decide.report_decision Decide.decided LinePlan.plan_of LinePlan.plan_for Start.good_line Start.line_taken Start.take_lines Start.started LineEntry.message_entry Line.step Line.entered held_of messages_of has clerkHeard lineHeard next
all = true

pub pairs-shown : RowsShown pairs
unfolding pairs play seen all
pairs-shown true = refl
pairs-shown false = refl

pub answers-shown : RowsShown answers
unfolding answers play seen all
answers-shown true = refl
answers-shown false = refl

pub losses-shown : RowsShown losses
unfolding losses play seen all
losses-shown true = refl
losses-shown false = refl

pub signals-shown : RowsShown signals
unfolding signals play seen all
signals-shown true = refl
signals-shown false = refl

pub kinds-shown : KindsShown
unfolding kinds play kinds_seen all
kinds-shown true = refl
kinds-shown false = refl

pub falls-shown : FallsShown
unfolding falls play marks_seen all
falls-shown true = refl
falls-shown false = refl

pub shown : Shown
shown = record { pairs = pairs-shown; answers = answers-shown; losses = losses-shown; signals = signals-shown; kinds = kinds-shown; falls = falls-shown }

pub table-reached : TableReached
unfolding pairs answers losses signals passes all_run all
table-reached true = each-reached true table refl
table-reached false = each-reached false table refl

-- ---- the premises
-- a connection choice that is not empty
abbrev chosen : Connection → Bool
chosen Empty = false
chosen Ret = true
chosen Rls = true

pub not-empty : (c : Connection) → chosen c ≡ true → c ≡ Empty → ⊥
not-empty c so e = true≢false (sym so ∙ ap chosen e)

-- what is held, where something is
abbrev pub held_or : {A : Type 0} → A → Held A → A
held_or other none = other
held_or other (one r) = r

abbrev pub someone : {A : Type 0} → Held A → Bool
someone none = false
someone (one r) = true

pub held_one : {A : Type 0} (other : A) (h : Held A) → someone h ≡ true → h ≡ one (held_or other h)
held_one other none so = absurd (false≢true so)
held_one other (one r) so = refl

pub reach : (retain : Bool) (es : List Event) → runs (start retain) es ≡ true → Reached Once (play (start retain) es)
reach retain es so = reached usual one_line true retain (bytes-told one_line refl) (run-told (start retain) es stop so)

abbrev settled : World
settled = play (start false) acknowledged

abbrev unsettled : World
unsettled = play (start false) stored

abbrev left : World
left = play (start false) over

abbrev again : World
again = play (start false) used_again

apart-again : (o : ℕ) → keeps o (start false) used_again ≡ true → Reached (Apart o) again
apart-again o so = reached usual one_line true false (bytes-told one_line refl) (keeps-told o (start false) used_again stop so)

abbrev alone : World
alone = play (start false) nameless_alone

pub premises : Premises
unfolding play passes all
premises =
    record {
      acknowledged = record {
        world = settled;
        reached = reach false acknowledged refl;
        identifier = called first;
        c = held_or ClerkRecords.blank (clerk_holds identifiers settled (called first));
        l = held_or LineRecords.blank (line_holds identifiers settled (called first));
        clerk = held_one ClerkRecords.blank (clerk_holds identifiers settled (called first)) refl;
        line = held_one LineRecords.blank (line_holds identifiers settled (called first)) refl;
        so = not-empty Rls refl;
      };
      before = record {
        world = unsettled;
        reached = reach false stored refl;
        identifier = called first;
        c = held_or ClerkRecords.blank (clerk_holds identifiers unsettled (called first));
        l = held_or LineRecords.blank (line_holds identifiers unsettled (called first));
        clerk = held_one ClerkRecords.blank (clerk_holds identifiers unsettled (called first)) refl;
        line = held_one LineRecords.blank (line_holds identifiers unsettled (called first)) refl;
        so = refl;
      };
      over = record {
        world = left;
        reached = reach false over refl;
        identifier = called first;
        dropped = (from 0 (called first), (refl, Memᴰ.head refl));
        run_out = (from 0 (called first), (refl, Memᴰ.tail (Memᴰ.tail (Memᴰ.tail (Memᴰ.head refl)))));
        guarded = (from 0 (called first), (refl, Memᴰ.tail (Memᴰ.head refl)));
        request = tt;
      };
      nameless = record {
        apart = reached usual one_line true false (bytes-told one_line refl) (keeps-told 0 (start false) nameless_alone stop refl);
        c = held_or ClerkRecords.blank (clerk_holds origins alone 0);
        l = held_or LineRecords.blank (line_holds origins alone 0);
        clerk = held_one ClerkRecords.blank (clerk_holds origins alone 0) refl;
        line = held_one LineRecords.blank (line_holds origins alone 0) refl;
        waits = (refl, refl);
      };
      used_again = record {
        first = apart-again 0 refl;
        second = apart-again 1 refl;
        c = held_or ClerkRecords.blank (clerk_holds origins again 1);
        held = held_one ClerkRecords.blank (clerk_holds origins again 1) refl;
        so = not-empty Rls refl;
      };
    }

-- ---- what is no event of a run
-- both ends hold it, or neither does
abbrev pub together : Held ClerkRecord.Record → Held LineRecord.Record → Bool
together none none = true
together none (one l) = false
together (one c) none = false
together (one c) (one l) = true

pub listed-together : (c : Held ClerkRecord.Record) (l : Held LineRecord.Record) → Listed c l → together c l ≡ true
listed-together none none no_record = refl
listed-together none (one l) so = elim so [ ]
listed-together (one c) none so = elim so [ ]
listed-together (one c) (one l) (invoked a b) = refl
listed-together (one c) (one l) (wait_answer a b) = refl
listed-together (one c) (one l) (suspended a b m) = refl
listed-together (one c) (one l) (ringout a b) = refl

pub not_listed : (c : Held ClerkRecord.Record) (l : Held LineRecord.Record) → together c l ≡ false → Listed c l → ⊥
not_listed c l apart so = true≢false (sym (listed-together c l so) ∙ apart)

pub unlisted-told :
    (w : World) (identifier : Option Words) → has 1 identifier w.history ≡ false → messages_of identifiers identifier w.up ≡ [] → messages_of identifiers identifier w.down ≡ [] →
    together (clerk_holds identifiers w identifier) (line_holds identifiers w identifier) ≡ false → Unlisted w identifier
unlisted-told w identifier dropped up down apart =
    record { dropped = undropped w identifier dropped; up = up; down = down; unlisted = not_listed (clerk_holds identifiers w identifier) (line_holds identifiers w identifier) apart }

pub left_out_lem : (retain : Bool) → LeftOut retain
unfolding play passes all
left_out_lem true = record { reached = reach true ringing refl; alerts = unlisted-told _ _ refl refl refl refl; not_matched = unlisted-told _ _ refl refl refl refl }
left_out_lem false = record { reached = reach false ringing refl; alerts = unlisted-told _ _ refl refl refl refl; not_matched = unlisted-told _ _ refl refl refl refl }
