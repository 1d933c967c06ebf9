-- A tick is the run of its reports. Each of its messages is one that a step of the run would put on a wire, so it is in range and has at most 54 bytes: only room can be missing.
use Rattle.desk.specs.declared.letter.Letter.{Letter}
use Rattle.std.specs.Prelude.{Option, Some, None, Result, Ok, Err}
use Prim.Native.Nat.{ℕ, zero, suc, ◌+◌, ◌*◌, ◌≤◌, ◌<◌}
use mathlib.Core.Path.{◌≡◌, refl, sym, ◌∙◌, ap}
use mathlib.Core.Bool.{Bool, true, false}
use mathlib.Core.Logic.{inl, inr}
use mathlib.Core.List.{List, [], ◌∷◌, ◌++◌, map}
use lib.ListN.{length}
use lib.Dec.{leb}
use native.Mathlib.Omega.{arith}
use borrow.Author.Tests.{leb-false}
use Rattle.lists.specs.Choice.{pick}
use Rattle.message.specs.Format.{writable, message_bytes}
use Rattle.message.specs.declared.Message.{Message}
use Rattle.desk.specs.Letter.{message_of}
use Rattle.desk.specs.Ticked.{Expiry}
use Rattle.writer.specs.Write.{bytes_written, message_written}
use Rattle.message.specs.declared.refusal.Refusal.{Refusal}
use Rattle.message.specs.declared.refusal.Refusal.TheVariants.{NoRoom}
use Rattle.told.specs.Told.{sent_written}
use Rattle.told.specs.Ticking.{onwards, end_of, tick_face}
use Rattle.clerk_table.specs.declared.table.Timer.{Timer}
use Rattle.clerk_records.specs.Layout as ClerkLayout
use Rattle.clerk_records.specs.Deadlines as ClerkDeadlines
use Rattle.clerk.specs.Steps as ClerkSteps
use Rattle.clerk.specs.Ticks as Clerk
use Rattle.clerk.specs.declared.Desk.{Desk as ClerkDesk}
use Rattle.line_records.specs.Layout as LineLayout
use Rattle.line_records.specs.Deadlines as LineDeadlines
use Rattle.line.specs.Steps as LineSteps
use Rattle.line.specs.Ticks as Line
use Rattle.line.specs.declared.Desk.{Desk as LineDesk}
use Rattle.clerk_sound.proofs.Ticking.{tick-sends as clerk-tick-sends}
use Rattle.line_sound.proofs.Ticking.{tick-sends as line-tick-sends}
use Rattle.ticks.specs.Clerk.{clerk_ticked}
use Rattle.ticks.specs.Line.{line_ticked}
use Rattle.pair.specs.World.{World, clerk_does, line_does, new_label, clerk_notes, line_notes, sent_by, next, Allowed, Reached, Any}
use Rattle.pair.specs.Ticks as Run
use Rattle.pair.proofs.Ticks.{tick-is-reports}
use Rattle.pair.proofs.Grounds.{clerk-full, line-full}
use Rattle.pair.proofs.Runs.{good-world}
use Rattle.exported.specs.Calls.{End, carried, clerk_end, line_end, sendings_of, IsTick, ran, unroomy}
use Rattle.exported.specs.Claims.{AsBytes, TickIsRun}
use Rattle.exported.proofs.Sent.{sent-as-bytes}
use Rattle.exported.proofs.Steps.{clerk-after, line_after_lem}

-- ---- what is sent is in range, and no longer than a message can be
abbrev Sent : Option Letter → Type 0
Sent None = Unit
Sent (Some l) = AsBytes (message_of l)

data AllSent : List (Option Letter) → Type 0 where
  none : AllSent []
  more : {s : Option Letter} {ss : List (Option Letter)} → Sent s → AllSent ss → AllSent (s ∷ ss)

-- refused: with 12, for want of so much room
abbrev Unroomy : List ℕ → ℕ → Refusal → Type 0
Unroomy out enough refusal = (refusal ≡ NoRoom) × (length out < enough)

-- of bytes in range only the room is asked
room-refused :
    (out bytes : List ℕ) (place : ℕ) (refusal : Refusal) → length bytes ≤ 54 → bytes_written true out place bytes ≡ Err refusal → Unroomy out (place + 54) refusal
room-refused out bytes place refusal most e = by (leb (place + length bytes) (length out)) refl e
  where
    by :
        (roomy : Bool) → leb (place + length bytes) (length out) ≡ roomy → pick roomy (Ok (length bytes)) (Err NoRoom) ≡ Err refusal →
        Unroomy out (place + 54) refusal
    by true t told = absurd (let z : ◌≡◌ {A = Result ℕ Refusal} (Ok (length bytes)) (Err refusal) = told in cc)
    by false f told = let same : refusal ≡ NoRoom = cc in (same, omega (arith, leb-false (place + length bytes) (length out) f, most))

room-wrote : (out bytes : List ℕ) (place n : ℕ) → length bytes ≤ 54 → bytes_written true out place bytes ≡ Ok n → n ≤ 54
room-wrote out bytes place n most e = by (leb (place + length bytes) (length out)) e
  where
    by : (roomy : Bool) → pick roomy (Ok (length bytes)) (Err NoRoom) ≡ Ok n → n ≤ 54
    by true told = let same : n ≡ length bytes = cc in omega (arith, same, most)
    by false told = absurd (let z : ◌≡◌ {A = Result ℕ Refusal} (Err NoRoom) (Ok n) = told in cc)

-- a sending in range
ranged-written : (m : Message) (out : List ℕ) (place : ℕ) → writable m ≡ true → message_written out place m ≡ bytes_written true out place (message_bytes m)
unfolding message_written
ranged-written m out place ranged = ap (λ (b : Bool). bytes_written b out place (message_bytes m)) ranged

one-refused : (s : Option Letter) (out : List ℕ) (place : ℕ) (refusal : Refusal) → Sent s → sent_written out place s ≡ Err refusal → Unroomy out (place + 54) refusal
unfolding sent_written
one-refused None out place refusal sent e = absurd (let z : ◌≡◌ {A = Result ℕ Refusal} (Ok 0) (Err refusal) = e in cc)
one-refused (Some l) out place refusal sent e =
    room-refused out (message_bytes (message_of l)) place refusal sent.most (sym (ranged-written (message_of l) out place sent.ranged) ∙ e)

one-wrote : (s : Option Letter) (out : List ℕ) (place n : ℕ) → Sent s → sent_written out place s ≡ Ok n → n ≤ 54
unfolding sent_written
one-wrote None out place n sent e = let same : n ≡ 0 = cc in omega (arith, same)
one-wrote (Some l) out place n sent e =
    room-wrote out (message_bytes (message_of l)) place n sent.most (sym (ranged-written (message_of l) out place sent.ranged) ∙ e)

-- one behind the other
all-refused :
    (ss : List (Option Letter)) (out : List ℕ) (place : ℕ) (refusal : Refusal) → AllSent ss → end_of out place ss ≡ Err refusal → Unroomy out (place + 54 * length ss) refusal
unfolding end_of
all-refused [] out place refusal none e = absurd (let z : ◌≡◌ {A = Result ℕ Refusal} (Ok place) (Err refusal) = e in cc)
all-refused (s ∷ ss) out place refusal (more sent rest) e =
    by (sent_written out place s) refl e (λ n x. all-refused ss out (place + n) refusal rest x)
  where
    by :
        (x : Result ℕ Refusal) → sent_written out place s ≡ x → onwards x (λ n. end_of out (place + n) ss) ≡ Err refusal →
        ((n : ℕ) → end_of out (place + n) ss ≡ Err refusal → Unroomy out (place + n + 54 * length ss) refusal) →
        Unroomy out (place + 54 * length (s ∷ ss)) refusal
    by (Ok n) x told on = let behind = on n told in (behind.0, omega (arith, behind.1, one-wrote s out place n sent x))
    by (Err k) x told on =
        let same : k ≡ refusal = cc in
        let first = one-refused s out place k sent x in
        (sym same ∙ first.0, omega (arith, first.1))

-- ---- a tick whose messages are such, at most so many: done, or refused for want of room
tick-face :
    (before after : End) (places : ℕ) (out : List ℕ) (ss : List (Option Letter)) (expired : List Expiry) → sendings_of expired ≡ ss → AllSent ss → length ss ≤ places →
    after.wire ≡ before.wire ++ Run.sent_of (map (λ e. e.outcome) expired) →
    IsTick before after (54 * places) out (tick_face (end_of out 0 ss) before.words out after.words expired)
tick-face before after places out ss expired same sent few wire = by (end_of out 0 ss) refl
  where
    by : (x : Result ℕ Refusal) → end_of out 0 ss ≡ x → IsTick before after (54 * places) out (tick_face x before.words out after.words expired)
    by (Ok n) x = ran expired n wire (ap (end_of out 0) same ∙ x)
    by (Err refusal) x =
        let no = all-refused ss out 0 refusal sent x in
        rw no.0 (unroomy expired wire (ap (end_of out 0) same ∙ x ∙ ap Err no.0) (omega (arith, no.1, few)))

-- ---- the reports at an end
module _ (w : World) (reach : Reached Any w) where
  clerk-allowed : (at : ℕ) (timer : Timer) → Allowed w (clerk_does (Clerk.report at timer))
  clerk-allowed at timer =
      record {
        asked = λ names q is. let z : ◌≡◌ {A = ℕ} 0 1 = cc in absurd (omega (arith, z));
        toClerk = λ l busy place is. let z : ◌≡◌ {A = ℕ} 0 1 = cc in absurd (omega (arith, z));
        toLine = λ l place is. let z : ◌≡◌ {A = ℕ} 0 1 = cc in absurd (omega (arith, z));
      }

  line-allowed : (at : ℕ) → Allowed w (line_does (Line.report at))
  line-allowed at =
      record {
        asked = λ names q is. let z : ◌≡◌ {A = ℕ} 0 1 = cc in absurd (omega (arith, z));
        toClerk = λ l busy place is. let z : ◌≡◌ {A = ℕ} 0 1 = cc in absurd (omega (arith, z));
        toLine = λ l place is. let z : ◌≡◌ {A = ℕ} 0 1 = cc in absurd (omega (arith, z));
      }

  -- what a report sends, its step puts on the wire
  clerk-sent : (at : ℕ) (timer : Timer) → Sent (ClerkSteps.step w.clerk w.count (Clerk.report at timer)).outcome.sending
  unfolding ClerkSteps.entered next
  clerk-sent at timer =
      by (ClerkSteps.step w.clerk w.count (Clerk.report at timer)).outcome.sending refl
      (ap (λ (x : End). x.wire)
      (clerk-after w [] w.down (new_label w None) (Ok (Clerk.report at timer)) (clerk_notes (Clerk.report at timer))))
    where
      by :
          (s : Option Letter) → (ClerkSteps.step w.clerk w.count (Clerk.report at timer)).outcome.sending ≡ s →
          carried w.up ++ sent_by (ClerkSteps.step w.clerk w.count (Clerk.report at timer)).outcome.sending
          ≡ (clerk_end (next w (clerk_does (Clerk.report at timer)))).wire →
          Sent s
      by None e wire = tt
      by (Some l) e wire =
          sent-as-bytes w reach (clerk_does (Clerk.report at timer)) (clerk-allowed at timer) (message_of l)
          (inl (sym wire ∙ ap (λ (s : Option Letter). carried w.up ++ sent_by s) e))

  line-sent : (at : ℕ) → Sent (LineSteps.step w.line w.count (Line.report at)).outcome.sending
  unfolding LineSteps.entered next
  line-sent at =
      by (LineSteps.step w.line w.count (Line.report at)).outcome.sending refl
      (ap (λ (x : End). x.wire) (line_after_lem w [] w.up (new_label w None) (Ok (Line.report at)) (line_notes (Line.report at))))
    where
      by :
          (s : Option Letter) → (LineSteps.step w.line w.count (Line.report at)).outcome.sending ≡ s →
          carried w.down ++ sent_by (LineSteps.step w.line w.count (Line.report at)).outcome.sending
          ≡ (line_end (next w (line_does (Line.report at)))).wire →
          Sent s
      by None e wire = tt
      by (Some l) e wire =
          sent-as-bytes w reach (line_does (Line.report at)) (line-allowed at) (message_of l)
          (inr (sym wire ∙ ap (λ (s : Option Letter). carried w.down ++ sent_by s) e))

  -- place by place: at most one message of each
  abbrev Few : ℕ → List (Option Letter) → Type 0
  Few n ss = AllSent ss × (length ss ≤ n)

  one_more : (n : ℕ) (s : Option Letter) (ss : List (Option Letter)) → Sent s → Few n ss → Few (suc n) (s ∷ ss)
  one_more n s ss sent few = (more sent few.0, omega (arith, few.1))

  no_more : (n : ℕ) (ss : List (Option Letter)) → Few n ss → Few (suc n) ss
  no_more n ss few = (few.0, omega (arith, few.1))

  clerk-few : (n i : ℕ) → Few n (Clerk.sendings_from n i w.count w.clerk)
  unfolding Clerk.sendings_from
  clerk-few zero i = (none, omega arith)
  clerk-few (suc n) i = by (ClerkDeadlines.expiring_at w.count w.clerk.words i) (clerk-few n (suc i))
    where
      by :
          (x : Option Timer) → Few n (Clerk.sendings_from n (suc i) w.count w.clerk) →
          Few (suc n)
          (Clerk.by_timer x (λ timer. (ClerkSteps.step w.clerk w.count (Clerk.report i timer)).outcome.sending ∷ Clerk.sendings_from n (suc i) w.count w.clerk)
          (Clerk.sendings_from n (suc i) w.count w.clerk))
      by (Some timer) rest = one_more n _ _ (clerk-sent i timer) rest
      by None rest = no_more n _ rest

  line-few : (n i : ℕ) → Few n (Line.sendings_from n i w.count w.line)
  unfolding Line.sendings_from
  line-few zero i = (none, omega arith)
  line-few (suc n) i = by (LineDeadlines.expiring_at w.count w.line.words i) (line-few n (suc i))
    where
      by :
          (x : Bool) → Few n (Line.sendings_from n (suc i) w.count w.line) →
          Few (suc n)
          (pick x ((LineSteps.step w.line w.count (Line.report i)).outcome.sending ∷ Line.sendings_from n (suc i) w.count w.line)
          (Line.sendings_from n (suc i) w.count w.line))
      by true rest = one_more n _ _ (line-sent i) rest
      by false rest = no_more n _ rest

pub tick-is-run : TickIsRun
unfolding clerk_ticked line_ticked Clerk.sendings Line.sendings
tick-is-run w reach out =
    let reports = tick-is-reports w in
    let c = clerk-few w reach ClerkLayout.places 0 in
    let l = line-few w reach LineLayout.places 0 in
    let g = (good-world w reach).1 in (
      rw (sym (ap (λ (d : ClerkDesk). d.words) reports.0.desk))
          (tick-face (clerk_end w) (clerk_end (Run.clerk_ticked w)) ClerkLayout.places out _ (Clerk.ticked w.clerk w.count).expired (clerk-tick-sends w.clerk w.count (clerk-full g.clerk)) c.0 c.1 reports.0.sent),
      rw (sym (ap (λ (d : LineDesk). d.words) reports.1.desk))
          (tick-face (line_end w) (line_end (Run.line_ticked w)) LineLayout.places out _ (Line.ticked w.line w.count).expired (line-tick-sends w.line w.count (line-full g.line)) l.0 l.1 reports.1.sent),
    )
