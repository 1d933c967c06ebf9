-- A tick of the clerk's desk is the one tick of both desks, at the reports of its timers. Place by place, by the timer that runs out there.
use Rattle.desk.specs.declared.letter.Letter.{Letter}
use Rattle.desk.specs.Ticked.{Ticked, expired_at, noted}
use Rattle.std.specs.Prelude.{Option, Some, None, is_some}
use Prim.Native.Nat.{ℕ, zero, suc}
use mathlib.Core.Path.{◌≡◌, refl, sym, ap, ◌∙◌}
use mathlib.Core.List.{List, ◌∷◌}
use lib.ListN.{get_or}
use Rattle.lists.proofs.Choice.{no_true}
use Rattle.desk.specs.declared.outcome.Outcome.{Outcome}
use Rattle.clerk_table.specs.Inputs.{row_of_timer}
use Rattle.clerk_table.specs.Step.{row_taken}
use Rattle.clerk_table.specs.declared.table.Timer.{Timer}
use Rattle.clerk_records.specs.Layout.{places}
use Rattle.clerk_records.specs.Records.{blank, records}
use Rattle.clerk_records.specs.Deadlines.{expiring_at}
use Rattle.desk.specs.Steps.{answered}
use Rattle.clerk.specs.Steps.{desk_of, made, step}
use Rattle.clerk.specs.Ticks.{report, by_timer, ticking, ticked, sendings_from, sendings}
use Rattle.clerk.specs.declared.Desk.{Desk}
use Rattle.clerk.proofs.TickLaws.{due-step}
use Rattle.ticks.specs.Clerk.{stepped, clerk_reported, clerk_ticked}
use Rattle.ticks.specs.Tick as Tick
use Rattle.desk.specs.declared.outcome.Stepped.{Stepped}

-- ---- the report at a place
-- there is one if a timer runs out there
pub is_due_lem : (count : ℕ) (words : List ℕ) (i : ℕ) → is_some (expiring_at count words i) ≡ is_some (clerk_reported count words i)
unfolding clerk_reported
is_due_lem count words i = go (expiring_at count words i)
  where
    go : (e : Option Timer) → is_some e ≡ is_some (by_timer e (λ timer. Some (stepped (step (desk_of words) count (report i timer)))) None)
    go None = refl
    go (Some timer) = refl

module _ (count : ℕ) (words : List ℕ) (i : ℕ) (r : Stepped (List ℕ)) where
  -- what the row of that timer does
  taken : Timer → Stepped (List ℕ)
  taken timer = stepped (made (desk_of words) count (row_taken i (get_or (records words) i blank) (row_of_timer timer)))

  is-taken : clerk_reported count words i ≡ Some r → (timer : Timer) × (r ≡ taken timer)
  unfolding clerk_reported taken
  is-taken = go (expiring_at count words i) refl
    where
      go :
          (e : Option Timer) → expiring_at count words i ≡ e → by_timer e (λ timer. Some (stepped (step (desk_of words) count (report i timer)))) None ≡ Some r →
          (timer : Timer) × (r ≡ taken timer)
      go None e h = absurd (no_true (ap is_some h))
      go (Some timer) e h =
          let same : r ≡ stepped (step (desk_of words) count (report i timer)) = cc in
          (timer, same ∙ ap stepped (due-step (desk_of words) count i timer e))

  pub sends_lem :
      (s : Option Letter) → ((timer : Timer) → s ≡ (row_taken i (get_or (records words) i blank) (row_of_timer timer)).outcome.sending) →
      clerk_reported count words i ≡ Some r → s ≡ r.outcome.sending
  unfolding taken
  sends_lem s sends h =
      let t = is-taken h in
      sends t.0 ∙ ap (λ (q : Stepped (List ℕ)). q.outcome.sending) (sym t.1)

  pub does_lem :
      (after : List ℕ) (o : Outcome) →
      ((timer : Timer) → answered (desk_of after) o ≡ made (desk_of words) count (row_taken i (get_or (records words) i blank) (row_of_timer timer))) →
      clerk_reported count words i ≡ Some r → r ≡ record { desk = after; outcome = o }
  unfolding taken
  does_lem after o does h =
      let t = is-taken h in
      t.1 ∙ ap stepped (sym (does t.0))

-- ---- the whole tick

-- the same with the desk's words for the desk
abbrev in_words : Ticked Desk → Ticked (List ℕ)
in_words t = record { desk = t.desk.words; expired = t.expired }

same-run : (n i at count : ℕ) (d : Desk) → Tick.ticking clerk_reported n i at count d.words ≡ in_words (ticking n i at count d)
unfolding Tick.ticking ticking clerk_reported
same-run zero i at count d = refl
same-run (suc n) i at count d = go (expiring_at count d.words at) refl (λ to q. same-run n (suc i) to count q)
  where
    go :
        (e : Option Timer) → expiring_at count d.words at ≡ e →
        ((to : ℕ) (q : Desk) → Tick.ticking clerk_reported n (suc i) to count q.words ≡ in_words (ticking n (suc i) to count q)) →
        Tick.ticking clerk_reported (suc n) i at count d.words ≡ in_words (ticking (suc n) i at count d)
    go None e others = rw e (others (suc at) d)
    go (Some timer) e others = let after = step d count (report at timer) in rw e (ap (noted (expired_at i after.outcome)) (others at after.desk))

same-sends : (n i count : ℕ) (d : Desk) → Tick.sendings_from clerk_reported n i count d.words ≡ sendings_from n i count d
unfolding Tick.sendings_from sendings_from clerk_reported
same-sends zero i count d = refl
same-sends (suc n) i count d = go (expiring_at count d.words i) refl (same-sends n (suc i) count d)
  where
    go :
        (e : Option Timer) → expiring_at count d.words i ≡ e → Tick.sendings_from clerk_reported n (suc i) count d.words ≡ sendings_from n (suc i) count d →
        Tick.sendings_from clerk_reported (suc n) i count d.words ≡ sendings_from (suc n) i count d
    go None e others = rw e others
    go (Some timer) e others = rw e (ap (λ (rest : List (Option Letter)). (step d count (report i timer)).outcome.sending ∷ rest) others)

pub same_tick : (count : ℕ) (words out : List ℕ) → Tick.tick_of (λ (w : List ℕ). w) clerk_reported places count words out ≡ clerk_ticked words count out
unfolding Tick.tick_of clerk_ticked ticked sendings
same_tick count words out = rw (same-run places 0 0 count (desk_of words), same-sends places 0 count (desk_of words))
