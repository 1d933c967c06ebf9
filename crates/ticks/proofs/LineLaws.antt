-- A tick of the line desk is the one tick of both desks, at the reports of its guards. Place by place, by whether a guard is due there.
use Rattle.desk.specs.declared.letter.Letter.{Letter}
use Rattle.desk.specs.Ticked.{Ticked, expired_at, noted}
use Rattle.std.specs.Prelude.{Option, Some, None, is_some}
use Prim.Native.Nat.{ℕ, zero, suc}
use mathlib.Core.Path.{◌≡◌, refl, sym, ap, ◌∙◌}
use mathlib.Core.Bool.{Bool, true, false}
use mathlib.Core.List.{List, ◌∷◌}
use lib.ListN.{get_or}
use Rattle.lists.specs.Choice.{pick}
use Rattle.lists.proofs.Choice.{no_true}
use Rattle.desk.specs.declared.outcome.Outcome.{Outcome}
use Rattle.line_table.specs.Step.{row_taken}
use Rattle.line_table.specs.declared.table.Row.TheVariants.{GuardRunsOut}
use Rattle.line_records.specs.Layout.{places}
use Rattle.line_records.specs.Records.{blank, records}
use Rattle.line_records.specs.Deadlines.{expiring_at}
use Rattle.desk.specs.Steps.{answered}
use Rattle.line.specs.Steps.{desk_of, made, step}
use Rattle.line.specs.Ticks.{report, ticking, ticked, sendings_from, sendings}
use Rattle.line.specs.declared.Desk.{Desk}
use Rattle.line.proofs.TickLaws.{due-step}
use Rattle.ticks.specs.Line.{stepped, line_reported, line_ticked}
use Rattle.ticks.specs.Tick as Tick
use Rattle.desk.specs.declared.outcome.Stepped.{Stepped}

-- ---- the report at a place
-- there is one if the guard is due there
pub is_due_lem : (count : ℕ) (words : List ℕ) (i : ℕ) → expiring_at count words i ≡ is_some (line_reported count words i)
unfolding line_reported
is_due_lem count words i = go (expiring_at count words i)
  where
    go : (b : Bool) → b ≡ is_some (pick b (Some (stepped (step (desk_of words) count (report i)))) None)
    go false = refl
    go true = refl

module _ (count : ℕ) (words : List ℕ) (i : ℕ) (r : Stepped (List ℕ)) where
  -- what the guard's row does
  taken : Stepped (List ℕ)
  taken = stepped (made (desk_of words) count (row_taken i (get_or (records words) i blank) GuardRunsOut))

  is-taken : line_reported count words i ≡ Some r → r ≡ taken
  unfolding line_reported taken
  is-taken = go (expiring_at count words i) refl
    where
      go : (b : Bool) → expiring_at count words i ≡ b → pick b (Some (stepped (step (desk_of words) count (report i)))) None ≡ Some r → r ≡ taken
      go false e h = absurd (no_true (ap is_some h))
      go true e h =
          let same : r ≡ stepped (step (desk_of words) count (report i)) = cc in
          same ∙ ap stepped (due-step (desk_of words) count i e)

  pub sends_lem :
      (s : Option Letter) → s ≡ (row_taken i (get_or (records words) i blank) GuardRunsOut).outcome.sending → line_reported count words i ≡ Some r → s ≡ r.outcome.sending
  unfolding taken
  sends_lem s sends h = sends ∙ ap (λ (q : Stepped (List ℕ)). q.outcome.sending) (sym (is-taken h))

  pub does_lem :
      (after : List ℕ) (o : Outcome) → answered (desk_of after) o ≡ made (desk_of words) count (row_taken i (get_or (records words) i blank) GuardRunsOut) →
      line_reported count words i ≡ Some r → r ≡ record { desk = after; outcome = o }
  unfolding taken
  does_lem after o does h = is-taken h ∙ ap stepped (sym does)

-- ---- the whole tick
-- the same with the desk's words for the desk
abbrev in_words : Ticked Desk → Ticked (List ℕ)
in_words t = record { desk = t.desk.words; expired = t.expired }

same-run : (n i at count : ℕ) (d : Desk) → Tick.ticking line_reported n i at count d.words ≡ in_words (ticking n i at count d)
unfolding Tick.ticking ticking line_reported
same-run zero i at count d = refl
same-run (suc n) i at count d = go (expiring_at count d.words at) refl (λ to q. same-run n (suc i) to count q)
  where
    go :
        (b : Bool) → expiring_at count d.words at ≡ b →
        ((to : ℕ) (q : Desk) → Tick.ticking line_reported n (suc i) to count q.words ≡ in_words (ticking n (suc i) to count q)) →
        Tick.ticking line_reported (suc n) i at count d.words ≡ in_words (ticking (suc n) i at count d)
    go false e others = rw e (others (suc at) d)
    go true e others = let after = step d count (report at) in rw e (ap (noted (expired_at i after.outcome)) (others at after.desk))

same-sends : (n i count : ℕ) (d : Desk) → Tick.sendings_from line_reported n i count d.words ≡ sendings_from n i count d
unfolding Tick.sendings_from sendings_from line_reported
same-sends zero i count d = refl
same-sends (suc n) i count d = go (expiring_at count d.words i) refl (same-sends n (suc i) count d)
  where
    go :
        (b : Bool) → expiring_at count d.words i ≡ b → Tick.sendings_from line_reported n (suc i) count d.words ≡ sendings_from n (suc i) count d →
        Tick.sendings_from line_reported (suc n) i count d.words ≡ sendings_from (suc n) i count d
    go false e others = rw e others
    go true e others = rw e (ap (λ (rest : List (Option Letter)). (step d count (report i)).outcome.sending ∷ rest) others)

pub same_tick : (count : ℕ) (words out : List ℕ) → Tick.tick_of (λ (w : List ℕ). w) line_reported places count words out ≡ line_ticked words count out
unfolding Tick.tick_of line_ticked ticked sendings
same_tick count words out = rw (same-run places 0 0 count (desk_of words), same-sends places 0 count (desk_of words))
