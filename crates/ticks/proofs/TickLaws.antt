-- A tick, place by place: what its reports send, and what a turn leaves of it. By the definition's own cases.
use Rattle.desk.specs.declared.letter.Letter.{Letter}
use Rattle.desk.specs.declared.outcome.Outcome.{Outcome}
use Rattle.desk.specs.Ticked.{expired_at}
use Rattle.std.specs.Prelude.{Option, Some, None, is_some, Ok, Err}
use Prim.Native.Nat.{ℕ, zero, suc, ◌+◌, ◌-◌, ◌≤◌, ◌<◌}
use mathlib.Core.Path.{◌≡◌, refl, sym, ap, ◌∙◌}
use mathlib.Core.Bool.{true, false}
use mathlib.Core.List.{List, [], ◌∷◌, ◌++◌}
use native.Mathlib.Omega.{arith}
use native.Mathlib.Numerals.{add-one}
use Rattle.lists.proofs.Choice.{no_true}
use Rattle.message.specs.declared.refusal.Refusal.{Refusal}
use Rattle.told.specs.Face.{Face}
use Rattle.told.specs.Ticking.{Lent, end_of, lent_after, lent_by, tick_done}
use Rattle.told.proofs.TickingLaws.{end_of_both}
use Rattle.desk.specs.declared.outcome.Stepped.{Stepped}
use Rattle.ticks.specs.Tick.{by_report, ticking, sendings_from, tick_onwards}

-- ---- whether something is due
pub none-due : {A : Type 0} (x : Option A) → is_some x ≡ false → x ≡ None
none-due None e = refl
none-due (Some a) e = absurd (no_true (sym e))

pub one-due : {A : Type 0} (x : Option A) → is_some x ≡ true → (a : A) × (x ≡ Some a)
one-due None e = absurd (no_true e)
one-due (Some a) e = (a, refl)

-- ---- the room
module _ {Desk : Type 0} (reported : ℕ → Desk → ℕ → Option (Stepped Desk)) where
  -- what the reports send from a place on: that of the place, and then the others
  split : (rest : List (Option Letter)) (e : Option (Stepped Desk)) →
      by_report e (λ r. r.outcome.sending ∷ rest) rest ≡ by_report e (λ r. r.outcome.sending ∷ []) [] ++ rest
  split rest None = refl
  split rest (Some r) = refl

  sendings-next : (n i count : ℕ) (d : Desk) → sendings_from reported (suc n) i count d ≡ sendings_from reported 1 i count d ++ sendings_from reported n (suc i) count d
  unfolding sendings_from
  sendings-next n i count d = split (sendings_from reported n (suc i) count d) (reported count d i)

  -- nothing is due: the others
  sendings-none : (n i count : ℕ) (d : Desk) → reported count d i ≡ None → sendings_from reported (suc n) i count d ≡ sendings_from reported n (suc i) count d
  unfolding sendings_from
  sendings-none n i count d e = rw e

  sends-from :
      (places i count : ℕ) (d : Desk) → i < places →
      sendings_from reported (places - i) i count d ≡ sendings_from reported 1 i count d ++ sendings_from reported (places - (i + 1)) (i + 1) count d
  sends-from places i count d h =
      let k : places - i ≡ suc (places - (i + 1)) = omega arith in
      rw (k, add-one i) (sendings-next (places - suc i) i count d)

  -- a place that has room moves the end on, and one that has none is the answer
  pub room_next :
      (places i count : ℕ) (d : Desk) (out : List ℕ) (end next : ℕ) → i < places → end_of out end (sendings_from reported 1 i count d) ≡ Ok next →
      end_of out end (sendings_from reported (places - i) i count d) ≡ end_of out next (sendings_from reported (places - (i + 1)) (i + 1) count d)
  room_next places i count d out end next h e =
      rw (sends-from places i count d h, end_of_both out end (sendings_from reported 1 i count d) (sendings_from reported (places - (i + 1)) (i + 1) count d), e)

  pub room_ends :
      (places i count : ℕ) (d : Desk) (out : List ℕ) (end : ℕ) (refusal : Refusal) → i < places → end_of out end (sendings_from reported 1 i count d) ≡ Err refusal →
      end_of out end (sendings_from reported (places - i) i count d) ≡ Err refusal
  room_ends places i count d out end refusal h e =
      rw (sends-from places i count d h, end_of_both out end (sendings_from reported 1 i count d) (sendings_from reported (places - (i + 1)) (i + 1) count d), e)

-- ---- where to begin: the places before the first that has something due change nothing of what is left
module _ {A : Type 0} (places : ℕ) (left : ℕ → ℕ → A) (None : ℕ → Type 0) (pass : (n i : ℕ) → None i → left (suc n) i ≡ left n (suc i)) where
  begin-at : (i : ℕ) → i ≤ places → ((j : ℕ) → j < i → None j) → left places 0 ≡ left (places - i) i
  begin-at zero h none =
      let k : places ≡ places - 0 = omega arith in
      ap (λ n. left n 0) k
  begin-at (suc i) h none =
      let k : places - i ≡ suc (places - suc i) = omega (arith, h) in
      begin-at i (omega (arith, h)) (λ j below. none j (omega (arith, below))) ∙ rw k (pass (places - suc i) i (none i (omega arith)))

-- ---- the run
module _ {Desk : Type 0} (words : Desk → List ℕ) (reported : ℕ → Desk → ℕ → Option (Stepped Desk)) where
  -- nothing is due: the next record stands behind
  pub turn_none :
      (n i count : ℕ) (d : Desk) (l : Lent) → l.expired ≤ i → reported count d (i - l.expired) ≡ None →
      tick_onwards words reported n (suc i) count d l ≡ tick_onwards words reported (suc n) i count d l
  unfolding tick_onwards ticking
  turn_none n i count d l h e =
      let k : suc i - l.expired ≡ suc (i - l.expired) = omega arith in
      rw (e, k)

  -- a record expires: the next has moved up to its place
  pub turn_one :
      (n i count : ℕ) (d after : Desk) (l m : Lent) (o : Outcome) → reported count d (i - l.expired) ≡ Some (record { desk = after; outcome = o }) →
      m ≡ lent_after l (expired_at i o) → tick_onwards words reported n (suc i) count after m ≡ tick_onwards words reported (suc n) i count d l
  unfolding tick_onwards ticking lent_by
  turn_one n i count d after l m o e told =
      let k : suc i - suc l.expired ≡ i - l.expired = omega arith in
      rw (told, e, k)

  -- it comes to the same after a turn, and at last nothing is left
  pub left_next :
      (places i count : ℕ) (d after : Desk) (l m : Lent) (f : Face) → i < places →
      ((n : ℕ) → tick_onwards words reported n (suc i) count after m ≡ tick_onwards words reported (suc n) i count d l) →
      tick_onwards words reported (places - i) i count d l ≡ f → tick_onwards words reported (places - (i + 1)) (i + 1) count after m ≡ f
  left_next places i count d after l m f h turned e =
      let k : places - i ≡ suc (places - (i + 1)) = omega arith in
      rw (add-one i) (turned (places - suc i)) ∙ (rw (k, add-one i) at e)

  pub left_ends :
      (places i count : ℕ) (d : Desk) (l : Lent) (f : Face) → places ≤ i → tick_onwards words reported (places - i) i count d l ≡ f → tick_done (words d) l ≡ f
  unfolding tick_onwards ticking lent_by
  left_ends places i count d l f none e =
      let k : places - i ≡ 0 = omega arith in
      rw k at e

  -- a tick may begin at a place before which nothing is due
  module _ (d : Desk) (places count first : ℕ) (within : first ≤ places) (none : (j : ℕ) → j < first → reported count d j ≡ None) where
    pub sendings_first : sendings_from reported places 0 count d ≡ sendings_from reported (places - first) first count d
    sendings_first =
        begin-at places (λ n i. sendings_from reported n i count d) (λ i. reported count d i ≡ None) (λ n i e. sendings-none reported n i count d e)
        first within none

    pub turns_first : (l : Lent) → l.expired ≡ 0 → tick_onwards words reported places 0 count d l ≡ tick_onwards words reported (places - first) first count d l
    turns_first l z =
        begin-at places (λ n i. tick_onwards words reported n i count d l) (λ i. reported count d i ≡ None)
        (λ n i e. let k : i - l.expired ≡ i = omega (arith, z) in sym (turn_none n i count d l (omega (arith, z)) (rw k e)))
        first within none
