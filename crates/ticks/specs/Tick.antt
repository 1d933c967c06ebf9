-- A tick as a host calls it (document 02, Ask 6): all that it sends has room, or nothing changes. One text for either desk, over what the desks differ in: how many places there are,
-- and what the report is, by hand, of the timer of a record that is due.
use Rattle.desk.specs.declared.letter.Letter.{Letter}
use Rattle.desk.specs.declared.outcome.Stepped.{Stepped}
use Rattle.desk.specs.Ticked.{expired_at, Ticked, noted}
use Rattle.std.specs.Prelude.{ℕ, zero, suc, ◌-◌, List, [], ◌∷◌, Option, Some, None}
use Rattle.told.specs.Face.{Face}
use Rattle.told.specs.Ticking.{Lent, end_of, lent_by, tick_done, tick_face}

-- by the report of the record at a place, if something is due there
abbrev pub by_report : {Desk A : Type 0} → Option (Stepped Desk) → (Stepped Desk → A) → A → A
by_report (Some r) out otherwise = out r
by_report None out otherwise = otherwise

module _ {Desk : Type 0} (reported : ℕ → Desk → ℕ → Option (Stepped Desk)) where
  -- n places are left to look at: the next is place i of the desk before the tick, and at place `at` now, since the records behind one that expired move up
  unfoldable pub ticking : ℕ → ℕ → ℕ → ℕ → Desk → Ticked Desk
  ticking zero i at count d = record { desk = d; expired = [] }
  ticking (suc n) i at count d =
      by_report (reported count d at)
      (λ r. noted (expired_at i r.outcome) (ticking n (suc i) at count r.desk))
      (ticking n (suc i) (suc at) count d)

  -- what the reports send, each by itself on the desk as it is before the tick: so the room is known before the first record goes
  unfoldable pub sendings_from : ℕ → ℕ → ℕ → Desk → List (Option Letter)
  sendings_from zero i count d = []
  sendings_from (suc n) i count d =
      by_report (reported count d i)
      (λ r. r.outcome.sending ∷ sendings_from n (suc i) count d)
      (sendings_from n (suc i) count d)

module _ {Desk : Type 0} (words : Desk → List ℕ) (reported : ℕ → Desk → ℕ → Option (Stepped Desk)) where
  -- every place, from the oldest record on
  unfoldable pub tick_of : ℕ → ℕ → Desk → List ℕ → Face
  tick_of places count d out =
      tick_face (end_of out 0 (sendings_from reported places 0 count d)) (words d) out
      (words (ticking reported places 0 0 count d).desk) (ticking reported places 0 0 count d).expired

  -- a tick under way: some records have expired, and the next is place i of the desk before the tick, with n places left to look at
  unfoldable pub tick_onwards : ℕ → ℕ → ℕ → Desk → Lent → Face
  tick_onwards n i count d l =
      tick_done (words (ticking reported n i (i - l.expired) count d).desk) (lent_by l (ticking reported n i (i - l.expired) count d).expired)
