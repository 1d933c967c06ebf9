-- A drop takes a message from the request that it is of, and leaves its records and every other request. Another count leaves all of it.
use Prim.Native.Nat.{ℕ, zero, suc}
use mathlib.Core.Path.{◌≡◌, refl, sym, ◌∙◌, ap, subst}
use mathlib.Core.Bool.{Bool, true, false}
use mathlib.Core.List.{List, [], ◌∷◌, ◌++◌, map}
use native.Mathlib.Omega.{arith}
use Rattle.message.specs.declared.Message.{Message}
use Rattle.pair_request.specs.Reading as R
use Rattle.pair.specs.World.{Of, Naming, Note, World, drops_up, drops_down, counts, messages_of, lost_at, lossy, next}
use Rattle.pair.specs.Demand3.{from_up, from-down, same}
use Rattle.pair.proofs.Keys.{Tells}
use Rattle.pair.proofs.Ends.{message_read}
use Rattle.pair.proofs.Wires.{AllClear, Worded, worded-more, worded-without, without, LeftOut, nothing-lost, other-lost, one-lost, left_out_lem}
use Rattle.pair.proofs.Notes.{Notes, unnoted, unnoted-other, noted-drop}
use Rattle.pair.proofs.Sim.{Asked, asked-still, Good, Sim, loses, leaves, moves, Turn, Turned, Grows, grows_not, grows_by}

lost_grows : (i : ℕ) (xs : List (Of Message)) (h : List Note) → Grows h (lost_at i xs ++ h)
lost_grows zero [] h = grows_not h
lost_grows (suc i) [] h = grows_not h
lost_grows zero (x ∷ xs) h = grows_by _ h (λ l e. let z : ◌≡◌ {A = ℕ} 0 1 = cc in omega (arith, z))
lost_grows (suc i) (x ∷ xs) h = lost_grows i xs h

module _ {K : Type 0} {n : Naming K} (tells : Tells n) {p : R.Policy} {w : World} (g : Good p w) where
  lossy-good :
      (up down : List (Of Message)) (notes : List Note) (count : ℕ) → Worded (Asked w.history) up → Worded (Asked w.history) down → Grows w.history (notes ++ w.history) →
      Good p (lossy w up down notes count)
  lossy-good up down notes count above below grows =
      record {
        clerk = g.clerk;
        line = g.line;
        policy = g.policy;
        clerk_full = g.clerk_full;
        line_full = g.line_full;
        clerk_labels = λ i u. asked-still grows _ (g.clerk_labels i u);
        line_labels = λ i u. asked-still grows _ (g.line_labels i u);
        up = worded-more (asked-still grows) above;
        down = worded-more (asked-still grows) below;
        taken = grows.fits g.taken;
      }

  -- the request's net, by what is left of its wires
  lossy-sim :
      {k : K} {s : R.Net} → (sim : Sim n k w s) → (up down : List (Of Message)) (notes : List Note) (count : ℕ) {u d : List R.Msg} {x a : Bool} →
      messages_of n k up ≡ map (message_read sim.name) u → AllClear sim.name u → messages_of n k down ≡ map (message_read sim.name) d → AllClear sim.name d →
      Notes n k (notes ++ w.history) w.history false false false x →
      Sim n k (lossy w up down notes count)
      (record {
        clerk = s.clerk;
        up = u;
        line = s.line;
        down = d;
        used = s.used;
        accepted = a;
        timed_out = s.timed_out;
        guarded = s.guarded;
        dropped = R.or x s.dropped;
      })
  lossy-sim sim up down notes count above above_clear below below_clear noted =
      record {
        name = sim.name;
        clerk_place = sim.clerk_place;
        clerk_sits = sim.clerk_sits;
        clerk = sim.clerk;
        line_place = sim.line_place;
        line_sits = sim.line_sits;
        active = sim.active;
        line = sim.line;
        up = above;
        down = below;
        up_clear = above_clear;
        down_clear = below_clear;
        kept = sim.kept;
        used = noted.taken_up _ sim.used;
        timed_out = noted.run_out _ sim.timed_out;
        guarded = noted.guarded _ sim.guarded;
        dropped = noted.dropped _ sim.dropped;
      }

  up_turn : (i : ℕ) (k : K) (s : R.Net) → Sim n k w s → LeftOut tells k i w.up → Turn n p k w (drops_up i) (next w (drops_up i)) s
  unfolding next R.next
  up_turn i k s sim (nothing-lost e none) =
      leaves (record { clerk = refl; line = same; up = ap (messages_of n k) e; down = refl })
      (lossy-sim sim (without i w.up) w.down (lost_at i w.up) w.count (ap (messages_of n k) e ∙ sim.up) sim.up_clear sim.down sim.down_clear
      (subst (λ (h : List Note). Notes n k (h ++ w.history) w.history false false false false) (sym none) (unnoted n k w.history)))
  up_turn i k s sim (other-lost l some d e) =
      leaves (record { clerk = refl; line = same; up = e; down = refl })
      (lossy-sim sim (without i w.up) w.down (lost_at i w.up) w.count (e ∙ sim.up) sim.up_clear sim.down sim.down_clear
      (subst (λ (h : List Note). Notes n k (h ++ w.history) w.history false false false false) (sym some) (unnoted-other n k (Note.dropped l) w.history d)))
  up_turn i k s sim (one-lost l some key head lost) =
      let m = lost sim.name s.up sim.up_clear sim.up in
      moves (loses (from_up head) refl refl) (R.loses_up m.0) tt
      (lossy-sim sim (without i w.up) w.down (lost_at i w.up) w.count m.1.0 m.1.1 sim.down sim.down_clear
      (subst (λ (h : List Note). Notes n k (h ++ w.history) w.history false false false true) (sym some) (noted-drop n k l w.history key)))

  down_turn : (i : ℕ) (k : K) (s : R.Net) → Sim n k w s → LeftOut tells k i w.down → Turn n p k w (drops_down i) (next w (drops_down i)) s
  unfolding next R.next
  down_turn i k s sim (nothing-lost e none) =
      leaves (record { clerk = refl; line = same; up = refl; down = ap (messages_of n k) e })
      (lossy-sim sim w.up (without i w.down) (lost_at i w.down) w.count sim.up sim.up_clear (ap (messages_of n k) e ∙ sim.down) sim.down_clear
      (subst (λ (h : List Note). Notes n k (h ++ w.history) w.history false false false false) (sym none) (unnoted n k w.history)))
  down_turn i k s sim (other-lost l some d e) =
      leaves (record { clerk = refl; line = same; up = refl; down = e })
      (lossy-sim sim w.up (without i w.down) (lost_at i w.down) w.count sim.up sim.up_clear (e ∙ sim.down) sim.down_clear
      (subst (λ (h : List Note). Notes n k (h ++ w.history) w.history false false false false) (sym some) (unnoted-other n k (Note.dropped l) w.history d)))
  down_turn i k s sim (one-lost l some key head lost) =
      let m = lost sim.name s.down sim.down_clear sim.down in
      moves (loses (from-down head) refl refl) (R.loses_down m.0) tt
      (lossy-sim sim w.up (without i w.down) (lost_at i w.down) w.count sim.up sim.up_clear m.1.0 m.1.1
      (subst (λ (h : List Note). Notes n k (h ++ w.history) w.history false false false true) (sym some) (noted-drop n k l w.history key)))

  pub drop-up : (i : ℕ) → Turned n p w (drops_up i) (next w (drops_up i))
  unfolding next
  drop-up i =
      (lossy-good (without i w.up) w.down (lost_at i w.up) w.count (worded-without i g.up) g.down (lost_grows i w.up w.history), λ k s r sim fine. up_turn i k s sim (left_out_lem tells k i w.up))

  pub drop-down : (i : ℕ) → Turned n p w (drops_down i) (next w (drops_down i))
  unfolding next
  drop-down i =
      (lossy-good w.up (without i w.down) (lost_at i w.down) w.count g.up (worded-without i g.down) (lost_grows i w.down w.history), λ k s r sim fine. down_turn i k s sim (left_out_lem tells k i w.down))

  -- ---- another count: nothing that a net is read from has changed
  pub counts-on : (count : ℕ) → Turned n p w (counts count) (next w (counts count))
  unfolding next
  counts-on count = (
    lossy-good w.up w.down [] count g.up g.down (grows_not w.history),
    λ k s r sim fine.
        leaves (record { clerk = refl; line = same; up = refl; down = refl })
        (lossy-sim sim w.up w.down [] count sim.up sim.up_clear sim.down sim.down_clear (unnoted n k w.history)),
  )
