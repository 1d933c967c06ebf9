-- A step that is about another request, and drops none of its messages, leaves a request's records and its messages on both wires: by what a step makes of it.
use mathlib.Core.Path.{◌≡◌, sym, subst}
use Rattle.pair_request.specs.Reading as R
use Rattle.pair.specs.World.{Naming, World, Event, clerk_holds, line_holds, next, Allowed, Reached}
use Rattle.pair.specs.Demand3.{About, Drops, Unaltered, same}
use Rattle.pair.specs.Demand3.{NoOtherAltered, NoOtherMessage}
use Rattle.pair.proofs.Keys.{Tells}
use Rattle.pair.proofs.Sim.{Left, about, loses, Turn, leaves, moves}
use Rattle.pair.proofs.Runs.{turned, Fines, known-world}

module _ {K : Type 0} {n : Naming K} where
  turn-untouched :
      {p : R.Policy} {k : K} {w : World} {e : Event} {after : World} {s : R.Net} → Turn n p k w e after s → (About n w e k → ⊥) →
      (clerk_holds n after k ≡ clerk_holds n w k) × Unaltered e (line_holds n w k) (line_holds n after k)
  turn-untouched (leaves left sim) h = (left.clerk, left.line)
  turn-untouched (moves (about a) r heard sim) h = absurd (h a)
  turn-untouched {e = e} (moves (loses d clerk line) r heard sim) h = (clerk, subst (Unaltered e _) (sym line) same)

  turn-left : {p : R.Policy} {k : K} {w : World} {e : Event} {after : World} {s : R.Net} → Turn n p k w e after s → (About n w e k → ⊥) → (Drops n w e k → ⊥) → Left n k w e after
  turn-left (leaves left sim) h d = left
  turn-left (moves (about a) r heard sim) h d = absurd (h a)
  turn-left (moves (loses x clerk line) r heard sim) h d = absurd (d x)

module _ {K : Type 0} {n : Naming K} (tells : Tells n) {Holds : K → World → Event → Type 0} (fines : Fines n Holds) where
  turn : (k : K) (w : World) → Reached (Holds k) w → (e : Event) → Allowed w e → Holds k w e → (p : R.Policy) × ((s : R.Net) × Turn n p k w e (next w e) s)
  turn k w reach e allowed so =
      let z = known-world tells fines k w reach in
      let x = z.1.1 in
      (z.0, (x.net, (turned tells z.1.0 e allowed).1 k x.net x.reach x.sim (fines.fine z.1.0 x.inv k e so)))

  pub no-other_altered : NoOtherAltered n Holds
  no-other_altered k w reach e allowed so h = turn-untouched (turn k w reach e allowed so).1.1 h

  pub no-other-message : NoOtherMessage n Holds
  no-other-message k w reach e allowed so h d =
      let left = turn-left (turn k w reach e allowed so).1.1 h d in
      (left.up, left.down)
