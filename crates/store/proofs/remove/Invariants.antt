-- Before each turn the rows from place i to k are those that stood one place behind, and the words are as many as at first.
use Rattle.std.proofs.Common.{◌≡◌, ◌+◌, ◌-◌, ◌*◌, length, drop}
use Rattle.std.proofs.Math.Seq.{paste}
use Rattle.store.proofs.remove.Given as goal

abbrev pub invariant-loop-k : goal.invariant-loop-k
invariant-loop-k g l =
    (length l.ws ≡ length l.initial.ws)
    × (l.ws ≡ paste l.initial.ws (l.i * g.row.WIDTH) (drop (l.i * g.row.WIDTH + g.row.WIDTH) l.initial.ws) ((l.k - l.i) * g.row.WIDTH))
