-- One byte more of the run stands at the front.
use Prim.Native.Nat.{◌<◌}
use lib.ListN.{length, length-set}
use native.Mathlib.Omega.{arith}
use Rattle.lists.proofs.Parts.{front-step}
use Rattle.writer.proofs.put_bytes.Goals as goal

pub loop-i-preserved : goal.loop-i-preserved
loop-i-preserved c =
    let a = c.args in
    let l = c.loop-i in
    let hz : l.i < length a.d.now = omega arith in
    let ht : l.i < length a.bytes.now = omega arith in
    (omega arith, (simp length-set l.invariant.1.0, rw l.invariant.1.1 (front-step a.d.now a.bytes.now l.i hz ht)))
