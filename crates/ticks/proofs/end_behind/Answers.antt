-- Any message has room aside, so the answer there tells its size or that it can't be written.
use Rattle.std.specs.Prelude.{None, Ok, Err}
use Prim.Native.Nat.{ℕ, ◌+◌}
use mathlib.Core.Path.{◌≡◌, refl, sym, ◌∙◌, ap}
use mathlib.Core.Bool.{Bool, true, false}
use mathlib.Core.List.{List, [], ◌∷◌}
use lib.ListN.{length}
use lib.Dec.{leb}
use native.Mathlib.Omega.{arith}
use Rattle.std.proofs.Common.{rules}
use Rattle.lists.specs.Choice.{pick}
use Rattle.message.specs.declared.refusal.Refusal.TheVariants.{NoRoom}
use Rattle.told.specs.Told.{sent_written}
use Rattle.told.specs.Ticking.{onwards, end_of}
use Rattle.told.proofs.TickingLaws.{sent-refused, sent-wrote}
use Rattle.ticks.proofs.end_behind.Goals as goal

stays : (out : List ℕ) (end : ℕ) → Ok end ≡ end_of out end (None ∷ [])
unfolding end_of sent_written
stays out end = ap Ok (omega arith)

moved : (room : Bool) (out : List ℕ) (end n : ℕ) → pick room (Ok (end + n)) (Err NoRoom) ≡ onwards (pick room (Ok n) (Err NoRoom)) (λ size. end_of out (end + size) [])
unfolding end_of
moved true out end n = refl
moved false out end n = refl

pub returns-in_err-n-in-Some : goal.returns-in_err-n-in-Some
unfolding end_of
returns-in_err-n-in-Some c =
    let a = c.args in
    let e = sym c.send.ensures.0 ∙ c.in_err-n-in-Some.was in
    rw (sent-refused _ a.out.now a.end a.sending _ (omega arith) e) (search rules)

pub returns-in_ok-n-in-Some : goal.returns-in_ok-n-in-Some
unfolding end_of
returns-in_ok-n-in-Some c =
    let a = c.args in
    let e = sym c.send.ensures.0 ∙ c.in_ok-n-in-Some.was in
    let sends = c.in-Some.is in
    let n = c.in_ok-n-in-Some.n in
    rw (c.end_within.ensures, sends, sent-wrote _ a.out.now a.end _ _ (rw sends at e)) (moved (leb (a.end + n) (length a.out.now)) a.out.now a.end n)
