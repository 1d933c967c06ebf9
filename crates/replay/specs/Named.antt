-- Acts, timers and the guard as a script has them (docs/REPLAY.md): each is what a host's numbers stand for, at the request that is named.
use Rattle.std.specs.Prelude.{ℕ, List, eqb, Err, Result}
use Rattle.lists.specs.Choice.{pick}
use Rattle.message.specs.declared.refusal.Refusal.{Refusal}
use Rattle.message.specs.declared.refusal.Refusal.TheVariants.{OutOfRange}
use Rattle.clerk_table.specs.declared.inputs.Input as ClerkInput
use Rattle.line_table.specs.declared.inputs.Input as LineInput
use Rattle.host_numbers.specs.Given.{clerk_act_given, timer_given, line_act_given, guard_given}

-- 18 accept; 19 User A free, 0 resume or 1 go on to recall; 20 cancel; 21 a timer, 1 T1, 2 T2, 3 T3; 22 the connection fell
unfoldable pub clerk_named : ℕ → ℕ → List ℕ → ℕ → Result ClerkInput.Input Refusal
clerk_named code choice identifier place =
    pick (eqb code 18) (clerk_act_given identifier place 1)
    (pick (eqb code 19) (pick (eqb choice 0) (clerk_act_given identifier place 2) (pick (eqb choice 1) (clerk_act_given identifier place 3) (Err OutOfRange)))
    (pick (eqb code 20) (clerk_act_given identifier place 4)
    (pick (eqb code 21) (timer_given identifier place choice)
    (clerk_act_given identifier place 5))))

-- 35 an act, 1 alerted, 2 call failed, 3 cancel; 36 the guard; 37 the connection fell
unfoldable pub line_named : ℕ → ℕ → List ℕ → ℕ → Result LineInput.Input Refusal
line_named code choice identifier place =
    pick (eqb code 35)
    (pick (eqb choice 1) (line_act_given identifier place 1) (pick (eqb choice 2) (line_act_given identifier place 2) (pick (eqb choice 3) (line_act_given identifier place 3) (Err OutOfRange))))
    (pick (eqb code 36) (guard_given identifier place)
    (line_act_given identifier place 4))
