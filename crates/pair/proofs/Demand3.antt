-- Demand 3, all of it: the claims of any naming whose premise makes a request's steps fine, by origin and by identifier.
use mathlib.Core.Path.{subst}
use Rattle.pair.specs.World.{Naming, World, Event}
use Rattle.pair.specs.Demand3.{CarriersFit, Claims, Demand3}
use Rattle.pair.proofs.Keys.{Tells, origins-tell, identifiers-tell}
use Rattle.pair.proofs.Wires.{Worded}
use Rattle.pair.proofs.Sim.{Asked}
use Rattle.pair.proofs.Runs.{Fines, known-world}
use Rattle.pair.proofs.Claims.{acknowledged_was_accepted_lem, data_agree_lem, kind-agrees, quiet-listed, over-for-good, gone-for-good}
use Rattle.pair.proofs.Others.{no-other_altered, no-other-message}
use Rattle.pair.proofs.ClerkCarriers.{clerk-fits}
use Rattle.pair.proofs.LineCarriers.{line-fits}
use Rattle.pair.proofs.Premises.{apart-fine, once-fine, once-apart}

module _ {K : Type 0} {n : Naming K} (tells : Tells n) {Holds : K → World → Event → Type 0} (fines : Fines n Holds) where
  -- both wires have the messages of a run
  pub carriers-fit : CarriersFit n Holds
  carriers-fit k w reach x rest key =
      let z = known-world tells fines k w reach in
      let g = z.1.0 in (
        λ busy place e so. clerk-fits tells g z.1.1 x rest busy place key e (subst (Worded (Asked w.history)) e g.down) (fines.fine g z.1.1.inv k _ so),
        λ place e so. line-fits tells g z.1.1 x rest place key e (subst (Worded (Asked w.history)) e g.up) (fines.fine g z.1.1.inv k _ so),
      )

  pub claims : Claims n Holds
  claims =
      record {
        acknowledged_was_accepted = acknowledged_was_accepted_lem tells fines;
        data_agree = data_agree_lem tells fines;
        quiet_listed = quiet-listed tells fines;
        kind_agrees = kind-agrees tells fines;
        over_for_good = over-for-good tells fines;
        gone_for_good = gone-for-good tells fines;
        no_other_altered = no-other_altered tells fines;
        no_other_message = no-other-message tells fines;
        carriers_fit = carriers-fit;
      }

pub demand_3 : Demand3
demand_3 = record { by_origin = claims origins-tell apart-fine; once_apart = once-apart; by_identifier = claims identifiers-tell once-fine }
