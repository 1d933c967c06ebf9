-- What a tick of a desk gives (document 02, Ask 6): the desk afterwards, and the records that expired, from the oldest on.
use Rattle.std.specs.Prelude.{ℕ, List, ◌∷◌}
use Rattle.desk.specs.declared.outcome.Outcome.{Outcome}

-- a record that expired: its place before the tick, and the outcome of its report
pub record Expiry : Type 0 where
  pub place : ℕ
  pub outcome : Outcome

abbrev pub expired_at : ℕ → Outcome → Expiry
expired_at place outcome = record { place = place; outcome = outcome }

pub record Ticked (Desk : Type 0) : Type 0 where
  pub desk : Desk
  pub expired : List Expiry

abbrev pub noted : {Desk : Type 0} → Expiry → Ticked Desk → Ticked Desk
noted expiry t = record { desk = t.desk; expired = expiry ∷ t.expired }
