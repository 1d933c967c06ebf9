-- How far a tick has come, as what is lent then stands.
use Rattle.std.specs.Prelude.{List, ℕ}
use Rattle.told.specs.Ticking.{Lent}
use Rattle.ticks.specs.declared.Counted.{Counted}

abbrev pub lent_of : List ℕ → List ℕ → Counted → Lent
lent_of out told counted = record { out = out; length = counted.length; told = told; expired = counted.expired }
