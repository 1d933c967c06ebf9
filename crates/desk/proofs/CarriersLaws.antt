-- What holds for RET alone holds: the choice is RET.
use mathlib.Core.Path.{◌≡◌, refl}
use mathlib.Core.Bool.{Bool, true, false, false≢true}
use Rattle.desk.specs.Carriers.{by_connection}
use Rattle.desk.specs.declared.Connection.{Connection}
use Rattle.desk.specs.declared.Connection.TheVariants.{Empty, Ret, Rls}

pub retained-holds : (c : Connection) (b : Bool) → by_connection c b false ≡ true → (c ≡ Ret) × (b ≡ true)
retained-holds Empty b e = absurd (false≢true e)
retained-holds Ret b e = (refl, e)
retained-holds Rls b e = absurd (false≢true e)
