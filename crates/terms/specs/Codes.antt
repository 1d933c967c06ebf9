-- Words and what they stand for, in the records of both desks. A word that is no code reads as the first case.
use Rattle.std.specs.Prelude.{ℕ, Bool, true, false, eqb}
use Rattle.lists.specs.Choice.{pick}
use Rattle.message.specs.declared.Kind.{Kind}
use Rattle.message.specs.declared.Kind.TheVariants.{Ccbs, Ccnr}
use Rattle.desk.specs.declared.Connection.{Connection}
use Rattle.desk.specs.declared.Keep.{Keep}

unfoldable pub kind_of : ℕ → Kind
kind_of code = pick (eqb code 2) Ccnr Ccbs

abbrev pub kind_code : Kind → ℕ
kind_code Ccbs = 1
kind_code Ccnr = 2

unfoldable pub keep_of : ℕ → Keep
keep_of code = pick (eqb code 1) Keep.Ends (pick (eqb code 2) Keep.Keeps Keep.Empty)

abbrev pub keep_code : Keep → ℕ
keep_code Keep.Empty = 0
keep_code Keep.Ends = 1
keep_code Keep.Keeps = 2

unfoldable pub connection_of : ℕ → Connection
connection_of code = pick (eqb code 1) Connection.Ret (pick (eqb code 2) Connection.Rls Connection.Empty)

abbrev pub connection_code : Connection → ℕ
connection_code Connection.Empty = 0
connection_code Connection.Ret = 1
connection_code Connection.Rls = 2

abbrev pub flag_code : Bool → ℕ
flag_code true = 1
flag_code false = 0
