-- What is stored as a code is read back.
use mathlib.Core.Path.{◌≡◌, refl}
use mathlib.Core.Bool.{Bool, true, false}
use lib.Dec.{eqb}
use Rattle.message.specs.declared.Kind.{Kind}
use Rattle.message.specs.declared.Kind.TheVariants.{Ccbs, Ccnr}
use Rattle.desk.specs.declared.Connection.{Connection}
use Rattle.desk.specs.declared.Keep.{Keep}
use Rattle.terms.specs.Codes.{kind_of, kind_code, keep_of, keep_code, connection_of, connection_code, flag_code}

pub kind-back : (k : Kind) → kind_of (kind_code k) ≡ k
unfolding kind_of
kind-back Ccbs = refl
kind-back Ccnr = refl

pub keep-back : (k : Keep) → keep_of (keep_code k) ≡ k
unfolding keep_of
keep-back Keep.Empty = refl
keep-back Keep.Ends = refl
keep-back Keep.Keeps = refl

pub connection-back : (k : Connection) → connection_of (connection_code k) ≡ k
unfolding connection_of
connection-back Connection.Empty = refl
connection-back Connection.Ret = refl
connection-back Connection.Rls = refl

pub flag-back : (b : Bool) → eqb (flag_code b) 1 ≡ b
flag-back true = refl
flag-back false = refl
