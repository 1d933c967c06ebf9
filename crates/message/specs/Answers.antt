-- What the answer of a reader of digits tells: nothing but the place, which is all that its caller asks for.
use Rattle.std.specs.Prelude.{ℕ, Result, Ok, Err}
use Rattle.message.specs.Reading.{Read, took, refused}
use Rattle.message.specs.declared.Fault.{Fault}

abbrev pub place_told : Result ℕ Fault → Read (Unit {0})
place_told (Ok next) = took tt next
place_told (Err fault) = refused fault
