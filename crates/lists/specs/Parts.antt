-- Parts of a buffer, at any element type.
use Rattle.std.specs.Prelude.{List, ◌++◌, length, drop}

-- some elements over the front of a longer list: the elements behind them stay
abbrev pub over : {A : Type 0} → List A → List A → List A
over front whole = front ++ drop (length front) whole
