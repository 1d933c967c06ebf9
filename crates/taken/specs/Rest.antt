-- The part of the bytes that follows the message.
use Rattle.std.specs.Prelude.{ℕ, List, drop, Result, Ok, Err}
use Rattle.message.specs.declared.Fault.{Fault}
use Rattle.reader.specs.declared.Answer.{Answer}

-- the bytes from the first unread one on: all of them where the message is refused
abbrev pub rest_by : List ℕ → Result ℕ Fault → List ℕ
rest_by s (Ok next) = drop next s
rest_by s (Err fault) = s

abbrev pub rest_of : List ℕ → Answer → List ℕ
rest_of s answer = rest_by s answer.verdict
