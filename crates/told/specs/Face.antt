-- What stands in the host's memory after a call, and the number that the call answers.
use Rattle.std.specs.Prelude.{ℕ, List}

-- the desk's words, the buffer for what is sent, the numbers that are told, and the answer: the refusal's number or 0
pub record Face : Type 0 where
  pub words : List ℕ
  pub out : List ℕ
  pub told : List ℕ
  pub answer : ℕ

abbrev pub face : List ℕ → List ℕ → List ℕ → ℕ → Face
face words out told answer = record { words = words; out = out; told = told; answer = answer }
