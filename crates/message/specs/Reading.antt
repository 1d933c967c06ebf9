-- What reading at a place finds, and how one reading follows another: first fault from the left.
use Rattle.std.specs.Prelude.{ℕ, List, length, Result, Ok, Err}
use Rattle.message.specs.declared.Fault.{Fault}
use Rattle.message.specs.declared.refusal.Refusal.{Refusal}
use Rattle.message.specs.declared.refusal.Refusal.TheVariants.{Faulty}

-- a value and the place of the first unread byte; or what is wrong, by its refusal in document 01 and its place
abbrev pub Read : Type 0 → Type 0
Read A = Result (A × ℕ) Fault

abbrev pub took : {A : Type 0} → A → ℕ → Read A
took value next = Ok (value, next)

abbrev pub refused : {A : Type 0} → Fault → Read A
refused fault = Err fault

-- what follows is looked at only behind what was taken; a refusal is the answer
abbrev pub and_then : {A B : Type 0} → Read A → (A → ℕ → Read B) → Read B
and_then (Ok (value, next)) follows = follows value next
and_then (Err fault) follows = Err fault

-- ---- what is wrong
-- something that stands at a place
abbrev pub wrong_at : {A : Type 0} → Refusal → ℕ → Read A
wrong_at refusal place = refused (record { refusal = refusal; place = place })

-- the bytes end too early: 1, at their length
abbrev pub ended_in : {A : Type 0} → List ℕ → Read A
ended_in s = wrong_at Faulty (length s)
