-- The clerk's desk as a host calls it.
use Rattle.std.specs.Prelude.{ℕ, List, Option, None, Ok, Err, Result}
use Rattle.message.specs.declared.refusal.Refusal.{Refusal}
use Rattle.clerk_table.specs.declared.inputs.Input.{Input}
use Rattle.clerk.specs.declared.start.Lengths.{Lengths}
use Rattle.clerk.specs.Start.{started}
use Rattle.clerk.specs.Steps.{desk_of, step}
use Rattle.desk.specs.declared.entry.BytesEntry.{BytesEntry}
use Rattle.host_numbers.specs.Given.{ask_given, clerk_bytes_given, clerk_act_given, timer_given}
use Rattle.told.specs.Face.{Face}
use Rattle.told.specs.Told.{refusal_told}
use Rattle.tollherring.specs.Face.{start_words, refused_face, faced}

-- the lengths of its timers that a desk is started with, in seconds
abbrev pub lengths_of : ℕ → ℕ → ℕ → ℕ → Lengths
lengths_of t1 t2Ccbs t2Ccnr t3 = record { t1 = t1; t2Ccbs = t2Ccbs; t2Ccnr = t2Ccnr; t3 = t3 }

-- the words of the desk that is started, and the answer: 2 for a length out of range
unfoldable pub clerk_started_words : List ℕ → ℕ → ℕ → ℕ → ℕ → List ℕ
clerk_started_words words t1 t2Ccbs t2Ccnr t3 = start_words words (started (lengths_of t1 t2Ccbs t2Ccnr t3)).outcome.refusal (started (lengths_of t1 t2Ccbs t2Ccnr t3)).desk.words

unfoldable pub clerk_started_answer : ℕ → ℕ → ℕ → ℕ → ℕ
clerk_started_answer t1 t2Ccbs t2Ccnr t3 = refusal_told (started (lengths_of t1 t2Ccbs t2Ccnr t3)).outcome.refusal

-- what comes in at the entry: a refusal is told at once; an input is a step on the desk of these words, at a count of seconds. `next` is the first unread place of what was read for it, `fault` that of a fault
unfoldable pub clerk_entered : List ℕ → ℕ → List ℕ → Result Input Refusal → ℕ → Option ℕ → Face
clerk_entered words count out (Err refusal) next fault = refused_face words out refusal fault
clerk_entered words count out (Ok input) next fault = faced words (step (desk_of words) count input).desk.words out (step (desk_of words) count input).outcome next

abbrev pub clerk_bytes : List ℕ → ℕ → List ℕ → BytesEntry (Result Input Refusal) → Face
clerk_bytes words count out read = clerk_entered words count out read.entry read.next read.fault

unfoldable pub clerk_asked : List ℕ → ℕ → List ℕ → List ℕ → ℕ → List ℕ → List ℕ → ℕ → ℕ → ℕ → Face
clerk_asked words count out identifier kind numberA numberB service canKeep preference =
    clerk_entered words count out (ask_given identifier kind numberA numberB service canKeep preference) 0 None

-- with each of these comes the place that the host names
unfoldable pub clerk_received : List ℕ → ℕ → List ℕ → ℕ → List ℕ → ℕ → Face
clerk_received words count out place bytes busy = clerk_bytes words count out (clerk_bytes_given bytes busy place)

unfoldable pub clerk_acted : List ℕ → ℕ → List ℕ → ℕ → List ℕ → ℕ → Face
clerk_acted words count out place identifier act = clerk_entered words count out (clerk_act_given identifier place act) 0 None

unfoldable pub clerk_reported : List ℕ → ℕ → List ℕ → ℕ → List ℕ → ℕ → Face
clerk_reported words count out place identifier timer = clerk_entered words count out (timer_given identifier place timer) 0 None
