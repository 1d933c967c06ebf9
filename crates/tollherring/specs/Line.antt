-- The line desk as a host calls it.
use Rattle.std.specs.Prelude.{ℕ, Bool, List, Option, None, Ok, Err, Result}
use Rattle.lists.specs.Choice.{pick}
use Rattle.lists.specs.Lists.{both}
use Rattle.message.specs.Refusals.{refusal_number}
use Rattle.message.specs.declared.refusal.Refusal.{Refusal}
use Rattle.message.specs.declared.refusal.Refusal.TheVariants.{OutOfRange}
use Rattle.line_table.specs.declared.inputs.Input.{Input}
use Rattle.line.specs.Start.{started}
use Rattle.line.specs.Entry.{bytes_entry, look_entry}
use Rattle.line.specs.Steps.{desk_of, step}
use Rattle.desk.specs.declared.entry.BytesEntry.{BytesEntry}
use Rattle.host_numbers.specs.Given.{line_act_given, guard_given, report_given, is_word, yes}
use Rattle.told.specs.Face.{Face}
use Rattle.told.specs.Told.{refusal_told}
use Rattle.tollherring.specs.Face.{start_words, refused_face, faced}

-- the start of a desk, once its settings are words
abbrev pub line_start_words : List ℕ → List ℕ → Bool → Bool → List ℕ
line_start_words words given keep retain = start_words words (started given keep retain).outcome.refusal (started given keep retain).desk.words

-- the words of the desk that is started, and the answer; 2 also for a setting that is no word
unfoldable pub line_started_words : List ℕ → List ℕ → ℕ → ℕ → List ℕ
line_started_words words given keep retain = pick (both (is_word keep) (is_word retain)) (line_start_words words given (yes keep) (yes retain)) words

unfoldable pub line_started_answer : List ℕ → ℕ → ℕ → ℕ
line_started_answer given keep retain = pick (both (is_word keep) (is_word retain)) (refusal_told (started given (yes keep) (yes retain)).outcome.refusal) (refusal_number OutOfRange)

-- what comes in at the entry: a refusal is told at once; an input is a step on the desk of these words, at a count of seconds. `next` is the first unread place of what was read for it, `fault` that of a fault
unfoldable pub line_entered : List ℕ → ℕ → List ℕ → Result Input Refusal → ℕ → Option ℕ → Face
line_entered words count out (Err refusal) next fault = refused_face words out refusal fault
line_entered words count out (Ok input) next fault = faced words (step (desk_of words) count input).desk.words out (step (desk_of words) count input).outcome next

abbrev pub line_bytes : List ℕ → ℕ → List ℕ → BytesEntry (Result Input Refusal) → Face
line_bytes words count out read = line_entered words count out read.entry read.next read.fault

-- with a message, an act and a guard comes the place that the host names
unfoldable pub line_received : List ℕ → ℕ → List ℕ → ℕ → List ℕ → Face
line_received words count out place bytes = line_bytes words count out (bytes_entry bytes place)

unfoldable pub line_status_reported : List ℕ → ℕ → List ℕ → List ℕ → ℕ → Face
line_status_reported words count out digits busy = line_entered words count out (report_given digits busy) 0 None

unfoldable pub line_looked : List ℕ → ℕ → List ℕ → List ℕ → Face
line_looked words count out digits = line_entered words count out (look_entry digits) 0 None

unfoldable pub line_acted : List ℕ → ℕ → List ℕ → ℕ → List ℕ → ℕ → Face
line_acted words count out place identifier act = line_entered words count out (line_act_given identifier place act) 0 None

unfoldable pub line_guarded : List ℕ → ℕ → List ℕ → ℕ → List ℕ → Face
line_guarded words count out place identifier = line_entered words count out (guard_given identifier place) 0 None
