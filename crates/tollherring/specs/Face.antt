-- A call of a step: what stands in the host's memory afterwards, and the number that the call answers.
use Rattle.std.specs.Prelude.{ℕ, ◌≡◌, List, Option, Some, None, Result, Ok, Err}
use Rattle.message.specs.declared.refusal.Refusal.{Refusal}
use Rattle.desk.specs.declared.outcome.Outcome.{Outcome}
use Rattle.message.specs.Refusals.{refusal_number}
use Rattle.told.specs.Face.{Face, face}
use Rattle.told.specs.Told.{refusal_told, sent_written, sent_buffer, told_of, told_refused}

-- a refused start makes no desk: the words stay as they were
abbrev pub start_words : List ℕ → Option Refusal → List ℕ → List ℕ
start_words words None made = made
start_words words (Some refusal) made = words

-- refused by the face itself: the desk and the buffer stay as they were. Of bytes that cannot be read there is the place of the fault
abbrev pub refused_face : List ℕ → List ℕ → Refusal → Option ℕ → Face
refused_face words out refusal fault = face words out (told_refused refusal fault) (refusal_number refusal)

-- a step whose message was written is done; where the writer refused it (12: no room), nothing is
abbrev pub written : Result ℕ Refusal → List ℕ → List ℕ → List ℕ → Outcome → ℕ → Face
written (Ok length) words after out outcome next = face after out (told_of outcome length next) (refusal_told outcome.refusal)
written (Err refusal) words after out outcome next = refused_face words out refusal None

-- a step that makes of `words` the words `after`
unfoldable pub faced : List ℕ → List ℕ → List ℕ → Outcome → ℕ → Face
faced words after out outcome next = written (sent_written out 0 outcome.sending) words after (sent_buffer out 0 outcome.sending) outcome next

-- a step that changes no word: whatever the desk's words are, they stay
abbrev pub WordsStay : List ℕ → List ℕ → ℕ → List ℕ → Outcome → ℕ → Type 0
WordsStay out told answer before outcome next = (words : List ℕ) → face words out told answer ≡ faced words words before outcome next

-- a step that sends nothing: whatever is in the buffer, it stays
abbrev pub OutStays : List ℕ → List ℕ → ℕ → List ℕ → List ℕ → Outcome → ℕ → Type 0
OutStays words told answer before after outcome next = (out : List ℕ) → face words out told answer ≡ faced before after out outcome next
