-- What holds of every step at the face. Each claim is a type; its proof has its name.
use Rattle.desk.specs.declared.letter.Letter.{Letter}
use Rattle.std.specs.Prelude.{ℕ, ◌≡◌, List, [], ◌∷◌, Option, None, Err}
use Rattle.message.specs.Refusals.{refusal_number}
use Rattle.message.specs.declared.refusal.Refusal.{Refusal}
use Rattle.desk.specs.Outcome.{refused_with}
use Rattle.desk.specs.declared.outcome.Outcome.{Outcome}
use Rattle.told.specs.Told.{sent_written, told_of}
use Rattle.tollherring.specs.Face.{refused_face, faced}

-- 12, "All return the number and change nothing": a message that has no room leaves the desk and the whole buffer as they were, whatever the step would have done
abbrev pub NoRoomNothing : Type 0
NoRoomNothing =
    (words after out : List ℕ) (outcome : Outcome) (next : ℕ) (refusal : Refusal) → sent_written out 0 outcome.sending ≡ Err refusal
    → faced words after out outcome next ≡ refused_face words out refusal None

-- a refusal of a desk (`RefusedSame` in clerk_sound and line_sound) is told as its number, the bytes of its reply and what was read: no timer, no notice, no word to clear the call, no record
abbrev pub RefusedTold : Type 0
RefusedTold = (refusal : Refusal) (reply : Option Letter) (length next : ℕ) → told_of (refused_with refusal reply) length next ≡ refusal_number refusal ∷ length ∷ next ∷ 0 ∷ 0 ∷ 0 ∷ 0 ∷ 0 ∷ 0 ∷ 0 ∷ 0 ∷ []
