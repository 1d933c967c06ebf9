-- What it is for a host's call at a desk to be a step of the run, and for its tick to be a run of reports.
use Rattle.desk.specs.declared.letter.Letter.{Letter}
use Rattle.std.specs.Prelude.{ℕ, ◌<◌, ◌≡◌, List, [], ◌∷◌, ◌++◌, map, length, Option, Ok, Err}
use Rattle.message.specs.declared.Message.{Message}
use Rattle.desk.specs.Ticked.{Expiry}
use Rattle.desk.specs.declared.outcome.Outcome.{Outcome}
use Rattle.message.specs.declared.refusal.Refusal.TheVariants.{NoRoom}
use Rattle.message.specs.declared.refusal.Refusal.{Refusal}
use Rattle.told.specs.Told.{sent_written, sent_buffer, told_of, refusal_told}
use Rattle.told.specs.Face.{Face, face}
use Rattle.told.specs.Ticking.{end_of, lent_by, no_numbers, tick_done, tick_refused}
use Rattle.tollherring.specs.Face.{refused_face}
use Rattle.pair.specs.World.{Of, World, sent_by}
use Rattle.pair.specs.Ticks.{sent_of}

-- an end of the pair: the words of its desk, and the wire that it sends on
pub record End : Type 0 where
  pub words : List ℕ
  pub wire : List Message

-- the messages of a wire, without their origins, which no desk sees
abbrev pub carried : List (Of Message) → List Message
carried wire = map (λ x. x.it) wire

abbrev pub clerk_end : World → End
clerk_end w = record { words = w.clerk.words; wire = carried w.up }

abbrev pub line_end : World → End
line_end w = record { words = w.line.words; wire = carried w.down }

-- a message is put on an end's wire, behind all that are there
abbrev pub Puts : End → End → Message → Type 0
Puts before after m = after.wire ≡ before.wire ++ (m ∷ [])

-- a call, lent the words of an end and a buffer `out`, leaves the step that makes of the end `before` the end `after`. `unread` is the first unread place of what it was given
pub data IsStep (before after : End) (out : List ℕ) (unread : ℕ) : Face → Type 0 where
  -- done: the words are those of the step, and what it puts on the wire is written into the buffer
  done :
      (outcome : Outcome) (length : ℕ) → after.wire ≡ before.wire ++ sent_by outcome.sending → sent_written out 0 outcome.sending ≡ Ok length →
      IsStep before after out unread (face after.words (sent_buffer out 0 outcome.sending) (told_of outcome length unread) (refusal_told outcome.refusal))
  -- refused by the face, with 1, 2, 10 or 12: words and buffer are as they were. Bytes that cannot be read have the place of the fault
  refused : (refusal : Refusal) (fault : Option ℕ) → IsStep before after out unread (refused_face before.words out refusal fault)

-- what some expired records send
abbrev pub sendings_of : List Expiry → List (Option Letter)
sendings_of expired = map (λ e. e.outcome.sending) expired

-- a tick, lent the words of an end and a buffer `out`, leaves the run of its reports, which makes of the end `before` the end `after`. `enough` bytes have room for all that any tick of the end sends
pub data IsTick (before after : End) (enough : ℕ) (out : List ℕ) : Face → Type 0 where
  -- done: the words are those of the run, and the messages that it puts on the wire all have room and are written into the buffer, one behind the other
  ran :
      (expired : List Expiry) (end : ℕ) → after.wire ≡ before.wire ++ sent_of (map (λ e. e.outcome) expired) → end_of out 0 (sendings_of expired) ≡ Ok end →
      IsTick before after enough out (tick_done after.words (lent_by (record { out = out; length = 0; told = no_numbers; expired = 0 }) expired))
  -- refused with 12, and with no other number, where those messages don't all have room: words and buffer are as they were
  unroomy :
      (expired : List Expiry) → after.wire ≡ before.wire ++ sent_of (map (λ e. e.outcome) expired) → end_of out 0 (sendings_of expired) ≡ Err NoRoom →
      length out < enough → IsTick before after enough out (tick_refused before.words out NoRoom)
