-- What a host is told of a tick (document 02, Ask 6): the messages of the records that expired, one behind the other at the front of a lent buffer, and the rest as plain numbers.
use Rattle.desk.specs.declared.letter.Letter.{Letter}
use Rattle.std.specs.Prelude.{ℕ, suc, ◌+◌, ◌*◌, List, [], ◌∷◌, set, replicate, Option, Result, Ok, Err}
use Rattle.terms.specs.Codes.{flag_code}
use Rattle.desk.specs.Ticked.{Expiry}
use Rattle.message.specs.Refusals.{refusal_number}
use Rattle.message.specs.declared.refusal.Refusal.{Refusal}
use Rattle.told.specs.Face.{Face, face}
use Rattle.told.specs.Told.{notice_number, sent_written, sent_buffer}

-- ---- the room, which is known before the first record goes
abbrev pub onwards : Result ℕ Refusal → (ℕ → Result ℕ Refusal) → Result ℕ Refusal
onwards (Ok n) on = on n
onwards (Err refusal) on = Err refusal

-- where some sendings end that are written one behind the other from a place on, or the writer's first refusal
unfoldable pub end_of : List ℕ → ℕ → List (Option Letter) → Result ℕ Refusal
end_of out place [] = Ok place
end_of out place (s ∷ rest) = onwards (sent_written out place s) (λ n. end_of out (place + n) rest)

-- ---- what is lent, as records expire: the buffer with so many bytes written, and the numbers with so many records told
pub record Lent : Type 0 where
  pub out : List ℕ
  pub length : ℕ
  pub told : List ℕ
  pub expired : ℕ

abbrev pub wrote : Result ℕ Refusal → ℕ
wrote (Ok n) = n
wrote (Err refusal) = 0

-- four numbers of an expired record: its place before the tick, its notice, whether to clear its call, and how many bytes its message has
abbrev pub expiry_told : List ℕ → ℕ → Expiry → ℕ → List ℕ
expiry_told told k e length =
    set (set (set (set told (3 + 4 * k) e.place) (4 + 4 * k) (notice_number e.outcome.notice)) (5 + 4 * k) (flag_code e.outcome.clear)) (6 + 4 * k) length

abbrev pub lent_after : Lent → Expiry → Lent
lent_after l e =
    record {
      out = sent_buffer l.out l.length e.outcome.sending;
      length = l.length + wrote (sent_written l.out l.length e.outcome.sending);
      told = expiry_told l.told l.expired e (wrote (sent_written l.out l.length e.outcome.sending));
      expired = suc l.expired;
    }

unfoldable pub lent_by : Lent → List Expiry → Lent
lent_by l [] = l
lent_by l (e ∷ es) = lent_by (lent_after l e) es

-- ---- the numbers of a tick: refusal, bytes written, how many expired; then four of each that did, and zeros. No desk has more than 32 places
abbrev pub no_numbers : List ℕ
no_numbers = replicate (3 + 4 * 32) 0

abbrev pub tick_done : List ℕ → Lent → Face
tick_done after l = face after l.out (set (set l.told 1 l.length) 2 l.expired) 0

abbrev pub tick_refused : List ℕ → List ℕ → Refusal → Face
tick_refused words out refusal = face words out (set no_numbers 0 (refusal_number refusal)) (refusal_number refusal)

-- a tick that makes of `words` the words `after`: done if all that it sends has room, and else nothing changes
abbrev pub tick_face : Result ℕ Refusal → List ℕ → List ℕ → List ℕ → List Expiry → Face
tick_face (Ok end) words out after expired = tick_done after (lent_by (record { out = out; length = 0; told = no_numbers; expired = 0 }) expired)
tick_face (Err refusal) words out after expired = tick_refused words out refusal
