-- A message as a desk sent it is its own normal form, so the reader gives it back from the bytes that the writer makes of it.
use Rattle.std.specs.Prelude.{Option, Some, None}
use Prim.Native.Nat.{ℕ, ◌+◌}
use mathlib.Core.Path.{◌≡◌, refl, sym, ◌∙◌, ap}
use mathlib.Core.Bool.{Bool, true, false}
use native.Mathlib.Omega.{arith}
use borrow.Author.Tests.{lt-ltb}
use Rattle.lists.specs.Choice.{pick}
use mathlib.Core.List.{List, [], ◌∷◌, ◌++◌}
use lib.ListN.{length, get_or}
use Rattle.lists.specs.Words.{octets, bytes_of}
use Rattle.lists.specs.declared.words.Words.{Words}
use Rattle.lists.proofs.WordsLaws.{length-bytes_of, bytes-bytes_of, bytes_take, bytes-words}
use Rattle.message.specs.Number.{digits_in_range, digits_bytes, sixteen}
use Rattle.message.specs.Reading.{took}
use Rattle.message.specs.Format.{elements_complete, complete, writable, message_bytes}
use Rattle.message.specs.declared.Body.{Body}
use Rattle.message.specs.declared.Carrier.{Carrier}
use Rattle.message.specs.Equality.{normal_identifier, normal_number, normal_service, normal, Formed}
use Rattle.message.specs.Wire.{message_at}
use Rattle.message.specs.declared.Kind.TheVariants.{Ccbs, Ccnr}
use Rattle.message.specs.declared.Message.{Message}
use Rattle.message.proofs.RangeLaws.{digits-few}
use Rattle.desk.specs.Letter.{is_identified, identifier_words, number_words, message_of}
use Rattle.desk.specs.Sends.{no_number, plain_letter}
use Rattle.desk.specs.declared.sends.Elements.{Elements}
use Rattle.terms.specs.declared.request.Names.{Names}
use Rattle.desk.specs.declared.letter.Letter.{Letter}
use Rattle.desk.proofs.LetterLaws.{bytes-sixteen, normal-length}
use Rattle.writer.proofs.RoundTrip.{round_trip}
use Rattle.clerk.specs.Entry as ClerkEntry
use Rattle.line.specs.Entry as LineEntry
use Rattle.clerk.specs.Steps as Clerk
use Rattle.line.specs.Steps as Line
use Rattle.pair_request.specs.Reading as R
use Rattle.pair.specs.World.{Of, Note, World}
use Rattle.exported.specs.Calls.{carried}
use Rattle.exported.specs.Claims.{ClerkHearsBytes, LineHearsBytes, HeardAsBytes}
use Rattle.pair.proofs.Ends.{letter_read, set_of, message_read, Clear, Kept}
use Rattle.pair.proofs.Letters.{set-names}
use Rattle.pair.proofs.Wires.{Worded, quiet, word}
use Rattle.pair.proofs.Sim.{Asked}
use Rattle.pair.proofs.Runs.{good-world}

-- a number in range that its words give back stands in its normal form
number-normal :
    (low : ℕ) (number : Words) → digits_in_range low (bytes_of number) ≡ true → number_words (bytes_of number) ≡ number →
    sixteen (digits_bytes (bytes_of number)) ≡ bytes_of number
unfolding number_words
number-normal low number ok e =
    let b = bytes_of number in
    let there = normal-length b low (length-bytes_of number) (bytes-bytes_of number) ok in
    sym (bytes-words (sixteen (digits_bytes b)) there (bytes-sixteen (digits_bytes b) (bytes_take (get_or b 0 0 + 1) b (bytes-bytes_of number)))) ∙ ap bytes_of e

name-normal : (i : Option Words) → normal_identifier (is_identified i) (bytes_of (identifier_words i)) ≡ bytes_of (identifier_words i)
unfolding bytes_of octets
name-normal None = refl
name-normal (Some identifier) = refl

-- a letter without elements, and one whose numbers stand in its fields or its elements
plain-normal :
    (i : Option Words) (carrier : Carrier) (body : Body) → normal_number body carrier (bytes_of no_number) ≡ bytes_of no_number → normal_service body carrier None ≡ None →
    normal (message_of (plain_letter i carrier body)) ≡ message_of (plain_letter i carrier body)
unfolding normal message_of
plain-normal i carrier body number service =
    let name = name-normal i in
    λ x. record { carrier = carrier; identified = is_identified i; identifier = name x; numberA = number x; numberB = number x; service = service x; body = body }

abbrev elements_letter : Elements → Carrier → Body → Option ℕ → Letter
elements_letter e carrier body service = record { carrier = carrier; identifier = e.identifier; numberA = e.numberA; numberB = e.numberB; service = service; body = body }

letter-normal :
    (e : Elements) (carrier : Carrier) (body : Body) (service : Option ℕ) → Kept e → ((number : List ℕ) → normal_number body carrier number ≡ sixteen (digits_bytes number)) →
    normal_service body carrier service ≡ service →
    normal (message_of (elements_letter e carrier body service)) ≡ message_of (elements_letter e carrier body service)
unfolding normal message_of
letter-normal e carrier body service kept number same =
    let name = name-normal e.identifier in
    let a = number (bytes_of e.numberA) ∙ number-normal 0 e.numberA kept.range_a kept.numberA in
    let b = number (bytes_of e.numberB) ∙ number-normal 1 e.numberB kept.range_b kept.numberB in
    λ x. record { carrier = carrier; identified = is_identified e.identifier; identifier = name x; numberA = a x; numberB = b x; service = same x; body = body }

sent-formed : (e : Elements) (m : R.Msg) → Formed (message_read e m)
unfolding message_of
sent-formed e m =
    record {
      identifier = length-bytes_of (identifier_words (letter_read e m).identifier);
      numberA = length-bytes_of (letter_read e m).numberA;
      numberB = length-bytes_of (letter_read e m).numberB;
    }

sent-normal : (e : Elements) (m : R.Msg) → Kept e → normal (message_read e m) ≡ message_read e m
unfolding bytes_of octets
sent-normal e (R.request d Ccbs q) kept = letter-normal e _ _ _ kept (λ n. refl) refl
sent-normal e (R.request d Ccnr q) kept = letter-normal e _ _ _ kept (λ n. refl) refl
sent-normal e (R.result k n) kept = plain-normal _ _ _ refl refl
sent-normal e (R.denied short) kept = plain-normal _ _ _ refl refl
sent-normal e (R.exec R.ret) kept = plain-normal _ _ _ refl refl
sent-normal e (R.exec R.rls) kept = letter-normal e _ _ _ kept (λ n. refl) refl
sent-normal e R.ringout kept = letter-normal e _ _ _ kept (λ n. refl) refl
sent-normal e R.busy_again kept = plain-normal _ _ _ refl refl
sent-normal e R.no_match kept = plain-normal _ _ _ refl refl
sent-normal e (R.suspend n) kept = plain-normal _ _ _ refl refl
sent-normal e (R.resume R.ret) kept = plain-normal _ _ _ refl refl
sent-normal e (R.resume R.rls) kept = letter-normal e _ _ _ kept (λ n. refl) refl
sent-normal e (R.cancel R.ret) kept = plain-normal _ _ _ refl refl
sent-normal e (R.cancel R.rls) kept = letter-normal e _ _ _ kept (λ n. refl) refl
sent-normal e R.alerts kept = plain-normal _ _ _ refl refl
sent-normal e R.failed kept = plain-normal _ _ _ refl refl

-- nothing is absent that the bytes have to say
pub sent-writable : (e : Elements) (m : R.Msg) → Kept e → Clear e m → writable (message_read e m) ≡ true
unfolding writable complete message_of
sent-writable e m kept clear = ap (λ (b : Bool). pick b (complete (message_read e m)) false) clear.ranged ∙ by (set_of e m) refl
  where
    by : (b : Bool) → set_of e m ≡ b → pick b (elements_complete (bytes_of (letter_read e m).numberB) (letter_read e m).service) true ≡ true
    by true set =
        let names = set-names e m set in
        let least = (digits-few (bytes_of e.numberB) 1 kept.range_b).0 in
        let given : elements_complete (bytes_of e.numberB) (Some e.service) ≡ true = rw (lt-ltb 0 (get_or (bytes_of e.numberB) 0 0) (omega (arith, least))) in
        ap (λ (n : Names). elements_complete (bytes_of n.numberB) n.service) names ∙ given
    by false set = refl

sent-reads : (e : Elements) (m : R.Msg) → Kept e → Clear e m → (rest : List ℕ) →
    message_at (message_bytes (message_read e m) ++ rest) ≡ took (message_read e m) (length (message_bytes (message_read e m)))
sent-reads e m kept clear rest =
    round_trip (message_read e m) rest (sent-formed e m) (sent-writable e m kept clear)
    ∙ ap (λ (x : Message). took x (length (message_bytes (message_read e m)))) (sent-normal e m kept)

clerk-bytes : {h : List Note} (w : World) (busy : Bool) (place : ℕ) (rest : List ℕ) (xs : List (Of Message)) → Worded (Asked h) xs → ClerkHearsBytes w busy place rest (carried xs)
unfolding Clerk.received_bytes ClerkEntry.bytes_entry
clerk-bytes w busy place rest [] quiet = tt
clerk-bytes w busy place rest (x ∷ xs) (word l m its clear more) = rw (sent-reads l.it m its.1 clear rest)

line-bytes : {h : List Note} (w : World) (place : ℕ) (rest : List ℕ) (xs : List (Of Message)) → Worded (Asked h) xs → LineHearsBytes w place rest (carried xs)
unfolding Line.received_bytes LineEntry.bytes_entry
line-bytes w place rest [] quiet = tt
line-bytes w place rest (x ∷ xs) (word l m its clear more) = rw (sent-reads l.it m its.1 clear rest)

pub heard-as-bytes : HeardAsBytes
heard-as-bytes w reach busy place rest =
    let g = (good-world w reach).1 in
    (clerk-bytes w busy place rest w.down g.down, line-bytes w place rest w.up g.up)
