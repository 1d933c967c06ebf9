-- A number of digits in range stays in range as two words, and they are the same when they are read again: its normal form has the same bytes, and words give their sixteen bytes back.
use Prim.Native.Nat.{ℕ, zero, suc, ◌+◌}
use mathlib.Core.Path.{◌≡◌, refl, sym, ◌∙◌, ap, subst}
use mathlib.Core.Bool.{Bool, true, false}
use mathlib.Core.List.{List, ◌++◌}
use lib.ListN.{length, get_or, take, drop, replicate, length-append, length-drop, length-replicate, get_or-append}
use lib.Seq.{get_or-take, take_at}
use native.Mathlib.Omega.{arith}
use Rattle.lists.specs.Choice.{pick}
use Rattle.lists.specs.Words.{Bytes, words_of, bytes_of}
use Rattle.lists.proofs.WordsLaws.{bytes_append, bytes_take, bytes_drop, bytes-words}
use Rattle.message.specs.Number.{digits_in_range, digits_bytes, sixteen}
use Rattle.message.specs.Equality.{for_request, normal, normal_number}
use Rattle.message.specs.Format.{has_elements}
use Rattle.message.specs.declared.Carrier.{Carrier}
use Rattle.message.specs.declared.Message.{Message}
use Rattle.message.specs.declared.Body.{Body}
use Rattle.message.specs.declared.Body.TheVariants.{CcbsRequest, CcnrRequest, RequestResult, RequestError, CcExecPossible, CcRingout, RingoutError, CcSuspend, CcResume, CcCancel, CallAlerts, CallFailed}
use Rattle.message.proofs.RangeLaws.{digits-few, digits-length}
use Rattle.message.proofs.NumberBack.{digits-back}
use Rattle.desk.specs.Letter.{number_words, letter_of, read_letter}

bytes-zeros : (n : ℕ) → Bytes (replicate n 0)
bytes-zeros zero i = omega arith
bytes-zeros (suc n) zero = omega arith
bytes-zeros (suc n) (suc i) = bytes-zeros n i

-- some bytes kept in sixteen places are bytes
pub bytes-sixteen : (xs : List ℕ) → Bytes xs → Bytes (sixteen xs)
bytes-sixteen xs b =
    bytes_append xs (drop (length xs) (replicate 16 0)) b (bytes_drop (length xs) (replicate 16 0) (bytes-zeros 16))

-- a number in range, kept as words
module _ (g : List ℕ) (low : ℕ) (l : length g ≡ 16) (b : Bytes g) (ok : digits_in_range low g ≡ true) where
  pub normal-length : length (sixteen (digits_bytes g)) ≡ 16
  normal-length =
      let n = digits-length g l (digits-few g low ok).1 in
      let m = (digits-few g low ok).1 in
      let r : length (replicate {A = ℕ} 16 0) ≡ 16 = length-replicate {A = ℕ} 16 0 in
      length-append (digits_bytes g) (drop (length (digits_bytes g)) (replicate 16 0))
      ∙ omega (arith, length-drop (length (digits_bytes g)) (replicate {A = ℕ} 16 0))

  normal-bytes : Bytes (sixteen (digits_bytes g))
  normal-bytes = bytes-sixteen (digits_bytes g) (bytes_take (get_or g 0 0 + 1) g b)

  normal-ranged : digits_in_range low (sixteen (digits_bytes g)) ≡ true
  unfolding digits_in_range
  normal-ranged =
      rw (digits-back (sixteen (digits_bytes g)) (drop (length (digits_bytes g)) (replicate 16 0)) 0 low g l ok refl)

  normal-back : bytes_of (number_words g) ≡ sixteen (digits_bytes g)
  unfolding number_words
  normal-back = bytes-words (sixteen (digits_bytes g)) normal-length normal-bytes

  pub number-kept : digits_in_range low (bytes_of (number_words g)) ≡ true
  number-kept = subst (λ (x : List ℕ). digits_in_range low x ≡ true) (sym normal-back) normal-ranged

  -- the normal form is its own
  normal-digits : digits_bytes (sixteen (digits_bytes g)) ≡ digits_bytes g
  normal-digits =
      let z : List ℕ = drop (length (digits_bytes g)) (replicate 16 0) in
      let n : length (digits_bytes g) ≡ get_or g 0 0 + 1 = digits-length g l (digits-few g low ok).1 in
      let first : get_or (digits_bytes g ++ z) 0 0 ≡ get_or g 0 0 =
      get_or-append (digits_bytes g) z 0 0 (omega arith) ∙ get_or-take (get_or g 0 0 + 1) g 0 0 (omega arith) in
      ap (λ (k : ℕ). take (k + 1) (digits_bytes g ++ z)) first ∙ take_at (digits_bytes g) z (get_or g 0 0 + 1) n

  normal-words : number_words (sixteen (digits_bytes g)) ≡ number_words g
  unfolding number_words
  normal-words = ap (λ (x : List ℕ). words_of (sixteen x)) normal-digits

  -- words that are read again are the same words
  pub number_same : number_words (bytes_of (number_words g)) ≡ number_words g
  number_same = ap number_words normal-back ∙ normal-words

-- ---- a message that is its own normal form
-- the normal form of a normal form is the same; of zeros, zeros
request-again : (body : Body) (number : List ℕ) → for_request body (sixteen (digits_bytes number)) (replicate 16 0) ≡ number → number_words number ≡ words_of number
unfolding number_words
request-again (CcbsRequest flags service) number e = ap words_of e
request-again (CcnrRequest flags service) number e = ap words_of e
request-again (RequestResult keep) number e = rw (← e)
request-again (RequestError error) number e = rw (← e)
request-again CcExecPossible number e = rw (← e)
request-again CcRingout number e = rw (← e)
request-again (RingoutError error) number e = rw (← e)
request-again CcSuspend number e = rw (← e)
request-again CcResume number e = rw (← e)
request-again CcCancel number e = rw (← e)
request-again CallAlerts number e = rw (← e)
request-again CallFailed number e = rw (← e)

-- with elements, and without
normal-by :
    (elements : Bool) (body : Body) (number : List ℕ) →
    pick elements (sixteen (digits_bytes number)) (for_request body (sixteen (digits_bytes number)) (replicate 16 0)) ≡ number →
    number_words number ≡ words_of number
unfolding number_words
normal-by true body number e = ap words_of e
normal-by false body number e = request-again body number e

normal-again : (body : Body) (carrier : Carrier) (number : List ℕ) → normal_number body carrier number ≡ number → number_words number ≡ words_of number
normal-again body carrier number e = normal-by (has_elements body carrier) body number e

pub letter-read : (m : Message) → normal m ≡ m → letter_of m ≡ read_letter m
unfolding letter_of read_letter normal
letter-read m e =
    let again = normal-again m.body m.carrier in
    rw (again m.numberA (ap (λ (x : Message). x.numberA) e), again m.numberB (ap (λ (x : Message). x.numberB) e))
