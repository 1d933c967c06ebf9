-- A message is its head and then its fields: those that stand behind two numbers, or those without. And a number's range may be tested late, or twice.
use Rattle.std.specs.Prelude.{None, Result, Ok, Err}
use Prim.Native.Nat.{ℕ, ◌+◌, ◌-◌, ◌≤◌, ◌<◌}
use mathlib.Core.Path.{◌≡◌, refl, sym, ◌∙◌, ap, subst}
use mathlib.Core.Bool.{Bool, true, false}
use mathlib.Core.List.{List}
use lib.ListN.{length, replicate}
use lib.Dec.{eqb, ltb}
use native.Mathlib.Omega.{arith}
use borrow.Author.Tests.{ltb-true, ltb-false, lt-ltb, le-ltb, ne_eqb, eqb-true, eqb-false}
use Rattle.lists.specs.Choice.{pick}
use Rattle.message.specs.Reading.{Read, took, refused, and_then, wrong_at, ended_in}
use Rattle.message.specs.Number.{number_at, within, field_at}
use Rattle.message.specs.Wire.{carrier_of, identified_at, identifier_at, Fields, request_at, elements_at, plain_at, fields_at, message_with, behind_identified, behind_head, message_at}
use Rattle.message.specs.declared.Carrier.{Carrier}
use Rattle.message.specs.declared.Carrier.TheVariants.{Setup, Connect, Facility, ReleaseComplete, Alerting}
use Rattle.message.specs.declared.Body.{Body}
use Rattle.message.specs.declared.Fault.{Fault}
use Rattle.message.specs.declared.Message.{Message}
use Rattle.message.specs.declared.refusal.Refusal.TheVariants.{OutOfRange}
use Rattle.message.proofs.CopiedLaws.{copied-whole}
use Rattle.reader.specs.Parts.{carrier_at, head_behind, head_at, numbers_at, bare_body, has_numbers, tail_of, own_at}
use Rattle.reader.specs.Answers.{bare_told, whole_told, whole_read, identifier_copied, bare_message}
use Rattle.reader.specs.declared.Head.{Head}
use Rattle.reader.specs.declared.Numbered.{Numbered}
use Rattle.reader.specs.declared.Tail.{Tail}

-- what holds of a number holds of any that is it
by_number : (P : ℕ → Type 0) (t k : ℕ) → P k → (eqb t k ≡ false → P t) → P t
by_number P t k here other = go (eqb t k) refl
  where
    go : (b : Bool) → eqb t k ≡ b → P t
    go true e = subst P (sym (eqb-true t k e)) here
    go false e = other e

-- ---- the fields, by the number of the type
abbrev by-numbers : ℕ → Carrier → List ℕ → ℕ → Read Fields
by-numbers type carrier s at = pick (has_numbers type carrier) (numbers_at (tail_of type) s at) (own_at type s at)

fields-by : (type : ℕ) (carrier : Carrier) (s : List ℕ) (at : ℕ) → by-numbers type carrier s at ≡ fields_at type carrier s at
unfolding has_numbers tail_of own_at bare_body numbers_at request_at elements_at fields_at
fields-by type carrier s at =
    let P : ℕ → Type 0 = λ n. by-numbers n carrier s at ≡ fields_at n carrier s at in
    by_number P type 1 refl (λ n1.
    by_number P type 2 refl (λ n2.
    by_number P type 3 refl (λ n3.
    by_number P type 4 refl (λ n4.
    by_number P type 5 refl (λ n5.
    by_number P type 6 refl (λ n6.
    by_number P type 7 refl (λ n7.
    by_number P type 8 refl (λ n8.
    by_number P type 9 refl (λ n9.
    by_number P type 10 refl (λ n10.
    by_number P type 11 refl (λ n11. rw (n1, n2, n3, n4, n5, n6, n7, n8, n9, n10, n11))))))))))))

pub fields-numbers : (type : ℕ) (carrier : Carrier) (s : List ℕ) (at : ℕ) → has_numbers type carrier ≡ true → numbers_at (tail_of type) s at ≡ fields_at type carrier s at
fields-numbers type carrier s at has = rw has at (fields-by type carrier s at)

pub fields-own : (type : ℕ) (carrier : Carrier) (s : List ℕ) (at : ℕ) → has_numbers type carrier ≡ false → own_at type s at ≡ fields_at type carrier s at
fields-own type carrier s at has = rw has at (fields-by type carrier s at)

pub whole-told : (r : Read Fields) → whole_told (whole_read r) ≡ r
whole-told (Ok (fields, next)) = refl
whole-told (Err fault) = refl

-- what the answer for the fields tells of a message that has numbers, and of one that has none
pub numbers_told_lem :
    (type : ℕ) (carrier : Carrier) (s : List ℕ) (at : ℕ) (has : Tail) (r known : Result (Numbered × ℕ) Fault) →
    has_numbers type carrier ≡ true → has ≡ tail_of type → r ≡ whole_read (numbers_at has s at) → r ≡ known → fields_at type carrier s at ≡ whole_told known
numbers_told_lem type carrier s at has r known numbered tail e is =
    sym (fields-numbers type carrier s at numbered) ∙ sym (whole-told _) ∙ ap whole_told (rw (← tail) (sym e ∙ is))

pub own_told_lem :
    (type : ℕ) (carrier : Carrier) (s : List ℕ) (at : ℕ) (r known : Result (Body × ℕ) Fault) →
    has_numbers type carrier ≡ false → bare_told at r ≡ own_at type s at → r ≡ known → fields_at type carrier s at ≡ bare_told at known
own_told_lem type carrier s at r known bare e is = sym (fields-own type carrier s at bare) ∙ sym e ∙ ap (bare_told at) is

-- ---- the message behind its head
abbrev pub behind_fields : Head → List ℕ → ℕ → Read Fields → Read Message
behind_fields h s from r = and_then r (λ fields behind. took (message_with h.carrier h.identified (identifier_copied h.identified s h.at) s from fields) behind)

abbrev message-behind : List ℕ → Head → ℕ → Read Message
message-behind s h from = behind_fields h s from (fields_at h.typeNumber h.carrier s from)

then-both :
    {A B C : Type 0} (r : Read A) (f : A → ℕ → Read C) (g : A → ℕ → Read B) (k : B → ℕ → Read C) → ((v : A) (n : ℕ) → f v n ≡ and_then (g v n) k) →
    and_then r f ≡ and_then (and_then r g) k
then-both (Ok (v, n)) f g k same = same v n
then-both (Err x) f g k same = refl

then-made : {A B C : Type 0} (r : Read A) (make : A → B) (f : B → ℕ → Read C) → and_then r (λ v n. f (make v) n) ≡ and_then (and_then r (λ v n. took (make v) n)) f
then-made (Ok (v, n)) make f = refl
then-made (Err x) make f = refl

identifier-behind :
    (type : ℕ) (carrier : Carrier) (identified : Bool) (s : List ℕ) (at : ℕ) →
    behind_identified type carrier identified s at ≡
    and_then (and_then (identifier_at identified s at) (λ identifier from. took (record { typeNumber = type; carrier = carrier; identified = identified; at = at }) from)) (message-behind s)
unfolding behind_identified identifier_at
identifier-behind type carrier false s at = refl
identifier-behind type carrier true s at = go (ltb (length s) (at + 16)) refl
  where
    go : (b : Bool) → ltb (length s) (at + 16) ≡ b → behind_identified type carrier true s at ≡ and_then (and_then (identifier_at true s at) (λ identifier from. took (record { typeNumber = type; carrier = carrier; identified = true; at = at }) from)) (message-behind s)
    go true t = rw (t)
    go false t = rw (t, copied-whole s at (ltb-false (length s) (at + 16) t))

pub message-head : (s : List ℕ) → message_at s ≡ and_then (head_at s) (message-behind s)
unfolding message_at head_at carrier_at head_behind behind_head
message-head s =
    then-both (field_at s 0 1 12) _ _ (message-behind s) (λ type next.
    then-made (field_at s next 1 5) carrier_of (λ carrier behind. behind_head type carrier s behind) ∙
    then-both (carrier_at s next) _ _ (message-behind s) (λ carrier behind.
    then-both (identified_at s behind) _ _ (message-behind s) (λ identified at.
    identifier-behind type carrier identified s at)))

pub message-told :
    (s : List ℕ) (h : Head) (from : ℕ) (r : Read Fields) → head_at s ≡ took h from → fields_at h.typeNumber h.carrier s from ≡ r →
    message_at s ≡ behind_fields h s from r
message-told s h from r e f = message-head s ∙ rw (e, f)

-- numbers that end where they begin are sixteen zeros
pub message-bare :
    (s : List ℕ) (h : Head) (from : ℕ) (body : Body) (next : ℕ) → head_at s ≡ took h from → fields_at h.typeNumber h.carrier s from ≡ plain_at from body next →
    message_at s ≡
    took (bare_message h.carrier h.identified (identifier_copied h.identified s h.at) body) next
message-bare s h from body next e f =
    let none : from - from ≡ 0 = omega arith in
    rw (message-told s h from _ e f, none)

-- ---- the head, by whether there is an identifier
pub head-short :
    (type : ℕ) (carrier : Carrier) (s : List ℕ) (place : ℕ) (identified : Bool) (at : ℕ) → identified_at s place ≡ took identified at → identified ≡ true →
    length s - at < 16 → head_behind type carrier s place ≡ ended_in s
unfolding head_behind identifier_at
head-short type carrier s place identified at e given short = rw (e, given, lt-ltb (length s) (at + 16) (omega arith))

pub head-whole :
    (type : ℕ) (carrier : Carrier) (s : List ℕ) (place : ℕ) (identified : Bool) (at : ℕ) → identified_at s place ≡ took identified at → identified ≡ true →
    16 ≤ length s - at → head_behind type carrier s place ≡ took (record { typeNumber = type; carrier = carrier; identified = identified; at = at }) (at + 16)
unfolding head_behind identifier_at
head-whole type carrier s place identified at e given whole = rw (e, given, le-ltb (length s) (at + 16) (omega arith))

pub head-none :
    (type : ℕ) (carrier : Carrier) (s : List ℕ) (place : ℕ) (identified : Bool) (at : ℕ) → identified_at s place ≡ took identified at → identified ≡ false →
    head_behind type carrier s place ≡ took (record { typeNumber = type; carrier = carrier; identified = identified; at = at }) at
unfolding head_behind identifier_at
head-none type carrier s place identified at e given = rw (e, given)

-- ---- a number that is looked at without its range, or within a wider one
then-within :
    {A : Type 0} (at high : ℕ) (k : ℕ → ℕ → Read A) → ((v n : ℕ) → high < v → k v n ≡ wrong_at OutOfRange at) → (r : Read ℕ) → and_then r k ≡ and_then (and_then r (within at 0 high)) k
then-within at high k over (Err x) = refl
then-within at high k over (Ok (v, n)) = go (ltb high v) refl
  where
    go : (b : Bool) → ltb high v ≡ b → k v n ≡ and_then (within at 0 high v n) k
    go true t = rw (le-ltb v 0 (omega arith), t) (over v n (ltb-true high v t))
    go false t = rw (le-ltb v 0 (omega arith), t)

abbrev length-known : ℕ → ℕ → ℕ → Read Bool
length-known at length next = pick (eqb length 16) (took true next) (pick (eqb length 0) (took false next) (wrong_at OutOfRange at))

pub identified-field : (s : List ℕ) (at : ℕ) → identified_at s at ≡ and_then (field_at s at 0 127) (length-known at)
unfolding identified_at field_at
identified-field s at = then-within at 127 (length-known at) (λ v n over. rw (ne_eqb v 16 (omega arith), ne_eqb v 0 (omega arith))) (number_at s at)

abbrev carrier-known : ℕ → ℕ → ℕ → Read Carrier
carrier-known at n next =
    pick (eqb n 1) (took Setup next)
    (pick (eqb n 2) (took Connect next)
    (pick (eqb n 3) (took Facility next)
    (pick (eqb n 4) (took ReleaseComplete next)
    (pick (eqb n 5) (took Alerting next)
    (wrong_at OutOfRange at)))))

carrier-by : (at v n : ℕ) → and_then (within at 1 5 v n) (λ m next. took (carrier_of m) next) ≡ carrier-known at v n
unfolding carrier_of
carrier-by at v n =
    let P : ℕ → Type 0 = λ m. and_then (within at 1 5 m n) (λ m' next. took (carrier_of m') next) ≡ carrier-known at m n in
    by_number P v 0 refl (λ n0.
    by_number P v 1 refl (λ n1.
    by_number P v 2 refl (λ n2.
    by_number P v 3 refl (λ n3.
    by_number P v 4 refl (λ n4.
    by_number P v 5 refl (λ n5.
    let e0 = eqb-false v 0 n0 in
    let e1 = eqb-false v 1 n1 in
    let e2 = eqb-false v 2 n2 in
    let e3 = eqb-false v 3 n3 in
    let e4 = eqb-false v 4 n4 in
    let e5 = eqb-false v 5 n5 in
    let over : 5 < v = omega arith in
    rw (le-ltb v 1 (omega arith), lt-ltb 5 v over, n1, n2, n3, n4, n5)))))))

carrier-then : (at : ℕ) (r : Read ℕ) → and_then (and_then r (within at 1 5)) (λ m next. took (carrier_of m) next) ≡ and_then r (carrier-known at)
carrier-then at (Ok (v, n)) = carrier-by at v n
carrier-then at (Err x) = refl

pub carrier-field : (s : List ℕ) (at : ℕ) → carrier_at s at ≡ and_then (field_at s at 0 127) (carrier-known at)
unfolding carrier_at field_at
carrier-field s at =
    carrier-then at (number_at s at) ∙
    then-within at 127 (carrier-known at) (λ v n over. rw (ne_eqb v 1 (omega arith), ne_eqb v 2 (omega arith), ne_eqb v 3 (omega arith), ne_eqb v 4 (omega arith), ne_eqb v 5 (omega arith))) (number_at s at)
