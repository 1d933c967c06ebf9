-- Messages as they are sent and read again: identifiers give their words back, every message of a request that is kept is clear, and an ask's message is the request that the reading says.
use Rattle.lists.specs.declared.words.Words.{Words}
use Rattle.std.specs.Prelude.{Option, Some, None, Ok, Err, Result}
use Prim.Native.Nat.{ℕ, ◌/◌, ◌%◌, ◌<◌}
use mathlib.Core.Path.{◌≡◌, refl, sym, ap, ◌∙◌, subst}
use mathlib.Core.Bool.{Bool, true, false}
use mathlib.Core.List.{List}
use lib.Dec.{ltb, eqb}
use lib.ListN.{length}
use native.Mathlib.Omega.{arith}
use borrow.Author.Tests.{lt-ltb, eqb-true, eqb-false}
use Rattle.lists.specs.Choice.{pick}
use Rattle.lists.specs.Words.{Bytes, word, octets, words_of, bytes_of}
use Rattle.lists.proofs.Choice.{pick_elim, no_true}
use Rattle.lists.proofs.WordsLaws.{bytes-words}
use Rattle.message.specs.Number.{digits_in_range}
use Rattle.message.specs.Format.{has_elements, request_body, request_in_range, fields_in_range, elements_in_range, in_range}
use Rattle.message.specs.declared.Carrier.{Carrier}
use Rattle.message.specs.declared.Carrier.TheVariants.{Setup}
use Rattle.message.specs.declared.Body.{Body}
use Rattle.message.specs.declared.Kind.{Kind}
use Rattle.message.specs.declared.Kind.TheVariants.{Ccbs, Ccnr}
use Rattle.message.proofs.RangeLaws.{request-ranged, RequestRanged, digits-other}
use Rattle.message.specs.declared.refusal.Refusal.{Refusal}
use Rattle.desk.specs.Letter.{identifier_of, is_identified, identifier_words, number_words, letter_of, message_of}
use Rattle.desk.specs.Sends.{no_number, plain_letter, full_letter}
use Rattle.desk.specs.declared.sends.Elements.{Elements}
use Rattle.desk.specs.declared.letter.Letter.{Letter}
use Rattle.desk.proofs.LetterLaws.{number-kept, number_same}
use Rattle.terms.specs.Request.{can_keep_sent, letter_names, request_letter}
use Rattle.terms.specs.declared.request.Names.{Names}
use Rattle.terms.specs.declared.request.Request.{Request}
use Rattle.clerk_table.specs.declared.inputs.Input.{Input}
use Rattle.clerk.specs.Entry.{ask_flags, ask_request, ask_message, ask_names, ask_entry}
use Rattle.clerk.specs.declared.entry.Asking.{Asking}
use Rattle.clerk_sound.specs.Sound.{Typed, Fair, asks}
use Rattle.pair_request.specs.Reading as R
use Rattle.pair_request.specs.Listed.{NotReq}
use Rattle.pair.specs.World.{name_of, by_place}
use Rattle.pair.proofs.Ends.{names_read, letter_read, set_of, message_read, ClearLetter, Clear, KeptName, Kept, ask_elements, ask_read}

-- ---- identifiers
-- every message carries the identifier of its request, or none
pub letter-name : (e : Elements) (m : R.Msg) → (letter_read e m).identifier ≡ e.identifier
letter-name e (R.request d kind q) = refl
letter-name e (R.result k n) = refl
letter-name e (R.denied short) = refl
letter-name e (R.exec R.ret) = refl
letter-name e (R.exec R.rls) = refl
letter-name e R.ringout = refl
letter-name e R.busy_again = refl
letter-name e R.no_match = refl
letter-name e (R.suspend n) = refl
letter-name e (R.resume R.ret) = refl
letter-name e (R.resume R.rls) = refl
letter-name e (R.cancel R.ret) = refl
letter-name e (R.cancel R.rls) = refl
letter-name e R.alerts = refl
letter-name e R.failed = refl

-- and its body and carrier are those of its sort
pub letter-body : (e y : Elements) (m : R.Msg) → NotReq m → (letter_read e m).body ≡ (letter_read y m).body
letter-body e y (R.request d kind q) never = absurd never
letter-body e y (R.result k n) plain = refl
letter-body e y (R.denied short) plain = refl
letter-body e y (R.exec R.ret) plain = refl
letter-body e y (R.exec R.rls) plain = refl
letter-body e y R.ringout plain = refl
letter-body e y R.busy_again plain = refl
letter-body e y R.no_match plain = refl
letter-body e y (R.suspend n) plain = refl
letter-body e y (R.resume R.ret) plain = refl
letter-body e y (R.resume R.rls) plain = refl
letter-body e y (R.cancel R.ret) plain = refl
letter-body e y (R.cancel R.rls) plain = refl
letter-body e y R.alerts plain = refl
letter-body e y R.failed plain = refl

pub letter-carrier : (e y : Elements) (m : R.Msg) → (letter_read e m).carrier ≡ (letter_read y m).carrier
letter-carrier e y (R.request d kind q) = refl
letter-carrier e y (R.result k n) = refl
letter-carrier e y (R.denied short) = refl
letter-carrier e y (R.exec R.ret) = refl
letter-carrier e y (R.exec R.rls) = refl
letter-carrier e y R.ringout = refl
letter-carrier e y R.busy_again = refl
letter-carrier e y R.no_match = refl
letter-carrier e y (R.suspend n) = refl
letter-carrier e y (R.resume R.ret) = refl
letter-carrier e y (R.resume R.rls) = refl
letter-carrier e y (R.cancel R.ret) = refl
letter-carrier e y (R.cancel R.rls) = refl
letter-carrier e y R.alerts = refl
letter-carrier e y R.failed = refl

-- with elements it names all that its request has
abbrev pub full_names : Elements → Names
full_names e = record { identifier = e.identifier; numberA = e.numberA; numberB = e.numberB; service = Some e.service }

pub set-names : (e : Elements) (m : R.Msg) → set_of e m ≡ true → letter_names (letter_read e m) ≡ full_names e
set-names e (R.request d Ccbs q) set = absurd (no_true set)
set-names e (R.request d Ccnr q) set = absurd (no_true set)
set-names e (R.result k n) set = absurd (no_true set)
set-names e (R.denied short) set = absurd (no_true set)
set-names e (R.exec R.ret) set = absurd (no_true set)
set-names e (R.exec R.rls) set = refl
set-names e R.ringout set = refl
set-names e R.busy_again set = absurd (no_true set)
set-names e R.no_match set = absurd (no_true set)
set-names e (R.suspend n) set = absurd (no_true set)
set-names e (R.resume R.ret) set = absurd (no_true set)
set-names e (R.resume R.rls) set = refl
set-names e (R.cancel R.ret) set = absurd (no_true set)
set-names e (R.cancel R.rls) set = refl
set-names e R.alerts set = absurd (no_true set)
set-names e R.failed set = absurd (no_true set)

-- without an identifier and without elements it goes by the place
pub by_place_lem : (e : Elements) (m : R.Msg) → e.identifier ≡ None → set_of e m ≡ false → by_place (message_read e m) ≡ true
unfolding message_of
by_place_lem e m absent set =
    let a : is_identified (letter_read e m).identifier ≡ false = ap is_identified (letter-name e m ∙ absent) in
    rw (a, set)

pub clear-name : (e : Elements) (m : R.Msg) → Clear e m → KeptName e.identifier
unfolding letter_of message_of
clear-name e m clear =
    let q : KeptName (letter_read e m).identifier = ap (λ (l : Letter). l.identifier) clear.back in
    subst KeptName (letter-name e m) q

pub sent-name : (e : Elements) (m : R.Msg) → KeptName e.identifier → name_of (message_read e m) ≡ e.identifier
unfolding message_of
sent-name e m kept = ap (λ (x : Option Words). identifier_of (is_identified x) (bytes_of (identifier_words x))) (letter-name e m) ∙ kept

-- ---- messages without elements, and with them
no_number_lem : number_words (bytes_of no_number) ≡ no_number
unfolding number_words bytes_of words_of octets word
no_number_lem = refl

plain_back : (i : Option Words) (carrier : Carrier) (body : Body) → KeptName i → letter_of (message_of (plain_letter i carrier body)) ≡ plain_letter i carrier body
unfolding letter_of message_of
plain_back i carrier body kept =
    λ x. record { carrier = carrier; identifier = kept x; numberA = no_number_lem x; numberB = no_number_lem x; service = None; body = body }

full_back : (e : Elements) (carrier : Carrier) (body : Body) → Kept e → letter_of (message_of (full_letter e carrier body)) ≡ full_letter e carrier body
unfolding letter_of message_of
full_back e carrier body kept =
    let name = kept.identifier in
    let a = kept.numberA in
    let b = kept.numberB in
    λ x. record { carrier = carrier; identifier = name x; numberA = a x; numberB = b x; service = Some e.service; body = body }

full-ranged : (e : Elements) → Kept e → elements_in_range (bytes_of e.numberA) (bytes_of e.numberB) (Some e.service) ≡ true
full-ranged e kept =
    rw (kept.range_a, digits-other (bytes_of e.numberB) 1 0 kept.range_b (omega arith)) (lt-ltb e.service 16384 kept.service)

pub clear-plain : (e : Elements) (m : R.Msg) → NotReq m → Kept e → Clear e m
unfolding in_range message_of
clear-plain e (R.request d kind q) never kept = absurd never
clear-plain e (R.result true n) plain kept = record { back = plain_back _ _ _ kept.identifier; ranged = refl }
clear-plain e (R.result false n) plain kept = record { back = plain_back _ _ _ kept.identifier; ranged = refl }
clear-plain e (R.denied true) plain kept = record { back = plain_back _ _ _ kept.identifier; ranged = refl }
clear-plain e (R.denied false) plain kept = record { back = plain_back _ _ _ kept.identifier; ranged = refl }
clear-plain e (R.exec R.ret) plain kept = record { back = plain_back _ _ _ kept.identifier; ranged = refl }
clear-plain e (R.exec R.rls) plain kept = record { back = full_back _ _ _ kept; ranged = full-ranged e kept }
clear-plain e R.ringout plain kept = record { back = full_back _ _ _ kept; ranged = full-ranged e kept }
clear-plain e R.busy_again plain kept = record { back = plain_back _ _ _ kept.identifier; ranged = refl }
clear-plain e R.no_match plain kept = record { back = plain_back _ _ _ kept.identifier; ranged = refl }
clear-plain e (R.suspend n) plain kept = record { back = plain_back _ _ _ kept.identifier; ranged = refl }
clear-plain e (R.resume R.ret) plain kept = record { back = plain_back _ _ _ kept.identifier; ranged = refl }
clear-plain e (R.resume R.rls) plain kept = record { back = full_back _ _ _ kept; ranged = full-ranged e kept }
clear-plain e (R.cancel R.ret) plain kept = record { back = plain_back _ _ _ kept.identifier; ranged = refl }
clear-plain e (R.cancel R.rls) plain kept = record { back = full_back _ _ _ kept; ranged = full-ranged e kept }
clear-plain e R.alerts plain kept = record { back = plain_back _ _ _ kept.identifier; ranged = refl }
clear-plain e R.failed plain kept = record { back = plain_back _ _ _ kept.identifier; ranged = refl }

-- ---- the message of an ask
pub request-fields :
    (kind : Kind) (a b : List ℕ) (service flags : ℕ) → fields_in_range a b (request_body kind service flags) ≡ request_in_range a b service flags
request-fields Ccbs a b service flags = refl
request-fields Ccnr a b service flags = refl

-- and it has no elements of its own: numbers and service are fields
request-plain :
    (kind : Kind) (service flags : ℕ) (a b : List ℕ) →
    pick (has_elements (request_body kind service flags) Setup) (elements_in_range a b None) (fields_in_range a b (request_body kind service flags)) ≡ fields_in_range a b (request_body kind service flags)
request-plain Ccbs service flags a b = refl
request-plain Ccnr service flags a b = refl

request-in-range :
    (a b : List ℕ) (service flags : ℕ) → digits_in_range 0 a ≡ true → digits_in_range 1 b ≡ true → service < 16384 → flags < 6 →
    request_in_range a b service flags ≡ true
request-in-range a b service flags ra rb s f = rw (ra, rb, lt-ltb service 16384 s) (lt-ltb flags 6 f)

kept-name : (identified : Bool) (bytes : List ℕ) → length bytes ≡ 16 → Bytes bytes → KeptName (identifier_of identified bytes)
unfolding identifier_of
kept-name true bytes long all = ap (λ (xs : List ℕ). Some (words_of xs)) (bytes-words bytes long all)
kept-name false bytes long all = refl

-- what an ask in range names, and its message
module _ (a : Asking) (typed : Typed a) (e : in_range (ask_message a) ≡ true) where
  abbrev flags : ℕ
  flags = ask_flags a.canKeep a.preference

  asked-ranged : RequestRanged a.numberA a.numberB a.service flags
  unfolding in_range
  asked-ranged = request-ranged a.numberA a.numberB a.service flags (sym (request-fields a.kind a.numberA a.numberB a.service flags) ∙ sym (request-plain a.kind a.service flags a.numberA a.numberB) ∙ e)

  asked-kept : Kept (ask_elements (ask_names a) (ask_request a))
  unfolding letter_of
  asked-kept =
      let r = asked-ranged in
      record {
        identifier = kept-name a.identified a.identifier typed.length_identifier typed.bytes_identifier;
        numberA = number_same a.numberA 0 typed.length_a typed.bytes_a r.range_a;
        numberB = number_same a.numberB 1 typed.length_b typed.bytes_b r.range_b;
        range_a = number-kept a.numberA 0 typed.length_a typed.bytes_a r.range_a;
        range_b = number-kept a.numberB 1 typed.length_b typed.bytes_b r.range_b;
        service = r.most_service;
      }

-- the request of elements that are kept
request-clear : (e : Elements) (kind : Kind) (flags : ℕ) → Kept e → flags < 6 → ClearLetter (request_letter (names_read e) (record { kind = kind; service = e.service; flags = flags }))
unfolding in_range letter_of message_of
request-clear e kind flags kept few =
    let name = kept.identifier in
    let a = kept.numberA in
    let b = kept.numberB in
    record {
      back = λ x. record { carrier = Setup; identifier = name x; numberA = a x; numberB = b x; service = None; body = request_body kind e.service flags };
      ranged =
          request-plain kind e.service flags (bytes_of e.numberA) (bytes_of e.numberB)
          ∙ request-fields kind (bytes_of e.numberA) (bytes_of e.numberB) e.service flags
          ∙ request-in-range (bytes_of e.numberA) (bytes_of e.numberB) e.service flags kept.range_a kept.range_b kept.service few;
    }

-- ---- an ask that the entry makes
-- the request that an entry's input sends, if it is an ask
abbrev Sends : Result Input Refusal → Type 0
Sends (Err refusal) = Unit
Sends (Ok (Input.Ask names q)) = Kept (ask_elements names q) × (q.flags < 6)
Sends (Ok (Input.Message l busy place)) = Unit
Sends (Ok (Input.Act name act)) = Unit
Sends (Ok (Input.Timer name timer)) = Unit

ask-sends : (a : Asking) → Typed a → Sends (ask_entry a)
unfolding ask_entry
ask-sends a typed =
    pick_elim Sends (ltb a.preference 3)
    (λ t. pick_elim Sends (in_range (ask_message a)) (λ ranged. (asked-kept a typed ranged, (asked-ranged a typed ranged).most_flags)) (λ f. tt))
    (λ f. tt)

-- flags are can-keep plus twice the preference
pub flags-sent : (flags : ℕ) → ask_flags (can_keep_sent flags) (flags / 2) ≡ flags
flags-sent flags =
    pick_elim (λ (x : ℕ). x ≡ flags) (eqb (flags % 2) 1)
    (λ t. let e : flags % 2 ≡ 1 = eqb-true (flags % 2) 1 t in omega (arith, e))
    (λ f. let e : (flags % 2 ≡ 1 → ⊥) = eqb-false (flags % 2) 1 f in omega (arith, e))

pub ask-letter : (names : Names) (q : Request) → letter_read (ask_elements names q) (ask_read q) ≡ request_letter names q
ask-letter names q = ap (λ (flags : ℕ). request_letter names (record { kind = q.kind; service = q.service; flags = flags })) (flags-sent q.flags)

pub ask-kept : (names : Names) (q : Request) → Fair (Input.Ask names q) → Kept (ask_elements names q) × (q.flags < 6)
ask-kept names q (asks a typed e) = subst Sends e (ask-sends a typed)

pub clear-ask : (names : Names) (q : Request) → Fair (Input.Ask names q) → Clear (ask_elements names q) (ask_read q)
clear-ask names q fair =
    let so = ask-kept names q fair in
    subst ClearLetter (sym (ask-letter names q)) (request-clear (ask_elements names q) q.kind q.flags so.0 so.1)
