-- What an ask stores is in range: the entry makes an input only of an ask in range, and a number in range stays in range as words.
use Rattle.std.specs.Prelude.{Ok, Err}
use Prim.Native.Nat.{ℕ, ◌<◌}
use mathlib.Core.Path.{◌≡◌, refl, subst}
use mathlib.Core.Bool.{true}
use lib.Dec.{ltb}
use native.Mathlib.Omega.{arith}
use borrow.Author.Tests.{ltb-true}
use Rattle.lists.proofs.Choice.{no_true, pick-then}
use Rattle.message.specs.Format.{request_body, request_in_range, in_range}
use Rattle.message.specs.declared.Kind.{Kind}
use Rattle.message.specs.declared.Kind.TheVariants.{Ccbs, Ccnr}
use Rattle.message.specs.declared.Message.{Message}
use Rattle.message.proofs.RangeLaws.{request-ranged, RequestRanged}
use Rattle.message.specs.declared.refusal.Refusal.TheVariants.{OutOfRange}
use Rattle.message.specs.declared.refusal.Refusal.{Refusal}
use Rattle.desk.specs.Letter.{letter_of}
use Rattle.desk.proofs.LetterLaws.{number-kept}
use Rattle.terms.specs.declared.request.Names.{Names}
use Rattle.terms.specs.declared.request.Request.{Request}
use Rattle.clerk_table.specs.declared.inputs.Input.{Input}
use Rattle.clerk_plan.specs.Plan.{new_record}
use Rattle.clerk.specs.Entry.{ask_flags, ask_request, ask_message, ask_names, ask_entry}
use Rattle.clerk.specs.declared.entry.Asking.{Asking}
use Rattle.clerk_sound.specs.Sound.{Whole, Typed, Fair, asks}

-- what is told of an ask that the entry makes an input of
pub record Entered (a : Asking) (names : Names) (q : Request) : Type 0 where
  pub preference : a.preference < 3
  pub ranged : in_range (ask_message a) ≡ true
  pub its-names : ask_names a ≡ names
  pub its-request : ask_request a ≡ q

pub no-input : {refusal : Refusal} {input : Input} → Err refusal ≡ Ok input → ⊥
no-input e = let z : ◌≡◌ {A = ℕ} 0 1 = cc in omega arith

pub ask-entered : (a : Asking) (names : Names) (q : Request) → ask_entry a ≡ Ok (Input.Ask names q) → Entered a names q
unfolding ask_entry
ask-entered a names q e =
    let p = pick-then (ltb a.preference 3) _ (Err OutOfRange) (Ok (Input.Ask names q)) no-input e in
    let r = pick-then (in_range (ask_message a)) _ (Err OutOfRange) (Ok (Input.Ask names q)) no-input p.1 in
    let same = r.1 in
    record { preference = ltb-true a.preference 3 p.0; ranged = r.0; its-names = cc; its-request = cc }

-- a request has its own fields, and no elements
request-fields : (kind : Kind) (service flags : ℕ) (m : Message) → m.body ≡ request_body kind service flags → in_range m ≡ true → request_in_range m.numberA m.numberB service flags ≡ true
unfolding in_range
request-fields Ccbs service flags m body e = rw body at e
request-fields Ccnr service flags m body e = rw body at e

-- a new record waits for its acknowledgment, and its fields are the ask's
ask-whole : (a : Asking) → Typed a → in_range (ask_message a) ≡ true → Whole (new_record (ask_names a) (ask_request a))
unfolding letter_of
ask-whole a typed e =
    let r : RequestRanged a.numberA a.numberB a.service (ask_flags a.canKeep a.preference) =
    request-ranged a.numberA a.numberB a.service (ask_flags a.canKeep a.preference)
    (request-fields a.kind a.service (ask_flags a.canKeep a.preference) (ask_message a) refl e) in
    record {
      before = λ e. (refl, refl);
      behind = λ n. absurd (n refl);
      fell = λ f. absurd (no_true f);
      numberA = number-kept a.numberA 0 typed.length_a typed.bytes_a r.range_a;
      numberB = number-kept a.numberB 1 typed.length_b typed.bytes_b r.range_b;
      service = r.most_service;
    }

pub fair-whole : {names : Names} {q : Request} → Fair (Input.Ask names q) → Whole (new_record names q)
fair-whole {names} {q} (asks a typed e) =
    let its = ask-entered a names q e in
    subst (λ (n : Names). Whole (new_record n q)) its.its-names
    (subst (λ (x : Request). Whole (new_record (ask_names a) x)) its.its-request (ask-whole a typed its.ranged))
