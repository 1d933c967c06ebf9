-- The first free place of a sound list is behind all used ones, and each ask that is taken is one more: so as many asks as there are places fill a desk.
use Rattle.std.specs.Prelude.{Some, None, Ok, Result}
use Prim.Native.Nat.{ℕ, suc, ◌≤◌, ◌<◌}
use mathlib.Core.Path.{◌≡◌, refl, sym, ap, ◌∙◌, subst}
use mathlib.Core.Bool.{true}
use mathlib.Core.List.{List}
use lib.ListN.{length, set}
use native.Mathlib.Omega.{arith}
use borrow.Author.Tests.{lt-ltb}
use Rattle.lists.specs.Lists.{without}
use Rattle.message.specs.declared.refusal.Refusal.TheVariants.{Full}
use Rattle.message.specs.declared.refusal.Refusal.{Refusal}
use Rattle.desk.specs.Letter.{letter_of}
use Rattle.terms.specs.declared.request.Names.{Names}
use Rattle.terms.specs.declared.request.Request.{Request}
use Rattle.places.specs.Places.{stored}
use Rattle.places.proofs.Counting.{stored-most, stored-none, stored_more, stored_same, stored-fewer, place-room, place-full}
use Rattle.clerk_table.specs.declared.record.Record.{Record}
use Rattle.clerk_table.specs.declared.record.Decision.{Decision}
use Rattle.clerk_table.specs.declared.record.Decision.TheVariants.{Refuse, Store}
use Rattle.clerk_table.specs.declared.inputs.Input.{Input}
use Rattle.clerk_records.specs.Layout.{places}
use Rattle.clerk_records.specs.Records.{blank, records, used, place}
use Rattle.clerk_records.specs.Meaning.{identifier_means}
use Rattle.clerk_records.proofs.RecordsLaws.{records-length}
use Rattle.clerk_plan.specs.Plan.{decided, plan_of, plan_for}
use Rattle.clerk.specs.Entry.{ask_request, ask_names, ask_entry}
use Rattle.clerk.specs.Start.{started_desk}
use Rattle.clerk.specs.Steps.{step, made, entered, asked}
use Rattle.clerk.specs.declared.start.Lengths.{Lengths}
use Rattle.clerk.proofs.StepsLaws.{records-made}
use Rattle.clerk.specs.declared.Desk.{Desk}
use Rattle.clerk.specs.declared.entry.Asking.{Asking}
use Rattle.desk.specs.declared.outcome.Stepped.{Stepped}
use Rattle.clerk_sound.specs.Sound as S
use Rattle.clerk_sound.specs.Sound.{clerk_view, Sound, Reached, Sixteen, AskSixteen, Proper, asked_record, AskedBehind, Asks, SeventeenthRefused}
use Rattle.clerk_sound.proofs.Start.{blank-unused, start-blank}
use Rattle.clerk_sound.proofs.Reaching.{reached-sound, reached-full}

-- ---- the first free place, and counts
place_at : (rs : List Record) → Sound rs → length rs ≡ places → stored clerk_view rs < places → place rs ≡ Some (stored clerk_view rs)
unfolding place
place_at rs sound l h = place-room clerk_view rs places sound.placed l h

place_none : (rs : List Record) → length rs ≡ places → stored clerk_view rs ≡ places → place rs ≡ None
unfolding place
place_none rs l h = place-full clerk_view rs places l h

place-more :
    (rs : List Record) (r : Record) → Sound rs → length rs ≡ places → stored clerk_view rs < places → used r ≡ true →
    stored clerk_view (set rs (stored clerk_view rs) r) ≡ suc (stored clerk_view rs)
unfolding place
place-more rs r sound l h is = stored_more clerk_view rs (stored clerk_view rs) r (place_at rs sound l h) is

pub sixteen : Sixteen
sixteen =
    record {
      most = λ rs l. stored-most clerk_view rs places l;
      room = place_at;
      full = λ rs sound. place_none rs;
      more = place-more;
      same = λ rs i r was is. stored_same clerk_view rs i r (is ∙ sym was);
      fewer = λ rs i was. stored-fewer clerk_view rs i blank-unused was;
    }

-- ---- asks
module _ (rs : List Record) (names : Names) (q : Request) (sound : Sound rs) (n : length rs ≡ places) (new : identifier_means names.identifier rs ≡ None) where
  ask-taken : stored clerk_view rs < places → decided rs (Input.Ask names q) ≡ Store (stored clerk_view rs) q
  unfolding decided
  ask-taken h = rw (new, place_at rs sound n h)

  ask-refused : stored clerk_view rs ≡ places → decided rs (Input.Ask names q) ≡ Refuse Full None
  unfolding decided
  ask-refused h = rw (new, place_none rs n h)

pub ask-sixteen : AskSixteen
ask-sixteen = record { taken = ask-taken; refused = ask-refused }

-- ---- asks on a desk
abbrev ask_input : Asking → Input
ask_input a = Input.Ask (ask_names a) (ask_request a)

asked_entry : (d : Desk) (a : Asking) → Proper d a → ask_entry a ≡ Ok (ask_input a)
unfolding ask_entry
asked_entry d a proper = rw (lt-ltb a.preference 3 proper.preference, proper.ranged)

asked-decision :
    (d : Desk) (count : ℕ) (a : Asking) → Proper d a → (decision : Decision) → decided (records d.words) (ask_input a) ≡ decision →
    asked d count a ≡ made d count (plan_of (records d.words) (ask_input a) decision)
unfolding entered step plan_for
asked-decision d count a proper decision e =
    ap (entered d count) (asked_entry d a proper) ∙ ap (λ (x : Decision). made d count (plan_of (records d.words) (ask_input a) x)) e

module _ (d : Desk) (reached : Reached d) (count : ℕ) (a : Asking) (proper : Proper d a) where
  abbrev rs : List Record
  rs = records d.words

  new : identifier_means (ask_names a).identifier rs ≡ None
  unfolding letter_of
  new = proper.new

  asked-taken : stored clerk_view rs < places → asked d count a ≡ made d count (plan_of rs (ask_input a) (Store (stored clerk_view rs) (ask_request a)))
  asked-taken h =
      asked-decision d count a proper _ (ask-taken rs (ask_names a) (ask_request a) (reached-sound d reached) (records-length d.words) new h)

  asked-full : stored clerk_view rs ≡ places → (asked d count a).outcome.refusal ≡ Some Full
  unfolding plan_of
  asked-full h =
      ap (λ (x : Stepped Desk). x.outcome.refusal)
      (asked-decision d count a proper _ (ask-refused rs (ask_names a) (ask_request a) (reached-sound d reached) (records-length d.words) new h))

  asked-records : stored clerk_view rs < places → records (asked d count a).desk.words ≡ set rs (stored clerk_view rs) (asked_record a)
  unfolding plan_of
  asked-records h = ap (λ (x : Stepped Desk). records x.desk.words) (asked-taken h) ∙ records-made d (reached-full d reached) count (plan_of rs (ask_input a) (Store (stored clerk_view rs) (ask_request a)))

  asked-accepted : stored clerk_view rs < places → (asked d count a).outcome.refusal ≡ None
  unfolding plan_of
  asked-accepted h = ap (λ (x : Stepped Desk). x.outcome.refusal) (asked-taken h)

  asked-told : stored clerk_view rs < places → (asked d count a).outcome.at ≡ Some (stored clerk_view rs)
  unfolding plan_of
  asked-told h = ap (λ (x : Stepped Desk). x.outcome.at) (asked-taken h)

pub asked-behind : AskedBehind
asked-behind =
    record {
      taken = λ d reached count a proper h. (asked-accepted d reached count a proper h, asked-records d reached count a proper h);
      told = λ d reached count a proper h. asked-told d reached count a proper h;
      refused = λ d reached count a proper h. asked-full d reached count a proper h;
      again = λ d after i u e reached count a proper.
          let n : suc (stored clerk_view (without blank (records d.words) i)) ≡ stored clerk_view (records d.words) = stored-fewer clerk_view (records d.words) i blank-unused u in
          asked-accepted after reached count a proper (omega (arith, n, ap (stored clerk_view) e, stored-most clerk_view (records d.words) places (records-length d.words)));
    }

-- ---- as many asks as there are places, from the start
asks-reached : {d : Desk} {n : ℕ} → Asks d n → Reached d
unfolding entered
asks-reached (S.none lengths) = S.starts lengths
asks-reached (S.more {d} count a proper before) =
    subst (λ (entry : Result Input Refusal). Reached (entered d count entry).desk) (sym (asked_entry d a proper))
    (S.steps count (S.asks a proper.typed (asked_entry d a proper)) (asks-reached before))

start-count : (lengths : Lengths) → stored clerk_view (records (started_desk lengths).words) ≡ 0
start-count lengths = stored-none clerk_view (records (started_desk lengths).words) (λ j. ap used (start-blank lengths j) ∙ blank-unused)

asks-count : {d : Desk} {n : ℕ} → Asks d n → n ≤ places → stored clerk_view (records d.words) ≡ n
asks-count (S.none lengths) h = start-count lengths
asks-count (S.more {d} {n} count a proper before) h =
    let c : stored clerk_view (records d.words) ≡ n = asks-count before (omega arith) in
    let room : stored clerk_view (records d.words) < places = omega arith in
    ap (stored clerk_view) (asked-records d (asks-reached before) count a proper room)
    ∙ place-more (records d.words) (asked_record a) (reached-sound d (asks-reached before)) (records-length d.words) room refl
    ∙ ap suc c

pub seventeenth_refused : SeventeenthRefused
seventeenth_refused =
    record {
      taken = λ d n before count a proper h. asked-accepted d (asks-reached before) count a proper (omega (arith, asks-count before (omega arith)));
      refused = λ d before count a proper. asked-full d (asks-reached before) count a proper (asks-count before (omega arith));
    }
