-- What the signalling of a call tells the clerk's host, handed in as a message: the desk does with the record that it means what the reading says.
use Rattle.lists.specs.declared.words.Words.{Words}
use Rattle.message.specs.declared.Body.{Body}
use Rattle.std.specs.Prelude.{Option, None}
use Prim.Native.Nat.{ℕ}
use mathlib.Core.Path.{◌≡◌, refl, ap, subst}
use mathlib.Core.Bool.{Bool, true}
use mathlib.Core.List.{List}
use lib.ListN.{get_or}
use Rattle.lists.proofs.Choice.{pick_elim}
use Rattle.message.specs.declared.Carrier.{Carrier}
use Rattle.message.specs.declared.Kind.{Kind}
use Rattle.desk.specs.Carriers.{carrier_fits}
use Rattle.desk.specs.Sends.{answered}
use Rattle.desk.specs.declared.Keep.{Keep}
use Rattle.desk.specs.declared.letter.Letter.{Letter}
use Rattle.desk.specs.declared.sends.Elements.{Elements}
use Rattle.terms.specs.declared.means.Means.{Means}
use Rattle.terms.specs.declared.request.Name.{Name}
use Rattle.places.specs.Places.{one}
use Rattle.clerk_table.specs.Inputs.{names_of, message_for, row_for, reply_unfit}
use Rattle.clerk_table.specs.declared.table.Row.{Row}
use Rattle.clerk_table.specs.declared.record.Record.{Record}
use Rattle.clerk_table.specs.declared.record.Decision.{Decision}
use Rattle.clerk_table.specs.declared.record.Decision.TheVariants.{Take}
use Rattle.desk.specs.declared.plan.Plan.{Plan}
use Rattle.clerk_table.specs.declared.inputs.Input.{Input}
use Rattle.clerk_table.specs.declared.inputs.RecordMessage.{RecordMessage}
use Rattle.clerk_table.specs.declared.inputs.RecordMessage.TheVariants as Message
use Rattle.clerk_records.specs.Records.{blank, used, place}
use Rattle.clerk_records.specs.Meaning.{meaning}
use Rattle.clerk_records.proofs.MeaningLaws.{meaning-used}
use Rattle.clerk_plan.specs.Plan.{holds_for, row_decision, message_meant, decided, plan_of, plan_for}
use Rattle.pair_request.specs.Signal.{Signal, call_died, rejected}
use Rattle.pair_request.specs.Reading as R
use Rattle.pair_request.proofs.Effects.{signal-takes}
use Rattle.pair.specs.World.{signal_letter}
use Rattle.pair.proofs.Ends.{clerk_read}
use Rattle.pair.proofs.ClerkEnd.{Says, heard, own-taken, touches_taken, takes, found-says, Acted, refuses, takes-row}
use Rattle.clerk_table.specs.declared.record.Change.{Change}

-- a signal is handed in as a message; its refusal has no reply
module _ (rs : List Record) (x : Signal) (busy : Bool) (input : Input) (l : Letter) (message : RecordMessage) (silent : (carrier : Carrier) → reply_unfit message carrier ≡ None)
    (row : Row) (always : (keep : Keep) (kind : Kind) → row_for message busy keep kind ≡ row) where
  abbrev SaysAll : ℕ → Decision → Type 0
  SaysAll i d =
      (y : Elements) (c : R.Clerk) → one (get_or rs i blank) ≡ clerk_read y c → Says y (plan_of rs (heard y (R.signal_msg x) busy 0) d) (one (get_or rs i blank)) (R.clerk_acts c (R.signal x))

  told-row :
      (i : ℕ) → used (get_or rs i blank) ≡ true → ((y : Elements) → plan_of rs (heard y (R.signal_msg x) busy 0) (Take i row) ≡ plan_of rs input (Take i row)) →
      SaysAll i (row_decision i (get_or rs i blank) l message row) → Acted rs (R.signal x) (plan_of rs input (row_decision i (get_or rs i blank) l message row))
  unfolding plan_of
  told-row i u same =
      let r = get_or rs i blank in
      let quiet = ap (answered (names_of input).identifier) (silent l.carrier) in
      pick_elim (λ (d : Decision). SaysAll i d → Acted rs (R.signal x) (plan_of rs input d)) (holds_for row r)
      (λ h.
      pick_elim (λ (d : Decision). SaysAll i d → Acted rs (R.signal x) (plan_of rs input d)) (carrier_fits l.body r.terms.connection l.carrier)
      (λ g says.
      takes-row i u (touches_taken rs input i row) (own-taken rs input i row)
      (λ y c read. (subst (λ (plan : Plan Change). Says y plan (one r) (R.clerk_acts c (R.signal x))) (same y) (says y c read), refl)))
      (λ g says. refuses refl refl quiet))
      (λ h says. refuses refl refl quiet)

told-says :
    (rs : List Record) (x : Signal) (busy : Bool) (i : ℕ) (y : Elements) (c : R.Clerk) → one (get_or rs i blank) ≡ clerk_read y c →
    Says y (takes rs y (R.signal_msg x) busy (Means.At i)) (one (get_or rs i blank)) (R.clerk_acts c (R.signal x))
told-says rs x busy i y c read =
    subst (Says y (takes rs y (R.signal_msg x) busy (Means.At i)) (one (get_or rs i blank))) (signal-takes c x busy) (found-says rs y (R.signal_msg x) busy c i read)

acted-told :
    (rs : List Record) (j : Option Words) (place : ℕ) (x : Signal) (busy : Bool) (means : Means) → ((i : ℕ) → means ≡ Means.At i → used (get_or rs i blank) ≡ true) →
    Acted rs (R.signal x) (plan_of rs (Input.Message (signal_letter x j) busy place) (message_meant rs (signal_letter x j) busy means (message_for (signal_letter x j).body)))
unfolding plan_of
acted-told rs j place call_died busy Means.Nothing u = refuses refl refl refl
acted-told rs j place call_died busy Means.NotNow u = refuses refl refl refl
acted-told rs j place call_died busy (Means.At i) u =
    told-row rs call_died busy (Input.Message (signal_letter call_died j) busy place) (signal_letter call_died j) Message.Failed (λ c. refl) Row.CallFails (λ k q. refl) i (u i refl) (λ y. refl)
    (told-says rs call_died busy i)
acted-told rs j place rejected busy Means.Nothing u = refuses refl refl refl
acted-told rs j place rejected busy Means.NotNow u = refuses refl refl refl
acted-told rs j place rejected busy (Means.At i) u =
    told-row rs rejected busy (Input.Message (signal_letter rejected j) busy place) (signal_letter rejected j) (Message.Error 1) (λ c. refl) Row.DeniedShort (λ k q. refl) i (u i refl) (λ y. refl)
    (told-says rs rejected busy i)

pub clerk-told :
    (rs : List Record) (name : Name) (x : Signal) (busy : Bool) → Acted rs (R.signal x) (plan_for rs (Input.Message (signal_letter x name.identifier) busy name.place))
unfolding plan_for decided
clerk-told rs name x busy =
    let l = signal_letter x name.identifier in
    acted-told rs name.identifier name.place x busy (meaning l name.place rs) (meaning-used l name.place rs)
