-- A request that is neither long nor a duplicate is stored exactly if its line has fewer than 5 records and the desk fewer than 32: the first free place is behind all used ones.
use Prim.Native.Nat.{◌≤◌, ◌<◌}
use mathlib.Core.Path.{◌≡◌, refl}
use mathlib.Core.Bool.{Bool}
use lib.Dec.{ltb}
use native.Mathlib.Omega.{arith}
use borrow.Author.Tests.{lt-ltb, le-ltb}
use Rattle.lists.specs.Lists.{count}
use Rattle.lists.proofs.Choice.{pick_elim}
use Rattle.terms.specs.declared.request.Names.{Names}
use Rattle.terms.specs.declared.request.Request.{Request}
use Rattle.places.specs.Places.{stored}
use Rattle.places.proofs.Counting.{place-room, place-full}
use Rattle.line_table.specs.Search.{of_line}
use Rattle.line_table.specs.declared.record.Decision.{Decision}
use Rattle.line_table.specs.declared.record.Decision.TheVariants.{Deny, Store}
use Rattle.line_records.specs.Layout as Layout
use Rattle.line_records.specs.Records.{records, place}
use Rattle.line_records.proofs.RecordsLaws.{records-length}
use Rattle.line_plan.specs.Decide.{line_most, counted_decision}
use Rattle.line.specs.declared.Desk.{Desk}
use Rattle.line_sound.specs.Sound.{line_view, Reached, Admitted}
use Rattle.line_sound.proofs.Reaching.{reached-sound}

request-accepted :
    (d : Desk) → Reached d → (asked : Names) (q : Request) (busy : Bool) →
    count (of_line asked.numberB) (records d.words) < line_most → stored line_view (records d.words) < Layout.places →
    counted_decision d.words asked q busy ≡ Store (stored line_view (records d.words)) q busy
unfolding counted_decision place
request-accepted d reached asked q busy few room =
    rw (
      lt-ltb (count (of_line asked.numberB) (records d.words)) line_most few,
      place-room line_view (records d.words) Layout.places (reached-sound d reached).placed (records-length d.words) room,
    )

sixth-denied :
    (d : Desk) (asked : Names) (q : Request) (busy : Bool) → line_most ≤ count (of_line asked.numberB) (records d.words) →
    counted_decision d.words asked q busy ≡ Deny 1
unfolding counted_decision
sixth-denied d asked q busy many = rw (le-ltb (count (of_line asked.numberB) (records d.words)) line_most many)

full-denied :
    (d : Desk) (asked : Names) (q : Request) (busy : Bool) → stored line_view (records d.words) ≡ Layout.places →
    counted_decision d.words asked q busy ≡ Deny 1
unfolding counted_decision place
full-denied d asked q busy full =
    pick_elim (λ (decision : Decision). decision ≡ Deny 1) (ltb (count (of_line asked.numberB) (records d.words)) line_most)
    (λ t. rw (place-full line_view (records d.words) Layout.places (records-length d.words) full))
    (λ f. refl)

pub admitted : Admitted
admitted =
    record {
      accepted = λ d reached asked q busy few room. request-accepted d reached asked q busy (omega (arith, few)) (omega (arith, room));
      sixth = λ d asked q busy many. sixth-denied d asked q busy (omega (arith, many));
      thirty_third = λ d asked q busy full. full-denied d asked q busy (omega (arith, full));
    }
