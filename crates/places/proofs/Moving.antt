-- A step about the record of one place keeps a list placed, in order and whole, and every other record: each kind of step by the law of its put, add or removal.
use Rattle.std.specs.Prelude.{Option, Some}
use Prim.Native.Nat.{ℕ}
use mathlib.Core.Path.{◌≡◌, sym, ap, ◌∙◌, subst}
use mathlib.Core.Bool.{true}
use mathlib.Core.List.{List}
use lib.ListN.{set}
use lib.Seq.{get_or-set_other}
use native.Mathlib.Omega.{arith}
use borrow.Author.Tests.{lt-ltb, le-ltb}
use Rattle.lists.specs.Lists.{without}
use Rattle.places.specs.Places.{View, at, Placed, names, Queued, same, last, Moved, stays, turns, stores, removes, OthersStay, in_place, forward}
use Rattle.places.specs.Claims.{Moving}
use Rattle.places.proofs.Staying.{used-inside, place_inside, set_elim, shift, at-without, put-placed, add-placed, remove-placed}
use Rattle.places.proofs.Ordering.{names-put, names-add, names-remove}

-- a record put at a place leaves all others
set-others : {A : Type 0} (v : View A) (i : ℕ) (r : A) {about : Option ℕ} {rs after : List A} → about ≡ Some i → after ≡ set rs i r → OthersStay v about rs after
set-others v i r {rs = rs} here e =
    in_place (λ j n. ap (λ (x : List _). at v x j) e ∙ get_or-set_other rs i j r v.blank (λ q. n (here ∙ ap Some (sym q))))

module _ {A : Type 0} (v : View A) {Turn : A → A → Type 0} {Store : A → Type 0} where
  pub moved-placed : {about : Option ℕ} {rs after : List A} → Placed v rs → Moved v Turn Store about rs after → Placed v after
  moved-placed placed (stays here e) = subst (Placed v) (sym e) placed
  moved-placed {rs = rs} placed (turns i r here was is own turn e) = subst (Placed v) (sym e) (put-placed v rs i r placed was is own)
  moved-placed {rs = rs} placed (stores i r here free new is store e) = subst (Placed v) (sym e) (add-placed v rs i r placed free new is)
  moved-placed {rs = rs} placed (removes i here was e) = subst (Placed v) (sym e) (remove-placed v rs i placed)

  -- ---- what holds of every used record
  module _ (Whole : A → Type 0) (turned : (a b : A) → Turn a b → Whole b) (stored : (b : A) → Store b → Whole b) where
    abbrev Each : List A → Type 0
    Each rs = (i : ℕ) → v.used (at v rs i) ≡ true → Whole (at v rs i)

    pub moved-each : {about : Option ℕ} {rs after : List A} → Placed v rs → Each rs → Moved v Turn Store about rs after → Each after
    moved-each placed each (stays here e) = subst Each (sym e) each
    moved-each {rs = rs} placed each (turns i r here was is own turn e) =
        subst Each (sym e)
        (λ a.
        set_elim v (λ x. v.used x ≡ true → Whole x) rs i a r (used-inside v rs i placed.free was)
        (λ h w. turned (at v rs i) r turn)
        (λ n. each a))
    moved-each {rs = rs} placed each (stores i r here free new is store e) =
        subst Each (sym e)
        (λ a.
        set_elim v (λ x. v.used x ≡ true → Whole x) rs i a r (place_inside v rs i free)
        (λ h w. stored r store)
        (λ n. each a))
    moved-each {rs = rs} placed each (removes i here was e) =
        subst Each (sym e)
        (λ a u.
        let s : at v (without v.blank rs i) a ≡ at v rs (shift i a) = at-without v rs i a in
        subst Whole (sym s) (each (shift i a) (sym (ap v.used s) ∙ u)))

  -- ---- the order of storing
  pub moved_order : {about : Option ℕ} {rs after : List A} → Placed v rs → Moved v Turn Store about rs after → Queued (names v rs) (names v after)
  moved_order {rs = rs} placed (stays here e) = subst (λ (x : List A). Queued (names v rs) (names v x)) (sym e) same
  moved_order {rs = rs} placed (turns i r here was is own turn e) =
      subst (Queued (names v rs)) (sym (ap (names v) e ∙ names-put v rs i r was is own)) same
  moved_order {rs = rs} placed (stores i r here free new is store e) =
      subst (Queued (names v rs)) (sym (ap (names v) e ∙ names-add v rs i r placed free is)) (last (v.name r))
  moved_order {rs = rs} placed (removes i here was e) =
      subst (λ (x : List A). Queued (names v rs) (names v x)) (sym e) (names-remove v rs i placed.free)

  -- ---- every other record
  pub moved-others : {about : Option ℕ} {rs after : List A} → Moved v Turn Store about rs after → OthersStay v about rs after
  moved-others (stays here e) = in_place (λ j n. ap (λ (x : List A). at v x j) e)
  moved-others (turns i r here was is own turn e) = set-others v i r here e
  moved-others (stores i r here free new is store e) = set-others v i r here e
  moved-others {rs = rs} (removes i here was e) =
      forward i here
      (λ j h. ap (λ (x : List A). at v x j) e ∙ at-without v rs i j ∙ rw (lt-ltb j i h))
      (λ j h. ap (λ (x : List A). at v x j) e ∙ at-without v rs i j ∙ rw (le-ltb j i h) (ap (at v rs) (omega arith)))

pub moving : {A : Type 0} (v : View A) (Turn : A → A → Type 0) (Store : A → Type 0) → Moving v Turn Store
moving v Turn Store = record { placed = moved-placed v; each = moved-each v; order = moved_order v; others = moved-others v }
