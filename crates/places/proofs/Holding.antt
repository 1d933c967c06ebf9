-- A search by an identifier finds a used record that has it, and in a placed list the only one.
use Rattle.std.specs.Prelude.{Option, Some, None}
use Prim.Native.Nat.{ℕ}
use mathlib.Core.Path.{◌≡◌, refl, ap, ap₂, ◌∙◌}
use mathlib.Core.Bool.{true}
use mathlib.Core.List.{List}
use Rattle.lists.specs.declared.words.Words.{Words}
use Rattle.lists.proofs.Lists.{both_parts, first_holds}
use Rattle.desk.specs.Letter.{same_identifier}
use Rattle.places.specs.Places.{View, at, Placed, identified, meant_in}
use Rattle.places.specs.Claims.{Holding}
use Rattle.places.proofs.Identifiers.{same-is, same-own}
use Rattle.places.proofs.Staying.{nobody}

module _ {A : Type 0} (v : View A) where
  pub meant-its : (rs : List A) (identifier : Words) (i : ℕ) → meant_in v identifier rs ≡ Some i → (v.used (at v rs i) ≡ true) × (v.name (at v rs i) ≡ Some identifier)
  meant-its rs identifier i e =
      let p = both_parts (same_identifier (v.name (at v rs i)) (Some identifier)) (v.used (at v rs i)) (first_holds (identified v identifier) rs i v.blank e) in
      (p.1, same-is (v.name (at v rs i)) identifier p.0)

  pub meant-own :
      (rs : List A) (identifier : Words) (i : ℕ) → Placed v rs → v.used (at v rs i) ≡ true → v.name (at v rs i) ≡ Some identifier →
      meant_in v identifier rs ≡ Some i
  meant-own rs identifier i placed u own = by (meant_in v identifier rs) refl
    where
      by : (f : Option ℕ) → meant_in v identifier rs ≡ f → meant_in v identifier rs ≡ Some i
      by (Some j) e =
          let its = meant-its rs identifier j e in
          e ∙ ap Some (placed.differ j i its.0 u (ap₂ same_identifier its.1 own ∙ same-own identifier))
      by None e = absurd (nobody v rs identifier placed.free e i u own)

pub holding : {A : Type 0} (v : View A) → Holding v
holding v = record { its = meant-its v; own = meant-own v }
