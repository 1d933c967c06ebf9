-- Type and carrier, then the identifier behind them, then the fields behind that.
use Prim.Native.Nat.{ℕ, ◌+◌, ◌-◌, ◌≤◌}
use mathlib.Core.Path.{◌≡◌, refl}
use mathlib.Core.List.{List, [], ◌∷◌, ◌++◌}
use lib.ListN.{length, set, length-set, length-drop}
use lib.Seq.{sets-eq}
use borrow.Rule.Slice.PartMut.{put_mid}
use native.Mathlib.Omega.{arith}
use Rattle.lists.specs.Parts.{over}
use Rattle.lists.proofs.Parts.{over-next, tail_of_lem}
use Rattle.message.specs.Format.{identifier_bytes, fields_of, message_bytes}
use Rattle.message.specs.declared.Message.{Message}
use Rattle.message.proofs.RangeLaws.{message-bytes, message-length, identifier-length}
use Rattle.lists.specs.Choice.{pick}
use Rattle.std.proofs.Common.{rules}
use Rattle.writer.proofs.put_message.Goals as goal

-- what the requires says of the room, in numbers
room : (m : Message) (d : List ℕ) → length m.identifier ≡ 16 → length (message_bytes m) ≤ length d → 2 + (pick m.identified 17 1 + length (fields_of m)) ≤ length d
room m d l h = rw (← message-length m l) h

length-set2 : (d : List ℕ) (i j x y : ℕ) → length (set (set d i x) j y) ≡ length d
length-set2 d i j x y = simp length-set

pub bounds-d-0 : goal.bounds-d-0
bounds-d-0 c = omega (arith, room c.args.m c.args.d.now (search rules) c.requires.1)

pub bounds-d-1 : goal.bounds-d-1
bounds-d-1 c = simp length-set (omega (arith, room c.args.m c.args.d.now (search rules) c.requires.1))

pub slice_bounds-put_identifier-start : goal.slice_bounds-put_identifier-start
slice_bounds-put_identifier-start c = simp length-set (omega (arith, room c.args.m c.args.d.now (search rules) c.requires.1))

pub slice_bounds-put_identifier-count : goal.slice_bounds-put_identifier-count
slice_bounds-put_identifier-count c = simp length-set (omega (arith, room c.args.m c.args.d.now (search rules) c.requires.1))

pub put_identifier-behind-requires : goal.put_identifier-behind-requires
put_identifier-behind-requires c =
    let m = c.args.m in
    let l0 = set (set c.args.d.now 0 c.type_number.result) 1 c.carrier_number.result in
    rw (identifier-length m.identified m.identifier (search rules), tail_of_lem 2 l0) (simp (length-drop, length-set) (omega (arith, room c.args.m c.args.d.now (search rules) c.requires.1)))

pub put_behind-requires : goal.put_behind-requires
put_behind-requires c =
    let d = c.args.d.now in
    let l0 = set (set d 0 c.type_number.result) 1 c.carrier_number.result in
    let d1 = put_mid 2 (length l0 - 2) l0 c.put_identifier-behind.new.d in
    let q : length d1 ≡ length d = omega (arith, length-set2 d 0 1 c.type_number.result c.carrier_number.result) in
    (c.requires.0, rw (tail_of_lem (2 + c.put_identifier-behind.result) d1) (simp length-drop (omega (arith, room c.args.m c.args.d.now (search rules) c.requires.1, c.put_identifier-behind.ensures.0))))

pub returns : goal.returns
returns c =
    let a = c.args in
    let d = a.d.now in
    let m = a.m in
    let head = c.type_number.result ∷ c.carrier_number.result ∷ [] in
    let I = identifier_bytes m.identified m.identifier in
    let n = 2 + c.put_identifier-behind.result in
    let l0 = set (set d 0 c.type_number.result) 1 c.carrier_number.result in
    let d1 = put_mid 2 (length l0 - 2) l0 c.put_identifier-behind.new.d in
    let s0 : l0 ≡ over head d = sets-eq head d 0 (omega (arith, room c.args.m c.args.d.now (search rules) c.requires.1)) in
    let s1 : d1 ≡ over (head ++ I) d = over-next d l0 c.put_identifier-behind.new.d head I 2 s0 c.put_identifier-behind.ensures.1 refl in
    let k : n ≡ length (head ++ I) = omega (arith, c.put_identifier-behind.ensures.0, identifier-length m.identified m.identifier (search rules)) in
    rw (message-bytes m, ← c.type_number.ensures, ← c.carrier_number.ensures) (over-next d d1 c.put_behind.new.d (head ++ I) (fields_of m) n s1 c.put_behind.ensures k)
