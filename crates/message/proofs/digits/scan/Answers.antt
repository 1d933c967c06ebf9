-- Where the bytes end, and where the digits end among them, tell how they read.
use Prim.Native.Nat.{◌≤◌}
use mathlib.Core.Path.{◌∙◌}
use lib.ListN.{length}
use Rattle.std.proofs.Common.{rules}
use borrow.Author.Tests.{le-ltb, lt-ltb}
use Rattle.message.proofs.NumberLaws.{bytes-within, bytes-all, scan-by-ends}
use Rattle.message.proofs.digits.scan.Goals as goal

pub digits_end-next-requires : goal.digits_end-next-requires
digits_end-next-requires c =
    let a = c.args in
    let h : a.at ≤ length a.s.now = search rules in
    rw c.bytes_end-end.ensures (bytes-within _ _ _ h)

pub returns-then-next-end : goal.returns-then-next-end
returns-then-next-end c =
    let a = c.args in
    let h : a.at ≤ length a.s.now = search rules in
    rw (scan-by-ends _ _ _ h, ← c.bytes_end-end.ensures, ← c.digits_end-next.ensures, lt-ltb _ _ c.if-next-end.true)

pub returns-then-s-at : goal.returns-then-s-at
returns-then-s-at c =
    let a = c.args in
    let h : a.at ≤ length a.s.now = search rules in
    rw (scan-by-ends _ _ _ h, ← c.bytes_end-end.ensures, ← c.digits_end-next.ensures, le-ltb _ _ c.if-next-end.false, lt-ltb _ _ c.if-s-at.true)

pub returns : goal.returns
returns c =
    let a = c.args in
    let h : a.at ≤ length a.s.now = search rules in
    let whole = c.bytes_end-end.ensures ∙ bytes-all _ _ _ c.if-s-at.false in
    rw (scan-by-ends _ _ _ h, ← c.bytes_end-end.ensures, ← c.digits_end-next.ensures, le-ltb _ _ c.if-next-end.false, le-ltb _ _ c.if-s-at.false, whole)
