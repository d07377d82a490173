use mathlib.Core.Path.{sym}
use Prim.Native.Nat.{◌+◌}
use native.Mathlib.Omega.{arith}
use borrow.Author.Tests.{lt-leb, le-leb}
use lib.ListN.{length}
use Rattle.masks.specs.Bytes.{masks_size}
use Rattle.masks.proofs.bytes.has_room.Goals as goal

pub returns-then-s-lt-MASKS : goal.returns-then-s-lt-MASKS
returns-then-s-lt-MASKS c =
    let a = c.args in
    sym (lt-leb (a.at + masks_size) (length a.s.now) (omega (arith, c.if-s-lt-MASKS.true)))

pub returns-then-s-at : goal.returns-then-s-at
returns-then-s-at c =
    let a = c.args in
    sym (lt-leb (a.at + masks_size) (length a.s.now) (omega (arith, c.if-s-at.true, c.if-s-lt-MASKS.false)))

pub returns : goal.returns
returns c =
    let a = c.args in
    sym (le-leb (a.at + masks_size) (length a.s.now) (omega (arith, c.if-s-at.false, c.if-s-lt-MASKS.false)))
