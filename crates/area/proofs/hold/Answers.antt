use mathlib.Core.Path.{refl, sym, ◌∙◌}
use native.Mathlib.Omega.{arith}
use Prim.Native.Nat.{◌≤◌, ◌+◌}
use lib.ListN.{length}
use borrow.Author.Tests.{eq-eqb, ne_eqb, le-leb}
use Rattle.words.proofs.Tests.{hit, skip}
use Rattle.masks.specs.Bytes.{masks_size}
use Rattle.area.specs.Area.{at_schedule}
use Rattle.area.proofs.hold.Goals as goal

pub returns-then-area-ne-AREA : goal.returns-then-area-ne-AREA
returns-then-area-ne-AREA c = sym (skip _ _ _ _ (ne_eqb _ _ c.if-area-ne-AREA.true) refl)

pub returns : goal.returns
returns c =
    let h : at_schedule + masks_size ≤ length c.args.area.now = omega (arith, c.if-area-ne-AREA.false) in
    c.hold.ensures ∙ hit _ _ _ (le-leb _ _ h) ∙ sym (hit _ _ _ (eq-eqb _ _ c.if-area-ne-AREA.false))
