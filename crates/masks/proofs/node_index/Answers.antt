use mathlib.Core.Path.{refl, sym}
use Prim.Native.Nat.{◌-◌}
use borrow.Author.Tests.{eq-eqb, ne_eqb}
use lib.Dec.{eqb}
use Rattle.words.proofs.Tests.{hit, skip}
use Rattle.masks.proofs.node_index.Goals as goal

pub returns-then-j-eq0 : goal.returns-then-j-eq0
returns-then-j-eq0 c = let j = c.args.j in sym (hit (eqb j 0) 32 (j - 1) (eq-eqb j 0 c.if-j-eq0.true))

pub returns-else-j-eq0 : goal.returns-else-j-eq0
returns-else-j-eq0 c = let j = c.args.j in sym (skip (eqb j 0) 32 (j - 1) (j - 1) (ne_eqb j 0 c.if-j-eq0.false) refl)
