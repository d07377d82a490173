use Rattle.std.proofs.Common.{◌≡◌, get_or}
use mathlib.Core.Bool.{not}
use lib.Dec.{eqb}
use Rattle.lists.specs.All.{all_below}
use Rattle.text.proofs.lacks.Given as goal

abbrev pub invariant-loop-b : goal.invariant-loop-b
invariant-loop-b l = l.ok ≡ all_below l.b-index (λ i. not (eqb (get_or l.block i 0) l.c))
