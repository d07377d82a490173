use Rattle.std.proofs.Common.{◌≡◌, get_or}
use lib.Dec.{eqb}
use Rattle.lists.specs.All.{all_below}
use Rattle.lists.proofs.equal.Given as goal

abbrev pub invariant-loop-i : goal.invariant-loop-i
invariant-loop-i l = l.ok ≡ all_below l.i (λ j. eqb (get_or l.s j 0) (get_or l.t j 0))
