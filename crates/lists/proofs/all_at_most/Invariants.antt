use Rattle.std.proofs.Common.{◌≡◌, get_or}
use lib.Dec.{leb}
use Rattle.lists.specs.All.{all_below}
use Rattle.lists.proofs.all_at_most.Given as goal

abbrev pub invariant-loop-b : goal.invariant-loop-b
invariant-loop-b l = l.ok ≡ all_below l.b-index (λ j. leb (get_or l.s j 0) l.top)
