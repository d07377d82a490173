use Rattle.std.proofs.Common.{◌≡◌, ◌+◌, ◌++◌, get_or, drop}
use lib.ListN.{replicate}
use Rattle.lists.specs.All.{tab}
use Rattle.masks.proofs.bytes.part.Given as goal

abbrev pub invariant-loop-i : goal.invariant-loop-i
invariant-loop-i g l = l.x-items ≡ tab l.i (λ j. get_or l.s (l.at + j) 0) ++ drop l.i (replicate g.row.N 0)
