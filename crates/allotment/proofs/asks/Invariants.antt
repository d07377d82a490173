use mathlib.Core.List.{◌++◌}
use mathlib.Core.Path.{◌≡◌}
use lib.ListN.{drop}
use Rattle.lists.specs.All.{tab}
use Rattle.allotment.specs.Allotment.{ask}
use Rattle.allotment.proofs.asks.Given as goal

abbrev pub invariant-loop-i : goal.invariant-loop-i
invariant-loop-i l = l.x-items ≡ tab l.i (ask l.n l.members l.requests) ++ drop l.i l.initial.x-items
