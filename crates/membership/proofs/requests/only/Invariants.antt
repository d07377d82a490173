use Rattle.std.proofs.Common.{◌≡◌}
use mathlib.Core.Bool.{cond}
use mathlib.Core.List.{◌++◌}
use lib.ListN.{drop}
use lib.Dec.{eqb}
use Rattle.lists.specs.All.{tab}
use Rattle.membership.specs.requests.Requests.{none}
use Rattle.membership.proofs.requests.only.Given as goal

abbrev pub invariant-loop-k : goal.invariant-loop-k
invariant-loop-k l = l.x-items ≡ tab l.k (λ i. cond (eqb i l.at) l.request none) ++ drop l.k l.initial.x-items
