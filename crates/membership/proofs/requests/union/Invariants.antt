use Rattle.std.proofs.Common.{◌≡◌, get_or}
use mathlib.Core.List.{◌++◌}
use lib.ListN.{drop}
use Rattle.lists.specs.All.{tab}
use Rattle.membership.specs.requests.Requests.{first_known}
use Rattle.membership.proofs.requests.union.Given as goal

abbrev pub invariant-loop-i : goal.invariant-loop-i
invariant-loop-i l = l.x-items ≡ tab l.i (λ j. first_known (get_or l.fn.a j 0) (get_or l.fn.b j 0)) ++ drop l.i l.initial.x-items
