use Rattle.std.proofs.Common.{◌≡◌, get_or}
use Rattle.lists.specs.All.{all_below}
use Rattle.membership.specs.requests.Requests.{agree_at}
use Rattle.membership.proofs.requests.agree.Given as goal

abbrev pub invariant-loop-i : goal.invariant-loop-i
invariant-loop-i l = l.ok ≡ all_below l.i (λ j. agree_at (get_or l.fn.a j 0) (get_or l.fn.b j 0))
