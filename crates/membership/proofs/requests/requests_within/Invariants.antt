use Rattle.std.proofs.Common.{◌≡◌, get_or}
use mathlib.Core.Bool.{true, ◌&&◌}
use Rattle.lists.specs.All.{all_below}
use Rattle.words.specs.Bits.{is_inside}
use Rattle.membership.specs.requests.Requests.{requesters, request_within}
use Rattle.membership.proofs.requests.requests_within.Given as goal

abbrev pub invariant-loop-x : goal.invariant-loop-x
invariant-loop-x l = l.ok ≡ (is_inside (requesters l.fn.l) l.flags && all_below l.x-index (λ j. request_within (get_or l.fn.l j 0) true))
