use Rattle.std.proofs.Common.{◌≡◌, get_or}
use mathlib.Core.List.{◌++◌}
use lib.ListN.{drop}
use Rattle.lists.specs.All.{tab}
use Rattle.words.specs.Bits.{has_bit}
use Rattle.membership.specs.counters.Counters.{plus}
use Rattle.membership.proofs.counters.count_heard.Given as goal

abbrev pub invariant-loop-i : goal.invariant-loop-i
invariant-loop-i l = l.x-items ≡ tab l.i (λ j. plus (get_or l.fn.counters j 0) (has_bit l.heard j)) ++ drop l.i l.initial.x-items
