use Rattle.std.proofs.Common.{◌≡◌, get_or}
use lib.Dec.{leb}
use Rattle.words.specs.Bits.{word_of}
use Rattle.membership.proofs.counters.heard_often.Given as goal

abbrev pub invariant-loop-i : goal.invariant-loop-i
invariant-loop-i l = l.w ≡ word_of l.i (λ j. leb l.heard (get_or l.fn.counters j 0))
