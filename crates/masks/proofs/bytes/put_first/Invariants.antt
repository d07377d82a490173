use Rattle.std.proofs.Common.{◌≡◌, get_or}
use Rattle.lists.specs.Bytes.{written}
use Rattle.masks.specs.Bytes.{bytes64, rows}
use Rattle.masks.proofs.bytes.put_first.Given as goal

abbrev pub invariant-loop-i : goal.invariant-loop-i
invariant-loop-i l = l.out ≡ written l.initial.out l.at (rows l.i (λ j. bytes64 (get_or l.fn.low j 0)))
