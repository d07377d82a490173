use mathlib.Core.Path.{◌≡◌}
use Prim.Native.Nat.{◌≤◌, ◌+◌, ◌*◌}
use mathlib.Core.List.{◌++◌}
use lib.Dec.{ltb}
use lib.ListN.{length, drop, get_or}
use Rattle.words.specs.Bits.{digit}
use Rattle.lists.specs.All.{tab}
use Rattle.tally.specs.Claims.{sum as summed}
use Rattle.tally.specs.Counting.{slots_at, held_at}
use Rattle.tally.proofs.Tally.added.Given as goal

abbrev pub invariant-loop-i : goal.invariant-loop-i
invariant-loop-i l =
    (length l.initial.slots ≡ 32) × (length l.initial.held ≡ 32)
    × (l.slots ≡ tab l.i (λ j. slots_at l.fn.self j + get_or l.fn.numbers j 0) ++ drop l.i l.initial.slots)
    × (l.held ≡ tab l.i (λ j. held_at l.fn.self j + digit (ltb 0 (get_or l.fn.numbers j 0))) ++ drop l.i l.initial.held)
    × (l.total ≡ l.fn.self.total + summed l.i (λ j. get_or l.fn.numbers j 0)) × (l.total ≤ l.fn.self.total + 255 * l.i)
