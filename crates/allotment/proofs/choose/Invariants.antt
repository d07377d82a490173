use mathlib.Core.Logic.{◌⊎◌}
use mathlib.Core.Path.{◌≡◌}
use Prim.Native.Nat.{◌≤◌, ◌-◌}
use lib.ListN.{get_or}
use Rattle.allotment.specs.Allotment.{holding}
use Rattle.allotment.proofs.Turns.{best_of}
use Rattle.allotment.proofs.choose.Given as goal

abbrev pub invariant-loop-i : goal.invariant-loop-i
invariant-loop-i l =
    (l.fn.n ≤ 32) × (l.best ≡ best_of l.fn.target (holding l.fn.held) l.i)
    × ((l.best ≡ 0) ⊎ (l.least ≡ get_or l.fn.held (l.best - 1) 0))
