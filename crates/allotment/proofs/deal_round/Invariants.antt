use mathlib.Core.Path.{◌≡◌}
use Prim.Native.Nat.{◌≤◌}
use Rattle.lists.specs.All.{iter}
use Rattle.allotment.specs.declared.Deal.{Deal}
use Rattle.allotment.specs.Allotment.{deal_one}
use Rattle.allotment.proofs.deal_round.Given as goal

abbrev pub invariant-loop-i : goal.invariant-loop-i
invariant-loop-i l =
    (l.fn.n ≤ 32) × (◌≡◌ {A = Deal} (record { targets = l.targets; left = l.left })
    (iter l.i (deal_one l.fn.wanted) (record { targets = l.initial.targets; left = l.initial.left })))
