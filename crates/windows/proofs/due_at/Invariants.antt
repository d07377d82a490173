use Rattle.std.proofs.Common.{◌≡◌, not}
use mathlib.Core.Bool.{cond}
use lib.Dec.{eqb}
use Rattle.lists.specs.All.{iter, all_below}
use Rattle.windows.specs.Windows.{window_at, is_due}
use Rattle.windows.proofs.due_at.Given as goal

abbrev pub invariant-loop-w : goal.invariant-loop-w
invariant-loop-w l = (l.own ≡ not (all_below l.w-index (λ i. not (eqb (window_at l.ws i).node l.node))))
    × (l.due ≡ iter l.w-index (λ i d. cond (is_due l.node l.epoch (window_at l.ws i)) (window_at l.ws i).demand d) 0)
