use Rattle.std.proofs.Common.{◌≡◌, length, ◌+◌, get_or}
use mathlib.Core.Bool.{false, cond}
use mathlib.Core.List.{◌++◌}
use lib.ListN.{drop}
use Rattle.lists.specs.All.{tab}
use Rattle.windows.proofs.Demands.{Told}
use Rattle.windows.proofs.due_all.Given as goal

abbrev pub invariant-loop-w : goal.invariant-loop-w
invariant-loop-w l = (length l.own ≡ 33) × (length l.due ≡ 33) × Told l.ws l.epoch l.w-index l.own l.due

abbrev pub invariant-loop-i : goal.invariant-loop-i
invariant-loop-i l = l.d-items ≡ tab l.i (λ k. cond (get_or l.own (k + 1) false) (get_or l.due (k + 1) 0) l.demand) ++ drop l.i l.initial.d-items
