use mathlib.Core.Path.{◌≡◌}
use Prim.Native.Nat.{◌≤◌, ◌+◌, ◌*◌}
use lib.ListN.{drop}
use Rattle.allotment.specs.Allotment.{total}
use Rattle.allotment.proofs.total.Given as goal

-- what was added, and what is still to come, are the sum of the list
abbrev pub invariant-loop-x : goal.invariant-loop-x
invariant-loop-x l = (l.sum ≤ 255 * l.x-index) × (l.sum + total (drop l.x-index l.fn.wanted) ≡ total l.fn.wanted)
