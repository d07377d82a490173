use mathlib.Core.Path.{◌≡◌}
use Prim.Native.Nat.{◌≤◌, ◌-◌, ◌/◌, ◌^◌}
use Rattle.allotment.proofs.LowestOnes.{Far}
use Rattle.allotment.proofs.inplace.lowest.Given as goal

abbrev pub invariant-loop-rest : goal.invariant-loop-rest
invariant-loop-rest l = (l.at ≤ 64) × (l.rest ≡ l.w / 2 ^ l.at) × Far l.w l.most l.at l.kept l.left

abbrev pub decreases-loop-rest : goal.decreases-loop-rest
decreases-loop-rest l = 64 - l.at
