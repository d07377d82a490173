use Prim.Native.Nat.{◌≤◌}
use Rattle.allotment.proofs.Turns.{At}
use Rattle.allotment.proofs.turn.Given as goal

abbrev pub invariant-loop-i : goal.invariant-loop-i
invariant-loop-i l = (l.n ≤ 32) × At l.target l.held l.level l.i
