use Rattle.std.proofs.Common.{◌≡◌}
use Prim.Native.Nat.{◌-◌}
use Rattle.membership.specs.requests.Requests.{lacks, first_with, lowest_missing}
use Rattle.membership.proofs.requests.lowest_missing.Given as goal

-- No node before the i-th is missing.
abbrev pub invariant-loop-i : goal.invariant-loop-i
invariant-loop-i l = lowest_missing l.w l.fn.l ≡ first_with (32 - l.i) l.i (lacks l.w l.fn.l)
