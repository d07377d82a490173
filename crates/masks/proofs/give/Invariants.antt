use mathlib.Core.Path.{◌≡◌}
use Prim.Native.Nat.{◌/◌, ◌^◌, ℕ, ◌≤◌, ◌<◌, ◌-◌}
use lib.ListN.{length, get_or}
use Rattle.masks.proofs.Turns.{so_far}
use Rattle.masks.proofs.give.Given as goal

abbrev pub invariant-loop-rest : goal.invariant-loop-rest
invariant-loop-rest l =
    (l.from ≤ l.at) × (l.at ≤ length l.initial.owners) × (l.w < 2 ^ (length l.initial.owners - l.from)) × (l.rest ≡ l.w / 2 ^ (l.at - l.from))
    × (length l.owners ≡ length l.initial.owners) × ((k : ℕ) → get_or l.owners k 0 ≡ so_far l.initial.owners l.from l.w l.j l.at k)

abbrev pub decreases-loop-rest : goal.decreases-loop-rest
decreases-loop-rest l = length l.initial.owners - l.at
