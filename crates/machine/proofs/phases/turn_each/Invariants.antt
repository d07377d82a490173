use mathlib.Core.Path.{◌≡◌}
use Prim.Native.Nat.{◌≤◌}
use lib.ListN.{length}
use Rattle.lists.specs.All.{iter}
use Rattle.machine.specs.Layout.{store, config_at}
use Rattle.machine.specs.Written.{each}
use Rattle.machine.proofs.phases.turn_each.Given as goal

abbrev pub invariant-loop-i : goal.invariant-loop-i
invariant-loop-i g l =
    (l.i ≤ l.n) × (l.n ≤ 32) × (length l.words ≡ length l.initial.words) × (length l.bytes ≡ length l.initial.bytes) × (l.f ≡ config_at l.words)
    × (store l.words l.bytes ≡ iter l.i (each g.T.Turn.turns g.T.Turn.step g.T.Turn.change) (store l.initial.words l.initial.bytes))
