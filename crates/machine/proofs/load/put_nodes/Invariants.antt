use mathlib.Core.Path.{◌≡◌}
use Prim.Native.Nat.{◌≤◌}
use Prim.Native.Nat.{min}
use lib.ListN.{length}
use Rattle.lists.specs.All.{iter}
use Rattle.machine.specs.Layout.{store}
use Rattle.machine.specs.Loading.{loaded_at}
use Rattle.machine.proofs.load.put_nodes.Given as goal

abbrev pub invariant-loop-i : goal.invariant-loop-i
invariant-loop-i l =
    (l.i ≤ l.n) × (l.n ≡ min l.f.nodes 32) × (length l.words ≡ length l.initial.words) × (length l.bytes ≡ length l.initial.bytes)
    × (store l.words l.bytes ≡ iter l.i (loaded_at l.f l.t) (store l.initial.words l.initial.bytes))
