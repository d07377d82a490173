use mathlib.Core.Path.{◌≡◌}
use Prim.Native.Nat.{min, ◌≤◌}
use lib.ListN.{length}
use Rattle.lists.specs.All.{iter}
use Rattle.machine.specs.Layout.{store, bytes_size}
use Rattle.machine.specs.timed.Stored.{given_at}
use Rattle.machine.proofs.timed.give.Given as goal

abbrev pub invariant-loop-i : goal.invariant-loop-i
invariant-loop-i l =
    (l.i ≤ l.n) × (l.n ≡ min l.nodes 32) × (length l.bytes ≡ length l.initial.bytes) × (bytes_size ≤ length l.initial.bytes)
    × (store l.words l.bytes ≡ iter l.i (given_at l.w l.epoch l.area) (store l.words l.initial.bytes))
