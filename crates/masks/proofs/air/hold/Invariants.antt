use mathlib.Core.Path.{◌≡◌}
use Prim.Native.Nat.{◌≤◌, ◌+◌}
use lib.ListN.{length}
use Rattle.lists.proofs.Places.{Apart}
use Rattle.masks.specs.Bytes.{masks_size, masks_in}
use Rattle.masks.proofs.Parts.{Bytes}
use Rattle.masks.proofs.Granted.{masks_to}
use Rattle.masks.proofs.air.hold.Given as goal

abbrev pub invariant-loop-k : goal.invariant-loop-k
invariant-loop-k l =
    (l.at + masks_size ≤ length l.out) × Bytes l.out × Apart l.initial.out l.out l.at masks_size × (masks_in l.out l.at ≡ masks_to l.fn.owners l.k)
