use mathlib.Core.Path.{◌≡◌}
use Prim.Native.Nat.{◌≤◌, ◌+◌}
use lib.ListN.{length}
use Rattle.lists.specs.All.{tab}
use Rattle.masks.specs.Slots.{first}
use Rattle.masks.specs.Bytes.{masks_size, masks_in}
use Rattle.masks.proofs.Turns.{slot_in}
use Rattle.masks.proofs.air.tell_rows.Given as goal

abbrev pub invariant-loop-i : goal.invariant-loop-i
invariant-loop-i l =
    (l.i ≤ l.top) × (l.top ≤ 32) × (l.at + masks_size ≤ length l.s) × (length l.owners ≡ 80)
    × (l.owners ≡ tab 80 (λ k. first l.i (slot_in (masks_in l.s l.at).low (masks_in l.s l.at).high k)))
