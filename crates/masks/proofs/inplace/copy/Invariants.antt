use lib.ListN.{length}
use Rattle.lists.specs.Bytes.{written}
use Rattle.masks.specs.Bytes.{masks_size, rows}
use Rattle.masks.proofs.Moves.{part_at}
use mathlib.Core.Path.{◌≡◌}
use Prim.Native.Nat.{◌≤◌, ◌+◌}
use Rattle.masks.proofs.inplace.copy.Given as goal

abbrev pub invariant-loop-i : goal.invariant-loop-i
invariant-loop-i l =
    (l.i ≤ 11) × (l.from + masks_size ≤ length l.initial.s) × (l.to + masks_size ≤ length l.initial.s) × (length l.s ≡ length l.initial.s)
    × (l.s ≡ written l.initial.s l.to (rows l.i (part_at l.initial.s l.from)))
