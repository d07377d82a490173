use mathlib.Core.Bool.{true}
use Rattle.lists.specs.All.{all_below}
use Rattle.masks.specs.Slots.{well_formed_at}
use Rattle.masks.specs.Bytes.{masks_in}
use Rattle.masks.specs.Inner.{taken}
use mathlib.Core.Path.{◌≡◌}
use Prim.Native.Nat.{◌≤◌}
use Rattle.masks.proofs.inplace.rows_fit.Given as goal

abbrev pub invariant-loop-i : goal.invariant-loop-i
invariant-loop-i l =
    (l.i ≤ l.top) × (l.taken_low ≡ taken (masks_in l.s l.from).low l.i) × (l.taken_high ≡ taken (masks_in l.s l.from).high l.i)
    × (true ≡ all_below l.i (well_formed_at (masks_in l.s l.from)))
