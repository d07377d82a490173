use mathlib.Core.Path.{◌≡◌}
use mathlib.Core.Bool.{true, ◌&&◌}
use mathlib.Core.List.{◌++◌}
use Prim.Native.Nat.{ℕ, min, ◌≤◌, ◌<◌, ◌-◌}
use lib.Dec.{eqb, ltb}
use lib.ListN.{length, get_or, drop, replicate}
use Rattle.lists.specs.All.{tab}
use Rattle.masks.specs.Slots.{has_slot, owners_in}
use Rattle.masks.specs.Bytes.{masks_in}
use Rattle.masks.specs.Inner.{taken}
use Rattle.allotment.specs.Allotment.{chosen, holding}
use Rattle.allotment.proofs.OwnSlots.{share_of}
use Rattle.allotment.proofs.DraftRows.{So}
use Rattle.allotment.proofs.inplace.allot.Given as goal

abbrev pub invariant-loop-i : goal.invariant-loop-i
invariant-loop-i l =
    (l.i ≤ l.rows) × (l.low ≡ tab l.i (λ j. (share_of (masks_in l.s l.at) l.fn.target l.k j).low) ++ drop l.i (replicate 32 0))
    × (l.high ≡ tab l.i (λ j. (share_of (masks_in l.s l.at) l.fn.target l.k j).high) ++ drop l.i (replicate 32 0))
    × (l.held ≡ tab l.i (λ j. (share_of (masks_in l.s l.at) l.fn.target l.k j).held) ++ drop l.i (replicate 32 0))
    × (l.taken_low ≡ taken (masks_in l.s l.at).low l.i) × (l.taken_high ≡ taken (masks_in l.s l.at).high l.i) × (l.rows ≤ 32)

abbrev pub invariant-loop-slot : goal.invariant-loop-slot
invariant-loop-slot l =
    (length l.held ≡ 32) × (l.slot < 80 → l.j ≡ chosen l.target (holding l.held))
    × ((x : ℕ) → x < 80 → (ltb x l.k && eqb (get_or (owners_in (masks_in l.s l.at)) x 0) 0) ≡ has_slot l.free_low l.free_high x)
    × So l.target (owners_in (masks_in l.s l.at)) l.k (min l.slot 80) l.low l.high l.held × (l.slot < 80 → has_slot l.free_low l.free_high l.slot ≡ true)
    × ((x : ℕ) → l.rows ≤ x → get_or l.low x 0 ≡ 0) × ((x : ℕ) → l.rows ≤ x → get_or l.high x 0 ≡ 0)

abbrev pub decreases-loop-slot : goal.decreases-loop-slot
decreases-loop-slot l = 80 - l.slot
