-- A schedule as the bytes of its masks: what was read of well-formed masks is written again.
-- Assumes nothing.
use mathlib.Core.Path.{◌≡◌, sym, ap, ◌∙◌}
use mathlib.Core.Bool.{Bool, true, ◌&&◌}
use mathlib.Core.List.{List, ◌++◌}
use Prim.Native.Nat.{ℕ, ◌+◌, ◌≤◌}
use native.Mathlib.Omega.{arith}
use borrow.Author.Tests.{le-leb}
use lib.ListN.{length, drop}
use Rattle.lists.specs.All.{bounded}
use Rattle.masks.specs.Slots.{Masks}
use Rattle.masks.specs.Slots.{owners_in, masks_of, well_formed}
use Rattle.masks.specs.Bytes.{masks_size, masks_bytes, masks_in, fitting, fit_read}
use Rattle.masks.proofs.Parts.{Bytes}
use Rattle.masks.proofs.Rows.{sized, masks-then, masks-back}
use Rattle.masks.proofs.Owners.{made-sized}
use Rattle.masks.proofs.Tidy.{made_tidy, made_again}
use Rattle.allotment.specs.Allotment.{owners_of, schedule_of}
use Rattle.allotment.specs.Model.{Schedule}
use Rattle.allotment.proofs.Schedules.{owners-made}
use Rattle.allotment.specs.InPlace.{held_bytes, held_in}

-- masks that stand at a place fit where they are well formed and the schedule that they hold is within the bounds
pub held-fit : (a : List ℕ) (at k n : ℕ) → at + masks_size ≤ length a → fit_read a at k n
    ≡ (well_formed (masks_in a at) && bounded (owners_of (held_in a at)) k n)
unfolding fit_read fitting held_in
held-fit a at k n h =
    let m = masks_in a at in
    ap (λ (t : Bool). t && (well_formed m && bounded (owners_in m) k n)) (le-leb _ _ h)
    ∙ ap (λ (o : List ℕ). well_formed m && bounded o k n) (sym (owners-made (owners_in m)))

-- a schedule made of well-formed masks has their bytes
pub held_then : (l : List ℕ) (at to : ℕ) (t : List ℕ) → Bytes l → to ≤ length l → at + masks_size ≡ to → well_formed (masks_in l at) ≡ true → t
    ≡ drop to l → held_bytes (held_in l at) ++ t ≡ drop at l
unfolding held_bytes held_in
held_then l at to t b h e y f =
    let m = masks_in l at in
    let o : owners_of (schedule_of (owners_in m)) ≡ owners_in m = owners-made (owners_in m) in
    ap (λ (x : Masks). masks_bytes x ++ t) (ap masks_of o ∙ made_again m y (sized l b at (omega arith))) ∙ masks-then l at to t b h e f

-- and the bytes of a schedule are those of well-formed masks
pub held-tidy : (s : Schedule) (a q : List ℕ) (at : ℕ) → drop at a ≡ held_bytes s ++ q → well_formed (masks_in a at) ≡ true
unfolding held_bytes
held-tidy s a q at e = ap well_formed (masks-back (masks_of (owners_of s)) (made-sized (owners_of s)) a q at e) ∙ made_tidy (owners_of s)
