-- Sixteen packets for each of eight sites and 128 for all together are never more than 256.
-- Assumes nothing.
use mathlib.Core.Path.{◌≡◌}
use mathlib.Core.Logic.{◌⊎◌, inl, inr}
use mathlib.Core.List.{List, [], ◌∷◌, map}
use Prim.Native.Nat.{ℕ, zero, suc, ◌+◌, ◌*◌, ◌≤◌, ◌<◌}
use native.Mathlib.Omega.{arith}
use lib.ListN.{length, get_or, set}
use Rattle.allotment.specs.Allotment.{total}
use Rattle.group.specs.Places.{top_places}
use Rattle.group.specs.Group.{SiteSlot, Empty, packets_in, own_share, common_share, beyond}

-- another site slot: the sum of a figure over the site slots
pub total-site-slot : (f : SiteSlot → ℕ) (l : List SiteSlot) (i : ℕ) (y : SiteSlot) → i < length l
    → total (map f (set l i y)) + f (get_or l i Empty)
    ≡ total (map f l) + f y
unfolding total
total-site-slot f [] i y h = absurd (omega arith)
total-site-slot f (x ∷ l) zero y h = omega arith
total-site-slot f (x ∷ l) (suc i) y h = let r = total-site-slot f l i y (omega arith) in omega arith

pub site-slot-total : (f : SiteSlot → ℕ) (l : List SiteSlot) (i : ℕ) → i < length l → f (get_or l i Empty) ≤ total (map f l)
unfolding total
site-slot-total f [] i h = absurd (omega arith)
site-slot-total f (x ∷ l) zero h = omega arith
site-slot-total f (x ∷ l) (suc i) h = let r = site-slot-total f l i (omega arith) in omega arith

-- sixteen of each site, and what is beyond
quota : (l : List SiteSlot) → total (map packets_in l) ≤ own_share * length l + total (map beyond l)
unfolding total
quota [] = omega arith
quota (x ∷ l) = let r = quota l in omega arith

quota-one : (l : List SiteSlot) (i : ℕ) → i < length l → packets_in (get_or l i Empty) < own_share → total (map packets_in l)
    + 1 ≤ own_share * length l + total (map beyond l)
unfolding total
quota-one [] i l h = absurd (omega arith)
quota-one (x ∷ l) zero k h = let r = quota l in omega arith
quota-one (x ∷ l) (suc i) k h = let r = quota-one l i (omega arith) h in omega arith

-- a send that is not refused as 17 finds fewer than 256 in use
pub spare : (l : List SiteSlot) (i : ℕ) → length l ≡ 8 → i < 8 → total (map beyond l) ≤ common_share
    → (packets_in (get_or l i Empty) < own_share) ⊎ (total (map beyond l) < common_share) → total (map packets_in l) < top_places
spare l i n k h (inl x) = let r = quota-one l i (omega arith) x in omega arith
spare l i n k h (inr x) = let r = quota l in omega arith
