-- A worked case: node 1 owns slots 1 and 3, node 2 slot 2, and node 32 slots 64, 65 and 80.
-- Assumes nothing.
use mathlib.Core.Path.{◌≡◌, refl}
use mathlib.Core.List.{List, [], ◌∷◌, ◌++◌}
use Prim.Native.Nat.{ℕ, ◌+◌, ◌^◌}
use lib.ListN.{replicate}
use Rattle.words.specs.Bits.{word_of, how_many}
use Rattle.lists.specs.All.{iter, tab}
use Rattle.masks.specs.Slots.{low_of, high_of, count_of, holds, first, owner_in, masks_of}

case : List ℕ
case = (1 ∷ 2 ∷ 1 ∷ []) ++ (replicate 60 0 ++ ((32 ∷ 32 ∷ []) ++ (replicate 14 0 ++ (32 ∷ []))))

words : (low_of (masks_of case) 0 ≡ 5) × (low_of (masks_of case) 1 ≡ 2) × (low_of (masks_of case) 31 ≡ 2 ^ 63)
    × (high_of (masks_of case) 31 ≡ 1 + 2 ^ 15)
unfolding case masks_of tab word_of
words = (refl, refl, refl, refl)

counts : (count_of (masks_of case) 0 ≡ 2) × (count_of (masks_of case) 1 ≡ 1) × (count_of (masks_of case) 31 ≡ 3)
unfolding case masks_of tab how_many
counts = (refl, refl, refl)

owners : (owner_in (masks_of case) 63 ≡ 32) × (owner_in (masks_of case) 64 ≡ 32) × (owner_in (masks_of case) 65 ≡ 0)
    × (owner_in (masks_of case) 79 ≡ 32)
unfolding case masks_of tab word_of how_many owner_in first iter holds
owners = (refl, refl, refl, refl)
