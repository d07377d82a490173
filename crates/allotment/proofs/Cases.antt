-- The worked cases of the allotment (specification, 11), computed from the definitions.
-- Assumes nothing.
use mathlib.Core.Path.{◌≡◌, refl}
use mathlib.Core.List.{List, [], ◌∷◌, ◌++◌}
use Prim.Native.Nat.{ℕ, ◌-◌}
use lib.ListN.{length, replicate}
use Rattle.lists.specs.All.{iter, tab}
use Rattle.allotment.specs.Model.{Schedule}
use Rattle.allotment.specs.Allotment.{owners_of, schedule_of, asks, deal_one, deal_round, dealt, targets, keep_one, kept, better, chosen}
use Rattle.allotment.specs.Allotment.{fill_one, filled, next}

-- a schedule by its first owners
abbrev owned : List ℕ → Schedule
owned l = schedule_of (l ++ replicate (80 - length l) 0)

-- schedule 1,1,0,0, requests 1 and 3: then 1,0,2,2
pub handed-on : next (owned (1 ∷ 1 ∷ 0 ∷ 0 ∷ [])) 3 (1 ∷ 3 ∷ []) 2 4 ≡ owned (1 ∷ 0 ∷ 2 ∷ 2 ∷ [])
unfolding owners_of schedule_of next iter tab asks deal_one deal_round dealt keep_one kept better chosen fill_one filled
handed-on = refl

-- and once more: 1,2,2,2
pub again : next (owned (1 ∷ 0 ∷ 2 ∷ 2 ∷ [])) 3 (1 ∷ 3 ∷ []) 2 4 ≡ owned (1 ∷ 2 ∷ 2 ∷ 2 ∷ [])
unfolding owners_of schedule_of next iter tab asks deal_one deal_round dealt keep_one kept better chosen fill_one filled
again = refl

-- K=2, three nodes that request 7: targets 1,1,0
pub scarce : targets 3 2 7 (7 ∷ 7 ∷ 7 ∷ []) ≡ 1 ∷ 1 ∷ 0 ∷ replicate 29 0
unfolding iter tab asks deal_one deal_round dealt
scarce = refl
