-- Specification, 3.8 Slots held: who claims which slot, by nodes and by slots. The schedules stand by node, that of node i + 1 at index i.
-- Assumes nothing.
use Rattle.std.specs.Prelude.{Bool, List, ℕ, zero, suc, ◌+◌, eqb, get_or}
use Rattle.words.specs.Bits.{how_many}
use Rattle.allotment.specs.Allotment.{top_slots, owner_of, no_schedule}
use Rattle.allotment.specs.Model.{Schedule}

-- a schedule gives the slot at index k to the node at index i
abbrev pub gives_slot : Schedule → ℕ → ℕ → Bool
gives_slot s k i = eqb (owner_of s k) (i + 1)

-- the node at index i claims the slot at index k: its own schedule gives it to it
abbrev pub claims : List Schedule → ℕ → ℕ → Bool
claims l k i = gives_slot (get_or l i no_schedule) k i

-- how many slots the node at index i holds by its own schedule
abbrev pub held_by : List Schedule → ℕ → ℕ
held_by l i = how_many top_slots (λ k. claims l k i)

-- how many nodes claim the slot at index k
abbrev pub claimants : List Schedule → ℕ → ℕ
claimants l k = how_many 32 (claims l k)

-- g 0 + .. + g (n - 1)
unfoldable pub sum : ℕ → (ℕ → ℕ) → ℕ
sum zero g = 0
sum (suc n) g = g n + sum n g

-- the site's slots, summed slot by slot: for each the nodes that claim it
abbrev pub claimed : List Schedule → ℕ
claimed l = sum top_slots (claimants l)
