-- A schedule (specification, 2 What a node holds) as masks of slots, one of each node, in two words, and how many slots each node has.
-- Slots and nodes are counted from 0 here: slot k + 1 stands at index k, node j at index j - 1, and an owner is a node's number or 0 for
-- none.
-- Assumes nothing.
use Rattle.std.specs.Prelude.{Bool, cond, ◌&&◌, List, ℕ, ◌+◌, ◌-◌, eqb, ltb, get_or, replicate}
use Rattle.std.specs.Int.Bits
use Rattle.std.specs.Int.Count
use Rattle.words.specs.Bits.{has_bit, word_of, how_many}
use Rattle.lists.specs.All.{iter, all_below, tab}

-- for each node two words and a count: the slot at index k is bit k of the first word for k < 64, bit k - 64 of the second for k < 80
pub record Masks : Type 0 where
  pub low : List ℕ
  pub high : List ℕ
  pub counts : List ℕ

-- the masks of these words and counts
abbrev pub from_words : List ℕ → List ℕ → List ℕ → Masks
from_words low high counts = record { low = low; high = high; counts = counts }

-- the two words of the node at index i, of 64 and of 16 bits, and how many slots it is said to have; 0 behind the last node
abbrev pub low_of : Masks → ℕ → ℕ
low_of m i = get_or m.low i 0

abbrev pub high_of : Masks → ℕ → ℕ
high_of m i = get_or m.high i 0

abbrev pub count_of : Masks → ℕ → ℕ
count_of m i = get_or m.counts i 0

-- whether two words have the slot at index k: it is bit k of the first for k < 64, bit k - 64 of the second from there on
abbrev pub has_slot : ℕ → ℕ → ℕ → Bool
has_slot low high k = cond (ltb k 64) (has_bit low k) (has_bit high (k - 64))

-- whether the node at index i holds the slot at index k
unfoldable pub holds : Masks → ℕ → ℕ → Bool
holds m i k = has_slot (low_of m i) (high_of m i) k

-- one more than the lowest number below n that passes the test; 0 where none does
unfoldable pub first : ℕ → (ℕ → Bool) → ℕ
first n p = iter n (λ i j. cond (eqb j 0 && p i) (i + 1) j) 0

-- the owner of the slot at index k: the node that holds it, the lowest number where several do; 0 for none
unfoldable pub owner_in : Masks → ℕ → ℕ
owner_in m k = first 32 (λ i. holds m i k)

-- the owners of the 80 slots
unfoldable pub owners_in : Masks → List ℕ
owners_in m = tab 80 (owner_in m)

-- The masks of a list of owners: a number of 0 or above 32 owns nothing.

-- whether the slot at index k has the node at index i as its owner
abbrev pub owns : List ℕ → ℕ → ℕ → Bool
owns owners i k = eqb (get_or owners k 0) (i + 1)

unfoldable pub masks_of : List ℕ → Masks
masks_of owners =
    from_words (tab 32 (λ i. word_of 64 (owns owners i))) (tab 32 (λ i. word_of 16 (λ k. owns owners i (64 + k))))
    (tab 32 (λ i. how_many 80 (owns owners i)))

-- all slots free
abbrev pub no_owners : List ℕ
no_owners = replicate 80 0

-- What masks keep: no two nodes share a slot, and each count is the number of ones in the node's two words.

-- whether the nodes at indices i and j share no slot
abbrev pub apart : Masks → ℕ → ℕ → Bool
apart m i j = eqb (Bits.bit_and (low_of m i) (low_of m j)) 0 && eqb (Bits.bit_and (high_of m i) (high_of m j)) 0

-- whether the count of the node at index i is that of its ones
abbrev pub count_right : Masks → ℕ → Bool
count_right m i = eqb (count_of m i) (Count.ones (low_of m i) + Count.ones (high_of m i))

-- whether the node at index i shares no slot with a lower one, and has its count
abbrev pub well_formed_at : Masks → ℕ → Bool
well_formed_at m i = all_below i (λ j. apart m j i) && count_right m i

unfoldable pub well_formed : Masks → Bool
well_formed m = all_below 32 (well_formed_at m)
