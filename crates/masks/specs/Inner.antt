-- What the contracts of private functions say.
-- Assumes nothing.
use Rattle.std.specs.Prelude.{Bool, true, cond, ◌&&◌, List, ℕ, ◌+◌, ◌-◌, ◌*◌, ◌/◌, ◌^◌, eqb, leb, ltb, length, get_or, set}
use Rattle.std.specs.Int.Bits
use Rattle.words.specs.Bits.{has_bit}
use Rattle.lists.specs.All.{iter, all_below, tab}
use Rattle.lists.specs.Bytes.{written}
use Rattle.masks.specs.Slots.{well_formed_at}
use Rattle.masks.specs.Slots.{Masks}
use Rattle.masks.specs.Bytes.{word64, bytes64, word16, bytes16, at_high, at_held}

-- a word laid over owners from a place on gives the number j to each slot where it has a bit and there was no owner: the slot at index k
-- then
abbrev pub slot_given_at : List ℕ → ℕ → ℕ → ℕ → ℕ → ℕ
slot_given_at owners from w j k = cond (eqb (get_or owners k 0) 0 && (leb from k && has_bit w (k - from))) j (get_or owners k 0)

-- and all of them
unfoldable pub slots_given : List ℕ → ℕ → ℕ → ℕ → List ℕ
slots_given owners from w j = tab (length owners) (slot_given_at owners from w j)

-- where the node of number j stands; 32 and more for a number that no node has
abbrev pub index_of : ℕ → ℕ
index_of j = cond (eqb j 0) 32 (j - 1)

-- the bits of the first n words
unfoldable pub taken : List ℕ → ℕ → ℕ
taken l n = iter n (λ i w. Bits.bit_or w (get_or l i 0)) 0

-- whether two words have no slot from k up
unfoldable pub ends_by : ℕ → ℕ → ℕ → Bool
ends_by low high k = cond (ltb k 64) (eqb (low / 2 ^ k) 0 && eqb high 0) (cond (ltb k 80) (eqb (high / 2 ^ (k - 64)) 0) true)

-- whether the first nodes share no slot and have their counts, and have no slot from k up
abbrev pub rows_fit : Masks → ℕ → ℕ → Bool
rows_fit m top k = all_below top (well_formed_at m) && ends_by (taken m.low top) (taken m.high top) k

-- the bit of the slot at index k in the words of the node at index i of the masks at a place
abbrev pub marked : List ℕ → ℕ → ℕ → ℕ → List ℕ
marked l at i k =
    cond (ltb k 64) (written l (at + 8 * i) (bytes64 (Bits.bit_or (word64 l (at + 8 * i)) (2 ^ k))))
    (written l (at + at_high + 2 * i) (bytes16 (Bits.bit_or (word16 l (at + at_high + 2 * i)) (2 ^ (k - 64)))))

-- and one more in its count: the node has the slot
abbrev pub marking : List ℕ → ℕ → ℕ → ℕ → List ℕ
marking l at i k = set (marked l at i k) (at + at_held + i) (get_or l (at + at_held + i) 0 + 1)

-- the slot given to the node of number j; to nobody where no node has that number
abbrev pub granted : List ℕ → ℕ → ℕ → ℕ → List ℕ
granted l at j k = cond (ltb (index_of j) 32) (marking l at (index_of j) k) l
