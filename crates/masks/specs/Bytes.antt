-- Masks as 352 bytes: the first words of nodes 1 to 32, 8 bytes each, then their second words, 2 bytes each, then how many slots each has,
-- a byte each.
-- Assumes nothing.
use Rattle.std.specs.Prelude.{Bool, cond, ◌&&◌, ◌||◌, List, [], ◌∷◌, ◌++◌, ℕ, zero, suc, ◌+◌, ◌-◌, ◌*◌, ◌/◌, ◌%◌, eqb, ltb, leb, length, get_or, replicate}
use Rattle.lists.specs.All.{all_below, tab, bounded}
use Rattle.lists.specs.Bytes.{word32, bytes32, window, span, written}
use Rattle.masks.specs.Slots.{from_words, low_of, high_of, count_of, owners_in, well_formed}
use Rattle.masks.specs.Slots.{Masks}
use Rattle.masks.specs.declared.NodeSlots.{NodeSlots}

-- numbers of eight bytes and of two, highest byte first: read at a place, and written
abbrev pub word64 : List ℕ → ℕ → ℕ
word64 l at = word32 l at * 4294967296 + word32 l (at + 4)

abbrev pub bytes64 : ℕ → List ℕ
bytes64 x = bytes32 (x / 4294967296) ++ bytes32 (x % 4294967296)

abbrev pub word16 : List ℕ → ℕ → ℕ
word16 l at = get_or l at 0 * 256 + get_or l (at + 1) 0

abbrev pub bytes16 : ℕ → List ℕ
bytes16 x = (x / 256 % 256) ∷ (x % 256) ∷ []

-- f 0, f 1, .., f (n - 1), one behind another
unfoldable pub rows : ℕ → (ℕ → List ℕ) → List ℕ
rows zero f = []
rows (suc n) f = rows n f ++ f n

-- the bytes of masks, and where their second words and counts start
abbrev pub masks_size : ℕ
masks_size = 352

abbrev pub at_high : ℕ
at_high = 256

abbrev pub at_held : ℕ
at_held = 320

unfoldable pub masks_bytes : Masks → List ℕ
masks_bytes m = rows 32 (λ i. bytes64 (low_of m i)) ++ (rows 32 (λ i. bytes16 (high_of m i)) ++ tab 32 (count_of m))

-- the masks in the bytes at a place, whatever they are
unfoldable pub masks_in : List ℕ → ℕ → Masks
masks_in l at = from_words (tab 32 (λ i. word64 l (at + 8 * i))) (tab 32 (λ i. word16 l (at + at_high + 2 * i))) (window 32 l (at + at_held))

-- whether there is room for masks at a place
abbrev pub has_room : List ℕ → ℕ → Bool
has_room l at = leb (at + masks_size) (length l)

-- masks that are well formed, with slots among the first k alone, and of the first n nodes alone
unfoldable pub fitting : Masks → ℕ → ℕ → Bool
fitting m k n = well_formed m && bounded (owners_in m) k n

-- whether such masks stand at a place; without room for them none do
unfoldable pub fit_read : List ℕ → ℕ → ℕ → ℕ → Bool
fit_read l at k n = has_room l at && fitting (masks_in l at) k n

-- whether the node at index i is one of the first, or has neither a slot nor a count
abbrev pub blank_at : Masks → ℕ → ℕ → Bool
blank_at m top i = ltb i top || (eqb (low_of m i) 0 && (eqb (high_of m i) 0 && eqb (count_of m i) 0))

-- whether all nodes are
abbrev pub rest_blank : Masks → ℕ → Bool
rest_blank m top = all_below 32 (blank_at m top)

-- how many rows of the masks at a place say all: the first n, where the others have neither slots nor counts; else all
unfoldable pub rows_used : List ℕ → ℕ → ℕ → ℕ
rows_used l at n = cond (ltb n 32 && (has_room l at && rest_blank (masks_in l at) n)) n 32

-- the first n of 32 words, and 0 for the others
unfoldable pub first_words : ℕ → List ℕ → List ℕ
first_words n l = tab 32 (λ i. cond (ltb i n) (get_or l i 0) 0)

-- all slots free at a place; without room nothing changes
abbrev pub no_slots : List ℕ
no_slots = replicate masks_size 0

abbrev pub cleared : List ℕ → ℕ → List ℕ
cleared l at = cond (has_room l at) (written l at no_slots) l

-- masks copied from a place to another; without room at both, or where the second starts within the masks at the first, nothing changes
abbrev pub can_copy : List ℕ → ℕ → ℕ → Bool
can_copy l from to = (has_room l from && has_room l to) && (leb to from || leb (from + masks_size) to)

abbrev pub copied : List ℕ → ℕ → ℕ → List ℕ
copied l from to = cond (can_copy l from to) (written l to (span l from masks_size)) l

-- what the masks at a place hold of node j, counted from 1: its two words and its count; nothing of a number that no node has, and nothing
-- without room for the masks
abbrev pub no_own : NodeSlots
no_own = record { low = 0; high = 0; count = 0 }

abbrev pub node_slots_of : Masks → ℕ → NodeSlots
node_slots_of m i = record { low = low_of m i; high = high_of m i; count = count_of m i }

unfoldable pub own_read : List ℕ → ℕ → ℕ → NodeSlots
own_read l at j = cond (has_room l at && (leb 1 j && leb j 32)) (node_slots_of (masks_in l at) (j - 1)) no_own

-- the words of the node at index i in the masks at a place; 0 behind the last node, and without room for masks
abbrev pub low_at : List ℕ → ℕ → ℕ → ℕ
low_at l at i = cond (has_room l at) (low_of (masks_in l at) i) 0

abbrev pub high_at : List ℕ → ℕ → ℕ → ℕ
high_at l at i = cond (has_room l at) (high_of (masks_in l at) i) 0
