-- Algorithm 1, lines 31, 47 and 51 to 54: how often each node was heard, and whom an epoch's end counts (specification, 3.2 Close and 3.4
-- End).
-- Assumes nothing.
use Rattle.std.specs.Prelude.{Bool, true, false, cond, ◌||◌, List, ℕ, ◌+◌, ◌-◌, eqb, ltb, leb, get_or}
use Rattle.words.specs.Bits.{has_bit, word_of, with_bit}
use Rattle.lists.specs.All.{tab}

-- a counter and whether its node was heard; a counter stops at 255, which no epoch of at most 32 rounds reaches
abbrev pub plus : ℕ → Bool → ℕ
plus x false = x
plus x true = cond (ltb x 255) (x + 1) x

-- line 31: C_e grows by C_r
unfoldable pub counted : List ℕ → ℕ → List ℕ
counted counters heard = tab 32 (λ i. plus (get_or counters i 0) (has_bit heard i))

-- a set and the node of number j: a union, so that a node of the set counts once
unfoldable pub with_self : ℕ → ℕ → ℕ
with_self w j = cond (ltb 0 j) (with_bit w (j - 1)) w

-- lines 51 to 54: the nodes with C_e of at least `heard`, and node i itself, also below it. `heard` is the C_min of line 51 (S-9)
unfoldable pub members_of : List ℕ → ℕ → ℕ → ℕ
members_of counters node heard = word_of 32 (λ i. leb heard (get_or counters i 0) || eqb (i + 1) node)
