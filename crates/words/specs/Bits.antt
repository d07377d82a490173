-- A set of nodes as a word (specification, 1 Figures): bit j - 1 stands for node j, so bit i for node i + 1.
-- Assumes nothing.
use Rattle.std.specs.Prelude.{Bool, true, false, cond, ◌&&◌, ℕ, zero, suc, min, ◌+◌, ◌-◌, ◌*◌, ◌/◌, ◌%◌, ◌^◌, eqb, ltb}
use Rattle.std.specs.Int.Bits
use Rattle.std.specs.Int.Count

-- whether bit i of w is set
abbrev pub has_bit : ℕ → ℕ → Bool
has_bit w i = eqb (w / 2 ^ i % 2) 1

-- w with bit i set; a word has 32 bits
abbrev pub with_bit : ℕ → ℕ → ℕ
with_bit w i = cond (ltb i 32) (Bits.bit_or w (2 ^ i)) w

-- how many nodes are in w
abbrev pub size : ℕ → ℕ
size w = Count.ones w

-- whether node j, counted from 1, is in w
abbrev pub is_in : ℕ → ℕ → Bool
is_in w j = ltb 0 j && has_bit w (j - 1)

-- whether each node of a is in b
abbrev pub is_inside : ℕ → ℕ → Bool
is_inside a b = eqb (Bits.bit_or a b) b

-- all of n nodes, at most 32
abbrev pub all_of : ℕ → ℕ
all_of n = 2 ^ min n 32 - 1

-- a test as a digit
abbrev pub digit : Bool → ℕ
digit true = 1
digit false = 0

-- the word whose bits below n are those of which p is true
unfoldable pub word_of : ℕ → (ℕ → Bool) → ℕ
word_of zero p = 0
word_of (suc n) p = digit (p n) * 2 ^ n + word_of n p

-- how many i below n have p
unfoldable pub how_many : ℕ → (ℕ → Bool) → ℕ
how_many zero p = 0
how_many (suc n) p = digit (p n) + how_many n p
