-- What the contracts of private functions say: the lowest of the slots that a node holds, as a mask.
-- Assumes nothing.
use Rattle.std.specs.Prelude.{◌≡◌, Bool, true, false, not, cond, ◌&&◌, ℕ, min, ◌+◌, ◌-◌, ◌^◌, ◌≤◌, ◌<◌, ltb}
use Rattle.words.specs.Bits.{has_bit, word_of, how_many}
use Rattle.masks.specs.Slots.{has_slot}
use Rattle.allotment.specs.declared.Share.{Share}

-- whether k is one of the lowest t numbers that pass a test
abbrev pub among : (ℕ → Bool) → ℕ → ℕ → Bool
among p t k = p k && ltb (how_many k p) t

-- the word of the lowest t ones of a word of n bits
unfoldable pub lowest_of : ℕ → ℕ → ℕ → ℕ
lowest_of n w t = word_of n (among (has_bit w) t)

-- the lowest t slots of a node's two words, as two words, and how many they are
unfoldable pub node_kept : ℕ → ℕ → ℕ → Share
node_kept low high t =
    record {
      low = word_of 64 (among (has_slot low high) t);
      high = word_of 16 (λ k. among (has_slot low high) t (64 + k));
      held = min (how_many 80 (has_slot low high)) t;
    }

-- the bits of a first word that another has not, below k; of a second one, whose bit 0 is that of slot 64
unfoldable pub own_low : ℕ → ℕ → ℕ → ℕ
own_low w taken k = word_of 64 (λ b. ltb b k && (has_bit w b && not (has_bit taken b)))

unfoldable pub own_high : ℕ → ℕ → ℕ → ℕ
own_high w taken k = word_of 16 (λ b. ltb (64 + b) k && (has_bit w b && not (has_bit taken b)))

-- the bit of the slot at index k, in a first word and in a second one
abbrev pub low_bit : ℕ → ℕ
low_bit k = cond (ltb k 64) (2 ^ k) 0

abbrev pub high_bit : ℕ → ℕ
high_bit k = cond (ltb k 64) 0 (cond (ltb k 80) (2 ^ (k - 64)) 0)

-- r is the first number from `from` on, below n, that passes a test; n or more where none does
pub record FirstFrom (p : ℕ → Bool) (n from r : ℕ) : Type 0 where
  pub behind : from ≤ r
  pub passes : r < n → p r ≡ true
  pub none : (k : ℕ) → from ≤ k → k < r → k < n → p k ≡ false
