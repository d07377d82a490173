-- A number's decimal digits (specification, 8 Listing).
-- Assumes nothing.
use Rattle.std.specs.Prelude.{cond, List, [], ◌∷◌, ◌++◌, ℕ, zero, suc, ◌+◌, ◌/◌, ◌%◌, ltb}

-- the digits of a number that has at most k, highest first
unfoldable pub digits_of : ℕ → ℕ → List ℕ
digits_of zero x = []
digits_of (suc k) x = cond (ltb x 10) ((48 + x) ∷ []) (digits_of k (x / 10) ++ ((48 + x % 10) ∷ []))

-- a number below ten thousand million in decimal, without leading zeros
abbrev pub decimal : ℕ → List ℕ
decimal x = digits_of 10 x
