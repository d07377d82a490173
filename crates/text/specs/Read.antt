-- Pieces between separators, and numbers, of a list of bytes (specification, 7 Script): byte 10 ends a line, one space
-- (byte 32) stands between fields, and a number is decimal without leading zeros.
-- Assumes nothing.
use Rattle.std.specs.Prelude.{cond, List, [], ◌∷◌, ℕ, suc, ◌+◌, ◌*◌, ◌-◌, eqb, ltb}
use Rattle.std.specs.Prelude.{Option}
use Rattle.std.specs.Prelude.{None, Some}

-- how many bytes stand before the first c
unfoldable pub before : ℕ → List ℕ → ℕ
before c [] = 0
before c (b ∷ s) = cond (eqb b c) 0 (suc (before c s))

-- b in front of the first piece
unfoldable pub front : ℕ → List (List ℕ) → List (List ℕ)
front b [] = []
front b (p ∷ ps) = (b ∷ p) ∷ ps

-- the pieces between the bytes c: one more than there are such bytes
unfoldable pub split : ℕ → List ℕ → List (List ℕ)
split c [] = [] ∷ []
split c (b ∷ s) = cond (eqb b c) ([] ∷ split c s) (front b (split c s))

-- the number that the digits v are continued to by the bytes
unfoldable pub digits_from : ℕ → List ℕ → Option ℕ
digits_from v [] = Some v
digits_from v (b ∷ s) =
    cond (ltb b 48) None
    (cond (ltb 57 b) None
    (cond (ltb 4294967295 (v * 10 + (b - 48))) None (digits_from (v * 10 + (b - 48)) s)))

-- a 0 stands alone
abbrev pub zero_then : List ℕ → Option ℕ
zero_then [] = Some 0
zero_then (b ∷ s) = None

-- decimal without leading zeros, at most 4,294,967,295
unfoldable pub number_of : List ℕ → Option ℕ
number_of [] = None
number_of (b ∷ s) = cond (eqb b 48) (zero_then s) (digits_from 0 (b ∷ s))
