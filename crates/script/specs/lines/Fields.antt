-- Lines of numbers (specification, 7 Script): the pieces between spaces are so many numbers.
-- Assumes nothing.
use Rattle.std.specs.Prelude.{List, [], ◌∷◌, ℕ, zero, suc, Option, None, Some}
use Rattle.text.specs.Read.{number_of}

-- a number in front of others, where all are numbers
abbrev pub in_front : Option ℕ → Option (List ℕ) → Option (List ℕ)
in_front (Some x) (Some ns) = Some (x ∷ ns)
in_front _ _ = None

-- n fields, all numbers, and no more
unfoldable pub numbers_of : ℕ → List (List ℕ) → Option (List ℕ)
numbers_of zero [] = Some []
numbers_of (suc n) (p ∷ ps) = in_front (number_of p) (numbers_of n ps)
numbers_of _ _ = None
