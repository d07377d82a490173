-- How many lines of a script were refused, counted in its listing (specification, 8 Listing): the lines under the first
-- head, up to the second one. A refused line has digits and a space; the second head begins with the letter n, byte
-- 110.
-- Assumes nothing.
use Rattle.std.specs.Prelude.{cond, List, [], ◌∷◌, ℕ, ◌+◌, ◌-◌, eqb, take, drop}
use Rattle.text.specs.Read.{before}

-- 1 for the byte c, 0 for any other
abbrev pub one : ℕ → ℕ → ℕ
one c b = cond (eqb b c) 1 0

-- how many bytes c there are
unfoldable pub byte_count : ℕ → List ℕ → ℕ
byte_count c [] = 0
byte_count c (b ∷ s) = one c b + byte_count c s

-- the listing from the end of its first line on
abbrev pub under : List ℕ → List ℕ
under listing = drop (before 10 listing) listing

-- the ends of lines from there to the second head, or to the listing's end, but for that of the first line
unfoldable pub refused_in : List ℕ → ℕ
refused_in listing = byte_count 10 (take (before 110 (under listing)) (under listing)) - 1
