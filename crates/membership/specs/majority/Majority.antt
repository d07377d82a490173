-- Specification, 3.2 Close and 3.4 End: how many nodes are more than half of N, read off a sheet (S-4). The paper's test is a doubled sum
-- (lines 24 and 47); proofs/majority/Laws.antt has that it comes to the same.
-- Assumes nothing.
use Rattle.std.specs.Prelude.{Bool, not, ◌&&◌, List, [], ◌∷◌, ℕ, leb, get_or}
use Rattle.words.specs.Bits.{size}

-- the least count for N = 1, 2, 3 and so on to 32, eight to a line
abbrev pub sheet : List ℕ
sheet =
    1 ∷ 2 ∷ 2 ∷ 3 ∷ 3 ∷ 4 ∷ 4 ∷ 5
    ∷ 5 ∷ 6 ∷ 6 ∷ 7 ∷ 7 ∷ 8 ∷ 8 ∷ 9
    ∷ 9 ∷ 10 ∷ 10 ∷ 11 ∷ 11 ∷ 12 ∷ 12 ∷ 13
    ∷ 13 ∷ 14 ∷ 14 ∷ 15 ∷ 15 ∷ 16 ∷ 16 ∷ 17
    ∷ []

-- the least count that is more than half of N nodes, by N; off the sheet 33, which no set of 32 reaches
abbrev pub least_count : ℕ → ℕ
least_count N = get_or (33 ∷ sheet) N 33

-- a set counts more than half of N nodes (line 24). Off the sheet, for 0 nodes and for more than 32, none does:
-- `leb N 32` says it also of a number of more than 32 bits, which may count 33 and more
abbrev pub majority : ℕ → ℕ → Bool
majority N w = leb N 32 && leb (least_count N) (size w)

-- it counts half of them or fewer (line 47)
abbrev pub minority : ℕ → ℕ → Bool
minority N w = not (majority N w)
