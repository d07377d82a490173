-- Specification, 3.9 Several sites, one packet area: which packet lies in which of the 256 places of the area, one table for all sites.
-- An entry is 0 for a free place, and 256 a + p for packet p of site a.
-- Assumes nothing.
use Rattle.std.specs.Prelude.{cond, List, [], ◌∷◌, map, ℕ, suc, ◌+◌, ◌*◌, ◌/◌, eqb, set}

-- the places of an area of 11,520 bytes
abbrev pub top_places : ℕ
top_places = 256

-- the entry of packet p of site a, and the site of an entry: a free place is of site 0, which there is not
abbrev pub entry : ℕ → ℕ → ℕ
entry a p = 256 * a + p

abbrev pub site_of : ℕ → ℕ
site_of x = x / 256

-- the lowest place with an entry: how many stand before it; 256 where there is none
unfoldable pub place : ℕ → List ℕ → ℕ
place x [] = 0
place x (y ∷ t) = cond (eqb y x) 0 (suc (place x t))

-- an entry in the lowest free place, and no other changed
abbrev pub place_filled : ℕ → List ℕ → List ℕ
place_filled x t = set t (place 0 t) x

-- the places of site a are free, and no other is changed
abbrev pub freed_entry : ℕ → ℕ → ℕ
freed_entry a x = cond (eqb (site_of x) a) 0 x

unfoldable pub freed : ℕ → List ℕ → List ℕ
freed a t = map (freed_entry a) t
