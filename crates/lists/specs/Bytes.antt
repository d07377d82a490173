-- Numbers as bytes, highest byte first (specification, 5 Bytes on the air); bytes at a place.
-- Assumes nothing.
use Rattle.std.specs.Prelude.{◌≡◌, cond, List, [], ◌∷◌, ◌++◌, ℕ, ◌+◌, ◌*◌, ◌/◌, ◌%◌, leb, length, get_or, take, drop}
use Rattle.lists.specs.All.{tab}

-- the number in the four bytes at a place
abbrev pub word32 : List ℕ → ℕ → ℕ
word32 l at = get_or l at 0 * 16777216 + get_or l (at + 1) 0 * 65536 + get_or l (at + 2) 0 * 256 + get_or l (at + 3) 0

-- a number's four bytes
abbrev pub bytes32 : ℕ → List ℕ
bytes32 x = (x / 16777216 % 256) ∷ (x / 65536 % 256) ∷ (x / 256 % 256) ∷ (x % 256) ∷ []

-- the bytes of numbers, one behind another
unfoldable pub flat : List ℕ → List ℕ
flat [] = []
flat (x ∷ l) = bytes32 x ++ flat l

-- n bytes from a place on, 0 behind the end
abbrev pub window : ℕ → List ℕ → ℕ → List ℕ
window n l at = tab n (λ i. get_or l (at + i) 0)

-- n bytes at a place
abbrev pub span : List ℕ → ℕ → ℕ → List ℕ
span l at n = take n (drop at l)

-- a list with b at a place, and every other element as it was
abbrev pub written : List ℕ → ℕ → List ℕ → List ℕ
written l at b = (take at l ++ b) ++ drop (at + length b) l

-- b was put at a place: what the list is then, and the next place
pub record Put (l : List ℕ) (at : ℕ) (b : List ℕ) (next : ℕ) (after : List ℕ) : Type 0 where
  pub to : next ≡ at + length b
  pub is : after ≡ written l at b

-- b was put at a place if there was room for it: otherwise nothing is changed, and the place stays
pub record Tried (l : List ℕ) (at : ℕ) (b : List ℕ) (next : ℕ) (after : List ℕ) : Type 0 where
  pub to : next ≡ cond (leb (at + length b) (length l)) (at + length b) at
  pub is : after ≡ cond (leb (at + length b) (length l)) (written l at b) l
