-- A list that a loop maps in place.
-- Assumes nothing.
use mathlib.Core.Path.{◌≡◌, refl, ap, ap₂, ◌∙◌}
use mathlib.Core.List.{List, [], ◌∷◌, map}
use Prim.Native.Nat.{ℕ, zero, suc, ◌+◌, ◌≤◌, ◌<◌}
use native.Mathlib.Nat.{le_of_suc-le-suc, not-suc-le-zero}
use native.Mathlib.Numerals.{add-one}
use lib.ListN.{length, get_or, set}

-- a loop that maps a list in place: after n turns its first n elements are mapped
module _ {A : Type 0} (f : A → A) where
  unfoldable pub map_to : ℕ → List A → List A
  map_to zero l = l
  map_to (suc n) [] = []
  map_to (suc n) (x ∷ l) = f x ∷ map_to n l

  pub map-none : (l : List A) → l ≡ map_to zero l
  unfolding map_to
  map-none l = refl

  map_to-at : (n : ℕ) (l : List A) (d : A) → get_or (map_to n l) n d ≡ get_or l n d
  unfolding map_to
  map_to-at zero l d = refl
  map_to-at (suc n) [] d = refl
  map_to-at (suc n) (x ∷ l) d = map_to-at n l d

  map_to-suc : (n : ℕ) (l : List A) (d : A) → n < length l → set (map_to n l) n (f (get_or l n d)) ≡ map_to (suc n) l
  unfolding map_to
  map_to-suc n [] d h = absurd (not-suc-le-zero h)
  map_to-suc zero (x ∷ l) d h = refl
  map_to-suc (suc n) (x ∷ l) d h = ap (λ (t : List A). f x ∷ t) (map_to-suc n l d (le_of_suc-le-suc h))

  -- a turn: m is the list as it was, y what the body made of its element
  pub map_more : (n : ℕ) (l m : List A) (d y : A) → n < length l → m ≡ map_to n l → y ≡ f (get_or m n d) → set m n y ≡ map_to (n + 1) l
  map_more n l m d y h e k =
      ap₂ (λ (s : List A) (z : A). set s n z) e (k ∙ ap (λ (s : List A). f (get_or s n d)) e ∙ ap f (map_to-at n l d))
      ∙ rw add-one (map_to-suc n l d h)

  map_to-all : (n : ℕ) (l : List A) → length l ≤ n → map_to n l ≡ map f l
  unfolding map_to
  map_to-all zero [] h = refl
  map_to-all zero (x ∷ l) h = absurd (not-suc-le-zero h)
  map_to-all (suc n) [] h = refl
  map_to-all (suc n) (x ∷ l) h = ap (λ (t : List A). f x ∷ t) (map_to-all n l (le_of_suc-le-suc h))

  pub map-end : (n : ℕ) (l m : List A) → m ≡ map_to n l → length l ≤ n → m ≡ map f l
  map-end n l m e h = e ∙ map_to-all n l h
