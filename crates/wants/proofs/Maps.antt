-- Mapped lists: an element changed, one more at the end, and a list by its rule.
-- Assumes nothing.
use mathlib.Core.Path.{◌≡◌, refl, ap, ◌∙◌}
use mathlib.Core.List.{List, [], ◌∷◌, ◌++◌, map}
use Prim.Native.Nat.{ℕ, zero, suc}
use lib.ListN.{set}
use Rattle.lists.specs.All.{tab}

module _ {A B : Type 0} (f : A → B) where
  pub map-set : (l : List A) (i : ℕ) (x : A) → map f (set l i x) ≡ set (map f l) i (f x)
  map-set [] i x = refl
  map-set (y ∷ l) zero x = refl
  map-set (y ∷ l) (suc i) x = ap (λ t. f y ∷ t) (map-set l i x)

  pub map_snoc : (l : List A) (x : A) → map f (l ++ (x ∷ [])) ≡ map f l ++ (f x ∷ [])
  map_snoc [] x = refl
  map_snoc (y ∷ l) x = ap (λ t. f y ∷ t) (map_snoc l x)

  pub map-tab : (n : ℕ) (g : ℕ → A) → map f (tab n g) ≡ tab n (λ i. f (g i))
  unfolding tab
  map-tab zero g = refl
  map-tab (suc n) g = map_snoc (tab n g) (g n) ∙ ap (λ l. l ++ (f (g n) ∷ [])) (map-tab n g)
