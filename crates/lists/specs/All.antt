-- Lists by their rule, steps one after another, and tests of every element.
-- Assumes nothing.
use Rattle.std.specs.Prelude.{Bool, true, false, ◌&&◌, List, [], ◌∷◌, ◌++◌, ℕ, zero, suc, leb, eqb, length, get_or, take, drop}

-- x after the steps f 0, f 1, .., f (n - 1)
unfoldable pub iter : {A : Type 0} → ℕ → (ℕ → A → A) → A → A
iter zero f x = x
iter (suc n) f x = f n (iter n f x)

-- p of each number below n
unfoldable pub all_below : ℕ → (ℕ → Bool) → Bool
all_below zero p = true
all_below (suc n) p = all_below n p && p n

-- f 0, f 1, .., f (n - 1)
unfoldable pub tab : {A : Type 0} → ℕ → (ℕ → A) → List A
tab zero f = []
tab (suc n) f = tab n f ++ (f n ∷ [])

-- each element is at most top
unfoldable pub at_most : List ℕ → ℕ → Bool
at_most l top = all_below (length l) (λ i. leb (get_or l i 0) top)

-- the first m are at most top, the others 0
unfoldable pub bounded : List ℕ → ℕ → ℕ → Bool
bounded l m top = at_most (take m l) top && at_most (drop m l) 0

-- whether two lists are the same
unfoldable pub same : List ℕ → List ℕ → Bool
same [] [] = true
same [] (y ∷ t) = false
same (x ∷ s) [] = false
same (x ∷ s) (y ∷ t) = eqb x y && same s t
