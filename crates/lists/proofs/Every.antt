-- What holds of every element of a list: after a change of one, with one more, and of a list by its rule.
-- Assumes nothing.
use mathlib.Core.List.{List, [], ◌∷◌, ◌++◌}
use Prim.Native.Nat.{ℕ, zero, suc, ◌<◌}
use native.Mathlib.Decide.{dec_lt}
use native.Mathlib.Omega.{arith}
use lib.ListN.{length, get_or, set, get_or-eq_default}
use Rattle.lists.specs.All.{tab}
use Rattle.lists.proofs.Laws.{length-tab, get_d-tab}

-- an element is changed
pub every_set : {A : Type 0} (P : ℕ → A → Type 0) (d : A) (l : List A) (i : ℕ) (x : A) → ((j : ℕ) → P j (get_or l j d)) → P i x → (j : ℕ)
    → P j (get_or (set l i x) j d)
every_set P d [] i x h p j = h j
every_set P d (y ∷ l) zero x h p zero = p
every_set P d (y ∷ l) zero x h p (suc j) = h (suc j)
every_set P d (y ∷ l) (suc i) x h p zero = h zero
every_set P d (y ∷ l) (suc i) x h p (suc j) = every_set (λ k. P (suc k)) d l i x (λ k. h (suc k)) p j

-- an element is put at the end
pub every_more : {A : Type 0} (P : A → Type 0) (d : A) (l : List A) (x : A) → ((p : ℕ) → p < length l → P (get_or l p d)) → P x
    → (p : ℕ) → p < length (l ++ (x ∷ [])) → P (get_or (l ++ (x ∷ [])) p d)
every_more P d [] x h px zero q = px
every_more P d [] x h px (suc p) q = absurd (omega arith)
every_more P d (y ∷ l) x h px zero q = h zero (omega arith)
every_more P d (y ∷ l) x h px (suc p) q = every_more P d l x (λ k r. h (suc k) (omega arith)) px p (omega arith)

-- a list by its rule, and what stands behind its end
pub every-tab : {A : Type 0} (P : ℕ → A → Type 0) (d : A) (n : ℕ) (f : ℕ → A) → ((i : ℕ) → P i (f i)) → ((i : ℕ) → P i d) → (i : ℕ)
    → P i (get_or (tab n f) i d)
every-tab P d n f h e i = go (dec_lt i n)
  where
    go : Dec (i < n) → P i (get_or (tab n f) i d)
    go (yes l) = rw (get_d-tab d n f i l) (h i)
    go (no l) = rw (get_or-eq_default (tab n f) d {n = i} (omega (arith, length-tab n f))) (e i)
