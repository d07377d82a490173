-- The first of some nodes: where it is none, that it has the property, and that no node before it has.
-- Assumes nothing.
use mathlib.Core.Path.{◌≡◌, refl, ap, ◌∙◌}
use mathlib.Core.Bool.{Bool, true, false, cond}
use mathlib.Core.Logic.{◌≢◌}
use Prim.Native.Nat.{ℕ, zero, suc, ◌+◌, ◌-◌, ◌≤◌, ◌<◌}
use native.Mathlib.Omega.{arith}
use Rattle.words.proofs.Tests.{skip, same_or_not}
use Rattle.membership.specs.requests.Requests.{first_with}

-- it lies behind the index that the search starts at, among the k nodes
pub first-within : (p : ℕ → Bool) (k i : ℕ) → first_with k i p ≤ i + k
unfolding first_with
first-within p zero i = omega arith
first-within p (suc k) i = go (p i) (first-within p k (i + 1))
  where
    go : (b : Bool) → first_with k (i + 1) p ≤ i + 1 + k → cond b (i + 1) (first_with k (i + 1) p) ≤ i + suc k
    go true r = omega arith
    go false r = omega (arith, r)

-- none: no node has the property
pub first-none : (p : ℕ → Bool) (k i : ℕ) → first_with k i p ≡ 0 → (j : ℕ) → i ≤ j → j < i + k → p j ≡ false
unfolding first_with
first-none p zero i h j a b = absurd (omega arith)
first-none p (suc k) i h j a b = go (p i) refl h (λ z q. first-none p k (i + 1) z j (omega (arith, q)) (omega arith))
  where
    go : (t : Bool) → p i ≡ t → cond t (i + 1) (first_with k (i + 1) p) ≡ 0 → (first_with k (i + 1) p ≡ 0 → j ≢ i → p j ≡ false) → p j ≡ false
    go true e z r = absurd (omega (arith, z))
    go false e z r = same_or_not j i (λ q. ap p q ∙ e) (r z)

pub none_first : (p : ℕ → Bool) (k i : ℕ) → ((j : ℕ) → i ≤ j → j < i + k → p j ≡ false) → first_with k i p ≡ 0
unfolding first_with
none_first p zero i h = refl
none_first p (suc k) i h = skip (p i) _ _ _ (h i (omega arith) (omega arith))
    (none_first p k (i + 1) (λ j a b. h j (omega arith) (omega arith)))

-- one: it has the property, and none before it has
pub first-has : (p : ℕ → Bool) (k i : ℕ) → 0 < first_with k i p → p (first_with k i p - 1) ≡ true
unfolding first_with
first-has p zero i h = absurd (omega arith)
first-has p (suc k) i h = go (p i) refl h (first-has p k (i + 1))
  where
    go : (t : Bool) → p i ≡ t → 0 < cond t (i + 1) (first_with k (i + 1) p)
        → (0 < first_with k (i + 1) p → p (first_with k (i + 1) p - 1) ≡ true)
        → p (cond t (i + 1) (first_with k (i + 1) p) - 1) ≡ true
    go true e z r = let q : i + 1 - 1 ≡ i = omega arith in ap p q ∙ e
    go false e z r = r z

pub first-least : (p : ℕ → Bool) (k i j : ℕ) → i ≤ j → j + 1 < first_with k i p → p j ≡ false
unfolding first_with
first-least p zero i j a b = absurd (omega arith)
first-least p (suc k) i j a b = go (p i) refl b (λ q. first-least p k (i + 1) j (omega (arith, q)))
  where
    go : (t : Bool) → p i ≡ t → j + 1 < cond t (i + 1) (first_with k (i + 1) p) → (j ≢ i → j + 1 < first_with k (i + 1) p → p j ≡ false)
        → p j ≡ false
    go true e z r = absurd (omega (arith, z))
    go false e z r = same_or_not j i (λ q. ap p q ∙ e) (λ q. r q z)
