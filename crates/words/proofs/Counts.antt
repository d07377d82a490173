-- Laws of how many numbers below n pass a test.
-- Assumes nothing.
use mathlib.Core.Path.{◌≡◌, refl, ap}
use mathlib.Core.Bool.{Bool, true, false}
use Prim.Native.Nat.{ℕ, zero, suc, ◌+◌, ◌≤◌, ◌<◌}
use native.Mathlib.Omega.{arith}
use Rattle.words.specs.Bits.{digit, how_many}
use Rattle.words.proofs.Tests.{same_or_not}

-- none below 0, and one number more
pub how_many-none : (p : ℕ → Bool) → how_many 0 p ≡ 0
unfolding how_many
how_many-none p = refl

pub how_many-suc : (p : ℕ → Bool) (n : ℕ) → how_many (suc n) p ≡ digit (p n) + how_many n p
unfolding how_many
how_many-suc p n = refl

-- below a larger number no fewer
pub how_many-more : (p : ℕ → Bool) (n m : ℕ) → n ≤ m → how_many n p ≤ how_many m p
unfolding how_many
how_many-more p n zero h = let z : n ≡ 0 = omega arith in omega (arith, ap (λ (x : ℕ). how_many x p) z)
how_many-more p n (suc m) h =
    same_or_not n (suc m) (λ z. omega (arith, ap (λ (x : ℕ). how_many x p) z)) (λ z. omega (arith, how_many-more p n m (omega (arith, z))))

-- two tests that are met more than n times below n are met together somewhere
pub how_many-meet : (n : ℕ) (p q : ℕ → Bool) → n < how_many n p + how_many n q → (j : ℕ) × (p j ≡ true) × (q j ≡ true)
unfolding how_many
how_many-meet zero p q h = absurd (omega arith)
how_many-meet (suc n) p q h = go (p n) (q n) refl refl (how_many-meet n p q)
  where
    go : (a b : Bool) → p n ≡ a → q n ≡ b → (n < how_many n p + how_many n q → (j : ℕ) × (p j ≡ true) × (q j ≡ true))
        → (j : ℕ) × (p j ≡ true) × (q j ≡ true)
    go true true e f k = (n, e, f)
    go true false e f k = k (omega (arith, ap digit e, ap digit f))
    go false true e f k = k (omega (arith, ap digit e, ap digit f))
    go false false e f k = k (omega (arith, ap digit e, ap digit f))
