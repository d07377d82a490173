-- Cases.
-- Assumes nothing.
use mathlib.Core.Logic.{◌⊎◌, inl, inr}
use Prim.Native.Nat.{ℕ, ◌≤◌}
use native.Mathlib.Decide.{dec_le}
use native.Mathlib.Omega.{arith}

-- one of two
abbrev pub either {ℓ κ μ} : {A : Type ℓ} {B : Type κ} {C : Type μ} → A ⊎ B → (A → C) → (B → C) → C
either (inl a) f g = f a
either (inr b) f g = g b

-- of two numbers one is at most the other
pub total : (x y : ℕ) → (x ≤ y) ⊎ (y ≤ x)
total x y = go (dec_le x y)
  where
    go : Dec (x ≤ y) → (x ≤ y) ⊎ (y ≤ x)
    go (yes p) = inl p
    go (no p) = inr (omega arith)
