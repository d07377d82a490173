use mathlib.Core.Path.{◌≡◌, refl, sym}
use mathlib.Core.List.{◌∷◌}
use Prim.Native.Nat.{ℕ, zero, suc, ◌≤◌, ◌<◌}
use native.Mathlib.Omega.{arith}
use native.Mathlib.Decide.{dec_lt}
use borrow.Author.Rules.{rules}
use lib.ListN.{length, get_or-eq_default}
use Rattle.membership.specs.majority.Majority.{sheet, least_count}
use Rattle.membership.proofs.majority.least_count.Goals as goal

-- off the sheet
off : (n : ℕ) → (1 ≤ n → n ≤ 32 → ⊥) → 33 ≡ least_count n
off zero h = refl
off (suc n) h = sym (get_or-eq_default (33 ∷ sheet) 33 (go (dec_lt 32 (suc n))))
  where
    go : Dec (32 < suc n) → length (33 ∷ sheet) ≤ suc n
    go (yes l) = l
    go (no l) = absurd (h (omega arith) (omega arith))

pub returns-in_default : goal.returns-in_default
returns-in_default c = off c.args.n (search rules)
