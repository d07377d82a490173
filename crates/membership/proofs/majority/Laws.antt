-- The sheet is the doubled sum: proved by one test over its entries.
-- Assumes nothing.
use mathlib.Core.Path.{◌≡◌, refl, sym, ◌∙◌}
use mathlib.Core.Bool.{Bool, true, false}
use Prim.Native.Nat.{ℕ, zero, suc, ◌+◌, ◌*◌, ◌/◌, ◌≤◌, ◌<◌}
use native.Mathlib.Omega.{arith}
use borrow.Author.Tests.{eqb-true, le-leb, leb-true, lt-ltb, ltb-true}
use lib.Dec.{eqb, ltb, leb}
use lib.ListN.{get_or}
use Rattle.words.specs.Bits.{size}
use Rattle.words.proofs.Tests.{and_left, and_right, both}
use Rattle.lists.specs.All.{all_below}
use Rattle.lists.proofs.Laws.{all-at}
use Rattle.membership.specs.majority.Majority.{sheet, least_count, majority}

-- the test: the entry of N is one more than the half of N
right : all_below 32 (λ i. eqb (get_or sheet i 33) (suc i / 2 + 1)) ≡ true
unfolding all_below
right = refl

pub least-half : (N : ℕ) → 1 ≤ N → N ≤ 32 → least_count N ≡ N / 2 + 1
least-half zero a b = absurd (omega arith)
least-half (suc n) a b = eqb-true _ _ (all-at 32 (λ i. eqb (get_or sheet i 33) (suc i / 2 + 1)) right n (omega arith))

-- whoever is a majority is more than half, whatever N is
pub majority-most : (N w : ℕ) → majority N w ≡ true → N < 2 * size w
majority-most N w h = go N (leb-true N 32 (and_left (leb N 32) _ h)) (leb-true (least_count N) (size w) (and_right (leb N 32) _ h))
  where
    go : (n : ℕ) → n ≤ 32 → least_count n ≤ size w → n < 2 * size w
    go zero a b = omega arith
    go (suc n) a b = omega (arith, least-half (suc n) (omega arith) a)

-- and on the sheet the other way round
pub majority-if : (N w : ℕ) → 1 ≤ N → N ≤ 32 → N < 2 * size w → majority N w ≡ true
majority-if N w a b l = both (le-leb N 32 b) (le-leb (least_count N) (size w) (omega (arith, least-half N a b)))

-- so on the sheet it is the doubled sum
pub majority-doubled : (N w : ℕ) → 1 ≤ N → N ≤ 32 → majority N w ≡ ltb N (2 * size w)
majority-doubled N w a b = go (majority N w) refl (ltb N (2 * size w)) refl
  where
    go : (s : Bool) → majority N w ≡ s → (t : Bool) → ltb N (2 * size w) ≡ t → majority N w ≡ ltb N (2 * size w)
    go true e t f = e ∙ sym (lt-ltb N (2 * size w) (majority-most N w e))
    go false e true f = majority-if N w a b (ltb-true N (2 * size w) f) ∙ sym f
    go false e false f = e ∙ sym f
