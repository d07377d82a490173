-- Tests that are the same as others.
-- Assumes nothing.
use mathlib.Core.Bool.{Bool, true, false}
use mathlib.Core.Path.{◌≡◌, refl}
use Prim.Native.Nat.{ℕ, ◌+◌, ◌-◌, ◌≤◌, ◌<◌}
use native.Mathlib.Omega.{arith}
use lib.Dec.{leb}
use borrow.Author.Tests.{le-leb, lt-leb, leb-true, leb-false}

-- the last place, without a sum that could be too large
pub last-place : (rounds place : ℕ) → place < rounds → leb (rounds - place) 1 ≡ leb rounds (place + 1)
last-place rounds place h = go (leb rounds (place + 1)) refl
  where
    go : (t : Bool) → leb rounds (place + 1) ≡ t → leb (rounds - place) 1 ≡ t
    go true e = let k : rounds ≤ place + 1 = leb-true rounds (place + 1) e in le-leb (rounds - place) 1 (omega arith)
    go false e = let k : place + 1 < rounds = leb-false rounds (place + 1) e in lt-leb (rounds - place) 1 (omega arith)
