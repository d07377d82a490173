-- Laws of bounded lists: no element is above a number, and from an index on all are 0.
-- Assumes nothing.
use mathlib.Core.Path.{◌≡◌, refl, sym, ap, ◌∙◌}
use mathlib.Core.Bool.{Bool, true, false}
use mathlib.Core.List.{List}
use Prim.Native.Nat.{ℕ, ◌+◌, ◌-◌, ◌≤◌, ◌<◌}
use native.Mathlib.Omega.{arith}
use borrow.Author.Tests.{leb-true, ltb-true, ltb-false, le-leb}
use lib.Dec.{leb, ltb}
use lib.ListN.{length, get_or, take, drop, replicate, length-take, get_or-eq_default}
use lib.Seq.{get_or-take, get_or-drop}
use Rattle.words.proofs.Tests.{both, and_left, and_right}
use Rattle.lists.specs.All.{at_most, bounded}
use Rattle.lists.proofs.Laws.{all-at, all-make, get_d-zeros}

at-most : (l : List ℕ) (top : ℕ) → at_most l top ≡ true → (i : ℕ) → get_or l i 0 ≤ top
unfolding at_most
at-most l top h i = go (ltb i (length l)) refl
  where
    go : (t : Bool) → ltb i (length l) ≡ t → get_or l i 0 ≤ top
    go true e = leb-true _ _ (all-at (length l) (λ i. leb (get_or l i 0) top) h i (ltb-true i (length l) e))
    go false e = let z : get_or l i 0 ≡ 0 = get_or-eq_default l 0 (ltb-false i (length l) e) in omega arith

at-most-make : (l : List ℕ) (top : ℕ) → ((i : ℕ) → i < length l → get_or l i 0 ≤ top) → at_most l top ≡ true
unfolding at_most
at-most-make l top h = all-make (length l) (λ i. leb (get_or l i 0) top) (λ i k. le-leb _ _ (h i k))

-- a bounded list has 0 from m on
pub bounded-over : (l : List ℕ) (m top : ℕ) → bounded l m top ≡ true → (i : ℕ) → m ≤ i → get_or l i 0 ≡ 0
unfolding bounded
bounded-over l m top h i k =
    let e : m + (i - m) ≡ i = omega arith in
    let z : get_or (drop m l) (i - m) 0 ≤ 0 = at-most (drop m l) 0 (and_right (at_most (take m l) top) _ h) (i - m) in
    let d : get_or l i 0 ≡ get_or (drop m l) (i - m) 0 = sym (get_or-drop m l (i - m) 0 ∙ ap (λ (x : ℕ). get_or l x 0) e) in
    omega arith

-- and no element above top
pub bounded_at : (l : List ℕ) (m top : ℕ) → bounded l m top ≡ true → (i : ℕ) → get_or l i 0 ≤ top
unfolding bounded
bounded_at l m top h i = go (ltb i m) refl
  where
    go : (t : Bool) → ltb i m ≡ t → get_or l i 0 ≤ top
    go true e =
        let z : get_or (take m l) i 0 ≤ top = at-most (take m l) top (and_left _ (at_most (drop m l) 0) h) i in
        let d : get_or (take m l) i 0 ≡ get_or l i 0 = get_or-take m l i 0 (ltb-true i m e) in
        omega arith
    go false e = let z : get_or l i 0 ≡ 0 = bounded-over l m top h i (ltb-false i m e) in omega arith

-- and such a list is bounded
pub bounded-make : (l : List ℕ) (m top : ℕ) → ((i : ℕ) → i < m → get_or l i 0 ≤ top) → ((i : ℕ) → m ≤ i → get_or l i 0 ≡ 0)
    → bounded l m top ≡ true
unfolding bounded
bounded-make l m top f g =
    both
    (at-most-make (take m l) top (λ i k.
    let j : i < m = omega (arith, length-take m l) in
    let d : get_or (take m l) i 0 ≡ get_or l i 0 = get_or-take m l i 0 j in
    let z : get_or l i 0 ≤ top = f i j in
    omega arith))
    (at-most-make (drop m l) 0 (λ i k.
    let d : get_or (drop m l) i 0 ≡ get_or l (m + i) 0 = get_or-drop m l i 0 in
    let z : get_or l (m + i) 0 ≡ 0 = g (m + i) (omega arith) in
    omega arith))

-- a list of zeros
pub zeros-bounded : (m k top : ℕ) → bounded (replicate m 0) k top ≡ true
zeros-bounded m k top = bounded-make (replicate m 0) k top (λ i l. let z = get_d-zeros m i in omega arith) (λ i l. get_d-zeros m i)
