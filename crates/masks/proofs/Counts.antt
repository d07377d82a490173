-- The counts of well-formed masks: their sum, and counts and sums taken entry by entry over a list.
-- Assumes nothing.
use mathlib.Core.Path.{◌≡◌, refl, sym, ap, ap₂, ◌∙◌}
use mathlib.Core.Bool.{Bool, true}
use mathlib.Core.List.{List, [], ◌∷◌}
use Prim.Native.Nat.{ℕ, zero, suc, ◌+◌, ◌≤◌, ◌<◌}
use native.Mathlib.Omega.{arith}
use lib.Dec.{eqb, ltb}
use lib.ListN.{length, get_or}
use borrow.Author.Tests.{eq-eqb, ne_eqb, lt-ltb}
use Rattle.words.specs.Bits.{digit, how_many}
use Rattle.words.proofs.Tests.{same_or_not}
use Rattle.words.proofs.Laws.{how_many-ext}
use Rattle.masks.specs.Slots.{Masks}
use Rattle.masks.specs.Slots.{count_of, owner_in, owners_in, owns, well_formed}
use Rattle.masks.proofs.Turns.{how_many-zero}
use Rattle.masks.proofs.Owners.{Sized, owner_at, owner-le}
use Rattle.masks.proofs.Tidy.{count-owned}

-- f 0 + f 1 + .. + f (n - 1)
unfoldable pub sum : ℕ → (ℕ → ℕ) → ℕ
sum zero f = 0
sum (suc n) f = sum n f + f n

sum-ext : (n : ℕ) (f g : ℕ → ℕ) → ((i : ℕ) → i < n → f i ≡ g i) → sum n f ≡ sum n g
unfolding sum
sum-ext zero f g h = refl
sum-ext (suc n) f g h = ap₂ ◌+◌ (sum-ext n f g (λ i l. h i (omega arith))) (h n (omega arith))

-- none passes
sum-none : (n : ℕ) (q : ℕ → ℕ → Bool) → sum n (λ i. how_many 0 (q i)) ≡ 0
unfolding sum how_many
sum-none zero q = refl
sum-none (suc n) q = omega (arith, sum-none n q)

-- by tests of one number more
sum_more : (n s : ℕ) (q : ℕ → ℕ → Bool) → sum n (λ i. how_many (suc s) (q i)) ≡ how_many n (λ i. q i s) + sum n (λ i. how_many s (q i))
unfolding sum how_many
sum_more zero s q = refl
sum_more (suc n) s q = omega (arith, sum_more n s q)

-- of the numbers 1 to n each number above 0 and up to n is one
number-once : (n x : ℕ) → x ≤ n → how_many n (λ i. eqb x (i + 1)) ≡ digit (ltb 0 x)
unfolding how_many
number-once zero x h = let e : x ≡ 0 = omega (arith, h) in ap (λ (y : ℕ). digit (ltb 0 y)) (sym e)
number-once (suc n) x h =
    same_or_not x (suc n)
    (λ e.
    omega (
      arith,
      ap digit (eq-eqb x (n + 1) (omega (arith, e))),
      how_many-zero n (λ i. eqb x (i + 1)) (λ i l. ne_eqb x (i + 1) (λ f. omega (arith, e, f, l))),
      ap digit (lt-ltb 0 x (omega (arith, e))),
    ))
    (λ e. omega (arith, ap digit (ne_eqb x (n + 1) (λ f. e (omega (arith, f)))), number-once n x (omega (arith, h, e))))

-- the numbers 1 to n, each counted among f 0, f 1, .., are those above 0
sum-owned : (n s : ℕ) (f : ℕ → ℕ) → ((k : ℕ) → k < s → f k ≤ n)
    → sum n (λ i. how_many s (λ k. eqb (f k) (i + 1))) ≡ how_many s (λ k. ltb 0 (f k))
unfolding how_many
sum-owned n zero f h = sum-none n (λ i k. eqb (f k) (i + 1))
sum-owned n (suc s) f h = sum_more n s (λ i k. eqb (f k) (i + 1))
    ∙ ap₂ ◌+◌ (number-once n (f s) (h s (omega arith))) (sum-owned n s f (λ k l. h k (omega arith)))

-- the counts add to the number of slots with an owner
pub counts-sum : (m : Masks) → Sized m → well_formed m ≡ true → sum 32 (count_of m) ≡ how_many 80 (λ k. ltb 0 (owner_in m k))
counts-sum m z t =
    sum-ext 32 (count_of m) (λ i. how_many 80 (λ k. eqb (owner_in m k) (i + 1)))
    (λ i l. count-owned m t z i l ∙ how_many-ext 80 (owns (owners_in m) i) (λ k. eqb (owner_in m k) (i + 1))
    (λ k b. ap (λ (x : ℕ). eqb x (i + 1)) (owner_at m k b)))
    ∙ sum-owned 32 80 (owner_in m) (λ k b. owner-le m k)

-- The same, of functions that go through a list entry by entry.

how_many-front : (n : ℕ) (p : ℕ → Bool) → how_many (suc n) p ≡ digit (p 0) + how_many n (λ k. p (suc k))
unfolding how_many
how_many-front zero p = refl
how_many-front (suc n) p = omega (arith, how_many-front n p)

-- one that counts the entries j
pub count-is : (j : ℕ) (c : List ℕ → ℕ) → c [] ≡ 0 → ((x : ℕ) (l : List ℕ) → c (x ∷ l) ≡ digit (eqb x j) + c l) → (l : List ℕ)
    → c l ≡ how_many (length l) (λ k. eqb (get_or l k 0) j)
unfolding how_many
count-is j c e h [] = e
count-is j c e h (x ∷ l) = h x l ∙ ap (λ (n : ℕ). digit (eqb x j) + n) (count-is j c e h l)
    ∙ sym (how_many-front (length l) (λ k. eqb (get_or (x ∷ l) k 0) j))
