-- The lowest number that passes a test.
-- Assumes nothing.
use mathlib.Core.Path.{◌≡◌, refl, sym, ap, ap₂, ◌∙◌}
use mathlib.Core.Bool.{Bool, true, false, cond, ◌&&◌, and-false}
use mathlib.Core.Logic.{◌⊎◌, inl, inr, ⊎_elim}
use Prim.Native.Nat.{ℕ, zero, suc, ◌+◌, ◌≤◌, ◌<◌}
use native.Mathlib.Nat.{eq-or-lt_of_le, le_of_suc-le-suc, not-suc-le-zero}
use native.Mathlib.Omega.{arith}
use native.Mathlib.Numerals.{add-one}
use lib.Dec.{eqb, ltb}
use borrow.Author.Tests.{eq-eqb, ne_eqb, eqb-true, ltb-true, ltb-false}
use Rattle.lists.specs.All.{iter}
use Rattle.words.proofs.Tests.{clash, same_or_not, by-test, hit, skip}
use Rattle.masks.specs.Slots.{first}

-- one number more
pub first-suc : (n : ℕ) (p : ℕ → Bool) → first (suc n) p ≡ cond (eqb (first n p) 0 && p n) (n + 1) (first n p)
unfolding first iter
first-suc n p = refl

pub first-zero : (p : ℕ → Bool) → first 0 p ≡ 0
unfolding first iter
first-zero p = refl

-- a number that passes, and none before it does
pub record At (n : ℕ) (p : ℕ → Bool) (i : ℕ) : Type 0 where
  pub below : i < n
  pub is : first n p ≡ i + 1
  pub passes : p i ≡ true
  pub before : (j : ℕ) → j < i → p j ≡ false

-- none passes
pub record Nowhere (n : ℕ) (p : ℕ → Bool) : Type 0 where
  pub is : first n p ≡ 0
  pub fails : (i : ℕ) → i < n → p i ≡ false

-- one of the two is so
pub first-is : (n : ℕ) (p : ℕ → Bool) → Nowhere n p ⊎ ((i : ℕ) × At n p i)
unfolding first iter
first-is zero p = inl (record { is = refl; fails = λ i h. absurd (not-suc-le-zero h) })
first-is (suc n) p = go (p n) refl (first-is n p)
  where
    test : Bool
    test = eqb (first n p) 0 && p n

    go : (t : Bool) → p n ≡ t → Nowhere n p ⊎ ((i : ℕ) × At n p i) → Nowhere (suc n) p ⊎ ((i : ℕ) × At (suc n) p i)
    go true e (inl z) =
        inr (
          n,
          record {
            below = omega arith;
            is = first-suc n p ∙ hit test (n + 1) (first n p) (ap₂ ◌&&◌ (eq-eqb (first n p) 0 z.is) e);
            passes = e;
            before = λ j l. z.fails j l;
          },
        )
    go false e (inl z) =
        inl (record {
          is = first-suc n p ∙ skip test (n + 1) (first n p) 0
              (ap (λ (t : Bool). eqb (first n p) 0 && t) e ∙ and-false (eqb (first n p) 0)) z.is;
          fails = λ i l. ⊎_elim (λ f. ap p f ∙ e) (λ k. z.fails i k) (eq-or-lt_of_le (le_of_suc-le-suc l));
        })
    go t e (inr (i, a)) =
        inr (
          i,
          record {
            below = omega (arith, a.below);
            is = first-suc n p ∙ skip test (n + 1) (first n p) (i + 1)
                (ap (λ (t : Bool). t && p n) (ne_eqb (first n p) 0 (λ z. omega (arith, z, a.is)))) a.is;
            passes = a.passes;
            before = a.before;
          },
        )

-- two tests that agree
pub first-ext : (n : ℕ) (p q : ℕ → Bool) → ((i : ℕ) → i < n → p i ≡ q i) → first n p ≡ first n q
unfolding first iter
first-ext zero p q h = refl
first-ext (suc n) p q h =
    ap₂ (λ (x : ℕ) (t : Bool). cond (eqb x 0 && t) (n + 1) x) (first-ext n p q (λ i l. h i (omega arith))) (h n (omega arith))

-- the first is where a test passes that passes once
pub first_one : (n : ℕ) (p : ℕ → Bool) (i : ℕ) → i < n → p i ≡ true → ((j : ℕ) → j < n → p j ≡ true → j ≡ i) → first n p ≡ i + 1
first_one n p i l e h =
    ⊎_elim (λ z. clash (p i) e (z.fails i l)) (λ a. a.1.is ∙ ap (λ (x : ℕ). x + 1) (h a.0 a.1.below a.1.passes))
    (first-is n p)

pub first-none : (n : ℕ) (p : ℕ → Bool) → ((i : ℕ) → i < n → p i ≡ false) → first n p ≡ 0
first-none n p h = ⊎_elim (λ z. z.is) (λ a. clash (p a.0) a.1.passes (h a.0 a.1.below)) (first-is n p)

-- it is at most n
pub first-le : (n : ℕ) (p : ℕ → Bool) → first n p ≤ n
first-le n p = ⊎_elim (λ z. omega (arith, z.is)) (λ a. omega (arith, a.1.is, a.1.below)) (first-is n p)

-- where the test passes at most once, it passes where the first is
pub first-test : (n : ℕ) (p : ℕ → Bool) → ((i j : ℕ) → i < n → j < n → p i ≡ true → p j ≡ true → i ≡ j) → (i : ℕ) → i < n
    → p i ≡ eqb (first n p) (i + 1)
first-test n p once i l = go (p i) refl
  where
    go : (t : Bool) → p i ≡ t → p i ≡ eqb (first n p) (i + 1)
    go true e = e ∙ sym (eq-eqb (first n p) (i + 1) (first_one n p i l e (λ j k f. once j i k l f e)))
    go false e = e ∙ sym (ne_eqb (first n p) (i + 1)
        (λ f. ⊎_elim (λ z. omega (arith, z.is, f))
        (λ a. clash (p i) (sym (ap p (let g : a.0 ≡ i = omega (arith, a.1.is, f) in g)) ∙ a.1.passes) e) (first-is n p)))

-- the first of the numbers that are x less 1 is x
pub first-number : (n x : ℕ) → x ≤ n → first n (λ i. eqb x (i + 1)) ≡ x
first-number n zero h = first-none n (λ i. eqb 0 (i + 1)) (λ i l. ne_eqb 0 (i + 1) (λ e. omega (arith, e)))
first-number n (suc x) h =
    first_one n (λ i. eqb (suc x) (i + 1)) x (omega (arith, h)) (eq-eqb (suc x) (x + 1) (omega arith))
    (λ j l e. let f = eqb-true (suc x) (j + 1) e in omega (arith, f))
    ∙ add-one x

-- a number that passes where none before it does
pub first-at : (n : ℕ) (p : ℕ → Bool) (i : ℕ) → i < n → p i ≡ true → ((j : ℕ) → j < i → p j ≡ false) → first n p ≡ i + 1
first-at n p i l e h = ⊎_elim (λ z. clash (p i) e (z.fails i l)) (λ a. a.1.is ∙ ap (λ (x : ℕ). x + 1) (same a.0 a.1))
    (first-is n p)
  where
    same : (j : ℕ) → At n p j → j ≡ i
    same j a =
        same_or_not j i (λ f. f)
        (λ f. by-test (λ (_ : ℕ). j ≡ i) (ltb j i) 0 0 (λ t. clash (p j) a.passes (h j (ltb-true j i t)))
        (λ t. clash (p i) e (a.before i (let g = ltb-false j i t in omega (arith, f, g)))))
