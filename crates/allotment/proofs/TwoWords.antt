-- The lowest slots of two words: those of the first, and of the second as many as are left.
-- Assumes nothing.
use mathlib.Core.Path.{◌≡◌, sym, ap, ap₂, ◌∙◌}
use mathlib.Core.Bool.{Bool, false, ◌&&◌}
use Prim.Native.Nat.{ℕ, zero, suc, min, ◌+◌, ◌-◌, ◌^◌, ◌≤◌, ◌<◌}
use native.Mathlib.Nat.{add-zero, add-suc}
use native.Mathlib.Omega.{arith}
use lib.Dec.{ltb}
use borrow.Author.Tests.{lt-ltb, le-ltb, ltb-true, ltb-false}
use Rattle.words.specs.Bits.{has_bit, word_of, how_many}
use Rattle.words.proofs.Tests.{both, by-test, hit, skip}
use Rattle.words.proofs.Laws.{word_of-ext, word_of-short, word_of-below, how_many-ext, has_bit-out}
use Rattle.masks.specs.Slots.{has_slot}
use Rattle.allotment.specs.Inner.{among, lowest_of, FirstFrom}
use Rattle.allotment.proofs.LowestOnes.{count-short}

-- how many pass a test of the first n, and of the m behind them
pub count-cat : (n m : ℕ) (p : ℕ → Bool) → how_many (n + m) p ≡ how_many n p + how_many m (λ k. p (n + k))
unfolding how_many
count-cat n zero p = ap (λ (x : ℕ). how_many x p) (add-zero n) ∙ sym (add-zero (how_many n p))
count-cat n (suc m) p = ap (λ (x : ℕ). how_many x p) (add-suc n m) ∙ omega (arith, count-cat n m p)

-- below what is left
left-test : (a x t : ℕ) → ltb x (t - a) ≡ ltb (a + x) t
left-test a x t =
    by-test (λ (_ : ℕ). ltb x (t - a) ≡ ltb (a + x) t) (ltb (a + x) t) 0 0
    (λ e. let l = ltb-true (a + x) t e in lt-ltb x (t - a) (omega (arith, l)) ∙ sym e)
    (λ e. let l = ltb-false (a + x) t e in le-ltb x (t - a) (omega (arith, l)) ∙ sym e)

module _ (low high t : ℕ) where
  abbrev p : ℕ → Bool
  p = has_slot low high

  pub first : (k : ℕ) → k < 64 → p k ≡ has_bit low k
  first k l = hit (ltb k 64) (has_bit low k) (has_bit high (k - 64)) (lt-ltb k 64 l)

  pub second : (k : ℕ) → p (64 + k) ≡ has_bit high k
  second k =
      let e : 64 + k - 64 ≡ k = omega arith in
      skip (ltb (64 + k) 64) (has_bit low (64 + k)) (has_bit high (64 + k - 64)) (has_bit high k) (le-ltb (64 + k) 64 (omega arith))
      (ap (has_bit high) e)

  below : (k : ℕ) → k ≤ 64 → how_many k p ≡ how_many k (has_bit low)
  below k l = how_many-ext k p (has_bit low) (λ i g. first i (omega (arith, g, l)))

  behind : (k : ℕ) → how_many (64 + k) p ≡ how_many 64 (has_bit low) + how_many k (has_bit high)
  behind k = count-cat 64 k p ∙ ap₂ ◌+◌ (below 64 (omega arith)) (how_many-ext k (λ i. p (64 + i)) (has_bit high) (λ i g. second i))

  pub low-kept : lowest_of 64 low t ≡ word_of 64 (among p t)
  unfolding lowest_of
  low-kept = word_of-ext 64 (among (has_bit low) t) (among p t)
      (λ k l. sym (both (first k l) (ap (λ (x : ℕ). ltb x t) (below k (omega (arith, l))))))

  abbrev left : ℕ
  left = t - how_many 64 (has_bit low)

  module _ (b : high < 2 ^ 16) where
    off : (k : ℕ) → 16 ≤ k → among (has_bit high) left k ≡ false
    off k l = ap (λ (x : Bool). x && ltb (how_many k (has_bit high)) left) (has_bit-out high 16 k b l)

    pub high-short : lowest_of 64 high left < 2 ^ 16
    unfolding lowest_of
    high-short = word_of-below 16 64 (among (has_bit high) left) (omega arith) (λ i a c. off i a)

    pub high-kept : lowest_of 64 high left ≡ word_of 16 (λ k. among p t (64 + k))
    unfolding lowest_of
    high-kept =
        word_of-short 16 48 (among (has_bit high) left) (λ i a c. off i a)
        ∙ word_of-ext 16 (among (has_bit high) left) (λ k. among p t (64 + k))
        (λ k l. sym (both (second k)
        (ap (λ (x : ℕ). ltb x t) (behind k) ∙ sym (left-test (how_many 64 (has_bit low)) (how_many k (has_bit high)) t))))

    pub held_kept : (x : ℕ) → x ≡ left - how_many 64 (has_bit high) → t - x ≡ min (how_many 80 p) t
    held_kept x e = omega (arith, e, behind 16, count-short 16 48 (has_bit high) (λ i a c. has_bit-out high 16 i b a))

-- the first slot from a place on: in the first word, or else in the second
pub slot-low : (low high from b : ℕ) → FirstFrom (has_bit low) 64 from b → b < 64 → FirstFrom (has_slot low high) 80 from b
slot-low low high from b f l =
    record {
      behind = f.behind;
      passes = λ g. first low high 0 b l ∙ f.passes l;
      none = λ k g h e. first low high 0 k (omega (arith, h, l)) ∙ f.none k g h (omega (arith, h, l));
    }

pub slot-high : (low high from x b : ℕ) → x ≡ from - 64 → ((k : ℕ) → from ≤ k → k < 64 → has_bit low k ≡ false)
    → FirstFrom (has_bit high) 64 x b → FirstFrom (has_slot low high) 80 from (64 + b)
slot-high low high from x b e z f =
    record {
      behind = omega (arith, f.behind, e);
      passes = λ g. second low high 0 b ∙ f.passes (omega (arith, g));
      none = λ k g h n.
          by-test (λ (_ : ℕ). has_slot low high k ≡ false) (ltb k 64) 0 0
          (λ t. let l = ltb-true k 64 t in first low high 0 k l ∙ z k g l)
          (λ t.
          let l = ltb-false k 64 t in
          let q : 64 + (k - 64) ≡ k = omega (arith, l) in
          ap (has_slot low high) (sym q) ∙ second low high 0 (k - 64)
          ∙ f.none (k - 64) (omega (arith, e, g)) (omega (arith, h, l)) (omega (arith, n)));
    }
