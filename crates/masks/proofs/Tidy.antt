-- Tidy masks: no two nodes share a slot, each count is how many slots the node holds, and the owners say all of them.
-- Assumes nothing.
use mathlib.Core.Path.{◌≡◌, sym, ap, ap₂, ◌∙◌}
use mathlib.Core.Bool.{Bool, true, false, ◌&&◌, and-false}
use mathlib.Core.List.{List}
use Prim.Native.Nat.{ℕ, zero, suc, ◌+◌, ◌<◌}
use native.Mathlib.Nat.{add-zero, add-suc}
use native.Mathlib.Omega.{arith}
use lib.Dec.{eqb, ltb}
use lib.Bits
use lib.Count.{ones}
use lib.ListN.{length, get_or}
use lib.Seq.{ext_get_or}
use borrow.Author.Tests.{eq-eqb, ne_eqb, eqb-true, ltb-true, ltb-false}
use Rattle.words.specs.Bits.{has_bit, word_of, how_many}
use Rattle.words.proofs.Tests.{clash, by-test, same_or_not, both, and_left, and_right}
use Rattle.words.proofs.Laws.{word_of-ext, word_of-bits, how_many-ext, ones-bits}
use Rattle.lists.specs.All.{tab, all_below}
use Rattle.lists.proofs.Laws.{length-tab, get_d-tab, all-at, all-make}
use Rattle.masks.specs.Slots.{Masks}
use Rattle.masks.specs.Slots.{low_of, high_of, count_of, holds, owner_in, owners_in, owns, masks_of, apart, count_right, well_formed_at}
use Rattle.masks.specs.Slots.{well_formed}
use Rattle.masks.proofs.Bits.{share-none, not-shared}
use Rattle.masks.proofs.First.{first-test}
use Rattle.masks.proofs.Owners.{Sized, holds-low, holds-high, by_word, holds-made, count-made, made-sized, owner_at}

-- how many pass a test of the first n, and of the m behind them
how_many-cat : (n m : ℕ) (p : ℕ → Bool) → how_many (n + m) p ≡ how_many n p + how_many m (λ k. p (n + k))
unfolding how_many
how_many-cat n zero p = ap (λ (x : ℕ). how_many x p) (add-zero n) ∙ sym (add-zero (how_many n p))
how_many-cat n (suc m) p = ap (λ (x : ℕ). how_many x p) (add-suc n m) ∙ omega (arith, how_many-cat n m p)

-- the ones of a node's two words are the slots that it holds
pub ones-holds : (m : Masks) → Sized m → (i : ℕ) → i < 32 → ones (low_of m i) + ones (high_of m i) ≡ how_many 80 (holds m i)
ones-holds m z i l =
    ap₂ ◌+◌
    (ones-bits 64 (low_of m i) (z.low_fits i l) ∙ how_many-ext 64 (has_bit (low_of m i)) (holds m i) (λ k g. sym (holds-low m i k g)))
    (ones-bits 16 (high_of m i) (z.high_fits i l) ∙ how_many-ext 16 (has_bit (high_of m i)) (λ k. holds m i (64 + k))
    (λ k g. sym (holds-high m i k)))
    ∙ sym (how_many-cat 64 16 (holds m i))

-- masks are well formed whose nodes hold no slot together and have the counts of their slots
tidy-make : (m : Masks) → Sized m → ((i j k : ℕ) → i < 32 → j < i → k < 80 → (holds m j k && holds m i k) ≡ false)
    → ((i : ℕ) → i < 32 → count_of m i ≡ how_many 80 (holds m i)) → well_formed m ≡ true
unfolding well_formed
tidy-make m z f g =
    all-make 32 (well_formed_at m) (λ i l.
    both
    (all-make i (λ j. apart m j i) (λ j h.
    let q : j < 32 = omega (arith, l, h) in
    both
    (eq-eqb _ 0 (share-none 64 (low_of m j) (low_of m i) (z.low_fits j q) (z.low_fits i l)
    (λ k b. sym (both (holds-low m j k b) (holds-low m i k b)) ∙ f i j k l h (omega (arith, b)))))
    (eq-eqb _ 0 (share-none 16 (high_of m j) (high_of m i) (z.high_fits j q) (z.high_fits i l)
    (λ k b. sym (both (holds-high m j k) (holds-high m i k)) ∙ f i j (64 + k) l h (omega (arith, b)))))))
    (eq-eqb _ _ (g i l ∙ sym (ones-holds m z i l))))

-- a number is not two
not-two : (x i j : ℕ) → j < i → (eqb x (j + 1) && eqb x (i + 1)) ≡ false
not-two x i j h =
    same_or_not x (i + 1)
    (λ e. ap (λ (t : Bool). t && eqb x (i + 1)) (ne_eqb x (j + 1) (λ f. omega (arith, e, f, h))))
    (λ e. ap (λ (t : Bool). eqb x (j + 1) && t) (ne_eqb x (i + 1) e) ∙ and-false (eqb x (j + 1)))

-- the masks of any list are well formed
pub made_tidy : (owners : List ℕ) → well_formed (masks_of owners) ≡ true
made_tidy owners =
    tidy-make (masks_of owners) (made-sized owners)
    (λ i j k l h b. both (holds-made owners j k (omega (arith, l, h)) b) (holds-made owners i k l b) ∙ not-two (get_or owners k 0) i j h)
    (λ i l. count-made owners i l ∙ how_many-ext 80 (owns owners i) (holds (masks_of owners) i) (λ k b. sym (holds-made owners i k l b)))

module _ (m : Masks) (t : well_formed m ≡ true) where
  at : (i : ℕ) → i < 32 → well_formed_at m i ≡ true
  unfolding well_formed
  at i l = all-at 32 (well_formed_at m) t i l

  -- no slot is held by two nodes
  pub not-shared-by : (i j k : ℕ) → i < 32 → j < i → k < 80 → (holds m j k && holds m i k) ≡ false
  not-shared-by i j k l h =
      let a : apart m j i ≡ true = all-at i (λ j. apart m j i) (and_left _ (count_right m i) (at i l)) j h in
      by_word (λ k. (holds m j k && holds m i k) ≡ false)
      (λ k b. both (holds-low m j k b) (holds-low m i k b) ∙ not-shared (low_of m j) (low_of m i) k
      (eqb-true _ 0 (and_left _ (eqb (Bits.bit_and (high_of m j) (high_of m i)) 0) a)))
      (λ k b. both (holds-high m j k) (holds-high m i k) ∙ not-shared (high_of m j) (high_of m i) k
      (eqb-true _ 0 (and_right (eqb (Bits.bit_and (low_of m j) (low_of m i)) 0) _ a)))
      k

  pub held-once : (i j k : ℕ) → i < 32 → j < 32 → k < 80 → holds m i k ≡ true → holds m j k ≡ true → i ≡ j
  held-once i j k l h b e f =
      same_or_not i j (λ z. z) (λ z.
      by-test (λ (_ : ℕ). i ≡ j) (ltb i j) 0 0
      (λ s. clash (holds m i k && holds m j k) (both e f) (not-shared-by j i k h (ltb-true i j s) b))
      (λ s. let g = ltb-false i j s in clash (holds m j k && holds m i k) (both f e) (not-shared-by i j k l (omega (arith, g, z)) b)))

  -- a node holds the slots whose owner it is
  pub holds-owner : (i k : ℕ) → i < 32 → k < 80 → holds m i k ≡ eqb (owner_in m k) (i + 1)
  unfolding owner_in
  holds-owner i k l b = first-test 32 (λ i. holds m i k) (λ i j u v. held-once i j k u v b) i l

  pub holds-owns : (i k : ℕ) → i < 32 → k < 80 → holds m i k ≡ owns (owners_in m) i k
  holds-owns i k l b = holds-owner i k l b ∙ ap (λ (x : ℕ). eqb x (i + 1)) (sym (owner_at m k b))

  module _ (z : Sized m) where
    -- the count of a node is how many of the owners are it
    pub count-owned : (i : ℕ) → i < 32 → count_of m i ≡ how_many 80 (owns (owners_in m) i)
    count-owned i l =
        eqb-true _ _ (and_right (all_below i (λ j. apart m j i)) (count_right m i) (at i l)) ∙ ones-holds m z i l
        ∙ how_many-ext 80 (holds m i) (owns (owners_in m) i) (λ k b. holds-owns i k l b)

    -- the masks of their owners are the masks
    pub made_again : masks_of (owners_in m) ≡ m
    unfolding masks_of
    made_again =
        λ n. record {
          low = list m.low (λ i. word_of 64 (owns (owners_in m) i)) z.lows low_again n;
          high = list m.high (λ i. word_of 16 (λ k. owns (owners_in m) i (64 + k))) z.highs high-again n;
          counts = list m.counts (λ i. how_many 80 (owns (owners_in m) i)) z.all-counts (λ i l. sym (count-owned i l)) n;
        }
      where
        list : (l : List ℕ) (f : ℕ → ℕ) → length l ≡ 32 → ((i : ℕ) → i < 32 → f i ≡ get_or l i 0) → tab 32 f ≡ l
        list l f e h = ext_get_or 0 (tab 32 f) l (length-tab 32 f ∙ sym e)
            (λ i b. let g : i < 32 = omega (arith, b, length-tab 32 f) in get_d-tab 0 32 f i g ∙ h i g)

        low_again : (i : ℕ) → i < 32 → word_of 64 (owns (owners_in m) i) ≡ low_of m i
        low_again i l = word_of-ext 64 (owns (owners_in m) i) (has_bit (low_of m i))
            (λ k b. sym (holds-owns i k l (omega (arith, b))) ∙ holds-low m i k b) ∙ word_of-bits 64 (low_of m i) (z.low_fits i l)

        high-again : (i : ℕ) → i < 32 → word_of 16 (λ k. owns (owners_in m) i (64 + k)) ≡ high_of m i
        high-again i l =
            word_of-ext 16 (λ k. owns (owners_in m) i (64 + k)) (has_bit (high_of m i))
            (λ k b. sym (holds-owns i (64 + k) l (omega (arith, b))) ∙ holds-high m i k)
            ∙ word_of-bits 16 (high_of m i) (z.high_fits i l)

-- well-formed masks with the same owners are the same
pub same-owners : (m n : Masks) → Sized m → Sized n → well_formed m ≡ true → well_formed n ≡ true → owners_in m ≡ owners_in n → m ≡ n
same-owners m n y z s t e = sym (made_again m s y) ∙ ap masks_of e ∙ made_again n t z
