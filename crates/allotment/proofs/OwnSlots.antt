-- What a node owns by masks: the slots that it holds and that no node before it holds.
-- Assumes nothing.
use mathlib.Core.Path.{◌≡◌, refl, sym, ap, ◌∙◌}
use mathlib.Core.Bool.{Bool, true, false, not, ◌&&◌}
use mathlib.Core.List.{List}
use mathlib.Core.Logic.{⊎_elim}
use Prim.Native.Nat.{ℕ, zero, suc, min, ◌+◌, ◌-◌, ◌/◌, ◌%◌, ◌^◌, ◌≤◌, ◌<◌}
use native.Mathlib.Nat.{mod-lt, mod-le, zero-lt-suc}
use native.Mathlib.Omega.{arith}
use lib.Dec.{eqb, ltb}
use lib.Bits
use lib.Bits.{and_shr, and_mod, xor_shr, xor_mod, xor_lt, and_lt, and_mask}
use lib.Pow.{pow_pos}
use lib.ListN.{length, get_or}
use borrow.Author.Tests.{eq-eqb, eqb-true, ltb-true, ltb-false}
use Rattle.words.specs.Bits.{has_bit, digit, word_of, how_many}
use Rattle.words.proofs.Tests.{clash, by-test, is_false, hit, skip, both, and_left, and_right}
use Rattle.words.proofs.Laws.{same_word, has_bit-mod, has_bit-out, has_bit-word_of, word_of-lt, word_of-ext, how_many-ext}
use Rattle.lists.specs.All.{tab}
use Rattle.lists.proofs.Laws.{tab-ext}
use Rattle.masks.specs.Slots.{Masks}
use Rattle.masks.specs.Slots.{from_words, low_of, high_of, has_slot, holds, first, owner_in, owners_in, owns, masks_of}
use Rattle.masks.proofs.First.{first-is, first-at}
use Rattle.masks.proofs.Owners.{owner_at}
use Rattle.masks.specs.Inner.{taken}
use Rattle.masks.proofs.Taken.{iff, together, together-has, together-lacks}
use Rattle.allotment.specs.Allotment.{kept}
use Rattle.allotment.specs.declared.Share.{Share}
use Rattle.allotment.specs.Inner.{among, node_kept, own_low, own_high}
use Rattle.allotment.proofs.KeptSlots.{had, kept-owns}

-- the bits of a word that another has not
two : (P : ℕ → ℕ → Type 0) → P 0 0 → P 0 1 → P 1 0 → P 1 1 → (d e : ℕ) → d < 2 → e < 2 → P d e
two P a b c f zero zero h k = a
two P a b c f zero (suc zero) h k = b
two P a b c f zero (suc (suc e)) h k = absurd (omega (arith, k))
two P a b c f (suc zero) zero h k = c
two P a b c f (suc zero) (suc zero) h k = f
two P a b c f (suc zero) (suc (suc e)) h k = absurd (omega (arith, k))
two P a b c f (suc (suc d)) e h k = absurd (omega (arith, h))

digit-own : (d e : ℕ) → d < 2 → e < 2 → eqb (Bits.bit_xor d (Bits.bit_and d e)) 1 ≡ (eqb d 1 && not (eqb e 1))
digit-own = two (λ d e. eqb (Bits.bit_xor d (Bits.bit_and d e)) 1 ≡ (eqb d 1 && not (eqb e 1))) refl refl refl refl

pub own-bit : (w t i : ℕ) → has_bit (Bits.bit_xor w (Bits.bit_and w t)) i ≡ (has_bit w i && not (has_bit t i))
own-bit w t i =
    let a = w / 2 ^ i in
    let b = t / 2 ^ i in
    ap (λ (x : ℕ). eqb (x % 2) 1) (xor_shr w (Bits.bit_and w t) i ∙ ap (Bits.bit_xor a) (and_shr w t i))
    ∙ ap (λ (x : ℕ). eqb x 1) (xor_mod a (Bits.bit_and a b) 1 ∙ ap (Bits.bit_xor (a % 2)) (and_mod a b 1))
    ∙ digit-own (a % 2) (b % 2) (mod-lt a (zero-lt-suc 1)) (mod-lt b (zero-lt-suc 1))

pub own-lt : (n w t : ℕ) → w < 2 ^ n → t < 2 ^ n → Bits.bit_xor w (Bits.bit_and w t) < 2 ^ n
own-lt n w t h k = xor_lt n w (Bits.bit_and w t) h (and_lt n w t h k)

-- a word cut off at bit k, by its bits
pub cut_word : (n f k : ℕ) (p : ℕ → Bool) → f < 2 ^ n → k ≤ n → ((b : ℕ) → b < k → has_bit f b ≡ p b)
    → ((b : ℕ) → k ≤ b → b < n → p b ≡ false) → Bits.bit_and f (2 ^ k - 1) ≡ word_of n p
cut_word n f k p h l e z =
    and_mask f k
    ∙ same_word n (f % 2 ^ k) (word_of n p) (omega (arith, mod-le-of f, h)) (word_of-lt n p)
    (λ b g.
    by-test (λ (_ : ℕ). has_bit (f % 2 ^ k) b ≡ has_bit (word_of n p) b) (ltb b k) 0 0
    (λ t. let u = ltb-true b k t in has_bit-mod f k b u ∙ e b u ∙ sym (has_bit-word_of n p b g))
    (λ t. let u = ltb-false b k t in has_bit-out (f % 2 ^ k) k b (mod-lt f (pow_pos k)) u ∙ sym (has_bit-word_of n p b g ∙ z b u g)))
  where
    mod-le-of : (x : ℕ) → x % 2 ^ k ≤ x
    mod-le-of x = mod-le x (2 ^ k)

pub whole_word : (n f : ℕ) (p : ℕ → Bool) → f < 2 ^ n → ((b : ℕ) → b < n → has_bit f b ≡ p b) → f ≡ word_of n p
whole_word n f p h e = same_word n f (word_of n p) h (word_of-lt n p) (λ b g. e b g ∙ sym (has_bit-word_of n p b g))

-- the lowest of what passes one of two tests that agree
among-ext : (p q : ℕ → Bool) (t k : ℕ) → ((b : ℕ) → b ≤ k → p b ≡ q b) → among p t k ≡ among q t k
among-ext p q t k h = both (h k (omega arith)) (ap (λ (x : ℕ). ltb x t) (how_many-ext k p q (λ b l. h b (omega (arith, l)))))

-- how many they are
count-among : (p : ℕ → Bool) (t n : ℕ) → how_many n (among p t) ≡ min (how_many n p) t
unfolding how_many
count-among p t zero = omega arith
count-among p t (suc n) =
    by-test (λ (_ : ℕ). digit (among p t n) + how_many n (among p t) ≡ min (digit (p n) + how_many n p) t) (p n) 0 0
    (λ e.
    by-test (λ (_ : ℕ). digit (among p t n) + how_many n (among p t) ≡ min (digit (p n) + how_many n p) t) (ltb (how_many n p) t) 0 0
    (λ f. let l = ltb-true (how_many n p) t f in omega (arith, l, count-among p t n, ap digit e, ap digit (both e f)))
    (λ f. let l = ltb-false (how_many n p) t f in omega (arith, l, count-among p t n, ap digit e, ap digit (both e f))))
    (λ e. omega (arith, count-among p t n, ap digit e, ap digit (ap (λ (x : Bool). x && ltb (how_many n p) t) e)))

module _ (m : Masks) (i : ℕ) (l : i < 32) where
  -- whether a node before this one holds a slot
  abbrev before : ℕ → Bool
  before = together m i

  -- the owner is the lowest that holds the slot
  pub owns-own : (k : ℕ) → k < 80 → owns (owners_in m) i k ≡ (holds m i k && not (before k))
  unfolding owner_in
  owns-own k b =
      ap (λ (x : ℕ). eqb x (i + 1)) (owner_at m k b)
      ∙ iff (eqb (first 32 (λ j. holds m j k)) (i + 1)) (holds m i k && not (before k)) there back
    where
      there : eqb (first 32 (λ j. holds m j k)) (i + 1) ≡ true → (holds m i k && not (before k)) ≡ true
      there e =
          let f : first 32 (λ j. holds m j k) ≡ i + 1 = eqb-true _ (i + 1) e in
          ⊎_elim (λ z. absurd (omega (arith, z.is, f)))
          (λ a.
          let g : a.0 ≡ i = omega (arith, a.1.is, f) in
          both (sym (ap (λ (j : ℕ). holds m j k) g) ∙ a.1.passes)
          (ap not (together-lacks m i k (λ j h. a.1.before j (omega (arith, h, g))))))
          (first-is 32 (λ j. holds m j k))

      back : (holds m i k && not (before k)) ≡ true → eqb (first 32 (λ j. holds m j k)) (i + 1) ≡ true
      back e =
          let n : not (before k) ≡ true = and_right (holds m i k) (not (before k)) e in
          eq-eqb _ (i + 1)
          (first-at 32 (λ j. holds m j k) i l (and_left (holds m i k) (not (before k)) e)
          (λ j h. is_false (holds m j k) (λ u. absurd-not (before k) (together-has m i j k h u) n)))
        where
          absurd-not : (t : Bool) → t ≡ true → not t ≡ true → ⊥
          absurd-not t p q = clash true refl (sym q ∙ ap not p)

-- The masks of what owners keep, node by node.
-- what the node at index i keeps
abbrev pub share_of : Masks → List ℕ → ℕ → ℕ → Share
share_of m target K i = node_kept (own_low (low_of m i) (taken m.low i) K) (own_high (high_of m i) (taken m.high i) K) (get_or target i 0)

module _ (m : Masks) (target : List ℕ) (K : ℕ) (w : length target ≡ 32) where
  abbrev mine : ℕ → ℕ → Bool
  mine i = has_slot (own_low (low_of m i) (taken m.low i) K) (own_high (high_of m i) (taken m.high i) K)

  module _ (i : ℕ) (l : i < 32) where
    mine-is : (k : ℕ) → k < 80 → mine i k ≡ had target (owners_in m) K w i k
    unfolding own_low own_high holds
    mine-is k b =
        by-test (λ (_ : ℕ). mine i k ≡ had target (owners_in m) K w i k) (ltb k 64) 0 0
        (λ t.
        let h = ltb-true k 64 t in
        hit (ltb k 64) (has_bit (own_low (low_of m i) (taken m.low i) K) k) (has_bit (own_high (high_of m i) (taken m.high i) K) (k - 64)) t
        ∙ has_bit-word_of 64 (λ x. ltb x K && (has_bit (low_of m i) x && not (has_bit (taken m.low i) x))) k h
        ∙ ap (λ (x : Bool). ltb k K && x)
        (sym (owns-own m i l k b ∙ both (hit (ltb k 64) (has_bit (low_of m i) k) (has_bit (high_of m i) (k - 64)) t)
        (ap not (hit (ltb k 64) (has_bit (taken m.low i) k) (has_bit (taken m.high i) (k - 64)) t)))))
        (λ t.
        let h = ltb-false k 64 t in
        let e : 64 + (k - 64) ≡ k = omega (arith, h) in
        skip (ltb k 64) (has_bit (own_low (low_of m i) (taken m.low i) K) k)
        (has_bit (own_high (high_of m i) (taken m.high i) K) (k - 64)) _ t refl
        ∙ has_bit-word_of 16 (λ x. ltb (64 + x) K && (has_bit (high_of m i) x && not (has_bit (taken m.high i) x))) (k - 64)
        (omega (arith, b, h))
        ∙ ap (λ (x : ℕ). ltb x K && (has_bit (high_of m i) (k - 64) && not (has_bit (taken m.high i) (k - 64)))) e
        ∙ ap (λ (x : Bool). ltb k K && x)
        (sym (owns-own m i l k b ∙ both (skip (ltb k 64) (has_bit (low_of m i) k) (has_bit (high_of m i) (k - 64)) _ t refl)
        (ap not (skip (ltb k 64) (has_bit (taken m.low i) k) (has_bit (taken m.high i) (k - 64)) _ t refl)))))

    kept-is : (k : ℕ) → k < 80 → among (mine i) (get_or target i 0) k ≡ owns (kept target (owners_in m) K).owners i k
    kept-is k b = among-ext (mine i) (had target (owners_in m) K w i) (get_or target i 0) k (λ x g. mine-is x (omega (arith, b, g)))
        ∙ sym (kept-owns target (owners_in m) K w i k b)

  -- all of them
  pub keep-is : from_words (tab 32 (λ i. (share_of m target K i).low)) (tab 32 (λ i. (share_of m target K i).high))
      (tab 32 (λ i. (share_of m target K i).held)) ≡ masks_of (kept target (owners_in m) K).owners
  unfolding masks_of node_kept
  keep-is =
      let o = (kept target (owners_in m) K).owners in
      let p = tab-ext 32 (λ i. (share_of m target K i).low) (λ i. word_of 64 (owns o i))
      (λ i l. word_of-ext 64 (among (mine i) (get_or target i 0)) (owns o i) (λ k b. kept-is i l k (omega (arith, b)))) in
      let q = tab-ext 32 (λ i. (share_of m target K i).high) (λ i. word_of 16 (λ k. owns o i (64 + k)))
      (λ i l. word_of-ext 16 (λ k. among (mine i) (get_or target i 0) (64 + k)) (λ k. owns o i (64 + k))
      (λ k b. kept-is i l (64 + k) (omega (arith, b)))) in
      let r = tab-ext 32 (λ i. (share_of m target K i).held) (λ i. how_many 80 (owns o i))
      (λ i l. sym (count-among (mine i) (get_or target i 0) 80)
      ∙ how_many-ext 80 (among (mine i) (get_or target i 0)) (owns o i) (λ k b. kept-is i l k b)) in
      λ n. record { low = p n; high = q n; counts = r n }
