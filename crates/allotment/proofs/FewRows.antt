-- Where the rows behind the first have no slot, these are all that is gone over.
-- Assumes nothing.
use mathlib.Core.Path.{◌≡◌, sym, ap, ap₂, ◌∙◌}
use mathlib.Core.Bool.{Bool, false, not, ◌&&◌, and-false}
use mathlib.Core.List.{List, ◌++◌}
use Prim.Native.Nat.{ℕ, ◌+◌, ◌-◌, ◌≤◌, ◌<◌}
use native.Mathlib.Omega.{arith}
use lib.Dec.{ltb}
use lib.ListN.{length, get_or, drop, replicate, length-append, length-drop, length-replicate, get_or-append}
use lib.Seq.{ext_get_or, get_or-drop, get_or-append-add}
use borrow.Author.Tests.{ltb-true, ltb-false}
use Rattle.words.specs.Bits.{has_bit, how_many}
use Rattle.words.proofs.Tests.{by-test, hit, skip}
use Rattle.words.proofs.Laws.{word_of-none}
use Rattle.lists.specs.All.{tab}
use Rattle.lists.proofs.Laws.{length-tab, get_d-tab, get_d-zeros}
use Rattle.masks.specs.Slots.{Masks}
use Rattle.masks.specs.Slots.{low_of, high_of, has_slot}
use Rattle.masks.specs.Inner.{taken}
use Rattle.masks.proofs.Bits.{no_bits}
use Rattle.masks.proofs.Turns.{how_many-zero}
use Rattle.allotment.specs.Inner.{among, node_kept, own_low, own_high}
use Rattle.allotment.proofs.OwnSlots.{share_of}

-- 32 entries, of which the first n are filled
module _ (n : ℕ) (f : ℕ → ℕ) (l : List ℕ) (h : n ≤ 32) (e : l ≡ tab n f ++ drop n (replicate 32 0)) where
  pub fill-past : (i : ℕ) → n ≤ i → get_or l i 0 ≡ 0
  fill-past i k =
      let a : length (tab n f) + (i - n) ≡ i = omega (arith, k, length-tab n f) in
      ap₂ (λ (x : List ℕ) (j : ℕ). get_or x j 0) e (sym a)
      ∙ get_or-append-add (tab n f) (drop n (replicate 32 0)) (i - n) 0
      ∙ get_or-drop n (replicate 32 0) (i - n) 0
      ∙ get_d-zeros 32 (n + (i - n))

  pub fill-rest : ((i : ℕ) → n ≤ i → i < 32 → f i ≡ 0) → l ≡ tab 32 f
  fill-rest z =
      let w : length l ≡ 32 = ap length e ∙ length-append (tab n f) (drop n (replicate 32 0)) ∙ omega
      (arith, length-tab n f, length-drop {A = ℕ} n (replicate 32 0), length-replicate {A = ℕ} 32 0, h) in
      ext_get_or 0 l (tab 32 f) (w ∙ sym (length-tab 32 f))
      (λ i k.
      let g : i < 32 = omega (arith, k, w) in
      by-test (λ (_ : ℕ). get_or l i 0 ≡ get_or (tab 32 f) i 0) (ltb i n) 0 0
      (λ t.
      let u = ltb-true i n t in
      ap (λ (x : List ℕ). get_or x i 0) e ∙ get_or-append (tab n f) (drop n (replicate 32 0)) 0 i (omega (arith, u, length-tab n f))
      ∙ get_d-tab 0 n f i u ∙ sym (get_d-tab 0 32 f i g))
      (λ t. let u = ltb-false i n t in fill-past i u ∙ sym (get_d-tab 0 32 f i g ∙ z i u g)))

-- a node without slots keeps none
module _ (m : Masks) (target : List ℕ) (K i : ℕ) (a : low_of m i ≡ 0) (b : high_of m i ≡ 0) where
  abbrev lo : ℕ
  lo = own_low (low_of m i) (taken m.low i) K

  abbrev hi : ℕ
  hi = own_high (high_of m i) (taken m.high i) K

  no-low : lo ≡ 0
  unfolding own_low
  no-low = word_of-none 64 _ (λ k l. ap (λ (t : Bool). ltb k K && (t && not (has_bit (taken m.low i) k)))
      (ap (λ (x : ℕ). has_bit x k) a ∙ no_bits k) ∙ and-false (ltb k K))

  no-high : hi ≡ 0
  unfolding own_high
  no-high = word_of-none 16 _ (λ k l. ap (λ (t : Bool). ltb (64 + k) K && (t && not (has_bit (taken m.high i) k)))
      (ap (λ (x : ℕ). has_bit x k) b ∙ no_bits k) ∙ and-false (ltb (64 + k) K))

  no_slot : (k : ℕ) → has_slot lo hi k ≡ false
  no_slot k =
      by-test (λ (_ : ℕ). has_slot lo hi k ≡ false) (ltb k 64) 0 0
      (λ t. hit (ltb k 64) _ _ t ∙ ap (λ (x : ℕ). has_bit x k) no-low ∙ no_bits k)
      (λ t. skip (ltb k 64) _ _ _ t (ap (λ (x : ℕ). has_bit x (k - 64)) no-high ∙ no_bits (k - 64)))

  none_kept : (k : ℕ) → among (has_slot lo hi) (get_or target i 0) k ≡ false
  none_kept k = ap (λ (t : Bool). t && ltb (how_many k (has_slot lo hi)) (get_or target i 0)) (no_slot k)

  pub low-none : (share_of m target K i).low ≡ 0
  unfolding node_kept
  low-none = word_of-none 64 _ (λ k l. none_kept k)

  pub high-none : (share_of m target K i).high ≡ 0
  unfolding node_kept
  high-none = word_of-none 16 _ (λ k l. none_kept (64 + k))

  pub held_none : (share_of m target K i).held ≡ 0
  unfolding node_kept
  held_none = let z : how_many 80 (has_slot lo hi) ≡ 0 = how_many-zero 80 (has_slot lo hi) (λ k l. no_slot k) in omega (arith, z)
