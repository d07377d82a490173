-- The lowest ones of a word, from one bit that is set to the next.
-- Assumes nothing.
use mathlib.Core.Path.{◌≡◌, refl, sym, ap, ◌∙◌}
use mathlib.Core.Bool.{Bool, true, false, ◌&&◌, and-false}
use mathlib.Core.Logic.{◌⊎◌, inl, inr}
use Prim.Native.Nat.{ℕ, zero, suc, ◌+◌, ◌-◌, ◌/◌, ◌%◌, ◌^◌, ◌≤◌, ◌<◌}
use native.Mathlib.Nat.{add-zero, add-suc}
use native.Mathlib.Omega.{arith}
use native.Mathlib.Numerals.{add-one}
use lib.Dec.{eqb, ltb}
use lib.Bits
use lib.Pow.{shr-shr}
use borrow.Author.Tests.{lt-ltb, le-ltb}
use Rattle.words.specs.Bits.{has_bit, digit, word_of, how_many}
use Rattle.words.proofs.Tests.{both}
use Rattle.words.proofs.Laws.{word_more, word_of-short}
use Rattle.words.proofs.Counts.{how_many-suc, how_many-more}
use Rattle.masks.proofs.Bits.{no_bits}
use Rattle.masks.proofs.Turns.{Next}
use Rattle.allotment.specs.Inner.{among, lowest_of}

-- numbers that don't pass are not counted
pub count-short : (n m : ℕ) (p : ℕ → Bool) → ((i : ℕ) → n ≤ i → i < n + m → p i ≡ false) → how_many (n + m) p ≡ how_many n p
count-short n zero p h = ap (λ (x : ℕ). how_many x p) (add-zero n)
count-short n (suc m) p h =
    let e : how_many (n + m) p ≡ how_many n p = count-short n m p (λ i l g. h i l (omega (arith, g))) in
    let f : p (n + m) ≡ false = h (n + m) (omega arith) (omega arith) in
    ap (λ (x : ℕ). how_many x p) (add-suc n m) ∙ omega (arith, how_many-suc p (n + m), ap digit f, e)

module _ (w t : ℕ) where
  -- how many ones a word has below a place
  abbrev below : ℕ → ℕ
  below k = how_many k (has_bit w)

  -- where a word has no bit, none is kept
  not-kept : (k : ℕ) → has_bit w k ≡ false → among (has_bit w) t k ≡ false
  not-kept k e = ap (λ (x : Bool). x && ltb (below k) t) e

  too_many : (k : ℕ) → t ≤ below k → among (has_bit w) t k ≡ false
  too_many k l = ap (λ (x : Bool). has_bit w k && x) (le-ltb (below k) t l) ∙ and-false (has_bit w k)

  -- what was kept below a place, and how many more may be
  pub record Far (at kept left : ℕ) : Type 0 where
    pub is : kept ≡ word_of at (among (has_bit w) t)
    pub more : left + below at ≡ t

  pub far-start : Far 0 0 t
  unfolding word_of how_many
  far-start = record { is = refl; more = add-zero t }

  pub far-turn : (at kept left rest z : ℕ) → Far at kept left → 0 < left → Next w at 64 rest z
      → Far (at + z + 1) (Bits.bit_or kept (2 ^ (at + z))) (left - 1)
  far-turn at kept left rest z f l n =
      let c : below (at + z) ≡ below at = count-short at z (has_bit w) n.none in
      let s : word_of (at + z) (among (has_bit w) t) ≡ word_of at (among (has_bit w) t) = word_of-short at z (among (has_bit w) t)
      (λ i a b. not-kept i (n.none i a b)) in
      let p : among (has_bit w) t (at + z) ≡ true = both n.bit (lt-ltb (below (at + z)) t (omega (arith, c, f.more, l))) in
      let d : below (at + z + 1) ≡ below (at + z) + 1 = ap (λ (x : ℕ). how_many x (has_bit w)) (add-one (at + z))
      ∙ omega (arith, how_many-suc (has_bit w) (at + z), ap digit n.bit) in
      record {
        is = ap (λ (x : ℕ). Bits.bit_or x (2 ^ (at + z))) (f.is ∙ sym s) ∙ word_more (at + z) (among (has_bit w) t) p;
        more = omega (arith, f.more, d, c, l);
      }

  -- behind the last one, or when no more may be kept
  pub out : (at k : ℕ) → w / 2 ^ at ≡ 0 → at ≤ k → has_bit w k ≡ false
  out at k z u =
      let e : at + (k - at) ≡ k = omega (arith, u) in
      ap (has_bit w) (sym e) ∙ ap (λ (x : ℕ). eqb (x % 2) 1) (sym (shr-shr w at (k - at))) ∙ ap (λ (x : ℕ). has_bit x (k - at)) z
      ∙ no_bits (k - at)

  pub far-end : (at kept left : ℕ) → at ≤ 64 → Far at kept left → (w / 2 ^ at ≡ 0) ⊎ (left ≡ 0)
      → (kept ≡ lowest_of 64 w t) × (left ≡ t - below 64)
  unfolding lowest_of
  far-end at kept left l f (inl z) =
      let e : at + (64 - at) ≡ 64 = omega (arith, l) in
      let c : below 64 ≡ below at = ap below (sym e) ∙ count-short at (64 - at) (has_bit w) (λ i a b. out at i z a) in (
        f.is ∙ sym (ap (λ (x : ℕ). word_of x (among (has_bit w) t)) (sym e)
            ∙ word_of-short at (64 - at) (among (has_bit w) t) (λ i a b. not-kept i (out at i z a))),
        omega (arith, c, f.more),
      )
  far-end at kept left l f (inr z) =
      let e : at + (64 - at) ≡ 64 = omega (arith, l) in
      let m : below at ≤ below 64 = how_many-more (has_bit w) at 64 l in (
        f.is ∙ sym (ap (λ (x : ℕ). word_of x (among (has_bit w) t)) (sym e)
            ∙ word_of-short at (64 - at) (among (has_bit w) t)
            (λ i a b. too_many i (omega (arith, how_many-more (has_bit w) at i a, f.more, z)))),
        omega (arith, m, f.more, z),
      )
