-- The words of nodes taken together, and what shares no bit with any of them.
-- Assumes nothing.
use mathlib.Core.Path.{◌≡◌, refl, sym, ap, ap₂, ◌∙◌}
use mathlib.Core.Bool.{Bool, true, false, ◌&&◌, ◌||◌}
use mathlib.Core.List.{List}
use Prim.Native.Nat.{ℕ, zero, suc, ◌+◌, ◌-◌, ◌<◌}
use native.Mathlib.Numerals.{add-one}
use native.Mathlib.Omega.{arith}
use lib.Dec.{eqb, ltb}
use lib.Bits
use lib.Count.{ones}
use lib.ListN.{get_or}
use Rattle.lists.specs.All.{iter, all_below}
use Rattle.words.specs.Bits.{has_bit}
use Rattle.words.proofs.Tests.{both, by-test, same_or_not, hit, skip, or-front, or-back}
use Rattle.words.proofs.Laws.{has_bit-or}
use Rattle.lists.proofs.Laws.{all_more}
use Rattle.masks.specs.Slots.{Masks}
use Rattle.masks.specs.Slots.{low_of, high_of, count_of, has_slot, holds, apart, well_formed_at}
use Rattle.masks.specs.Inner.{taken}
use Rattle.masks.proofs.Bits.{shares-with, no_bits}

pub taken_none : (l : List ℕ) → ◌≡◌ {A = ℕ} 0 (taken l 0)
unfolding taken iter
taken_none l = refl

pub taken_more : (l : List ℕ) (n w : ℕ) → w ≡ taken l n → Bits.bit_or w (get_or l n 0) ≡ taken l (n + 1)
unfolding taken iter
taken_more l n w e = rw add-one (ap (λ (x : ℕ). Bits.bit_or x (get_or l n 0)) e)

-- a word shares no bit with them together exactly if it shares none with each
pub apart-each : (l : List ℕ) (n w : ℕ) → eqb (Bits.bit_and (taken l n) w) 0 ≡ all_below n (λ j. eqb (Bits.bit_and (get_or l j 0) w) 0)
unfolding taken iter all_below
apart-each l zero w = refl
apart-each l (suc n) w = shares-with (taken l n) (get_or l n 0) w
    ∙ ap (λ (t : Bool). t && eqb (Bits.bit_and (get_or l n 0) w) 0) (apart-each l n w)

-- two tests of every number together
pub all_both : (n : ℕ) (p q : ℕ → Bool) → (all_below n p && all_below n q) ≡ all_below n (λ i. p i && q i)
unfolding all_below
all_both zero p q = refl
all_both (suc n) p q = and-swap (all_below n p) (p n) (all_below n q) (q n) ∙ ap (λ (t : Bool). t && (p n && q n)) (all_both n p q)
  where
    and-swap : (a b c d : Bool) → ((a && b) && (c && d)) ≡ ((a && c) && (b && d))
    and-swap true true c d = refl
    and-swap true false true d = refl
    and-swap true false false d = refl
    and-swap false b c d = refl

-- a turn of the test that masks are well formed: one node more
pub tidy-turn : (m : Masks) (i x y a b c n : ℕ) (t : Bool) → x ≡ taken m.low i → y ≡ taken m.high i → a ≡ low_of m i → b ≡ high_of m i
    → c ≡ count_of m i → n ≡ ones a + ones b → t ≡ all_below i (well_formed_at m)
    → (t && ((eqb (Bits.bit_and x a) 0 && eqb (Bits.bit_and y b) 0) && eqb c n)) ≡ all_below (i + 1) (well_formed_at m)
tidy-turn m i x y a b c n t ex ey ea eb ec en et =
    let each : (eqb (Bits.bit_and x a) 0 && eqb (Bits.bit_and y b) 0) ≡ all_below i (λ j. apart m j i) =
    both (ap₂ (λ (u v : ℕ). eqb (Bits.bit_and u v) 0) ex ea ∙ apart-each m.low i (low_of m i))
    (ap₂ (λ (u v : ℕ). eqb (Bits.bit_and u v) 0) ey eb ∙ apart-each m.high i (high_of m i))
    ∙ all_both i _ _ in
    all_more (well_formed_at m) i t _ et (both each (ap₂ eqb ec (en ∙ ap₂ (λ (u v : ℕ). ones u + ones v) ea eb)))

pub taken-turn : (l : List ℕ) (n w a : ℕ) → w ≡ taken l n → a ≡ get_or l n 0 → Bits.bit_or w a ≡ taken l (n + 1)
taken-turn l n w a e f = ap (Bits.bit_or w) f ∙ taken_more l n w e

-- two tests that are met together
pub iff : (a b : Bool) → (a ≡ true → b ≡ true) → (b ≡ true → a ≡ true) → a ≡ b
iff true b f g = sym (f refl)
iff false true f g = g refl
iff false false f g = refl

-- a bit of one of the words, and a bit of none
taken-has : (l : List ℕ) (n j b : ℕ) → j < n → has_bit (get_or l j 0) b ≡ true → has_bit (taken l n) b ≡ true
unfolding taken iter
taken-has l zero j b h e = absurd (omega (arith, h))
taken-has l (suc n) j b h e =
    has_bit-or (taken l n) (get_or l n 0) b
    ∙ same_or_not j n
    (λ f. or-back (has_bit (taken l n) b) _ (ap (λ (x : ℕ). has_bit (get_or l x 0) b) (sym f) ∙ e))
    (λ f. or-front (has_bit (taken l n) b) (has_bit (get_or l n 0) b) (taken-has l n j b (omega (arith, h, f)) e))

taken-lacks : (l : List ℕ) (n b : ℕ) → ((j : ℕ) → j < n → has_bit (get_or l j 0) b ≡ false) → has_bit (taken l n) b ≡ false
unfolding taken iter
taken-lacks l zero b h = no_bits b
taken-lacks l (suc n) b h = has_bit-or (taken l n) (get_or l n 0) b
    ∙ ap₂ ◌||◌ (taken-lacks l n b (λ j g. h j (omega (arith, g)))) (h n (omega arith))

-- the slots that the first n nodes have together: a slot of one of them, and a slot of none
module _ (m : Masks) (n : ℕ) where
  abbrev pub together : ℕ → Bool
  together k = has_slot (taken m.low n) (taken m.high n) k

  pub together-has : (j k : ℕ) → j < n → holds m j k ≡ true → together k ≡ true
  unfolding holds
  together-has j k h e =
      by-test (λ (_ : ℕ). together k ≡ true) (ltb k 64) 0 0
      (λ t. hit (ltb k 64) (has_bit (taken m.low n) k) (has_bit (taken m.high n) (k - 64)) t
      ∙ taken-has m.low n j k h (sym (hit (ltb k 64) (has_bit (low_of m j) k) (has_bit (high_of m j) (k - 64)) t) ∙ e))
      (λ t. skip (ltb k 64) (has_bit (taken m.low n) k) (has_bit (taken m.high n) (k - 64)) true t
      (taken-has m.high n j (k - 64) h (sym (skip (ltb k 64) (has_bit (low_of m j) k) (has_bit (high_of m j) (k - 64)) _ t refl) ∙ e)))

  pub together-lacks : (k : ℕ) → ((j : ℕ) → j < n → holds m j k ≡ false) → together k ≡ false
  unfolding holds
  together-lacks k h =
      by-test (λ (_ : ℕ). together k ≡ false) (ltb k 64) 0 0
      (λ t. hit (ltb k 64) (has_bit (taken m.low n) k) (has_bit (taken m.high n) (k - 64)) t
      ∙ taken-lacks m.low n k (λ j g. sym (hit (ltb k 64) (has_bit (low_of m j) k) (has_bit (high_of m j) (k - 64)) t) ∙ h j g))
      (λ t. skip (ltb k 64) (has_bit (taken m.low n) k) (has_bit (taken m.high n) (k - 64)) false t
      (taken-lacks m.high n (k - 64)
      (λ j g. sym (skip (ltb k 64) (has_bit (low_of m j) k) (has_bit (high_of m j) (k - 64)) _ t refl) ∙ h j g)))
