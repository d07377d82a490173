-- Owners and masks: what the one is of the other, and that well-formed masks are known by their owners.
-- Assumes nothing.
use mathlib.Core.Path.{◌≡◌, refl, sym, ap, ◌∙◌, subst}
use mathlib.Core.List.{List}
use Prim.Native.Nat.{ℕ, ◌+◌, ◌-◌, ◌^◌, ◌≤◌, ◌<◌}
use native.Mathlib.Omega.{arith}
use lib.Dec.{ltb}
use lib.ListN.{length, get_or}
use lib.Seq.{ext_get_or}
use borrow.Author.Tests.{lt-ltb, le-ltb, ltb-true, ltb-false}
use Rattle.words.specs.Bits.{has_bit, word_of, how_many}
use Rattle.words.proofs.Tests.{by-test, hit, skip}
use Rattle.words.proofs.Laws.{word_of-lt, has_bit-word_of}
use Rattle.lists.specs.All.{tab}
use Rattle.lists.proofs.Laws.{length-tab, get_d-tab, get_d-zeros}
use Rattle.masks.specs.Slots.{Masks}
use Rattle.masks.specs.Slots.{low_of, high_of, count_of, has_slot, holds, owner_in, owners_in, owns, masks_of, no_owners}
use Rattle.masks.proofs.First.{first-ext, first-le, first-number}

-- masks of the code's sizes: 32 words of 64 bits, 32 of 16, and 32 counts
pub record Sized (m : Masks) : Type 0 where
  pub lows : length m.low ≡ 32
  pub highs : length m.high ≡ 32
  pub all-counts : length m.counts ≡ 32
  pub low_fits : (i : ℕ) → i < 32 → low_of m i < 2 ^ 64
  pub high_fits : (i : ℕ) → i < 32 → high_of m i < 2 ^ 16

-- whether two words have a slot, by the word that has it
pub slot-low : (low high k : ℕ) → k < 64 → has_slot low high k ≡ has_bit low k
slot-low low high k l = hit (ltb k 64) (has_bit low k) (has_bit high (k - 64)) (lt-ltb k 64 l)

pub slot-high : (low high k : ℕ) → has_slot low high (64 + k) ≡ has_bit high k
slot-high low high k =
    let e : 64 + k - 64 ≡ k = omega arith in
    skip (ltb (64 + k) 64) (has_bit low (64 + k)) (has_bit high (64 + k - 64)) (has_bit high k) (le-ltb (64 + k) 64 (omega arith))
    (ap (has_bit high) e)

-- and whether a node holds it
pub holds-low : (m : Masks) (i k : ℕ) → k < 64 → holds m i k ≡ has_bit (low_of m i) k
unfolding holds
holds-low m i k l = slot-low (low_of m i) (high_of m i) k l

pub holds-high : (m : Masks) (i k : ℕ) → holds m i (64 + k) ≡ has_bit (high_of m i) k
unfolding holds
holds-high m i k = slot-high (low_of m i) (high_of m i) k

-- a fact of every slot, by the two words
pub by_word : (P : ℕ → Type 0) → ((k : ℕ) → k < 64 → P k) → ((k : ℕ) → k < 16 → P (64 + k)) → (k : ℕ) → k < 80 → P k
by_word P f g k l =
    by-test (λ (_ : ℕ). P k) (ltb k 64) 0 0 (λ t. f k (ltb-true k 64 t))
    (λ t. let h = ltb-false k 64 t in let e : 64 + (k - 64) ≡ k = omega (arith, h) in subst P e (g (k - 64) (omega (arith, h, l))))

-- The masks of a list of owners.

module _ (owners : List ℕ) where
  pub low-made : (i : ℕ) → i < 32 → low_of (masks_of owners) i ≡ word_of 64 (owns owners i)
  unfolding masks_of
  low-made i l = get_d-tab 0 32 (λ i. word_of 64 (owns owners i)) i l

  pub high-made : (i : ℕ) → i < 32 → high_of (masks_of owners) i ≡ word_of 16 (λ k. owns owners i (64 + k))
  unfolding masks_of
  high-made i l = get_d-tab 0 32 (λ i. word_of 16 (λ k. owns owners i (64 + k))) i l

  -- the count of a node is how many of the owners are it
  pub count-made : (i : ℕ) → i < 32 → count_of (masks_of owners) i ≡ how_many 80 (owns owners i)
  unfolding masks_of
  count-made i l = get_d-tab 0 32 (λ i. how_many 80 (owns owners i)) i l

  -- they have the code's sizes
  pub made-sized : Sized (masks_of owners)
  unfolding masks_of
  made-sized =
      record {
        lows = length-tab 32 _;
        highs = length-tab 32 _;
        all-counts = length-tab 32 _;
        low_fits = λ i l. subst (λ (w : ℕ). w < 2 ^ 64) (sym (low-made i l)) (word_of-lt 64 (owns owners i));
        high_fits = λ i l. subst (λ (w : ℕ). w < 2 ^ 16) (sym (high-made i l)) (word_of-lt 16 (λ k. owns owners i (64 + k)));
      }

  -- a node holds the slots that it owns
  pub holds-made : (i k : ℕ) → i < 32 → k < 80 → holds (masks_of owners) i k ≡ owns owners i k
  holds-made i k l h =
      by_word (λ k. holds (masks_of owners) i k ≡ owns owners i k)
      (λ k g. holds-low (masks_of owners) i k g ∙ ap (λ (w : ℕ). has_bit w k) (low-made i l) ∙ has_bit-word_of 64 (owns owners i) k g)
      (λ k g. holds-high (masks_of owners) i k ∙ ap (λ (w : ℕ). has_bit w k) (high-made i l)
      ∙ has_bit-word_of 16 (λ k. owns owners i (64 + k)) k g)
      k h

  -- their owner of a slot is the list's, where that is a node's number or 0
  pub owner-made : (k : ℕ) → k < 80 → get_or owners k 0 ≤ 32 → owner_in (masks_of owners) k ≡ get_or owners k 0
  unfolding owner_in
  owner-made k h l =
      first-ext 32 (λ i. holds (masks_of owners) i k) (λ i. owns owners i k) (λ i b. holds-made i k b h)
      ∙ first-number 32 (get_or owners k 0) l

  -- their owners are the list
  pub owners-made : length owners ≡ 80 → ((k : ℕ) → k < 80 → get_or owners k 0 ≤ 32) → owners_in (masks_of owners) ≡ owners
  unfolding owners_in
  owners-made e h =
      ext_get_or 0 (tab 80 (owner_in (masks_of owners))) owners (length-tab 80 (owner_in (masks_of owners)) ∙ sym e)
      (λ k l. let g : k < 80 = omega (arith, l, length-tab 80 (owner_in (masks_of owners))) in get_d-tab 0 80 (owner_in (masks_of owners)) k g
      ∙ owner-made k g (h k g))

-- all slots free
pub owners-none : owners_in (masks_of no_owners) ≡ no_owners
owners-none = owners-made no_owners refl (λ k l. let z : get_or no_owners k 0 ≡ 0 = get_d-zeros 80 k in omega (arith, z))

-- The owners of masks: 80, none above 32.

pub length-owners : (m : Masks) → length (owners_in m) ≡ 80
unfolding owners_in
length-owners m = length-tab 80 (owner_in m)

pub owner_at : (m : Masks) (k : ℕ) → k < 80 → get_or (owners_in m) k 0 ≡ owner_in m k
unfolding owners_in
owner_at m k l = get_d-tab 0 80 (owner_in m) k l

pub owner-le : (m : Masks) (k : ℕ) → owner_in m k ≤ 32
unfolding owner_in
owner-le m k = first-le 32 (λ i. holds m i k)
