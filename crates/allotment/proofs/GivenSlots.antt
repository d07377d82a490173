-- A slot that goes to a node, by the node's two words; and a slot that is free, by the words of all.
-- Assumes nothing.
use mathlib.Core.Path.{◌≡◌, refl, sym, ap, ap₂, ◌∙◌}
use mathlib.Core.Bool.{Bool, true, false, not, cond, ◌&&◌, ◌||◌, or-false}
use mathlib.Core.List.{List}
use mathlib.Core.Logic.{⊎_elim}
use Prim.Native.Nat.{ℕ, ◌+◌, ◌-◌, ◌^◌, ◌<◌}
use native.Mathlib.Omega.{arith}
use lib.Dec.{eqb, ltb}
use lib.Bits
use lib.Bits.{or_lt}
use lib.Pow.{pow_pos, pow-lt}
use lib.ListN.{length, get_or, set}
use lib.Seq.{get_or-set_same, get_or-set_other}
use borrow.Author.Tests.{eq-eqb, ne_eqb, eqb-true, ltb-true, ltb-false}
use Rattle.words.specs.Bits.{has_bit, word_of}
use Rattle.words.proofs.Tests.{clash, by-test, same_or_not, is_false, hit, skip, or-back}
use Rattle.words.proofs.Laws.{word_more, word_of-none, word_of-lt, word_of-ext, has_bit-word_of, has_bit-or, has_bit-out, same_word}
use Rattle.lists.specs.All.{tab}
use Rattle.lists.proofs.Laws.{get_d-tab}
use Rattle.masks.specs.Slots.{Masks}
use Rattle.masks.specs.Slots.{has_slot, holds, first, owner_in, owners_in, owns}
use Rattle.masks.proofs.Bits.{no_bits}
use Rattle.masks.proofs.First.{first-is, first-none}
use Rattle.masks.proofs.Owners.{owner_at}
use Rattle.masks.specs.Inner.{taken}
use Rattle.masks.proofs.Taken.{iff, together-has, together-lacks}
use Rattle.masks.proofs.Turns.{tab-set}
use Rattle.allotment.specs.Inner.{own_low, own_high, low_bit, high_bit}

-- a power of 2 has one bit
power-word : (k : ℕ) → 2 ^ k ≡ word_of (k + 1) (λ i. eqb i k)
power-word k = sym (ap (λ (x : ℕ). Bits.bit_or x (2 ^ k)) (word_of-none k (λ i. eqb i k) (λ i l. ne_eqb i k (λ e. omega (arith, e, l)))))
    ∙ word_more k (λ i. eqb i k) (eq-eqb k k refl)

pub power-bit : (k i : ℕ) → has_bit (2 ^ k) i ≡ eqb i k
power-bit k i =
    ap (λ (x : ℕ). has_bit x i) (power-word k)
    ∙ by-test (λ (_ : ℕ). has_bit (word_of (k + 1) (λ i. eqb i k)) i ≡ eqb i k) (ltb i (k + 1)) 0 0
    (λ t. has_bit-word_of (k + 1) (λ i. eqb i k) i (ltb-true i (k + 1) t))
    (λ t. let l = ltb-false i (k + 1) t in has_bit-out (word_of (k + 1) (λ i. eqb i k)) (k + 1) i (word_of-lt (k + 1) (λ i. eqb i k)) l
    ∙ sym (ne_eqb i k (λ e. omega (arith, e, l))))

pub low_bit_lem : (k b : ℕ) → b < 64 → has_bit (low_bit k) b ≡ eqb b k
low_bit_lem k b l =
    by-test (λ (x : ℕ). has_bit x b ≡ eqb b k) (ltb k 64) (2 ^ k) 0 (λ t. power-bit k b)
    (λ t. let g = ltb-false k 64 t in no_bits b ∙ sym (ne_eqb b k (λ e. omega (arith, e, l, g))))

pub high_bit_lem : (k b : ℕ) → b < 16 → has_bit (high_bit k) b ≡ eqb (64 + b) k
high_bit_lem k b l =
    by-test (λ (x : ℕ). has_bit x b ≡ eqb (64 + b) k) (ltb k 64) 0 (cond (ltb k 80) (2 ^ (k - 64)) 0)
    (λ t. let g = ltb-true k 64 t in no_bits b ∙ sym (ne_eqb (64 + b) k (λ e. omega (arith, e, g))))
    (λ t.
    let g = ltb-false k 64 t in
    by-test (λ (x : ℕ). has_bit x b ≡ eqb (64 + b) k) (ltb k 80) (2 ^ (k - 64)) 0
    (λ s. power-bit (k - 64) b ∙ same_or_not b (k - 64) (λ e. eq-eqb b (k - 64) e ∙ sym (eq-eqb (64 + b) k (omega (arith, e, g))))
    (λ e. ne_eqb b (k - 64) e ∙ sym (ne_eqb (64 + b) k (λ f. e (omega (arith, f))))))
    (λ s. let h = ltb-false k 80 s in no_bits b ∙ sym (ne_eqb (64 + b) k (λ e. omega (arith, e, l, h)))))

pub low-bit-lt : (k : ℕ) → low_bit k < 2 ^ 64
low-bit-lt k = by-test (λ (x : ℕ). x < 2 ^ 64) (ltb k 64) (2 ^ k) 0 (λ t. pow-less k 64 (ltb-true k 64 t)) (λ t. pow_pos 64)
  where
    pow-less : (a b : ℕ) → a < b → 2 ^ a < 2 ^ b
    pow-less a b h = pow-lt h

pub high-bit-lt : (k : ℕ) → high_bit k < 2 ^ 16
high-bit-lt k =
    by-test (λ (x : ℕ). x < 2 ^ 16) (ltb k 64) 0 (cond (ltb k 80) (2 ^ (k - 64)) 0) (λ t. pow_pos 16)
    (λ t. by-test (λ (x : ℕ). x < 2 ^ 16) (ltb k 80) (2 ^ (k - 64)) 0
    (λ s. let h = ltb-true k 80 s in pow-lt (let g : k - 64 < 16 = omega (arith, h) in g)) (λ s. pow_pos 16))

-- a slot that was free goes to the node of number j = r + 1
module _ (o : List ℕ) (slot j r : ℕ) (e : j ≡ r + 1) (l : slot < length o) (z : get_or o slot 0 ≡ 0) where
  given-slot : (i : ℕ) → owns (set o slot j) i slot ≡ eqb j (i + 1)
  given-slot i = ap (λ (x : ℕ). eqb x (i + 1)) (get_or-set_same o slot j 0 l)

  other-slot : (i k : ℕ) → (k ≡ slot → ⊥) → owns (set o slot j) i k ≡ owns o i k
  other-slot i k h = ap (λ (x : ℕ). eqb x (i + 1)) (get_or-set_other o slot k j 0 h)

  was_free : (i : ℕ) → owns o i slot ≡ false
  was_free i = ne_eqb (get_or o slot 0) (i + 1) (λ q. omega (arith, q, z))

  -- words of n bits: bit b is that of the slot `at b`
  module _ (at : ℕ → ℕ) (n x : ℕ) (bits : (b : ℕ) → b < n → has_bit x b ≡ eqb (at b) slot) (fits : x < 2 ^ n) where
    word-given : Bits.bit_or (word_of n (λ b. owns o r (at b))) x ≡ word_of n (λ b. owns (set o slot j) r (at b))
    word-given =
        same_word n (Bits.bit_or (word_of n (λ b. owns o r (at b))) x) (word_of n (λ b. owns (set o slot j) r (at b)))
        (or_lt n (word_of n (λ b. owns o r (at b))) x (word_of-lt n (λ b. owns o r (at b))) fits)
        (word_of-lt n (λ b. owns (set o slot j) r (at b)))
        (λ b g.
        has_bit-or (word_of n (λ b. owns o r (at b))) x b ∙ ap₂ ◌||◌ (has_bit-word_of n (λ b. owns o r (at b)) b g) (bits b g)
        ∙ same_or_not (at b) slot
        (λ q. or-back (owns o r (at b)) (eqb (at b) slot) (eq-eqb (at b) slot q)
        ∙ sym (ap (owns (set o slot j) r) q ∙ given-slot r ∙ eq-eqb j (r + 1) e))
        (λ q. ap (λ (t : Bool). owns o r (at b) || t) (ne_eqb (at b) slot q) ∙ or-false (owns o r (at b)) ∙ sym (other-slot r (at b) q))
        ∙ sym (has_bit-word_of n (λ b. owns (set o slot j) r (at b)) b g))

    word-other : (i : ℕ) → (i ≡ r → ⊥) → word_of n (λ b. owns o i (at b)) ≡ word_of n (λ b. owns (set o slot j) i (at b))
    word-other i h =
        word_of-ext n (λ b. owns o i (at b)) (λ b. owns (set o slot j) i (at b))
        (λ b g. same_or_not (at b) slot
        (λ q. ap (owns o i) q ∙ was_free i
        ∙ sym (ap (owns (set o slot j) i) q ∙ given-slot i ∙ ne_eqb j (i + 1) (λ f. h (omega (arith, e, f)))))
        (λ q. sym (other-slot i (at b) q)))

    pub rows-given : (rows : List ℕ) → rows ≡ tab 32 (λ i. word_of n (λ b. owns o i (at b))) → r < 32
        → set rows r (Bits.bit_or (get_or rows r 0) x) ≡ tab 32 (λ i. word_of n (λ b. owns (set o slot j) i (at b)))
    rows-given rows q h =
        tab-set 32 (λ i. word_of n (λ b. owns o i (at b))) (λ i. word_of n (λ b. owns (set o slot j) i (at b))) rows r
        (Bits.bit_or (get_or rows r 0) x) q h
        (ap (λ (y : ℕ). Bits.bit_or y x) (ap (λ (y : List ℕ). get_or y r 0) q ∙ get_d-tab 0 32 (λ i. word_of n (λ b. owns o i (at b))) r h)
        ∙ word-given)
        (λ i g f. word-other i f)

  -- the first words, and the second ones
  pub lows-given : (low : List ℕ) → low ≡ tab 32 (λ i. word_of 64 (owns o i)) → r < 32
      → set low r (Bits.bit_or (get_or low r 0) (low_bit slot)) ≡ tab 32 (λ i. word_of 64 (owns (set o slot j) i))
  lows-given low q h = rows-given (λ b. b) 64 (low_bit slot) (λ b g. low_bit_lem slot b g) (low-bit-lt slot) low q h

  pub highs-given : (high : List ℕ) → high ≡ tab 32 (λ i. word_of 16 (λ b. owns o i (64 + b))) → r < 32
      → set high r (Bits.bit_or (get_or high r 0) (high_bit slot)) ≡ tab 32 (λ i. word_of 16 (λ b. owns (set o slot j) i (64 + b)))
  highs-given high q h = rows-given (λ b. 64 + b) 16 (high_bit slot) (λ b g. high_bit_lem slot b g) (high-bit-lt slot) high q h

-- a slot is free just where no word has it
pub free-slot : (m : Masks) (k : ℕ) → k < 80 → eqb (get_or (owners_in m) k 0) 0 ≡ not (has_slot (taken m.low 32) (taken m.high 32) k)
unfolding owner_in
free-slot m k b = ap (λ (x : ℕ). eqb x 0) (owner_at m k b) ∙ iff (eqb (first 32 (λ j. holds m j k)) 0) (not all) there back
  where
    all : Bool
    all = has_slot (taken m.low 32) (taken m.high 32) k

    there : eqb (first 32 (λ j. holds m j k)) 0 ≡ true → not all ≡ true
    there e =
        let f : first 32 (λ j. holds m j k) ≡ 0 = eqb-true _ 0 e in
        ap not (together-lacks m 32 k
        (λ i h. ⊎_elim (λ z. z.fails i h) (λ a. absurd (omega (arith, a.1.is, f))) (first-is 32 (λ j. holds m j k))))

    back : not all ≡ true → eqb (first 32 (λ j. holds m j k)) 0 ≡ true
    back e = eq-eqb _ 0 (first-none 32 (λ j. holds m j k)
        (λ i h. is_false (holds m i k) (λ u. clash true refl (sym e ∙ ap not (together-has m 32 i k h u)))))

-- words of all ones
ones-64 : (b : ℕ) → b < 64 → has_bit 18446744073709551615 b ≡ true
unfolding word_of
ones-64 b l = has_bit-word_of 64 (λ _. true) b l

ones-16 : (b : ℕ) → b < 16 → has_bit 65535 b ≡ true
unfolding word_of
ones-16 b l = has_bit-word_of 16 (λ _. true) b l

-- the words of the slots that are free, of the first K
pub frees : (m : Masks) (K x : ℕ) → x < 80
    → (ltb x K && eqb (get_or (owners_in m) x 0) 0) ≡ has_slot (own_low 18446744073709551615 (taken m.low 32) K)
    (own_high 65535 (taken m.high 32) K) x
unfolding own_low own_high
frees m K x l =
    let t = taken m.low 32 in
    let u = taken m.high 32 in
    let a = own_low 18446744073709551615 t K in
    let b = own_high 65535 u K in
    ap (λ (y : Bool). ltb x K && y) (free-slot m x l)
    ∙ by-test (λ (_ : ℕ). (ltb x K && not (has_slot t u x)) ≡ has_slot a b x) (ltb x 64) 0 0
    (λ e.
    let h = ltb-true x 64 e in
    ap (λ (y : Bool). ltb x K && not y) (hit (ltb x 64) (has_bit t x) (has_bit u (x - 64)) e)
    ∙ sym (hit (ltb x 64) (has_bit a x) (has_bit b (x - 64)) e
    ∙ has_bit-word_of 64 (λ k. ltb k K && (has_bit 18446744073709551615 k && not (has_bit t k))) x h
    ∙ ap (λ (y : Bool). ltb x K && (y && not (has_bit t x))) (ones-64 x h)))
    (λ e.
    let h = ltb-false x 64 e in
    let g : x - 64 < 16 = omega (arith, h, l) in
    let f : 64 + (x - 64) ≡ x = omega (arith, h) in
    ap (λ (y : Bool). ltb x K && not y) (skip (ltb x 64) (has_bit t x) (has_bit u (x - 64)) _ e refl)
    ∙ sym (skip (ltb x 64) (has_bit a x) (has_bit b (x - 64)) _ e refl
    ∙ has_bit-word_of 16 (λ k. ltb (64 + k) K && (has_bit 65535 k && not (has_bit u k))) (x - 64) g
    ∙ ap (λ (y : Bool). ltb (64 + (x - 64)) K && (y && not (has_bit u (x - 64)))) (ones-16 (x - 64) g)
    ∙ ap (λ (y : ℕ). ltb y K && not (has_bit u (x - 64))) f))
