-- Bits of words that share some, and the lowest bit of a word.
-- Assumes nothing.
use mathlib.Core.Path.{◌≡◌, refl, sym, ap, ap₂, ◌∙◌, subst}
use mathlib.Core.Bool.{Bool, false, ◌&&◌}
use Prim.Native.Nat.{ℕ, zero, suc, min, max, ◌+◌, ◌*◌, ◌/◌, ◌%◌, ◌^◌, ◌<◌}
use native.Mathlib.Nat.{mod-lt, zero-lt-suc, div-one, le_of_suc-le-suc, not-suc-le-zero}
use native.Mathlib.Omega.{arith}
use native.Mathlib.Numerals.{add-one, one-add}
use lib.Arith.{bin_ind, lt-one}
use lib.Dec.{eqb}
use lib.Bits
use lib.Bits.{and_step, or_step, and_shr, and_mod, or_shr, or_mod, or_add_and, and_le_r, and_lt}
use lib.Count.{count_trailing_zeros, under}
use lib.Pow.{shr-shr, shr_lt, pow_pos}
use borrow.Author.Tests.{ne_eqb}
use Rattle.words.specs.Bits.{has_bit}
use Rattle.words.proofs.Laws.{same_word, has_bit-out}

-- digits below 2, one by one
two_digits : (P : ℕ → ℕ → Type 0) → P 0 0 → P 0 1 → P 1 0 → P 1 1 → (d e : ℕ) → d < 2 → e < 2 → P d e
two_digits P a b c f zero zero h k = a
two_digits P a b c f zero (suc zero) h k = b
two_digits P a b c f zero (suc (suc e)) h k = absurd (omega (arith, k))
two_digits P a b c f (suc zero) zero h k = c
two_digits P a b c f (suc zero) (suc zero) h k = f
two_digits P a b c f (suc zero) (suc (suc e)) h k = absurd (omega (arith, k))
two_digits P a b c f (suc (suc d)) e h k = absurd (omega (arith, h))

and-test : (d e : ℕ) → d < 2 → e < 2 → eqb (Bits.bit_and d e) 1 ≡ (eqb d 1 && eqb e 1)
and-test = two_digits (λ d e. eqb (Bits.bit_and d e) 1 ≡ (eqb d 1 && eqb e 1)) refl refl refl refl

and-min : (d e : ℕ) → d < 2 → e < 2 → Bits.bit_and d e ≡ min d e
and-min = two_digits (λ d e. Bits.bit_and d e ≡ min d e) refl refl refl refl

or-max : (d e : ℕ) → d < 2 → e < 2 → Bits.bit_or d e ≡ max d e
or-max = two_digits (λ d e. Bits.bit_or d e ≡ max d e) refl refl refl refl

digit_lt : (x : ℕ) → x % 2 < 2
digit_lt x = mod-lt x (zero-lt-suc 1)

-- the bits that two words share
pub has_bit-and : (a b i : ℕ) → has_bit (Bits.bit_and a b) i ≡ (has_bit a i && has_bit b i)
has_bit-and a b i =
    ap (λ (x : ℕ). eqb (x % 2) 1) (and_shr a b i) ∙ ap (λ (x : ℕ). eqb x 1) (and_mod (a / 2 ^ i) (b / 2 ^ i) 1)
    ∙ and-test (a / 2 ^ i % 2) (b / 2 ^ i % 2) (digit_lt (a / 2 ^ i)) (digit_lt (b / 2 ^ i))

-- 0 has no bit
pub no_bits : (i : ℕ) → has_bit 0 i ≡ false
no_bits i = has_bit-out 0 0 i (omega arith) (omega arith)

-- words that share no bit, and what their bits are then
pub share-none : (n a b : ℕ) → a < 2 ^ n → b < 2 ^ n → ((i : ℕ) → i < n → (has_bit a i && has_bit b i) ≡ false) → Bits.bit_and a b ≡ 0
share-none n a b ha hb h = same_word n (Bits.bit_and a b) 0 (and_lt n a b ha hb) (pow_pos n)
    (λ i l. has_bit-and a b i ∙ h i l ∙ sym (no_bits i))

pub not-shared : (a b i : ℕ) → Bits.bit_and a b ≡ 0 → (has_bit a i && has_bit b i) ≡ false
not-shared a b i e = sym (has_bit-and a b i) ∙ ap (λ (w : ℕ). has_bit w i) e ∙ no_bits i

-- a word shares no bit with two together exactly if it shares none with either
min-max : (d e f : ℕ) → d < 2 → e < 2 → f < 2 → min (Bits.bit_or d e) f ≡ max (Bits.bit_and d f) (Bits.bit_and e f)
min-max d e f h k l = omega (arith, or-max d e h k, and-min d f h l, and-min e f k l)

and-or : (a b w : ℕ) → Bits.bit_and (Bits.bit_or a b) w ≡ Bits.bit_or (Bits.bit_and a w) (Bits.bit_and b w)
and-or a =
    bin_ind (λ (n : ℕ). (b w : ℕ) → Bits.bit_and (Bits.bit_or n b) w ≡ Bits.bit_or (Bits.bit_and n w) (Bits.bit_and b w)) (λ b w. refl)
    (λ n ih b w.
    and_step (Bits.bit_or n b) w
    ∙ ap₂ (λ (x y : ℕ). Bits.bit_and x (w / 2) * 2 + min y (w % 2)) (or_shr n b 1) (or_mod n b 1)
    ∙ ap₂ (λ (x y : ℕ). x * 2 + y) (ih (b / 2) (w / 2)) (min-max (n % 2) (b % 2) (w % 2) (digit_lt n) (digit_lt b) (digit_lt w))
    ∙ sym
    (or_step (Bits.bit_and n w) (Bits.bit_and b w)
    ∙ ap₂ (λ (x y : ℕ). Bits.bit_or x y * 2 + max (Bits.bit_and n w % 2) (Bits.bit_and b w % 2)) (and_shr n w 1) (and_shr b w 1)
    ∙ ap₂ (λ (x y : ℕ). Bits.bit_or (Bits.bit_and (n / 2) (w / 2)) (Bits.bit_and (b / 2) (w / 2)) * 2 + max x y) (and_mod n w 1)
    (and_mod b w 1))) a

or-zero : (a b : ℕ) → eqb (Bits.bit_or a b) 0 ≡ (eqb a 0 && eqb b 0)
or-zero zero b = refl
or-zero (suc a) b =
    ne_eqb (Bits.bit_or (suc a) b) 0 (λ e. omega (arith, e, or_add_and (suc a) b, and_le_r (suc a) b))
    ∙ sym (ap (λ (t : Bool). t && eqb b 0) (ne_eqb (suc a) 0 (λ e. omega (arith, e))))

pub shares-with : (a b w : ℕ) → eqb (Bits.bit_and (Bits.bit_or a b) w) 0 ≡ (eqb (Bits.bit_and a w) 0 && eqb (Bits.bit_and b w) 0)
shares-with a b w = ap (λ (x : ℕ). eqb x 0) (and-or a b w) ∙ or-zero (Bits.bit_and a w) (Bits.bit_and b w)

-- below the lowest bit that is set no bit is, and it is set itself
halved : (n i : ℕ) → n / 2 / 2 ^ i ≡ n / 2 ^ suc i
halved n i = shr-shr n 1 i ∙ ap (λ (x : ℕ). n / 2 ^ x) (one-add i)

pub zeros-below : (k n i : ℕ) → i < count_trailing_zeros k n → n / 2 ^ i % 2 ≡ 0
unfolding count_trailing_zeros
zeros-below zero n i h = absurd (omega (arith, h))
zeros-below (suc k) n i h = go (n % 2) i refl h (zeros-below k (n / 2))
  where
    go : (d i : ℕ) → n % 2 ≡ d → i < under d (count_trailing_zeros k (n / 2)) → ((i : ℕ) → i < count_trailing_zeros k (n / 2) → n / 2 / 2 ^ i % 2 ≡ 0)
        → n / 2 ^ i % 2 ≡ 0
    go zero zero e h rest = ap (λ (x : ℕ). x % 2) (div-one n) ∙ e
    go zero (suc i) e h rest = ap (λ (x : ℕ). x % 2) (sym (halved n i)) ∙ rest i (le_of_suc-le-suc h)
    go (suc d) i e h rest = absurd (not-suc-le-zero h)

pub lowest-bit : (k n : ℕ) → 0 < n → n < 2 ^ k → n / 2 ^ count_trailing_zeros k n % 2 ≡ 1
unfolding count_trailing_zeros
lowest-bit zero n h l = absurd (let z = lt-one l in omega (arith, h, z))
lowest-bit (suc k) n h l = go (n % 2) refl
    (λ p. lowest-bit k (n / 2) p (shr_lt {n = n} k 1 (subst (λ (m : ℕ). n < 2 ^ m) (sym (add-one k)) l)))
  where
    go : (d : ℕ) → n % 2 ≡ d → (0 < n / 2 → n / 2 / 2 ^ count_trailing_zeros k (n / 2) % 2 ≡ 1) → n / 2 ^ under d (count_trailing_zeros k (n / 2)) % 2 ≡ 1
    go zero e rest = ap (λ (x : ℕ). x % 2) (sym (halved n (count_trailing_zeros k (n / 2)))) ∙ rest (omega (arith, h, e))
    go (suc zero) e rest = ap (λ (x : ℕ). x % 2) (div-one n) ∙ e
    go (suc (suc d)) e rest = absurd (omega (arith, digit_lt n, e))
