-- Laws of the bits of a word, and of a word made of its bits.
-- Assumes nothing.
use mathlib.Core.Path.{◌≡◌, refl, sym, ap, ap₂, ◌∙◌, subst}
use mathlib.Core.Bool.{Bool, true, false, ◌||◌, or_assoc}
use mathlib.Core.Logic.{⊎_elim}
use Prim.Native.Nat.{ℕ, zero, suc, ◌+◌, ◌-◌, ◌*◌, ◌/◌, ◌%◌, ◌^◌, ◌≤◌, ◌<◌, min}
use native.Mathlib.Nat.{add-zero, mod-lt, zero-lt-suc, one-mul, zero-mul, zero-add, div-eq_of_lt, pow-suc, eq-or-lt_of_le, le_of_suc-le-suc}
use native.Mathlib.Nat.{lt_of_lt_of_le}
use native.Mathlib.Omega.{arith}
use native.Mathlib.Numerals.{add-one}
use lib.Dec.{eqb, ltb, lit<}
use borrow.Author.Tests.{eq-eqb, ne_eqb, eqb-true, ltb-true, ltb-false}
use lib.Pow.{pow_pos, pow_mono, ones_lt, high, low, shr_lt, split, field, mod-mod-pow}
use lib.Arith.{lt-one}
use lib.Bits
use lib.Bits.{or_lt, or_shr, or_mod, or_shifted_r}
use lib.Count.{ones, ones_in, ones_cat}
use Rattle.words.specs.Bits.{has_bit, is_in, is_inside, all_of, digit, word_of, how_many}
use Rattle.words.proofs.Tests.{both, and_left, and_right, or-front}

-- a number below 2 is 0 or 1
two_cases : (P : ℕ → Type 0) → P 0 → P 1 → (x : ℕ) → x < 2 → P x
two_cases P p q zero h = p
two_cases P p q (suc zero) h = q
two_cases P p q (suc (suc x)) h = absurd (omega (arith, h))

pub has_bit-or : (a b i : ℕ) → has_bit (Bits.bit_or a b) i ≡ (has_bit a i || has_bit b i)
has_bit-or a b i =
    ap (λ (x : ℕ). eqb (x % 2) 1) (or_shr a b i) ∙ ap (λ (x : ℕ). eqb x 1) (or_mod (a / 2 ^ i) (b / 2 ^ i) 1)
    ∙ two_cases (λ (x : ℕ). eqb (Bits.bit_or x (b / 2 ^ i % 2)) 1 ≡ (eqb x 1 || has_bit b i))
    refl
    (two_cases (λ (y : ℕ). eqb (Bits.bit_or 1 y) 1 ≡ true) refl refl (b / 2 ^ i % 2) (mod-lt _ (zero-lt-suc 1)))
    (a / 2 ^ i % 2)
    (mod-lt _ (zero-lt-suc 1))

top_lt : (b : Bool) (x m : ℕ) → x < m → digit b * m + x < m * 2
top_lt true x m h = rw one-mul (omega arith)
top_lt false x m h = rw zero-mul (omega arith)

-- a word made of n bits is below 2 ^ n
pub word_of-lt : (n : ℕ) (p : ℕ → Bool) → word_of n p < 2 ^ n
unfolding word_of
word_of-lt zero p = lit< tt
word_of-lt (suc n) p =
    subst (λ (x : ℕ). digit (p n) * 2 ^ n + word_of n p < x) (sym (pow-suc 2 n)) (top_lt (p n) (word_of n p) (2 ^ n) (word_of-lt n p))

-- one turn of a loop that builds a word from its lowest bit
pub word_more : (n : ℕ) (p : ℕ → Bool) → p n ≡ true → Bits.bit_or (word_of n p) (2 ^ n) ≡ word_of (n + 1) p
unfolding word_of
word_more n p e =
    rw (add-one, e) (ap (Bits.bit_or (word_of n p)) (sym (one-mul (2 ^ n))) ∙ or_shifted_r 1 n (word_of n p) (word_of-lt n p))

pub word_same : (n : ℕ) (p : ℕ → Bool) → p n ≡ false → word_of n p ≡ word_of (n + 1) p
unfolding word_of
word_same n p e = rw (add-one, e) (sym (ap (λ (x : ℕ). x + word_of n p) (zero-mul (2 ^ n)) ∙ zero-add (word_of n p)))

-- a word's low bits
pub has_bit-mod : (w n i : ℕ) → i < n → has_bit (w % 2 ^ n) i ≡ has_bit w i
has_bit-mod w n i h =
    ap (λ (x : ℕ). eqb (x % 2) 1) (subst (λ (m : ℕ). w % 2 ^ m / 2 ^ i ≡ w / 2 ^ i % 2 ^ (n - i)) (omega arith) (field w (n - i) i))
    ∙ ap (λ (x : ℕ). eqb x 1) (subst (λ (m : ℕ). w / 2 ^ i % 2 ^ m % 2 ^ 1 ≡ w / 2 ^ i % 2 ^ 1) (omega arith)
    (mod-mod-pow (w / 2 ^ i) (n - i - 1) 1))

pub how_many-ext : (n : ℕ) (p q : ℕ → Bool) → ((i : ℕ) → i < n → p i ≡ q i) → how_many n p ≡ how_many n q
unfolding how_many
how_many-ext zero p q h = refl
how_many-ext (suc n) p q h =
    ap₂ (λ (b : Bool) (x : ℕ). digit b + x) (h n (omega arith)) (how_many-ext n p q (λ i l. h i (omega arith)))

-- count_ones is the number of bits that are set below n
pub ones-bits : (n w : ℕ) → w < 2 ^ n → ones w ≡ how_many n (has_bit w)
unfolding how_many ones ones_in
ones-bits zero w h = ap ones (lt-one h)
ones-bits (suc n) w h =
    ap ones (sym (split w n)) ∙ ones_cat n (w / 2 ^ n) (w % 2 ^ n) (mod-lt _ (pow_pos n))
    ∙ ap₂ ◌+◌
    (two_cases (λ (x : ℕ). ones x ≡ digit (eqb (x % 2) 1)) refl refl (w / 2 ^ n)
    (shr_lt {n = w} 1 n (subst (λ (m : ℕ). w < 2 ^ m) (omega arith) h)))
    (ones-bits n (w % 2 ^ n) (mod-lt _ (pow_pos n)) ∙ how_many-ext n (has_bit (w % 2 ^ n)) (has_bit w) (λ i l. has_bit-mod w n i l))

-- a word below 2 ^ n has no bit from n up
pub has_bit-out : (w n i : ℕ) → w < 2 ^ n → n ≤ i → has_bit w i ≡ false
has_bit-out w n i h k = ap (λ (x : ℕ). eqb (x % 2) 1) (div-eq_of_lt (lt_of_lt_of_le h (pow_mono k)))

digit-bit : (x : ℕ) → x < 2 → digit (eqb (x % 2) 1) ≡ x
digit-bit = two_cases (λ (x : ℕ). digit (eqb (x % 2) 1) ≡ x) refl refl

pub word_of-ext : (n : ℕ) (p q : ℕ → Bool) → ((i : ℕ) → i < n → p i ≡ q i) → word_of n p ≡ word_of n q
unfolding word_of
word_of-ext zero p q h = refl
word_of-ext (suc n) p q h =
    ap₂ (λ (b : Bool) (x : ℕ). digit b * 2 ^ n + x) (h n (omega arith)) (word_of-ext n p q (λ i l. h i (omega arith)))

-- a word is made of its bits
pub word_of-bits : (n w : ℕ) → w < 2 ^ n → word_of n (has_bit w) ≡ w
unfolding word_of
word_of-bits zero w h = sym (lt-one h)
word_of-bits (suc n) w h =
    ap₂ (λ (d x : ℕ). d * 2 ^ n + x)
    (digit-bit (w / 2 ^ n) (shr_lt {n = w} 1 n (subst (λ (m : ℕ). w < 2 ^ m) (omega arith) h)))
    (sym (word_of-ext n (has_bit (w % 2 ^ n)) (has_bit w) (λ i l. has_bit-mod w n i l)) ∙ word_of-bits n (w % 2 ^ n) (mod-lt _ (pow_pos n)))
    ∙ split w n

-- two words with the same bits are one
pub same_word : (n a b : ℕ) → a < 2 ^ n → b < 2 ^ n → ((i : ℕ) → i < n → has_bit a i ≡ has_bit b i) → a ≡ b
same_word n a b ha hb h = sym (word_of-bits n a ha) ∙ word_of-ext n (has_bit a) (has_bit b) h ∙ word_of-bits n b hb

digit-test : (b : Bool) → eqb (digit b % 2) 1 ≡ b
digit-test true = refl
digit-test false = refl

-- the bits of a word made of bits
pub has_bit-word_of : (n : ℕ) (p : ℕ → Bool) (i : ℕ) → i < n → has_bit (word_of n p) i ≡ p i
unfolding word_of
has_bit-word_of zero p i h = absurd (omega (arith, h))
has_bit-word_of (suc n) p i h =
    ⊎_elim
    (λ e. ap (has_bit (digit (p n) * 2 ^ n + word_of n p)) e ∙ ap (λ (x : ℕ). eqb (x % 2) 1) (high (digit (p n)) n (word_of-lt n p))
    ∙ digit-test (p n) ∙ ap p (sym e))
    (λ l. sym (has_bit-mod (digit (p n) * 2 ^ n + word_of n p) n i l) ∙ ap (λ (x : ℕ). has_bit x i) (low (digit (p n)) n (word_of-lt n p))
    ∙ has_bit-word_of n p i l)
    (eq-or-lt_of_le (le_of_suc-le-suc h))

-- nothing is left of a word below 2 ^ n
pub below-shift : (w n : ℕ) → eqb (w / 2 ^ n) 0 ≡ ltb w (2 ^ n)
below-shift w n = go (ltb w (2 ^ n)) refl
  where
    go : (t : Bool) → ltb w (2 ^ n) ≡ t → eqb (w / 2 ^ n) 0 ≡ t
    go true e = eq-eqb (w / 2 ^ n) 0 (let k : w < 2 ^ n = ltb-true w (2 ^ n) e in div-eq_of_lt {n = w} {m = 2 ^ n} k)
    go false e = ne_eqb (w / 2 ^ n) 0 (λ z.
        let m : w % 2 ^ n ≡ w = sym (ap (λ (x : ℕ). x * 2 ^ n + w % 2 ^ n) z ∙ ap (λ (x : ℕ). x + w % 2 ^ n) (zero-mul (2 ^ n))
        ∙ zero-add (w % 2 ^ n)) ∙ split w n in
        let l : w % 2 ^ n < 2 ^ n = mod-lt w (pow_pos n) in
        let k : 2 ^ n ≤ w = ltb-false w (2 ^ n) e in
        omega arith)

-- a word without bits from n up is below 2 ^ n
pub word_of-short : (n m : ℕ) (p : ℕ → Bool) → ((i : ℕ) → n ≤ i → i < n + m → p i ≡ false) → word_of (n + m) p ≡ word_of n p
word_of-short n zero p h = ap (λ (k : ℕ). word_of k p) (add-zero n)
word_of-short n (suc m) p h =
    let e : n + suc m ≡ n + m + 1 = omega arith in
    ap (λ (k : ℕ). word_of k p) e ∙ sym (word_same (n + m) p (h (n + m) (omega arith) (omega arith)))
    ∙ word_of-short n m p (λ i a b. h i a (omega arith))

pub word_of-below : (n m : ℕ) (p : ℕ → Bool) → n ≤ m → ((i : ℕ) → n ≤ i → i < m → p i ≡ false) → word_of m p < 2 ^ n
word_of-below n m p l h =
    let e : n + (m - n) ≡ m = omega arith in
    subst (λ (w : ℕ). w < 2 ^ n) (sym (ap (λ (k : ℕ). word_of k p) (sym e) ∙ word_of-short n (m - n) p (λ i a b. h i a (omega arith))))
    (word_of-lt n p)

-- a within b stays within b and c
pub inside-or : (a b c : ℕ) → a < 2 ^ 32 → b < 2 ^ 32 → c < 2 ^ 32 → Bits.bit_or a b ≡ b → Bits.bit_or a (Bits.bit_or b c) ≡ Bits.bit_or b c
inside-or a b c ha hb hc e =
    same_word 32 _ _ (or_lt 32 a (Bits.bit_or b c) ha (or_lt 32 b c hb hc)) (or_lt 32 b c hb hc)
    (λ i l. has_bit-or a (Bits.bit_or b c) i ∙ ap (λ (t : Bool). has_bit a i || t) (has_bit-or b c i)
    ∙ sym (or_assoc (has_bit a i) (has_bit b i) (has_bit c i)) ∙ ap (λ (t : Bool). t || has_bit c i)
    (sym (has_bit-or a b i) ∙ ap (λ (w : ℕ). has_bit w i) e) ∙ sym (has_bit-or b c i))

-- a word of no bit, and of one
pub word_of-none : (n : ℕ) (p : ℕ → Bool) → ((i : ℕ) → i < n → p i ≡ false) → word_of n p ≡ 0
unfolding word_of
word_of-none n p h = ap (λ (k : ℕ). word_of k p) (sym (zero-add n)) ∙ word_of-short 0 n p (λ i a b. h i (omega arith))

one_bit : (k : ℕ) → word_of (k + 1) (λ i. eqb i k) ≡ 2 ^ k
unfolding word_of
one_bit k =
    rw add-one
    (ap₂ (λ (b : Bool) (x : ℕ). digit b * 2 ^ k + x) (eq-eqb k k refl) (word_of-none k (λ i. eqb i k) (λ i l. ne_eqb i k (λ e. omega arith)))
    ∙ ap (λ (x : ℕ). x + 0) (one-mul (2 ^ k)) ∙ add-zero (2 ^ k))

pub has_bit-power : (k i : ℕ) → k < 32 → i < 32 → has_bit (2 ^ k) i ≡ eqb i k
has_bit-power k i h l =
    let e : k + 1 + (31 - k) ≡ 32 = omega arith in
    ap (λ (w : ℕ). has_bit w i)
    (sym (ap (λ (n : ℕ). word_of n (λ i. eqb i k)) (sym e) ∙ word_of-short (k + 1) (31 - k) (λ i. eqb i k)
    (λ i a b. ne_eqb i k (λ e. omega arith)) ∙ one_bit k))
    ∙ has_bit-word_of 32 (λ i. eqb i k) i l

-- all of n nodes are no others
pub all_of-lt : (n : ℕ) → all_of n < 2 ^ n
all_of-lt n = lt_of_lt_of_le (ones_lt (min n 32)) (let h : min n 32 ≤ n = omega arith in pow_mono h)

-- a node of a set is in each set that the set is inside of
pub inside-in : (a b j : ℕ) → is_inside a b ≡ true → is_in a j ≡ true → is_in b j ≡ true
inside-in a b j h k =
    both (and_left (ltb 0 j) (has_bit a (j - 1)) k)
    (sym (ap (λ (w : ℕ). has_bit w (j - 1)) (eqb-true (Bits.bit_or a b) b h)) ∙ has_bit-or a b (j - 1)
    ∙ or-front (has_bit a (j - 1)) (has_bit b (j - 1)) (and_right (ltb 0 j) (has_bit a (j - 1)) k))
