-- Sets of nodes as words: membership, union, and what counting says of two sets.
-- Assumes nothing.
use mathlib.Core.Path.{◌≡◌, refl, sym, ◌∙◌}
use mathlib.Core.Bool.{Bool, true, false, ◌||◌}
use mathlib.Core.Logic.{◌⊎◌, inl, inr}
use Prim.Native.Nat.{ℕ, zero, suc, ◌+◌, ◌-◌, ◌^◌, ◌≤◌, ◌<◌}
use native.Mathlib.Omega.{arith}
use native.Mathlib.Decide.{dec_lt}
use borrow.Author.Tests.{eqb-true, eq-eqb, lt-ltb}
use lib.Dec.{ltb}
use lib.Bits.{bit_or, or_lt}
use lib.Pow.{pow-lt}
use Rattle.words.specs.Bits.{has_bit, with_bit, is_in, is_inside, size, how_many, digit}
use Rattle.words.proofs.Counts.{how_many-meet, how_many-none, how_many-suc}
use Rattle.words.proofs.Tests.{hit, met?, clash, or_cases, or-front, or-back, and_right}
use Rattle.words.proofs.Laws.{has_bit-or, has_bit-out, has_bit-power, ones-bits, same_word}
use Rattle.membership.specs.counters.Counters.{with_self}
use Rattle.membership.proofs.counters.Laws.{with-self}
use Rattle.histories.proofs.Tests.{either}

-- the node at index i is in w: a record, so that w and i are seen by implicit arguments
pub record In (w i : ℕ) : Type 0 where
  pub is : has_bit w i ≡ true

-- by the node's number
pub in-number : (w j : ℕ) → is_in w j ≡ true → In w (j - 1)
in-number w j e = record { is = and_right (ltb 0 j) (has_bit w (j - 1)) e }

pub in? : (w i : ℕ) → In w i ⊎ (In w i → ⊥)
in? w i = either (met? (has_bit w i)) (λ e. inl (record { is = e })) (λ e. inr (λ h. clash (has_bit w i) h.is e))

pub in-or : (a b : ℕ) {i : ℕ} → In (bit_or a b) i → In a i ⊎ In b i
in-or a b {i} h = either (or_cases (has_bit a i) (has_bit b i) (sym (has_bit-or a b i) ∙ h.is)) (λ e. inl (record {
  is = e;
})) (λ e. inr (record { is = e }))

pub in-or-l : (a b : ℕ) {i : ℕ} → In a i → In (bit_or a b) i
in-or-l a b {i} h = record { is = has_bit-or a b i ∙ or-front (has_bit a i) (has_bit b i) h.is }

pub in-or-r : (a b : ℕ) {i : ℕ} → In b i → In (bit_or a b) i
in-or-r a b {i} h = record { is = has_bit-or a b i ∙ or-back (has_bit a i) (has_bit b i) h.is }

-- a set within n nodes
pub in-lt : (n w i : ℕ) → w < 2 ^ n → In w i → i < n
in-lt n w i h p = go (dec_lt i n)
  where
    go : Dec (i < n) → i < n
    go (yes l) = l
    go (no l) = clash (has_bit w i) p.is (has_bit-out w n i h (omega arith))

pub in-none : (i : ℕ) → In 0 i → ⊥
in-none i p = let l : i < 0 = in-lt 0 0 i (omega arith) p in omega arith

-- a set within n nodes and one of the n: within the n too, of the set's nodes and that one alone
pub in-self : (n w i : ℕ) → n ≤ 32 → i < n → w < 2 ^ n → (with_self w (suc i) < 2 ^ n)
    × ((j : ℕ) → In (with_self w (suc i)) j → In w j ⊎ (j ≡ i))
in-self n w i small l h = (
  rw e (or_lt n w (2 ^ i) h p),
  λ j k. either (in-or w (2 ^ i) (rw e at k)) inl
      (λ m. inr (eqb-true j i (sym (has_bit-power i j (omega arith) (omega (arith, in-lt n (2 ^ i) j p m))) ∙ m.is))),
)
  where
    e : with_self w (suc i) ≡ bit_or w (2 ^ i)
    e = with-self w i (omega arith)

    p : 2 ^ i < 2 ^ n
    p = pow-lt l

-- two sets within n nodes that count more than n together share a node
pub meet : (n a b : ℕ) → a < 2 ^ n → b < 2 ^ n → n < size a + size b → (j : ℕ) × In a j × In b j
meet n a b ha hb h =
    let m = how_many-meet n (has_bit a) (has_bit b) (omega (arith, ones-bits n a ha, ones-bits n b hb)) in
    (m.0, record { is = m.1 }, record { is = m.2 })

-- two sets without a common node count at most n together
pub apart : (n a b : ℕ) → a < 2 ^ n → b < 2 ^ n → ((j : ℕ) → In a j → In b j → ⊥) → size a + size b ≤ n
apart n a b ha hb d = go (dec_lt n (size a + size b))
  where
    go : Dec (n < size a + size b) → size a + size b ≤ n
    go (yes p) = let m = meet n a b ha hb p in absurd (d m.0 m.1 m.2)
    go (no p) = omega arith

-- two sets with the same nodes are one
pub same_set : (n a b : ℕ) → a < 2 ^ n → b < 2 ^ n → ((j : ℕ) → In a j → In b j) → ((j : ℕ) → In b j → In a j) → a ≡ b
same_set n a b ha hb f g = same_word n a b ha hb (λ i l. go i (has_bit a i) (has_bit b i) refl refl)
  where
    go : (i : ℕ) (s t : Bool) → has_bit a i ≡ s → has_bit b i ≡ t → s ≡ t
    go i true t p q = sym (f i (record { is = p })).is ∙ q
    go i false true p q = sym p ∙ (g i (record { is = q })).is
    go i false false p q = refl

-- a set within another
pub inside-if : (a b : ℕ) → a < 2 ^ 32 → b < 2 ^ 32 → ((i : ℕ) → In a i → In b i) → is_inside a b ≡ true
inside-if a b ha hb f = eq-eqb _ _ (same_word 32 (bit_or a b) b (or_lt 32 a b ha hb) hb (λ i l. has_bit-or a b i ∙ go i (has_bit a i) refl))
  where
    go : (i : ℕ) (t : Bool) → has_bit a i ≡ t → (t || has_bit b i) ≡ has_bit b i
    go i true e = sym (f i (record { is = e })).is
    go i false e = refl

pub inside-at : (a b i : ℕ) → is_inside a b ≡ true → In a i → In b i
inside-at a b i e h = rw (eqb-true (bit_or a b) b e) at (in-or-l a b h)

-- counts less
fewer : (n : ℕ) (p t : ℕ → Bool) → ((i : ℕ) → i < n → p i ≡ true → t i ≡ true) → how_many n p ≤ how_many n t
fewer zero p t f = omega (arith, how_many-none p)
fewer (suc n) p t f =
    let r = fewer n p t (λ i l. f i (omega arith)) in
    omega (arith, how_many-suc p n, how_many-suc t n, one (p n) (t n) (f n (omega arith)))
  where
    one : (x y : Bool) → (x ≡ true → y ≡ true) → digit x ≤ digit y
    one true true h = omega arith
    one true false h = clash false (h refl) refl
    one false y h = omega arith

pub size-le : (n a b : ℕ) → a < 2 ^ n → b < 2 ^ n → ((i : ℕ) → In a i → In b i) → size a ≤ size b
size-le n a b ha hb f = omega (
  arith,
  ones-bits n a ha,
  ones-bits n b hb,
  fewer n (has_bit a) (has_bit b) (λ i l e. (f i (record {
    is = e;
  })).is),
)

-- a set with one node more
pub in-with : (w i k : ℕ) → i < 32 → k < 32 → In (with_bit w i) k → In w k ⊎ (k ≡ i)
in-with w i k l h e =
    let x : with_bit w i ≡ bit_or w (2 ^ i) = hit (ltb i 32) _ _ (lt-ltb i 32 l) in
    either (in-or w (2 ^ i) (rw x at e)) inl (λ m. inr (eqb-true k i (sym (has_bit-power i k l h) ∙ m.is)))
