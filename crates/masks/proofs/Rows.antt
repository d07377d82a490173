-- Masks as bytes: what was written is read back, and what was read is written again byte by byte.
-- Assumes nothing.
use mathlib.Core.Path.{◌≡◌, refl, sym, ap, ap₂, ◌∙◌, subst}
use mathlib.Core.List.{List, ◌∷◌, ◌++◌, append_assoc}
use Prim.Native.Nat.{ℕ, zero, suc, ◌+◌, ◌-◌, ◌*◌, ◌/◌, ◌%◌, ◌^◌, ◌≤◌, ◌<◌}
use native.Mathlib.Nat.{add_assoc, div-add-mod'}
use native.Mathlib.Numerals.{add-one}
use native.Mathlib.Omega.{arith}
use lib.Dec.{ltb}
use lib.ListN.{length, get_or, drop, length-append, length-take, get_or-append, get_or-eq_default}
use lib.Seq.{get_or-take, get_or-drop, drop_at, drop-drop, ext_get_or}
use borrow.Author.Tests.{ltb-true, ltb-false}
use Rattle.words.proofs.Tests.{same_or_not, by-test}
use mathlib.Core.Bool.{true, false}
use Rattle.lists.specs.All.{tab, bounded}
use Rattle.lists.proofs.Bounded.{bounded-over, bounded-make, zeros-bounded}
use Rattle.lists.specs.Bytes.{word32, bytes32, written, Tried, span}
use Rattle.lists.proofs.Laws.{length-tab, get_d-tab, tab-ext, word_bytes, length-written}
use Rattle.lists.proofs.Chain.{put, tried, written-more}
use Rattle.masks.specs.Slots.{Masks}
use Rattle.masks.specs.Slots.{low_of, high_of, count_of, owns, masks_of, no_owners}
use Rattle.words.specs.Bits.{word_of, how_many}
use Rattle.words.proofs.Laws.{word_of-none}
use Rattle.masks.proofs.Owners.{Sized}
use Rattle.masks.proofs.Turns.{none-owns, how_many-zero}
use Rattle.masks.specs.Bytes.{word64, bytes64, word16, bytes16, rows, masks_size, at_high, at_held, masks_bytes, masks_in}
use Rattle.masks.proofs.Parts.{Bytes, byte-then, word-then, list-then}

-- Rows of m bytes each

module _ (f : ℕ → List ℕ) (m : ℕ) (long : (i : ℕ) → length (f i) ≡ m) where
  pub length-rows : (n : ℕ) → length (rows n f) ≡ m * n
  unfolding rows
  length-rows zero = omega arith
  length-rows (suc n) = let e : length (rows n f ++ f n) ≡ length (rows n f) + length (f n) = length-append (rows n f) (f n) in omega
      (arith, e, length-rows n, long n)

  -- the rows so far, written at a place
  pub length_part : (l : List ℕ) (at i : ℕ) → at + m * i ≤ length l → length (written l at (rows i f)) ≡ length l
  length_part l at i h = length-written l (rows i f) at (omega (arith, h, length-rows i))

  -- a turn: one row more
  pub rows_more : {s r b : List ℕ} {j : ℕ} (l : List ℕ) (at i : ℕ) → s ≡ written l at (rows i f) → b ≡ f i → Tried s (at + m * i) b j r
      → at + m * i + m ≤ length l
      → r ≡ written l at (rows (i + 1) f)
  unfolding rows
  rows_more {s} {r} {b} {j} l at i e g t h =
      let k : length s ≡ length l = ap length e ∙ length_part l at i (omega arith) in
      let q : length b ≡ m = ap length g ∙ long i in
      let p : at + length (rows i f) ≡ at + m * i = ap (λ (x : ℕ). at + x) (length-rows i) in
      (put (omega (arith, q, k, h)) t).is
      ∙ ap₂ (λ (x y : List ℕ). written x (at + m * i) y) e g
      ∙ ap (λ (x : ℕ). written (written l at (rows i f)) x (f i)) (sym p)
      ∙ written-more l (rows i f) (f i) at (omega (arith, p, h))
      ∙ ap (λ (x : ℕ). written l at (rows x f)) (sym (add-one i))

  -- a row's bytes are found at its place
  pub row-byte : (n : ℕ) (a q : List ℕ) (at i j : ℕ) → drop at a ≡ rows n f ++ q → i < n → j < m
      → get_or a (at + m * i + j) 0 ≡ get_or (f i) j 0
  unfolding rows
  row-byte zero a q at i j e h k = absurd (omega (arith, h))
  row-byte (suc n) a q at i j e h k =
      let g : drop at a ≡ rows n f ++ (f n ++ q) = e ∙ append_assoc (rows n f) (f n) q in
      same_or_not i n
      (λ z.
      let w : at + m * i + j ≡ at + (m * n + j) = ap (λ (x : ℕ). at + m * x + j) z ∙ add_assoc at (m * n) j in
      ap (λ (x : ℕ). get_or a x 0) w
      ∙ sym (get_or-drop at a (m * n + j) 0)
      ∙ ap (λ (l : List ℕ). get_or l (m * n + j) 0) g
      ∙ sym (get_or-drop (m * n) (rows n f ++ (f n ++ q)) j 0)
      ∙ ap (λ (l : List ℕ). get_or l j 0) (drop_at (rows n f) (f n ++ q) (m * n) (length-rows n))
      ∙ get_or-append (f n) q 0 j (omega (arith, k, long n))
      ∙ ap (λ (x : ℕ). get_or (f x) j 0) (sym z))
      (λ z. row-byte n a (f n ++ q) at i j g (omega (arith, h, z)) k)

  -- rows that are what stands at their places, and what is behind them
  pub rows_then : (a : List ℕ) (at k : ℕ)
      → ((i : ℕ) (t : List ℕ) → i < k → t ≡ drop (at + m * i + m) a → at + m * i + m ≤ length a → f i ++ t ≡ drop (at + m * i) a)
      → (n : ℕ) (t : List ℕ) → n ≤ k → t ≡ drop (at + m * n) a → at + m * n ≤ length a → rows n f ++ t ≡ drop at a
  unfolding rows
  rows_then a at k one zero t l e h = let z : at + m * 0 ≡ at = omega arith in e ∙ ap (λ (x : ℕ). drop x a) z
  rows_then a at k one (suc n) t l e h =
      let z : at + m * suc n ≡ at + m * n + m = omega arith in
      append_assoc (rows n f) (f n) t
      ∙ rows_then a at k one n (f n ++ t) (omega arith) (one n t l (e ∙ ap (λ (x : ℕ). drop x a) z) (omega (arith, h))) (omega (arith, h))

-- Numbers of eight bytes and of two

-- bytes that are those of a number give this number
pub word64-back : (x : ℕ) → x < 2 ^ 64 → (l : List ℕ) (at : ℕ) → ((j : ℕ) → j < 8 → get_or l (at + j) 0 ≡ get_or (bytes64 x) j 0)
    → word64 l at ≡ x
word64-back x h l at e =
    let k : x < 18446744073709551616 = h in
    let y = x / 4294967296 in
    let z = x % 4294967296 in
    let g : (j i : ℕ) → i ≡ at + j → j < 8 → get_or l i 0 ≡ get_or (bytes64 x) j 0 = λ j i q r. ap (λ (n : ℕ). get_or l n 0) q ∙ e j r in
    let a : word32 l at ≡ y =
    (λ i. g 0 at (omega arith) (omega arith) i * 16777216 + e 1 (omega arith) i * 65536 + e 2 (omega arith) i * 256 + e 3 (omega arith) i)
    ∙ word_bytes y (omega arith) in
    let d : word32 l (at + 4) ≡ z =
    (λ i. e 4 (omega arith) i * 16777216 + g 5 (at + 4 + 1) (omega arith) (omega arith) i * 65536 + g 6 (at + 4 + 2) (omega arith)
    (omega arith) i * 256 + g 7 (at + 4 + 3) (omega arith) (omega arith) i) ∙ word_bytes z (omega arith) in
    ap₂ (λ (u v : ℕ). u * 4294967296 + v) a d ∙ omega (arith, div-add-mod' x 4294967296)

pub word16-back : (x : ℕ) → x < 2 ^ 16 → (l : List ℕ) (at : ℕ) → ((j : ℕ) → j < 2 → get_or l (at + j) 0 ≡ get_or (bytes16 x) j 0)
    → word16 l at ≡ x
word16-back x h l at e =
    let k : x < 65536 = h in
    let q : at ≡ at + 0 = omega arith in
    ap₂ (λ (u v : ℕ). u * 256 + v) (ap (λ (n : ℕ). get_or l n 0) q ∙ e 0 (omega arith)) (e 1 (omega arith))
    ∙ omega (arith, div-add-mod' x 256)

module _ (l : List ℕ) (b : Bytes l) where
  low_word : (at : ℕ) → at + 4 ≤ length l → word32 l at < 4294967296
  low_word at h = omega (arith, b at (omega arith), b (at + 1) (omega arith), b (at + 2) (omega arith), b (at + 3) (omega arith))

  pub fits-64 : (at : ℕ) → at + 8 ≤ length l → word64 l at < 2 ^ 64
  fits-64 at h = let z : word64 l at < 18446744073709551616 = omega (arith, low_word at (omega arith), low_word (at + 4) (omega arith)) in z

  pub fits_16 : (at : ℕ) → at + 2 ≤ length l → word16 l at < 2 ^ 16
  fits_16 at h = let z : word16 l at < 65536 = omega (arith, b at (omega arith), b (at + 1) (omega arith)) in z

  pub word64-then : (at to : ℕ) (t : List ℕ) → to ≤ length l → at + 8 ≡ to → t ≡ drop to l → bytes64 (word64 l at) ++ t ≡ drop at l
  word64-then at to t h e f =
      let u : word64 l at / 4294967296 ≡ word32 l at = omega (arith, low_word (at + 4) (omega arith)) in
      let v : word64 l at % 4294967296 ≡ word32 l (at + 4) = omega (arith, low_word (at + 4) (omega arith)) in
      ap₂ (λ (x y : ℕ). (bytes32 x ++ bytes32 y) ++ t) u v
      ∙ word-then l at (at + 4) (bytes32 (word32 l (at + 4)) ++ t) b (omega arith) refl (word-then l (at + 4) to t b h (omega arith) f)

  pub word16-then : (at to : ℕ) (t : List ℕ) → to ≤ length l → at + 2 ≡ to → t ≡ drop to l → bytes16 (word16 l at) ++ t ≡ drop at l
  word16-then at to t h e f =
      let u : word16 l at / 256 % 256 ≡ get_or l at 0 = omega (arith, b at (omega arith), b (at + 1) (omega arith)) in
      let v : word16 l at % 256 ≡ get_or l (at + 1) 0 = omega (arith, b at (omega arith), b (at + 1) (omega arith)) in
      ap₂ (λ (x y : ℕ). x ∷ y ∷ t) u v
      ∙ byte-then l at (at + 1) (get_or l (at + 1) 0 ∷ t) (omega arith) refl (byte-then l (at + 1) to t (omega arith) (omega arith) f)

-- Masks

pub length-masks : (m : Masks) → length (masks_bytes m) ≡ masks_size
unfolding masks_bytes
length-masks m =
    let f : ℕ → List ℕ = λ i. bytes64 (low_of m i) in
    let g : ℕ → List ℕ = λ i. bytes16 (high_of m i) in
    length-append (rows 32 f) (rows 32 g ++ tab 32 (count_of m))
    ∙ ap₂ ◌+◌ (length-rows f 8 (λ i. refl) 32)
    (length-append (rows 32 g) (tab 32 (count_of m)) ∙ ap₂ ◌+◌ (length-rows g 2 (λ i. refl) 32) (length-tab 32 (count_of m)))

-- what stands at a place, written again, with what is behind it
pub masks-then : (l : List ℕ) (at to : ℕ) (t : List ℕ) → Bytes l → to ≤ length l → at + masks_size ≡ to → t ≡ drop to l
    → masks_bytes (masks_in l at) ++ t ≡ drop at l
unfolding masks_bytes masks_in
masks-then l at to t b h e f =
    let m = masks_in l at in
    let lo : ℕ → List ℕ = λ i. bytes64 (low_of m i) in
    let hi : ℕ → List ℕ = λ i. bytes16 (high_of m i) in
    let c = tab 32 (count_of m) in
    let u : c ++ t ≡ drop (at + at_held) l =
    ap (λ (x : List ℕ). x ++ t)
    (tab-ext 32 (count_of m) (λ i. get_or l (at + at_held + i) 0) (λ i k. get_d-tab 0 32 (λ i. get_or l (at + at_held + i) 0) i k))
    ∙ list-then l 32 (at + at_held) to t h (omega (arith, e)) f in
    let y : at + at_held ≡ at + at_high + 64 = omega arith in
    let w : rows 32 hi ++ (c ++ t) ≡ drop (at + at_high) l =
    rows_then hi 2 (λ i. refl) l (at + at_high) 32
    (λ i t k g r. ap (λ (x : ℕ). bytes16 x ++ t) (get_d-tab 0 32 (λ i. word16 l (at + at_high + 2 * i)) i k)
    ∙ word16-then l b (at + at_high + 2 * i) (at + at_high + 2 * i + 2) t r refl g)
    32 (c ++ t) (omega arith) (u ∙ ap (λ (x : ℕ). drop x l) y) (omega (arith, e, h)) in
    append_assoc (rows 32 lo) (rows 32 hi ++ c) t ∙ ap (λ (x : List ℕ). rows 32 lo ++ x) (append_assoc (rows 32 hi) c t)
    ∙ rows_then lo 8 (λ i. refl) l at 32
    (λ i t k g r. ap (λ (x : ℕ). bytes64 x ++ t) (get_d-tab 0 32 (λ i. word64 l (at + 8 * i)) i k)
    ∙ word64-then l b (at + 8 * i) (at + 8 * i + 8) t r refl g)
    32 (rows 32 hi ++ (c ++ t)) (omega arith) w (omega (arith, e, h))

-- the words and the count of a node, as they were read
pub low_read : (l : List ℕ) (at i : ℕ) → i < 32 → word64 l (at + 8 * i) ≡ low_of (masks_in l at) i
unfolding masks_in
low_read l at i k = sym (get_d-tab 0 32 (λ i. word64 l (at + 8 * i)) i k)

pub high_read : (l : List ℕ) (at i : ℕ) → i < 32 → word16 l (at + at_high + 2 * i) ≡ high_of (masks_in l at) i
unfolding masks_in
high_read l at i k = sym (get_d-tab 0 32 (λ i. word16 l (at + at_high + 2 * i)) i k)

-- and behind the last node
pub low-past : (l : List ℕ) (at i : ℕ) → 32 ≤ i → low_of (masks_in l at) i ≡ 0
unfolding masks_in
low-past l at i h = let f : ℕ → ℕ = λ i. word64 l (at + 8 * i) in get_or-eq_default (tab 32 f) 0 {n = i}
    (omega (arith, h, length-tab 32 f))

pub high-past : (l : List ℕ) (at i : ℕ) → 32 ≤ i → high_of (masks_in l at) i ≡ 0
unfolding masks_in
high-past l at i h = let f : ℕ → ℕ = λ i. word16 l (at + at_high + 2 * i) in get_or-eq_default (tab 32 f) 0 {n = i}
    (omega (arith, h, length-tab 32 f))

pub count-read : (l : List ℕ) (at i : ℕ) → i < 32 → get_or l (at + at_held + i) 0 ≡ count_of (masks_in l at) i
unfolding masks_in
count-read l at i k = sym (get_d-tab 0 32 (λ i. get_or l (at + at_held + i) 0) i k)

-- bytes that are all 0, one by one
module _ (l : List ℕ) (at n : ℕ) where
  pub zero-at : bounded (span l at n) 0 0 ≡ true → (p : ℕ) → at ≤ p → p < at + n → get_or l p 0 ≡ 0
  zero-at z p a b =
      let e : at + (p - at) ≡ p = omega (arith, a) in
      ap (λ (x : ℕ). get_or l x 0) (sym e) ∙ sym (get_or-take n (drop at l) (p - at) 0 (omega (arith, a, b)) ∙ get_or-drop at l (p - at) 0)
      ∙ bounded-over (span l at n) 0 0 z (p - at) (omega arith)

  pub zeros-make : ((p : ℕ) → at ≤ p → p < at + n → get_or l p 0 ≡ 0) → bounded (span l at n) 0 0 ≡ true
  zeros-make f =
      bounded-make (span l at n) 0 0 (λ i h. absurd (omega (arith, h)))
      (λ i h.
      by-test (λ (_ : ℕ). get_or (span l at n) i 0 ≡ 0) (ltb i n) 0 0
      (λ u. let g = ltb-true i n u in get_or-take n (drop at l) i 0 g ∙ get_or-drop at l i 0 ∙ f (at + i) (omega arith) (omega (arith, g)))
      (λ u. get_or-eq_default (span l at n) 0 {n = i} (omega (arith, length-take n (drop at l), ltb-false i n u))))

-- bytes that are all 0 are the masks of no owners
module _ (l : List ℕ) (at : ℕ) (h : at + masks_size ≤ length l) (z : bounded (span l at masks_size) 0 0 ≡ true) where
  blank : (p : ℕ) → at ≤ p → p < at + masks_size → get_or l p 0 ≡ 0
  blank = zero-at l at masks_size z

  none : (i k : ℕ) → owns no_owners i k ≡ false
  none i k = none-owns no_owners (zeros-bounded 80 0 0) i k

  pub no-masks : masks_in l at ≡ masks_of no_owners
  unfolding masks_in masks_of
  no-masks =
      let p = tab-ext 32 (λ i. word64 l (at + 8 * i)) (λ i. word_of 64 (owns no_owners i)) (λ i k. omega (
        arith,
        word_of-none 64 (owns no_owners i) (λ m b. none i m),
        blank (at + 8 * i) (omega arith) (omega (arith, k)),
        blank (at + 8 * i + 1) (omega arith) (omega (arith, k)),
        blank (at + 8 * i + 2) (omega arith) (omega (arith, k)),
        blank (at + 8 * i + 3) (omega arith) (omega (arith, k)),
        blank (at + 8 * i + 4) (omega arith) (omega (arith, k)),
        blank (at + 8 * i + 4 + 1) (omega arith) (omega (arith, k)),
        blank (at + 8 * i + 4 + 2) (omega arith) (omega (arith, k)),
        blank (at + 8 * i + 4 + 3) (omega arith) (omega (arith, k)),
      )) in
      let q = tab-ext 32 (λ i. word16 l (at + at_high + 2 * i)) (λ i. word_of 16 (λ k. owns no_owners i (64 + k))) (λ i k. omega (
        arith,
        word_of-none 16 (λ m. owns no_owners i (64 + m)) (λ m b. none i (64 + m)),
        blank (at + at_high + 2 * i) (omega arith) (omega (arith, k)),
        blank (at + at_high + 2 * i + 1) (omega arith) (omega (arith, k)),
      )) in
      let r = tab-ext 32 (λ i. get_or l (at + at_held + i) 0) (λ i. how_many 80 (owns no_owners i)) (λ i k. omega (
        arith,
        how_many-zero 80 (owns no_owners i) (λ m b. none i m),
        blank (at + at_held + i) (omega arith) (omega (arith, k)),
      )) in
      λ i. record { low = p i; high = q i; counts = r i }

-- masks that were read have the code's sizes
pub sized : (l : List ℕ) → Bytes l → (at : ℕ) → at + masks_size ≤ length l → Sized (masks_in l at)
unfolding masks_in
sized l b at h =
    record {
      lows = length-tab 32 _;
      highs = length-tab 32 _;
      all-counts = length-tab 32 _;
      low_fits = λ i k. subst (λ (w : ℕ). w < 2 ^ 64) (low_read l at i k) (fits-64 l b (at + 8 * i) (omega (arith, h, k)));
      high_fits = λ i k. subst (λ (w : ℕ). w < 2 ^ 16) (high_read l at i k) (fits_16 l b (at + at_high + 2 * i) (omega (arith, h, k)));
    }

-- a list of 32 by its entries
pub entries : (l : List ℕ) (f : ℕ → ℕ) → length l ≡ 32 → ((i : ℕ) → i < 32 → f i ≡ get_or l i 0) → tab 32 f ≡ l
entries l f e h = ext_get_or 0 (tab 32 f) l (length-tab 32 f ∙ sym e)
    (λ i b. let g : i < 32 = omega (arith, b, length-tab 32 f) in get_d-tab 0 32 f i g ∙ h i g)

-- what was written is read back
pub masks-back : (m : Masks) → Sized m → (a q : List ℕ) (at : ℕ) → drop at a ≡ masks_bytes m ++ q → masks_in a at ≡ m
unfolding masks_bytes masks_in
masks-back m z a q at e =
    let lo : ℕ → List ℕ = λ i. bytes64 (low_of m i) in
    let hi : ℕ → List ℕ = λ i. bytes16 (high_of m i) in
    let c = tab 32 (count_of m) in
    let u : drop at a ≡ rows 32 lo ++ (rows 32 hi ++ (c ++ q)) = e ∙ append_assoc (rows 32 lo) (rows 32 hi ++ c) q
    ∙ ap (λ (x : List ℕ). rows 32 lo ++ x) (append_assoc (rows 32 hi) c q) in
    let w : drop (at + at_high) a ≡ rows 32 hi ++ (c ++ q) = sym (drop-drop at_high at a) ∙ ap (drop at_high) u
    ∙ drop_at (rows 32 lo) (rows 32 hi ++ (c ++ q)) at_high (length-rows lo 8 (λ i. refl) 32) in
    let y : at + at_high + 64 ≡ at + at_held = omega arith in
    let v : drop (at + at_held) a ≡ c ++ q = ap (λ (x : ℕ). drop x a) (sym y) ∙ sym (drop-drop 64 (at + at_high) a) ∙ ap (drop 64) w
    ∙ drop_at (rows 32 hi) (c ++ q) 64 (length-rows hi 2 (λ i. refl) 32) in
    let p = entries m.low (λ i. word64 a (at + 8 * i)) z.lows
    (λ i k. word64-back (low_of m i) (z.low_fits i k) a (at + 8 * i) (λ j r. row-byte lo 8 (λ i. refl) 32 a _ at i j u k r)) in
    let r = entries m.high (λ i. word16 a (at + at_high + 2 * i)) z.highs
    (λ i k. word16-back (high_of m i) (z.high_fits i k) a (at + at_high + 2 * i)
    (λ j r. row-byte hi 2 (λ i. refl) 32 a _ (at + at_high) i j w k r)) in
    let n = entries m.counts (λ i. get_or a (at + at_held + i) 0) z.all-counts
    (λ i k.
    sym (get_or-drop (at + at_held) a i 0) ∙ ap (λ (x : List ℕ). get_or x i 0) v
    ∙ get_or-append c q 0 i (omega (arith, k, length-tab 32 (count_of m))) ∙ get_d-tab 0 32 (count_of m) i k) in
    λ i. record { low = p i; high = r i; counts = n i }

-- the three parts, put one behind the other
pub masks-put : {s1 s2 s3 c : List ℕ} {j : ℕ} (m : Masks) (l : List ℕ) (at : ℕ) → at + masks_size ≤ length l → c ≡ tab 32 (count_of m)
    → s1 ≡ written l at (rows 32 (λ i. bytes64 (low_of m i)))
    → s2 ≡ written s1 (at + at_high) (rows 32 (λ i. bytes16 (high_of m i))) → Tried s2 (at + at_held) c j s3 → Tried l at (masks_bytes m) j s3
unfolding masks_bytes
masks-put {s1} {s2} {s3} {c} {j} m l at h e p q t =
    let lo : ℕ → List ℕ = λ i. bytes64 (low_of m i) in
    let hi : ℕ → List ℕ = λ i. bytes16 (high_of m i) in
    let x : length (rows 32 lo) ≡ at_high = length-rows lo 8 (λ i. refl) 32 in
    let y : length (rows 32 hi) ≡ 64 = length-rows hi 2 (λ i. refl) 32 in
    let z : length (rows 32 lo ++ rows 32 hi) ≡ at_held = length-append (rows 32 lo) (rows 32 hi) ∙ ap₂ ◌+◌ x y in
    let k : length c ≡ 32 = ap length e ∙ length-tab 32 (count_of m) in
    let g : s2 ≡ written l at (rows 32 lo ++ rows 32 hi) =
    q ∙ ap₂ (λ (a : List ℕ) (n : ℕ). written a (at + n) (rows 32 hi)) p (sym x)
    ∙ written-more l (rows 32 lo) (rows 32 hi) at (omega (arith, x, h)) in
    let w : length s2 ≡ length l = ap length g ∙ length-written l (rows 32 lo ++ rows 32 hi) at (omega (arith, z, h)) in
    let r = put (omega (arith, w, k, h)) t in
    let n : length (masks_bytes m) ≡ masks_size = length-masks m in
    tried (omega (arith, n, h)) (record {
      to = omega (arith, r.to, k, n);
      is = r.is
          ∙ ap₂ (λ (a b : List ℕ). written a (at + at_held) b) g e
          ∙ ap (λ (n : ℕ). written (written l at (rows 32 lo ++ rows 32 hi)) (at + n) (tab 32 (count_of m))) (sym z)
          ∙ written-more l (rows 32 lo ++ rows 32 hi) (tab 32 (count_of m)) at (omega (arith, z, h))
          ∙ ap (written l at) (append_assoc (rows 32 lo) (rows 32 hi) (tab 32 (count_of m)));
    })
