-- Masks cleared and copied where they stand, and rows that are all 0.
-- Assumes nothing.
use mathlib.Core.Path.{◌≡◌, refl, sym, ap, ap₂, ◌∙◌}
use mathlib.Core.Bool.{Bool, true, false, cond, ◌&&◌, ◌||◌, and-false}
use mathlib.Core.Logic.{◌⊎◌, inl, inr, ⊎_elim}
use mathlib.Core.List.{List, [], ◌++◌, append_assoc, append-nil}
use Prim.Native.Nat.{ℕ, zero, suc, min, ◌+◌, ◌-◌, ◌*◌, ◌/◌, ◌%◌, ◌≤◌, ◌<◌}
use native.Mathlib.Nat.{add-zero, add-suc, mul-zero, mul-suc, mul-add}
use native.Mathlib.Omega.{arith}
use lib.Dec.{eqb, leb, ltb}
use lib.ListN.{length, get_or, set, take, drop, replicate, length-replicate, get_or-append}
use lib.ListN.{get_or-eq_default, length-append, length-drop, take-append-drop}
use lib.ListN.{replicate-append-replicate}
use lib.Seq.{ext_get_or, get_or-drop, take_at, length-take-le, drop-drop}
use borrow.Author.Tests.{eq-eqb, eqb-true, le-leb, lt-leb, lt-ltb, le-ltb, ltb-true, ltb-false}
use Rattle.words.proofs.Tests.{by-test, hit, skip, both, and_left, and_right, and-rest, or-front, or-back, or-rest}
use Rattle.lists.specs.All.{bounded, tab}
use Rattle.lists.specs.Bytes.{window, span, written, Put, Tried}
use Rattle.lists.proofs.Bounded.{bounded-over}
use Rattle.lists.proofs.Laws.{length-tab, tab-ext, get_d-tab, get_d-zeros, length-written, all-at, all-make}
use Rattle.lists.proofs.Chain.{written-more, then, one, recast}
use Rattle.lists.proofs.Places.{written_over, before-written, behind-written}
use Rattle.masks.specs.Slots.{Masks}
use Rattle.masks.specs.Slots.{low_of, high_of, count_of, masks_of, no_owners}
use Rattle.masks.specs.Bytes.{word64, bytes64, word16, bytes16, rows, masks_size, at_high, at_held, masks_bytes, masks_in, no_slots}
use Rattle.masks.specs.Bytes.{can_copy, first_words, has_room, rows_used}
use Rattle.masks.specs.Bytes.{blank_at, rest_blank}
use Rattle.masks.proofs.Parts.{Bytes, list-then}
use Rattle.masks.proofs.Rows.{length-rows, length_part, rows_more, rows_then, word64-back, word16-back, word64-then, word16-then}
use Rattle.masks.proofs.Rows.{masks-then, low_read}
use Rattle.masks.proofs.Rows.{high_read, count-read, zero-at, zeros-make, no-masks, low-past, high-past}
use Rattle.masks.proofs.Fits.{iff}

-- bytes that are all 0: the first m and the last m of them, where these are all
pub both_ends : (l : List ℕ) (at n m : ℕ) → m ≤ n → n ≤ m + m
    → (bounded (span l at m) 0 0 && bounded (span l (at + (n - m)) m) 0 0) ≡ bounded (span l at n) 0 0
both_ends l at n m h g =
    iff _ _
    (λ e. zeros-make l at n (λ p a c.
    by-test (λ (_ : ℕ). get_or l p 0 ≡ 0) (ltb p (at + m)) 0 0
    (λ u. zero-at l at m (and_left (bounded (span l at m) 0 0) _ e) p a (ltb-true p (at + m) u))
    (λ u. zero-at l (at + (n - m)) m (and_right (bounded (span l at m) 0 0) _ e) p (omega (arith, ltb-false p (at + m) u, g))
    (omega (arith, c, h)))))
    (λ e. both (zeros-make l at m (λ p a c. zero-at l at n e p a (omega (arith, c, h))))
    (zeros-make l (at + (n - m)) m (λ p a c. zero-at l at n e p (omega (arith, a)) (omega (arith, c, h)))))

-- Words that are 0, and their bytes

module _ (l : List ℕ) (b : Bytes l) where
  byte-64 : (at j : ℕ) → at + 8 ≤ length l → word64 l at ≡ 0 → j < 8 → get_or l (at + j) 0 ≡ 0
  byte-64 at j h e k =
      sym (get_or-drop at l j 0) ∙ ap (λ (x : List ℕ). get_or x j 0) (sym (word64-then l b at (at + 8) (drop (at + 8) l) h refl refl))
      ∙ get_or-append (bytes64 (word64 l at)) (drop (at + 8) l) 0 j k ∙ ap (λ (x : ℕ). get_or (bytes64 x) j 0) e ∙ get_d-zeros 8 j

  byte-16 : (at j : ℕ) → at + 2 ≤ length l → word16 l at ≡ 0 → j < 2 → get_or l (at + j) 0 ≡ 0
  byte-16 at j h e k =
      sym (get_or-drop at l j 0) ∙ ap (λ (x : List ℕ). get_or x j 0) (sym (word16-then l b at (at + 2) (drop (at + 2) l) h refl refl))
      ∙ get_or-append (bytes16 (word16 l at)) (drop (at + 2) l) 0 j k ∙ ap (λ (x : ℕ). get_or (bytes16 x) j 0) e ∙ get_d-zeros 2 j

  -- the rows behind the first are 0 exactly where all of their bytes are
  module _ (at top : ℕ) (h : at + masks_size ≤ length l) (t : top ≤ 32) where
    abbrev lows : Bool
    lows = bounded (span l (at + 8 * top) (256 - 8 * top)) 0 0

    abbrev highs : Bool
    highs = bounded (span l (at + at_high + 2 * top) (64 - 2 * top)) 0 0

    abbrev helds : Bool
    helds = bounded (span l (at + at_held + top) (32 - top)) 0 0

    there : lows ≡ true → highs ≡ true → helds ≡ true → rest_blank (masks_in l at) top ≡ true
    there x y w =
        all-make 32 (blank_at (masks_in l at) top) (λ i k.
        by-test (λ (_ : ℕ). blank_at (masks_in l at) top i ≡ true) (ltb i top) 0 0 (λ u. or-front (ltb i top) _ u)
        (λ u.
        let g = ltb-false i top u in
        or-back (ltb i top) _
        (both
        (eq-eqb _ 0 (sym (low_read l at i k) ∙ word64-back 0 (omega arith) l (at + 8 * i)
        (λ j r. zero-at l (at + 8 * top) (256 - 8 * top) x (at + 8 * i + j) (omega (arith, g)) (omega (arith, k, r, t))
        ∙ sym (get_d-zeros 8 j))))
        (both
        (eq-eqb _ 0 (sym (high_read l at i k) ∙ word16-back 0 (omega arith) l (at + at_high + 2 * i)
        (λ j r. zero-at l (at + at_high + 2 * top) (64 - 2 * top) y (at + at_high + 2 * i + j) (omega (arith, g))
        (omega (arith, k, r, t)) ∙ sym (get_d-zeros 2 j))))
        (eq-eqb _ 0 (sym (count-read l at i k) ∙ zero-at l (at + at_held + top) (32 - top) w (at + at_held + i) (omega (arith, g))
        (omega (arith, k, t))))))))

    module _ (r : rest_blank (masks_in l at) top ≡ true) where
      row : (i : ℕ) → i < 32 → top ≤ i
          → (eqb (low_of (masks_in l at) i) 0 && (eqb (high_of (masks_in l at) i) 0 && eqb (count_of (masks_in l at) i) 0)) ≡ true
      row i k g = or-rest (ltb i top) _ (all-at 32 (blank_at (masks_in l at) top) r i k) (le-ltb i top g)

      low-back : lows ≡ true
      low-back =
          zeros-make l (at + 8 * top) (256 - 8 * top) (λ p a c.
          let i = (p - at) / 8 in
          let k : i < 32 = omega (arith, a, c, t) in
          let e : at + 8 * i + (p - at) % 8 ≡ p = omega (arith, a) in
          let z : word64 l (at + 8 * i) ≡ 0 = low_read l at i k
          ∙ eqb-true _ 0 (and_left (eqb (low_of (masks_in l at) i) 0) _ (row i k (omega (arith, a)))) in
          ap (λ (x : ℕ). get_or l x 0) (sym e) ∙ byte-64 (at + 8 * i) ((p - at) % 8) (omega (arith, h, k)) z (omega arith))

      high-back : highs ≡ true
      high-back =
          zeros-make l (at + at_high + 2 * top) (64 - 2 * top) (λ p a c.
          let i = (p - (at + at_high)) / 2 in
          let k : i < 32 = omega (arith, a, c, t) in
          let e : at + at_high + 2 * i + (p - (at + at_high)) % 2 ≡ p = omega (arith, a) in
          let z : word16 l (at + at_high + 2 * i) ≡ 0 =
          high_read l at i k ∙ eqb-true _ 0
          (and_left (eqb (high_of (masks_in l at) i) 0) _ (and_right (eqb (low_of (masks_in l at) i) 0) _ (row i k (omega (arith, a))))) in
          ap (λ (x : ℕ). get_or l x 0) (sym e) ∙ byte-16 (at + at_high + 2 * i) ((p - (at + at_high)) % 2) (omega (arith, h, k)) z
          (omega arith))

      count-back : helds ≡ true
      count-back =
          zeros-make l (at + at_held + top) (32 - top) (λ p a c.
          let i = p - (at + at_held) in
          let k : i < 32 = omega (arith, a, c, t) in
          let e : at + at_held + i ≡ p = omega (arith, a) in
          ap (λ (x : ℕ). get_or l x 0) (sym e)
          ∙ count-read l at i k
          ∙ eqb-true _ 0 (and_right (eqb (high_of (masks_in l at) i) 0) _
          (and_right (eqb (low_of (masks_in l at) i) 0) _ (row i k (omega (arith, a))))))

    pub rest-is : (lows && (highs && helds)) ≡ rest_blank (masks_in l at) top
    rest-is =
        iff (lows && (highs && helds)) (rest_blank (masks_in l at) top)
        (λ a. there (and_left lows _ a) (and_left highs helds (and_right lows _ a)) (and_right highs helds (and_right lows _ a)))
        (λ r. both (low-back r) (both (high-back r) (count-back r)))

    -- they are not where their first words are not, or their second ones
    pub low-fails : lows ≡ false → false ≡ rest_blank (masks_in l at) top
    low-fails e = sym (ap (λ (t : Bool). t && (highs && helds)) e) ∙ rest-is

    pub high-fails : highs ≡ false → false ≡ rest_blank (masks_in l at) top
    high-fails e = sym (ap (λ (t : Bool). lows && (t && helds)) e ∙ and-false lows) ∙ rest-is

-- Zeros

-- one more
pub zeros-more : (l m : List ℕ) (at i : ℕ) → at + i + 1 ≤ length l → Put l at (replicate i 0) (at + i) m → length m ≡ length l
    → Put l at (replicate (i + 1) 0) (at + i + 1) (set m (at + i) 0)
zeros-more l m at i h p e =
    let k : length {A = ℕ} (replicate i 0) ≡ i = length-replicate i 0 in
    recast (replicate-append-replicate i 1 0) (then (omega (arith, h, k)) p (one m (at + i) 0 (omega (arith, h, e))))

-- written where they stand already
pub zeros-again : (l : List ℕ) (at n : ℕ) → at + n ≤ length l → bounded (span l at n) 0 0 ≡ true → l ≡ written l at (replicate n 0)
zeros-again l at n h z =
    let k : length (span l at n) ≡ n = length-take-le n (drop at l) (omega (arith, length-drop at l)) in
    let e : replicate n 0 ≡ span l at n =
    ext_get_or 0 (replicate n 0) (span l at n) (length-replicate n 0 ∙ sym k)
    (λ i g. get_d-zeros n i ∙ sym (bounded-over (span l at n) 0 0 z i (omega arith))) in
    sym (ap (written l at) e
    ∙ append_assoc (take at l) (span l at n) (drop (at + length (span l at n)) l)
    ∙ ap (λ (x : List ℕ). take at l ++ (span l at n ++ x)) (ap (λ (x : ℕ). drop (at + x) l) k ∙ sym (drop-drop n at l))
    ∙ ap (λ (x : List ℕ). take at l ++ x) (take-append-drop n (drop at l))
    ∙ take-append-drop at l)

-- Rows over zeros: those of the first n nodes, and zeros for the others

module _ (f g : ℕ → List ℕ) (m n : ℕ) (same : (i : ℕ) → i < n → g i ≡ f i) (rest : (i : ℕ) → n ≤ i → g i ≡ replicate m 0) where
  rows_same : (k : ℕ) → k ≤ n → rows k g ≡ rows k f
  unfolding rows
  rows_same zero h = refl
  rows_same (suc k) h = ap₂ ◌++◌ (rows_same k (omega arith)) (same k h)

  rows-rest : (d : ℕ) → rows (n + d) g ≡ rows n f ++ replicate (m * d) 0
  unfolding rows
  rows-rest zero =
      let z : replicate {A = ℕ} (m * 0) 0 ≡ [] = ap (λ (x : ℕ). replicate {A = ℕ} x 0) (mul-zero m) in
      ap (λ (x : ℕ). rows x g) (add-zero n) ∙ rows_same n (omega arith) ∙ sym (ap (λ (t : List ℕ). rows n f ++ t) z ∙ append-nil (rows n f))
  rows-rest (suc d) =
      let e : m * d + m ≡ m * suc d = sym (mul-suc m d) in
      ap (λ (x : ℕ). rows x g) (add-suc n d) ∙ ap₂ ◌++◌ (rows-rest d) (rest (n + d) (omega arith))
      ∙ append_assoc (rows n f) (replicate (m * d) 0) (replicate m 0)
      ∙ ap (λ (t : List ℕ). rows n f ++ t) (replicate-append-replicate (m * d) m 0 ∙ ap (λ (x : ℕ). replicate {A = ℕ} x 0) e)

  pub rows-over : ((i : ℕ) → length (f i) ≡ m) → (l : List ℕ) (at k : ℕ) → n ≤ k → at + m * k ≤ length l
      → written (written l at (replicate (m * k) 0)) at (rows n f) ≡ written l at (rows k g)
  rows-over long l at k h r =
      let d = k - n in
      let e : n + d ≡ k = omega (arith, h) in
      let w : m * n + m * d ≡ m * k = sym (mul-add m n d) ∙ ap (λ (x : ℕ). m * x) e in
      let a : List ℕ = replicate (m * n) 0 in
      let b : List ℕ = replicate (m * d) 0 in
      let z : a ++ b ≡ replicate (m * k) 0 = replicate-append-replicate (m * n) (m * d) 0 ∙ ap (λ (x : ℕ). replicate {A = ℕ} x 0) w in
      let q : rows k g ≡ rows n f ++ b = ap (λ (x : ℕ). rows x g) (sym e) ∙ rows-rest d in
      let t = drop (at + m * k) l in
      let u : length {A = ℕ} (replicate (m * k) 0) ≡ m * k = length-replicate (m * k) 0 in
      let v : length (rows n f ++ b) ≡ m * k = length-append (rows n f) b ∙ ap₂ ◌+◌ (length-rows f m long n) (length-replicate (m * d) 0)
      ∙ w in
      let x : written l at (replicate (m * k) 0) ≡ take at l ++ (a ++ (b ++ t)) =
      append_assoc (take at l) (replicate (m * k) 0) _
      ∙ ap₂ (λ (y : List ℕ) (i : ℕ). take at l ++ (y ++ drop (at + i) l)) (sym z) u
      ∙ ap (λ (y : List ℕ). take at l ++ y) (append_assoc a b t) in
      let y : written l at (rows k g) ≡ take at l ++ (rows n f ++ (b ++ t)) =
      ap (written l at) q
      ∙ append_assoc (take at l) (rows n f ++ b) _
      ∙ ap (λ (i : ℕ). take at l ++ ((rows n f ++ b) ++ drop (at + i) l)) v
      ∙ ap (λ (y : List ℕ). take at l ++ y) (append_assoc (rows n f) b t) in
      ap (λ (y : List ℕ). written y at (rows n f)) x
      ∙ written_over (take at l) a (rows n f) (b ++ t) at (length-take-le at l (omega (arith, r)))
      (length-replicate (m * n) 0 ∙ sym (length-rows f m long n))
      ∙ sym y

-- the first n of 32 words, one by one
pub first-in : (n : ℕ) (l : List ℕ) (i : ℕ) → n ≤ 32 → i < n → get_or (first_words n l) i 0 ≡ get_or l i 0
unfolding first_words
first-in n l i h k = get_d-tab 0 32 (λ i. cond (ltb i n) (get_or l i 0) 0) i (omega (arith, h, k)) ∙ hit _ _ _ (lt-ltb i n k)

pub first_out : (n : ℕ) (l : List ℕ) (i : ℕ) → n ≤ i → get_or (first_words n l) i 0 ≡ 0
unfolding first_words
first_out n l i h =
    by-test (λ (_ : ℕ). get_or (first_words n l) i 0 ≡ 0) (ltb i 32) 0 0
    (λ t. get_d-tab 0 32 (λ i. cond (ltb i n) (get_or l i 0) 0) i (ltb-true i 32 t) ∙ skip _ _ _ _ (le-ltb i n h) refl)
    (λ t. get_or-eq_default (tab 32 (λ i. cond (ltb i n) (get_or l i 0) 0)) 0 {n = i}
    (omega (arith, ltb-false i 32 t, length-tab 32 (λ i. cond (ltb i n) (get_or l i 0) 0))))

-- A word for each of the first n nodes, put over zeros: m bytes each
module _ (b : ℕ → List ℕ) (m : ℕ) (long : (x : ℕ) → length (b x) ≡ m) (w l : List ℕ) (at : ℕ) (room : at + m * 32 ≤ length l)
    {z : List ℕ} (wiped : z ≡ written l at (replicate (m * 32) 0)) where
  abbrev bytes_at : ℕ → List ℕ
  bytes_at j = b (get_or w j 0)

  wiped-long : length z ≡ length l
  wiped-long =
      let k : length {A = ℕ} (replicate (m * 32) 0) ≡ m * 32 = length-replicate (m * 32) 0 in
      ap length wiped ∙ length-written l (replicate (m * 32) 0) at (omega (arith, room, k))

  pub words-turn : {s r x : List ℕ} {j : ℕ} (i : ℕ) → at + m * i + m ≤ length l → s ≡ written z at (rows i bytes_at) → x ≡ bytes_at i
      → Tried s (at + m * i) x j r → r ≡ written z at (rows (i + 1) bytes_at)
  words-turn i h e f t = rows_more bytes_at m (λ j. long (get_or w j 0)) z at i e f t (omega (arith, h, wiped-long))

  pub words_long : {s : List ℕ} (i : ℕ) → at + m * i ≤ length l → s ≡ written z at (rows i bytes_at) → length s ≡ length l
  words_long i h e = ap length e ∙ length_part bytes_at m (λ j. long (get_or w j 0)) z at i (omega (arith, h, wiped-long)) ∙ wiped-long

  pub words-end : {s : List ℕ} (i n : ℕ) → i ≡ n → n ≤ 32 → b 0 ≡ replicate m 0 → s ≡ written z at (rows i bytes_at)
      → s ≡ written l at (rows 32 (λ j. b (get_or (first_words n w) j 0)))
  words-end i n e h none q =
      q ∙ ap (λ (x : ℕ). written z at (rows x bytes_at)) e ∙ ap (λ (x : List ℕ). written x at (rows n bytes_at)) wiped
      ∙ rows-over bytes_at (λ j. b (get_or (first_words n w) j 0)) m n (λ j k. ap b (first-in n w j h k))
      (λ j k. ap b (first_out n w j k) ∙ none)
      (λ j. long (get_or w j 0)) l at 32 h room

-- where the others are 0 anyway
pub first-all : (n : ℕ) (l : List ℕ) → length l ≡ 32 → ((i : ℕ) → n ≤ i → get_or l i 0 ≡ 0) → first_words n l ≡ l
unfolding first_words
first-all n l e h =
    ext_get_or 0 (first_words n l) l (length-tab 32 (λ i. cond (ltb i n) (get_or l i 0) 0) ∙ sym e)
    (λ i k.
    get_d-tab 0 32 (λ i. cond (ltb i n) (get_or l i 0) 0) i (omega (arith, k, length-tab 32 (λ i. cond (ltb i n) (get_or l i 0) 0)))
    ∙ by-test (λ (_ : ℕ). cond (ltb i n) (get_or l i 0) 0 ≡ get_or l i 0) (ltb i n) 0 0 (λ t. hit _ _ _ t)
    (λ t. skip _ _ _ _ t (sym (h i (ltb-false i n t)))))

pub first-min : (n : ℕ) (l : List ℕ) → first_words (min n 32) l ≡ first_words n l
unfolding first_words
first-min n l = tab-ext 32 _ _ (λ i k. ap (λ (t : Bool). cond t (get_or l i 0) 0) (below i k))
  where
    below : (i : ℕ) → i < 32 → ltb i (min n 32) ≡ ltb i n
    below i k = by-test (λ (_ : ℕ). ltb i (min n 32) ≡ ltb i n) (ltb i n) 0 0
        (λ t. lt-ltb i (min n 32) (omega (arith, ltb-true i n t, k)) ∙ sym t)
        (λ t. le-ltb i (min n 32) (omega (arith, ltb-false i n t)) ∙ sym t)

-- the two halves
pub zeros-twice : (l : List ℕ) (at : ℕ) → at + masks_size ≤ length l
    → written (written l at (replicate 176 0)) (at + 176) (replicate 176 0) ≡ written l at no_slots
zeros-twice l at h = written-more l (replicate 176 0) (replicate 176 0) at (omega arith)

-- the bytes of the masks of no owners
pub none-bytes : masks_bytes (masks_of no_owners) ≡ no_slots
none-bytes =
    let z : bounded (span no_slots 0 masks_size) 0 0 ≡ true = zeros-make no_slots 0 masks_size (λ p a c. get_d-zeros masks_size p) in
    ap masks_bytes (sym (no-masks no_slots 0 (omega arith) z))
    ∙ sym (append-nil (masks_bytes (masks_in no_slots 0)))
    ∙ masks-then no_slots 0 masks_size [] (λ i h. omega (arith, get_d-zeros masks_size i)) (omega arith) refl refl

-- Rows that are not looked at have no slot
pub record Rest (m : Masks) (n r : ℕ) : Type 0 where
  pub most : r ≤ 32
  pub least : n ≤ 32 → n ≤ r
  pub lows : (i : ℕ) → r ≤ i → low_of m i ≡ 0
  pub highs : (i : ℕ) → r ≤ i → high_of m i ≡ 0

module _ (l : List ℕ) (at n r : ℕ) (e : r ≡ rows_used l at n) where
  abbrev m : Masks
  m = masks_in l at

  go : (t : Bool) → (ltb n 32 && (has_room l at && rest_blank m n)) ≡ t → Rest m n r
  unfolding rows_used
  go false f =
      let z : r ≡ 32 = e ∙ skip _ _ _ _ f refl in
      record {
        most = omega (arith, z);
        least = λ h. omega (arith, h, z);
        lows = λ i k. low-past l at i (omega (arith, k, z));
        highs = λ i k. high-past l at i (omega (arith, k, z));
      }
  go true f =
      let z : r ≡ n = e ∙ hit _ _ _ f in
      let h : n < 32 = ltb-true n 32 (and_left (ltb n 32) _ f) in
      let b : rest_blank m n ≡ true = and_right (has_room l at) _ (and_right (ltb n 32) _ f) in
      let row : (i : ℕ) → i < 32 → r ≤ i → (eqb (low_of m i) 0 && (eqb (high_of m i) 0 && eqb (count_of m i) 0)) ≡ true =
      λ i k g. or-rest (ltb i n) _ (all-at 32 (blank_at m n) b i k) (le-ltb i n (omega (arith, g, z))) in
      record {
        most = omega (arith, z, h);
        least = λ k. omega (arith, z);
        lows = λ i k.
            by-test (λ (_ : ℕ). low_of m i ≡ 0) (ltb i 32) 0 0
            (λ u. eqb-true (low_of m i) 0 (and_left (eqb (low_of m i) 0) _ (row i (ltb-true i 32 u) k)))
            (λ u. low-past l at i (ltb-false i 32 u));
        highs = λ i k.
            by-test (λ (_ : ℕ). high_of m i ≡ 0) (ltb i 32) 0 0
            (λ u. eqb-true (high_of m i) 0
            (and_left (eqb (high_of m i) 0) _ (and_right (eqb (low_of m i) 0) _ (row i (ltb-true i 32 u) k))))
            (λ u. high-past l at i (ltb-false i 32 u));
      }

  pub rest : Rest m n r
  rest = go (ltb n 32 && (has_room l at && rest_blank m n)) refl

-- A copy in parts

-- the parts of 32 bytes at a place
abbrev pub part_at : List ℕ → ℕ → ℕ → List ℕ
part_at l from i = window 32 l (from + 32 * i)

pub long-part : (l : List ℕ) (from i : ℕ) → length (part_at l from i) ≡ 32
long-part l from i = length-tab 32 (λ j. get_or l (from + 32 * i + j) 0)

-- the second place doesn't start within the masks at the first
pub overlaps : (t : Bool) (from to : ℕ) → (ltb from to && ltb to (from + masks_size)) ≡ true
    → (t && (leb to from || leb (from + masks_size) to)) ≡ false
overlaps t from to e =
    let a = ltb-true from to (and_left (ltb from to) _ e) in
    let b = ltb-true to (from + masks_size) (and_right (ltb from to) _ e) in
    ap (λ (x : Bool). t && x) (ap₂ ◌||◌ (lt-leb to from a) (lt-leb (from + masks_size) to b)) ∙ and-false t

pub apart : (from to : ℕ) → (ltb from to && ltb to (from + masks_size)) ≡ false → (to ≤ from) ⊎ (from + masks_size ≤ to)
apart from to e = go (ltb from to) refl
  where
    go : (t : Bool) → ltb from to ≡ t → (to ≤ from) ⊎ (from + masks_size ≤ to)
    go true f = inr (ltb-false to (from + masks_size) (and-rest (ltb from to) _ e f))
    go false f = inl (ltb-false from to f)

pub no_room : (t u : Bool) → t ≡ false → (t && u) ≡ false
no_room t u e = ap (λ (x : Bool). x && u) e

module _ (l : List ℕ) (from to : ℕ) (h : from + masks_size ≤ length l) (g : to + masks_size ≤ length l) where
  pub can-copy : (to ≤ from) ⊎ (from + masks_size ≤ to) → can_copy l from to ≡ true
  can-copy s =
      both (both (le-leb _ _ h) (le-leb _ _ g))
      (⊎_elim (λ a. or-front (leb to from) _ (le-leb to from a)) (λ a. or-back (leb to from) _ (le-leb (from + masks_size) to a)) s)

  length-parts : (i : ℕ) → length (rows i (part_at l from)) ≡ 32 * i
  length-parts = length-rows (part_at l from) 32 (long-part l from)

  -- the next part is still what it was: those written before it stand elsewhere
  pub part-kept : (i : ℕ) → i < 11 → (to ≤ from) ⊎ (from + masks_size ≤ to)
      → window 32 (written l to (rows i (part_at l from))) (from + 32 * i) ≡ part_at l from i
  part-kept i k s =
      let n = length-parts i in
      let r = rows i (part_at l from) in
      let q : to + length r ≤ length l = omega (arith, n, g, k) in
      tab-ext 32 (λ j. get_or (written l to r) (from + 32 * i + j) 0) (λ j. get_or l (from + 32 * i + j) 0) (λ j m.
      ⊎_elim (λ a. behind-written l r to q (from + 32 * i + j) (omega (arith, n, a)))
      (λ a. before-written l r to q (from + 32 * i + j) (omega (arith, a, k, m))) s)

  pub parts_are : rows 11 (part_at l from) ≡ span l from masks_size
  parts_are =
      let t = drop (from + masks_size) l in
      let e : rows 11 (part_at l from) ++ t ≡ drop from l =
      rows_then (part_at l from) 32 (long-part l from) l from 11
      (λ i u k f r. list-then l 32 (from + 32 * i) (from + 32 * i + 32) u r refl f) 11 t (omega arith) refl (omega (arith, h)) in
      sym (ap (take masks_size) (sym e) ∙ take_at (rows 11 (part_at l from)) t masks_size (length-parts 11))
