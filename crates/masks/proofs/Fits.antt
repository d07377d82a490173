-- Masks tested where they stand: well formed, no node from n up has a slot, and all of them together have none from k up. Then so are their
-- owners.
-- Assumes nothing.
use mathlib.Core.Path.{◌≡◌, refl, sym, ap, ap₂, ◌∙◌, subst}
use mathlib.Core.Bool.{Bool, true, false, cond, ◌&&◌, ◌||◌}
use mathlib.Core.List.{List}
use Prim.Native.Nat.{ℕ, zero, suc, min, ◌+◌, ◌-◌, ◌/◌, ◌^◌, ◌≤◌, ◌<◌}
use native.Mathlib.Nat.{div-one}
use native.Mathlib.Omega.{arith}
use lib.Dec.{eqb, ltb}
use lib.Bits
use lib.Bits.{or_lt, or_zero_r, and_zero_r}
use lib.Count.{ones}
use lib.Pow.{pow_pos}
use lib.ListN.{length, get_or, get_or-eq_default}
use borrow.Author.Tests.{eq-eqb, ne_eqb, eqb-true, lt-ltb, le-ltb, ltb-true, ltb-false}
use Rattle.words.specs.Bits.{has_bit, digit, how_many}
use Rattle.words.proofs.Tests.{clash, by-test, same_or_not, is_false, only_if, hit, skip, both, and_left, and_right, or-front, or-back}
use Rattle.words.proofs.Tests.{or-rest}
use Rattle.words.proofs.Laws.{has_bit-or, has_bit-out, word_of-bits, word_of-below, word_of-none, ones-bits, below-shift}
use Rattle.words.proofs.Counts.{how_many-suc, how_many-more}
use Rattle.lists.specs.All.{iter, all_below, bounded}
use Rattle.lists.specs.Bytes.{span}
use Rattle.lists.proofs.Bounded.{bounded_at, bounded-over, bounded-make, zeros-bounded}
use Rattle.lists.proofs.Laws.{iter-still, all-at, all-make}
use Rattle.masks.specs.Slots.{Masks}
use Rattle.masks.specs.Slots.{low_of, high_of, count_of, has_slot, holds, owner_in, owners_in, owns, no_owners, apart, count_right}
use Rattle.masks.specs.Slots.{well_formed_at, well_formed}
use Rattle.masks.specs.Bytes.{masks_size, masks_in, fitting, blank_at, rest_blank}
use Rattle.masks.specs.Inner.{taken, ends_by, rows_fit}
use Rattle.masks.proofs.Bits.{no_bits}
use Rattle.masks.proofs.Turns.{how_many-zero}
use Rattle.masks.proofs.Owners.{Sized, length-owners, owners-none, owner_at, owner-le}
use Rattle.masks.proofs.Rows.{no-masks}
use Rattle.masks.proofs.Tidy.{made_tidy, holds-owner, holds-owns, count-owned}

pub iff : (a b : Bool) → (a ≡ true → b ≡ true) → (b ≡ true → a ≡ true) → a ≡ b
iff true b f g = sym (f refl)
iff false true f g = g refl
iff false false f g = refl

-- The words of nodes together: a bit of one of them, and a bit of none.

pub taken-has : (l : List ℕ) (n j b : ℕ) → j < n → has_bit (get_or l j 0) b ≡ true → has_bit (taken l n) b ≡ true
unfolding taken iter
taken-has l zero j b h e = absurd (omega (arith, h))
taken-has l (suc n) j b h e =
    has_bit-or (taken l n) (get_or l n 0) b
    ∙ same_or_not j n (λ f. or-back (has_bit (taken l n) b) _ (ap (λ (x : ℕ). has_bit (get_or l x 0) b) (sym f) ∙ e))
    (λ f. or-front (has_bit (taken l n) b) (has_bit (get_or l n 0) b) (taken-has l n j b (omega (arith, h, f)) e))

pub taken-lacks : (l : List ℕ) (n b : ℕ) → ((j : ℕ) → j < n → has_bit (get_or l j 0) b ≡ false) → has_bit (taken l n) b ≡ false
unfolding taken iter
taken-lacks l zero b h = no_bits b
taken-lacks l (suc n) b h = has_bit-or (taken l n) (get_or l n 0) b
    ∙ ap₂ ◌||◌ (taken-lacks l n b (λ j g. h j (omega (arith, g)))) (h n (omega arith))

taken-fits : (l : List ℕ) (n m : ℕ) → ((j : ℕ) → j < n → get_or l j 0 < 2 ^ m) → taken l n < 2 ^ m
unfolding taken iter
taken-fits l zero m h = pow_pos m
taken-fits l (suc n) m h = or_lt m (taken l n) (get_or l n 0) (taken-fits l n m (λ j g. h j (omega (arith, g)))) (h n (omega arith))

-- Words that end: no bit from k up.

short-word : (w n k : ℕ) → w < 2 ^ n → ((i : ℕ) → k ≤ i → i < n → has_bit w i ≡ false) → k ≤ n → w / 2 ^ k ≡ 0
short-word w n k f h l =
    eqb-true (w / 2 ^ k) 0
    (below-shift w k ∙ lt-ltb w (2 ^ k) (subst (λ (x : ℕ). x < 2 ^ k) (word_of-bits n w f) (word_of-below k n (has_bit w) l h)))

module _ (low high k : ℕ) where
  pub ends-none : high < 2 ^ 16 → ends_by low high k ≡ true → (i : ℕ) → k ≤ i → i < 80 → has_slot low high i ≡ false
  unfolding ends_by
  ends-none f e i l g =
      by-test (λ (_ : ℕ). has_slot low high i ≡ false) (ltb k 64) 0 0
      (λ t.
      let u = sym (hit (ltb k 64) (eqb (low / 2 ^ k) 0 && eqb high 0) (cond (ltb k 80) (eqb (high / 2 ^ (k - 64)) 0) true) t) ∙ e in
      let a : low < 2 ^ k = ltb-true low (2 ^ k) (sym (below-shift low k) ∙ and_left (eqb (low / 2 ^ k) 0) (eqb high 0) u) in
      let z : high ≡ 0 = eqb-true high 0 (and_right (eqb (low / 2 ^ k) 0) (eqb high 0) u) in
      by-test (λ (_ : ℕ). has_slot low high i ≡ false) (ltb i 64) 0 0
      (λ s. hit (ltb i 64) (has_bit low i) (has_bit high (i - 64)) s ∙ has_bit-out low k i a l)
      (λ s. skip (ltb i 64) (has_bit low i) (has_bit high (i - 64)) false s (ap (λ (x : ℕ). has_bit x (i - 64)) z ∙ no_bits (i - 64))))
      (λ t.
      let u = sym (skip (ltb k 64) (eqb (low / 2 ^ k) 0 && eqb high 0) (cond (ltb k 80) (eqb (high / 2 ^ (k - 64)) 0) true)
      (cond (ltb k 80) (eqb (high / 2 ^ (k - 64)) 0) true) t refl) ∙ e in
      let p = ltb-false k 64 t in
      let v = sym (hit (ltb k 80) (eqb (high / 2 ^ (k - 64)) 0) true (lt-ltb k 80 (omega (arith, l, g)))) ∙ u in
      let a : high < 2 ^ (k - 64) = ltb-true high (2 ^ (k - 64)) (sym (below-shift high (k - 64)) ∙ v) in
      skip (ltb i 64) (has_bit low i) (has_bit high (i - 64)) false (le-ltb i 64 (omega (arith, p, l)))
      (has_bit-out high (k - 64) (i - 64) a (omega (arith, l))))

  ends-make : low < 2 ^ 64 → high < 2 ^ 16 → ((i : ℕ) → k ≤ i → i < 80 → has_slot low high i ≡ false) → ends_by low high k ≡ true
  unfolding ends_by
  ends-make f g h =
      by-test (λ (x : Bool). x ≡ true) (ltb k 64) (eqb (low / 2 ^ k) 0 && eqb high 0) (cond (ltb k 80) (eqb (high / 2 ^ (k - 64)) 0) true)
      (λ t.
      let l = ltb-true k 64 t in
      both
      (eq-eqb (low / 2 ^ k) 0
      (short-word low 64 k f
      (λ i a b. sym (hit (ltb i 64) (has_bit low i) (has_bit high (i - 64)) (lt-ltb i 64 b)) ∙ h i a (omega (arith, b)))
      (omega (arith, l))))
      (eq-eqb high 0 (sym (div-one high) ∙ short-word high 16 0 g (λ i a b. at_high i ∙ h (64 + i) (omega (arith, l)) (omega (arith, b)))
      (omega arith))))
      (λ t.
      let l = ltb-false k 64 t in
      by-test (λ (x : Bool). x ≡ true) (ltb k 80) (eqb (high / 2 ^ (k - 64)) 0) true
      (λ s. let u = ltb-true k 80 s in eq-eqb (high / 2 ^ (k - 64)) 0
      (short-word high 16 (k - 64) g (λ i a b. at_high i ∙ h (64 + i) (omega (arith, a)) (omega (arith, b))) (omega (arith, u))))
      (λ s. refl))
    where
      at_high : (i : ℕ) → has_bit high i ≡ has_slot low high (64 + i)
      at_high i =
          let e : 64 + i - 64 ≡ i = omega arith in
          sym (skip (ltb (64 + i) 64) (has_bit low (64 + i)) (has_bit high (64 + i - 64)) (has_bit high i) (le-ltb (64 + i) 64 (omega arith))
          (ap (has_bit high) e))

-- the slots that nodes have together
module _ (m : Masks) where
  abbrev all : ℕ → Bool
  all s = has_slot (taken m.low 32) (taken m.high 32) s

  pub all-has : (i s : ℕ) → i < 32 → holds m i s ≡ true → all s ≡ true
  unfolding holds
  all-has i s l e =
      by-test (λ (_ : ℕ). all s ≡ true) (ltb s 64) 0 0
      (λ t. hit (ltb s 64) (has_bit (taken m.low 32) s) (has_bit (taken m.high 32) (s - 64)) t
      ∙ taken-has m.low 32 i s l (sym (hit (ltb s 64) (has_bit (low_of m i) s) (has_bit (high_of m i) (s - 64)) t) ∙ e))
      (λ t. skip (ltb s 64) (has_bit (taken m.low 32) s) (has_bit (taken m.high 32) (s - 64)) true t
      (taken-has m.high 32 i (s - 64) l (sym (skip (ltb s 64) (has_bit (low_of m i) s) (has_bit (high_of m i) (s - 64)) _ t refl) ∙ e)))

  pub all-lacks : (s : ℕ) → ((i : ℕ) → i < 32 → holds m i s ≡ false) → all s ≡ false
  unfolding holds
  all-lacks s h =
      by-test (λ (_ : ℕ). all s ≡ false) (ltb s 64) 0 0
      (λ t. hit (ltb s 64) (has_bit (taken m.low 32) s) (has_bit (taken m.high 32) (s - 64)) t
      ∙ taken-lacks m.low 32 s (λ i l. sym (hit (ltb s 64) (has_bit (low_of m i) s) (has_bit (high_of m i) (s - 64)) t) ∙ h i l))
      (λ t. skip (ltb s 64) (has_bit (taken m.low 32) s) (has_bit (taken m.high 32) (s - 64)) false t
      (taken-lacks m.high 32 (s - 64)
      (λ i l. sym (skip (ltb s 64) (has_bit (low_of m i) s) (has_bit (high_of m i) (s - 64)) _ t refl) ∙ h i l)))

some : (n k : ℕ) (p : ℕ → Bool) → k < n → p k ≡ true → 0 < how_many n p
some n k p l e = omega (arith, how_many-suc p k, ap digit e, how_many-more p (suc k) n l)

-- a word without ones is 0
no_ones : (n w : ℕ) → w < 2 ^ n → ones w ≡ 0 → w ≡ 0
no_ones n w f e = sym (word_of-bits n w f) ∙ word_of-none n (has_bit w)
    (λ i l. is_false (has_bit w i) (λ h. omega (arith, ones-bits n w f, e, some n i (has_bit w) l h)))

-- words that are 0 add nothing
pub taken-rest : (l : List ℕ) (k : ℕ) → k ≤ 32 → ((i : ℕ) → k ≤ i → get_or l i 0 ≡ 0) → taken l 32 ≡ taken l k
unfolding taken
taken-rest l k h f = iter-still (λ i w. Bits.bit_or w (get_or l i 0)) 0 k 32 h
    (λ i g. ap (Bits.bit_or (taken l k)) (f i g) ∙ or_zero_r (taken l k))

-- the tests together
module _ (m : Masks) (z : Sized m) (k n : ℕ) where
  abbrev ends : Bool
  ends = ends_by (taken m.low 32) (taken m.high 32) k

  -- whether each node is one of the first n, or has no slot
  abbrev few_at : ℕ → Bool
  few_at i = ltb i n || eqb (count_of m i) 0

  abbrev few : Bool
  few = all_below 32 few_at

  high_fits : taken m.high 32 < 2 ^ 16
  high_fits = taken-fits m.high 32 16 z.high_fits

  module _ (t : well_formed m ≡ true) where
    -- an owner holds its slot
    hers : (s : ℕ) → s < 80 → (0 < owner_in m s) → holds m (owner_in m s - 1) s ≡ true
    hers s l p = holds-owner m t (owner_in m s - 1) s (omega (arith, owner-le m s)) l
        ∙ eq-eqb (owner_in m s) (owner_in m s - 1 + 1) (omega (arith, p))

    behind : (s : ℕ) → 80 ≤ s → get_or (owners_in m) s 0 ≡ 0
    behind s l = get_or-eq_default (owners_in m) 0 {n = s} (omega (arith, l, length-owners m))

    there : few ≡ true → ends ≡ true → bounded (owners_in m) k n ≡ true
    there f e = bounded-make (owners_in m) k n (λ s l. low s) (λ s l. none s l)
      where
        low : (s : ℕ) → get_or (owners_in m) s 0 ≤ n
        low s =
            by-test (λ (_ : ℕ). get_or (owners_in m) s 0 ≤ n) (ltb s 80) 0 0
            (λ u.
            let l = ltb-true s 80 u in
            let o = owner_at m s l in
            same_or_not (owner_in m s) 0 (λ y. omega (arith, o, y))
            (λ y.
            let i = owner_in m s - 1 in
            let b : i < 32 = omega (arith, owner-le m s, y) in
            let h : owns (owners_in m) i s ≡ true = sym (holds-owns m t i s b l) ∙ hers s l (omega (arith, y)) in
            let c : 0 < count_of m i = omega (arith, count-owned m t z i b, some 80 s (owns (owners_in m) i) l h) in
            let g : i < n = ltb-true i n
            (⊎-first (ltb i n) (eqb (count_of m i) 0) (all-at 32 few_at f i b) (ne_eqb (count_of m i) 0 (λ q. omega (arith, q, c)))) in
            omega (arith, o, g)))
            (λ u. omega (arith, behind s (ltb-false s 80 u)))
          where
            ⊎-first : (a b : Bool) → (a || b) ≡ true → b ≡ false → a ≡ true
            ⊎-first true b p q = refl
            ⊎-first false true p q = clash true refl q
            ⊎-first false false p q = p

        none : (s : ℕ) → k ≤ s → get_or (owners_in m) s 0 ≡ 0
        none s l =
            by-test (λ (_ : ℕ). get_or (owners_in m) s 0 ≡ 0) (ltb s 80) 0 0
            (λ u.
            let b = ltb-true s 80 u in
            owner_at m s b ∙ same_or_not (owner_in m s) 0 (λ y. y)
            (λ y. clash (all m s) (all-has m (owner_in m s - 1) s (omega (arith, owner-le m s, y)) (hers s b (omega (arith, y))))
            (ends-none (taken m.low 32) (taken m.high 32) k high_fits e s l b)))
            (λ u. behind s (ltb-false s 80 u))

    back-few : bounded (owners_in m) k n ≡ true → few ≡ true
    back-few e =
        all-make 32 few_at (λ i l.
        by-test (λ (_ : ℕ). few_at i ≡ true) (ltb i n) 0 0 (λ u. or-front (ltb i n) (eqb (count_of m i) 0) u)
        (λ u.
        let g = ltb-false i n u in
        or-back (ltb i n) (eqb (count_of m i) 0)
        (eq-eqb (count_of m i) 0
        (count-owned m t z i l ∙ how_many-zero 80 (owns (owners_in m) i)
        (λ s b. ne_eqb (get_or (owners_in m) s 0) (i + 1) (λ q. omega (arith, q, g, bounded_at (owners_in m) k n e s)))))))

    back-ends : bounded (owners_in m) k n ≡ true → ends ≡ true
    back-ends e =
        ends-make (taken m.low 32) (taken m.high 32) k (taken-fits m.low 32 64 z.low_fits) high_fits
        (λ s l b. all-lacks m s
        (λ i h. holds-owner m t i s h b ∙ ne_eqb (owner_in m s) (i + 1)
        (λ q. omega (arith, q, sym (owner_at m s b) ∙ bounded-over (owners_in m) k n e s l))))

  pub fits-is : (well_formed m && (few && ends)) ≡ fitting m k n
  unfolding fitting
  fits-is = go (well_formed m) refl
    where
      go : (t : Bool) → well_formed m ≡ t → (t && (few && ends)) ≡ (t && bounded (owners_in m) k n)
      go true t = iff (few && ends) (bounded (owners_in m) k n) (λ e. there t (and_left few ends e) (and_right few ends e))
          (λ e. both (back-few t e) (back-ends t e))
      go false t = refl

  -- Tested in the first nodes, where the others have nothing.
  module _ (top : ℕ) (e : top ≡ min n 32) where
    row : rest_blank m top ≡ true → (i : ℕ) → i < 32 → top ≤ i → (eqb (low_of m i) 0 && (eqb (high_of m i) 0 && eqb (count_of m i) 0)) ≡ true
    row r i l t = or-rest (ltb i top) _ (all-at 32 (blank_at m top) r i l) (le-ltb i top t)

    low-none : rest_blank m top ≡ true → (i : ℕ) → top ≤ i → low_of m i ≡ 0
    low-none r i t =
        by-test (λ (_ : ℕ). low_of m i ≡ 0) (ltb i 32) 0 0
        (λ u. eqb-true (low_of m i) 0 (and_left (eqb (low_of m i) 0) _ (row r i (ltb-true i 32 u) t)))
        (λ u. get_or-eq_default m.low 0 {n = i} (omega (arith, z.lows, ltb-false i 32 u)))

    high-none : rest_blank m top ≡ true → (i : ℕ) → top ≤ i → high_of m i ≡ 0
    high-none r i t =
        by-test (λ (_ : ℕ). high_of m i ≡ 0) (ltb i 32) 0 0
        (λ u. eqb-true (high_of m i) 0
        (and_left (eqb (high_of m i) 0) (eqb (count_of m i) 0) (and_right (eqb (low_of m i) 0) _ (row r i (ltb-true i 32 u) t))))
        (λ u. get_or-eq_default m.high 0 {n = i} (omega (arith, z.highs, ltb-false i 32 u)))

    count_none : rest_blank m top ≡ true → (i : ℕ) → i < 32 → top ≤ i → count_of m i ≡ 0
    count_none r i l t = eqb-true (count_of m i) 0 (and_right (eqb (high_of m i) 0) _ (and_right (eqb (low_of m i) 0) _ (row r i l t)))

    ends_same : rest_blank m top ≡ true → ends_by (taken m.low top) (taken m.high top) k ≡ ends
    ends_same r =
        let h : top ≤ 32 = omega (arith, e) in
        sym (ap₂ (λ (x y : ℕ). ends_by x y k) (taken-rest m.low top h (low-none r)) (taken-rest m.high top h (high-none r)))

    -- a node that has nothing is well formed
    none-tidy : rest_blank m top ≡ true → (i : ℕ) → i < 32 → top ≤ i → well_formed_at m i ≡ true
    unfolding ones
    none-tidy r i l t =
        both
        (all-make i (λ j. apart m j i) (λ j h.
        both (eq-eqb _ 0 (ap (Bits.bit_and (low_of m j)) (low-none r i t) ∙ and_zero_r (low_of m j)))
        (eq-eqb _ 0 (ap (Bits.bit_and (high_of m j)) (high-none r i t) ∙ and_zero_r (high_of m j)))))
        (eq-eqb _ _ (count_none r i l t ∙ sym (ap₂ (λ (x y : ℕ). ones x + ones y) (low-none r i t) (high-none r i t))))

    rows-there : rows_fit m top k ≡ true → rest_blank m top ≡ true → (well_formed m && (few && ends)) ≡ true
    unfolding well_formed
    rows-there a r =
        both
        (all-make 32 (well_formed_at m) (λ i l.
        by-test (λ (_ : ℕ). well_formed_at m i ≡ true) (ltb i top) 0 0
        (λ u. all-at top (well_formed_at m) (and_left (all_below top (well_formed_at m)) _ a) i (ltb-true i top u))
        (λ u. none-tidy r i l (ltb-false i top u))))
        (both
        (all-make 32 few_at (λ i l.
        by-test (λ (_ : ℕ). few_at i ≡ true) (ltb i top) 0 0
        (λ u. or-front (ltb i n) (eqb (count_of m i) 0) (lt-ltb i n (omega (arith, ltb-true i top u, e))))
        (λ u. or-back (ltb i n) (eqb (count_of m i) 0) (eq-eqb (count_of m i) 0 (count_none r i l (ltb-false i top u))))))
        (sym (ends_same r) ∙ and_right (all_below top (well_formed_at m)) _ a))

    rest_back : well_formed m ≡ true → few ≡ true → rest_blank m top ≡ true
    unfolding well_formed
    rest_back t f =
        all-make 32 (blank_at m top) (λ i l.
        by-test (λ (_ : ℕ). blank_at m top i ≡ true) (ltb i top) 0 0 (λ u. or-front (ltb i top) _ u)
        (λ u.
        let g = ltb-false i top u in
        let c : count_of m i ≡ 0 = eqb-true (count_of m i) 0
        (or-rest (ltb i n) _ (all-at 32 few_at f i l) (le-ltb i n (omega (arith, e, g, l)))) in
        let o : count_of m i ≡ ones (low_of m i) + ones (high_of m i) = eqb-true _ _
        (and_right (all_below i (λ j. apart m j i)) (count_right m i) (all-at 32 (well_formed_at m) t i l)) in
        or-back (ltb i top) _
        (both (eq-eqb (low_of m i) 0 (no_ones 64 (low_of m i) (z.low_fits i l) (omega (arith, o, c))))
        (both (eq-eqb (high_of m i) 0 (no_ones 16 (high_of m i) (z.high_fits i l) (omega (arith, o, c)))) (eq-eqb (count_of m i) 0 c)))))

    rows_back : well_formed m ≡ true → few ≡ true → ends ≡ true → rows_fit m top k ≡ true
    unfolding well_formed
    rows_back t f d = both (all-make top (well_formed_at m) (λ i l. all-at 32 (well_formed_at m) t i (omega (arith, l, e))))
        (ends_same (rest_back t f) ∙ d)

    pub first-fit : (rows_fit m top k && rest_blank m top) ≡ fitting m k n
    first-fit =
        iff (rows_fit m top k && rest_blank m top) (well_formed m && (few && ends))
        (λ a. rows-there (and_left (rows_fit m top k) _ a) (and_right (rows_fit m top k) _ a))
        (λ a.
        let t = and_left (well_formed m) _ a in
        let f = and_left few ends (and_right (well_formed m) _ a) in
        let d = and_right few ends (and_right (well_formed m) _ a) in
        both (rows_back t f d) (rest_back t f))
        ∙ fits-is

-- one node that is not well formed
pub rows-wrong : (m : Masks) (i top : ℕ) (t : Bool) → i < top → all_below (i + 1) (well_formed_at m) ≡ false
    → (all_below top (well_formed_at m) && t) ≡ false
rows-wrong m i top t h e =
    ap (λ (x : Bool). x && t)
    (only_if (all_below top (well_formed_at m)) (all_below (i + 1) (well_formed_at m))
    (λ a. all-make (i + 1) (well_formed_at m) (λ j l. all-at top (well_formed_at m) a j (omega (arith, l, h)))) e)

-- bytes that are all 0 are masks that fit
pub blank-fits : (l : List ℕ) (at k n : ℕ) → at + masks_size ≤ length l → bounded (span l at masks_size) 0 0 ≡ true
    → fitting (masks_in l at) k n ≡ true
unfolding fitting
blank-fits l at k n h b =
    let e = no-masks l at h b in
    both (ap well_formed e ∙ made_tidy no_owners)
    (ap (λ (m : Masks). bounded (owners_in m) k n) e ∙ ap (λ (o : List ℕ). bounded o k n) owners-none
    ∙ zeros-bounded 80 k n)
