-- Slots given one by one in masks where they stand: what the masks are then, and that no other byte changes.
-- Assumes nothing.
use mathlib.Core.Path.{◌≡◌, refl, sym, ap, ap₂, ◌∙◌, subst}
use mathlib.Core.Bool.{Bool, false}
use mathlib.Core.List.{List, ◌++◌}
use Prim.Native.Nat.{ℕ, zero, suc, min, ◌+◌, ◌-◌, ◌*◌, ◌^◌, ◌≤◌, ◌<◌}
use native.Mathlib.Nat.{add-zero, zero-add, lt_of_lt_of_le}
use native.Mathlib.Omega.{arith}
use lib.Dec.{eqb, ltb}
use lib.Bits
use lib.Pow.{pow_mono}
use lib.ListN.{length, get_or, set, drop, get_or-append}
use lib.Seq.{ext_get_or, get_or-drop, get_or-set_same, get_or-set_other}
use borrow.Author.Tests.{eq-eqb, ne_eqb, lt-ltb, le-ltb, ltb-true, ltb-false}
use Rattle.words.specs.Bits.{word_of, how_many, digit}
use Rattle.words.proofs.Tests.{by-test, hit, skip}
use Rattle.words.proofs.Laws.{word_more, word_same, word_of-short, word_of-none, word_of-lt}
use Rattle.words.proofs.Counts.{how_many-suc}
use Rattle.lists.specs.All.{tab}
use Rattle.lists.specs.Bytes.{written}
use Rattle.lists.proofs.Bounded.{zeros-bounded}
use Rattle.lists.proofs.Laws.{tab-ext, length-written, get_d-zeros}
use Rattle.lists.proofs.Places.{Apart, apart_none, apart-written, apart-set, apart-then, before-written, in-written, behind-written}
use Rattle.masks.specs.Slots.{Masks}
use Rattle.masks.specs.Slots.{from_words, owns, masks_of, no_owners}
use Rattle.masks.specs.Bytes.{word64, bytes64, word16, bytes16, masks_size, at_high, at_held, masks_bytes, masks_in, no_slots}
use Rattle.masks.specs.Inner.{index_of, marked, marking, granted}
use Rattle.masks.proofs.Parts.{Bytes}
use Rattle.masks.proofs.Turns.{tab-set, turn-hit, turn_at, count-hit, count-pass, count_at, word-pass}
use Rattle.masks.proofs.Turns.{none-owns, how_many-zero, index_is}
use Rattle.masks.proofs.Rows.{word64-back, word16-back, low_read, high_read, count-read, masks-then, length-masks}
use Rattle.masks.proofs.Rows.{zeros-make, no-masks}

-- Words and counts of lists that agree at their bytes

same-64 : (l m : List ℕ) (p : ℕ) → ((j : ℕ) → j < 8 → get_or m (p + j) 0 ≡ get_or l (p + j) 0) → word64 m p ≡ word64 l p
same-64 l m p e =
    let g : (i j : ℕ) → i ≡ p + j → j < 8 → get_or m i 0 ≡ get_or l i 0 = λ i j q r. ap (λ (x : ℕ). get_or m x 0) q ∙ e j r
    ∙ ap (λ (x : ℕ). get_or l x 0) (sym q) in
    λ i.
    (g p 0 (omega arith) (omega arith) i * 16777216 + g (p + 1) 1 refl (omega arith) i * 65536 + g (p + 2) 2 refl (omega arith) i * 256
    + g (p + 3) 3 refl (omega arith) i) * 4294967296
    + (g (p + 4) 4 refl (omega arith) i * 16777216 + g (p + 4 + 1) 5 (omega arith) (omega arith) i * 65536
    + g (p + 4 + 2) 6 (omega arith) (omega arith) i * 256 + g (p + 4 + 3) 7 (omega arith) (omega arith) i)

same-16 : (l m : List ℕ) (p : ℕ) → ((j : ℕ) → j < 2 → get_or m (p + j) 0 ≡ get_or l (p + j) 0) → word16 m p ≡ word16 l p
same-16 l m p e =
    let z : p ≡ p + 0 = omega arith in
    let g : get_or m p 0 ≡ get_or l p 0 = ap (λ (x : ℕ). get_or m x 0) z ∙ e 0 (omega arith) ∙ ap (λ (x : ℕ). get_or l x 0) (sym z) in
    λ i. g i * 256 + e 1 (omega arith) i

-- a byte before or behind what changed
kept : {l m : List ℕ} {at n : ℕ} → Apart l m at n → (q : ℕ) → (at ≤ q → at + n ≤ q) → get_or m q 0 ≡ get_or l q 0
kept {l} {m} {at} {n} a q h =
    by-test (λ (_ : ℕ). get_or m q 0 ≡ get_or l q 0) (ltb q at) 0 0 (λ t. a.below q (ltb-true q at t)) (λ t. a.above q (h (ltb-false q at t)))

-- one row of the masks at a place written over
module _ (l : List ℕ) (at i : ℕ) (room : at + masks_size ≤ length l) (u : i < 32) where
  -- its first word
  module _ (x : ℕ) (fits : x < 2 ^ 64) where
    abbrev m1 : List ℕ
    m1 = written l (at + 8 * i) (bytes64 x)

    a1 : Apart l m1 (at + 8 * i) 8
    a1 = apart-written l (bytes64 x) (at + 8 * i) (at + 8 * i) 8 (omega arith) (omega arith) (omega (arith, room, u))

    pub low-put : masks_in m1 at ≡ from_words (set (masks_in l at).low i x) (masks_in l at).high (masks_in l at).counts
    unfolding masks_in
    low-put =
        let f : ℕ → ℕ = λ j. word64 l (at + 8 * j) in
        let g : ℕ → ℕ = λ j. word64 m1 (at + 8 * j) in
        let p : set (tab 32 f) i x ≡ tab 32 g =
        tab-set 32 f g (tab 32 f) i x refl u
        (sym (word64-back x fits m1 (at + 8 * i) (λ j r. in-written l (bytes64 x) (at + 8 * i) (omega (arith, room, u)) j r)))
        (λ j b z. sym (same-64 l m1 (at + 8 * j) (λ k r. kept a1 (at + 8 * j + k) (λ h. omega (arith, r, z, h))))) in
        let q = tab-ext 32 (λ j. word16 m1 (at + at_high + 2 * j)) (λ j. word16 l (at + at_high + 2 * j))
        (λ j b. same-16 l m1 (at + at_high + 2 * j) (λ k r. kept a1 (at + at_high + 2 * j + k) (λ h. omega (arith, u)))) in
        let r = tab-ext 32 (λ j. get_or m1 (at + at_held + j) 0) (λ j. get_or l (at + at_held + j) 0)
        (λ j b. kept a1 (at + at_held + j) (λ h. omega (arith, u))) in
        λ i. from_words (sym p i) (q i) (r i)

  -- its second word
  module _ (x : ℕ) (fits : x < 2 ^ 16) where
    abbrev m2 : List ℕ
    m2 = written l (at + at_high + 2 * i) (bytes16 x)

    a2 : Apart l m2 (at + at_high + 2 * i) 2
    a2 = apart-written l (bytes16 x) (at + at_high + 2 * i) (at + at_high + 2 * i) 2 (omega arith) (omega arith) (omega (arith, room, u))

    pub high-put : masks_in m2 at ≡ from_words (masks_in l at).low (set (masks_in l at).high i x) (masks_in l at).counts
    unfolding masks_in
    high-put =
        let f : ℕ → ℕ = λ j. word16 l (at + at_high + 2 * j) in
        let g : ℕ → ℕ = λ j. word16 m2 (at + at_high + 2 * j) in
        let p : set (tab 32 f) i x ≡ tab 32 g =
        tab-set 32 f g (tab 32 f) i x refl u
        (sym (word16-back x fits m2 (at + at_high + 2 * i)
        (λ j r. in-written l (bytes16 x) (at + at_high + 2 * i) (omega (arith, room, u)) j r)))
        (λ j b z. sym (same-16 l m2 (at + at_high + 2 * j) (λ k r. kept a2 (at + at_high + 2 * j + k) (λ h. omega (arith, r, z, h))))) in
        let q = tab-ext 32 (λ j. word64 m2 (at + 8 * j)) (λ j. word64 l (at + 8 * j))
        (λ j b. same-64 l m2 (at + 8 * j) (λ k r. kept a2 (at + 8 * j + k) (λ h. absurd (omega (arith, b, r, h))))) in
        let r = tab-ext 32 (λ j. get_or m2 (at + at_held + j) 0) (λ j. get_or l (at + at_held + j) 0)
        (λ j b. kept a2 (at + at_held + j) (λ h. omega (arith, u))) in
        λ i. from_words (q i) (sym p i) (r i)

  -- its count
  module _ (x : ℕ) where
    abbrev m3 : List ℕ
    m3 = set l (at + at_held + i) x

    a3 : Apart l m3 (at + at_held + i) 1
    a3 = apart-set l (at + at_held + i) x (at + at_held + i) 1 (omega arith) (omega arith)

    pub count-put : masks_in m3 at ≡ from_words (masks_in l at).low (masks_in l at).high (set (masks_in l at).counts i x)
    unfolding masks_in
    count-put =
        let f : ℕ → ℕ = λ j. get_or l (at + at_held + j) 0 in
        let g : ℕ → ℕ = λ j. get_or m3 (at + at_held + j) 0 in
        let p : set (tab 32 f) i x ≡ tab 32 g =
        tab-set 32 f g (tab 32 f) i x refl u (sym (get_or-set_same l (at + at_held + i) x 0 (omega (arith, room, u))))
        (λ j b z. sym (get_or-set_other l (at + at_held + i) (at + at_held + j) x 0 (λ e. z (omega (arith, e))))) in
        let q = tab-ext 32 (λ j. word64 m3 (at + 8 * j)) (λ j. word64 l (at + 8 * j))
        (λ j b. same-64 l m3 (at + 8 * j) (λ k r. kept a3 (at + 8 * j + k) (λ h. absurd (omega (arith, b, r, h))))) in
        let r = tab-ext 32 (λ j. word16 m3 (at + at_high + 2 * j)) (λ j. word16 l (at + at_high + 2 * j))
        (λ j b. same-16 l m3 (at + at_high + 2 * j) (λ k r. kept a3 (at + at_high + 2 * j + k) (λ h. absurd (omega (arith, b, r, h))))) in
        λ i. from_words (q i) (r i) (sym p i)

-- The masks of owners, slot by slot

-- those of the first k slots
unfoldable pub masks_to : List ℕ → ℕ → Masks
masks_to o k =
    from_words (tab 32 (λ i. word_of (min k 64) (owns o i))) (tab 32 (λ i. word_of (k - 64) (λ j. owns o i (64 + j))))
    (tab 32 (λ i. how_many k (owns o i)))

-- of none
pub masks-none : (o : List ℕ) → masks_to o 0 ≡ masks_of no_owners
unfolding masks_to masks_of word_of how_many
masks-none o =
    let no : (i k : ℕ) → owns no_owners i k ≡ false = none-owns no_owners (zeros-bounded 80 0 0) in
    let p = tab-ext 32 (λ i. word_of 0 (owns o i)) (λ i. word_of 64 (owns no_owners i))
    (λ i h. sym (word_of-none 64 (owns no_owners i) (λ k b. no i k))) in
    let q = tab-ext 32 (λ i. word_of 0 (λ j. owns o i (64 + j))) (λ i. word_of 16 (λ j. owns no_owners i (64 + j)))
    (λ i h. sym (word_of-none 16 (λ j. owns no_owners i (64 + j)) (λ k b. no i (64 + k)))) in
    let r = tab-ext 32 (λ i. how_many 0 (owns o i)) (λ i. how_many 80 (owns no_owners i))
    (λ i h. sym (how_many-zero 80 (owns no_owners i) (λ k b. no i k))) in
    λ i. from_words (p i) (q i) (r i)

-- masks that were cleared are those
pub cleared-masks : (l : List ℕ) (at : ℕ) → at + masks_size ≤ length l → masks_in (written l at no_slots) at ≡ masks_of no_owners
cleared-masks l at h =
    let m = written l at no_slots in
    let z : at + length no_slots ≤ length l = omega (arith, h) in
    let w : length m ≡ length l = length-written l no_slots at z in
    no-masks m at (omega (arith, w, h))
    (zeros-make m at masks_size (λ p a b.
    let e : at + (p - at) ≡ p = omega (arith, a) in
    ap (λ (x : ℕ). get_or m x 0) (sym e) ∙ in-written l no_slots at z (p - at) (omega (arith, a, b)) ∙ get_d-zeros masks_size (p - at)))

-- one slot more, by the three lists of the masks so far
module _ (o : List ℕ) (k : ℕ) (low high counts : List ℕ) where
  -- the slot is one of the first 64
  pub more-low : k < 64 → low ≡ tab 32 (λ i. word_of (k + 1) (owns o i)) → high ≡ tab 32 (λ i. word_of (k - 64) (λ j. owns o i (64 + j)))
      → counts ≡ tab 32 (λ i. how_many (k + 1) (owns o i)) → from_words low high counts ≡ masks_to o (k + 1)
  unfolding masks_to
  more-low h p q r =
      let x : k + 1 ≡ min (k + 1) 64 = omega (arith, h) in
      let y : k - 64 ≡ k + 1 - 64 = omega (arith, h) in
      λ i. from_words ((p ∙ ap (λ (n : ℕ). tab 32 (λ i. word_of n (owns o i))) x) i)
      ((q ∙ ap (λ (n : ℕ). tab 32 (λ i. word_of n (λ j. owns o i (64 + j)))) y) i) (r i)

  -- or one of the others
  pub more-high : 64 ≤ k → low ≡ tab 32 (λ i. word_of (min k 64) (owns o i)) → high
      ≡ tab 32 (λ i. word_of (k - 64 + 1) (λ j. owns o i (64 + j)))
      → counts ≡ tab 32 (λ i. how_many (k + 1) (owns o i)) → from_words low high counts ≡ masks_to o (k + 1)
  unfolding masks_to
  more-high h p q r =
      let x : min k 64 ≡ min (k + 1) 64 = omega (arith, h) in
      let y : k - 64 + 1 ≡ k + 1 - 64 = omega (arith, h) in
      λ i. from_words ((p ∙ ap (λ (n : ℕ). tab 32 (λ i. word_of n (owns o i))) x) i)
      ((q ∙ ap (λ (n : ℕ). tab 32 (λ i. word_of n (λ j. owns o i (64 + j)))) y) i) (r i)

-- a turn: r is where the owner of slot k stands
module _ (o l : List ℕ) (at k r : ℕ) (room : at + masks_size ≤ length l) (index : r ≡ index_of (get_or o k 0)) (so : masks_in l at ≡ masks_to o k)
  where
    one : (i : ℕ) → i < 32 → owns o i k ≡ eqb r i
    one = index_is (get_or o k 0) r index

    high_one : 64 ≤ k → (i : ℕ) → i < 32 → owns o i (64 + (k - 64)) ≡ eqb r i
    high_one h i b = let e : 64 + (k - 64) ≡ k = omega (arith, h) in ap (owns o i) e ∙ one i b

    lows : (masks_in l at).low ≡ tab 32 (λ i. word_of (min k 64) (owns o i))
    unfolding masks_to
    lows = ap (λ (m : Masks). m.low) so

    few-lows : k < 64 → (masks_in l at).low ≡ tab 32 (λ i. word_of k (owns o i))
    few-lows h = let e : min k 64 ≡ k = omega (arith, h) in lows ∙ ap (λ (n : ℕ). tab 32 (λ i. word_of n (owns o i))) e

    highs : (masks_in l at).high ≡ tab 32 (λ i. word_of (k - 64) (λ j. owns o i (64 + j)))
    unfolding masks_to
    highs = ap (λ (m : Masks). m.high) so

    counts : (masks_in l at).counts ≡ tab 32 (λ i. how_many k (owns o i))
    unfolding masks_to
    counts = ap (λ (m : Masks). m.counts) so

    -- no node has the slot
    turn-none : 32 ≤ r → masks_in l at ≡ masks_to o (k + 1)
    turn-none h =
        by-test (λ (_ : ℕ). masks_in l at ≡ masks_to o (k + 1)) (ltb k 64) 0 0
        (λ t.
        let u = ltb-true k 64 t in
        more-low o k (masks_in l at).low (masks_in l at).high (masks_in l at).counts u
        (word-pass (owns o) k r one (masks_in l at).low (few-lows u) h) highs (count-pass (owns o) k r one (masks_in l at).counts counts h))
        (λ t.
        let u = ltb-false k 64 t in
        more-high o k (masks_in l at).low (masks_in l at).high (masks_in l at).counts u lows
        (word-pass (λ i j. owns o i (64 + j)) (k - 64) r (high_one u) (masks_in l at).high highs h)
        (count-pass (owns o) k r one (masks_in l at).counts counts h))

    module _ (h : r < 32) where
      held : get_or l (at + at_held + r) 0 ≡ get_or (masks_in l at).counts r 0
      held = count-read l at r h

      held-few : get_or l (at + at_held + r) 0 ≤ k
      held-few = omega (arith, held, count_at (owns o) k r one (masks_in l at).counts counts h)

      counts-more : set (masks_in l at).counts r (get_or l (at + at_held + r) 0 + 1) ≡ tab 32 (λ i. how_many (k + 1) (owns o i))
      counts-more = ap (λ (x : ℕ). set (masks_in l at).counts r (x + 1)) held ∙ count-hit (owns o) k r one (masks_in l at).counts counts h

      -- the node at index r has it
      given-low : k < 64 → masks_in (marking l at r k) at ≡ masks_to o (k + 1)
      given-low u =
          let x : ℕ = Bits.bit_or (word64 l (at + 8 * r)) (2 ^ k) in
          let y : ℕ = get_or l (at + at_held + r) 0 + 1 in
          let w : word64 l (at + 8 * r) ≡ word_of k (owns o r) =
          low_read l at r h ∙ turn_at word_of word_same (owns o) k r one (masks_in l at).low (few-lows u) h in
          let g : x ≡ word_of (k + 1) (owns o r) = ap (λ (z : ℕ). Bits.bit_or z (2 ^ k)) w
          ∙ word_more k (owns o r) (one r h ∙ eq-eqb r r refl)
          in
          let s : k + 1 ≤ 64 = omega (arith, u) in
          let f : x < 2 ^ 64 = subst (λ (z : ℕ). z < 2 ^ 64) (sym g) (lt_of_lt_of_le (word_of-lt (k + 1) (owns o r)) (pow_mono s)) in
          let m : List ℕ = written l (at + 8 * r) (bytes64 x) in
          let z : at + masks_size ≤ length m = omega (arith, length-written l (bytes64 x) (at + 8 * r) (omega (arith, room, h)), room) in
          ap (λ (n : List ℕ). masks_in (set n (at + at_held + r) y) at) (hit (ltb k 64) m _ (lt-ltb k 64 u))
          ∙ count-put m at r z h y ∙ ap (λ (n : Masks). from_words n.low n.high (set n.counts r y)) (low-put l at r room h x f)
          ∙ more-low o k (set (masks_in l at).low r x) (masks_in l at).high (set (masks_in l at).counts r y) u
          (turn-hit word_of word_same (owns o) k r one (masks_in l at).low (few-lows u) h x g) highs counts-more

      given-high : 64 ≤ k → k < 80 → masks_in (marking l at r k) at ≡ masks_to o (k + 1)
      given-high u v =
          let q : ℕ → ℕ → Bool = λ i j. owns o i (64 + j) in
          let x : ℕ = Bits.bit_or (word16 l (at + at_high + 2 * r)) (2 ^ (k - 64)) in
          let y : ℕ = get_or l (at + at_held + r) 0 + 1 in
          let w : word16 l (at + at_high + 2 * r) ≡ word_of (k - 64) (q r) =
          high_read l at r h ∙ turn_at word_of word_same q (k - 64) r (high_one u) (masks_in l at).high highs h in
          let g : x ≡ word_of (k - 64 + 1) (q r) =
          ap (λ (z : ℕ). Bits.bit_or z (2 ^ (k - 64))) w ∙ word_more (k - 64) (q r) (high_one u r h ∙ eq-eqb r r refl) in
          let s : k - 64 + 1 ≤ 16 = omega (arith, v) in
          let f : x < 2 ^ 16 = subst (λ (z : ℕ). z < 2 ^ 16) (sym g) (lt_of_lt_of_le (word_of-lt (k - 64 + 1) (q r)) (pow_mono s)) in
          let m : List ℕ = written l (at + at_high + 2 * r) (bytes16 x) in
          let z : at + masks_size ≤ length m =
          omega (arith, length-written l (bytes16 x) (at + at_high + 2 * r) (omega (arith, room, h)), room)
          in
          ap (λ (n : List ℕ). masks_in (set n (at + at_held + r) y) at) (skip (ltb k 64) _ m m (le-ltb k 64 u) refl)
          ∙ count-put m at r z h y ∙ ap (λ (n : Masks). from_words n.low n.high (set n.counts r y)) (high-put l at r room h x f)
          ∙ more-high o k (masks_in l at).low (set (masks_in l at).high r x) (set (masks_in l at).counts r y) u lows
          (turn-hit word_of word_same q (k - 64) r (high_one u) (masks_in l at).high highs h x g) counts-more

      turn-given : k < 80 → masks_in (marking l at r k) at ≡ masks_to o (k + 1)
      turn-given v = by-test (λ (_ : ℕ). masks_in (marking l at r k) at ≡ masks_to o (k + 1)) (ltb k 64) 0 0
          (λ t. given-low (ltb-true k 64 t))
          (λ t. given-high (ltb-false k 64 t) v)

-- a turn of the loop
module _ (o l : List ℕ) (at k : ℕ) (room : at + masks_size ≤ length l) (so : masks_in l at ≡ masks_to o k) where
  pub held-le : index_of (get_or o k 0) < 32 → get_or l (at + at_held + index_of (get_or o k 0)) 0 ≤ k
  held-le h = held-few o l at k (index_of (get_or o k 0)) room refl so h

  pub grant-turn : k < 80 → masks_in (granted l at (get_or o k 0) k) at ≡ masks_to o (k + 1)
  grant-turn v =
      let r = index_of (get_or o k 0) in
      by-test (λ (m : List ℕ). masks_in m at ≡ masks_to o (k + 1)) (ltb r 32) (marking l at r k) l
      (λ t. turn-given o l at k r room refl so (ltb-true r 32 t) v) (λ t. turn-none o l at k r room refl so (ltb-false r 32 t))

-- a slot that is given changes no byte but the masks'
marking-apart : (l : List ℕ) (at i k : ℕ) → at + masks_size ≤ length l → i < 32 → Apart l (marking l at i k) at masks_size
marking-apart l at i k room u =
    apart-then
    (by-test (λ (m : List ℕ). Apart l m at masks_size) (ltb k 64) _ _
    (λ t. apart-written l (bytes64 (Bits.bit_or (word64 l (at + 8 * i)) (2 ^ k))) (at + 8 * i) at masks_size (omega arith) (omega (arith, u))
    (omega (arith, u, room)))
    (λ t. apart-written l (bytes16 (Bits.bit_or (word16 l (at + at_high + 2 * i)) (2 ^ (k - 64)))) (at + at_high + 2 * i) at masks_size
    (omega arith)
    (omega (arith, u)) (omega (arith, u, room))))
    (apart-set (marked l at i k) (at + at_held + i) (get_or l (at + at_held + i) 0 + 1) at masks_size (omega arith) (omega (arith, u)))

pub grant-apart : (l : List ℕ) (at j k : ℕ) → at + masks_size ≤ length l → Apart l (granted l at j k) at masks_size
grant-apart l at j k room =
    by-test (λ (m : List ℕ). Apart l m at masks_size) (ltb (index_of j) 32) (marking l at (index_of j) k) l
    (λ t. marking-apart l at (index_of j) k room (ltb-true (index_of j) 32 t)) (λ t. apart_none l at masks_size)

-- the end: a slot from k up has no owner
module _ (o : List ℕ) (k : ℕ) (h : k ≤ 80) (none : (j : ℕ) → k ≤ j → j < 80 → get_or o j 0 ≡ 0) where
  no : (i j : ℕ) → k ≤ j → j < 80 → owns o i j ≡ false
  no i j a b = ne_eqb (get_or o j 0) (i + 1) (λ e. omega (arith, e, none j a b))

  few : (n : ℕ) (p : ℕ → Bool) (m : ℕ) → ((i : ℕ) → n ≤ i → i < n + m → p i ≡ false) → how_many (n + m) p ≡ how_many n p
  few n p zero g = ap (λ (x : ℕ). how_many x p) (add-zero n)
  few n p (suc m) g =
      let e : n + suc m ≡ suc (n + m) = omega arith in
      ap (λ (x : ℕ). how_many x p) e ∙ how_many-suc p (n + m)
      ∙ ap₂ (λ (t : Bool) (x : ℕ). digit t + x) (g (n + m) (omega arith) (omega arith)) (few n p m (λ i a b. g i a (omega (arith, b))))
      ∙ zero-add (how_many n p)

  pub masks-end : masks_to o k ≡ masks_of o
  unfolding masks_to masks_of
  masks-end =
      let a : min k 64 + (64 - min k 64) ≡ 64 = omega arith in
      let b : k - 64 + (16 - (k - 64)) ≡ 16 = omega (arith, h) in
      let c : k + (80 - k) ≡ 80 = omega (arith, h) in
      let p = tab-ext 32 (λ i. word_of (min k 64) (owns o i)) (λ i. word_of 64 (owns o i))
      (λ i u. sym (ap (λ (n : ℕ). word_of n (owns o i)) (sym a)
      ∙ word_of-short (min k 64) (64 - min k 64) (owns o i) (λ j x y. no i j (omega (arith, x, y)) (omega (arith, y, a))))) in
      let q = tab-ext 32 (λ i. word_of (k - 64) (λ j. owns o i (64 + j))) (λ i. word_of 16 (λ j. owns o i (64 + j)))
      (λ i u. sym (ap (λ (n : ℕ). word_of n (λ j. owns o i (64 + j))) (sym b)
      ∙ word_of-short (k - 64) (16 - (k - 64)) (λ j. owns o i (64 + j))
      (λ j x y. no i (64 + j) (omega (arith, x)) (omega (arith, y, b))))) in
      let r = tab-ext 32 (λ i. how_many k (owns o i)) (λ i. how_many 80 (owns o i))
      (λ i u. sym (ap (λ (n : ℕ). how_many n (owns o i)) (sym c) ∙ few k (owns o i) (80 - k) (λ j x y. no i j x (omega (arith, y, c))))) in
      λ i. from_words (p i) (q i) (r i)

-- masks that stand at a place, with no other byte changed, are written there
pub written-masks : (l m : List ℕ) (at : ℕ) (x : Masks) → Bytes m → at + masks_size ≤ length l → Apart l m at masks_size → masks_in m at ≡ x
    → m ≡ written l at (masks_bytes x)
written-masks l m at x b room a e =
    let w = masks_bytes x in
    let z : length w ≡ masks_size = length-masks x in
    let s : at + length w ≤ length l = omega (arith, z, room) in
    let d : w ++ drop (at + masks_size) m ≡ drop at m =
    ap (λ (y : Masks). masks_bytes y ++ drop (at + masks_size) m) (sym e)
    ∙ masks-then m at (at + masks_size) (drop (at + masks_size) m) b (omega (arith, a.long, room)) refl refl in
    ext_get_or 0 m (written l at w) (a.long ∙ sym (length-written l w at s))
    (λ p g.
    by-test (λ (_ : ℕ). get_or m p 0 ≡ get_or (written l at w) p 0) (ltb p at) 0 0
    (λ t. a.below p (ltb-true p at t) ∙ sym (before-written l w at s p (ltb-true p at t)))
    (λ t.
    let f = ltb-false p at t in
    by-test (λ (_ : ℕ). get_or m p 0 ≡ get_or (written l at w) p 0) (ltb p (at + masks_size)) 0 0
    (λ u.
    let v = ltb-true p (at + masks_size) u in
    let y : at + (p - at) ≡ p = omega (arith, f) in
    ap (λ (n : ℕ). get_or m n 0) (sym y) ∙ sym (get_or-drop at m (p - at) 0) ∙ ap (λ (n : List ℕ). get_or n (p - at) 0) (sym d)
    ∙ get_or-append w (drop (at + masks_size) m) 0 (p - at) (omega (arith, z, v, f))
    ∙ sym (in-written l w at s (p - at) (omega (arith, z, v, f))) ∙ ap (λ (n : ℕ). get_or (written l at w) n 0) y)
    (λ u. let v = ltb-false p (at + masks_size) u in a.above p v ∙ sym (behind-written l w at s p (omega (arith, z, v))))))
