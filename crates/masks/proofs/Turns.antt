-- Turns of the loops: a table of nodes changed at one of them, and owners given by a word.
-- Assumes nothing.
use mathlib.Core.Path.{◌≡◌, refl, sym, ap, ap₂, ◌∙◌}
use mathlib.Core.Bool.{Bool, true, false, cond, ◌&&◌, and-false, and-true}
use mathlib.Core.List.{List}
use Prim.Native.Nat.{ℕ, zero, suc, ◌+◌, ◌-◌, ◌/◌, ◌%◌, ◌^◌, ◌≤◌, ◌<◌}
use native.Mathlib.Omega.{arith}
use native.Mathlib.Numerals.{add-one}
use lib.Dec.{eqb, ltb, leb}
use lib.Count.{count_trailing_zeros}
use lib.Pow.{shr-shr}
use lib.ListN.{length, get_or, set, length-set, replicate, length-replicate, get_or-replicate}
use lib.Seq.{ext_get_or, get_or-set_same, get_or-set_other}
use borrow.Author.Tests.{eq-eqb, ne_eqb, lt-ltb, le-ltb, le-leb, lt-leb, ltb-true, ltb-false}
use Rattle.words.specs.Bits.{has_bit, digit, word_of, how_many}
use Rattle.words.proofs.Tests.{clash, by-test, same_or_not, hit, skip}
use Rattle.words.proofs.Laws.{word_same, has_bit-out}
use Rattle.words.proofs.Counts.{how_many-suc}
use Rattle.lists.specs.All.{tab, bounded}
use Rattle.lists.proofs.Bounded.{bounded-over}
use Rattle.lists.proofs.Laws.{length-tab, get_d-tab, tab-ext}
use Rattle.masks.specs.Slots.{has_slot, first, owns}
use Rattle.masks.specs.Inner.{slot_given_at, slots_given, index_of}
use Rattle.masks.proofs.Bits.{no_bits, zeros-below, lowest-bit}
use Rattle.masks.proofs.First.{first-suc}

-- where the node of a number stands, and no other
pub index_is : (j r : ℕ) → r ≡ index_of j → (i : ℕ) → i < 32 → eqb j (i + 1) ≡ eqb r i
index_is zero r e i l = ne_eqb 0 (i + 1) (λ f. omega (arith, f)) ∙ sym (ne_eqb r i (λ f. omega (arith, f, e, l)))
index_is (suc j) r e i l =
    let d : r ≡ j = e ∙ skip (eqb (suc j) 0) 32 (suc j - 1) j (ne_eqb (suc j) 0 (λ f. omega (arith, f))) (omega arith) in
    same_or_not j i
    (λ f. eq-eqb (suc j) (i + 1) (omega (arith, f)) ∙ sym (eq-eqb r i (omega (arith, d, f))))
    (λ f. ne_eqb (suc j) (i + 1) (λ g. f (omega (arith, g))) ∙ sym (ne_eqb r i (λ g. f (omega (arith, g, d)))))

-- a list with an entry for each of n nodes, by a rule: changed at one
pub tab-set : (n : ℕ) (f g : ℕ → ℕ) (l : List ℕ) (r x : ℕ) → l ≡ tab n f → r < n → x ≡ g r → ((i : ℕ) → i < n → (i ≡ r → ⊥) → f i ≡ g i)
    → set l r x ≡ tab n g
tab-set n f g l r x e h k s =
    let m : length l ≡ n = ap length e ∙ length-tab n f in
    ext_get_or 0 (set l r x) (tab n g) (length-set l r x ∙ m ∙ sym (length-tab n g))
    (λ i b.
    let w : i < n = omega (arith, b, length-set l r x, m) in
    same_or_not i r
    (λ z. ap (λ (y : ℕ). get_or (set l r x) y 0) z ∙ get_or-set_same l r x 0 (omega (arith, h, m)) ∙ k ∙ ap g (sym z)
    ∙ sym (get_d-tab 0 n g i w))
    (λ z. get_or-set_other l r i x 0 z ∙ ap (λ (y : List ℕ). get_or y i 0) e ∙ get_d-tab 0 n f i w ∙ s i w z ∙ sym (get_d-tab 0 n g i w)))

pub tab-zeros : (n : ℕ) (f : ℕ → ℕ) → ((i : ℕ) → i < n → f i ≡ 0) → replicate n 0 ≡ tab n f
tab-zeros n f h =
    let z : ℕ = 0 in
    let m : length (replicate n z) ≡ n = length-replicate n z in
    ext_get_or 0 (replicate n 0) (tab n f) (m ∙ sym (length-tab n f))
    (λ i b. let w : i < n = omega (arith, b, m) in get_or-replicate n i 0 0 w ∙ sym (h i w) ∙ sym (get_d-tab 0 n f i w))

-- how many pass a test: no more than were tried
pub how_many-le : (n : ℕ) (p : ℕ → Bool) → how_many n p ≤ n
unfolding how_many
how_many-le zero p = omega arith
how_many-le (suc n) p = by-test (λ (_ : ℕ). digit (p n) + how_many n p ≤ suc n) (p n) 0 0 (λ e. omega (arith, ap digit e, how_many-le n p))
    (λ e. omega (arith, ap digit e, how_many-le n p))

-- of tests q for each of 32 nodes a number that grows with the tests passed: r is the node that passes at k, if any does
module _ (F : ℕ → (ℕ → Bool) → ℕ) (still : (n : ℕ) (p : ℕ → Bool) → p n ≡ false → F n p ≡ F (n + 1) p) (q : ℕ → ℕ → Bool) (k r : ℕ)
    (one : (i : ℕ) → i < 32 → q i k ≡ eqb r i)
    (l : List ℕ) (e : l ≡ tab 32 (λ i. F k (q i))) where
  pub turn-hit : r < 32 → (x : ℕ) → x ≡ F (k + 1) (q r) → set l r x ≡ tab 32 (λ i. F (k + 1) (q i))
  turn-hit h x g = tab-set 32 (λ i. F k (q i)) (λ i. F (k + 1) (q i)) l r x e h g
      (λ i b z. still k (q i) (one i b ∙ ne_eqb r i (λ f. z (sym f))))

  pub turn-pass : 32 ≤ r → l ≡ tab 32 (λ i. F (k + 1) (q i))
  turn-pass h = e ∙ tab-ext 32 (λ i. F k (q i)) (λ i. F (k + 1) (q i))
      (λ i b. still k (q i) (one i b ∙ ne_eqb r i (λ f. omega (arith, f, h, b))))

  pub turn_at : r < 32 → get_or l r 0 ≡ F k (q r)
  turn_at h = ap (λ (y : List ℕ). get_or y r 0) e ∙ get_d-tab 0 32 (λ i. F k (q i)) r h

count_same : (n : ℕ) (p : ℕ → Bool) → p n ≡ false → how_many n p ≡ how_many (n + 1) p
count_same n p e = omega (arith, ap (λ (m : ℕ). how_many m p) (add-one n) ∙ how_many-suc p n ∙ ap (λ (t : Bool). digit t + how_many n p) e)

count-more : (n : ℕ) (p : ℕ → Bool) → p n ≡ true → how_many n p + 1 ≡ how_many (n + 1) p
count-more n p e = omega (arith, ap (λ (m : ℕ). how_many m p) (add-one n) ∙ how_many-suc p n ∙ ap (λ (t : Bool). digit t + how_many n p) e)

pub how_many-zero : (n : ℕ) (p : ℕ → Bool) → ((i : ℕ) → i < n → p i ≡ false) → how_many n p ≡ 0
unfolding how_many
how_many-zero zero p h = refl
how_many-zero (suc n) p h = omega (arith, ap digit (h n (omega arith)), how_many-zero n p (λ i l. h i (omega (arith, l))))

-- where all slots are free, no node owns any
pub none-owns : (owners : List ℕ) → bounded owners 0 0 ≡ true → (i k : ℕ) → owns owners i k ≡ false
none-owns owners h i k = ne_eqb (get_or owners k 0) (i + 1)
    (λ e. let z : get_or owners k 0 ≡ 0 = bounded-over owners 0 0 h k (omega arith) in omega (arith, e, z))

-- as a bit, of words of n bits
module _ (q : ℕ → ℕ → Bool) (k r : ℕ) (one : (i : ℕ) → i < 32 → q i k ≡ eqb r i) (l : List ℕ) where
  pub word-pass : l ≡ tab 32 (λ i. word_of k (q i)) → 32 ≤ r → l ≡ tab 32 (λ i. word_of (k + 1) (q i))
  word-pass e h = turn-pass word_of word_same q k r one l e h

  -- as one more
  pub count_at : l ≡ tab 32 (λ i. how_many k (q i)) → r < 32 → get_or l r 0 ≤ k
  count_at e h = omega (arith, turn_at how_many count_same q k r one l e h, how_many-le k (q r))

  pub count-hit : l ≡ tab 32 (λ i. how_many k (q i)) → r < 32 → set l r (get_or l r 0 + 1) ≡ tab 32 (λ i. how_many (k + 1) (q i))
  count-hit e h = turn-hit how_many count_same q k r one l e h _
      (ap (λ (x : ℕ). x + 1) (turn_at how_many count_same q k r one l e h) ∙ count-more k (q r) (one r h ∙ eq-eqb r r refl))

  pub count-pass : l ≡ tab 32 (λ i. how_many k (q i)) → 32 ≤ r → l ≡ tab 32 (λ i. how_many (k + 1) (q i))
  count-pass e h = turn-pass how_many count_same q k r one l e h

-- a bit that is set stands within the word
bit-within : (w n i : ℕ) → w < 2 ^ n → has_bit w i ≡ true → i < n
bit-within w n i h e = by-test (λ (_ : ℕ). i < n) (ltb i n) 0 0 (λ t. ltb-true i n t)
    (λ t. clash (has_bit w i) e (has_bit-out w n i h (ltb-false i n t)))

-- the next bit of a word w of m bits, where rest is what is left of it from its bit d on: it stands t bits further on
pub record Next (w d m rest t : ℕ) : Type 0 where
  pub within : d + t < m
  pub short : t < 64
  pub bit : has_bit w (d + t) ≡ true
  pub none : (i : ℕ) → d ≤ i → i < d + t → has_bit w i ≡ false
  pub left : rest / 2 ^ t / 2 ^ 1 ≡ w / 2 ^ (d + t + 1)

pub next_bit : (w d m rest : ℕ) → rest ≡ w / 2 ^ d → w < 2 ^ m → rest < 2 ^ 64 → 0 < rest → Next w d m rest (count_trailing_zeros 64 rest)
next_bit w d m rest q h k p =
    let t = count_trailing_zeros 64 rest in
    let at : (i : ℕ) → rest / 2 ^ i ≡ w / 2 ^ (d + i) = λ i. ap (λ (x : ℕ). x / 2 ^ i) q ∙ shr-shr w d i in
    let b : rest / 2 ^ t % 2 ≡ 1 = lowest-bit 64 rest p k in
    let s : has_bit w (d + t) ≡ true = eq-eqb (w / 2 ^ (d + t) % 2) 1 (ap (λ (x : ℕ). x % 2) (sym (at t)) ∙ b) in
    record {
      within = bit-within w m (d + t) h s;
      short = bit-within rest 64 t k (eq-eqb (rest / 2 ^ t % 2) 1 b);
      bit = s;
      none = λ i l g.
          let e : d + (i - d) ≡ i = omega (arith, l) in
          let z : w / 2 ^ i % 2 ≡ 0 = ap (λ (x : ℕ). x % 2) (ap (λ (x : ℕ). w / 2 ^ x) (sym e) ∙ sym (at (i - d)))
          ∙ zeros-below 64 rest (i - d) (omega (arith, l, g)) in
          ne_eqb (w / 2 ^ i % 2) 1 (λ f. omega (arith, z, f));
      left = ap (λ (x : ℕ). x / 2 ^ 1) (at t) ∙ shr-shr w (d + t) 1;
    }

-- the owners where the word's bits below a place are given: a turn to the next bit, and the end
module _ (owners : List ℕ) (from w j : ℕ) where
  unfoldable pub so_far : ℕ → ℕ → ℕ
  so_far at k = cond (ltb k at) (slot_given_at owners from w j k) (get_or owners k 0)

  -- a slot below or behind the place
  pub far-below : (at k : ℕ) → k < at → so_far at k ≡ slot_given_at owners from w j k
  unfolding so_far
  far-below at k h = hit (ltb k at) (slot_given_at owners from w j k) (get_or owners k 0) (lt-ltb k at h)

  pub far-behind : (at k : ℕ) → at ≤ k → so_far at k ≡ get_or owners k 0
  unfolding so_far
  far-behind at k h = skip (ltb k at) (slot_given_at owners from w j k) (get_or owners k 0) (get_or owners k 0) (le-ltb k at h) refl

  -- a slot that the word does not have stays
  pub not-given : (k : ℕ) → has_bit w (k - from) ≡ false → slot_given_at owners from w j k ≡ get_or owners k 0
  not-given k e =
      skip (eqb (get_or owners k 0) 0 && (leb from k && has_bit w (k - from))) j (get_or owners k 0) (get_or owners k 0)
      (ap (λ (t : Bool). eqb (get_or owners k 0) 0 && (leb from k && t)) e
      ∙ ap (λ (t : Bool). eqb (get_or owners k 0) 0 && t) (and-false (leb from k)) ∙ and-false (eqb (get_or owners k 0) 0)) refl

  not-laid : (k : ℕ) → k < from → slot_given_at owners from w j k ≡ get_or owners k 0
  not-laid k l =
      skip (eqb (get_or owners k 0) 0 && (leb from k && has_bit w (k - from))) j (get_or owners k 0) (get_or owners k 0)
      (ap (λ (t : Bool). eqb (get_or owners k 0) 0 && (t && has_bit w (k - from))) (lt-leb from k l)
      ∙ and-false (eqb (get_or owners k 0) 0)) refl

  is-given : (k : ℕ) → from ≤ k → has_bit w (k - from) ≡ true → slot_given_at owners from w j k
      ≡ cond (eqb (get_or owners k 0) 0) j (get_or owners k 0)
  is-given k l e =
      ap (λ (t : Bool). cond t j (get_or owners k 0))
      (ap₂ (λ (s t : Bool). eqb (get_or owners k 0) 0 && (s && t)) (le-leb from k l) e ∙ and-true (eqb (get_or owners k 0) 0))

  pub laid : (k : ℕ) → from ≤ k → slot_given_at owners from w j k ≡ cond (eqb (get_or owners k 0) 0 && has_bit w (k - from)) j (get_or owners k 0)
  laid k l = ap (λ (t : Bool). cond (eqb (get_or owners k 0) 0 && (t && has_bit w (k - from))) j (get_or owners k 0)) (le-leb from k l)

  module _ (at t m rest : ℕ) (l : List ℕ) (h : (k : ℕ) → get_or l k 0 ≡ so_far at k) (b : from ≤ at) (n : Next w (at - from) m rest t) where
    pub give-turn : at + t < length l → (x : ℕ) → x ≡ cond (eqb (get_or l (at + t) 0) 0) j (get_or l (at + t) 0) → (k : ℕ)
        → get_or (set l (at + t) x) k 0 ≡ so_far (at + t + 1) k
    give-turn r x e k =
        let o : get_or l (at + t) 0 ≡ get_or owners (at + t) 0 = h (at + t) ∙ far-behind at (at + t) (omega arith) in
        let f : at - from + t ≡ at + t - from = omega (arith, b) in
        same_or_not k (at + t)
        (λ z.
        ap (λ (y : ℕ). get_or (set l (at + t) x) y 0) z ∙ get_or-set_same l (at + t) x 0 r ∙ e
        ∙ ap (λ (y : ℕ). cond (eqb y 0) j y) o
        ∙ sym (is-given (at + t) (omega (arith, b)) (ap (has_bit w) (sym f) ∙ n.bit))
        ∙ sym (far-below (at + t + 1) (at + t) (omega arith)) ∙ ap (so_far (at + t + 1)) (sym z))
        (λ z. get_or-set_other l (at + t) k x 0 z ∙ h k ∙ other k z)
      where
        other : (k : ℕ) → (k ≡ at + t → ⊥) → so_far at k ≡ so_far (at + t + 1) k
        other k z = go (ltb k at) (ltb k (at + t)) refl refl
          where
            go : (s u : Bool) → ltb k at ≡ s → ltb k (at + t) ≡ u → so_far at k ≡ so_far (at + t + 1) k
            go true u e f = far-below at k (ltb-true k at e) ∙ sym (far-below (at + t + 1) k (omega (arith, ltb-true k at e)))
            go false true e f =
                far-behind at k (ltb-false k at e)
                ∙ sym (not-given k (n.none (k - from) (omega (arith, b, ltb-false k at e))
                (omega (arith, b, ltb-false k at e, ltb-true k (at + t) f))))
                ∙ sym (far-below (at + t + 1) k (omega (arith, ltb-true k (at + t) f)))
            go false false e f = far-behind at k (ltb-false k at e)
                ∙ sym (far-behind (at + t + 1) k (omega (arith, z, ltb-false k (at + t) f)))

  -- nothing is given yet; and nothing is left of the word from the place on
  pub give-none : (k : ℕ) → get_or owners k 0 ≡ so_far from k
  give-none k = by-test (λ (_ : ℕ). get_or owners k 0 ≡ so_far from k) (ltb k from) 0 0
      (λ t. sym (far-below from k (ltb-true k from t) ∙ not-laid k (ltb-true k from t))) (λ t. sym (far-behind from k (ltb-false k from t)))

  pub give-end : (at : ℕ) (l : List ℕ) → from ≤ at → length l ≡ length owners → ((k : ℕ) → get_or l k 0 ≡ so_far at k)
      → w / 2 ^ (at - from) ≡ 0 → l ≡ slots_given owners from w j
  unfolding slots_given
  give-end at l b e h z =
      ext_get_or 0 l (slots_given owners from w j) (e ∙ sym (length-tab (length owners) (slot_given_at owners from w j)))
      (λ k g. h k ∙ all k ∙ sym (get_d-tab 0 (length owners) (slot_given_at owners from w j) k (omega (arith, g, e))))
    where
      out : (k : ℕ) → at ≤ k → has_bit w (k - from) ≡ false
      out k u =
          let f : at - from + (k - at) ≡ k - from = omega (arith, b, u) in
          ap (has_bit w) (sym f) ∙ ap (λ (x : ℕ). eqb (x % 2) 1) (sym (shr-shr w (at - from) (k - at)))
          ∙ ap (λ (x : ℕ). has_bit x (k - at)) z ∙ no_bits (k - at)

      all : (k : ℕ) → so_far at k ≡ slot_given_at owners from w j k
      all k =
          by-test (λ (_ : ℕ). so_far at k ≡ slot_given_at owners from w j k) (ltb k at) 0 0 (λ t. far-below at k (ltb-true k at t))
          (λ t. let u = ltb-false k at t in far-behind at k u ∙ sym (not-given k (out k u)))

-- a node more: its two words are laid over the owners so far
module _ (low high : List ℕ) where
  abbrev pub slot_in : ℕ → ℕ → Bool
  slot_in k i = has_slot (get_or low i 0) (get_or high i 0) k

  pub owners-turn : (i : ℕ) (l m n : List ℕ) → get_or low i 0 < 2 ^ 64 → l ≡ tab 80 (λ k. first i (slot_in k))
      → m ≡ slots_given l 0 (get_or low i 0) (i + 1) → n ≡ slots_given m 64 (get_or high i 0) (i + 1)
      → n ≡ tab 80 (λ k. first (i + 1) (slot_in k))
  unfolding slots_given
  owners-turn i l m n b e f g =
      let j = i + 1 in
      let el : length l ≡ 80 = ap length e ∙ length-tab 80 (λ k. first i (slot_in k)) in
      let em : length m ≡ 80 = ap length f ∙ length-tab (length l) (slot_given_at l 0 (get_or low i 0) j) ∙ el in
      let en : length n ≡ 80 = ap length g ∙ length-tab (length m) (slot_given_at m 64 (get_or high i 0) j) ∙ em in
      ext_get_or 0 n (tab 80 (λ k. first (i + 1) (slot_in k))) (en ∙ sym (length-tab 80 (λ k. first (i + 1) (slot_in k))))
      (λ k u.
      let v : k < 80 = omega (arith, u, en) in
      let xn : get_or n k 0 ≡ slot_given_at m 64 (get_or high i 0) j k = ap (λ (y : List ℕ). get_or y k 0) g
      ∙ get_d-tab 0 (length m) (slot_given_at m 64 (get_or high i 0) j) k (omega (arith, v, em)) in
      let xm : get_or m k 0 ≡ slot_given_at l 0 (get_or low i 0) j k = ap (λ (y : List ℕ). get_or y k 0) f
      ∙ get_d-tab 0 (length l) (slot_given_at l 0 (get_or low i 0) j) k (omega (arith, v, el)) in
      let xl : get_or l k 0 ≡ first i (slot_in k) = ap (λ (y : List ℕ). get_or y k 0) e ∙ get_d-tab 0 80 (λ k. first i (slot_in k)) k v in
      xn ∙ step k xl xm ∙ sym (get_d-tab 0 80 (λ k. first (i + 1) (slot_in k)) k v))
    where
      more : (k : ℕ) → cond (eqb (first i (slot_in k)) 0 && slot_in k i) (i + 1) (first i (slot_in k)) ≡ first (i + 1) (slot_in k)
      more k = sym (ap (λ (x : ℕ). first x (slot_in k)) (add-one i) ∙ first-suc i (slot_in k))

      -- the slot at index k
      step : (k : ℕ) → get_or l k 0 ≡ first i (slot_in k) → get_or m k 0 ≡ slot_given_at l 0 (get_or low i 0) (i + 1) k
          → slot_given_at m 64 (get_or high i 0) (i + 1) k ≡ first (i + 1) (slot_in k)
      step k xl xm =
          by-test (λ (_ : ℕ). slot_given_at m 64 (get_or high i 0) (i + 1) k ≡ first (i + 1) (slot_in k)) (ltb k 64) 0 0
          (λ t.
          let z : k - 0 ≡ k = omega arith in
          not-laid m 64 (get_or high i 0) (i + 1) k (ltb-true k 64 t) ∙ xm ∙ laid l 0 (get_or low i 0) (i + 1) k (omega arith)
          ∙ ap₂ (λ (x : ℕ) (u : Bool). cond (eqb x 0 && u) (i + 1) x) xl
          (ap (has_bit (get_or low i 0)) z ∙ sym (hit (ltb k 64) (has_bit (get_or low i 0) k) (has_bit (get_or high i 0) (k - 64)) t))
          ∙ more k)
          (λ t.
          laid m 64 (get_or high i 0) (i + 1) k (ltb-false k 64 t)
          ∙ ap₂ (λ (x : ℕ) (u : Bool). cond (eqb x 0 && u) (i + 1) x)
          (xm ∙ not-given l 0 (get_or low i 0) (i + 1) k
          (has_bit-out (get_or low i 0) 64 (k - 0) b (let h = ltb-false k 64 t in omega (arith, h))) ∙ xl)
          (sym (skip (ltb k 64) (has_bit (get_or low i 0) k) (has_bit (get_or high i 0) (k - 64)) (has_bit (get_or high i 0) (k - 64)) t refl))
          ∙ more k)
