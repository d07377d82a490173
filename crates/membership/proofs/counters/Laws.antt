-- Laws of the counters, of the next flags, and of the set that the expiry counts.
-- Assumes nothing.
use mathlib.Core.Path.{◌≡◌, refl, sym, ap, ap₂, ◌∙◌}
use mathlib.Core.Bool.{Bool, true, false, cond, ◌||◌}
use mathlib.Core.List.{List, ◌++◌}
use Prim.Native.Nat.{ℕ, zero, suc, ◌+◌, ◌-◌, ◌^◌, ◌≤◌, ◌<◌}
use native.Mathlib.Omega.{arith}
use borrow.Author.Tests.{ltb-true, ltb-false, le-leb, lt-leb, lt-ltb, eq-eqb, ne_eqb}
use lib.Bits
use lib.Bits.{or_lt}
use lib.Pow.{pow-lt}
use lib.Dec.{eqb, leb, ltb}
use lib.ListN.{length, get_or, drop, replicate, get_or-eq_default}
use lib.Seq.{ext_get_or, get_or_at, drop-cons}
use Rattle.words.specs.Bits.{has_bit, is_in, word_of, with_bit}
use Rattle.words.proofs.Tests.{by-test, same_or_not, both, or-back, hit}
use Rattle.words.proofs.Laws.{has_bit-or, has_bit-out, has_bit-power, has_bit-word_of, same_word, word_of-lt, word_of-ext, word_of-below}
use Rattle.lists.specs.All.{bounded, tab}
use Rattle.lists.proofs.Laws.{get_d-tab, length-tab}
use Rattle.lists.proofs.Bounded.{bounded_at, bounded-over, bounded-make}
use Rattle.membership.specs.counters.Counters.{plus, counted, with_self, members_of}

-- what stands where a list that is filled by its rule has come to
pub fill-next : (n : ℕ) (f : ℕ → ℕ) (d : List ℕ) → n < length d → get_or (tab n f ++ drop n d) n 0 ≡ get_or d n 0
fill-next n f d h = ap (λ (l : List ℕ). get_or (tab n f ++ l) n 0) (drop-cons d n 0 h)
    ∙ get_or_at (tab n f) (get_or d n 0) (drop (suc n) d) 0 n (length-tab n f)

pub plus-le : (x : ℕ) (t : Bool) → plus x t ≤ x + 1
plus-le x true = by-test (λ (y : ℕ). y ≤ x + 1) (ltb x 255) (x + 1) x (λ e. omega arith) (λ e. omega arith)
plus-le x false = omega arith

pub get_d-counted : (counters : List ℕ) (heard i : ℕ) → i < 32 → get_or (counted counters heard) i 0
    ≡ plus (get_or counters i 0) (has_bit heard i)
unfolding counted
get_d-counted counters heard i l = get_d-tab 0 32 (λ i. plus (get_or counters i 0) (has_bit heard i)) i l

pub length-counted : (counters : List ℕ) (heard : ℕ) → length (counted counters heard) ≡ 32
unfolding counted
length-counted counters heard = length-tab 32 (λ i. plus (get_or counters i 0) (has_bit heard i))

-- nobody was heard
pub none-counted : (counters : List ℕ) → length counters ≡ 32 → counters ≡ counted counters 0
none-counted counters h =
    ext_get_or 0 counters (counted counters 0) (h ∙ sym (length-counted counters 0))
    (λ i l. sym (get_d-counted counters 0 i (omega arith) ∙ ap (plus (get_or counters i 0)) (has_bit-out 0 0 i (omega arith) (omega arith))))

-- C_e grows by at most 1, among the N nodes
pub counted-bounded : (counters : List ℕ) (heard N f : ℕ) → N ≤ 32 → bounded counters N f ≡ true → heard < 2 ^ N
    → bounded (counted counters heard) N (f + 1) ≡ true
counted-bounded counters heard N f k b h =
    bounded-make (counted counters heard) N (f + 1)
    (λ i l.
    let x : get_or counters i 0 ≤ f = bounded_at counters N f b i in
    let y = plus-le (get_or counters i 0) (has_bit heard i) in
    let z = get_d-counted counters heard i (omega arith) in
    omega arith)
    (λ i l. go i l (ltb i 32) refl)
  where
    go : (i : ℕ) → N ≤ i → (t : Bool) → ltb i 32 ≡ t → get_or (counted counters heard) i 0 ≡ 0
    go i l true e = get_d-counted counters heard i (ltb-true i 32 e) ∙ ap₂ plus (bounded-over counters N f b i l) (has_bit-out heard N i h l)
    go i l false e = get_or-eq_default (counted counters heard) 0 {n = i}
        (let m = length-counted counters heard in let o : 32 ≤ i = ltb-false i 32 e in omega arith)

-- the next flags are of the N nodes
pub members-below : (counters : List ℕ) (node heard N : ℕ) → N ≤ 32 → node ≤ N → 1 ≤ heard
    → ((i : ℕ) → N ≤ i → i < 32 → get_or counters i 0 ≡ 0)
    → members_of counters node heard < 2 ^ N
unfolding members_of
members-below counters node heard N k h o z =
    word_of-below N 32 (λ i. leb heard (get_or counters i 0) || eqb (i + 1) node) k
    (λ i l m. ap₂ ◌||◌ (ap (leb heard) (z i l m) ∙ lt-leb heard 0 o) (ne_eqb (i + 1) node (λ e. omega arith)))

-- and the own flag is one of them
pub members-own : (counters : List ℕ) (node heard : ℕ) → 1 ≤ node → node ≤ 32 → is_in (members_of counters node heard) node ≡ true
unfolding members_of
members-own counters node heard a b =
    both (lt-ltb 0 node a)
    (has_bit-word_of 32 (λ i. leb heard (get_or counters i 0) || eqb (i + 1) node) (node - 1) (omega arith)
    ∙ or-back (leb heard (get_or counters (node - 1) 0)) (eqb (node - 1 + 1) node) (eq-eqb (node - 1 + 1) node (omega arith)))

-- who is in the next flags: whoever was heard at least so often, and the node itself
pub members-has : (counters : List ℕ) (node heard i : ℕ) → i < 32
    → has_bit (members_of counters node heard) i ≡ (leb heard (get_or counters i 0) || eqb (i + 1) node)
unfolding members_of
members-has counters node heard i l = has_bit-word_of 32 (λ i. leb heard (get_or counters i 0) || eqb (i + 1) node) i l

pub members-lt : (counters : List ℕ) (node heard : ℕ) → members_of counters node heard < 2 ^ 32
unfolding members_of
members-lt counters node heard = word_of-lt 32 (λ i. leb heard (get_or counters i 0) || eqb (i + 1) node)

-- with `heard` 1 these are the nodes that were heard at all, and the node itself: lines 51 to 54 as the paper has them
pub members-once : (counters : List ℕ) (node : ℕ) → members_of counters node 1
    ≡ word_of 32 (λ i. ltb 0 (get_or counters i 0) || eqb (i + 1) node)
unfolding members_of
members-once counters node = word_of-ext 32 _ _ (λ i l. ap (λ (t : Bool). t || eqb (i + 1) node) (once (get_or counters i 0)))
  where
    once : (x : ℕ) → leb 1 x ≡ ltb 0 x
    once x = go (ltb 0 x) refl
      where
        go : (t : Bool) → ltb 0 x ≡ t → leb 1 x ≡ t
        go true e = le-leb 1 x (ltb-true 0 x e)
        go false e = lt-leb 1 x (let z : x ≤ 0 = ltb-false 0 x e in omega arith)

-- a set and one of the 32 nodes, by its index
pub with-self : (w i : ℕ) → i < 32 → with_self w (suc i) ≡ Bits.bit_or w (2 ^ i)
unfolding with_self
with-self w i l = let e : suc i - 1 ≡ i = omega arith in hit (ltb 0 (suc i)) _ _ (lt-ltb 0 (suc i) (omega arith)) ∙ ap (with_bit w) e
    ∙ hit (ltb i 32) _ _ (lt-ltb i 32 l)

-- the nodes of a word, and the node of a number
or-none : (t : Bool) → t ≡ (t || false)
or-none true = refl
or-none false = refl

next-index : (i k : ℕ) → eqb i k ≡ eqb (i + 1) (suc k)
next-index i k = same_or_not i k (λ e. eq-eqb i k e ∙ sym (eq-eqb (i + 1) (suc k) (omega arith)))
    (λ e. ne_eqb i k e ∙ sym (ne_eqb (i + 1) (suc k) (λ f. e (omega arith))))

module _ (p : ℕ → Bool) where
  one-with : (k : ℕ) → with_bit (word_of 32 p) k ≡ word_of 32 (λ i. p i || eqb (i + 1) (suc k))
  one-with k = go (ltb k 32) refl
    where
      go : (t : Bool) → ltb k 32 ≡ t → cond t (Bits.bit_or (word_of 32 p) (2 ^ k)) (word_of 32 p) ≡ word_of 32 (λ i. p i || eqb (i + 1) (suc k))
      go true e =
          let l : k < 32 = ltb-true k 32 e in
          same_word 32 _ _ (or_lt 32 (word_of 32 p) (2 ^ k) (word_of-lt 32 p) (pow-lt l)) (word_of-lt 32 _)
          (λ i m. has_bit-or (word_of 32 p) (2 ^ k) i ∙ ap₂ ◌||◌ (has_bit-word_of 32 p i m) (has_bit-power k i l m ∙ next-index i k)
          ∙ sym (has_bit-word_of 32 (λ i. p i || eqb (i + 1) (suc k)) i m))
      go false e =
          let l : 32 ≤ k = ltb-false k 32 e in
          word_of-ext 32 _ _ (λ i m. or-none (p i) ∙ ap (λ (t : Bool). p i || t) (sym (ne_eqb (i + 1) (suc k) (λ f. omega arith))))

  pub self-with : (node : ℕ) → with_self (word_of 32 p) node ≡ word_of 32 (λ i. p i || eqb (i + 1) node)
  unfolding with_self
  self-with zero = word_of-ext 32 _ _ (λ i m. or-none (p i) ∙ ap (λ (t : Bool). p i || t) (sym (ne_eqb (i + 1) 0 (λ f. omega arith))))
  self-with (suc k) =
      let e : suc k - 1 ≡ k = omega arith in
      hit (ltb 0 (suc k)) _ _ (lt-ltb 0 (suc k) (omega arith)) ∙ ap (with_bit (word_of 32 p)) e ∙ one-with k

-- a counter under a bound of 0 or 255
pub left_below : (x : ℕ) (t : Bool) → x < cond t 0 255 → x ≡ cond t 0 x
left_below x true h = absurd (omega (arith, h))
left_below x false h = refl

pub left-top : (x : ℕ) (t : Bool) → x ≤ 255 → cond t 0 255 ≤ x → cond t 0 255 ≡ cond t 0 x
left-top x true b h = refl
left-top x false b h = omega arith

-- the counters as the next round begins
pub kept-tab : (counters : List ℕ) (t : Bool) → length counters ≡ 32 → tab 32 (λ i. cond t 0 (get_or counters i 0))
    ≡ cond t (replicate 32 0) counters
unfolding tab
kept-tab counters true h = refl
kept-tab counters false h = ext_get_or 0 _ counters (length-tab 32 (λ i. get_or counters i 0) ∙ sym h)
    (λ i l. get_d-tab 0 32 (λ i. get_or counters i 0) i (let m = length-tab 32 (λ i. get_or counters i 0) in omega arith))
