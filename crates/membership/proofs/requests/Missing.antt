-- The lowest node of a set without a request: none is, just where each node of the set has one.
-- Assumes nothing.
use mathlib.Core.Path.{◌≡◌, refl, sym, ap, ◌∙◌}
use mathlib.Core.Bool.{Bool, true, false, not, ◌&&◌, ◌||◌}
use mathlib.Core.List.{List}
use Prim.Native.Nat.{ℕ, ◌+◌, ◌-◌, ◌^◌, ◌<◌}
use native.Mathlib.Omega.{arith}
use lib.Bits
use lib.Bits.{or_lt}
use lib.Dec.{eqb}
use lib.ListN.{get_or}
use borrow.Author.Tests.{eq-eqb, lt-ltb, eqb-true}
use Rattle.words.specs.Bits.{has_bit, is_in, is_inside}
use Rattle.words.proofs.Tests.{clash, is_false, and_left, and_right}
use Rattle.words.proofs.Laws.{has_bit-or, same_word, inside-in}
use Rattle.membership.specs.requests.Requests.{none, requesters, lacks, lowest_missing}
use Rattle.membership.proofs.requests.Laws.{requesters-has, requesters-lt}
use Rattle.membership.proofs.requests.Firsts.{first-none, none_first}

module _ (w : ℕ) (l : List ℕ) where
  abbrev b : ℕ
  b = requesters l

  -- whether a node has a request, by the word and by the list
  pub asks : (i : ℕ) → i < 32 → (t : Bool) → eqb (get_or l i 0) none ≡ t → has_bit b i ≡ not t
  asks i h t e = requesters-has l i h ∙ ap not e

  -- a node of the set that doesn't lack one has one
  pub has_one : (i : ℕ) → i < 32 → lacks w l i ≡ false → has_bit w i ≡ true → has_bit b i ≡ true
  has_one i h f y = go (eqb (get_or l i 0) none) refl
    where
      go : (t : Bool) → eqb (get_or l i 0) none ≡ t → has_bit b i ≡ true
      go true e = clash (lacks w l i) (ap (λ (x : Bool). x && eqb (get_or l i 0) none) y ∙ e) f
      go false e = asks i h false e

  in-so : (x i : ℕ) → is_in x (i + 1) ≡ has_bit x i
  in-so x i =
      let z : i + 1 - 1 ≡ i = omega arith in
      ap (λ (t : Bool). t && has_bit x (i + 1 - 1)) (lt-ltb 0 (i + 1) (omega arith)) ∙ ap (has_bit x) z

  pub all-if : w < 2 ^ 32 → lowest_missing w l ≡ 0 → is_inside w b ≡ true
  unfolding lowest_missing
  all-if s h = eq-eqb _ _ (same_word 32 (Bits.bit_or w b) b (or_lt 32 w b s (requesters-lt _)) (requesters-lt _)
      (λ i k. has_bit-or w b i ∙ go i k (has_bit w i) refl))
    where
      go : (i : ℕ) → i < 32 → (t : Bool) → has_bit w i ≡ t → (t || has_bit b i) ≡ has_bit b i
      go i k true e = sym (has_one i k (first-none (lacks w l) 32 0 h i (omega arith) k) e)
      go i k false e = refl

  pub none-if : is_inside w b ≡ true → lowest_missing w l ≡ 0
  unfolding lowest_missing
  none-if h = none_first (lacks w l) 32 0 (λ i a k. is_false (lacks w l i) (λ y.
      let g = sym (in-so b i) ∙ inside-in w b (i + 1) h (in-so w i ∙ and_left (has_bit w i) _ y) in
      clash (has_bit b i) g (asks i k true (and_right (has_bit w i) _ y))))

  pub all-is : w < 2 ^ 32 → is_inside w b ≡ eqb (lowest_missing w l) 0
  all-is s = go (is_inside w b) refl (eqb (lowest_missing w l) 0) refl
    where
      go : (t : Bool) → is_inside w b ≡ t → (u : Bool) → eqb (lowest_missing w l) 0 ≡ u → t ≡ u
      go true e true f = refl
      go true e false f = clash (eqb (lowest_missing w l) 0) (eq-eqb _ _ (none-if e)) f
      go false e true f = clash (is_inside w b) (all-if s (eqb-true (lowest_missing w l) 0 f)) e
      go false e false f = refl
