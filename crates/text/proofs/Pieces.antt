-- The first byte c, and the pieces around it; digits, from the front.
-- Assumes nothing.
use mathlib.Core.Path.{◌≡◌, refl, sym, ap, ◌∙◌}
use mathlib.Core.Bool.{Bool, true, false, cond}
use mathlib.Core.List.{List, [], ◌∷◌}
use Prim.Native.Nat.{ℕ, suc, ◌+◌, ◌*◌, ◌-◌, ◌≤◌, ◌<◌}
use native.Mathlib.Omega.{arith}
use native.Mathlib.Numerals.{add-one}
use borrow.Author.Tests.{eq-eqb, ne_eqb, lt-ltb, le-ltb, eqb-true, ltb-false}
use lib.Dec.{eqb, ltb}
use lib.ListN.{length, get_or, take, drop, drop_of_length-le, length-drop}
use lib.Seq.{drop-cons, take_all}
use Rattle.std.specs.List.{position, position_or_len}
use Rattle.std.specs.Option.{unwrap_or}
use Rattle.std.proofs.lemmas.List.Recursion.{is_position_or_len}
use Rattle.text.specs.Read.{before, front, split, digits_from, number_of}
use Rattle.std.specs.Prelude.{Option}
use Rattle.std.specs.Prelude.{None, Some}

pub before-end : (c : ℕ) (s : List ℕ) (i : ℕ) → length s ≤ i → before c (drop i s) ≡ 0
unfolding before
before-end c s i h = rw (drop_of_length-le s h)

module _ (c : ℕ) (s : List ℕ) (i : ℕ) (h : i < length s) where
  before-front : before c (drop i s) ≡ cond (eqb (get_or s i 0) c) 0 (suc (before c (drop (i + 1) s)))
  unfolding before
  before-front = rw (add-one, drop-cons s i 0 h)

  pub before_here : get_or s i 0 ≡ c → before c (drop i s) ≡ 0
  before_here e = before-front ∙ rw (eq-eqb _ _ e)

  pub before_more : (get_or s i 0 ≡ c → ⊥) → before c (drop i s) ≡ suc (before c (drop (i + 1) s))
  before_more e = before-front ∙ rw (ne_eqb _ _ e)

pub before-le : (c : ℕ) (s : List ℕ) → before c s ≤ length s
unfolding before
before-le c [] = omega arith
before-le c (b ∷ s) = go (eqb b c) (before-le c s)
  where
    go : (t : Bool) → before c s ≤ length s → cond t 0 (suc (before c s)) ≤ suc (length s)
    go true h = omega arith
    go false h = omega arith

-- as std finds an element's place
pub before-position : (c : ℕ) (s : List ℕ) → before c s ≡ position_or_len (λ b. eqb b c) s
unfolding before
before-position c s =
    is_position_or_len (before c) (λ b. eqb b c) refl
    (λ x xs. let e : suc (before c xs) ≡ 1 + before c xs = omega arith in ap (λ (n : ℕ). cond (eqb x c) 0 n) e) s

found-or : (p n : ℕ) → p ≤ n → unwrap_or (cond (ltb p n) (Some p) None) n ≡ p
found-or p n h = go (ltb p n) refl
  where
    go : (t : Bool) → ltb p n ≡ t → unwrap_or (cond t (Some p) None) n ≡ p
    go true e = refl
    go false e = let k : n ≤ p = ltb-false p n e in omega arith

-- the place of the first c, or the length
pub found-before : (c : ℕ) (s : List ℕ) → unwrap_or (position (λ b. eqb b c) s) (length s) ≡ before c s
found-before c s =
    let e = before-position c s in
    let h : position_or_len (λ b. eqb b c) s ≤ length s = omega (arith, e, before-le c s) in
    found-or (position_or_len (λ b. eqb b c) s) (length s) h ∙ sym e

-- no c: one piece
pub split-last : (c : ℕ) (s : List ℕ) → before c s ≡ length s → split c s ≡ s ∷ []
unfolding before split front
split-last c [] h = refl
split-last c (b ∷ s) h = go (eqb b c) (split-last c s) h
  where
    go : (t : Bool) → (before c s ≡ length s → split c s ≡ s ∷ []) → cond t 0 (suc (before c s)) ≡ suc (length s)
        → cond t ([] ∷ split c s) (front b (split c s)) ≡ (b ∷ s) ∷ []
    go true f h = absurd (omega arith)
    go false f h = ap (front b) (f (omega arith))

-- a c: what stands before it, and the pieces behind it
abbrev Cut : ℕ → List ℕ → ℕ → List (List ℕ) → Type 0
Cut c s n ps = ps ≡ take n s ∷ split c (drop (suc n) s)

pub split-cut : (c : ℕ) (s : List ℕ) → before c s < length s → split c s ≡ take (before c s) s ∷ split c (drop (suc (before c s)) s)
unfolding before split front
split-cut c [] h = absurd (omega arith)
split-cut c (b ∷ s) h = go (eqb b c) (split-cut c s) h
  where
    go : (t : Bool) → (before c s < length s → Cut c s (before c s) (split c s)) → cond t 0 (suc (before c s)) < suc (length s)
        → Cut c (b ∷ s) (cond t 0 (suc (before c s))) (cond t ([] ∷ split c s) (front b (split c s)))
    go true f h = refl
    go false f h = ap (front b) (f (omega arith))

pub number-none : (s : List ℕ) → length s ≡ 0 → number_of s ≡ None
unfolding number_of
number-none [] h = refl
number-none (b ∷ s) h = absurd (omega arith)

pub number-zero : (s : List ℕ) → length s ≡ 1 → get_or s 0 0 ≡ 48 → number_of s ≡ Some 0
unfolding number_of
number-zero [] h e = absurd (omega arith)
number-zero (b ∷ []) h e = rw (eq-eqb b 48 e)
number-zero (b ∷ a ∷ s) h e = absurd (omega arith)

pub number-leading : (s : List ℕ) → (length s ≡ 0 → ⊥) → (length s ≡ 1 → ⊥) → get_or s 0 0 ≡ 48 → number_of s ≡ None
unfolding number_of
number-leading [] n h e = absurd (n refl)
number-leading (b ∷ []) n h e = absurd (h refl)
number-leading (b ∷ a ∷ s) n h e = rw (eq-eqb b 48 e)

pub number_digits : (s : List ℕ) → (length s ≡ 0 → ⊥) → (get_or s 0 0 ≡ 48 → ⊥) → number_of s ≡ digits_from 0 s
unfolding number_of
number_digits [] n e = absurd (n refl)
number_digits (b ∷ s) n e = rw (ne_eqb b 48 e)

pub digits-end : (v : ℕ) (s : List ℕ) (i : ℕ) → length s ≤ i → digits_from v (drop i s) ≡ Some v
unfolding digits_from
digits-end v s i h = rw (drop_of_length-le s h)

module _ (v : ℕ) (s : List ℕ) (i : ℕ) (h : i < length s) where
  pub digits_low : get_or s i 0 < 48 → digits_from v (drop i s) ≡ None
  unfolding digits_from
  digits_low k = rw (drop-cons s i 0 h, lt-ltb (get_or s i 0) 48 k)

  pub digits-high : 48 ≤ get_or s i 0 → 57 < get_or s i 0 → digits_from v (drop i s) ≡ None
  unfolding digits_from
  digits-high k l = rw (drop-cons s i 0 h, le-ltb (get_or s i 0) 48 k, lt-ltb 57 (get_or s i 0) l)

  pub digits-large : 48 ≤ get_or s i 0 → get_or s i 0 ≤ 57 → 4294967295 < v * 10 + (get_or s i 0 - 48) → digits_from v (drop i s) ≡ None
  unfolding digits_from
  digits-large k l m = rw (
    drop-cons s i 0 h,
    le-ltb (get_or s i 0) 48 k,
    le-ltb 57 (get_or s i 0) l,
    lt-ltb 4294967295
        (v * 10 + (get_or s i 0 - 48)) m,
  )

  pub digits_more : 48 ≤ get_or s i 0 → get_or s i 0 ≤ 57 → v * 10 + (get_or s i 0 - 48) ≤ 4294967295
      → digits_from v (drop i s) ≡ digits_from (v * 10 + (get_or s i 0 - 48)) (drop (i + 1) s)
  unfolding digits_from
  digits_more k l m = rw (
    drop-cons s i 0 h,
    le-ltb (get_or s i 0) 48 k,
    le-ltb 57 (get_or s i 0) l,
    le-ltb 4294967295
        (v * 10 + (get_or s i 0 - 48)) m,
    add-one,
  )

-- a space is no digit: no digits are a number where there is one
digits-spaced : (v : ℕ) (s : List ℕ) → before 32 s < length s → digits_from v s ≡ None
unfolding digits_from before
digits-spaced v [] h = absurd (omega arith)
digits-spaced v (b ∷ s) h = go (eqb b 32) (eqb-true b 32) (digits-spaced (v * 10 + (b - 48)) s) h
  where
    rest : ℕ
    rest = v * 10 + (b - 48)

    all-bad : (p q r : Bool) (n : (Option ℕ)) → n ≡ None → cond p None (cond q None (cond r None n)) ≡ None
    all-bad true q r n e = refl
    all-bad false true r n e = refl
    all-bad false false true n e = refl
    all-bad false false false n e = e

    go : (t : Bool) → (t ≡ true → b ≡ 32) → (before 32 s < length s → digits_from rest s ≡ None)
        → cond t 0 (suc (before 32 s)) < suc (length s) → digits_from v (b ∷ s) ≡ None
    go true f more k = rw (lt-ltb b 48 (omega (arith, f refl)))
    go false f more k = all-bad (ltb b 48) (ltb 57 b) (ltb 4294967295 rest) (digits_from rest s) (more (omega arith))

-- and no number
pub number-spaced : (s : List ℕ) → before 32 s < length s → number_of s ≡ None
unfolding number_of before
number-spaced [] h = absurd (omega arith)
number-spaced (b ∷ []) h = go (eqb b 32) (eqb-true b 32) h
  where
    go : (t : Bool) → (t ≡ true → b ≡ 32) → cond t 0 1 < 1 → cond (eqb b 48) (Some 0) (digits_from 0 (b ∷ [])) ≡ None
    go true f k = rw (ne_eqb b 48 (λ e. omega (arith, e, f refl))) (digits-spaced 0 (b ∷ []) h)
    go false f k = absurd (omega arith)
number-spaced (b ∷ a ∷ s) h = go (eqb b 48)
  where
    go : (t : Bool) → cond t None (digits_from 0 (b ∷ a ∷ s)) ≡ None
    go true = refl
    go false = digits-spaced 0 (b ∷ a ∷ s) h

-- the same, of a number that find found
pub last-piece : (c : ℕ) (s : List ℕ) (e : ℕ) → e ≡ before c s → e ≡ length s → split c s ≡ s ∷ []
last-piece c s e h k = split-last c s (sym h ∙ k)

-- what `&s[b..]` is
abbrev pub behind : ℕ → List ℕ → List ℕ
behind b s = take (length s - b) (drop b s)

pub behind-is : (b : ℕ) (s : List ℕ) → behind b s ≡ drop b s
behind-is b s = take_all (length s - b) (drop b s) (omega (arith, length-drop b s))

pub first_piece : (c : ℕ) (s : List ℕ) (e : ℕ) → e ≡ before c s → e ≤ length s → (e ≡ length s → ⊥)
    → split c s ≡ take e s ∷ split c (behind (e + 1) s)
first_piece c s e h k n =
    let l : e < length s = omega arith in
    rw (behind-is (e + 1) s, h, add-one) (split-cut c s (omega arith))

-- there is always a piece
abbrev pub HasPiece : List (List ℕ) → Type 0
HasPiece [] = ⊥
HasPiece (p ∷ ps) = Unit

front-some : (b : ℕ) (ps : List (List ℕ)) → HasPiece ps → HasPiece (front b ps)
unfolding front
front-some b [] h = h
front-some b (p ∷ ps) h = tt

pub split-some : (c : ℕ) (s : List ℕ) → HasPiece (split c s)
unfolding split
split-some c [] = tt
split-some c (b ∷ s) = go (eqb b c) (front-some b (split c s) (split-some c s))
  where
    go : (t : Bool) → HasPiece (front b (split c s)) → HasPiece (cond t ([] ∷ split c s) (front b (split c s)))
    go true h = tt
    go false h = h
