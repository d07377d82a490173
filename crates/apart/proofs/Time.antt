-- Boxes that keep time keep the rules.
-- Assumes nothing.
use mathlib.Core.Path.{◌≡◌, refl, sym, ap, ◌∙◌, subst}
use mathlib.Core.Bool.{Bool, true, false, cond}
use Prim.Native.Nat.{ℕ, zero, suc, ◌+◌, ◌-◌, ◌*◌, ◌/◌, ◌%◌, ◌≤◌, ◌<◌}
use native.Mathlib.Omega.{arith}
use native.Mathlib.Decide.{dec_lt}
use borrow.Author.Tests.{eqb-true, leb-true, leb-false}
use lib.Dec.{leb}
use Rattle.words.proofs.Tests.{same_or_not}
use Rattle.apart.specs.Apart.{negotiation}
use Rattle.apart.specs.Time.{calls, InStep, Timetable, OnTime, earliest, Skewed, KeepsTime}

-- Clocks in step

in-negotiation : (c : ℕ) → negotiation c ≡ true → calls c ≡ 2 * (c / 3)
in-negotiation c e = let h : calls c ≡ 2 * (c / 3) + 0 = ap (λ (t : Bool). 2 * (c / 3) + cond t 0 1) e in omega (arith, h)

in-distribution : (c : ℕ) → negotiation c ≡ false → calls c ≡ 2 * (c / 3) + 1
in-distribution c e = ap (λ (t : Bool). 2 * (c / 3) + cond t 0 1) e

pub same-round : (c d : ℕ) → InStep c d → negotiation c ≡ negotiation d → c / 3 ≡ d / 3
same-round c d s e = go (negotiation d) refl
  where
    go : (t : Bool) → negotiation d ≡ t → c / 3 ≡ d / 3
    go true g =
        let p = in-negotiation c (e ∙ g) in
        let q = in-negotiation d g in
        let l = s.one in
        let m = s.other in
        omega (arith, p, q, l, m)
    go false g =
        let p = in-distribution c (e ∙ g) in
        let q = in-distribution d g in
        let l = s.one in
        let m = s.other in
        omega (arith, p, q, l, m)

same-negotiation : (c d : ℕ) → InStep c d → negotiation c ≡ true → negotiation d ≡ true → c ≡ d
same-negotiation c d s e g =
    let h = same-round c d s (e ∙ sym g) in
    let p : c % 3 ≡ 0 = eqb-true (c % 3) 0 e in
    let q : d % 3 ≡ 0 = eqb-true (d % 3) 0 g in
    omega (arith, h, p, q)

-- A timetable

module _ {shortest : ℕ} {due : ℕ → ℕ} (T : Timetable shortest due) where
  later : (k n : ℕ) → due n ≤ due (k + n)
  later zero n = let h : due n ≤ due n = omega arith in let e : n ≡ 0 + n = omega arith in subst (λ (i : ℕ). due n ≤ due i) e h
  later (suc k) n =
      let h = later k n in
      let g = T.each (k + n) in
      let r : due n ≤ due (suc (k + n)) = omega (arith, h, g) in
      let e : suc (k + n) ≡ suc k + n = omega arith in
      subst (λ (i : ℕ). due n ≤ due i) e r

  due-from : (n k : ℕ) → n ≤ k → due n ≤ due k
  due-from n k l = let e : (k - n) + n ≡ k = omega (arith, l) in subst (λ (i : ℕ). due n ≤ due i) e (later (k - n) n)

  module _ (skew age : ℕ) (w : skew + age ≤ shortest) (t u c d : ℕ) (x : t ≤ u) (y : u ≤ t + age) (p : OnTime due skew t c)
      (q : OnTime due skew u d) where
    -- the later of two moments is at most one call on
    not-ahead : calls d ≤ calls c + 1
    not-ahead = go (dec_lt (calls c + 1) (calls d))
      where
        go : Dec (calls c + 1 < calls d) → calls d ≤ calls c + 1
        go (yes l) =
            let z : due (suc (suc (calls c))) ≤ due (calls d) = due-from (suc (suc (calls c))) (calls d) (omega (arith, l)) in
            let e = T.each (suc (calls c)) in
            let i = p.next in
            let j = q.last in
            absurd (omega (arith, z, e, i, j, w, x, y))
        go (no l) = omega (arith, l)

    -- and at most one back
    not_behind : calls c ≤ calls d + 1
    not_behind = go (dec_lt (calls d + 1) (calls c))
      where
        go : Dec (calls d + 1 < calls c) → calls c ≤ calls d + 1
        go (yes l) =
            let z : due (suc (suc (calls d))) ≤ due (calls c) = due-from (suc (suc (calls d))) (calls c) (omega (arith, l)) in
            let e = T.each (suc (calls d)) in
            let i = q.next in
            let j = p.last in
            absurd (omega (arith, z, e, i, j, w, x, y))
        go (no l) = omega (arith, l)

    near : InStep c d
    near = record { one = not_behind; other = not-ahead }

  -- a restart that waits for the skew
  not_back : (skew t u c d : ℕ) → t + skew ≤ u → OnTime due skew t c → OnTime due skew u d → calls c ≤ calls d
  not_back skew t u c d x p q = go (dec_lt (calls d) (calls c))
    where
      go : Dec (calls d < calls c) → calls c ≤ calls d
      go (yes l) =
          let z : due (suc (calls d)) ≤ due (calls c) = due-from (suc (calls d)) (calls c) (omega (arith, l)) in
          let i = q.next in
          let j = p.last in
          absurd (omega (arith, z, i, j, x))
      go (no l) = omega (arith, l)

-- The earliest of several times

-- one of two times, whichever is the smaller
smaller : (x y b : ℕ) → b ≤ x → b ≤ y → b ≤ cond (leb x y) x y
smaller x y b h g = go (leb x y)
  where
    go : (t : Bool) → b ≤ cond t x y
    go true = h
    go false = g

smaller-left : (x y : ℕ) → cond (leb x y) x y ≤ x
smaller-left x y = go (leb x y) refl
  where
    go : (t : Bool) → leb x y ≡ t → cond t x y ≤ x
    go true e = omega arith
    go false e = let h = leb-false x y e in omega (arith, h)

smaller-right : (x y : ℕ) → cond (leb x y) x y ≤ y
smaller-right x y = go (leb x y) refl
  where
    go : (t : Bool) → leb x y ≡ t → cond t x y ≤ y
    go true e = leb-true x y e
    go false e = omega arith

earliest-least : (n : ℕ) (at : ℕ → ℕ) (b : ℕ) → ((j : ℕ) → 1 ≤ j → j ≤ suc n → b ≤ at j) → b ≤ earliest n at
unfolding earliest
earliest-least zero at b h = h 1 (omega arith) (omega arith)
earliest-least (suc n) at b h = smaller (earliest n at) (at (suc (suc n))) b (earliest-least n at b (λ j l m. h j l (omega (arith, m))))
    (h (suc (suc n)) (omega arith) (omega arith))

earliest-below : (n : ℕ) (at : ℕ → ℕ) (j : ℕ) → 1 ≤ j → j ≤ suc n → earliest n at ≤ at j
unfolding earliest
earliest-below zero at j l m = let e : 1 ≡ j = omega (arith, l, m) in let h : at 1 ≤ at 1 = omega arith in subst (λ (i : ℕ). at 1 ≤ at i) e
    h
earliest-below (suc n) at j l m =
    let x = earliest n at in
    let y = at (suc (suc n)) in
    same_or_not j (suc (suc n))
    (λ g. subst (λ (i : ℕ). cond (leb x y) x y ≤ at i) (sym g) (smaller-right x y))
    (λ g.
    let h = earliest-below n at j l (omega (arith, m, g)) in
    let k = smaller-left x y in
    omega (arith, h, k))

module _ {n shortest skew : ℕ} {made : ℕ → ℕ → ℕ} (S : Skewed n shortest skew made) where
  abbrev first : ℕ → ℕ
  first k = earliest n (λ j. made j k)

  paced : Timetable shortest first
  paced = record {
    each = λ k. earliest-least n (λ j. made j (suc k)) (first k + shortest)
        (λ j l m. let a = earliest-below n (λ i. made i k) j l m in let b = S.paced j k l m in omega (arith, a, b));
  }

  punctual : (j t c : ℕ) → 1 ≤ j → j ≤ suc n → made j (calls c) ≤ t → t < made j (suc (calls c)) → OnTime first skew t c
  punctual j t c l m x y =
      let a = earliest-below n (λ i. made i (calls c)) j l m in
      let k = suc (calls c) in
      let b : made j k - skew ≤ first k = earliest-least n (λ i. made i k) (made j k - skew)
      (λ i p q. let g = S.near i j k p q l m in omega (arith, g)) in
      record { last = omega (arith, a, x); next = omega (arith, b, y) }

pub keeps-time : KeepsTime
keeps-time =
    record {
      packets = λ shortest skew age due T w t u c d x y p q e g. same-negotiation c d (near T skew age w t u c d x y p q) e g;
      schedules = λ shortest skew age due T w t u c d x y p q e g. same-round c d (near T skew age w t u c d x y p q) (e ∙ sym g);
      in_step = λ shortest skew due T w t A o.
          record {
            any = λ i j u v. near T skew 0 (omega (arith, w)) t t (A.clock i) (A.clock j) (omega arith) (omega arith) (o.each i u)
                (o.each j v);
          };
      restarts = λ shortest skew due T t u c d. not_back T skew t u c d;
      by-neighbour = λ c d e s h. let o = s.one in omega (arith, o, h);
      timetable = λ n shortest skew made S. paced S;
      on-time = λ n shortest skew made S. punctual S;
    }
