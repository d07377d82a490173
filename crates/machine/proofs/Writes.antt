-- Numbers written one behind another.
-- Assumes nothing.
use mathlib.Core.Path.{◌≡◌, refl, sym, ap, ap₂, ◌∙◌}
use mathlib.Core.Bool.{Bool, true, false}
use mathlib.Core.List.{List, [], ◌∷◌, ◌++◌, append_assoc}
use Prim.Native.Nat.{ℕ, ◌+◌, ◌-◌, ◌≤◌, ◌<◌}
use native.Mathlib.Omega.{arith}
use native.Mathlib.Numerals.{add-one}
use borrow.Author.Tests.{ltb-true, ltb-false}
use lib.Dec.{ltb}
use lib.ListN.{length, get_or, set, take, length-append, length-set}
use lib.Seq.{take-suc, take_all, length-take-le, ext_get_or, get_or-set_same, get_or-set_other}
use Rattle.lists.specs.Bytes.{written, Put}
use Rattle.words.proofs.Tests.{same_or_not}
use borrow.Rule.Slice.PartMut.{put_mid}
use Rattle.lists.proofs.Laws.{length-written, part-written}
use Rattle.lists.proofs.Places.{before-written, in-written, behind-written}
use Rattle.lists.proofs.Chain.{written-more, one, then}

-- two parts
pub two : {m n : List ℕ} (l a b : List ℕ) (at to : ℕ) → m ≡ written l at a → n ≡ written m to b → to ≡ at + length a → at
    + length a ≤ length l → n ≡ written l at (a ++ b)
two l a b at to e f g h = f ∙ ap₂ (λ (x : List ℕ) (y : ℕ). written x y b) e g ∙ written-more l a b at h

-- three parts
pub three : {m n o : List ℕ} (l a b c : List ℕ) (at to end : ℕ) → m ≡ written l at a → n ≡ written m to b → o ≡ written n end c → to ≡ at
    + length a → end ≡ to + length b → end ≤ length l → o ≡ written l at (a ++ (b ++ c))
three {m} {n} {o} l a b c at to end e f g h k r =
    two l (a ++ b) c at end (two l a b at to e f h (omega arith)) g (omega (arith, length-append a b)) (omega (arith, length-append a b))
    ∙ ap (written l at) (append_assoc a b c)

-- a loop that puts a list at a place: one number more, and its end
module _ (l b : List ℕ) (at : ℕ) (h : at + length b ≤ length l) where
  pub put-more : {m : List ℕ} (i : ℕ) → i < length b → length m ≡ length l → Put l at (take i b) (at + i) m
      → Put l at (take (i + 1) b) (at + (i + 1)) (set m (at + i) (get_or b i 0))
  put-more {m} i g n p =
      let j : at + i + 1 ≤ length m = omega arith in
      let k : at + length (take i b) ≤ length l = rw (length-take-le i b (omega arith)) (omega arith) in
      let e : at + i + 1 ≡ at + (i + 1) = omega arith in
      rw (← e, add-one i, take-suc b i 0) (then k p (one m (at + i) (get_or b i 0) j))

  pub put-end : {m : List ℕ} (i : ℕ) → length b ≤ i → Put l at (take i b) (at + i) m → m ≡ written l at b
  put-end i g p = p.is ∙ ap (written l at) (take_all i b g)

-- a list that was copied to a place
pub put-copy : {m : List ℕ} (l b : List ℕ) (at n : ℕ) → m ≡ b → length b ≡ n → put_mid at (at + n - at) l m ≡ written l at b
put-copy l b at n e h =
    ap (put_mid at (at + n - at) l) e ∙ part-written l b at (at + n) (omega arith) (omega (arith, h))

-- a part, and one number
pub then_one : {m : List ℕ} (l a : List ℕ) (x at to : ℕ) → m ≡ written l at a → to ≡ at + length a → to + 1 ≤ length l → set m to x
    ≡ written l at (a ++ (x ∷ []))
then_one {m} l a x at to e h r =
    let k : length m ≡ length l = ap length e ∙ length-written l a at (omega arith) in
    two l a (x ∷ []) at to e (one m to x (omega arith)).is h (omega arith)

-- one number within a part that was written
pub set-in : (l b : List ℕ) (at k x : ℕ) → k < length b → at + length b ≤ length l → set (written l at b) (at + k) x
    ≡ written l at (set b k x)
set-in l b at k x h r =
    ext_get_or 0 (set (written l at b) (at + k) x) (written l at (set b k x))
    (length-set (written l at b) (at + k) x ∙ length-written l b at r ∙ sym (length-written l (set b k x) at s))
    (λ j g. same_or_not j (at + k) here (there j))
  where
    s : at + length (set b k x) ≤ length l
    s = omega (arith, r, length-set b k x)

    here : {j : ℕ} → j ≡ at + k → get_or (set (written l at b) (at + k) x) j 0 ≡ get_or (written l at (set b k x)) j 0
    here {j} e =
        ap (λ (i : ℕ). get_or (set (written l at b) (at + k) x) i 0) e
        ∙ get_or-set_same (written l at b) (at + k) x 0 (omega (arith, h, r, length-written l b at r))
        ∙ sym (get_or-set_same b k x 0 h) ∙ sym (in-written l (set b k x) at s k (omega (arith, h, length-set b k x)))
        ∙ ap (λ (i : ℕ). get_or (written l at (set b k x)) i 0) (sym e)

    part : (j : ℕ) → at ≤ j → j < at + length b → (j ≡ at + k → ⊥) → get_or (written l at b) j 0 ≡ get_or (written l at (set b k x)) j 0
    part j a e n =
        let q : ℕ = j - at in
        let f : j ≡ at + q = omega arith in
        ap (λ (i : ℕ). get_or (written l at b) i 0) f ∙ in-written l b at r q (omega (arith, e))
        ∙ sym (get_or-set_other b k q x 0 (λ p. n (omega (arith, p, a))))
        ∙ sym (in-written l (set b k x) at s q (omega (arith, e, length-set b k x)))
        ∙ ap (λ (i : ℕ). get_or (written l at (set b k x)) i 0) (sym f)

    there : (j : ℕ) → (j ≡ at + k → ⊥) → get_or (set (written l at b) (at + k) x) j 0 ≡ get_or (written l at (set b k x)) j 0
    there j n =
        get_or-set_other (written l at b) (at + k) j x 0 n ∙ go (ltb j at) refl (ltb j (at + length b)) refl
      where
        go : (t : Bool) → ltb j at ≡ t → (u : Bool) → ltb j (at + length b) ≡ u → get_or (written l at b) j 0
            ≡ get_or (written l at (set b k x)) j 0
        go true a u e = before-written l b at r j (ltb-true j at a) ∙ sym (before-written l (set b k x) at s j (ltb-true j at a))
        go false a true e = part j (ltb-false j at a) (ltb-true j (at + length b) e) n
        go false a false e =
            let m : at + length b ≤ j = ltb-false j (at + length b) e in
            behind-written l b at r j m ∙ sym (behind-written l (set b k x) at s j (omega (arith, m, length-set b k x)))
