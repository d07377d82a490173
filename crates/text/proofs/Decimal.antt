-- The digits that are written of a number.
-- Assumes nothing.
use mathlib.Core.Path.{◌≡◌, refl, sym, ap, ap₂, ◌∙◌}
use mathlib.Core.Bool.{Bool, true, false, cond}
use mathlib.Core.List.{List, [], ◌∷◌, ◌++◌, append_assoc}
use Prim.Native.Nat.{ℕ, zero, suc, ◌+◌, ◌*◌, ◌/◌, ◌%◌, ◌-◌, ◌^◌, ◌≤◌, ◌<◌}
use native.Mathlib.Omega.{arith}
use native.Mathlib.Numerals.{add-one}
use borrow.Author.Tests.{lt-ltb, le-ltb, ltb-true}
use lib.Dec.{ltb}
use lib.ListN.{length, take, drop, set, length-append}
use lib.Seq.{lt-length-set, drop-cons, get_or-set_same, drop-set-lt, take-set-le}
use Rattle.lists.specs.Bytes.{written}
use Rattle.text.specs.Write.{digits_of}

pub digits-one : (k x : ℕ) → (k ≡ 0 → ⊥) → x < 10 → digits_of k x ≡ (48 + x) ∷ []
unfolding digits_of
digits-one zero x n h = absurd (n refl)
digits-one (suc k) x n h = rw (lt-ltb x 10 h)

pub digits_more : (k x : ℕ) → (k ≡ 0 → ⊥) → 10 ≤ x → digits_of k x ≡ digits_of (k - 1) (x / 10) ++ ((48 + x % 10) ∷ [])
unfolding digits_of
digits_more zero x n h = absurd (n refl)
digits_more (suc k) x n h =
    let e : suc k - 1 ≡ k = omega arith in
    rw (e, le-ltb x 10 h)

pub length-digits-one : (k x : ℕ) → (k ≡ 0 → ⊥) → x < 10 → length (digits_of k x) ≡ 1
length-digits-one k x n h = ap length (digits-one k x n h)

pub length-digits-more : (k x : ℕ) → (k ≡ 0 → ⊥) → 10 ≤ x → length (digits_of k x) ≡ length (digits_of (k - 1) (x / 10)) + 1
length-digits-more k x n h = ap length (digits_more k x n h) ∙ length-append (digits_of (k - 1) (x / 10)) ((48 + x % 10) ∷ [])

-- at most k digits
pub digits-at-most : (k x : ℕ) → length (digits_of k x) ≤ k
unfolding digits_of
digits-at-most zero x = omega arith
digits-at-most (suc k) x = go (ltb x 10) (digits-at-most k (x / 10))
  where
    go : (t : Bool) → length (digits_of k (x / 10)) ≤ k → length (cond t ((48 + x) ∷ []) (digits_of k (x / 10) ++ ((48 + x % 10) ∷ []))) ≤
        suc k
    go true h = omega arith
    go false h = omega (arith, length-append (digits_of k (x / 10)) ((48 + x % 10) ∷ []))

-- 10 to the m
unfoldable pub tens : ℕ → ℕ
tens zero = 1
tens (suc m) = 10 * tens m

-- a number below 10 to the m + 1 has at most m + 1 digits
pub digits-short : (m k x : ℕ) → x < 10 * tens m → length (digits_of k x) ≤ suc m
unfolding digits_of tens
digits-short m zero x h = omega arith
digits-short zero (suc k) x h = rw (lt-ltb x 10 (omega arith)) (omega arith)
digits-short (suc m) (suc k) x h = go (ltb x 10) (digits-short m k (x / 10) (omega arith))
  where
    go : (t : Bool) → length (digits_of k (x / 10)) ≤ suc m → length (cond t ((48 + x) ∷ []) (digits_of k (x / 10) ++ ((48 + x % 10) ∷ [])))
        ≤ suc (suc m)
    go true h = omega arith
    go false h = omega (arith, length-append (digits_of k (x / 10)) ((48 + x % 10) ∷ []))

tens-some : (m : ℕ) → 1 ≤ tens m
unfolding tens
tens-some zero = omega arith
tens-some (suc m) = omega (arith, tens-some m)

-- and one from 10 to the m on has m + 1
pub digits-exact : (m k x : ℕ) → m < k → tens m ≤ x → x < 10 * tens m → length (digits_of k x) ≡ suc m
unfolding tens
digits-exact zero k x h l u = length-digits-one k x (λ e. absurd (omega (arith, e, h))) u
digits-exact (suc m) k x h l u =
    let p = tens-some m in
    let r = digits-exact m (k - 1) (x / 10) (omega (arith, h)) (omega (arith, l)) (omega (arith, u)) in
    omega (arith, length-digits-more k x (λ e. absurd (omega (arith, e, h))) (omega (arith, l, p)), r)

tens-power : (m : ℕ) → tens m ≡ 10 ^ m
unfolding tens
tens-power zero = refl
tens-power (suc m) = let e = tens-power m in omega (arith, e)

-- by the power of ten below it
pub digits-power : (m x : ℕ) → m < 10 → 10 ^ m ≤ x → x < 10 * 10 ^ m → m + 1 ≡ length (digits_of 10 x)
digits-power m x h l u =
    let e = tens-power m in
    add-one m ∙ sym (digits-exact m 10 x h (rw e l) (rw e u))

-- the m lowest digits of a number
unfoldable pub lowest : ℕ → ℕ → List ℕ
lowest zero v = []
lowest (suc m) v = lowest m (v / 10) ++ ((48 + v % 10) ∷ [])

length-lowest : (m v : ℕ) → length (lowest m v) ≡ m
unfolding lowest
length-lowest zero v = refl
length-lowest (suc m) v = omega (arith, length-append (lowest m (v / 10)) ((48 + v % 10) ∷ []), length-lowest m (v / 10))

-- all its digits are as many of the lowest
pub digits-lowest : (k x : ℕ) → digits_of k x ≡ lowest (length (digits_of k x)) x
unfolding digits_of lowest
digits-lowest zero x = refl
digits-lowest (suc k) x = go (ltb x 10) refl (digits-lowest k (x / 10))
  where
    last : List ℕ
    last = (48 + x % 10) ∷ []

    go : (t : Bool) → ltb x 10 ≡ t → digits_of k (x / 10) ≡ lowest (length (digits_of k (x / 10))) (x / 10)
        → cond t ((48 + x) ∷ []) (digits_of k (x / 10) ++ last) ≡ lowest (length (cond t ((48 + x) ∷ []) (digits_of k (x / 10) ++ last))) x
    go true h e =
        let z : x ≡ x % 10 = omega (arith, ltb-true x 10 h) in
        ap (λ (n : ℕ). (48 + n) ∷ []) z
    go false h e =
        let z : suc (length (digits_of k (x / 10))) ≡ length (digits_of k (x / 10) ++ last) = omega
        (arith, length-append (digits_of k (x / 10)) last) in
        ap (λ (l : List ℕ). l ++ last) e ∙ ap (λ (n : ℕ). lowest n x) z

-- the last byte of a part is written before the others
written_back : (l b : List ℕ) (at d : ℕ) → at + length b < length l → written (set l (at + length b) d) at b ≡ written l at (b ++ (d ∷ []))
written_back l b at d h =
    let p = at + length b in
    let q = at + length (b ++ (d ∷ [])) in
    let f : suc p ≡ q = omega (arith, length-append b (d ∷ [])) in
    let e : drop p (set l p d) ≡ d ∷ drop q l =
    drop-cons (set l p d) p 0 (lt-length-set l p d h) ∙ ap₂ (λ (x : ℕ) (y : List ℕ). x ∷ y) (get_or-set_same l p d 0 h)
    (drop-set-lt (suc p) l p d (omega arith) ∙ ap (λ (n : ℕ). drop n l) f) in
    ap₂ (λ (x y : List ℕ). (x ++ b) ++ y) (take-set-le at l p d (omega arith)) e
    ∙ sym (append_assoc (take at l ++ b) (d ∷ []) (drop q l))
    ∙ ap (λ (x : List ℕ). x ++ drop q l) (append_assoc (take at l) b (d ∷ []))

-- one digit more, from behind
pub digit-back : (l : List ℕ) (at i v : ℕ) → at < i → i ≤ length l
    → written (set l (i - 1) (48 + v % 10)) at (lowest (i - 1 - at) (v / 10)) ≡ written l at (lowest (i - at) v)
unfolding lowest
digit-back l at i v h k =
    let b = lowest (i - 1 - at) (v / 10) in
    let n : length b ≡ i - 1 - at = length-lowest (i - 1 - at) (v / 10) in
    let p : i - 1 ≡ at + length b = omega (arith, n, h) in
    let m : suc (i - 1 - at) ≡ i - at = omega (arith, h) in
    ap (λ (j : ℕ). written (set l j (48 + v % 10)) at b) p ∙ written_back l b at (48 + v % 10) (omega (arith, p, h, k))
    ∙ ap (λ (j : ℕ). written l at (lowest j v)) m
