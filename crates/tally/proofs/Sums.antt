-- Sums and counts: a turn of a loop, bounds, and a table summed by rows or by columns.
-- Assumes nothing.
use mathlib.Core.Path.{◌≡◌, refl, sym, ap, ap₂, ◌∙◌}
use mathlib.Core.Bool.{Bool, true, false}
use Prim.Native.Nat.{ℕ, zero, suc, ◌+◌, ◌*◌, ◌≤◌, ◌<◌}
use native.Mathlib.Omega.{arith}
use mir.Val.{bool_byte}
use mathlib.Core.List.{List, ◌++◌}
use lib.ListN.{length, get_or, drop}
use lib.Seq.{get_or_at, drop-cons}
use Rattle.lists.specs.All.{tab}
use Rattle.lists.proofs.Laws.{length-tab}
use Rattle.words.specs.Bits.{digit, how_many}
use Rattle.words.proofs.Counts.{how_many-none, how_many-suc}
use Rattle.tally.specs.Claims.{sum}

add-one : (n : ℕ) → suc n ≡ n + 1
add-one n = omega arith

pub digit-le : (t : Bool) → digit t ≤ 1
digit-le true = omega arith
digit-le false = omega arith

-- a test as a number, in the code
pub byte-digit : (t : Bool) → bool_byte t ≡ digit t
byte-digit true = refl
byte-digit false = refl

-- what stands where a list that is filled by its rule has come to
pub fill-next : (n : ℕ) (f : ℕ → ℕ) (d : List ℕ) → n < length d → get_or (tab n f ++ drop n d) n 0 ≡ get_or d n 0
fill-next n f d h = ap (λ (l : List ℕ). get_or (tab n f ++ l) n 0) (drop-cons d n 0 h)
    ∙ get_or_at (tab n f) (get_or d n 0) (drop (suc n) d) 0 n (length-tab n f)

-- a count is at most as many as are counted
pub how_many-le : (n : ℕ) (p : ℕ → Bool) → how_many n p ≤ n
how_many-le zero p = omega (arith, how_many-none p)
how_many-le (suc n) p =
    let s = how_many-suc p n in
    let d = digit-le (p n) in
    let r = how_many-le n p in
    omega arith

-- a sum: its start, its turn, its end and its bound
pub sum-none : (g : ℕ → ℕ) → sum 0 g ≡ 0
unfolding sum
sum-none g = refl

pub sum-suc : (g : ℕ → ℕ) (n : ℕ) → sum (suc n) g ≡ g n + sum n g
unfolding sum
sum-suc g n = refl

pub sum_more : (g : ℕ → ℕ) (n x d : ℕ) → x ≡ sum n g → d ≡ g n → x + d ≡ sum (n + 1) g
sum_more g n x d e f =
    let s = sum-suc g n in
    let h : sum (suc n) g ≡ sum (n + 1) g = ap (λ (m : ℕ). sum m g) (add-one n) in
    omega arith

pub sum-end : (g : ℕ → ℕ) (n m x : ℕ) → x ≡ sum n g → n ≡ m → x ≡ sum m g
sum-end g n m x e h = e ∙ ap (λ (k : ℕ). sum k g) h

pub sum-le : (top n : ℕ) (g : ℕ → ℕ) → ((i : ℕ) → i < n → g i ≤ top) → sum n g ≤ n * top
sum-le top zero g h = omega (arith, sum-none g)
sum-le top (suc n) g h =
    let s = sum-suc g n in
    let d = h n (omega arith) in
    let r = sum-le top n g (λ i l. h i (omega arith)) in
    omega arith

pub sum-ext : (n : ℕ) (g h : ℕ → ℕ) → ((i : ℕ) → i < n → g i ≡ h i) → sum n g ≡ sum n h
sum-ext zero g h e = sum-none g ∙ sym (sum-none h)
sum-ext (suc n) g h e = sum-suc g n ∙ ap₂ ◌+◌ (e n (omega arith)) (sum-ext n g h (λ i l. e i (omega arith))) ∙ sym (sum-suc h n)

pub sum-add : (n : ℕ) (g h : ℕ → ℕ) → sum n (λ i. g i + h i) ≡ sum n g + sum n h
sum-add zero g h =
    let a = sum-none (λ i. g i + h i) in
    let b = sum-none g in
    let c = sum-none h in
    omega arith
sum-add (suc n) g h =
    let a = sum-suc (λ i. g i + h i) n in
    let b = sum-suc g n in
    let c = sum-suc h n in
    let e = sum-add n g h in
    omega arith

pub sum-zero : (n : ℕ) (g : ℕ → ℕ) → ((i : ℕ) → i < n → g i ≡ 0) → sum n g ≡ 0
sum-zero n g e = let l = sum-le 0 n g (λ i l. omega (arith, e i l)) in omega arith

sum-digit : (n : ℕ) (p : ℕ → Bool) → sum n (λ i. digit (p i)) ≡ how_many n p
sum-digit zero p = sum-none (λ i. digit (p i)) ∙ sym (how_many-none p)
sum-digit (suc n) p = sum-suc (λ i. digit (p i)) n ∙ ap (λ (x : ℕ). digit (p n) + x) (sum-digit n p) ∙ sym (how_many-suc p n)

-- by rows or by columns
pub sums-meet : (a b : ℕ) (p : ℕ → ℕ → Bool) → sum a (λ k. how_many b (p k)) ≡ sum b (λ i. how_many a (λ k. p k i))
sums-meet zero b p = sum-none (λ k. how_many b (p k)) ∙ sym (sum-zero b (λ i. how_many 0 (λ k. p k i)) (λ i l. how_many-none (λ k. p k i)))
sums-meet (suc a) b p =
    let s = sum-suc (λ k. how_many b (p k)) a in
    let x = sums-meet a b p in
    let y = sum-digit b (p a) in
    let z = sum-add b (λ i. digit (p a i)) (λ i. how_many a (λ k. p k i)) in
    let u = sum-ext b (λ i. how_many (suc a) (λ k. p k i)) (λ i. digit (p a i) + how_many a (λ k. p k i)) (λ i l. how_many-suc (λ k. p k i) a)
    in
    omega arith
