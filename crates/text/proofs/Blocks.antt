-- The first c by parts of a list: near its front, or behind blocks of 16 bytes that have none.
-- Assumes nothing.
use mathlib.Core.Path.{◌≡◌, refl, sym, ap, ◌∙◌}
use mathlib.Core.Bool.{Bool, true, false, not, cond}
use mathlib.Core.List.{List, [], ◌∷◌}
use Prim.Native.Nat.{ℕ, zero, suc, ◌+◌, ◌*◌, ◌≤◌, ◌<◌}
use native.Mathlib.Omega.{arith}
use borrow.Author.Tests.{eq-eqb}
use lib.Dec.{eqb}
use lib.ListN.{length, get_or, take, drop}
use lib.Seq.{get_or-take, get_or-drop, drop-drop}
use Rattle.std.specs.Simd.{first_chunks}
use Rattle.words.proofs.Tests.{never}
use Rattle.lists.specs.All.{all_below}
use Rattle.lists.proofs.Laws.{all-at}
use Rattle.text.specs.Read.{before}
use Rattle.text.proofs.Pieces.{before_more}

-- the block at an index
pub block_at : (m : ℕ) (s : List ℕ) (j : ℕ) → j < m → get_or (first_chunks 16 m s) j [] ≡ take 16 (drop (16 * j) s)
block_at zero s j h = absurd (omega arith)
block_at (suc m) s zero h = refl
block_at (suc m) s (suc j) h =
    let e : 16 + 16 * j ≡ 16 * suc j = omega arith in
    block_at m (drop 16 s) j (omega arith) ∙ ap (take 16) (drop-drop (16 * j) 16 s ∙ ap (λ (k : ℕ). drop k s) e)

-- n bytes that are no c
before-past : (c : ℕ) (s : List ℕ) (i n : ℕ) → i + n ≤ length s → ((k : ℕ) → k < n → get_or s (i + k) 0 ≡ c → ⊥)
    → before c (drop i s) ≡ n + before c (drop (i + n) s)
before-past c s i zero h f =
    let z : i + 0 ≡ i = omega arith in
    let e : before c (drop (i + 0) s) ≡ before c (drop i s) = ap (λ (k : ℕ). before c (drop k s)) z in
    omega (arith, e)
before-past c s i (suc n) h f =
    let p = before-past c s i n (omega arith) (λ k l. f k (omega arith)) in
    let m = before_more c s (i + n) (omega arith) (f n (omega arith)) in
    let z : i + n + 1 ≡ i + suc n = omega arith in
    let e : before c (drop (i + n + 1) s) ≡ before c (drop (i + suc n) s) = ap (λ (k : ℕ). before c (drop k s)) z in
    omega (arith, p, m, e)

-- a block that lacks c, from a place on
pub before-block : (c : ℕ) (s b : List ℕ) (i : ℕ) → i + 16 ≤ length s → b ≡ take 16 (drop i s)
    → all_below 16 (λ k. not (eqb (get_or b k 0) c)) ≡ true → before c (drop i s) ≡ 16 + before c (drop (i + 16) s)
before-block c s b i h w t = before-past c s i 16 h no
  where
    no : (k : ℕ) → k < 16 → get_or s (i + k) 0 ≡ c → ⊥
    no k l e =
        let v : get_or b k 0 ≡ get_or s (i + k) 0 =
        ap (λ (y : List ℕ). get_or y k 0) w ∙ get_or-take 16 (drop i s) k 0 l ∙ get_or-drop i s k 0 in
        let q = all-at 16 (λ j. not (eqb (get_or b j 0) c)) t k l in
        never (sym q ∙ ap not (eq-eqb (get_or b k 0) c (v ∙ e)))

-- the first c is in the first k bytes, or behind them
pub before-parts : (c k : ℕ) (s : List ℕ) → k ≤ length s → (before c (take k s) < k → before c s ≡ before c (take k s))
    × (k ≤ before c (take k s) → before c s ≡ k + before c (drop k s))
unfolding before
before-parts c zero s h = ((λ l. absurd (omega arith)), (λ l. omega arith))
before-parts c (suc k) [] h = absurd (omega arith)
before-parts c (suc k) (b ∷ s) h = go (eqb b c) (before-parts c k s (omega arith))
  where
    Parts : ℕ → ℕ → ℕ → ℕ → Type 0
    Parts n p m q = (p < n → m ≡ p) × (n ≤ p → m ≡ n + q)

    go : (t : Bool) → Parts k (before c (take k s)) (before c s) (before c (drop k s))
        → Parts (suc k) (cond t 0 (suc (before c (take k s)))) (cond t 0 (suc (before c s))) (before c (drop k s))
    go true ih = ((λ l. refl), (λ l. absurd (omega arith)))
    go false ih = ((λ l. ap suc (ih.0 (omega arith))), (λ l. omega (arith, ih.1 (omega arith))))
