-- Windows in order: where each stands behind the one before it, no two overlap.
-- Assumes nothing.
use mathlib.Core.Path.{◌≡◌, refl, sym, ap, ap₂, ◌∙◌}
use mathlib.Core.Bool.{Bool, true, false, not, ◌&&◌, and-false, and-true}
use mathlib.Core.Logic.{◌⊎◌, inl, inr}
use mathlib.Core.List.{List, [], ◌∷◌, ◌++◌}
use Prim.Native.Nat.{ℕ, zero, suc, ◌≤◌, ◌<◌}
use native.Mathlib.Omega.{arith}
use borrow.Author.Tests.{ltb-true, le-ltb, leb-true, eqb-true, ne_eqb}
use lib.Dec.{eqb, ltb, leb}
use lib.ListN.{length, get_or, take}
use lib.Seq.{take-suc}
use Rattle.std.specs.List.{list_all}
use Rattle.words.proofs.Tests.{clash, is_false, by-test, same_or_not, both, and_left, and_right, or-rest}
use Rattle.lists.specs.All.{all_below}
use Rattle.lists.proofs.Laws.{all-at, all-make}
use Rattle.windows.specs.Windows.{window_at, window_ok, overlap, entry_ok}
use Rattle.windows.specs.Inner.{follows, ordered_at}
use Rattle.windows.specs.declared.Window.{Window}

-- two tests that are the same of each number below n
pub all_same : (n : ℕ) (p q : ℕ → Bool) → ((i : ℕ) → i < n → p i ≡ q i) → all_below n p ≡ all_below n q
unfolding all_below
all_same zero p q h = refl
all_same (suc n) p q h = ap₂ ◌&&◌ (all_same n p q (λ i l. h i (omega (arith, l)))) (h n (omega arith))

-- a test that fails at one number below n
pub all_fails : (n : ℕ) (p : ℕ → Bool) (i : ℕ) → i < n → p i ≡ false → false ≡ all_below n p
all_fails n p i l h = sym (is_false (all_below n p) (λ e. clash (p i) (all-at n p e i l) h))

-- a test of the first n of a list, by number
list_all-snoc : {A : Type 0} (p : A → Bool) (l : List A) (x : A) → list_all p (l ++ (x ∷ [])) ≡ (list_all p l && p x)
list_all-snoc p [] x = and-true (p x)
list_all-snoc p (y ∷ l) x = ap (λ (t : Bool). p y && t) (list_all-snoc p l x) ∙ go (p y) (list_all p l) (p x)
  where
    go : (a b c : Bool) → (a && (b && c)) ≡ ((a && b) && c)
    go true b c = refl
    go false b c = refl

pub all-front : {A : Type 0} (p : A → Bool) (d : A) (l : List A) (n : ℕ) → n ≤ length l
    → list_all p (take n l) ≡ all_below n (λ k. p (get_or l k d))
unfolding all_below
all-front p d l zero h = refl
all-front p d l (suc n) h =
    ap (list_all p) (take-suc l n d (omega (arith, h))) ∙ list_all-snoc p (take n l) (get_or l n d)
    ∙ ap (λ (t : Bool). t && p (get_or l n d)) (all-front p d l n (omega (arith, h)))

-- `a && b` where the second test is made only if the first is met
pub then_both : {v r a b : Bool} → r ≡ a → r ≡ true → v ≡ b → v ≡ (a && b)
then_both {v} {r} {a} {b} p q e = e ∙ ap (λ (t : Bool). t && b) (sym q ∙ p)

pub else_none : {v r a : Bool} (b : Bool) → r ≡ a → r ≡ false → v ≡ r → v ≡ (a && b)
else_none b p q e = e ∙ q ∙ ap (λ (t : Bool). t && b) (sym q ∙ p)

-- w stands behind v, as a fact
abbrev Behind : Window → Window → Type 0
Behind v w = (v.node < w.node) ⊎ ((v.node ≡ w.node) × (v.end ≤ w.first))

behind : (v w : Window) → follows v w ≡ true → Behind v w
behind v w h =
    by-test (λ (_ : ℕ). Behind v w) (ltb v.node w.node) 0 0 (λ t. inl (ltb-true v.node w.node t))
    (λ t.
    let r = or-rest (ltb v.node w.node) _ h t in
    inr (
      eqb-true v.node w.node (and_left (eqb v.node w.node) _ r),
      leb-true v.end w.first
          (and_right (eqb v.node w.node) _ r),
    ))

on : (u v w : Window) → v.first < v.end → Behind u v → Behind v w → Behind u w
on u v w h (inl a) (inl b) = inl (omega (arith, a, b))
on u v w h (inl a) (inr b) = inl (omega (arith, a, b.0))
on u v w h (inr a) (inl b) = inl (omega (arith, a.0, b))
on u v w h (inr a) (inr b) = inr (omega (arith, a.0, b.0), omega (arith, a.1, b.1, h))

apart : (v w : Window) → Behind v w → not (overlap v w) ≡ true
apart v w (inl a) = ap (λ (t : Bool). not (t && (ltb v.first w.end && ltb w.first v.end)))
    (ne_eqb v.node w.node (λ e. omega (arith, a, e)))
apart v w (inr a) = ap (λ (t : Bool). not (eqb v.node w.node && t))
    (ap (λ (t : Bool). ltb v.first w.end && t) (le-ltb w.first v.end a.1) ∙ and-false (ltb v.first w.end))
    ∙ ap not (and-false (eqb v.node w.node))

module _ (N D : ℕ) (ws : List Window) (h : all_below (length ws) (ordered_at N D (window_at ws)) ≡ true) where
  abbrev f : ℕ → Window
  f = window_at ws

  one : (i : ℕ) → i < length ws → ordered_at N D f i ≡ true
  one = all-at (length ws) (ordered_at N D f) h

  good : (i : ℕ) → i < length ws → window_ok N D (f i) ≡ true
  good i k = and_left (window_ok N D (f i)) _ (one i k)

  lasts : (i : ℕ) → i < length ws → (f i).first < (f i).end
  lasts i k = ltb-true (f i).first (f i).end
      (and_left (ltb (f i).first (f i).end) _ (and_right (leb 1 (f i).node && leb (f i).node N) _ (good i k)))

  next : (i : ℕ) → suc i < length ws → Behind (f i) (f (suc i))
  next i k = behind (f i) (f (suc i)) (and_right (window_ok N D (f (suc i))) _ (one (suc i) k))

  all-behind : (i k : ℕ) → k < i → i < length ws → Behind (f k) (f i)
  all-behind zero k a b = absurd (omega (arith, a))
  all-behind (suc i) k a b =
      same_or_not k i (λ e. rw e (next i b))
      (λ e. on (f k) (f i) (f (suc i)) (lasts i (omega (arith, b))) (all-behind i k (omega (arith, a, e)) (omega (arith, b))) (next i b))

  pub ordered : true ≡ all_below (length ws) (entry_ok N D ws)
  ordered =
      sym (all-make (length ws) (entry_ok N D ws) (λ i k.
      both (good i k) (all-make i _ (λ j g. apart (f j) (f i) (all-behind i j g k)))))
