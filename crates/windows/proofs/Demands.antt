-- One pass over a list tells what is due of each node up to 32: each window writes to the entry of its own node, or to that of none.
-- Assumes nothing.
use mathlib.Core.Path.{◌≡◌, refl, sym, ap, ap₂, ◌∙◌}
use mathlib.Core.Bool.{Bool, true, false, not, cond, ◌&&◌, ◌||◌, and-false}
use mathlib.Core.Logic.{◌≢◌}
use mathlib.Core.List.{List}
use Prim.Native.Nat.{ℕ, ◌+◌, ◌≤◌, ◌<◌}
use native.Mathlib.Omega.{arith}
use borrow.Author.Tests.{eq-eqb, ne_eqb, leb-false}
use lib.Dec.{eqb, leb}
use Rattle.std.proofs.lemmas.List.{get_or-replicate}
use lib.ListN.{length, get_or, set, replicate, length-set}
use lib.Seq.{ext_get_or, get_or-set_same, get_or-set_other}
use Rattle.words.proofs.Tests.{same_or_not}
use Rattle.lists.specs.All.{iter, tab, all_below}
use Rattle.lists.proofs.Laws.{iter-none, iter-more, all_none, all_more, length-tab, get_d-tab, get_d-zeros}
use Rattle.windows.specs.Windows.{window_at, holds_at, is_due, has_windows, demand_at, due_at}
use Rattle.windows.specs.Inner.{demand_entry, entry_due}
use Rattle.windows.specs.declared.Window.{Window}

-- a list by its rule, with one element set
pub tab-set : {A : Type 0} (d : A) (n : ℕ) (f g : ℕ → A) (l : List A) (r : ℕ) (x : A) → l ≡ tab n f → r < n → x ≡ g r
    → ((i : ℕ) → i < n → i ≢ r → f i ≡ g i) → set l r x ≡ tab n g
tab-set {A} d n f g l r x e h k s =
    let m : length l ≡ n = ap length e ∙ length-tab n f in
    ext_get_or d (set l r x) (tab n g) (length-set l r x ∙ m ∙ sym (length-tab n g))
    (λ i b.
    let w : i < n = omega (arith, b, length-set l r x, m) in
    same_or_not i r
    (λ z. ap (λ (y : ℕ). get_or (set l r x) y d) z ∙ get_or-set_same l r x d (omega (arith, h, m)) ∙ k ∙ ap g (sym z)
    ∙ sym (get_d-tab d n g i w))
    (λ z. get_or-set_other l r i x d z ∙ ap (λ (y : List A). get_or y i d) e ∙ get_d-tab d n f i w ∙ s i w z ∙ sym (get_d-tab d n g i w)))

-- an element read after one was set
read_set : {A : Type 0} (l : List A) (r j : ℕ) (x d : A) → r < length l → get_or (set l r x) j d ≡ cond (eqb r j) x (get_or l j d)
read_set {A} l r j x d h =
    same_or_not j r
    (λ e. ap (λ (i : ℕ). get_or (set l r x) i d) e ∙ get_or-set_same l r x d h
    ∙ sym (ap (λ (t : Bool). cond t x (get_or l j d)) (eq-eqb r j (sym e))))
    (λ e. get_or-set_other l r j x d e ∙ sym (ap (λ (t : Bool). cond t x (get_or l j d)) (ne_eqb r j (λ z. e (sym z)))))

stays : (t : Bool) → t ≡ (t && true)
stays true = refl
stays false = refl

module _ (j : ℕ) (low : 1 ≤ j) (high : j < 33) where
  no-entry : eqb 0 j ≡ false
  no-entry = ne_eqb 0 j (λ e. absurd (omega (arith, e, low)))

  -- the entry of a node up to 32 is that of its own number alone
  entry-is : (m : ℕ) → eqb (demand_entry m) j ≡ eqb m j
  entry-is m = go (leb m 32) refl
    where
      go : (t : Bool) → leb m 32 ≡ t → eqb (cond t m 0) j ≡ eqb m j
      go true h = refl
      go false h = no-entry ∙ sym (ne_eqb m j (λ e. absurd (omega (arith, e, high, leb-false m 32 h))))

  due-is : (e : ℕ) (w : Window) → eqb (entry_due e w) j ≡ is_due j e w
  due-is e w = go (holds_at w e)
    where
      go : (t : Bool) → eqb (cond t (demand_entry w.node) 0) j ≡ (eqb w.node j && t)
      go true = entry-is w.node ∙ stays (eqb w.node j)
      go false = no-entry ∙ sym (and-false (eqb w.node j))

-- none of the first n windows is one of node j, and the demand of the last of them that is due
abbrev pub none_of : List Window → ℕ → ℕ → Bool
none_of ws j n = all_below n (λ i. not (eqb (window_at ws i).node j))

abbrev pub last_due : List Window → ℕ → ℕ → ℕ → ℕ
last_due ws j e n = iter n (λ i d. cond (is_due j e (window_at ws i)) (window_at ws i).demand d) 0

-- one window more: a mark that is set, or one that was there
pub mark-more : (ws : List Window) (j n : ℕ) (x : Bool) → x ≡ not (none_of ws j n)
    → (x || eqb (window_at ws n).node j) ≡ not (none_of ws j (n + 1))
mark-more ws j n x h =
    ap (λ (b : Bool). b || eqb (window_at ws n).node j) h ∙ go (none_of ws j n) (eqb (window_at ws n).node j)
    ∙ ap not (all_more _ n _ _ refl refl)
  where
    go : (a t : Bool) → (not a || t) ≡ not (a && not t)
    go true true = refl
    go true false = refl
    go false t = refl

-- the demand that is due, by what all windows have told
pub told_at : (ws : List Window) (j e d n : ℕ) {own : Bool} {due : ℕ} → n ≡ length ws → own ≡ not (none_of ws j n)
    → due ≡ last_due ws j e n → cond own due d ≡ due_at ws j e d
unfolding has_windows demand_at due_at
told_at ws j e d n h p q = ap₂ (λ (b : Bool) (v : ℕ). cond b v d) p q
    ∙ ap (λ (m : ℕ). cond (not (none_of ws j m)) (last_due ws j e m) d) h

-- what the first n windows have told of nodes 1 to 32
pub record Told (ws : List Window) (e n : ℕ) (own : List Bool) (due : List ℕ) : Type 0 where
  pub mark : (j : ℕ) → 1 ≤ j → j < 33 → get_or own j false ≡ not (none_of ws j n)
  pub demand : (j : ℕ) → 1 ≤ j → j < 33 → get_or due j 0 ≡ last_due ws j e n

pub told_none : (ws : List Window) (e : ℕ) → Told ws e 0 (replicate 33 false) (replicate 33 0)
told_none ws e = record {
  mark = λ j _ h. get_or-replicate 33 j false false h ∙ ap not (all_none _);
  demand = λ j _ _. get_d-zeros 33 j ∙ iter-none _ _;
}

or-mark : (t x : Bool) → cond t true x ≡ (x || t)
or-mark true true = refl
or-mark true false = refl
or-mark false true = refl
or-mark false false = refl

pub told-turn : {ws : List Window} {e n : ℕ} {own : List Bool} {due : List ℕ} {r k : ℕ} → Told ws e n own due
    → r ≡ demand_entry (window_at ws n).node → r < length own → k ≡ entry_due e (window_at ws n) → k < length due
    → Told ws e (n + 1) (set own r true) (set due k (window_at ws n).demand)
told-turn {ws} {e} {n} {own} {due} {r} {k} t a f b g = record {
  mark = λ j x y.
      read_set own r j true false f ∙ or-mark (eqb r j) (get_or own j false)
      ∙ ap (λ (z : Bool). get_or own j false || z) (ap (λ (z : ℕ). eqb z j) a ∙ entry-is j x y (window_at ws n).node)
      ∙ mark-more ws j n (get_or own j false) (t.mark j x y);
  demand = λ j x y.
      iter-more _ 0 n (get_or due j 0) _ (t.demand j x y)
      (read_set due k j (window_at ws n).demand 0 g
      ∙ ap (λ (z : Bool). cond z (window_at ws n).demand (get_or due j 0)) (ap (λ (z : ℕ). eqb z j) b ∙ due-is j x y e (window_at ws n)));
}

pub told-all : {ws : List Window} {e n : ℕ} {own : List Bool} {due : List ℕ} → Told ws e n own due → n ≡ length ws
    → (j d : ℕ) → 1 ≤ j → j < 33 → cond (get_or own j false) (get_or due j 0) d ≡ due_at ws j e d
told-all {ws} {e} {n} t h j d x y = told_at ws j e d n h (t.mark j x y) (t.demand j x y)
