-- Laws of windows: a list that keeps the rules, and what is due in an epoch.
-- Assumes nothing.
use mathlib.Core.Path.{◌≡◌, refl, sym, ap, ◌∙◌, subst}
use mathlib.Core.Bool.{Bool, true, false, not, cond, ◌&&◌}
use mathlib.Core.List.{List}
use Prim.Native.Nat.{ℕ, suc, ◌≤◌, ◌<◌}
use native.Mathlib.Omega.{arith}
use borrow.Author.Tests.{eq-eqb, lt-ltb, le-leb, eqb-true, ltb-true, leb-true, ltb-false}
use lib.Dec.{eqb, ltb, leb}
use lib.ListN.{length}
use Rattle.words.proofs.Tests.{never, clash, by-test, same_or_not, hit, skip, is_false, both, and_left, and_right}
use Rattle.lists.specs.All.{all_below}
use Rattle.lists.proofs.Laws.{iter-inv, all-at, all-make}
use Rattle.allotment.specs.Allotment.{top_request}
use Rattle.windows.specs.Windows.{top_windows, window_at, day_ok, window_ok, overlap, entry_ok, list_ok, has_windows, is_due, demand_at, due_at}
use Rattle.windows.specs.Rules.{Rules}
use Rattle.windows.specs.declared.Window.{Window}

-- what it is for a list to keep the rules
pub record Good (N D : ℕ) (ws : List Window) : Type 0 where
  pub day : day_ok D ≡ true
  pub short : length ws ≤ top_windows
  pub each : (i : ℕ) → i < length ws → window_ok N D (window_at ws i) ≡ true
  pub apart : (k i : ℕ) → k < i → i < length ws → overlap (window_at ws k) (window_at ws i) ≡ false

not-true : (t : Bool) → not t ≡ true → t ≡ false
not-true true h = never (sym h)
not-true false h = refl

pub good : (N D : ℕ) (ws : List Window) → list_ok N D ws ≡ true → Good N D ws
unfolding list_ok
good N D ws h =
    let r = and_right (day_ok D) _ h in
    let all : (i : ℕ) → i < length ws → entry_ok N D ws i ≡ true = all-at _ _ (and_right (leb (length ws) top_windows) _ r) in
    record {
      day = and_left (day_ok D) _ h;
      short = leb-true _ _ (and_left (leb (length ws) top_windows) _ r);
      each = λ i l. and_left (window_ok N D (window_at ws i)) _ (all i l);
      apart = λ k i l m. not-true _ (all-at i _ (and_right (window_ok N D (window_at ws i)) _ (all i m)) k l);
    }

-- two windows of one node that hold in one epoch overlap
due-overlap : (j e : ℕ) (v w : Window) → is_due j e v ≡ true → is_due j e w ≡ true → overlap v w ≡ true
due-overlap j e v w p q =
    let a = eqb-true v.node j (and_left _ _ p) in
    let b = eqb-true w.node j (and_left _ _ q) in
    let c = and_right (eqb v.node j) _ p in
    let d = and_right (eqb w.node j) _ q in
    let c₁ = leb-true v.first e (and_left _ _ c) in
    let c₂ = ltb-true e v.end (and_right (leb v.first e) _ c) in
    let d₁ = leb-true w.first e (and_left _ _ d) in
    let d₂ = ltb-true e w.end (and_right (leb w.first e) _ d) in
    both {b = true} {d = true} (eq-eqb v.node w.node (a ∙ sym b))
    (both {b = true} {d = true} (lt-ltb v.first w.end (omega (arith, c₁, d₂)))
    (lt-ltb w.first v.end (omega (arith, d₁, c₂))))

-- at most one window of a node holds in an epoch
pub one-due : (N D : ℕ) (ws : List Window) → list_ok N D ws ≡ true
    → (j e i k : ℕ) → i < length ws → k < length ws → is_due j e (window_at ws i) ≡ true → is_due j e (window_at ws k) ≡ true → i ≡ k
one-due N D ws h j e i k l m p q = same_or_not i k (λ r. r) (λ r. go (ltb i k) refl r)
  where
    go : (t : Bool) → ltb i k ≡ t → (i ≡ k → ⊥) → i ≡ k
    go true r s = clash (overlap (window_at ws i) (window_at ws k)) (due-overlap j e (window_at ws i) (window_at ws k) p q)
        ((good N D ws h).apart i k (ltb-true _ _ r) m)
    go false r s = clash (overlap (window_at ws k) (window_at ws i)) (due-overlap j e (window_at ws k) (window_at ws i) q p)
        ((good N D ws h).apart k i (omega (arith, ltb-false i k r, s)) l)

-- one turn of the lookup
abbrev turn : List Window → ℕ → ℕ → ℕ → ℕ → ℕ
turn ws j e i d = cond (is_due j e (window_at ws i)) (window_at ws i).demand d

pub due-within : (N D : ℕ) (ws : List Window) → list_ok N D ws ≡ true
    → (j e i : ℕ) → i < length ws → is_due j e (window_at ws i) ≡ true → demand_at ws j e ≡ (window_at ws i).demand
unfolding demand_at
due-within N D ws h j e i l p = iter-inv {n = length ws} (λ m d. i < m → d ≡ (window_at ws i).demand) (turn ws j e) 0
    (λ z. absurd (omega (arith, z))) step l
  where
    step : (k y : ℕ) → k < length ws → (i < k → y ≡ (window_at ws i).demand) → i < suc k → turn ws j e k y ≡ (window_at ws i).demand
    step k y m f s =
        same_or_not k i
        (λ r. hit _ _ y (subst (λ (n : ℕ). is_due j e (window_at ws n) ≡ true) (sym r) p) ∙ ap (λ (n : ℕ). (window_at ws n).demand) r)
        (λ r. skip _ _ y _ (is_false _ (λ q. r (one-due N D ws h j e k i m l q p))) (f (omega (arith, r, s))))

pub due-outside : (ws : List Window) (j e : ℕ) → ((i : ℕ) → i < length ws → is_due j e (window_at ws i) ≡ false) → demand_at ws j e ≡ 0
unfolding demand_at
due-outside ws j e h = iter-inv {n = length ws} (λ m d. d ≡ 0) (turn ws j e) 0 refl (λ k y m f. skip _ _ y _ (h k m) f)

pub due-range : (N D : ℕ) (ws : List Window) → list_ok N D ws ≡ true → (j e : ℕ) → demand_at ws j e ≤ top_request
unfolding demand_at
due-range N D ws h j e = iter-inv {n = length ws} (λ m d. d ≤ top_request) (turn ws j e) 0 (omega arith)
    (λ k y m f. by-test (λ (d : ℕ). d ≤ top_request) (is_due j e (window_at ws k)) (window_at ws k).demand y (λ t. small k m) (λ t. f))
  where
    small : (k : ℕ) → k < length ws → (window_at ws k).demand ≤ top_request
    small k m = let w = window_at ws k in leb-true w.demand top_request
        (and_right (leb w.end D) _ (and_right (ltb w.first w.end) _
        (and_right (leb 1 w.node && leb w.node N) _ ((good N D ws h).each k m))))

-- a node that has windows is one of the N
pub of-site : (N D : ℕ) (ws : List Window) → list_ok N D ws ≡ true → (j : ℕ) → has_windows ws j ≡ true → (1 ≤ j) × (j ≤ N)
unfolding has_windows
of-site N D ws h j p = go (leb 1 j && leb j N) refl
  where
    node : (i : ℕ) → i < length ws → (leb 1 (window_at ws i).node && leb (window_at ws i).node N) ≡ true
    node i l = and_left _ _ ((good N D ws h).each i l)

    none : (leb 1 j && leb j N) ≡ false → (i : ℕ) → i < length ws → not (eqb (window_at ws i).node j) ≡ true
    none q i l = ap not (is_false (eqb (window_at ws i).node j) (λ r. clash (leb 1 (window_at ws i).node && leb (window_at ws i).node N)
        (node i l) (ap (λ (x : ℕ). leb 1 x && leb x N) (eqb-true (window_at ws i).node j r) ∙ q)))

    go : (t : Bool) → (leb 1 j && leb j N) ≡ t → (1 ≤ j) × (j ≤ N)
    go true q = (leb-true _ _ (and_left _ _ q), leb-true _ _ (and_right (leb 1 j) _ q))
    go false q = clash (not (all_below (length ws) (λ i. not (eqb (window_at ws i).node j)))) p
        (ap not (all-make (length ws) (λ i. not (eqb (window_at ws i).node j)) (none q)))

-- what readers may rely on
pub rules : Rules
rules = record { one = one-due; within = due-within; outside = due-outside; node = of-site; range = due-range }

-- a demand that is due is within its range, where the one before was
pub due-small : (N D : ℕ) (ws : List Window) → list_ok N D ws ≡ true → (j e d top : ℕ) → top_request ≤ top → d ≤ top → due_at ws j e d ≤ top
unfolding due_at
due-small N D ws h j e d top l m = by-test (λ (x : ℕ). x ≤ top) (has_windows ws j) (demand_at ws j e) d
    (λ t. omega (arith, due-range N D ws h j e, l)) (λ t. m)

-- a node without windows keeps its demand
pub due-kept : (ws : List Window) (j e d : ℕ) → has_windows ws j ≡ false → due_at ws j e d ≡ d
unfolding due_at
due-kept ws j e d h = skip _ _ d d h refl

pub due-given : (ws : List Window) (j e d : ℕ) → has_windows ws j ≡ true → due_at ws j e d ≡ demand_at ws j e
unfolding due_at
due-given ws j e d h = hit _ _ d h

-- in an empty list no node has windows
pub none_has : (ws : List Window) (j : ℕ) → length ws ≡ 0 → has_windows ws j ≡ false
unfolding has_windows
none_has ws j h = ap not (all-make (length ws) (λ i. not (eqb (window_at ws i).node j)) (λ i l. absurd (omega (arith, h, l))))

-- more than 64 windows keep no rule
pub too_many : (N D : ℕ) (ws : List Window) → top_windows < length ws → list_ok N D ws ≡ false
unfolding list_ok
too_many N D ws l = is_false _ (λ h. absurd (omega (
  arith,
  l,
  leb-true (length ws) top_windows
      (and_left (leb (length ws) top_windows) _ (and_right (day_ok D) _ h)),
)))

-- of at most 64 windows: the day decides first, and then each window
pub not_day : (N D : ℕ) (ws : List Window) → day_ok D ≡ false → false ≡ list_ok N D ws
unfolding list_ok
not_day N D ws h = ap (λ (t : Bool). t && (leb (length ws) top_windows && all_below (length ws) (entry_ok N D ws))) (sym h)

pub of-day : (N D : ℕ) (ws : List Window) → length ws ≤ top_windows → day_ok D ≡ true → all_below (length ws) (entry_ok N D ws) ≡ list_ok N D ws
unfolding list_ok
of-day N D ws l h =
    ap (λ (t : Bool). t && all_below (length ws) (entry_ok N D ws)) (sym (le-leb (length ws) top_windows l))
    ∙ ap (λ (t : Bool). t && (leb (length ws) top_windows && all_below (length ws) (entry_ok N D ws))) (sym h)
