-- Turns of the loops that deal, choose and fill: what a turn leaves is the step of the definition.
-- Assumes nothing.
use mathlib.Core.Path.{◌≡◌, refl, sym, ap, ap₂, ◌∙◌, subst}
use mathlib.Core.Bool.{Bool, true, false, cond, ◌&&◌, ◌||◌}
use mathlib.Core.List.{List}
use mathlib.Core.Logic.{◌≢◌, ◌⊎◌, inl, inr, ⊎_elim}
use Prim.Native.Nat.{ℕ, min, ◌+◌, ◌-◌, ◌≤◌, ◌<◌}
use native.Mathlib.Omega.{arith}
use mir.Val.{bool_byte}
use borrow.Author.Tests.{ltb-true, ltb-false, lt-ltb, le-ltb, eqb-true, eq-eqb, ne_eqb}
use lib.Dec.{eqb, ltb}
use lib.ListN.{length, get_or, set}
use lib.Seq.{set-get_or, get_or-set_same, get_or-set_other}
use Rattle.lists.specs.All.{iter}
use Rattle.lists.proofs.Laws.{iter-still, iter-inv}
use Rattle.words.proofs.Tests.{clash, by-test, same_or_not, is_false, and_left, and_right, or-front, hit, skip}
use Rattle.allotment.specs.declared.Deal.{Deal}
use Rattle.allotment.specs.Allotment.{Draft}
use Rattle.allotment.specs.Allotment.{deal_one, deal_round, given, below_target, better, chosen, holding, give_to, fill_one, filled, Least}
use Rattle.allotment.proofs.Laws.{lacks-at, chosen-least}

-- one more or one less where a test holds: by its number, which is added or taken away without a branch
pub one-more : (t : Bool) (x b : ℕ) → b ≡ bool_byte t → x + b ≡ cond t (x + 1) x
one-more true x b e = ap (λ (y : ℕ). x + y) e
one-more false x b e = let z : b ≡ 0 = e in omega arith

pub one-less : (t : Bool) (x b : ℕ) → b ≡ bool_byte t → x - b ≡ cond t (x - 1) x
one-less true x b e = ap (λ (y : ℕ). x - y) e
one-less false x b e = let z : b ≡ 0 = e in omega arith

pub more-fits : (t : Bool) (x b y : ℕ) → b ≡ bool_byte t → (t ≡ true → x < y) → x < 256 → y < 256 → x + b < 256
more-fits true x b y e h p q = let z : b ≡ 1 = e in let r = h refl in omega arith
more-fits false x b y e h p q = let z : b ≡ 0 = e in omega arith

pub less-fits : (t : Bool) (x b : ℕ) → b ≡ bool_byte t → (t ≡ true → 0 < x) → b ≤ x
less-fits true x b e h = let z : b ≡ 1 = e in let r = h refl in omega arith
less-fits false x b e h = let z : b ≡ 0 = e in omega arith

-- the steps behind K, where they change nothing, need not be taken
pub iter-slots : (f : ℕ → Draft → Draft) (x : Draft) (K : ℕ) → ((i : ℕ) (y : Draft) → K ≤ i → f i y ≡ y) → iter (min K 80) f x ≡ iter 80 f x
iter-slots f x K h = go (ltb K 80) refl
  where
    go : (t : Bool) → ltb K 80 ≡ t → iter (min K 80) f x ≡ iter 80 f x
    go true e = let l : K < 80 = ltb-true K 80 e in sym (iter-still f x (min K 80) 80 (omega arith) (λ i m. h i _ (omega arith)))
    go false e = let l : 80 ≤ K = ltb-false K 80 e in let z : min K 80 ≡ 80 = omega arith in ap (λ (n : ℕ). iter n f x) z

-- a turn of dealing: the node at index i gets a slot, or none
module _ (wanted : List ℕ) (i : ℕ) (d : Deal) where
  abbrev may-deal : Bool
  may-deal = ltb 0 d.left && ltb (get_or d.targets i 0) (get_or wanted i 0)

  pub deal-turn : (m l : ℕ) → m ≡ cond may-deal (get_or d.targets i 0 + 1) (get_or d.targets i 0)
      → l ≡ cond may-deal (d.left - 1) d.left
      → record { targets = set d.targets i m; left = l } ≡ deal_one wanted i d
  unfolding deal_one
  deal-turn m l = go may-deal
    where
      go : (t : Bool) → m ≡ cond t (get_or d.targets i 0 + 1) (get_or d.targets i 0) → l ≡ cond t (d.left - 1) d.left
          → record { targets = set d.targets i m; left = l }
          ≡ cond t (record { targets = set d.targets i (get_or d.targets i 0 + 1); left = d.left - 1 }) d
      go true e f = λ n. record { targets = set d.targets i (e n); left = f n }
      go false e f = let g : set d.targets i m ≡ d.targets = ap (set d.targets i) e
          ∙ set-get_or d.targets i 0 in λ n. record { targets = g n; left = f n }

  -- who wants nothing gets none
  deal-still : get_or wanted i 0 ≡ 0 → deal_one wanted i d ≡ d
  unfolding deal_one
  deal-still e = skip _ _ _ _
      (is_false may-deal
      (λ h. let l : get_or d.targets i 0 < get_or wanted i 0 = ltb-true _ _ (and_right (ltb 0 d.left) _ h) in absurd (omega arith))) refl

  -- a slot dealt is one less left
  deal-less : (x : Deal) → (d.left ≤ x.left) × (d.left ≡ x.left → d ≡ x)
      → ((deal_one wanted i d).left ≤ x.left) × ((deal_one wanted i d).left ≡ x.left → deal_one wanted i d ≡ x)
  unfolding deal_one
  deal-less x p =
      by-test (λ (y : Deal). (y.left ≤ x.left) × (y.left ≡ x.left → y ≡ x)) may-deal
      (record { targets = set d.targets i (get_or d.targets i 0 + 1); left = d.left - 1 }) d
      (λ e. let l : 0 < d.left = ltb-true _ _ (and_left _ (ltb (get_or d.targets i 0) (get_or wanted i 0)) e) in
      (omega (arith, p.0), λ z. absurd (omega (arith, p.0))))
      (λ e. p)

-- a round over the first n nodes is one over all where the others want nothing
pub round-end : (wanted : List ℕ) (d : Deal) (n : ℕ) → (n ≤ 32) × ((i : ℕ) → n ≤ i → get_or wanted i 0 ≡ 0)
    → iter n (deal_one wanted) d ≡ deal_round wanted d
unfolding deal_round
round-end wanted d n z = sym (iter-still (deal_one wanted) d n 32 z.0 (λ i l. deal-still wanted i _ (z.1 i l)))

-- a round after which as many are left dealt nothing
round-none : (wanted : List ℕ) (d : Deal) → (deal_round wanted d).left ≡ d.left → deal_round wanted d ≡ d
unfolding deal_round
round-none wanted d =
    (iter-inv {n = 32} (λ _ y. (y.left ≤ d.left) × (y.left ≡ d.left → y ≡ d)) (deal_one wanted) d (omega arith, λ e. refl)
    (λ i y l p. deal-less wanted i y d p)).1

-- and so do all that follow
pub rounds-end : (wanted : List ℕ) (x d e : Deal) (r m : ℕ) → r ≤ m → d ≡ iter r (λ _ y. deal_round wanted y) x → e ≡ deal_round wanted d
    → e.left ≡ d.left → e ≡ iter m (λ _ y. deal_round wanted y) x
rounds-end wanted x d e r m l p q h =
    let s : deal_round wanted d ≡ d = round-none wanted d (ap (λ (y : Deal). y.left) (sym q) ∙ h) in
    q ∙ s ∙ p ∙ sym (iter-still (λ _ y. deal_round wanted y) x r m l (λ i k. subst (λ (y : Deal). deal_round wanted y ≡ y) p s))

-- slot k goes to the node of number j, which stands at index i
given-at : (d : Draft) (k j i m : ℕ) → i ≡ j - 1 → m ≡ get_or d.held i 0 + 1
    → record { owners = set d.owners k j; held = set d.held i m } ≡ given d k j
given-at d k j i m s e =
    let f : m ≡ get_or d.held (j - 1) 0 + 1 = e ∙ ap (λ (x : ℕ). get_or d.held x 0 + 1) s in
    λ n. record { owners = set d.owners k j; held = set d.held (s n) (f n) }

-- a turn of a loop that also carries how many slots the node chosen so far has
module _ (target : List ℕ) (d : Draft) (i best least : ℕ) (p : (best ≡ 0) ⊎ (least ≡ get_or d.held (best - 1) 0)) where
  abbrev has : ℕ
  has = get_or d.held i 0

  abbrev wins : Bool
  wins = ltb has (get_or target i 0) && (eqb best 0 || ltb has least)

  wins-is : wins ≡ (below_target target d (i + 1) && (eqb best 0 || ltb has (get_or d.held (best - 1) 0)))
  wins-is =
      let e : i ≡ i + 1 - 1 = omega arith in
      ap₂ ◌&&◌ (ap (λ (m : ℕ). ltb (get_or d.held m 0) (get_or target m 0)) e)
      (⊎_elim (λ z. or-front (eqb best 0) _ (eq-eqb best 0 z) ∙ sym (or-front (eqb best 0) _ (eq-eqb best 0 z)))
      (λ f. ap (λ (x : ℕ). eqb best 0 || ltb has x) f) p)

  pub best-more : (b l : ℕ) → b ≡ cond wins (i + 1) best → l ≡ cond wins has least
      → (b ≡ better target d i best) × ((b ≡ 0) ⊎ (l ≡ get_or d.held (b - 1) 0))
  unfolding better
  best-more b l eb el = (eb ∙ ap (λ (t : Bool). cond t (i + 1) best) wins-is, go wins eb el)
    where
      go : (t : Bool) → b ≡ cond t (i + 1) best → l ≡ cond t has least → (b ≡ 0) ⊎ (l ≡ get_or d.held (b - 1) 0)
      go true x y =
          let e : i ≡ b - 1 = omega arith in
          inr (y ∙ ap (λ (m : ℕ). get_or d.held m 0) e)
      go false x y = ⊎_elim (λ z. inl (x ∙ z)) (λ f. inr (y ∙ f ∙ ap (λ (m : ℕ). get_or d.held (m - 1) 0) (sym x))) p

-- the node chosen of the first n
abbrev pub best_of : List ℕ → Draft → ℕ → ℕ
best_of target d n = iter n (better target d) 0

-- the best of the first n nodes is the best of all where the others have no target
pub best-all : (target : List ℕ) (d : Draft) (n : ℕ) → (n ≤ 32) × ((i : ℕ) → n ≤ i → get_or target i 0 ≡ 0)
    → best_of target (holding d.held) n ≡ chosen target d
unfolding better chosen
best-all target d n z = sym
    (iter-still (better target d) 0 n 32 z.0 (λ i l. skip _ _ _ _ (ap (λ (t : Bool). t && rest i) (full i l)) refl))
  where
    rest : ℕ → Bool
    rest i = eqb (best_of target d n) 0 || ltb (get_or d.held i 0) (get_or d.held (best_of target d n - 1) 0)

    full : (i : ℕ) → n ≤ i → below_target target d (i + 1) ≡ false
    full i l =
        let e : get_or target (i + 1 - 1) 0 ≡ 0 = z.1 (i + 1 - 1) (omega arith) in
        le-ltb (get_or d.held (i + 1 - 1) 0) (get_or target (i + 1 - 1) 0) (omega arith)

-- of the nodes below their targets none has fewer than `level` slots, and those before `from` have more
abbrev pub At : List ℕ → List ℕ → ℕ → ℕ → Type 0
At target held level from = (i : ℕ) → get_or held i 0 < get_or target i 0 → (level ≤ get_or held i 0) × (i < from → level < get_or held i 0)

-- the node with the fewest is the one chosen
least-chosen : (target : List ℕ) (d : Draft) (j : ℕ) → Least target d 32 j → j ≡ chosen target d
least-chosen target d j p =
    ⊎_elim
    (λ z. clash (below_target target d (j - 1 + 1)) (ap (below_target target d) (back j p.node.0) ∙ p.lacking)
    (z.1 (j - 1) (omega (arith, p.node))))
    (λ q. same_or_not j c (λ z. z) (λ n. absurd (omega (arith, n, lower j c p q, lower c j q p))))
    (chosen-least target d)
  where
    c : ℕ
    c = chosen target d

    back : (a : ℕ) → 0 < a → a - 1 + 1 ≡ a
    back a l = omega arith

    lower : (a b : ℕ) → Least target d 32 a → Least target d 32 b → b ≤ a
    lower a b p q = go (ltb a b) refl
      where
        go : (t : Bool) → ltb a b ≡ t → b ≤ a
        go true e =
            let l : a < b = ltb-true a b e in
            let x = q.first (a - 1) (omega (arith, p.node.0)) (ap (below_target target d) (back a p.node.0) ∙ p.lacking) in
            let y = p.fewest (b - 1) (omega (arith, q.node)) (ap (below_target target d) (back b q.node.0) ∙ q.lacking) in
            absurd (omega arith)
        go false e = ltb-false a b e

module _ (target held : List ℕ) (level i : ℕ) (at : At target held level i) where
  -- at its turn a node with just `level` slots is the one chosen
  pub turn-chosen : i < 32 → (eqb (get_or held i 0) level && ltb (get_or held i 0) (get_or target i 0)) ≡ true → (j : ℕ) → j ≡ i + 1
      → j ≡ chosen target (holding held)
  turn-chosen l t j e = e ∙ least-chosen target (holding held) (i + 1) (record {
    node = (omega arith, omega arith);
    lacking = subst (λ (x : ℕ). ltb (get_or held x 0) (get_or target x 0) ≡ true) (sym b) (and_right (eqb (get_or held i 0) level) _ t);
    fewest = λ m k h. omega (arith, ap (λ (x : ℕ). get_or held x 0) b, s, (at m (below m h)).0);
    first = λ m k h. omega (arith, ap (λ (x : ℕ). get_or held x 0) b, s, (at m (below m h)).1 (omega arith));
  })
    where
      b : i + 1 - 1 ≡ i
      b = omega arith

      s : get_or held i 0 ≡ level
      s = eqb-true _ _ (and_left _ (ltb (get_or held i 0) (get_or target i 0)) t)

      below : (m : ℕ) → below_target target (holding held) (m + 1) ≡ true → get_or held m 0 < get_or target m 0
      below m h = let c : m + 1 - 1 ≡ m = omega arith in ltb-true _ _ (subst (λ (x : ℕ). ltb (get_or held x 0) (get_or target x 0) ≡ true) c h)

  -- else the turn is the next node's
  pub turn-next : (eqb (get_or held i 0) level && ltb (get_or held i 0) (get_or target i 0)) ≡ false → At target held level (i + 1)
  turn-next t m h = ((at m h).0, λ l. same_or_not m i same (λ n. (at m h).1 (omega (arith, n))))
    where
      same : m ≡ i → level < get_or held m 0
      same z =
          same_or_not (get_or held i 0) level
          (λ e.
          let q : get_or held i 0 < get_or target i 0 = omega (arith, h, ap (λ (x : ℕ). get_or held x 0) z, ap (λ (x : ℕ). get_or target x 0) z) in
          clash _ (ap₂ ◌&&◌ (eq-eqb _ _ e) (lt-ltb _ _ q)) t)
          (λ n. omega (arith, n, (at m h).0, ap (λ (x : ℕ). get_or held x 0) z))

-- a turn of filling: a slot that was not free stays as it is
pub fill_none : (target old : List ℕ) (K k : ℕ) (d : Draft) → eqb (get_or old k 0) 0 ≡ false → d ≡ fill_one target old K k d
unfolding fill_one
fill_none target old K k d e = sym (skip _ _ _ _ (is_false _ (λ h. clash _ (and_right (ltb k K) _ h) e)) refl)

-- behind the K slots nothing is filled
pub fill_end : (target old : List ℕ) (K : ℕ) (x : Draft) → iter (min K 80) (fill_one target old K) x ≡ filled target old K x
unfolding fill_one filled
fill_end target old K x = iter-slots (fill_one target old K) x K
    (λ i y l. skip _ _ _ _ (ap (λ (t : Bool). t && eqb (get_or old i 0) 0) (le-ltb i K l)) refl)

-- where the node chosen stands
pub chosen_at : (target : List ℕ) (d : Draft) (j : ℕ) → j ≡ chosen target d → (i : ℕ) → (j ≤ 32 → i ≡ j - 1) → j ≢ 0 → j ≡ i + 1
chosen_at target d j b i s h =
    ⊎_elim (λ x. absurd (h (b ∙ x.0)))
    (λ l. let p : (0 < j) × (j ≤ 32) = subst (λ (t : ℕ). (0 < t) × (t ≤ 32)) (sym b) l.node in omega (arith, s p.1, p.0))
    (chosen-least target d)

-- a turn of filling: j is the node chosen
module _ (target old : List ℕ) (K : ℕ) (d : Draft) (j : ℕ) (b : j ≡ chosen target (holding d.held)) where
  chosen_is : j ≡ chosen target d
  unfolding better chosen
  chosen_is = b

  -- where it is 0 no node lacks a slot, and no slot that is left changes the draft
  pub fill-rest : (x : Draft) (k : ℕ) → k ≤ 80 → d ≡ iter k (fill_one target old K) x → j ≡ 0 → d ≡ filled target old K x
  unfolding fill_one filled
  fill-rest x k l e f =
      e ∙ sym (iter-still (fill_one target old K) x k 80 l
      (λ i h. subst (λ (y : Draft). fill_one target old K i y ≡ y) e (still i (ltb i K && eqb (get_or old i 0) 0))))
    where
      still : (i : ℕ) (t : Bool) → cond t (give_to d i (chosen target d)) d ≡ d
      still i true = hit _ _ _ (eq-eqb (chosen target d) 0 (sym chosen_is ∙ f))
      still i false = refl

  -- else it is a node that lacks a slot; it stands at index i, and gets slot k
  module _ (i : ℕ) (s : j ≤ 32 → i ≡ j - 1) (h : j ≢ 0) where
    least : Least target d 32 j
    least = ⊎_elim (λ x. absurd (h (chosen_is ∙ x.0))) (λ l. subst (Least target d 32) (sym chosen_is) l) (chosen-least target d)

    stands : i ≡ j - 1
    stands = s least.node.1

    pub fill-may : get_or d.held i 0 < get_or target i 0
    fill-may = rw stands (lacks-at target d j least.lacking).1

    pub fill-turn : (k m : ℕ) → k < K → eqb (get_or old k 0) 0 ≡ true → m ≡ get_or d.held i 0 + 1
        → record { owners = set d.owners k j; held = set d.held i m } ≡ fill_one target old K k d
    unfolding fill_one
    fill-turn k m l t e = given-at d k j i m stands e ∙ sym (skip _ _ _ _ (ne_eqb j 0 h) refl) ∙ ap (give_to d k) chosen_is
        ∙ sym (hit _ _ _ (ap₂ ◌&&◌ (lt-ltb k K l) t))

    -- then it is the turn of the next one with as many as it had
    pub fill-at : (m : ℕ) → length target ≡ 32 → length d.held ≡ 32 → m ≡ get_or d.held i 0 + 1
        → At target (set d.held i m) (get_or d.held i 0) (i + 1)
    fill-at m t w e n q = same_or_not n i same other
      where
        at_i : get_or d.held i 0 ≡ get_or d.held (j - 1) 0
        at_i = ap (λ (x : ℕ). get_or d.held x 0) stands

        same : n ≡ i → (get_or d.held i 0 ≤ get_or (set d.held i m) n 0) × (n < i + 1 → get_or d.held i 0 < get_or (set d.held i m) n 0)
        same z =
            let v : get_or (set d.held i m) n 0 ≡ m = ap (λ (x : ℕ). get_or (set d.held i m) x 0) z
            ∙ get_or-set_same d.held i m 0 (omega (arith, stands, least.node)) in
            (omega arith, λ l. omega arith)

        other : n ≢ i → (get_or d.held i 0 ≤ get_or (set d.held i m) n 0)
            × (n < i + 1 → get_or d.held i 0 < get_or (set d.held i m) n 0)
        other z =
            let v : get_or (set d.held i m) n 0 ≡ get_or d.held n 0 = get_or-set_other d.held i n m 0 z in
            let c : n + 1 - 1 ≡ n = omega arith in
            let below : get_or d.held n 0 < get_or target n 0 = omega arith in
            let lack : below_target target d (n + 1) ≡ true = subst (λ (x : ℕ). ltb (get_or d.held x 0) (get_or target x 0) ≡ true) (sym c)
            (lt-ltb _ _ below) in (
              omega (arith, v, at_i, least.fewest n (omega (arith, (lacks-at target d (n + 1) lack).0)) lack),
              λ l. omega (arith, v, at_i, least.first n (omega (arith, stands, least.node.0, z)) lack),
            )
