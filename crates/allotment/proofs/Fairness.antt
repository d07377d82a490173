-- The allotment is fair, for every argument (the statement is `Fairness` in specs/Allotment.antt): who is within its target loses no slot,
-- no free slot is idle while a node is below its target, and the targets are as even as what is asked for allows.
-- Assumes nothing.
use mathlib.Core.Path.{◌≡◌, refl, sym, ap, ap₂, ◌∙◌, subst}
use mathlib.Core.Bool.{Bool, true, false, ◌&&◌}
use mathlib.Core.List.{List}
use mathlib.Core.Logic.{◌≢◌, ◌⊎◌, inl, inr, ⊎_elim}
use Prim.Native.Nat.{ℕ, suc, min, ◌+◌, ◌-◌, ◌≤◌, ◌<◌}
use native.Mathlib.Nat.{not-suc-le-zero}
use native.Mathlib.Omega.{arith}
use borrow.Author.Tests.{ltb-true, ltb-false, eqb-true, eqb-false, lt-ltb, eq-eqb}
use lib.Dec.{eqb, ltb}
use lib.ListN.{length, get_or, set}
use lib.Seq.{get_or-set_same, get_or-set_other}
use Rattle.words.proofs.Tests.{clash, by-test, same_or_not, and_left, and_right, and-rest}
use Rattle.lists.proofs.Laws.{iter-inv, get_d-zeros}
use Rattle.allotment.specs.Model.{Schedule}
use Rattle.allotment.specs.declared.Deal.{Deal}
use Rattle.allotment.specs.Allotment.{Draft}
use Rattle.allotment.specs.Allotment.{top_request, owners_of, owner_of, schedule_of, asks, deal_one, deal_round, undealt, dealt, targets}
use Rattle.allotment.specs.Allotment.{given, below_target, keep_one, blank, kept, chosen, give_to, fill_one, filled, allotted, next}
use Rattle.allotment.specs.Allotment.{count}
use Rattle.allotment.specs.Allotment.{Fairness}
use Rattle.allotment.proofs.Laws.{DraftOk, chosen-least, blank-sound, keep-step, fill_step, keeps_on, full_at, total-zeros, Fair}
use Rattle.allotment.proofs.Laws.{fair-step, ask-past, length-targets, target-ask, target-member, target_past, targets-total}
use Rattle.allotment.proofs.Laws.{held-most, compatible}

-- Slots.

-- such an owner keeps slot k
module _ (target old : List ℕ) (K k : ℕ) (w : length target ≡ 32) (owned : 0 < get_or old k 0)
    (fit : count (get_or old k 0) old ≤ get_or target (get_or old k 0 - 1) 0) where
  keep-hers : k < K → (i : ℕ) (d : Draft) → i < 80 → DraftOk target old K i 0 d × (k < i → get_or d.owners k 0 ≡ get_or old k 0)
      → DraftOk target old K (suc i) 0 (keep_one target old K i d) × (k < suc i → get_or (keep_one target old K i d).owners k 0 ≡ get_or old k 0)
  unfolding keep_one
  keep-hers h i d l s = (
    keep-step target old K w i d l s.0,
    λ m. by-test (λ x. get_or x.owners k 0 ≡ get_or old k 0) (ltb i K && ltb 0 o && below_target target d o) (given d i o) d
        (λ e. same_or_not k i
        (λ z. ap (λ (x : ℕ). get_or (set d.owners i o) x 0) z ∙ get_or-set_same d.owners i o 0 (omega (arith, s.0.long))
        ∙ ap (λ (x : ℕ). get_or old x 0) (sym z))
        (λ z. get_or-set_other d.owners i k o 0 z ∙ s.1 (omega (arith, z))))
        (λ e. same_or_not k i
        (λ z. clash (ltb i K && ltb 0 o && below_target target d o) (taken z) e)
        (λ z. s.1 (omega (arith, z)))),
  )
    where
      o : ℕ
      o = get_or old i 0

      taken : k ≡ i → (ltb i K && ltb 0 o && below_target target d o) ≡ true
      taken z =
          let n : 0 < o = subst (λ (x : ℕ). 0 < get_or old x 0) z owned in
          let f : count o old ≤ get_or target (o - 1) 0 = subst
          (λ (x : ℕ). count (get_or old x 0) old ≤ get_or target (get_or old x 0 - 1) 0) z fit in
          ap₂ ◌&&◌ (ap₂ ◌&&◌ (lt-ltb i K (omega arith)) (lt-ltb 0 o n)) (keeps_on target old K i d l s.0 n f)

  -- and no filling takes it
  fill-hers : (i : ℕ) (d : Draft) → i < 80 → get_or d.owners k 0 ≡ get_or old k 0
      → get_or (fill_one target old K i d).owners k 0 ≡ get_or old k 0
  unfolding fill_one
  fill-hers i d l s =
      by-test (λ x. get_or x.owners k 0 ≡ get_or old k 0) (ltb i K && eqb (get_or old i 0) 0) (give_to d i j) d
      (λ e. by-test (λ x. get_or x.owners k 0 ≡ get_or old k 0) (eqb j 0) d (given d i j) (λ f. s)
      (λ f. get_or-set_other d.owners i k j 0 (λ (z : k ≡ i).
      let n : get_or old i 0 ≡ 0 = eqb-true _ 0 (and_right (ltb i K) _ e) in
      omega (arith, ap (λ (x : ℕ). get_or old x 0) z)) ∙ s))
      (λ e. s)
    where
      j : ℕ
      j = chosen target d

  kept-hers : k < min K 80 → get_or (allotted target old K) k 0 ≡ get_or old k 0
  unfolding kept filled
  kept-hers h =
      iter-inv {n = 80} (λ i x. get_or x.owners k 0 ≡ get_or old k 0) (fill_one target old K) (kept target old K)
      ((iter-inv {n = 80} (λ i x. DraftOk target old K i 0 x × (k < i → get_or x.owners k 0 ≡ get_or old k 0)) (keep_one target old K) blank
      (blank-sound target old K, λ m. absurd (not-suc-le-zero m)) (keep-hers (omega arith))).1 (omega arith))
      fill-hers

-- a slot k that was free stays free only where no node lacks one
module _ (target old : List ℕ) (K k : ℕ) (w : length target ≡ 32) (unowned : get_or old k 0 ≡ 0) where
  abbrev Full : Draft → Type 0
  Full d = (m : ℕ) → m < 32 → below_target target d (m + 1) ≡ false

  -- where no node lacks one, none is chosen
  full-chosen : (d : Draft) → Full d → chosen target d ≡ 0
  full-chosen d f =
      ⊎_elim (λ z. z.0)
      (λ x.
      let j = chosen target d in
      let e : j - 1 + 1 ≡ j = omega (arith, x.node.0) in
      clash (below_target target d (j - 1 + 1)) (ap (below_target target d) e ∙ x.lacking) (f (j - 1) (omega (arith, x.node))))
      (chosen-least target d)

  fill-idle : k < K → (i : ℕ) (d : Draft) → i < 80 → DraftOk target old K 80 i d × (k < i → get_or d.owners k 0 ≡ 0 → Full d)
      → DraftOk target old K 80 (suc i) (fill_one target old K i d)
      × (k < suc i → get_or (fill_one target old K i d).owners k 0 ≡ 0 → Full (fill_one target old K i d))
  unfolding fill_one
  fill-idle h i d l s = (
    fill_step target old K w i d l s.0,
    λ m. by-test (λ x. get_or x.owners k 0 ≡ 0 → Full x) (ltb i K && eqb (get_or old i 0) 0) (give_to d i j) d
        (λ e. by-test (λ x. get_or x.owners k 0 ≡ 0 → Full x) (eqb j 0) d (given d i j)
        (λ f z. ⊎_elim (λ x. x.1) (λ x. absurd (omega (arith, x.node.0, eqb-true j 0 f))) (chosen-least target d))
        (λ f z. absurd (eqb-false j 0 f (given-none m z))))
        (λ e z. s.1 (omega (arith, not-here e)) z),
  )
    where
      j : ℕ
      j = chosen target d

      given-none : k < suc i → get_or (set d.owners i j) k 0 ≡ 0 → j ≡ 0
      given-none m z =
          same_or_not k i
          (λ q. sym (ap (λ (x : ℕ). get_or (set d.owners i j) x 0) q ∙ get_or-set_same d.owners i j 0 (omega (arith, s.0.long))) ∙ z)
          (λ q. full-chosen d (s.1 (omega (arith, q)) (sym (get_or-set_other d.owners i k j 0 q) ∙ z)))

      not-here : (ltb i K && eqb (get_or old i 0) 0) ≡ false → k ≢ i
      not-here e q = clash (ltb i K && eqb (get_or old i 0) 0)
          (ap₂ ◌&&◌ (lt-ltb i K (omega arith)) (eq-eqb _ 0 (ap (λ (x : ℕ). get_or old x 0) (sym q) ∙ unowned))) e

  -- so in the end
  idle-full : k < min K 80 → get_or (allotted target old K) k 0 ≡ 0 → (j : ℕ) → count (suc j) (allotted target old K) ≡ get_or target j 0
  unfolding kept filled
  idle-full h z j =
      let d : Draft = filled target old K (kept target old K) in
      let p =
      iter-inv {n = 80} (λ i x. DraftOk target old K 80 i x × (k < i → get_or x.owners k 0 ≡ 0 → Full x)) (fill_one target old K)
      (kept target old K) (
        iter-inv {n = 80} (λ i x. DraftOk target old K i 0 x) (keep_one target old K) blank (blank-sound target old K)
            (keep-step target old K w),
        λ m. absurd (not-suc-le-zero m),
      )
      (fill-idle (omega arith)) in
      let x : get_or target j 0 ≤ get_or d.held j 0 = full_at target d w (p.1 (omega arith) z) j in
      omega (arith, p.0.counted j, p.0.within j)

-- Targets.

-- the first i nodes have r + 1 slots and the others r, or what they want
abbrev Flat : List ℕ → List ℕ → ℕ → ℕ → Type 0
Flat wanted t r i = (j : ℕ) → j < 32 → (j < i → get_or t j 0 ≡ min (get_or wanted j 0) (suc r)) × (i ≤ j → get_or t j 0 ≡ min (get_or wanted j 0) r)

record Level (wanted t : List ℕ) : Type 0 where
  rounds : ℕ
  nodes : ℕ
  flat : Flat wanted t rounds nodes

flat_step : (wanted : List ℕ) (r i : ℕ) (d : Deal) → i < 32 → length d.targets ≡ 32
    → Flat wanted d.targets r i ⊎ ((d.left ≡ 0) × Level wanted d.targets)
    → Flat wanted (deal_one wanted i d).targets r (suc i) ⊎ (((deal_one wanted i d).left ≡ 0) × Level wanted (deal_one wanted i d).targets)
unfolding deal_one
flat_step wanted r i d l w =
    by-test (λ u. Flat wanted t r i ⊎ ((d.left ≡ 0) × Level wanted t)
    → Flat wanted u.targets r (suc i) ⊎ ((u.left ≡ 0) × Level wanted u.targets))
    (ltb 0 d.left && ltb has top) (record { targets = set t i (has + 1); left = d.left - 1 }) d
    (λ e.
    let some : 0 < d.left = ltb-true _ _ (and_left (ltb 0 d.left) (ltb has top) e) in
    let more : has < top = ltb-true _ _ (and_right (ltb 0 d.left) (ltb has top) e) in
    ⊎_elim (λ f. inl (λ j k. same_or_not j i (same more f j) (other f j k))) (λ z. absurd (omega (arith, z.0))))
    (λ e. ⊎_elim (λ f. go f (ltb 0 d.left) refl e) inr)
  where
    t : List ℕ
    t = d.targets

    has : ℕ
    has = get_or t i 0

    top : ℕ
    top = get_or wanted i 0

    same : has < top → Flat wanted t r i → (j : ℕ) → j ≡ i
        → (j < suc i → get_or (set t i (has + 1)) j 0 ≡ min (get_or wanted j 0) (suc r))
        × (suc i ≤ j → get_or (set t i (has + 1)) j 0 ≡ min (get_or wanted j 0) r)
    same more f j z =
        let v : get_or (set t i (has + 1)) j 0 ≡ has + 1 = ap (λ (x : ℕ). get_or (set t i (has + 1)) x 0) z
        ∙ get_or-set_same t i (has + 1) 0 (omega arith) in
        let q : get_or wanted j 0 ≡ top = ap (λ (x : ℕ). get_or wanted x 0) z in
        let h : has ≡ min top r = (f i l).1 (omega arith) in
        (λ m. omega arith, λ m. absurd (omega arith))

    other : Flat wanted t r i → (j : ℕ) → j < 32 → j ≢ i
        → (j < suc i → get_or (set t i (has + 1)) j 0 ≡ min (get_or wanted j 0) (suc r))
        × (suc i ≤ j → get_or (set t i (has + 1)) j 0 ≡ min (get_or wanted j 0) r)
    other f j k z =
        let v : get_or (set t i (has + 1)) j 0 ≡ get_or t j 0 = get_or-set_other t i j (has + 1) 0 z in
        (λ m. v ∙ (f j k).0 (omega (arith, z)), λ m. v ∙ (f j k).1 (omega arith))

    go : Flat wanted t r i → (b : Bool) → ltb 0 d.left ≡ b → (ltb 0 d.left && ltb has top) ≡ false
        → Flat wanted t r (suc i) ⊎ ((d.left ≡ 0) × Level wanted t)
    go f true b e =
        let full : top ≤ has = ltb-false _ _ (and-rest (ltb 0 d.left) (ltb has top) e b) in
        let h : has ≡ min top r = (f i l).1 (omega arith) in
        inl (λ j k. (
          λ m. same_or_not j i
              (λ z. omega (arith, ap (λ (x : ℕ). get_or t x 0) z, ap (λ (x : ℕ). get_or wanted x 0) z))
              (λ z. (f j k).0 (omega (arith, z))),
          λ m. (f j k).1 (omega arith),
        ))
    go f false b e = let z : d.left ≤ 0 = ltb-false _ _ b in inr (omega arith, record { rounds = r; nodes = i; flat = f })

flat-round : (wanted : List ℕ) (K r : ℕ) (d : Deal) → Fair wanted K d
    × (Flat wanted d.targets r 0 ⊎ ((d.left ≡ 0) × Level wanted d.targets))
    → Fair wanted K (deal_round wanted d)
    × (Flat wanted (deal_round wanted d).targets (suc r) 0
    ⊎ (((deal_round wanted d).left ≡ 0) × Level wanted (deal_round wanted d).targets))
unfolding deal_round
flat-round wanted K r d s =
    let p =
    iter-inv {n = 32} (λ i x. Fair wanted K x × (Flat wanted x.targets r i ⊎ ((x.left ≡ 0) × Level wanted x.targets)))
    (deal_one wanted) d s
    (λ i x l y. (fair-step wanted K i x l y.0, flat_step wanted r i x l y.0.long y.1)) in
    (p.0, ⊎_elim (λ f. inl (λ j k. (λ q. absurd (not-suc-le-zero q), λ q. (f j k).0 k))) inr p.1)

-- the dealing ends level
dealt-level : (wanted : List ℕ) (K : ℕ) → Level wanted (dealt wanted K).targets
unfolding dealt
dealt-level wanted K =
    let p =
    iter-inv {n = top_request} (λ r d. Fair wanted K d × (Flat wanted d.targets r 0 ⊎ ((d.left ≡ 0) × Level wanted d.targets)))
    (λ _ d. deal_round wanted d) (undealt K) (
      record { long = refl; sum = omega (arith, total-zeros 32); within = λ i. omega (arith, get_d-zeros 32 i) },
      inl
          (λ j k. (λ q. absurd (not-suc-le-zero q), λ q. omega (arith, get_d-zeros 32 j))),
    )
    (λ r d l s. flat-round wanted K r d s) in
    ⊎_elim (λ f. record { rounds = top_request; nodes = 0; flat = f }) (λ z. z.1) p.1

-- who is behind another by more than one, or behind one with a higher number, has all that it wants
level-met : (wanted t : List ℕ) → Level wanted t → (i j : ℕ) → i < 32 → j < 32
    → (get_or t i 0 + 1 < get_or t j 0) ⊎ ((i < j) × (get_or t i 0 < get_or t j 0)) → get_or t i 0 ≡ get_or wanted i 0
level-met wanted t v i j a b p = go (ltb i v.nodes) (ltb j v.nodes) refl refl
  where
    most : (x : ℕ) → x < 32 → get_or t x 0 ≤ suc v.rounds
    most x l = cases (ltb x v.nodes) refl
      where
        cases : (e : Bool) → ltb x v.nodes ≡ e → get_or t x 0 ≤ suc v.rounds
        cases true e = omega (arith, (v.flat x l).0 (ltb-true _ _ e))
        cases false e = omega (arith, (v.flat x l).1 (ltb-false _ _ e))

    go : (e f : Bool) → ltb i v.nodes ≡ e → ltb j v.nodes ≡ f → get_or t i 0 ≡ get_or wanted i 0
    go true f e g = ⊎_elim (λ q. omega (arith, (v.flat i a).0 (ltb-true _ _ e), most j b))
        (λ q. omega (arith, q.1, (v.flat i a).0 (ltb-true _ _ e), most j b)) p
    go false true e g =
        ⊎_elim (λ q. omega (arith, (v.flat i a).1 (ltb-false _ _ e), most j b))
        (λ q. absurd (omega (arith, q.0, ltb-false i v.nodes e, ltb-true j v.nodes g))) p
    go false false e g =
        ⊎_elim (λ q. omega (arith, (v.flat i a).1 (ltb-false _ _ e), most j b))
        (λ q. omega (arith, q.1, (v.flat i a).1 (ltb-false _ _ e), (v.flat j b).1 (ltb-false _ _ g))) p

-- targets are as even as what is asked for allows
module _ (N K m : ℕ) (R : List ℕ) where
  target-met : (i j : ℕ) → (get_or (targets N K m R) i 0 + 1 < get_or (targets N K m R) j 0)
      ⊎ ((i < j) × (get_or (targets N K m R) i 0 < get_or (targets N K m R) j 0))
      → get_or (targets N K m R) i 0 ≡ get_or (asks N m R) i 0
  target-met i j p = go (ltb i 32) refl
    where
      some : 0 < get_or (targets N K m R) j 0
      some = ⊎_elim (λ q. omega (arith, q)) (λ q. omega (arith, q.1)) p

      go : (b : Bool) → ltb i 32 ≡ b → get_or (targets N K m R) i 0 ≡ get_or (asks N m R) i 0
      go true b = level-met (asks N m R) (targets N K m R) (dealt-level (asks N m R) K) i j (ltb-true i 32 b)
          (target-member N K m R j some).1 p
      go false b =
          let l : 32 ≤ i = ltb-false i 32 b in
          omega (arith, target_past N K m R i (omega arith), ask-past N m R i (omega arith))

-- All of it.
pub fairness : (s : Schedule) (m : ℕ) (R : List ℕ) (N K : ℕ) → Fairness s m R N K
unfolding next owners_of owner_of schedule_of
fairness s m R N K =
    let t : List ℕ = targets N K m R in
    let w : length t ≡ 32 = length-targets N K m R in
    record {
      all-dealt = targets-total N K m R;
      asked = target-ask N K m R;
      even = λ i j h. target-met N K m R i j (inl h);
      in-turn = λ i j l h. target-met N K m R i j (inr (l, h));
      within = held-most s m R N K;
      not-handed-on = λ k h n. sym (compatible s m R N K k (λ (z : owner_of s k ≡ 0). omega arith) (λ z. absurd (omega (arith, n, z))));
      keeps = λ k l h f. kept-hers t (owners_of s) K k w h f l;
      none-idle = λ k l e z j n.
          let q : suc (j - 1) ≡ j = omega arith in
          subst (λ (x : ℕ). count x (owners_of (next s m R N K)) ≡ get_or t (j - 1) 0) q (idle-full t (owners_of s) K k w e l z (j - 1));
    }
