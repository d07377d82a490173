-- Laws of the allotment, for every argument: what the targets add to, that no node exceeds its target, which owners a slot may get,
-- and what the next schedule depends on.
-- Assumes nothing.
use mathlib.Core.Path.{◌≡◌, refl, sym, ap, ap₂, ◌∙◌, subst}
use mathlib.Core.Bool.{Bool, true, false, cond, ◌&&◌, ◌||◌}
use mathlib.Core.List.{List, [], ◌∷◌}
use mathlib.Core.Logic.{◌≢◌, ◌⊎◌, inl, inr, ⊎_elim}
use Prim.Native.Nat.{ℕ, zero, suc, min, ◌+◌, ◌-◌, ◌≤◌, ◌<◌}
use native.Mathlib.Nat.{not-suc-le-zero, le_of_suc-le-suc}
use native.Mathlib.Omega.{arith}
use borrow.Author.Tests.{ltb-true, ltb-false, leb-true, eqb-true, eqb-false, lt-ltb, eq-eqb, ne_eqb}
use lib.Dec.{eqb, ltb, leb, eqb-zero-suc}
use lib.ListN.{length, get_or, set, drop, replicate, length-set, get_or-eq_default, drop_of_length-le}
use lib.Seq.{ext_get_or, drop-cons, get_or-drop, get_or-set_same, get_or-set_other}
use Rattle.words.specs.Bits.{has_bit, digit, how_many}
use Rattle.words.proofs.Tests.{clash, by-test, same_or_not, is_false, hit, skip, and_left, and_right, and-rest, or-front, or-rest}
use Rattle.words.proofs.Tests.{or-neither}
use Rattle.words.proofs.Counts.{how_many-none, how_many-suc, how_many-more}
use Rattle.lists.proofs.Laws.{iter-inv, length-tab, get_d-tab, tab-ext, get_d-zeros}
use Rattle.allotment.specs.Model.{Schedule}
use Rattle.allotment.specs.declared.Deal.{Deal}
use Rattle.allotment.specs.Allotment.{Draft}
use Rattle.allotment.specs.Allotment.{top_request, owners_of, owner_of, schedule_of, free, ask, asks, deal_one, deal_round, undealt, dealt}
use Rattle.allotment.specs.Allotment.{targets, given, below_target, keep_one, blank, kept, better, chosen, give_to, fill_one, filled}
use Rattle.allotment.specs.Allotment.{allotted}
use Rattle.allotment.specs.Allotment.{next, total, count, Least}

-- Lists.

-- behind its end a list has 0
inside : (l : List ℕ) (i : ℕ) → 0 < get_or l i 0 → i < length l
inside l i h = go (ltb i (length l)) refl
  where
    go : (t : Bool) → ltb i (length l) ≡ t → i < length l
    go true e = ltb-true i (length l) e
    go false e =
        let z : get_or l i 0 ≡ 0 = get_or-eq_default l 0 (ltb-false i (length l) e) in
        absurd (omega arith)

pub total-zeros : (n : ℕ) → total (replicate n 0) ≡ 0
unfolding total
total-zeros zero = refl
total-zeros (suc n) = omega (arith, total-zeros n)

count_zeros : (n j : ℕ) → count (suc j) (replicate n 0) ≡ 0
unfolding count
count_zeros zero j = refl
count_zeros (suc n) j = let d : digit (eqb 0 (suc j)) ≡ 0 = ap digit (eqb-zero-suc j) in omega (arith, count_zeros n j)

-- an entry changes: the sum, and the slots of an owner
pub total-set : (l : List ℕ) (i x : ℕ) → i < length l → total (set l i x) + get_or l i 0 ≡ total l + x
unfolding total
total-set [] i x h = absurd (not-suc-le-zero h)
total-set (y ∷ l) zero x h = omega arith
total-set (y ∷ l) (suc i) x h = omega (arith, total-set l i x (le_of_suc-le-suc h))

count_set : (j : ℕ) (l : List ℕ) (i x : ℕ) → i < length l → count j (set l i x) + digit (eqb (get_or l i 0) j) ≡ count j l + digit (eqb x j)
unfolding count
count_set j [] i x h = absurd (not-suc-le-zero h)
count_set j (y ∷ l) zero x h = omega arith
count_set j (y ∷ l) (suc i) x h = omega (arith, count_set j l i x (le_of_suc-le-suc h))

-- a free slot gets an owner
count-more : (j : ℕ) (l : List ℕ) (i x : ℕ) → i < length l → get_or l i 0 ≡ 0
    → count (suc j) (set l i x) ≡ count (suc j) l + digit (eqb x (suc j))
count-more j l i x h free =
    let z : digit (eqb (get_or l i 0) (suc j)) ≡ 0 = ap digit (ap (λ (y : ℕ). eqb y (suc j)) free ∙ eqb-zero-suc j) in
    omega (arith, count_set (suc j) l i x h)

-- an owner of a slot has a slot
count-some : (j : ℕ) (l : List ℕ) (i : ℕ) → get_or l i 0 ≡ suc j → 0 < count (suc j) l
unfolding count
count-some j [] i e = absurd (omega (arith, e))
count-some j (x ∷ l) zero e = let d : digit (eqb x (suc j)) ≡ 1 = ap digit (eq-eqb x (suc j) e) in omega arith
count-some j (x ∷ l) (suc i) e = omega (arith, count-some j l i e)

-- a list that is nowhere above another adds to no more
total-le : (l t : List ℕ) → ((i : ℕ) → get_or l i 0 ≤ get_or t i 0) → total l ≤ total t
unfolding total
total-le [] t h = omega arith
total-le (x ∷ l) [] h = let z : total l ≤ 0 = total-le l [] (λ i. h (suc i)) in omega (arith, h 0)
total-le (x ∷ l) (y ∷ t) h = omega (arith, h 0, total-le l t (λ i. h (suc i)))

-- a list that is nowhere above another and adds to as much is the other
total-full : (l t : List ℕ) → ((i : ℕ) → get_or l i 0 ≤ get_or t i 0) → total t ≤ total l → (i : ℕ) → get_or l i 0 ≡ get_or t i 0
unfolding total
total-full [] [] h f i = refl
total-full [] (y ∷ t) h f zero = omega arith
total-full [] (y ∷ t) h f (suc i) = total-full [] t (λ m. h (suc m)) (omega arith) i
total-full (x ∷ l) [] h f zero = omega (arith, h 0)
total-full (x ∷ l) [] h f (suc i) = omega (arith, h (suc i))
total-full (x ∷ l) (y ∷ t) h f zero = omega (arith, h 0, total-le l t (λ m. h (suc m)))
total-full (x ∷ l) (y ∷ t) h f (suc i) = total-full l t (λ m. h (suc m)) (omega (arith, h 0)) i

-- the sum from an index on: one more, and none behind the last that is above 0
pub total-more : (l : List ℕ) (i : ℕ) → i < length l → total (drop i l) ≡ get_or l i 0 + total (drop (i + 1) l)
unfolding total
total-more l i h = let e : i + 1 ≡ suc i = omega arith in ap total (drop-cons l i 0 h)
    ∙ ap (λ (x : ℕ). get_or l i 0 + total (drop x l)) (sym e)

pub total-end : (l : List ℕ) (i : ℕ) → ((j : ℕ) → i ≤ j → get_or l j 0 ≡ 0) → total (drop i l) ≡ 0
total-end l i z =
    let h : total (drop i l) ≤ total (replicate 0 0) = total-le (drop i l) (replicate 0 0)
    (λ j. omega (arith, get_or-drop i l j 0, z (i + j) (omega arith))) in
    omega (arith, h, total-zeros 0)

-- nor behind the end
pub total-past : (l : List ℕ) (i : ℕ) → length l ≤ i → total (drop i l) ≡ 0
unfolding total
total-past l i h = ap total (drop_of_length-le l {i = i} h)

-- a list whose owners are the other's, or none, has no more slots of any
count-le : (j : ℕ) (l t : List ℕ) → ((k : ℕ) → (get_or l k 0 ≡ 0) ⊎ (get_or l k 0 ≡ get_or t k 0)) → count (suc j) l ≤ count (suc j) t
unfolding count
count-le j [] t h = omega arith
count-le j (x ∷ l) [] h =
    let z : x ≡ 0 = ⊎_elim (λ e. e) (λ e. e) (h 0) in
    let d : digit (eqb x (suc j)) ≡ 0 = ap digit (ap (λ (a : ℕ). eqb a (suc j)) z ∙ eqb-zero-suc j) in
    omega (arith, count-le j l [] (λ k. h (suc k)))
count-le j (x ∷ l) (y ∷ t) h =
    ⊎_elim
    (λ z.
    let d : digit (eqb x (suc j)) ≡ 0 = ap digit (ap (λ (a : ℕ). eqb a (suc j)) z ∙ eqb-zero-suc j) in
    omega (arith, count-le j l t (λ k. h (suc k))))
    (λ e.
    let d : digit (eqb x (suc j)) ≡ digit (eqb y (suc j)) = ap (λ (a : ℕ). digit (eqb a (suc j))) e in
    omega (arith, count-le j l t (λ k. h (suc k))))
    (h 0)

-- Drafts.

-- a node that lacks a slot has an entry in both lists
pub lacks-at : (target : List ℕ) (d : Draft) (j : ℕ) → below_target target d j ≡ true
    → (j - 1 < length target) × (get_or d.held (j - 1) 0 < get_or target (j - 1) 0)
lacks-at target d j e =
    let h : get_or d.held (j - 1) 0 < get_or target (j - 1) 0 = ltb-true _ _ e in
    (inside target (j - 1) (omega arith), h)

-- what slot k may have for an owner o, if it had p, where the first a slots were gone through for keeping and the first b for filling:
-- none, the old one, or, where there was no old one, any
abbrev pub Slot : ℕ → ℕ → ℕ → ℕ → ℕ → ℕ → Type 0
Slot K a b k p o = (o ≡ 0) ⊎ (((o ≡ p) × (k < K) × (k < a)) ⊎ ((p ≡ 0) × (k < K) × (k < b)))

slot-later : {K a b k p o : ℕ} (a' b' : ℕ) → a ≤ a' → b ≤ b' → Slot K a b k p o → Slot K a' b' k p o
slot-later {K} {a} {b} {k} {p} {o} a' b' l m = ⊎_elim inl
    (λ s. inr (⊎_elim (λ x. inl (x.0, x.1, omega (arith, x.2))) (λ x. inr (x.0, x.1, omega (arith, x.2))) s))

-- a draft in which each node's slots are counted and no more than its target
pub record DraftOk (target old : List ℕ) (K a b : ℕ) (d : Draft) : Type 0 where
  pub long : length d.owners ≡ 80
  pub wide : length d.held ≡ 32
  pub counted : (j : ℕ) → count (suc j) d.owners ≡ get_or d.held j 0
  pub within : (j : ℕ) → get_or d.held j 0 ≤ get_or target j 0
  pub slot : (k : ℕ) → Slot K a b k (get_or old k 0) (get_or d.owners k 0)

sound-later : {target old : List ℕ} {K a b : ℕ} {d : Draft} (a' b' : ℕ) → a ≤ a' → b ≤ b' → DraftOk target old K a b d
    → DraftOk target old K a' b' d
sound-later a' b' l m s =
    record { long = s.long; wide = s.wide; counted = s.counted; within = s.within; slot = λ k. slot-later a' b' l m (s.slot k) }

-- a free slot goes to a node that lacks one
sound-given : (target old : List ℕ) (K a b a' b' : ℕ) (d : Draft) (k j : ℕ) → length target ≡ 32 → DraftOk target old K a b d → a ≤ a'
    → b ≤ b'
    → k < 80 → get_or d.owners k 0 ≡ 0 → 0 < j → below_target target d j ≡ true → Slot K a' b' k (get_or old k 0) j
    → DraftOk target old K a' b' (given d k j)
sound-given target old K a b a' b' d k j w s la lb kl free some e new =
    record {
      long = length-set d.owners k j ∙ s.long;
      wide = length-set d.held (j - 1) _ ∙ s.wide;
      counted = λ m. same_or_not m (j - 1) (counted_same m) (counted-other m);
      within = λ m. same_or_not m (j - 1) (within_same m) (within-other m);
      slot = λ m. same_or_not m k (slot_same m) (slot-other m);
    }
  where
    has : ℕ
    has = get_or d.held (j - 1) 0

    p : (j - 1 < length target) × (has < get_or target (j - 1) 0)
    p = lacks-at target d j e

    in_owners : k < length d.owners
    in_owners = omega (arith, s.long)

    in_held : j - 1 < length d.held
    in_held = omega (arith, s.wide, p.0)

    counted_same : (m : ℕ) → m ≡ j - 1 → count (suc m) (set d.owners k j) ≡ get_or (set d.held (j - 1) (has + 1)) m 0
    counted_same m h =
        let u : digit (eqb j (suc m)) ≡ 1 = ap digit (eq-eqb j (suc m) (omega arith)) in
        let v : get_or (set d.held (j - 1) (has + 1)) m 0 ≡ has + 1 = ap (λ (i : ℕ). get_or (set d.held (j - 1) (has + 1)) i 0) h
        ∙ get_or-set_same d.held (j - 1) (has + 1) 0 in_held in
        let q : get_or d.held m 0 ≡ has = ap (λ (i : ℕ). get_or d.held i 0) h in
        omega (arith, count-more m d.owners k j in_owners free, s.counted m)

    counted-other : (m : ℕ) → m ≢ j - 1 → count (suc m) (set d.owners k j) ≡ get_or (set d.held (j - 1) (has + 1)) m 0
    counted-other m h =
        let u : digit (eqb j (suc m)) ≡ 0 = ap digit (ne_eqb j (suc m) (λ (z : j ≡ suc m). h (omega arith))) in
        let v : get_or (set d.held (j - 1) (has + 1)) m 0 ≡ get_or d.held m 0 = get_or-set_other d.held (j - 1) m (has + 1) 0 h in
        omega (arith, count-more m d.owners k j in_owners free, s.counted m)

    within_same : (m : ℕ) → m ≡ j - 1 → get_or (set d.held (j - 1) (has + 1)) m 0 ≤ get_or target m 0
    within_same m h =
        let v : get_or (set d.held (j - 1) (has + 1)) m 0 ≡ has + 1 = ap (λ (i : ℕ). get_or (set d.held (j - 1) (has + 1)) i 0) h
        ∙ get_or-set_same d.held (j - 1) (has + 1) 0 in_held in
        let q : get_or target m 0 ≡ get_or target (j - 1) 0 = ap (λ (i : ℕ). get_or target i 0) h in
        omega (arith, p.1)

    within-other : (m : ℕ) → m ≢ j - 1 → get_or (set d.held (j - 1) (has + 1)) m 0 ≤ get_or target m 0
    within-other m h =
        let v : get_or (set d.held (j - 1) (has + 1)) m 0 ≡ get_or d.held m 0 = get_or-set_other d.held (j - 1) m (has + 1) 0 h in
        omega (arith, s.within m)

    slot_same : (m : ℕ) → m ≡ k → Slot K a' b' m (get_or old m 0) (get_or (set d.owners k j) m 0)
    slot_same m h =
        subst (λ (i : ℕ). Slot K a' b' i (get_or old i 0) (get_or (set d.owners k j) i 0)) (sym h)
        (subst (λ (o : ℕ). Slot K a' b' k (get_or old k 0) o) (sym (get_or-set_same d.owners k j 0 in_owners)) new)

    slot-other : (m : ℕ) → m ≢ k → Slot K a' b' m (get_or old m 0) (get_or (set d.owners k j) m 0)
    slot-other m h =
        subst (λ (o : ℕ). Slot K a' b' m (get_or old m 0) o) (sym (get_or-set_other d.owners k m j 0 h)) (slot-later a' b' la lb (s.slot m))

-- of the first n nodes none is below its target, or j is the one with the fewest
abbrev Chosen : List ℕ → Draft → ℕ → ℕ → Type 0
Chosen target d n j = ((j ≡ 0) × ((i : ℕ) → i < n → below_target target d (i + 1) ≡ false)) ⊎ Least target d n j

better-step : (target : List ℕ) (d : Draft) (i j : ℕ) → Chosen target d i j → Chosen target d (suc i) (better target d i j)
unfolding better
better-step target d i j p = by-test (Chosen target d (suc i)) (below_target target d (i + 1) && q) (i + 1) j taken left
  where
    has : ℕ → ℕ
    has m = get_or d.held m 0

    q : Bool
    q = eqb j 0 || ltb (has i) (has (j - 1))

    below : (below_target target d (i + 1) && q) ≡ true → (m : ℕ) → m < i → below_target target d (m + 1) ≡ true → has i < has m
    below e m l h =
        ⊎_elim (λ z. clash _ h (z.1 m l))
        (λ s.
        let n : eqb j 0 ≡ false = ne_eqb j 0 (λ (z : j ≡ 0). omega (arith, s.node.0)) in
        let t : has i < has (j - 1) =
        ltb-true (has i) (has (j - 1)) (or-rest (eqb j 0) _ (and_right (below_target target d (i + 1)) q e) n) in
        omega (arith, s.fewest m l h))
        p

    taken : (below_target target d (i + 1) && q) ≡ true → Chosen target d (suc i) (i + 1)
    taken e =
        let b : i + 1 - 1 ≡ i = omega arith in
        let c : has (i + 1 - 1) ≡ has i = ap has b in
        inr (record {
          node = (omega arith, omega arith);
          lacking = and_left (below_target target d (i + 1)) q e;
          fewest = λ m l h. same_or_not m i (λ z. omega (arith, ap has z)) (λ n. omega (arith, below e m (omega (arith, n)) h));
          first = λ m l h. omega (arith, below e m (omega arith) h);
        })

    left : (below_target target d (i + 1) && q) ≡ false → Chosen target d (suc i) j
    left e =
        ⊎_elim
        (λ z. inl (
          z.0,
          λ m l. same_or_not m i
              (λ n. ap (λ (x : ℕ). below_target target d (x + 1)) n ∙ is_false (below_target target d (i + 1))
              (λ h. clash q (or-front (eqb j 0) _ (eq-eqb j 0 z.0)) (and-rest (below_target target d (i + 1)) q e h)))
              (λ n. z.1 m (omega (arith, n))),
        ))
        (λ s. inr (record {
          node = (s.node.0, omega (arith, s.node.1));
          lacking = s.lacking;
          fewest = λ m l h. same_or_not m i
              (λ z.
              let t : below_target target d (i + 1) ≡ true = ap (λ (x : ℕ). below_target target d (x + 1)) (sym z) ∙ h in
              let u : has (j - 1) ≤ has i = ltb-false (has i) (has (j - 1))
              (or-neither (eqb j 0) _ (and-rest (below_target target d (i + 1)) q e t)).1 in
              omega (arith, ap has z))
              (λ n. s.fewest m (omega (arith, n)) h);
          first = s.first;
        }))
        p

-- who is chosen: no node is below its target and it is 0, or it is the node with the fewest slots, the lowest number among equals
pub chosen-least : (target : List ℕ) (d : Draft)
    → ((chosen target d ≡ 0) × ((i : ℕ) → i < 32 → below_target target d (i + 1) ≡ false)) ⊎ Least target d 32 (chosen target d)
unfolding chosen
chosen-least target d =
    iter-inv {n = 32} (Chosen target d) (better target d) 0 (inl (refl, λ i l. absurd (not-suc-le-zero l)))
    (λ i j l p. better-step target d i j p)

-- keeping and filling
pub blank-sound : (target old : List ℕ) (K : ℕ) → DraftOk target old K 0 0 blank
blank-sound target old K =
    record {
      long = refl;
      wide = refl;
      counted = λ j. count_zeros 80 j ∙ sym (get_d-zeros 32 j);
      within = λ j. omega (arith, get_d-zeros 32 j);
      slot = λ k. inl (get_d-zeros 80 k);
    }

pub keep-step : (target old : List ℕ) (K : ℕ) → length target ≡ 32 → (i : ℕ) (d : Draft) → i < 80 → DraftOk target old K i 0 d
    → DraftOk target old K (suc i) 0 (keep_one target old K i d)
unfolding keep_one
keep-step target old K w i d l s =
    let o = get_or old i 0 in
    by-test (DraftOk target old K (suc i) 0) (ltb i K && ltb 0 o && below_target target d o) (given d i o) d
    (λ e.
    let t = and_left (ltb i K && ltb 0 o) (below_target target d o) e in
    let k : i < K = ltb-true i K (and_left (ltb i K) (ltb 0 o) t) in
    let n : 0 < o = ltb-true 0 o (and_right (ltb i K) (ltb 0 o) t) in
    let z : get_or d.owners i 0 ≡ 0 = ⊎_elim (λ x. x) (λ x. absurd (⊎_elim (λ y. omega (arith, y.2)) (λ y. omega (arith, y.2)) x))
    (s.slot i) in
    sound-given target old K i 0 (suc i) 0 d i o w s (omega arith) (omega arith) l z n
    (and_right (ltb i K && ltb 0 o) (below_target target d o) e) (inr (inl (refl, k, omega arith))))
    (λ e. sound-later (suc i) 0 (omega arith) (omega arith) s)

pub fill_step : (target old : List ℕ) (K : ℕ) → length target ≡ 32 → (i : ℕ) (d : Draft) → i < 80 → DraftOk target old K 80 i d
    → DraftOk target old K 80 (suc i) (fill_one target old K i d)
unfolding fill_one
fill_step target old K w i d l s =
    let o = get_or old i 0 in
    let j = chosen target d in
    let stays : DraftOk target old K 80 (suc i) d = sound-later 80 (suc i) (omega arith) (omega arith) s in
    by-test (DraftOk target old K 80 (suc i)) (ltb i K && eqb o 0) (give_to d i j) d
    (λ e.
    let k : i < K = ltb-true i K (and_left (ltb i K) (eqb o 0) e) in
    let n : o ≡ 0 = eqb-true o 0 (and_right (ltb i K) (eqb o 0) e) in
    let z : get_or d.owners i 0 ≡ 0 = ⊎_elim (λ x. x) (λ x. ⊎_elim (λ y. y.0 ∙ n) (λ y. absurd (omega (arith, y.2))) x) (s.slot i) in
    by-test (DraftOk target old K 80 (suc i)) (eqb j 0) d (given d i j) (λ f. stays)
    (λ f. ⊎_elim (λ x. absurd (eqb-false j 0 f x.0))
    (λ x. sound-given target old K 80 i 80 (suc i) d i j w s (omega arith) (omega arith) l z x.node.0 x.lacking
    (inr (inr (n, k, omega arith))))
    (chosen-least target d)))
    (λ e. stays)

allotted-sound : (target old : List ℕ) (K : ℕ) → length target ≡ 32 → DraftOk target old K 80 80 (filled target old K (kept target old K))
unfolding kept filled
allotted-sound target old K w =
    iter-inv {n = 80} (λ i. DraftOk target old K 80 i) (fill_one target old K) (kept target old K)
    (iter-inv {n = 80} (λ i. DraftOk target old K i 0) (keep_one target old K) blank (blank-sound target old K) (keep-step target old K w))
    (fill_step target old K w)

-- an owner of no more slots than its target lacks one where its next one comes
pub keeps_on : (target old : List ℕ) (K i : ℕ) (d : Draft) → i < 80 → DraftOk target old K i 0 d → 0 < get_or old i 0
    → count (get_or old i 0) old ≤ get_or target (get_or old i 0 - 1) 0 → below_target target d (get_or old i 0) ≡ true
keeps_on target old K i d l s n fit =
    let o = get_or old i 0 in
    let x = o - 1 in
    let e : suc x ≡ o = omega arith in
    let g : i < length d.owners = omega (arith, s.long) in
    let z : get_or d.owners i 0 ≡ 0 = ⊎_elim (λ y. y) (λ y. absurd (⊎_elim (λ u. omega (arith, u.2)) (λ u. omega (arith, u.2)) y))
    (s.slot i) in
    let c : count (suc x) (set d.owners i o) ≤ count (suc x) old =
    count-le x (set d.owners i o) old
    (λ k. same_or_not k i
    (λ q. inr (ap (λ (m : ℕ). get_or (set d.owners i o) m 0) q ∙ get_or-set_same d.owners i o 0 g ∙ ap (λ (m : ℕ). get_or old m 0) (sym q)))
    (λ q.
    let r = get_or-set_other d.owners i k o 0 q in
    ⊎_elim (λ y. inl (r ∙ y)) (⊎_elim (λ y. inr (r ∙ y.0)) (λ y. absurd (not-suc-le-zero y.2))) (s.slot k))) in
    let u : digit (eqb o (suc x)) ≡ 1 = ap digit (eq-eqb o (suc x) (sym e)) in
    lt-ltb (get_or d.held x 0) (get_or target x 0)
    (omega (arith, c, subst (λ (y : ℕ). count y old ≤ get_or target x 0) (sym e) fit, count-more x d.owners i o g z, s.counted x))

-- where no node lacks a slot, each has its target
pub full_at : (target : List ℕ) (d : Draft) → length target ≡ 32 → ((m : ℕ) → m < 32 → below_target target d (m + 1) ≡ false) → (m : ℕ)
    → get_or target m 0 ≤ get_or d.held m 0
full_at target d w h m = go (ltb m 32) refl
  where
    go : (b : Bool) → ltb m 32 ≡ b → get_or target m 0 ≤ get_or d.held m 0
    go true b =
        let e : m + 1 - 1 ≡ m = omega arith in
        let x : get_or target (m + 1 - 1) 0 ≤ get_or d.held (m + 1 - 1) 0 = ltb-false _ _ (h m (ltb-true m 32 b)) in
        omega (arith, ap (λ (x : ℕ). get_or target x 0) e, ap (λ (x : ℕ). get_or d.held x 0) e)
    go false b =
        let k : length target ≤ m = omega (arith, ltb-false m 32 b) in
        omega (arith, get_or-eq_default target 0 k)

-- A schedule within its targets: nobody loses a slot, and everybody gets all of its target.

module _ (target old : List ℕ) (K : ℕ) (w : length target ≡ 32) (fit : (j : ℕ) → count (suc j) old ≤ get_or target j 0)
    (behind : (k : ℕ) → K ≤ k → get_or old k 0 ≡ 0) where
  -- the slots that were free
  abbrev open-slot : ℕ → Bool
  open-slot k = ltb k K && eqb (get_or old k 0) 0

  -- a turn of keeping: every owner keeps its slot, so that each of the K slots gone through is held or was free
  keep-full : (i : ℕ) (d : Draft) → i < 80
      → DraftOk target old K i 0 d × (total d.held + how_many i open-slot ≡ min K i)
      → DraftOk target old K (suc i) 0 (keep_one target old K i d)
      × (total (keep_one target old K i d).held + how_many (suc i) open-slot ≡ min K (suc i))
  unfolding keep_one
  keep-full i d l s = (
    keep-step target old K w i d l s.0,
    by-test (λ x. total x.held + how_many (suc i) open-slot ≡ min K (suc i)) (ltb i K && ltb 0 o && below_target target d o)
        (given d i o) d taken left,
  )
    where
      o : ℕ
      o = get_or old i 0

      taken : (ltb i K && ltb 0 o && below_target target d o) ≡ true
          → total (set d.held (o - 1) (get_or d.held (o - 1) 0 + 1)) + how_many (suc i) open-slot ≡ min K (suc i)
      taken e =
          let t = and_left (ltb i K && ltb 0 o) (below_target target d o) e in
          let k : i < K = ltb-true i K (and_left (ltb i K) (ltb 0 o) t) in
          let n : 0 < o = ltb-true 0 o (and_right (ltb i K) (ltb 0 o) t) in
          let f : eqb o 0 ≡ false = ne_eqb o 0 (λ (z : o ≡ 0). omega arith) in
          let g : open-slot i ≡ false = ap (λ (b : Bool). ltb i K && b) f ∙ ap (λ (b : Bool). b && false) (lt-ltb i K k) in
          let q = lacks-at target d o (and_right (ltb i K && ltb 0 o) (below_target target d o) e) in
          omega (
            arith,
            s.1,
            how_many-suc open-slot i,
            ap digit g,
            total-set d.held (o - 1) (get_or d.held (o - 1) 0 + 1)
                (omega (arith, q.0, s.0.wide)),
          )

      free-slot : o ≡ 0 → (b : Bool) → ltb i K ≡ b → total d.held + how_many (suc i) open-slot ≡ min K (suc i)
      free-slot z true e =
          let g : open-slot i ≡ true = ap₂ ◌&&◌ e (eq-eqb o 0 z) in
          omega (arith, s.1, how_many-suc open-slot i, ap digit g, ltb-true i K e)
      free-slot z false e =
          let g : open-slot i ≡ false = ap (λ (b : Bool). b && eqb o 0) e in
          omega (arith, s.1, how_many-suc open-slot i, ap digit g, ltb-false i K e)

      reach : o ≢ 0 → i < K
      reach n = go (ltb i K) refl
        where
          go : (b : Bool) → ltb i K ≡ b → i < K
          go true e = ltb-true i K e
          go false e = absurd (n (behind i (ltb-false i K e)))

      left : (ltb i K && ltb 0 o && below_target target d o) ≡ false → total d.held + how_many (suc i) open-slot ≡ min K (suc i)
      left e =
          same_or_not o 0 (λ z. free-slot z (ltb i K) refl)
          (λ n.
          let k : i < K = reach n in
          clash (ltb i K && ltb 0 o && below_target target d o)
          (ap₂ ◌&&◌ (ap₂ ◌&&◌ (lt-ltb i K k) (lt-ltb 0 o (omega (arith, n))))
          (keeps_on target old K i d l s.0 (omega (arith, n))
          (subst (λ (x : ℕ). count x old ≤ get_or target (o - 1) 0) (omega (arith, n)) (fit (o - 1))))) e)

  -- a turn of filling: as many free slots are left as slots are lacking, at least
  fill-full : (i : ℕ) (d : Draft) → i < 80
      → DraftOk target old K 80 i d × (total target + how_many i open-slot ≤ total d.held + how_many 80 open-slot)
      → DraftOk target old K 80 (suc i) (fill_one target old K i d)
      × (total target + how_many (suc i) open-slot ≤ total (fill_one target old K i d).held + how_many 80 open-slot)
  unfolding fill_one
  fill-full i d l s = (
    fill_step target old K w i d l s.0,
    by-test (λ x. total target + how_many (suc i) open-slot ≤ total x.held + how_many 80 open-slot) (open-slot i) (give_to d i j) d
        (λ e. by-test (λ x. total target + how_many (suc i) open-slot ≤ total x.held + how_many 80 open-slot) (eqb j 0) d
        (given d i j) none (some e))
        (λ e. omega (arith, s.1, how_many-suc open-slot i, ap digit e)),
  )
    where
      j : ℕ
      j = chosen target d

      none : eqb j 0 ≡ true → total target + how_many (suc i) open-slot ≤ total d.held + how_many 80 open-slot
      none f =
          ⊎_elim
          (λ z.
          let t : total target ≤ total d.held = total-le target d.held (full_at target d w z.1) in
          omega (arith, how_many-more open-slot (suc i) 80 l))
          (λ z. absurd (omega (arith, z.node.0, eqb-true j 0 f)))
          (chosen-least target d)

      some : open-slot i ≡ true → eqb j 0 ≡ false → total target + how_many (suc i) open-slot ≤ total
          (set d.held (j - 1) (get_or d.held (j - 1) 0 + 1)) + how_many 80 open-slot
      some e f =
          ⊎_elim (λ z. absurd (eqb-false j 0 f z.0))
          (λ z.
          let q = lacks-at target d j z.lacking in
          omega (
            arith,
            s.1,
            how_many-suc open-slot i,
            ap digit e,
            total-set d.held (j - 1) (get_or d.held (j - 1) 0 + 1)
                (omega (arith, q.0, s.0.wide)),
          ))
          (chosen-least target d)

  -- so in the end nobody lacks a slot
  all-full : total target ≤ min K 80 → (j : ℕ) → count (suc j) (allotted target old K) ≡ get_or target j 0
  unfolding kept filled
  all-full h j =
      let a =
      iter-inv {n = 80} (λ i x. DraftOk target old K i 0 x × (total x.held + how_many i open-slot ≡ min K i)) (keep_one target old K) blank
      (blank-sound target old K, omega (arith, total-zeros 32, how_many-none open-slot)) keep-full in
      let b =
      iter-inv {n = 80} (λ i x. DraftOk target old K 80 i x ×
      (total target + how_many i open-slot ≤ total x.held + how_many 80 open-slot)) (fill_one target old K) (kept target old K)
      (a.0, omega (arith, a.1, how_many-none open-slot)) fill-full in
      b.0.counted j ∙ total-full (filled target old K (kept target old K)).held target b.0.within (omega (arith, b.1)) j

-- Requests.

-- what a node asks for: nothing, or a member's request
ask-law : (N m : ℕ) (R : List ℕ) (i : ℕ) → (ask N m R i ≡ 0) ⊎
    ((i < N) × (has_bit m i ≡ true) × (get_or R i 0 ≤ top_request) × (ask N m R i ≡ get_or R i 0))
ask-law N m R i = go (ltb i N && has_bit m i && leb (get_or R i 0) top_request) refl
  where
    go : (t : Bool) → (ltb i N && has_bit m i && leb (get_or R i 0) top_request) ≡ t
        → (ask N m R i ≡ 0) ⊎ ((i < N) × (has_bit m i ≡ true) × (get_or R i 0 ≤ top_request) × (ask N m R i ≡ get_or R i 0))
    go true e =
        let f : (ltb i N && has_bit m i) ≡ true = and_left (ltb i N && has_bit m i) (leb (get_or R i 0) top_request) e in
        inr (
          ltb-true i N (and_left (ltb i N) (has_bit m i) f),
          and_right (ltb i N) (has_bit m i) f,
          leb-true (get_or R i 0) top_request (and_right (ltb i N && has_bit m i) (leb (get_or R i 0) top_request) e),
          hit _ _ _ e,
        )
    go false e = inl (skip _ _ _ _ e refl)

pub length-asks : (N m : ℕ) (R : List ℕ) → length (asks N m R) ≡ 32
unfolding asks
length-asks N m R = length-tab 32 (ask N m R)

asks_at : (N m : ℕ) (R : List ℕ) (i : ℕ) → i < 32 → get_or (asks N m R) i 0 ≡ ask N m R i
unfolding asks
asks_at N m R i l = get_d-tab 0 32 (ask N m R) i l

-- who asks for something is a member, and asks for its request
pub ask-member : (N m : ℕ) (R : List ℕ) (i : ℕ) → 0 < get_or (asks N m R) i 0
    → (i < N) × (i < 32) × (has_bit m i ≡ true) × (get_or R i 0 ≤ top_request) × (get_or (asks N m R) i 0 ≡ get_or R i 0)
ask-member N m R i h =
    let l : i < 32 = omega (arith, inside (asks N m R) i h, length-asks N m R) in
    let e : get_or (asks N m R) i 0 ≡ ask N m R i = asks_at N m R i l in
    ⊎_elim (λ z. absurd (omega (arith, e, z))) (λ x. (x.0, l, x.1, x.2, e ∙ x.3)) (ask-law N m R i)

-- no node behind the first N, nor behind the 32, asks for any
pub ask-past : (N m : ℕ) (R : List ℕ) (i : ℕ) → min N 32 ≤ i → get_or (asks N m R) i 0 ≡ 0
ask-past N m R i l = same_or_not (get_or (asks N m R) i 0) 0 (λ z. z)
    (λ n. let x = ask-member N m R i (omega (arith, n)) in absurd (omega (arith, x.0, x.1)))

-- no node asks for more than its request, nor than the greatest one
pub ask-request : (N m : ℕ) (R : List ℕ) (i : ℕ) → (get_or (asks N m R) i 0 ≤ get_or R i 0) × (get_or (asks N m R) i 0 ≤ top_request)
ask-request N m R i =
    same_or_not (get_or (asks N m R) i 0) 0 (λ z. (omega (arith, z), omega (arith, z)))
    (λ n. let x = ask-member N m R i (omega (arith, n)) in (omega (arith, x.4), omega (arith, x.3, x.4)))

-- the requests of the members are all that the asking depends on
asks-same : (m : ℕ) (R U : List ℕ) (N : ℕ) → ((i : ℕ) → i < N → has_bit m i ≡ true → get_or R i 0 ≡ get_or U i 0) → asks N m R ≡ asks N m U
unfolding asks
asks-same m R U N h = tab-ext 32 (ask N m R) (ask N m U) (λ i l. go i (ltb i N && has_bit m i) refl)
  where
    none : (S : List ℕ) (i : ℕ) → (ltb i N && has_bit m i) ≡ false → ask N m S i ≡ 0
    none S i e = skip _ _ _ _ (ap (λ (t : Bool). t && leb (get_or S i 0) top_request) e) refl

    go : (i : ℕ) (t : Bool) → (ltb i N && has_bit m i) ≡ t → ask N m R i ≡ ask N m U i
    go i true e =
        ap (λ (x : ℕ). cond (ltb i N && has_bit m i && leb x top_request) x 0)
        (h i (ltb-true i N (and_left (ltb i N) (has_bit m i) e)) (and_right (ltb i N) (has_bit m i) e))
    go i false e = none R i e ∙ sym (none U i e)

-- Dealing.

-- a deal of K slots in which no node has more than it wants
pub record Fair (wanted : List ℕ) (K : ℕ) (d : Deal) : Type 0 where
  pub long : length d.targets ≡ 32
  pub sum : total d.targets + d.left ≡ min K 80
  pub within : (i : ℕ) → get_or d.targets i 0 ≤ get_or wanted i 0

-- none is left, or each node has r slots or what it wants, and the first i have one more
abbrev Even : List ℕ → ℕ → ℕ → Deal → Type 0
Even wanted r i d =
    (d.left ≡ 0) ⊎ ((j : ℕ) → j < 32 → (min (get_or wanted j 0) r ≤ get_or d.targets j 0)
    × (j < i → min (get_or wanted j 0) (suc r) ≤ get_or d.targets j 0))

pub fair-step : (wanted : List ℕ) (K i : ℕ) (d : Deal) → i < 32 → Fair wanted K d → Fair wanted K (deal_one wanted i d)
unfolding deal_one
fair-step wanted K i d l s =
    let t = d.targets in
    let has = get_or t i 0 in
    by-test (Fair wanted K) (ltb 0 d.left && ltb has (get_or wanted i 0)) (record { targets = set t i (has + 1); left = d.left - 1 }) d
    (λ e.
    let some : 0 < d.left = ltb-true _ _ (and_left (ltb 0 d.left) (ltb has (get_or wanted i 0)) e) in
    let more : has < get_or wanted i 0 = ltb-true _ _ (and_right (ltb 0 d.left) (ltb has (get_or wanted i 0)) e) in
    let n : i < length t = omega (arith, s.long) in
    record {
      long = length-set t i (has + 1) ∙ s.long;
      sum = omega (arith, s.sum, total-set t i (has + 1) n);
      within = λ j. same_or_not j i
          (λ z. omega (
            arith,
            ap (λ (x : ℕ). get_or (set t i (has + 1)) x 0) z,
            ap (λ (x : ℕ). get_or wanted x 0) z,
            get_or-set_same t i
                (has + 1) 0 n,
          ))
          (λ z. omega (arith, s.within j, get_or-set_other t i j (has + 1) 0 z));
    })
    (λ e. s)

even_step : (wanted : List ℕ) (r i : ℕ) (d : Deal) → i < 32 → length d.targets ≡ 32 → Even wanted r i d
    → Even wanted r (suc i) (deal_one wanted i d)
unfolding deal_one
even_step wanted r i d l w =
    let t = d.targets in
    let has = get_or t i 0 in
    let n : i < length t = omega arith in
    by-test (λ u. Even wanted r i d → Even wanted r (suc i) u) (ltb 0 d.left && ltb has (get_or wanted i 0))
    (record { targets = set t i (has + 1); left = d.left - 1 }) d
    (λ e.
    let some : 0 < d.left = ltb-true _ _ (and_left (ltb 0 d.left) (ltb has (get_or wanted i 0)) e) in
    ⊎_elim (λ z. absurd (omega arith)) (λ f. inr (λ j k. same_or_not j i
    (λ z.
    let a = ap (λ (x : ℕ). get_or (set t i (has + 1)) x 0) z in
    let b = ap (λ (x : ℕ). get_or t x 0) z in
    (omega (arith, a, b, (f j k).0, get_or-set_same t i (has + 1) 0 n), λ q. omega (arith, a, b, (f j k).0, get_or-set_same t i (has + 1) 0 n)))
    (λ z. (
      omega (arith, (f j k).0, get_or-set_other t i j (has + 1) 0 z),
      λ q. omega
          (arith, (f j k).1 (omega (arith, z)), get_or-set_other t i j (has + 1) 0 z),
    )))))
    (λ e. ⊎_elim inl (λ f. go f (ltb 0 d.left) refl e))
  where
    go : ((j : ℕ) → j < 32 → (min (get_or wanted j 0) r ≤ get_or d.targets j 0)
        × (j < i → min (get_or wanted j 0) (suc r) ≤ get_or d.targets j 0))
        → (b : Bool) → ltb 0 d.left ≡ b → (ltb 0 d.left && ltb (get_or d.targets i 0) (get_or wanted i 0)) ≡ false
        → Even wanted r (suc i) d
    go f true b e =
        let full : get_or wanted i 0 ≤ get_or d.targets i 0 = ltb-false _ _
        (and-rest (ltb 0 d.left) (ltb (get_or d.targets i 0) (get_or wanted i 0)) e b) in
        inr (λ j k. (
          (f j k).0,
          λ q. same_or_not j i
              (λ z. omega (arith, ap (λ (x : ℕ). get_or d.targets x 0) z, ap (λ (x : ℕ). get_or wanted x 0) z))
              (λ z. (f j k).1 (omega (arith, z))),
        ))
    go f false b e = let z : d.left ≤ 0 = ltb-false _ _ b in inl (omega arith)

round-step : (wanted : List ℕ) (K r : ℕ) (d : Deal) → Fair wanted K d × Even wanted r 0 d
    → Fair wanted K (deal_round wanted d) × Even wanted (suc r) 0 (deal_round wanted d)
unfolding deal_round
round-step wanted K r d s =
    let p =
    iter-inv {n = 32} (λ i x. Fair wanted K x × Even wanted r i x) (deal_one wanted) d s
    (λ i x l y. (fair-step wanted K i x l y.0, even_step wanted r i x l y.0.long y.1)) in
    (p.0, ⊎_elim inl (λ f. inr (λ j k. ((f j k).1 k, λ q. absurd (not-suc-le-zero q)))) p.1)

dealt-all : (wanted : List ℕ) (K : ℕ) → Fair wanted K (dealt wanted K) × Even wanted top_request 0 (dealt wanted K)
unfolding dealt
dealt-all wanted K =
    iter-inv {n = top_request} (λ r d. Fair wanted K d × Even wanted r 0 d) (λ _ d. deal_round wanted d) (undealt K) (
      record { long = refl; sum = omega (arith, total-zeros 32); within = λ i. omega (arith, get_d-zeros 32 i) },
      inr
          (λ j k. (omega arith, λ q. absurd (not-suc-le-zero q))),
    )
    (λ r d l s. round-step wanted K r d s)

-- after the last round none is left or all are met: there are rounds enough
pub dealt-done : (wanted : List ℕ) (K : ℕ) → ((i : ℕ) → get_or wanted i 0 ≤ top_request)
    → ((dealt wanted K).left ≡ 0) ⊎ ((i : ℕ) → i < 32 → get_or (dealt wanted K).targets i 0 ≡ get_or wanted i 0)
dealt-done wanted K h =
    let p = dealt-all wanted K in
    ⊎_elim inl (λ f. inr (λ i l. omega (arith, h i, (f i l).0, p.0.within i))) p.1

-- Targets.
module _ (N K m : ℕ) (R : List ℕ) where
  pub length-targets : length (targets N K m R) ≡ 32
  length-targets = (dealt-all (asks N m R) K).0.long

  -- no target exceeds what the node asks for, nor its request
  pub target-ask : (i : ℕ) → get_or (targets N K m R) i 0 ≤ get_or (asks N m R) i 0
  target-ask i = (dealt-all (asks N m R) K).0.within i

  -- who has a target is one of the N nodes, and a member
  pub target-member : (i : ℕ) → 0 < get_or (targets N K m R) i 0 → (i < N) × (i < 32) × (has_bit m i ≡ true)
  target-member i h = let x = ask-member N m R i (omega (arith, target-ask i)) in (x.0, x.1, x.2)

  -- no node behind the first N, nor behind the 32, has a target
  pub target_past : (i : ℕ) → min N 32 ≤ i → get_or (targets N K m R) i 0 ≡ 0
  target_past i l = omega (arith, target-ask i, ask-past N m R i l)

  -- the dealing ends with none left or with all met
  pub targets-done : ((dealt (asks N m R) K).left ≡ 0) ⊎ (targets N K m R ≡ asks N m R)
  targets-done =
      ⊎_elim inl (λ f. inr (ext_get_or 0 (targets N K m R) (asks N m R) (length-targets ∙ sym (length-asks N m R))
      (λ i l. f i (omega (arith, length-targets)))))
      (dealt-done (asks N m R) K (λ i. (ask-request N m R i).1))

  -- the targets add to the smaller of the slots and the requests' sum
  pub targets-total : total (targets N K m R) ≡ min (min K 80) (total (asks N m R))
  targets-total =
      let s : total (targets N K m R) + (dealt (asks N m R) K).left ≡ min K 80 = (dealt-all (asks N m R) K).0.sum in
      let l : total (targets N K m R) ≤ total (asks N m R) = total-le (targets N K m R) (asks N m R) target-ask in
      ⊎_elim (λ z. omega arith) (λ e. omega (arith, ap total e)) targets-done

  -- where there are slots for all that is asked for, that is dealt
  pub all_asked : total (asks N m R) ≤ min K 80 → targets N K m R ≡ asks N m R
  all_asked h =
      ext_get_or 0 (targets N K m R) (asks N m R) (length-targets ∙ sym (length-asks N m R))
      (λ i l. total-full (targets N K m R) (asks N m R) target-ask (omega (arith, targets-total, h)) i)

-- The next schedule.
module _ (s : Schedule) (m : ℕ) (R : List ℕ) (N K : ℕ) where
  sound : DraftOk (targets N K m R) (owners_of s) K 80 80 (filled (targets N K m R) (owners_of s) K (kept (targets N K m R) (owners_of s) K))
  sound = allotted-sound (targets N K m R) (owners_of s) K (length-targets N K m R)

  pub length-next : length (owners_of (next s m R N K)) ≡ 80
  unfolding next owners_of schedule_of
  length-next = sound.long

  -- no node exceeds its target
  pub held-most : (j : ℕ) → 0 < j → count j (owners_of (next s m R N K)) ≤ get_or (targets N K m R) (j - 1) 0
  unfolding next owners_of schedule_of
  held-most j l =
      let e : suc (j - 1) ≡ j = omega arith in
      subst (λ (x : ℕ). count x (owners_of (next s m R N K)) ≤ get_or (targets N K m R) (j - 1) 0) e
      (omega (arith, sound.counted (j - 1), sound.within (j - 1)))

  -- each slot has no owner, the old one, or, where it had none, a new one; none from K up
  slot_cases : (k : ℕ) → Slot K 80 80 k (owner_of s k) (owner_of (next s m R N K) k)
  unfolding next owners_of owner_of schedule_of
  slot_cases k = sound.slot k

  -- an owner is one of the N nodes, and a member; and its slot one of the K
  pub owner-member : (k : ℕ) → owner_of (next s m R N K) k ≢ 0
      → (owner_of (next s m R N K) k ≤ min N 32) × (has_bit m (owner_of (next s m R N K) k - 1) ≡ true) × (k < K)
  unfolding owner_of
  owner-member k h =
      let o = owner_of (next s m R N K) k in
      let p : 0 < count (suc (o - 1)) (owners_of (next s m R N K)) = count-some (o - 1) (owners_of (next s m R N K)) k (omega (arith, h)) in
      let e : suc (o - 1) ≡ o = omega (arith, h) in
      let q : 0 < count o (owners_of (next s m R N K)) = subst (λ (x : ℕ). 0 < count x (owners_of (next s m R N K))) e p in
      let t = target-member N K m R (o - 1) (omega (arith, held-most o (omega arith))) in
      (omega (arith, t.0, t.1), t.2, ⊎_elim (λ z. absurd (h z)) (λ y. ⊎_elim (λ x. x.1) (λ x. x.1) y) (slot_cases k))

  pub owner-range : (k : ℕ) → owner_of (next s m R N K) k ≤ min N 32
  owner-range k = same_or_not (owner_of (next s m R N K) k) 0 (λ z. omega (arith, z)) (λ h. (owner-member k h).0)

  pub owner-behind : (k : ℕ) → K ≤ k → owner_of (next s m R N K) k ≡ 0
  owner-behind k l = same_or_not (owner_of (next s m R N K) k) 0 (λ z. z) (λ h. absurd (omega (arith, (owner-member k h).2)))

  -- against the old schedule a slot is free, or has its old owner, or was free and has a member
  pub slot-law : (k : ℕ) → (owner_of (next s m R N K) k ≡ 0) ⊎ ((owner_of (next s m R N K) k ≡ owner_of s k)
      ⊎ ((owner_of s k ≡ 0) × (owner_of (next s m R N K) k ≤ min N 32) × (has_bit m (owner_of (next s m R N K) k - 1) ≡ true) × (k < K)))
  slot-law k =
      same_or_not (owner_of (next s m R N K) k) 0 inl
      (λ n.
      let o = owner-member k n in
      ⊎_elim inl (λ y. inr (⊎_elim (λ x. inl x.0) (λ x. inr (x.0, o.0, o.1, o.2)) y)) (slot_cases k))

  -- a slot that had an owner keeps it or becomes free
  pub released : (k : ℕ) → owner_of s k ≢ 0 → (owner_of (next s m R N K) k ≡ owner_of s k) ⊎ (owner_of (next s m R N K) k ≡ 0)
  released k h = ⊎_elim inr (⊎_elim inl (λ x. absurd (h x.0))) (slot-law k)

  -- no slot is given to different nodes by the two schedules
  pub compatible : (k : ℕ) → owner_of s k ≢ 0 → owner_of (next s m R N K) k ≢ 0 → owner_of s k ≡ owner_of (next s m R N K) k
  compatible k h n = ⊎_elim sym (λ z. absurd (n z)) (released k h)

  -- a schedule within the targets: everybody gets exactly its target
  pub held_all : ((j : ℕ) → count (suc j) (owners_of s) ≤ get_or (targets N K m R) j 0) → ((k : ℕ) → K ≤ k → owner_of s k ≡ 0)
      → (j : ℕ) → 0 < j → count j (owners_of (next s m R N K)) ≡ get_or (targets N K m R) (j - 1) 0
  unfolding next owners_of owner_of schedule_of
  held_all fit behind j l =
      let e : suc (j - 1) ≡ j = omega arith in
      subst (λ (x : ℕ). count x (owners_of (next s m R N K)) ≡ get_or (targets N K m R) (j - 1) 0) e
      (all-full (targets N K m R) (owners_of s) K (length-targets N K m R) fit behind (omega (arith, targets-total N K m R)) (j - 1))

-- with the same members and requests again, everybody has exactly its target
pub settled : (s : Schedule) (m : ℕ) (R : List ℕ) (N K j : ℕ) → 0 < j
    → count j (owners_of (next (next s m R N K) m R N K)) ≡ get_or (targets N K m R) (j - 1) 0
settled s m R N K j l =
    held_all (next s m R N K) m R N K
    (λ i.
    let e : suc i - 1 ≡ i = omega arith in
    subst (λ (x : ℕ). count (suc i) (owners_of (next s m R N K)) ≤ get_or (targets N K m R) x 0) e (held-most s m R N K (suc i) (omega arith)))
    (owner-behind s m R N K) j l

-- the next schedule depends on nothing but the schedule, the members, their requests, N and K
pub same-asks : (s : Schedule) (m : ℕ) (R U : List ℕ) (N K : ℕ) → ((i : ℕ) → i < N → has_bit m i ≡ true → get_or R i 0 ≡ get_or U i 0)
    → next s m R N K ≡ next s m U N K
unfolding next
same-asks s m R U N K h i = schedule_of (allotted (dealt (asks-same m R U N h i) K).targets (owners_of s) K)
