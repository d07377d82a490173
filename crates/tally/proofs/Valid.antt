-- What a tally that is not refused holds; one epoch more keeps it so.
-- Assumes nothing.
use mathlib.Core.Path.{◌≡◌, refl, sym, ap, ◌∙◌}
use mathlib.Core.Bool.{Bool, true, false, not, cond, ◌&&◌}
use mathlib.Core.List.{List}
use Prim.Native.Nat.{ℕ, min, ◌+◌, ◌*◌, ◌≤◌, ◌<◌}
use native.Mathlib.Omega.{arith}
use borrow.Author.Tests.{leb-true, le-leb, eqb-true, eq-eqb, ltb-false, eqb-false, not-true, not-false}
use lib.Dec.{ltb, leb}
use lib.ListN.{get_or}
use Rattle.words.specs.Bits.{digit}
use Rattle.words.proofs.Tests.{both, and_left, and_right, and-rest, by-test, same_or_not}
use Rattle.lists.specs.All.{all_below, tab}
use Rattle.lists.proofs.Laws.{all-at, all-make, get_d-tab, tab-ext}
use Rattle.allotment.specs.Model.{Schedule}
use Rattle.tally.specs.Claims.{claims, held_by, sum, claimed}
use Rattle.tally.specs.Counting.{top_epochs, first_tally, slots_at, held_at, tally_entry_ok, tally_ok, tally_full, added, epoch_counted}
use Rattle.tally.specs.Counting.{added_by, counted_by}
use Rattle.tally.specs.declared.Tally.{Tally}
use Rattle.tally.proofs.Sums.{digit-le, how_many-le, sum-le, sum-ext, sum-add, sums-meet}

-- by slots or by nodes: the same sum
pub by-nodes : (l : List Schedule) → claimed l ≡ sum 32 (held_by l)
by-nodes l = sums-meet 80 32 (claims l)

pub record Valid (t : Tally) : Type 0 where
  pub epochs : t.epochs ≤ top_epochs
  pub held : (i : ℕ) → i < 32 → held_at t i ≤ t.epochs
  pub slots : (i : ℕ) → i < 32 → slots_at t i ≤ 80 * held_at t i
  pub total : t.total ≡ sum 32 (slots_at t)

pub valid : (t : Tally) → tally_ok t ≡ true → Valid t
unfolding tally_ok
valid t e =
    let r = and_right (leb t.epochs top_epochs) _ e in
    let a = all-at 32 (tally_entry_ok t) (and_left (all_below 32 (tally_entry_ok t)) _ r) in
    record {
      epochs = leb-true _ _ (and_left _ _ e);
      held = λ i l. leb-true _ _ (and_left _ _ (a i l));
      slots = λ i l. leb-true _ _ (and_right (leb (held_at t i) t.epochs) _ (a i l));
      total = eqb-true _ _ (and_right (all_below 32 (tally_entry_ok t)) _ r);
    }

pub valid-ok : (t : Tally) → Valid t → tally_ok t ≡ true
unfolding tally_ok
valid-ok t v =
    both (le-leb _ _ v.epochs) (both (all-make 32 (tally_entry_ok t) (λ i l. both (le-leb _ _ (v.held i l)) (le-leb _ _ (v.slots i l))))
    (eq-eqb _ _ v.total))

-- no node has more than 8,000,000 slots, and the site not more than 256,000,000
pub slots-most : (t : Tally) → Valid t → (i : ℕ) → i < 32 → slots_at t i ≤ 8000000
slots-most t v i l =
    let a = v.epochs in
    let b = v.held i l in
    let c = v.slots i l in
    omega arith

pub total-most : (t : Tally) → Valid t → t.total ≤ 256000000
total-most t v =
    let a = sum-le 8000000 32 (slots_at t) (slots-most t v) in
    let b = v.total in
    omega arith

-- an epoch in which a node held slots is one in which it held at least one
some-held : (n : ℕ) → n ≤ 80 → n ≤ 80 * digit (ltb 0 n)
some-held n h = go (ltb 0 n) refl
  where
    go : (t : Bool) → ltb 0 n ≡ t → n ≤ 80 * digit t
    go true e = omega arith
    go false e = ltb-false 0 n e

pub slots-added : (t : Tally) (l : List Schedule) (i : ℕ) → i < 32 → slots_at (added t l) i ≡ slots_at t i + held_by l i
unfolding added
slots-added t l i h = get_d-tab 0 32 (λ j. slots_at t j + held_by l j) i h

pub held-added : (t : Tally) (l : List Schedule) (i : ℕ) → i < 32 → held_at (added t l) i ≡ held_at t i + digit (ltb 0 (held_by l i))
unfolding added
held-added t l i h = get_d-tab 0 32 (λ j. held_at t j + digit (ltb 0 (held_by l j))) i h

epochs-added : (t : Tally) (l : List Schedule) → (added t l).epochs ≡ t.epochs + 1
unfolding added
epochs-added t l = refl

total-added : (t : Tally) (l : List Schedule) → (added t l).total ≡ t.total + claimed l
unfolding added
total-added t l = refl

pub added-valid : (t : Tally) (l : List Schedule) → Valid t → t.epochs < top_epochs → Valid (added t l)
added-valid t l v h =
    let e = epochs-added t l in
    record {
      epochs = omega arith;
      held = λ i k.
          let a = held-added t l i k in
          let b = v.held i k in
          let d = digit-le (ltb 0 (held_by l i)) in
          omega arith;
      slots = λ i k.
          let a = held-added t l i k in
          let b = slots-added t l i k in
          let d = v.slots i k in
          let f = some-held (held_by l i) (how_many-le 80 (λ m. claims l m i)) in
          omega arith;
      total =
          let a = total-added t l in
          let b = by-nodes l in
          let d = sum-add 32 (slots_at t) (held_by l) in
          let f = sum-ext 32 (slots_at (added t l)) (λ i. slots_at t i + held_by l i) (slots-added t l) in
          let g = v.total in
          omega arith;
    }

pub first-valid : tally_ok first_tally ≡ true
unfolding tally_ok all_below sum
first-valid = refl

pub not_full : (t : Tally) → Valid t → not (tally_full t) ≡ true → t.epochs < top_epochs
not_full t v e =
    let a = v.epochs in
    let b = eqb-false _ _ (not-true (tally_full t) e) in
    same_or_not t.epochs top_epochs (λ z. absurd (b z)) (λ z. omega (arith, z))

-- an epoch keeps it valid
pub counted-valid : (t : Tally) (l : List Schedule) → tally_ok t ≡ true → tally_ok (epoch_counted t l) ≡ true
unfolding epoch_counted
counted-valid t l e =
    by-test (λ (x : Tally). tally_ok x ≡ true) (tally_ok t && not (tally_full t)) (added t l) t
    (λ f. valid-ok _ (added-valid t l (valid t e) (not_full t (valid t e) (and_right (tally_ok t) _ f))))
    (λ f. e)

-- and counts it, up to 100,000
pub counted-epochs : (t : Tally) (l : List Schedule) → tally_ok t ≡ true → (epoch_counted t l).epochs ≡ min (t.epochs + 1) top_epochs
unfolding epoch_counted
counted-epochs t l e =
    by-test (λ (x : Tally). x.epochs ≡ min (t.epochs + 1) top_epochs) (tally_ok t && not (tally_full t)) (added t l) t
    (λ f. let a = epochs-added t l in let b = not_full t (valid t e) (and_right (tally_ok t) _ f) in omega arith)
    (λ f. let a = eqb-true t.epochs top_epochs (not-false (tally_full t) (and-rest (tally_ok t) _ f e)) in omega arith)

-- counted by nodes: from the numbers of slots that the schedules give
module _ (t : Tally) (l : List Schedule) where
  number : (i : ℕ) → i < 32 → get_or (tab 32 (held_by l)) i 0 ≡ held_by l i
  number i h = get_d-tab 0 32 (held_by l) i h

  added-by : added_by t (tab 32 (held_by l)) ≡ added t l
  unfolding added_by added
  added-by =
      let s = sum-ext 32 (λ i. get_or (tab 32 (held_by l)) i 0) (held_by l) number ∙ sym (by-nodes l) in
      let p = tab-ext 32 (λ i. slots_at t i + get_or (tab 32 (held_by l)) i 0) (λ i. slots_at t i + held_by l i)
      (λ i h. ap (λ (x : ℕ). slots_at t i + x) (number i h)) in
      let q = tab-ext 32 (λ i. held_at t i + digit (ltb 0 (get_or (tab 32 (held_by l)) i 0)))
      (λ i. held_at t i + digit (ltb 0 (held_by l i))) (λ i h. ap (λ (x : ℕ). held_at t i + digit (ltb 0 x)) (number i h)) in
      λ i. record { epochs = t.epochs + 1; total = t.total + s i; slots = p i; held = q i }

  pub counted-by : counted_by t (tab 32 (held_by l)) ≡ epoch_counted t l
  unfolding counted_by epoch_counted
  counted-by = ap (λ (x : Tally). cond (tally_ok t && not (tally_full t)) x t) added-by
