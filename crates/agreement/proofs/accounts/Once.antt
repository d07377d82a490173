-- In negotiation no slot has two claimants: by the agreement of schedules.
-- Assumes nothing.
use mathlib.Core.Path.{◌≡◌, refl, sym, ap, ap₂, ◌∙◌, subst}
use mathlib.Core.Bool.{Bool, true, false}
use mathlib.Core.List.{List}
use Prim.Native.Nat.{ℕ, zero, suc, ◌+◌, ◌-◌, ◌≤◌, ◌<◌}
use native.Mathlib.Omega.{arith}
use borrow.Author.Tests.{eqb-true}
use lib.ListN.{get_or}
use Rattle.words.specs.Bits.{digit, how_many}
use Rattle.words.proofs.Tests.{is_false, and_left, hit, skip}
use Rattle.words.proofs.Counts.{how_many-none, how_many-suc}
use Rattle.lists.proofs.Laws.{get_d-tab, get_d-zeros}
use Rattle.allotment.specs.Allotment.{owner_of, owners_of, schedule_of, no_schedule, free}
use Rattle.allotment.specs.Model.{Schedule}
use Rattle.range.proofs.Laws.{zero-free}
use Rattle.node.specs.Answers.{Done}
use Rattle.site.specs.Members.{nobody, member_at, is_live}
use Rattle.site.specs.Load.{load_answer}
use Rattle.site.specs.Run.{run}
use Rattle.node.specs.declared.Config.{Config}
use Rattle.site.specs.Model.{Member}
use Rattle.site.specs.declared.Table.{Table}
use Rattle.site.specs.Model.{Site}
use Rattle.site.specs.declared.Event.{Event}
use Rattle.agreement.specs.Demand.{Agreement}
use Rattle.histories.specs.Reached.{begin}
use Rattle.agreement.proofs.Theorem.{holds}
use Rattle.histories.proofs.Always.{always}
use Rattle.tally.specs.Claims.{claims, claimants}
use Rattle.tally.specs.Ends.{own_schedule, schedules_of}
use Rattle.agreement.specs.accounts.Accounts.{ClaimedOnce}

-- at most one of n has p, if any two that have it are the same
pub none_of : (n : ℕ) (p : ℕ → Bool) → ((i : ℕ) → i < n → p i ≡ false) → how_many n p ≡ 0
none_of zero p e = how_many-none p
none_of (suc n) p e = how_many-suc p n ∙ ap₂ (λ (b : Bool) (x : ℕ). digit b + x) (e n (omega arith)) (none_of n p (λ i l. e i (omega arith)))

at_most_one : (n : ℕ) (p : ℕ → Bool) → ((i j : ℕ) → i < n → j < n → p i ≡ true → p j ≡ true → i ≡ j) → how_many n p ≤ 1
at_most_one zero p e = omega (arith, how_many-none p)
at_most_one (suc n) p e = go (at_most_one n p (λ i j k l. e i j (omega arith) (omega arith))) (p n) refl
  where
    go : how_many n p ≤ 1 → (b : Bool) → p n ≡ b → how_many (suc n) p ≤ 1
    go r true t =
        let z = none_of n p (λ i l. is_false (p i) (λ y. omega (arith, e i n (omega arith) (omega arith) y t))) in
        let d : digit (p n) ≡ 1 = ap digit t in
        omega (arith, how_many-suc p n)
    go r false t =
        let d : digit (p n) ≡ 0 = ap digit t in
        omega (arith, how_many-suc p n)

free-owner : (k : ℕ) → owner_of free k ≡ 0
unfolding owner_of owners_of schedule_of
free-owner k = get_d-zeros 80 k

-- a claimant is live, and its own schedule gives it the slot
record Claim (m : Member) (k j : ℕ) : Type 0 where
  live : is_live m ≡ true
  owns : owner_of m.node.schedule k ≡ j

claim-of : (m : Member) (k i : ℕ) → owner_of (own_schedule m) k ≡ i + 1 → Claim m k (i + 1)
claim-of m k i e = go (is_live m) refl
  where
    go : (b : Bool) → is_live m ≡ b → Claim m k (i + 1)
    go true l = record { live = l; owns = ap (λ (s : Schedule). owner_of s k) (sym (hit _ _ _ l)) ∙ e }
    go false l = absurd (omega
        (arith, e, ap (λ (s : Schedule). owner_of s k) (skip (is_live m) m.node.schedule free free l refl), free-owner k))

claim-at : (s : Site) (k i : ℕ) → i < 32 → claims (schedules_of s) k i ≡ true → Claim (get_or s.members i nobody) k (i + 1)
unfolding schedules_of
claim-at s k i l e =
    claim-of (get_or s.members i nobody) k i
    (ap (λ (x : Schedule). owner_of x k) (sym (get_d-tab no_schedule 32 (λ j. own_schedule (get_or s.members j nobody)) i l)) ∙ eqb-true _ _ e)

-- versions above 0 at the claimants, and agreement
pub claimed-once : (s : Site) → Agreement s
    → ((i k : ℕ) → is_live (get_or s.members i nobody) ≡ true → owner_of (get_or s.members i nobody).node.schedule k ≡ i + 1
    → 0 < (get_or s.members i nobody).node.version)
    → ClaimedOnce s
claimed-once s A above k = at_most_one 32 (claims (schedules_of s) k) both
  where
    both : (i j : ℕ) → i < 32 → j < 32 → claims (schedules_of s) k i ≡ true → claims (schedules_of s) k j ≡ true → i ≡ j
    both i j li lj x y =
        let p = claim-at s k i li x in
        let q = claim-at s k j lj y in
        let at : (m : ℕ) → m ≡ m + 1 - 1 = λ m. omega arith in
        let on : (m : ℕ) → get_or s.members m nobody ≡ member_at s (m + 1) = λ m. ap (λ (n : ℕ). get_or s.members n nobody) (at m) in
        let vi = subst (λ (m : Member). 0 < m.node.version) (on i) (above i k p.live p.owns) in
        let vj = subst (λ (m : Member). 0 < m.node.version) (on j) (above j k q.live q.owns) in
        let oi = subst (λ (m : Member). owner_of m.node.schedule k ≡ i + 1) (on i) p.owns in
        let oj = subst (λ (m : Member). owner_of m.node.schedule k ≡ j + 1) (on j) q.owns in
        let e = (A (i + 1) (j + 1) (ap is_live (sym (on i)) ∙ p.live) (ap is_live (sym (on j)) ∙ q.live) vi vj).slots k
        (λ z. omega (arith, oi, z)) (λ z. omega (arith, oj, z)) in
        omega (arith, oi, oj, e)

-- after any list of events from a site just loaded
pub once : (f : Config) (t : Table) → load_answer f t ≡ Done → f.split ≡ 0 → (area : List ℕ) (es : List Event)
    → (run (begin f t area) es).site.negotiates ≡ true → ClaimedOnce (run (begin f t area) es).site
once f t d u area es g = claimed-once s ((holds.demand3 f t d u area es).agreement g) above
  where
    s : Site
    s = (run (begin f t area) es).site

    above : (i k : ℕ) → is_live (get_or s.members i nobody) ≡ true → owner_of (get_or s.members i nobody).node.schedule k ≡ i + 1
        → 0 < (get_or s.members i nobody).node.version
    above i k l e = go (get_or s.members i nobody).node.version refl
      where
        go : (x : ℕ) → (get_or s.members i nobody).node.version ≡ x → 0 < x
        go zero z =
            let st = ((always f t d area es).sound.each i).up (and_left _ _ l) in
            absurd (omega (arith, e, ap (λ (x : Schedule). owner_of x k) (zero-free _ st.range st.long z), free-owner k))
        go (suc x) z = omega arith
