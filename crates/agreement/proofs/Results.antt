-- What the invariant gives: agreement in negotiation, and what is determined.
-- Assumes nothing.
use mathlib.Core.Path.{◌≡◌, sym, ap, ◌∙◌}
use mathlib.Core.Bool.{true}
use mathlib.Core.Logic.{◌⊎◌, inl, inr}
use mathlib.Core.List.{Memᴰ}
use Prim.Native.Nat.{ℕ, suc, ◌-◌, ◌<◌}
use native.Mathlib.Omega.{arith}
use Rattle.words.proofs.Tests.{clash}
use Rattle.allotment.specs.Allotment.{owner_of}
use Rattle.allotment.specs.Model.{Schedule}
use Rattle.node.specs.Model.{Node}
use Rattle.site.specs.Members.{member_at, is_live}
use Rattle.site.specs.Model.{Site}
use Rattle.histories.specs.Past.{Determination, Past}
use Rattle.agreement.specs.Demand.{Agree, Agreement, Justified, SameDetermination}
use Rattle.agreement.proofs.Stages.{Compat, Fine}
use Rattle.agreement.proofs.Invariant.{Inv}
use Rattle.agreement.proofs.Ends.{fine_of}

-- two nodes of two neighbouring versions with their schedules agree
fine-agree : (w : ℕ) (sch : ℕ → Schedule) → Compat (sch w) (sch (suc w)) → (m n : Node) → 0 < m.version → 0 < n.version
    → Fine w sch m.version m.schedule → Fine w sch n.version n.schedule → Agree m n
fine-agree w sch C m n a b f g = go f.ver g.ver
  where
    eq : m.version ≡ n.version → m.schedule ≡ n.schedule
    eq e = f.sched ∙ ap sch e ∙ sym g.sched

    m-is : (v : ℕ) → m.version ≡ v → m.schedule ≡ sch v
    m-is v e = f.sched ∙ ap sch e

    n-is : (v : ℕ) → n.version ≡ v → n.schedule ≡ sch v
    n-is v e = g.sched ∙ ap sch e

    level-case : m.version ≡ n.version → Agree m n
    level-case e = record { near = (omega arith, omega arith); same = eq; slots = λ k p q. ap (λ (S : Schedule). owner_of S k) (eq e) }

    go : (m.version ≡ 0) ⊎ ((m.version ≡ w) ⊎ (m.version ≡ suc w)) → (n.version ≡ 0) ⊎ ((n.version ≡ w) ⊎ (n.version ≡ suc w))
        → Agree m n
    go (inl x) y = absurd (omega arith)
    go (inr x) (inl y) = absurd (omega arith)
    go (inr (inl x)) (inr (inl y)) = level-case (x ∙ sym y)
    go (inr (inr x)) (inr (inr y)) = level-case (x ∙ sym y)
    go (inr (inl x)) (inr (inr y)) = record {
      near = (omega arith, omega arith);
      same = eq;
      slots = rw (m-is w x, n-is (suc w) y) C.same;
    }
    go (inr (inr x)) (inr (inl y)) = record {
      near = (omega arith, omega arith);
      same = eq;
      slots = rw (m-is (suc w) x, n-is w y) (λ k p q. sym (C.same k q p));
    }

-- in negotiation nothing was adopted since the epoch's start, so each live node is fine
fine-at : (past : Past) (s : Site) (I : Inv past s) → s.negotiates ≡ true → (j : ℕ) → is_live (member_at s j) ≡ true
    → Fine I.w I.sch (member_at s j).node.version (member_at s j).node.schedule
fine-at past s I t j l = fine_of I.M I.w I.sch I.g (λ z. clash s.negotiates t (I.late z).0) (j - 1) (member_at s j).node
    ((I.each (j - 1)).live l).stage

pub agree : (past : Past) (s : Site) → Inv past s → s.negotiates ≡ true → Agreement s
agree past s I t i j li lj p q = fine-agree I.w I.sch I.comp (member_at s i).node (member_at s j).node p q
    (fine-at past s I t i li) (fine-at past s I t j lj)

pub justified : (past : Past) (s : Site) → Inv past s → (d : Determination) → Memᴰ d past.log → Justified s.config.nodes d
justified past s I d m = I.old.each d m

pub unique : (past : Past) (s : Site) → Inv past s → (d e : Determination) → Memᴰ d past.log → Memᴰ e past.log
    → d.epoch ≡ e.epoch → SameDetermination d e
unique past s I d e m n h = I.old.pair d e m n h
