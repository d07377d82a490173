-- What a live node holds as the epoch after a determination begins: the last end keeps a version other than 0 only for nodes of Q, for
-- those that took from it, and for nobody else.
-- Assumes nothing.
use mathlib.Core.Path.{◌≡◌, sym, ap, ◌∙◌}
use mathlib.Core.Bool.{true, false}
use mathlib.Core.Logic.{◌⊎◌, inl, inr}
use mathlib.Core.List.{List, Memᴰ}
use Prim.Native.Nat.{ℕ, suc, ◌+◌}
use native.Mathlib.Omega.{arith}
use Rattle.words.proofs.Tests.{met?}
use Rattle.allotment.specs.Allotment.{free}
use Rattle.allotment.specs.Model.{Schedule}
use Rattle.node.specs.Figures.{is_last}
use Rattle.node.specs.End.{expires, ended_node}
use Rattle.node.specs.Model.{Node}
use Rattle.node.specs.declared.Packet.{Packet}
use Rattle.node.proofs.Ended.{end-rejoins, end-expires, end-keeps}
use Rattle.site.specs.Members.{is_live}
use Rattle.site.specs.Steps.{ended_site}
use Rattle.node.specs.declared.Config.{Config}
use Rattle.site.specs.Model.{Site}
use Rattle.site.proofs.Steps.{member-ended}
use Rattle.histories.specs.Past.{Determination, Past}
use Rattle.histories.proofs.Tests.{either}
use Rattle.histories.proofs.Sets.{in?}
use Rattle.histories.proofs.Members.{member}
use Rattle.histories.proofs.Steady.{Steady, steady-last}
use Rattle.histories.proofs.Sound.{Sound}
use Rattle.agreement.specs.Succession.{NoClash, Heir}
use Rattle.agreement.proofs.Members.{each_at}
use Rattle.agreement.proofs.Stages.{Compat, Stage, idle, rep, dec, fin, core_of, Cond, Glob}
use Rattle.agreement.proofs.Invariant.{Matches, Inv}
use Rattle.agreement.proofs.Ends.{kept-meets, end-each, sits, ending}

-- by version and schedule alone
abbrev Left : Determination → ℕ → Schedule → Type 0
Left d v S = ((v ≡ 0) × (S ≡ free)) ⊎ (((v + 1 ≡ d.version) × NoClash S d.schedule) ⊎ ((v ≡ d.version) × (S ≡ d.schedule)))

one_below : {v w x : ℕ} → v ≡ x → w ≡ suc x → v + 1 ≡ w
one_below e m = omega arith

-- the schedule of the version just below
no-clash : (sch : ℕ → Schedule) (S U new : Schedule) (v x : ℕ) → S ≡ sch v → v ≡ x → U ≡ new → Compat (sch x) new → NoClash S U
no-clash sch S U new v x s e u c = rw (s ∙ ap sch e, u) (record { same = c.same })

module _ {f : Config} {here : ℕ} (M : ℕ → ℕ) (w : ℕ) (sch : ℕ → Schedule) (none : sch 0 ≡ free) (i : ℕ) (n : Node) (whole : f.split ≡ 0)
    (st : Steady f false here i n) (e : expires n ≡ false) where
  -- a node that keeps its schedule, by the stage of the epoch: outside Q and tied to it from outside it would have expired
  heir-stage : (g : Stage) → Glob M w sch f g → (d : Determination) → Matches g d → Cond M w sch g i (core_of n)
      → Left d n.version n.schedule
  heir-stage idle G d m C = absurd m
  heir-stage (rep Q x s) G d m C = absurd m
  heir-stage (dec Q x rq new) G d m C = either (in? Q i)
      (λ h. below (C.ver h))
      (λ h. either C.tied (λ t. absurd (kept-meets M Q i n whole st e G.is_q t h)) below)
    where
      below : n.version ≡ x → Left d n.version n.schedule
      below z = inr (inl (
        one_below z m.version,
        no-clash sch n.schedule d.schedule new n.version x C.fine.sched z
            m.sched G.comp,
      ))
  heir-stage (fin Q x new) G d m C = either C.right
      (λ t. absurd (kept-meets M Q i n whole st e G.is_q t.0 t.1))
      (λ t. either t
      (λ r. either r.0
      (λ z. inl (z, r.1 ∙ ap sch z ∙ none))
      (λ z. inr (inl (one_below z m.0, no-clash sch n.schedule d.schedule new n.version x r.1 z m.1 G.comp))))
      (λ r. inr (inr (r.0 ∙ sym m.0, r.1 ∙ sym m.1))))

-- who waited or expires begins at version 0
heir-zero : (d : Determination) (m : Node) → (m.version ≡ 0) × (m.schedule ≡ free) → Heir d m
heir-zero d m k = record { is = inl k }

-- any other keeps what it had
heir-kept : (d : Determination) (n m : Node) → (m.version ≡ n.version) × (m.schedule ≡ n.schedule) → Left d n.version n.schedule
    → Heir d m
heir-kept d n m k L = record { is = rw (k.0, k.1) L }

-- after the last end of an epoch in which d was determined
pub heirs : {past : Past} {s : Site} {area : List ℕ} {air : List Packet} → Sound s area air → Inv past s → s.negotiates ≡ false
    → is_last s.config s.place ≡ true
    → (d : Determination) → Memᴰ d past.log → d.epoch ≡ past.epoch → (i : ℕ) → is_live (member (ended_site s) i) ≡ true
    → Heir d (member (ended_site s) i).node
heirs {past} {s} h I e l d mem ep i live =
    let n = (member s i).node in
    (each_at {P = λ i m. Heir d m} {i = i} (member-ended s i) (end-each i (member s i) (sits h I e i) (ending h I e i)
    (λ st y A.
    let k = steady-last st ∙ l in
    either (met? (expires n)) (λ x. heir-zero d (ended_node n) (end-expires n k y x))
    (λ x. heir-kept d n (ended_node n) (end-keeps n k y x) (heir-stage I.M I.w I.sch I.none i n I.whole st x I.g I.glob
    d (I.now d mem ep) A.stage)))
    (λ st y. record { live = λ _. heir-zero d (ended_node n) (end-rejoins n (steady-last st ∙ l) y) }))).live live
