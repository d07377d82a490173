-- Version 0 is never sent, and what each live node holds as the epoch after a determination begins: over every list of events.
-- Assumes nothing.
use mathlib.Core.Path.{◌≡◌, sym, ◌∙◌, subst}
use mathlib.Core.Bool.{true, false}
use mathlib.Core.Logic.{inl, inr}
use mathlib.Core.List.{List, Memᴰ}
use Prim.Native.Nat.{ℕ, ◌-◌, ◌<◌}
use native.Mathlib.Omega.{arith}
use Rattle.words.proofs.Tests.{met?, clash}
use Rattle.allotment.specs.Allotment.{free}
use Rattle.node.specs.Figures.{sending, negotiates}
use Rattle.node.specs.Model.{Node}
use Rattle.node.specs.declared.Packet.{Packet}
use Rattle.range.proofs.Laws.{sends-above, zero-free}
use Rattle.site.specs.Members.{member_at, is_live}
use Rattle.site.specs.Steps.{close_member, ended_site}
use Rattle.site.specs.Model.{Member}
use Rattle.site.specs.Model.{Site}
use Rattle.site.specs.declared.Event.TheVariants.{Close, End}
use Rattle.site.proofs.Accepted.{answered, close-accepted, end-accepted}
use Rattle.site.proofs.Steps.{accepted-is, member-closed, closed-live, closed-other}
use Rattle.histories.specs.Past.{Determination}
use Rattle.histories.specs.Reached.{reached, past_of, LiveAfter, node_after, EndsEpoch}
use Rattle.histories.proofs.Tests.{either}
use Rattle.histories.proofs.Sound.{Sound, end-sound}
use Rattle.histories.proofs.Members.{member, live-up, awake}
use Rattle.histories.proofs.Always as traces
use Rattle.agreement.specs.Succession.{Heir, FirstHeir, Succeeds}
use Rattle.agreement.proofs.Heirs.{heirs}
use Rattle.agreement.proofs.Theorem.{always}

-- a live member that sends has a version above 0
record Above (m : Member) : Type 0 where
  pub is : is_live m ≡ true → sending m.node.phase ≡ true → 0 < m.node.version

-- after its close each one does
closes-above : (s : Site) (area : List ℕ) (air : List Packet) → Sound s area air → s.negotiates ≡ true → (i : ℕ)
    → Above (close_member (member s i))
closes-above s area air h t i = either (met? (is_live m))
    (λ e.
    let o = (h.each i).up (live-up m e) in
    let p : negotiates m.node.phase ≡ true = o.phase (awake m e) ∙ t in
    subst Above (sym (closed-live m e p)) (record { is = λ l y. sends-above m.node o.range p y }))
    (λ e. subst Above (sym (closed-other m e)) (record { is = λ l y. clash (is_live m) l e }))
  where
    m : Member
    m = member s i

-- beside version 1 the version just below is 0
first-heir : (d : Determination) (n : Node) → d.version ≡ 1 → (n.version ≡ 0 → n.schedule ≡ free) → Heir d n → FirstHeir d n
first-heir d n e k h =
    record {
      is = either h.is inl
          (λ x. either x (λ y. let z : n.version ≡ 0 = omega (arith, y.0) in inl (z, k z)) (λ y. inr (y.0 ∙ e, y.1)));
    }

-- as an epoch begins, a live node at version 0 has all slots free
ends-free : (s : Site) (area : List ℕ) (air : List Packet) → Sound s area air → s.negotiates ≡ false → (j : ℕ)
    → is_live (member_at (ended_site s) j) ≡ true
    → (member_at (ended_site s) j).node.version ≡ 0 → (member_at (ended_site s) j).node.schedule ≡ free
ends-free s area air h t j l =
    let o = ((end-sound h t).each (j - 1)).up (live-up (member_at (ended_site s) j) l) in
    zero-free (member_at (ended_site s) j).node o.range o.long

-- the theorem
pub succeeds : Succeeds
succeeds =
    record {
      succession = λ f t d area es.
          let w = reached f t area es in
          let h = traces.always f t d area es in
          let heir : f.split ≡ 0 → EndsEpoch w → (x : Determination) → Memᴰ x (past_of f t area es).log
          → x.epoch ≡ (past_of f t area es).epoch → (j : ℕ) → LiveAfter w End j → Heir x (node_after w End j) =
          λ u k x m o. subst (λ (u : Site). (j : ℕ) → is_live (member_at u j) ≡ true → Heir x (member_at u j).node)
          (sym (accepted-is w.site w.area End k.accepted))
          (λ j. heirs h.sound (always f t d u area es).inv (end-accepted w.site (answered w.site w.area End k.accepted).1)
          k.last x m o (j - 1)) in
          record {
            above = λ k. subst (λ (u : Site). (j : ℕ) → is_live (member_at u j) ≡ true → sending (member_at u j).node.phase ≡ true
                → 0 < (member_at u j).node.version) (sym (accepted-is w.site w.area Close k))
                (λ j. (subst Above (sym (member-closed w.site (j - 1))) (closes-above w.site w.area h.air h.sound
                (close-accepted w.site (answered w.site w.area Close k).1) (j - 1))).is);
            heirs = heir;
            first = λ u k x m o v j l. first-heir x (node_after w End j) v
                (subst (λ (z : Site). is_live (member_at z j) ≡ true → (member_at z j).node.version ≡ 0 → (member_at z j).node.schedule ≡ free)
                (sym (accepted-is w.site w.area End k.accepted))
                (ends-free w.site w.area h.air h.sound (end-accepted w.site
                (answered w.site w.area End k.accepted).1) j) l)
                (heir u k x m o j l);
          };
    }
