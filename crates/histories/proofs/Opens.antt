-- The site at a round's start: at loading, and after an accepted end.
-- Assumes nothing.
use mathlib.Core.Path.{◌≡◌, refl, sym, ap, ap₂, ◌∙◌, subst}
use mathlib.Core.Bool.{Bool, true, false, cond}
use mathlib.Core.List.{List}
use Prim.Native.Nat.{ℕ, ◌+◌}
use native.Mathlib.Omega.{arith}
use lib.Dec.{ltb}
use lib.ListN.{get_or, replicate}
use Rattle.words.proofs.Tests.{met?, clash, skip, by-test}
use Rattle.lists.specs.All.{tab}
use Rattle.lists.proofs.Every.{every-tab}
use Rattle.allotment.specs.Allotment.{free}
use Rattle.node.specs.Figures.{is_last, negotiates}
use Rattle.node.specs.End.{ended_node}
use Rattle.node.specs.Model.{Epoch}
use Rattle.node.specs.declared.Packet.{Packet}
use Rattle.node.proofs.Laws.{Begun, begins, end-begun}
use Rattle.node.proofs.Made.{JustOpened, just-opened}
use Rattle.node.proofs.Ended.{end-opened}
use Rattle.site.specs.Members.{nobody, is_live, with_node}
use Rattle.site.specs.Load.{loaded_site, loaded_member}
use Rattle.site.specs.Steps.{end_member, ended_site}
use Rattle.node.specs.declared.Setup.{Setup}
use Rattle.node.specs.declared.Config.{Config}
use Rattle.site.specs.declared.Table.{Table}
use Rattle.site.specs.Counts.{packets}
use Rattle.site.specs.Model.{Member}
use Rattle.site.specs.Model.{Site}
use Rattle.site.proofs.Counts.{packets-none}
use Rattle.site.proofs.Steps.{member-ended, ended-up, ended-down}
use Rattle.histories.proofs.Tests.{either}
use Rattle.histories.proofs.Members.{member, awake, down}
use Rattle.histories.proofs.Steady.{Steady, rests}
use Rattle.histories.proofs.Sound.{Sound}

-- the site at a round's start: in negotiation, without a packet, each live node in a round just opened, and at an epoch's start without a
-- mark or a counter
pub record Opens (b : Site) : Type 0 where
  pub talks : b.negotiates ≡ true
  pub none : packets b.sent ≡ 0
  pub round : (i : ℕ) → is_live (member b i) ≡ true → JustOpened (member b i).node
  pub mark : b.place ≡ 0 → (i : ℕ) → is_live (member b i) ≡ true → (member b i).node.epoch.updated ≡ false
  pub counters : b.place ≡ 0 → (i : ℕ) → is_live (member b i) ≡ true → (member b i).node.epoch.counters ≡ replicate 32 0

-- of one member; `first` where the round is its epoch's first
record Op (first : Bool) (m : Member) : Type 0 where
  round : is_live m ≡ true → JustOpened m.node
  mark : first ≡ true → is_live m ≡ true → m.node.epoch.updated ≡ false
  counters : first ≡ true → is_live m ≡ true → m.node.epoch.counters ≡ replicate 32 0

op-begun : {first : Bool} (m : Member) → Begun m.node → Op first m
op-begun m b = record {
  round = λ _. just-opened m.node b.round;
  mark = λ _ _. ap (λ (e : Epoch). e.updated) b.epoch;
  counters = λ _ _. ap (λ (e : Epoch). e.counters) b.epoch;
}

op-other : {first : Bool} (m : Member) → is_live m ≡ false → Op first m
op-other m e = record { round = λ l. clash (is_live m) l e; mark = λ _ l. clash (is_live m) l e; counters = λ _ l. clash (is_live m) l e }

op-at : {first : Bool} {m n : Member} → m ≡ n → Op first n → Op first m
op-at e h = rw e h

-- after an end that isn't the epoch's last
op-round : {first : Bool} (m : Member) → first ≡ false → Op first (with_node m (ended_node m.node))
op-round {first} m e = record {
  round = λ l. end-opened m.node (awake (with_node m (ended_node m.node)) l);
  mark = λ y. clash first y e;
  counters = λ y. clash first y e;
}

pub opens-end : {s : Site} {area : List ℕ} {air : List Packet} → Sound s area air → s.negotiates ≡ false → Opens (ended_site s)
unfolding ended_site
opens-end {s} sound t = record {
  talks = refl;
  none = packets-none;
  round = λ i. rw (member-ended s i) (ops i).round;
  mark = λ e i. rw (member-ended s i) ((ops i).mark (first e));
  counters = λ e i. rw (member-ended s i) ((ops i).counters (first e));
}
  where
    l : Bool
    l = is_last s.config s.place

    first : cond l 0 (s.place + 1) ≡ 0 → l ≡ true
    first e = either (met? l) (λ y. y) (λ y. absurd (omega (arith, sym (skip l 0 (s.place + 1) _ y refl) ∙ e)))

    ops : (i : ℕ) → Op l (end_member (member s i))
    ops i = either (met? m.up)
        (λ u.
        let st = (sound.each i).up u in
        let quiet : negotiates m.node.phase ≡ false = rests (subst (λ (b : Bool). Steady s.config b s.place i m.node) t st) in
        let last : is_last m.node.setup.config m.node.epoch.place ≡ l =
        ap₂ is_last (ap (λ (s : Setup). s.config) st.setup) st.place in
        op-at (ended-up m u quiet) (either (met? l) (λ y. op-begun (with_node m (ended_node m.node)) (end-begun m.node (last ∙ y)))
        (λ y. op-round m y)))
        (λ u. op-at (ended-down m u) (op-other m (down m u)))
      where
        m : Member
        m = member s i

pub opens-load : (f : Config) (t : Table) → Opens (loaded_site f t)
unfolding loaded_site loaded_member
opens-load f t = record {
  talks = refl;
  none = packets-none;
  round = λ i. (ops i).round;
  mark = λ e i. (ops i).mark refl;
  counters = λ e i. (ops i).counters refl;
}
  where
    ops : (i : ℕ) → Op true (get_or (tab 32 (loaded_member f t)) i nobody)
    ops i = every-tab (λ _ m. Op true m) nobody 32 (loaded_member f t)
        (λ i. by-test (Op true) (ltb i f.nodes) _ _ (λ e. op-begun _ (begins _ _ free _ _ _)) (λ e. op-other _ refl))
        (λ i. op-other nobody refl) i
