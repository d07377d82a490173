-- A node in step with its site: within the ranges, of the site's figures, at its place and in its phase. Each step keeps it so.
-- Assumes nothing.
use mathlib.Core.Path.{◌≡◌, refl, sym, ap, ap₂, ◌∙◌, subst}
use mathlib.Core.Bool.{Bool, true, false, not, cond, ◌&&◌}
use Prim.Native.Nat.{ℕ, suc, ◌+◌, ◌^◌, ◌≤◌, ◌<◌}
use native.Mathlib.Omega.{arith}
use lib.Dec.{leb}
use lib.ListN.{length}
use Rattle.words.proofs.Tests.{never, hit, skip}
use Rattle.allotment.specs.Allotment.{top_request, owners_of, free}
use Rattle.allotment.specs.Model.{Schedule}
use Rattle.node.specs.Figures.{is_last, is_waiting, negotiates}
use Rattle.node.specs.Negotiation.{heard_node, hear_answer}
use Rattle.node.specs.Close.{closed_node}
use Rattle.node.specs.Distribution.{sent_by, taken_node, take_answer}
use Rattle.node.specs.End.{ended_node}
use Rattle.node.specs.Begin.{starting, waiting, start_answer, restart_answer}
use Rattle.node.specs.Steps.{wanted_node}
use Rattle.range.specs.Range.{in_range}
use Rattle.node.specs.declared.Setup.{Setup}
use Rattle.node.specs.Model.{Epoch}
use Rattle.node.specs.Model.{Node}
use Rattle.node.specs.declared.Packet.{Packet}
use Rattle.node.specs.declared.Phase.{Phase}
use Rattle.node.specs.declared.Phase.TheVariants.{Waiting, Negotiation}
use Rattle.node.specs.Answers.{Done}
use Rattle.range.proofs.Ranges.{ranges}
use Rattle.range.proofs.Keeps as keep
use Rattle.range.proofs.Lengths.{Lengths, long-start, long-restart, long-hear, long-close, long-take, long-end, long-want}
use Rattle.node.proofs.Laws as law
use Rattle.node.proofs.Made.{carries, given, restarted}
use Rattle.node.proofs.Phases.{by_tests}
use Rattle.range.proofs.Laws as ranged
use Rattle.site.specs.Members.{setup_of}
use Rattle.node.specs.declared.Config.{Config}

-- the node at index i of a site with figures f, in the phase `talk` and at the place p of the epoch: within the ranges, and in step with
-- the site
pub record Steady (f : Config) (talk : Bool) (p i : ℕ) (n : Node) : Type 0 where
  pub setup : n.setup ≡ setup_of f (i + 1)
  pub range : in_range n ≡ true
  pub long : Lengths n
  pub place : n.epoch.place ≡ p
  pub phase : is_waiting n.phase ≡ false → negotiates n.phase ≡ talk

-- what that says of the node's number and index, of the last round, and of I_e
module _ {f : Config} {talk : Bool} {p i : ℕ} {n : Node} (s : Steady f talk p i n) where
  pub steady-setup : n.setup ≡ setup_of f (suc i)
  steady-setup = let z : i + 1 ≡ suc i = omega arith in s.setup ∙ ap (setup_of f) z

  pub steady-number : n.setup.node ≡ suc i
  steady-number = ap (λ (x : Setup). x.node) steady-setup

  pub steady-last : is_last n.setup.config n.epoch.place ≡ is_last f p
  steady-last = ap₂ is_last (ap (λ (s : Setup). s.config) s.setup) s.place

  pub steady-index : i < f.nodes
  steady-index = let k : n.setup.config.nodes ≡ f.nodes = ap (λ (x : Setup). x.config.nodes) s.setup in omega
      (arith, steady-number, (ranges n s.range).setting.node-to)

  pub steady-small : f.nodes ≤ 32
  steady-small = let k : n.setup.config.nodes ≡ f.nodes = ap (λ (x : Setup). x.config.nodes) s.setup in omega
      (arith, (ranges n s.range).setting.bounds.nodes-to)

  pub steady-met : n.epoch.interactions < 2 ^ f.nodes
  steady-met = subst (λ (x : ℕ). n.epoch.interactions < 2 ^ x) (ap (λ (x : Setup). x.config.nodes) s.setup)
      (ranges n s.range).epoch.interactions

-- a waiting node doesn't look at the phase
pub steady-waits : {f : Config} {talk other : Bool} {p i : ℕ} {n : Node} → Steady f talk p i n → is_waiting n.phase ≡ true
    → Steady f other p i n
steady-waits s w = record { setup = s.setup; range = s.range; long = s.long; place = s.place; phase = λ e. never (sym w ∙ e) }

pub steady-hear : {f : Config} {talk : Bool} {p i : ℕ} {n : Node} (q : Packet) → Steady f talk p i n → hear_answer n q ≡ Done
    → keep.PacketRanges q f.nodes → Steady f talk p i (heard_node n q)
steady-hear {f} {talk} {p} {i} {n} q s d o =
    let h = law.hears n q in
    record {
      setup = h.setup ∙ s.setup;
      range = keep.keeps-hear n q s.range d (subst (λ (x : Setup). keep.PacketRanges q x.config.nodes) (sym s.setup) o);
      long = long-hear n q s.long;
      place = h.place ∙ s.place;
      phase = λ w. ap negotiates h.phase ∙ s.phase (sym (ap is_waiting h.phase) ∙ w);
    }

pub steady-close : {f : Config} {p i : ℕ} {n : Node} → Steady f true p i n → is_waiting n.phase ≡ false
    → Steady f false p i (closed_node n)
steady-close {f} {p} {i} {n} s w =
    let h = law.closes-so n in
    record {
      setup = h.setup ∙ s.setup;
      range = keep.keeps-close n s.range (law.close-done n (s.phase w));
      long = long-close n s.long;
      place = h.place ∙ s.place;
      phase = λ _. ap negotiates h.phase;
    }

pub steady-take : {f : Config} {p i k : ℕ} {n m : Node} → Steady f false p i n → Steady f false p k m → take_answer n ≡ Done
    → Steady f false p i (taken_node n (sent_by m))
steady-take {f} {p} {i} {k} {n} {m} s o d =
    let q = sent_by m in
    let h = law.takes n q in
    record {
      setup = h.setup ∙ s.setup;
      range = keep.keeps-take n q s.range d (ranged.sent-version m o.range)
          (ranged.sent-schedule m n.setup o.range (ap (λ (x : Setup). x.config.nodes) s.setup
          ∙ sym (ap (λ (x : Setup). x.config.nodes) o.setup)) (ap (λ (x : Setup). x.config.slots) s.setup
          ∙ sym (ap (λ (x : Setup). x.config.slots) o.setup)));
      long = long-take n q s.long (ap (λ (x : Schedule). length (owners_of x)) (carries m).schedule ∙ o.long.schedule);
      place = h.place ∙ s.place;
      phase = λ w. ap negotiates h.phase ∙ s.phase (sym (ap is_waiting h.phase) ∙ w);
    }

pub rests : {f : Config} {p i : ℕ} {n : Node} → Steady f false p i n → negotiates n.phase ≡ false
rests {f} {p} {i} {n} s = by_tests (λ (x : Phase) (w t b : Bool). (w ≡ false → t ≡ false) → t ≡ false)
    (λ h. refl) (λ h. h refl) (λ b h. refl) n.phase s.phase

-- the place after an end
abbrev pub next_place : Config → ℕ → ℕ
next_place f p = cond (is_last f p) 0 (p + 1)

pub steady-end : {f : Config} {p i : ℕ} {n : Node} → Steady f false p i n → Steady f true (next_place f p) i (ended_node n)
steady-end {f} {p} {i} {n} s =
    record {
      setup = law.end-setup n ∙ s.setup;
      range = keep.keeps-end n s.range (law.end-done n (rests s));
      long = long-end n s.long;
      place = at (is_last n.setup.config n.epoch.place) refl;
      phase = λ w. ap negotiates (law.end-phase n) ∙ again (is_waiting n.phase && not (is_last n.setup.config n.epoch.place))
          (sym (ap is_waiting (law.end-phase n)) ∙ w);
    }
  where
    last : is_last n.setup.config n.epoch.place ≡ is_last f p
    last = ap₂ (λ (x : Setup) (y : ℕ). leb x.config.rounds (y + 1)) s.setup s.place

    at : (t : Bool) → is_last n.setup.config n.epoch.place ≡ t → (ended_node n).epoch.place ≡ next_place f p
    at true e = ap (λ (x : Epoch). x.place) (law.end-begun n e).epoch ∙ sym (hit (is_last f p) 0 (p + 1) (sym last ∙ e))
    at false e = (law.ends n e).place ∙ ap (λ (x : ℕ). x + 1) s.place
        ∙ sym (skip (is_last f p) 0 (p + 1) (p + 1) (sym last ∙ e) refl)

    again : (t : Bool) → is_waiting (cond t Waiting Negotiation) ≡ false → negotiates (cond t Waiting Negotiation) ≡ true
    again true w = never w
    again false w = refl

pub steady-want : {f : Config} {talk : Bool} {p i : ℕ} {n : Node} (d : ℕ) → Steady f talk p i n → d ≤ top_request
    → Steady f talk p i (wanted_node n d)
steady-want {f} {talk} {p} {i} {n} d s l =
    let h = law.wants n d in
    record {
      setup = h.setup ∙ s.setup;
      range = keep.keeps-want n d s.range l;
      long = long-want n d s.long;
      place = ap (λ (x : Epoch). x.place) h.epoch ∙ s.place;
      phase = λ w. ap negotiates h.phase ∙ s.phase (sym (ap is_waiting h.phase) ∙ w);
    }

pub steady-start : (f : Config) (i v flags demand : ℕ) → start_answer (setup_of f (i + 1)) v flags demand ≡ Done
    → Steady f true 0 i (starting (setup_of f (i + 1)) v flags demand)
steady-start f i v flags demand d =
    let h = law.begins (setup_of f (i + 1)) v free demand demand flags in
    record {
      setup = (given (setup_of f (i + 1)) v free demand demand flags).setup;
      range = keep.keeps-start (setup_of f (i + 1)) v flags demand d;
      long = long-start (setup_of f (i + 1)) v flags demand;
      place = ap (λ (x : Epoch). x.place) h.epoch;
      phase = λ _. ap negotiates h.phase;
    }

pub steady-restart : (f : Config) (talk : Bool) (i flags p : ℕ) → restart_answer (setup_of f (i + 1)) flags p ≡ Done
    → Steady f talk p i (waiting (setup_of f (i + 1)) flags p 0)
steady-restart f talk i flags p d =
    let h = restarted (setup_of f (i + 1)) flags p 0 in
    record {
      setup = h.setup;
      range = keep.keeps-restart (setup_of f (i + 1)) flags p 0 d (omega arith);
      long = long-restart (setup_of f (i + 1)) flags p 0;
      place = h.place;
      phase = λ w. never (sym (ap is_waiting h.phase) ∙ w);
    }
