-- What each step of a node makes of the core that the stages speak of.
-- Assumes nothing.
use mathlib.Core.Path.{◌≡◌, refl, ap, ◌∙◌}
use mathlib.Core.Bool.{Bool, true, false, ◌||◌}
use Prim.Native.Nat.{ℕ}
use Rattle.words.proofs.Tests.{hit, skip}
use Rattle.node.specs.Figures.{is_last, successor, sending}
use Rattle.node.specs.Negotiation.{heard_node}
use Rattle.node.specs.Close.{repeats, updated_by, determined_by, due, closed_node}
use Rattle.node.specs.Distribution.{sent_by, taken_node}
use Rattle.node.specs.End.{ended_node}
use Rattle.node.specs.Steps.{wanted_node}
use Rattle.node.specs.Model.{Node}
use Rattle.node.specs.declared.Packet.{Packet}
use Rattle.node.proofs.Laws.{hears, wants, takes, closes-so, ends}
use Rattle.node.proofs.Made.{carries}
use Rattle.agreement.proofs.Stages.{Core, core_of}

-- another demand changes nothing of it
pub want-core : (n : Node) (d : ℕ) → core_of (wanted_node n d) ≡ core_of n
want-core n d = let h = wants n d in λ j. record {
  v = h.version j;
  S = h.schedule j;
  req = h.request j;
  Ie = (h.epoch j).interactions;
  upd = (h.epoch j).updated;
  new = (h.epoch j).determined;
}

-- with other nodes in I_e
abbrev pub with_met : Core → ℕ → Core
with_met n e = record { v = n.v; S = n.S; req = n.req; Ie = e; upd = n.upd; new = n.new }

pub hear-core : (n : Node) (q : Packet) → core_of (heard_node n q) ≡ with_met (core_of n) (heard_node n q).epoch.interactions
hear-core n q = let h = hears n q in λ j. record {
  v = h.version j;
  S = h.schedule j;
  req = h.request j;
  Ie = (heard_node n q).epoch.interactions;
  upd = h.updated j;
  new = h.determined j;
}

-- a node that takes has version and schedule of the sender
pub take-core : (n x : Node) → core_of (taken_node n (sent_by x))
    ≡ record {
      v = x.version;
      S = x.schedule;
      req = (taken_node n (sent_by x)).request;
      Ie = (taken_node n (sent_by x)).epoch.interactions;
      upd = (taken_node n (sent_by x)).epoch.updated;
      new = (taken_node n (sent_by x)).epoch.determined;
    }
take-core n x =
    let h = takes n (sent_by x) in
    let m = taken_node n (sent_by x) in
    let v = h.version ∙ (carries x).version in
    let S = h.schedule ∙ (carries x).schedule in
    λ j. record { v = v j; S = S j; req = m.request; Ie = m.epoch.interactions; upd = m.epoch.updated; new = m.epoch.determined }

-- an end that isn't the epoch's last changes nothing of it
pub end-core : (n : Node) → is_last n.setup.config n.epoch.place ≡ false → core_of (ended_node n) ≡ core_of n
end-core n l = let h = ends n l in λ j. record {
  v = h.version j;
  S = h.schedule j;
  req = h.request j;
  Ie = h.interactions j;
  upd = h.updated j;
  new = h.determined j;
}

-- a close that raises no version leaves version and schedule, with the mark that it has set
abbrev pub marked : Node → Core
marked n = record {
  v = n.version;
  S = n.schedule;
  req = n.request;
  Ie = n.epoch.interactions;
  upd = updated_by n;
  new = determined_by n;
}

module _ (n : Node) where
  pub stayed-core : due n ≡ false → core_of (closed_node n) ≡ marked n
  stayed-core d =
      let c = closes-so n in
      let v = c.version ∙ skip (due n) _ _ _ d refl in
      let S = c.schedule ∙ skip (due n) _ _ _ d refl in
      let r = c.request ∙ skip (due n) _ _ _ d refl in
      let u = c.updated ∙ skip (due n) _ _ _ d refl in
      let t = c.determined ∙ skip (due n) _ _ _ d refl in
      λ j. record { v = v j; S = S j; req = r j; Ie = c.interactions j; upd = u j; new = t j }

  pub stayed-sends : due n ≡ false → sending (closed_node n).phase ≡ repeats n
  stayed-sends d = ap sending (closes-so n).phase ∙ ap (λ (b : Bool). b || repeats n) d

  -- one that raises it takes the determined schedule, and sends it
  pub raised-core : due n ≡ true → core_of (closed_node n)
      ≡ record {
        v = successor n.version;
        S = determined_by n;
        req = (closed_node n).request;
        Ie = n.epoch.interactions;
        upd = (closed_node n).epoch.updated;
        new = (closed_node n).epoch.determined;
      }
  raised-core d =
      let c = closes-so n in
      let m = closed_node n in
      let v = c.version ∙ hit (due n) _ _ d in
      let S = c.schedule ∙ hit (due n) _ _ d in
      λ j. record { v = v j; S = S j; req = m.request; Ie = c.interactions j; upd = m.epoch.updated; new = m.epoch.determined }

  pub raised-sends : due n ≡ true → sending (closed_node n).phase ≡ true
  raised-sends d = ap sending (closes-so n).phase ∙ ap (λ (b : Bool). b || repeats n) d
