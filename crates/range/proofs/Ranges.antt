-- The ranges of a node, taken apart and put together again.
-- Assumes nothing.
use mathlib.Core.Path.{◌≡◌, sym, ap, ◌∙◌}
use mathlib.Core.Bool.{Bool, true, false, not, ◌&&◌, ◌||◌}
use Prim.Native.Nat.{◌^◌, ◌≤◌, ◌<◌}
use borrow.Author.Tests.{leb-true, ltb-true, eqb-true, not-true, le-leb, lt-ltb, eq-eqb}
use lib.Dec.{eqb, leb, ltb}
use Rattle.words.specs.Bits.{is_in, is_inside}
use Rattle.words.proofs.Tests.{never}
use Rattle.words.proofs.Tests.{implied, imply, both, and_left, and_right}
use Rattle.lists.specs.All.{bounded, same}
use Rattle.lists.proofs.Laws.{same-eq, same_refl}
use Rattle.allotment.specs.Allotment.{top_request}
use Rattle.membership.specs.requests.Requests.{entry_of, requests_within, no_requests}
use Rattle.node.specs.Figures.{top_version, config_ok, is_node, negotiates, is_waiting}
use Rattle.node.specs.Close.{lapsed}
use Rattle.node.proofs.Bounds.{Bounds, bounds, in_bounds}
use Rattle.range.specs.Range.{schedule_ok, round_ok, round_lapsed, closes_seen, epoch_ok, waiting_ok, phase_ok, in_range}
use Rattle.node.specs.declared.Setup.{Setup}
use Rattle.node.specs.declared.Round.{Round}
use Rattle.node.specs.Model.{Node}
use Rattle.node.specs.declared.Phase.{Phase}
use Rattle.node.proofs.Phases.{by_tests, in-waiting, in-negotiation}

-- The figures

pub record Setting (s : Setup) : Type 0 where
  pub bounds : Bounds s.config
  pub node-from : 1 ≤ s.node
  pub node-to : s.node ≤ s.config.nodes

pub setting : (s : Setup) → config_ok s.config ≡ true → is_node s ≡ true → Setting s
setting s h k =
    record {
      bounds = bounds s.config h;
      node-from = leb-true _ _ (and_left (leb 1 s.node) (leb s.node s.config.nodes) k);
      node-to = leb-true _ _ (and_right (leb 1 s.node) (leb s.node s.config.nodes) k);
    }

pub set-config : (s : Setup) → Setting s → config_ok s.config ≡ true
set-config s t = in_bounds s.config t.bounds

pub set-node : (s : Setup) → Setting s → is_node s ≡ true
set-node s t = both (le-leb _ _ t.node-from) (le-leb _ _ t.node-to)

-- The epoch

pub record Epochs (n : Node) : Type 0 where
  pub place : n.epoch.place < n.setup.config.rounds
  pub counters : bounded n.epoch.counters n.setup.config.nodes (closes_seen n.phase n.epoch.place) ≡ true
  pub interactions : n.epoch.interactions < 2 ^ n.setup.config.nodes
  pub determined : schedule_ok n.epoch.determined n.epoch.updated n.setup ≡ true
  pub marked : n.epoch.updated ≡ true → n.version < top_version

pub epochs : (n : Node) → epoch_ok n ≡ true → Epochs n
unfolding epoch_ok
epochs n h =
    let p = ltb n.epoch.place n.setup.config.rounds in
    let c = bounded n.epoch.counters n.setup.config.nodes (closes_seen n.phase n.epoch.place) in
    let m = ltb n.epoch.interactions (2 ^ n.setup.config.nodes) in
    let d = schedule_ok n.epoch.determined n.epoch.updated n.setup in
    let v = ltb n.version top_version in
    let u = not n.epoch.updated || v in
    let h1 : ((c && m) && (d && u)) ≡ true = and_right p _ h in
    let h2 : (c && m) ≡ true = and_left (c && m) (d && u) h1 in
    let h3 : (d && u) ≡ true = and_right (c && m) (d && u) h1 in
    record {
      place = ltb-true _ _ (and_left p ((c && m) && (d && u)) h);
      counters = and_left c m h2;
      interactions = ltb-true _ _ (and_right c m h2);
      determined = and_left d u h3;
      marked = λ e.
          ltb-true _ _ (implied n.epoch.updated v (and_right d u h3) e);
    }

pub epoched : (n : Node) → Epochs n → epoch_ok n ≡ true
unfolding epoch_ok
epoched n e =
    both (lt-ltb _ _ e.place)
    (both (both e.counters (lt-ltb _ _ e.interactions))
    (both e.determined (imply n.epoch.updated (ltb n.version top_version) (λ u. lt-ltb _ _ (e.marked u)))))

-- The round in negotiation

pub record Negotiates (n : Node) : Type 0 where
  pub low : n.round.lowest ≤ n.version
  pub high : n.version ≤ n.round.highest
  pub top : n.round.highest ≤ top_version
  pub merged : n.round.merged < 2 ^ n.setup.config.nodes
  pub inside : is_inside n.flags n.round.merged ≡ true
  pub asked : requests_within n.round.known n.round.merged ≡ true
  pub own : entry_of n.round.known n.setup.node ≡ n.request
  pub heard : n.round.heard < 2 ^ n.setup.config.nodes

pub negotiating : (n : Node) → round_ok n ≡ true → Negotiates n
unfolding round_ok
negotiating n h =
    let a = leb n.round.lowest n.version in
    let b = leb n.version n.round.highest in
    let c = leb n.round.highest top_version in
    let d = ltb n.round.merged (2 ^ n.setup.config.nodes) in
    let e = is_inside n.flags n.round.merged in
    let f = requests_within n.round.known n.round.merged in
    let g = eqb (entry_of n.round.known n.setup.node) n.request in
    let k = ltb n.round.heard (2 ^ n.setup.config.nodes) in
    let h1 : (a && (b && c)) ≡ true = and_left (a && (b && c)) ((d && e) && ((f && g) && k)) h in
    let h2 : ((d && e) && ((f && g) && k)) ≡ true = and_right (a && (b && c)) ((d && e) && ((f && g) && k)) h in
    let h3 : (b && c) ≡ true = and_right a (b && c) h1 in
    let h4 : (d && e) ≡ true = and_left (d && e) ((f && g) && k) h2 in
    let h5 : ((f && g) && k) ≡ true = and_right (d && e) ((f && g) && k) h2 in
    let h6 : (f && g) ≡ true = and_left (f && g) k h5 in
    record {
      low = leb-true _ _ (and_left a (b && c) h1);
      high = leb-true _ _ (and_left b c h3);
      top = leb-true _ _ (and_right b c h3);
      merged = ltb-true _ _ (and_left d e h4);
      inside = and_right d e h4;
      asked = and_left f g h6;
      own = eqb-true _ _ (and_right f g h6);
      heard = ltb-true _ _ (and_right (f && g) k h5);
    }

pub negotiated : (n : Node) → Negotiates n → round_ok n ≡ true
unfolding round_ok
negotiated n r =
    both (both (le-leb _ _ r.low) (both (le-leb _ _ r.high) (le-leb _ _ r.top)))
    (both (both (lt-ltb _ _ r.merged) r.inside)
    (both (both r.asked (eq-eqb _ _ r.own)) (lt-ltb _ _ r.heard)))

-- The lapsed round has one form

pub lapses : (r : Round) → round_lapsed r ≡ true → r ≡ lapsed
unfolding round_lapsed
lapses r h =
    let a = eqb r.merged 0 in
    let b = eqb r.heard 0 in
    let c = eqb r.lowest 0 in
    let d = eqb r.highest 0 in
    let e = same r.known no_requests in
    let h1 : (a && b) ≡ true = and_left (a && b) ((c && d) && e) h in
    let h2 : ((c && d) && e) ≡ true = and_right (a && b) ((c && d) && e) h in
    let h3 : (c && d) ≡ true = and_left (c && d) e h2 in
    let m : r.merged ≡ 0 = eqb-true _ _ (and_left a b h1) in
    let y : r.heard ≡ 0 = eqb-true _ _ (and_right a b h1) in
    let l : r.lowest ≡ 0 = eqb-true _ _ (and_left c d h3) in
    let t : r.highest ≡ 0 = eqb-true _ _ (and_right c d h3) in
    let k : r.known ≡ no_requests = same-eq r.known no_requests (and_right (c && d) e h2) in
    λ i. record { merged = m i; known = k i; lowest = l i; highest = t i; heard = y i }

pub lapsed-ok : round_lapsed lapsed ≡ true
unfolding round_lapsed
lapsed-ok = same_refl no_requests

pub lapsed-is : (r : Round) → r ≡ lapsed → round_lapsed r ≡ true
lapsed-is r e = ap round_lapsed e ∙ lapsed-ok

-- A waiting node

pub record Waits (n : Node) : Type 0 where
  pub version : n.version ≡ 0
  pub request : n.request ≡ 0
  pub interactions : n.epoch.interactions ≡ 0
  pub updated : n.epoch.updated ≡ false
  pub round : n.round ≡ lapsed

pub waits : (n : Node) → waiting_ok n ≡ true → Waits n
unfolding waiting_ok
waits n h =
    let a = eqb n.version 0 in
    let b = eqb n.request 0 in
    let c = eqb n.epoch.interactions 0 in
    let d = not n.epoch.updated in
    let e = round_lapsed n.round in
    let h1 : (a && b) ≡ true = and_left (a && b) ((c && d) && e) h in
    let h2 : ((c && d) && e) ≡ true = and_right (a && b) ((c && d) && e) h in
    let h3 : (c && d) ≡ true = and_left (c && d) e h2 in
    record {
      version = eqb-true _ _ (and_left a b h1);
      request = eqb-true _ _ (and_right a b h1);
      interactions = eqb-true _ _ (and_left c d h3);
      updated = not-true n.epoch.updated (and_right c d h3);
      round = lapses n.round (and_right (c && d) e h2);
    }

pub waited : (n : Node) → Waits n → waiting_ok n ≡ true
unfolding waiting_ok
waited n w =
    both (both (eq-eqb _ _ w.version) (eq-eqb _ _ w.request))
    (both (both (eq-eqb _ _ w.interactions) (ap not w.updated)) (lapsed-is n.round w.round))

-- All of a node

pub record Ranges (n : Node) : Type 0 where
  pub setting : Setting n.setup
  pub version : n.version ≤ top_version
  pub schedule : schedule_ok n.schedule (ltb 0 n.version) n.setup ≡ true
  pub demand : n.demand ≤ top_request
  pub request : n.request ≤ top_request
  pub flags : n.flags < 2 ^ n.setup.config.nodes
  pub own : is_in n.flags n.setup.node ≡ true
  pub phase : phase_ok n.phase n ≡ true
  pub epoch : Epochs n

pub ranges : (n : Node) → in_range n ≡ true → Ranges n
unfolding in_range
ranges n h =
    let f = config_ok n.setup.config in
    let i = is_node n.setup in
    let v = leb n.version top_version in
    let s = schedule_ok n.schedule (ltb 0 n.version) n.setup in
    let d = leb n.demand top_request in
    let r = leb n.request top_request in
    let m = ltb n.flags (2 ^ n.setup.config.nodes) in
    let o = is_in n.flags n.setup.node in
    let p = phase_ok n.phase n in
    let e = epoch_ok n in
    let h1 : (f && i) ≡ true = and_left (f && i) ((v && s) && ((d && r) && ((m && o) && (p && e)))) h in
    let t1 : ((v && s) && ((d && r) && ((m && o) && (p && e)))) ≡ true = and_right (f && i)
    ((v && s) && ((d && r) && ((m && o) && (p && e)))) h in
    let h2 : (v && s) ≡ true = and_left (v && s) ((d && r) && ((m && o) && (p && e))) t1 in
    let t2 : ((d && r) && ((m && o) && (p && e))) ≡ true = and_right (v && s) ((d && r) && ((m && o) && (p && e))) t1 in
    let h3 : (d && r) ≡ true = and_left (d && r) ((m && o) && (p && e)) t2 in
    let t3 : ((m && o) && (p && e)) ≡ true = and_right (d && r) ((m && o) && (p && e)) t2 in
    let h4 : (m && o) ≡ true = and_left (m && o) (p && e) t3 in
    let h5 : (p && e) ≡ true = and_right (m && o) (p && e) t3 in
    record {
      setting = setting n.setup (and_left f i h1) (and_right f i h1);
      version = leb-true _ _ (and_left v s h2);
      schedule = and_right v s h2;
      demand = leb-true _ _ (and_left d r h3);
      request = leb-true _ _ (and_right d r h3);
      flags = ltb-true _ _ (and_left m o h4);
      own = and_right m o h4;
      phase = and_left p e h5;
      epoch = epochs n (and_right p e h5);
    }

pub ranged : (n : Node) → Ranges n → in_range n ≡ true
unfolding in_range
ranged n r =
    both (both (set-config n.setup r.setting) (set-node n.setup r.setting))
    (both (both (le-leb _ _ r.version) r.schedule)
    (both (both (le-leb _ _ r.demand) (le-leb _ _ r.request))
    (both (both (lt-ltb _ _ r.flags) r.own)
    (both r.phase (epoched n r.epoch)))))

-- By the phase

pub at-negotiation : (n : Node) → Ranges n → negotiates n.phase ≡ true → Negotiates n
at-negotiation n r h = negotiating n (sym (ap (λ (p : Phase). phase_ok p n) (in-negotiation n.phase h)) ∙ r.phase)

pub at-waiting : (n : Node) → Ranges n → is_waiting n.phase ≡ true → Waits n
at-waiting n r h = waits n (sym (ap (λ (p : Phase). phase_ok p n) (in-waiting n.phase h)) ∙ r.phase)

-- outside negotiation the round has lapsed
round-lapsed : (p : Phase) (n : Node) → negotiates p ≡ false → phase_ok p n ≡ true → n.round ≡ lapsed
round-lapsed p n = by_tests (λ (x : Phase) (w t s : Bool). t ≡ false → phase_ok x n ≡ true → n.round ≡ lapsed)
    (λ h k. (waits n k).round) (λ h k. never h) (λ s h k. lapses n.round k) p

pub at_rest : (n : Node) → Ranges n → negotiates n.phase ≡ false → n.round ≡ lapsed
at_rest n r h = round-lapsed n.phase n h r.phase

-- the counters, by the phase: in negotiation no C_e is above f, of a waiting node all are 0
pub counts-negotiating : (n : Node) → Ranges n → negotiates n.phase ≡ true
    → bounded n.epoch.counters n.setup.config.nodes n.epoch.place ≡ true
counts-negotiating n r h = sym (ap (λ (p : Phase). bounded n.epoch.counters n.setup.config.nodes (closes_seen p n.epoch.place))
    (in-negotiation n.phase h)) ∙ r.epoch.counters

pub counts-waiting : (n : Node) → Ranges n → is_waiting n.phase ≡ true → bounded n.epoch.counters n.setup.config.nodes 0 ≡ true
counts-waiting n r h = sym (ap (λ (p : Phase). bounded n.epoch.counters n.setup.config.nodes (closes_seen p n.epoch.place))
    (in-waiting n.phase h)) ∙ r.epoch.counters
