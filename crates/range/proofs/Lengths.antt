-- The lists of a node keep their lengths at every step, and the numbers of a node in range are words.
-- Assumes nothing.
use mathlib.Core.Path.{◌≡◌, refl, sym, ap, ◌∙◌, subst}
use mathlib.Core.Bool.{Bool, true, false, cond}
use mathlib.Core.List.{List}
use Prim.Native.Nat.{ℕ, ◌^◌, ◌≤◌, ◌<◌}
use native.Mathlib.Omega.{arith}
use native.Mathlib.Nat.{lt_of_lt_of_le}
use lib.Pow.{pow_pos, pow_mono}
use lib.Dec.{eqb}
use lib.ListN.{length}
use Rattle.words.proofs.Tests.{by-test}
use Rattle.allotment.specs.Allotment.{owners_of, free}
use Rattle.allotment.specs.Model.{Schedule}
use Rattle.allotment.proofs.Schedules.{length-free}
use Rattle.allotment.proofs.Laws.{length-next}
use Rattle.membership.proofs.requests.Laws.{length-only, length_union}
use Rattle.node.specs.Figures.{is_last, is_waiting, negotiates}
use Rattle.node.specs.Negotiation.{opened, merges, heard_node}
use Rattle.node.specs.Close.{determines, new_schedule, determined_by, due, closed_node}
use Rattle.node.specs.Distribution.{taken_node}
use Rattle.node.specs.Begin.{begun, starting, waiting}
use Rattle.node.specs.End.{expires, schedule_after, ended_node}
use Rattle.node.specs.Steps.{wanted_node}
use Rattle.node.proofs.Laws.{hears, closes-so, takes, end-next-round, end-next-epoch, end-waits-on, end-rejoined}
use Rattle.node.proofs.Made.{opened-so, begun-so, waiting-so, wanted-so, next-round-so, waits-so, next-epoch-so}
use Rattle.range.specs.Range.{in_range}
use Rattle.node.specs.declared.Setup.{Setup}
use Rattle.node.specs.declared.Round.{Round}
use Rattle.node.specs.Model.{Node}
use Rattle.node.specs.declared.Packet.{Packet}
use Rattle.node.specs.Model.{Versioned}
use Rattle.range.proofs.Ranges.{Ranges, ranges, at-negotiation, at_rest}
use Rattle.membership.proofs.counters.Laws.{length-counted}

-- the lengths of a node's lists
pub record Lengths (n : Node) : Type 0 where
  pub schedule : length (owners_of n.schedule) ≡ 80
  pub known : length n.round.known ≡ 32
  pub counters : length n.epoch.counters ≡ 32
  pub determined : length (owners_of n.epoch.determined) ≡ 80

-- the list of a round just opened
long-opened : (node v flags request : ℕ) → length (opened node v flags request).known ≡ 32
long-opened node v flags request = ap (λ (r : Round). length r.known) (opened-so node v flags request) ∙ length-only node request

pub long-begun : (s : Setup) (v : ℕ) (schedule : Schedule) (demand request flags : ℕ) → length (owners_of schedule) ≡ 80
    → Lengths (begun s v schedule demand request flags)
long-begun s v schedule demand request flags h =
    subst Lengths (sym (begun-so s v schedule demand request flags)) (record {
      schedule = h;
      known = long-opened s.node v flags request;
      counters = refl;
      determined = length-free;
    })

pub long-start : (s : Setup) (v flags demand : ℕ) → Lengths (starting s v flags demand)
long-start s v flags demand = long-begun s v free demand demand flags length-free

pub long-restart : (s : Setup) (flags f demand : ℕ) → Lengths (waiting s flags f demand)
long-restart s flags f demand = subst Lengths (sym (waiting-so s flags f demand)) (record {
  schedule = length-free;
  known = refl;
  counters = refl;
  determined = length-free;
})

-- a schedule of 80 slots, and a list of 32, by a test
either-schedule : (t : Bool) (x y : Schedule) → length (owners_of x) ≡ 80 → length (owners_of y) ≡ 80 → length (owners_of (cond t x y)) ≡ 80
either-schedule t x y a b = by-test (λ (s : Schedule). length (owners_of s) ≡ 80) t x y (λ e. a) (λ e. b)

pub long-hear : (n : Node) (q : Packet) → Lengths n → Lengths (heard_node n q)
long-hear n q h =
    let k = hears n q in
    record {
      schedule = ap (λ (s : Schedule). length (owners_of s)) k.schedule ∙ h.schedule;
      known = ap length k.known ∙ by-test (λ (l : List ℕ). length l ≡ 32) (merges n q) _ _
          (λ t. length_union n.round.known q.requests) (λ t. h.known);
      counters = ap length k.counters ∙ h.counters;
      determined = ap (λ (s : Schedule). length (owners_of s)) k.determined ∙ h.determined;
    }

pub long-determined : (n : Node) → Lengths n → length (owners_of (determined_by n)) ≡ 80
long-determined n h =
    either-schedule (determines n) (new_schedule n) n.epoch.determined
    (length-next n.schedule n.round.merged n.round.known n.setup.config.nodes n.setup.config.slots) h.determined

pub long-close : (n : Node) → Lengths n → Lengths (closed_node n)
long-close n h =
    let k = closes-so n in
    record {
      schedule = ap (λ (s : Schedule). length (owners_of s)) k.schedule
          ∙ either-schedule (due n) (determined_by n) n.schedule (long-determined n h) h.schedule;
      known = ap (λ (r : Round). length r.known) k.round;
      counters = ap length k.counters ∙ length-counted n.epoch.counters n.round.heard;
      determined = ap (λ (s : Schedule). length (owners_of s)) k.determined
          ∙ either-schedule (due n) free (determined_by n) length-free (long-determined n h);
    }

pub long-take : (n : Node) (q : Versioned) → Lengths n → length (owners_of q.schedule) ≡ 80 → Lengths (taken_node n q)
long-take n q h k =
    let t = takes n q in
    record {
      schedule = ap (λ (s : Schedule). length (owners_of s)) t.schedule ∙ k;
      known = ap (λ (r : Round). length r.known) t.round ∙ h.known;
      counters = ap length t.counters ∙ h.counters;
      determined = ap (λ (s : Schedule). length (owners_of s)) t.determined
          ∙ either-schedule (eqb n.version q.version) n.epoch.determined free h.determined length-free;
    }

pub long-end : (n : Node) → Lengths n → Lengths (ended_node n)
long-end n h = go (is_waiting n.phase) refl (is_last n.setup.config n.epoch.place) refl
  where
    go : (w : Bool) → is_waiting n.phase ≡ w → (l : Bool) → is_last n.setup.config n.epoch.place ≡ l → Lengths (ended_node n)
    go true w true l = subst Lengths (sym (end-rejoined n w l)) (long-begun n.setup 0 free n.demand n.demand n.flags
        length-free)
    go true w false l = subst Lengths (sym (end-waits-on n w l ∙ waits-so n)) (record {
      schedule = h.schedule;
      known = h.known;
      counters = h.counters;
      determined = h.determined;
    })
    go false w true l =
        subst Lengths (sym (end-next-epoch n w l ∙ next-epoch-so n)) (long-begun n.setup _ (schedule_after n) n.demand _ _
        (either-schedule (expires n) free n.schedule length-free h.schedule))
    go false w false l =
        subst Lengths (sym (end-next-round n w l ∙ next-round-so n))
        (record {
          schedule = h.schedule;
          known = long-opened n.setup.node n.version n.flags n.request;
          counters = h.counters;
          determined = h.determined;
        })

pub long-want : (n : Node) (d : ℕ) → Lengths n → Lengths (wanted_node n d)
long-want n d h = subst Lengths (sym (wanted-so n d)) (record {
  schedule = h.schedule;
  known = h.known;
  counters = h.counters;
  determined = h.determined;
})

-- each number of a node is a word, and demand and request are bytes
pub record Words (n : Node) : Type 0 where
  pub node : n.setup.node < 2 ^ 32
  pub nodes : n.setup.config.nodes < 2 ^ 32
  pub slots : n.setup.config.slots < 2 ^ 32
  pub rounds : n.setup.config.rounds < 2 ^ 32
  pub min-heard : n.setup.config.min_heard < 2 ^ 32
  pub split : n.setup.config.split < 2 ^ 32
  pub version : n.version < 2 ^ 32
  pub flags : n.flags < 2 ^ 32
  pub merged : n.round.merged < 2 ^ 32
  pub lowest : n.round.lowest < 2 ^ 32
  pub highest : n.round.highest < 2 ^ 32
  pub heard : n.round.heard < 2 ^ 32
  pub interactions : n.epoch.interactions < 2 ^ 32
  pub place : n.epoch.place < 2 ^ 32
  pub demand : n.demand < 256
  pub request : n.request < 256

-- the round's numbers, in negotiation and lapsed
record Turn (r : Round) : Type 0 where
  merged : r.merged < 2 ^ 32
  lowest : r.lowest < 4294967296
  highest : r.highest < 4294967296
  heard : r.heard < 2 ^ 32

turn : (n : Node) → Ranges n → Turn n.round
turn n r = go (negotiates n.phase) refl
  where
    up : 2 ^ n.setup.config.nodes ≤ 2 ^ 32
    up = pow_mono r.setting.bounds.nodes-to

    go : (t : Bool) → negotiates n.phase ≡ t → Turn n.round
    go true e =
        let o = at-negotiation n r e in
        record {
          merged = lt_of_lt_of_le o.merged up;
          lowest = omega (arith, o.low, r.version);
          highest = omega (arith, o.top);
          heard = lt_of_lt_of_le o.heard up;
        }
    go false e = subst Turn (sym (at_rest n r e)) (record {
      merged = pow_pos 32;
      lowest = omega arith;
      highest = omega arith;
      heard = pow_pos 32;
    })

pub words : (n : Node) → in_range n ≡ true → Words n
words n h =
    let r = ranges n h in
    let s = r.setting in
    let t = turn n r in
    let up : 2 ^ n.setup.config.nodes ≤ 2 ^ 32 = pow_mono s.bounds.nodes-to in
    let a : n.setup.node < 4294967296 = omega (arith, s.node-to, s.bounds.nodes-to) in
    let b : n.setup.config.nodes < 4294967296 = omega (arith, s.bounds.nodes-to) in
    let c : n.setup.config.slots < 4294967296 = omega (arith, s.bounds.slots-to) in
    let d : n.setup.config.rounds < 4294967296 = omega (arith, s.bounds.rounds-to) in
    let o : n.setup.config.min_heard < 4294967296 = omega (arith, s.bounds.heard-to, s.bounds.rounds-to) in
    let p : n.setup.config.split < 4294967296 = omega (arith, s.bounds.split-to) in
    let v : n.version < 4294967296 = omega (arith, r.version) in
    let f : n.epoch.place < 4294967296 = omega (arith, r.epoch.place, s.bounds.rounds-to) in
    record {
      node = a;
      nodes = b;
      slots = c;
      rounds = d;
      min-heard = o;
      split = p;
      version = v;
      flags = lt_of_lt_of_le r.flags up;
      merged = t.merged;
      lowest = t.lowest;
      highest = t.highest;
      heard = t.heard;
      interactions = lt_of_lt_of_le r.epoch.interactions up;
      place = f;
      demand = omega (arith, r.demand);
      request = omega (arith, r.request);
    }
