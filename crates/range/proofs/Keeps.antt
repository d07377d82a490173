-- Every accepted step keeps the ranges.
-- Assumes nothing.
use mathlib.Core.Path.{◌≡◌, refl, sym, ap, ap₂, ◌∙◌}
use mathlib.Core.Bool.{Bool, true, false, cond, ◌&&◌, ◌||◌}
use mathlib.Core.List.{List}
use Prim.Native.Nat.{ℕ, min, max, ◌+◌, ◌-◌, ◌^◌, ◌≤◌, ◌<◌}
use native.Mathlib.Omega.{arith}
use native.Mathlib.Nat.{lt_of_lt_of_le}
use borrow.Author.Tests.{leb-false, eqb-true, lt-ltb, eq-eqb}
use lib.Bits
use lib.Bits.{or_lt, or_self}
use lib.Dec.{eqb, ltb}
use lib.ListN.{get_or}
use lib.Pow.{pow_pos, pow_mono}
use Rattle.words.specs.Bits.{is_in, is_inside, all_of}
use Rattle.words.proofs.Tests.{never, by-test, and_left, and_right}
use Rattle.words.proofs.Laws.{inside-or, all_of-lt}
use Rattle.lists.specs.All.{bounded}
use Rattle.lists.proofs.Bounded.{bounded-over, bounded-make, zeros-bounded}
use Rattle.allotment.specs.Allotment.{top_request, owners_of, free, next}
use Rattle.allotment.specs.Model.{Schedule}
use Rattle.allotment.proofs.Schedules.{owner_at, owners-free}
use Rattle.allotment.proofs.Laws.{owner-range, owner-behind}
use Rattle.membership.specs.requests.Requests.{requesters, entry_of, union, requests_within}
use Rattle.membership.proofs.requests.Laws.{requesters-below, within-union, within-only, entry-only, union-first}
use Rattle.node.specs.Figures.{top_version, is_last, successor, negotiates, is_waiting, request_at}
use Rattle.node.specs.Negotiation.{opened, merges, moved, within, heard_node, hear_answer}
use Rattle.node.specs.Close.{determines, repeats, new_schedule, updated_by, determined_by, lapsed, counts_by, due, closed_node, close_answer}
use Rattle.node.specs.Distribution.{taken_node, take_answer}
use Rattle.node.specs.Begin.{empty_epoch, begun, starting, waiting, start_answer, restart_answer}
use Rattle.node.specs.End.{at_next_place, next_round, waits_on, expires, version_after, schedule_after, next_epoch, ended_node, end_answer}
use Rattle.membership.specs.counters.Counters.{members_of}
use Rattle.node.specs.Steps.{wanted_node}
use Rattle.range.specs.Range.{schedule_ok, round_ok, closes_seen, waiting_ok, phase_ok, in_range}
use Rattle.node.specs.declared.Config.{Config}
use Rattle.node.specs.declared.Setup.{Setup}
use Rattle.node.specs.declared.Round.{Round}
use Rattle.node.specs.Model.{Epoch}
use Rattle.node.specs.Model.{Node}
use Rattle.node.specs.declared.Packet.{Packet}
use Rattle.node.specs.Model.{Versioned}
use Rattle.node.specs.declared.Phase.{Phase}
use Rattle.node.specs.declared.Phase.TheVariants.{Waiting, Negotiation, Distribution}
use Rattle.node.specs.Answers.{Done, WrongPhase}
use Rattle.node.proofs.Answers.{test-met, test-passed}
use Rattle.node.proofs.Bare.{close-phase, ends-phase, hear-talks}
use Rattle.node.proofs.Bounds.{flags-below, flags-own}
use Rattle.node.proofs.Laws.{hears, closes-so, due-updated, takes, end-next-round, end-next-epoch, end-waits-on, end-rejoined}
use Rattle.node.proofs.Made.{just-opened, begun-so, waiting-so, wanted-so, next-round-so, waits-so, next-epoch-so}
use Rattle.node.proofs.Tested.{start-asks, restart-asks}
use Rattle.membership.proofs.counters.Laws.{counted-bounded, members-below, members-own}
use Rattle.node.proofs.Verdicts.{determines-tests}
use Rattle.node.proofs.Phases.{by_tests, in-negotiation, take-silent}
use Rattle.range.proofs.Ranges.{Setting, setting, Epochs, Negotiates, negotiated, lapsed-ok, waited, Ranges, ranges, ranged}
use Rattle.range.proofs.Ranges.{at-negotiation, at-waiting, counts-negotiating, counts-waiting}

-- What an accepted call says of its tests

pub close-negotiates : (n : Node) → close_answer n ≡ Done → negotiates n.phase ≡ true
close-negotiates n h = (test-met (negotiates n.phase) Done WrongPhase refl (sym (close-phase n) ∙ h)).0

pub end-rests : (n : Node) → end_answer n ≡ Done → negotiates n.phase ≡ false
end-rests n h = (test-passed (negotiates n.phase) WrongPhase Done refl (sym (ends-phase n) ∙ h)).0

-- Schedules and lists

pub free-ok : (used : Bool) (s : Setup) → schedule_ok free used s ≡ true
free-ok used s = ap (λ (l : List ℕ). bounded l (cond used s.config.slots 0) s.config.nodes) owners-free
    ∙ zeros-bounded 80 (cond used s.config.slots 0) s.config.nodes

-- A node with a round that was just opened

pub opened-ok : (n : Node) → Setting n.setup → n.version ≤ top_version → n.request ≤ top_request → n.flags < 2 ^ n.setup.config.nodes
    → is_in n.flags n.setup.node ≡ true
    → n.round ≡ opened n.setup.node n.version n.flags n.request → Negotiates n
opened-ok n s v r f o e =
    let j = just-opened n e in
    let low = j.lowest in
    let high = j.highest in
    let all = j.merged in
    let heard = j.heard in
    let one = j.known in
    let a : n.setup.node ≤ 32 = omega (arith, s.node-to, s.bounds.nodes-to) in
    record {
      low = omega arith;
      high = omega arith;
      top = omega arith;
      merged = omega arith;
      inside = ap (λ (w : ℕ). is_inside n.flags w) all ∙ eq-eqb _ _ (or_self n.flags);
      asked = ap₂ requests_within one all ∙ within-only n.setup.node n.request n.flags r o;
      own = ap (λ (l : List ℕ). entry_of l n.setup.node) one ∙ entry-only n.setup.node n.request s.node-from a;
      heard = omega (arith, pow_pos n.setup.config.nodes);
    }

pub begun-in : (s : Setup) (v : ℕ) (schedule : Schedule) (demand request flags : ℕ) → Setting s → v ≤ top_version
    → schedule_ok schedule (ltb 0 v) s ≡ true → demand ≤ top_request → request ≤ top_request
    → flags < 2 ^ s.config.nodes → is_in flags s.node ≡ true → in_range (begun s v schedule demand request flags) ≡ true
begun-in s v schedule demand request flags t a b c d e f =
    let n : Node = record {
      setup = s;
      version = v;
      schedule = schedule;
      demand = demand;
      request = request;
      flags = flags;
      round = opened s.node v flags request;
      epoch = empty_epoch 0;
      phase = Negotiation;
    } in
    ap in_range (begun-so s v schedule demand request flags)
    ∙ ranged n
    (record {
      setting = t;
      version = a;
      schedule = b;
      demand = c;
      request = d;
      flags = e;
      own = f;
      phase = negotiated n (opened-ok n t a d e f refl);
      epoch = record {
        place = t.bounds.rounds-from;
        counters = zeros-bounded 32 s.config.nodes 0;
        interactions = pow_pos s.config.nodes;
        determined = free-ok false s;
        marked = λ z. never (sym z);
      };
    })

-- Hearing

-- what the ranges ask of a packet in a site of N nodes
pub record PacketRanges (q : Packet) (N : ℕ) : Type 0 where
  pub low : q.lowest ≤ q.highest
  pub high : q.highest ≤ top_version
  pub flags : q.flags < 2 ^ N
  pub asked : requests_within q.requests q.flags ≡ true

own-kept : (l q : List ℕ) (j r : ℕ) → 1 ≤ j → j ≤ 32 → r ≤ top_request → entry_of l j ≡ r → entry_of (union l q) j ≡ r
own-kept l q j r a b c e =
    union-first l q (j - 1) (omega arith) (λ z. let y : get_or l (j - 1) 0 ≡ r = e in omega arith) ∙ e

-- another round, epoch and phase within the ranges
moved_in : (n : Node) → Ranges n → (o : Round) (e : Epoch) (p : Phase) → phase_ok p (moved n o e p) ≡ true → Epochs (moved n o e p)
    → in_range (moved n o e p) ≡ true
moved_in n r o e p x y =
    ranged (moved n o e p)
    (record {
      setting = r.setting;
      version = r.version;
      schedule = r.schedule;
      demand = r.demand;
      request = r.request;
      flags = r.flags;
      own = r.own;
      phase = x;
      epoch = y;
    })

within_in : (n : Node) → Ranges n → negotiates n.phase ≡ true → (o : Round) (e : Epoch) → Negotiates (within n o e)
    → Epochs (within n o e) → in_range (within n o e) ≡ true
within_in n r p o e x y = moved_in n r o e n.phase (ap (λ (q : Phase). phase_ok q (within n o e)) (in-negotiation n.phase p)
    ∙ negotiated (within n o e) x) y

-- a node after a packet, by whether this is merged
abbrev heard_by : Node → Packet → Bool → Node
heard_by n q t =
    within n
    (record {
      merged = cond t (Bits.bit_or n.round.merged q.flags) n.round.merged;
      known = cond t (union n.round.known q.requests) n.round.known;
      lowest = cond t (min n.round.lowest q.lowest) n.round.lowest;
      highest = cond t (max n.round.highest q.highest) n.round.highest;
      heard = Bits.bit_or n.round.heard (requesters q.requests);
    })
    (record {
      counters = n.epoch.counters;
      interactions = cond t (Bits.bit_or n.epoch.interactions (requesters q.requests)) n.epoch.interactions;
      place = n.epoch.place;
      updated = n.epoch.updated;
      determined = n.epoch.determined;
    })

heard-is : (n : Node) (q : Packet) → heard_node n q ≡ heard_by n q (merges n q)
heard-is n q =
    let h = hears n q in
    λ i. record {
      setup = h.setup i;
      version = h.version i;
      schedule = h.schedule i;
      demand = h.demand i;
      request = h.request i;
      flags = h.flags i;
      round = record { merged = h.merged i; known = h.known i; lowest = h.lowest i; highest = h.highest i; heard = h.heard i };
      epoch = record {
        counters = h.counters i;
        interactions = h.interactions i;
        place = h.place i;
        updated = h.updated i;
        determined = h.determined i;
      };
      phase = h.phase i;
    }

pub keeps-hear : (n : Node) (q : Packet) → in_range n ≡ true → hear_answer n q ≡ Done → PacketRanges q n.setup.config.nodes
    → in_range (heard_node n q) ≡ true
keeps-hear n q h d f = ap in_range (heard-is n q) ∙ go (merges n q)
  where
    r : Ranges n
    r = ranges n h

    s : Setting n.setup
    s = r.setting

    p : negotiates n.phase ≡ true
    p = hear-talks n q d

    o : Negotiates n
    o = at-negotiation n r p

    e : Epochs n
    e = r.epoch

    w-lt : requesters q.requests < 2 ^ n.setup.config.nodes
    w-lt = requesters-below q.requests q.flags n.setup.config.nodes f.asked f.flags s.bounds.nodes-to

    up : 2 ^ n.setup.config.nodes ≤ 2 ^ 32
    up = pow_mono s.bounds.nodes-to

    go : (t : Bool) → in_range (heard_by n q t) ≡ true
    go true =
        within_in n r p (heard_by n q true).round (heard_by n q true).epoch
        (record {
          low = omega (arith, o.low);
          high = omega (arith, o.high);
          top = omega (arith, o.top, f.high);
          merged = or_lt n.setup.config.nodes n.round.merged q.flags o.merged f.flags;
          inside = eq-eqb _ _ (inside-or n.flags n.round.merged q.flags (lt_of_lt_of_le r.flags up)
              (lt_of_lt_of_le o.merged up) (lt_of_lt_of_le f.flags up) (eqb-true _ _ o.inside));
          asked = within-union n.round.known q.requests n.round.merged q.flags o.asked f.asked;
          own = own-kept n.round.known q.requests n.setup.node n.request s.node-from
              (omega (arith, s.node-to, s.bounds.nodes-to)) r.request o.own;
          heard = or_lt n.setup.config.nodes n.round.heard (requesters q.requests) o.heard w-lt;
        })
        (record {
          place = e.place;
          counters = e.counters;
          interactions = or_lt n.setup.config.nodes n.epoch.interactions (requesters q.requests) e.interactions w-lt;
          determined = e.determined;
          marked = e.marked;
        })
    go false =
        within_in n r p (heard_by n q false).round (heard_by n q false).epoch
        (record {
          low = o.low;
          high = o.high;
          top = o.top;
          merged = o.merged;
          inside = o.inside;
          asked = o.asked;
          own = o.own;
          heard = or_lt n.setup.config.nodes n.round.heard (requesters q.requests) o.heard w-lt;
        })
        (record {
          place = e.place;
          counters = e.counters;
          interactions = e.interactions;
          determined = e.determined;
          marked = e.marked;
        })

-- Close

pub request-at-le : (n : Node) (v : ℕ) → Ranges n → request_at n v ≤ top_request
request-at-le n v r = by-test (λ (x : ℕ). x ≤ top_request) (eqb n.version v) n.request n.demand (λ e. r.request) (λ e. r.demand)

pub marked_by : (n : Node) → Ranges n → updated_by n ≡ true → n.version < top_version
marked_by n r h = go (determines n) refl h
  where
    go : (t : Bool) → determines n ≡ t → (t || n.epoch.updated) ≡ true → n.version < top_version
    go true e u = (determines-tests n e).2
    go false e u = r.epoch.marked u

-- a determined schedule has owners of the N nodes in the K slots
pub next-bounded : (s : Schedule) (m : ℕ) (R : List ℕ) (N K : ℕ) → bounded (owners_of (next s m R N K)) K N ≡ true
next-bounded s m R N K = bounded-make (owners_of (next s m R N K)) K N
    (λ i l. omega (arith, owner-range s m R N K i, owner_at (next s m R N K) i))
    (λ i l. sym (owner_at (next s m R N K) i) ∙ owner-behind s m R N K i l)

pub determined-ok : (n : Node) → Ranges n → schedule_ok (determined_by n) (updated_by n) n.setup ≡ true
determined-ok n r = go (determines n)
  where
    go : (t : Bool) → schedule_ok (cond t (new_schedule n) n.epoch.determined) (t || n.epoch.updated) n.setup ≡ true
    go true = next-bounded n.schedule n.round.merged n.round.known n.setup.config.nodes n.setup.config.slots
    go false = r.epoch.determined

-- a node after its close, by whether the new version is due
abbrev closed_by : Node → Bool → Node
closed_by n t =
    record {
      setup = n.setup;
      version = cond t (successor n.version) n.version;
      schedule = cond t (determined_by n) n.schedule;
      demand = n.demand;
      request = cond t (request_at n (successor n.version)) n.request;
      flags = n.flags;
      round = lapsed;
      epoch = record {
        counters = counts_by n;
        interactions = n.epoch.interactions;
        place = n.epoch.place;
        updated = cond t false (updated_by n);
        determined = cond t free (determined_by n);
      };
      phase = Distribution (t || repeats n);
    }

closed_is : (n : Node) → closed_node n ≡ closed_by n (due n)
closed_is n =
    let c = closes-so n in
    λ i. record {
      setup = c.setup i;
      version = c.version i;
      schedule = c.schedule i;
      demand = c.demand i;
      request = c.request i;
      flags = c.flags i;
      round = c.round i;
      epoch = record {
        counters = c.counters i;
        interactions = c.interactions i;
        place = c.place i;
        updated = c.updated i;
        determined = c.determined i;
      };
      phase = c.phase i;
    }

pub keeps-close : (n : Node) → in_range n ≡ true → close_answer n ≡ Done → in_range (closed_node n) ≡ true
keeps-close n h d = ap in_range (closed_is n) ∙ go (due n) refl
  where
    r : Ranges n
    r = ranges n h

    e : Epochs n
    e = r.epoch

    c : bounded (counts_by n) n.setup.config.nodes (n.epoch.place + 1) ≡ true
    c =
        let p = close-negotiates n d in
        counted-bounded n.epoch.counters n.round.heard n.setup.config.nodes n.epoch.place r.setting.bounds.nodes-to
        (counts-negotiating n r p) (at-negotiation n r p).heard

    go : (t : Bool) → due n ≡ t → in_range (closed_by n t) ≡ true
    go true t =
        let v : ltb 0 (successor n.version) ≡ true = lt-ltb 0 (successor n.version) (omega arith) in
        ranged (closed_by n true)
        (record {
          setting = r.setting;
          version = omega arith;
          schedule = ap (λ (u : Bool). schedule_ok (determined_by n) u n.setup) (v ∙ sym (due-updated n t)) ∙ determined-ok n r;
          demand = r.demand;
          request = request-at-le n (successor n.version) r;
          flags = r.flags;
          own = r.own;
          phase = lapsed-ok;
          epoch = record {
            place = e.place;
            counters = c;
            interactions = e.interactions;
            determined = free-ok false n.setup;
            marked = λ z. never (sym z);
          };
        })
    go false t = moved_in n r lapsed (closed_by n false).epoch (closed_by n false).phase lapsed-ok (record {
      place = e.place;
      counters = c;
      interactions = e.interactions;
      determined = determined-ok n r;
      marked = marked_by n r;
    })

-- Distribution

abbrev taken_by : Node → Versioned → Node
taken_by n q =
    record {
      setup = n.setup;
      version = q.version;
      schedule = q.schedule;
      demand = n.demand;
      request = request_at n q.version;
      flags = n.flags;
      round = n.round;
      epoch = record {
        counters = n.epoch.counters;
        interactions = all_of n.setup.config.nodes;
        place = n.epoch.place;
        updated = n.epoch.updated && eqb n.version q.version;
        determined = cond (eqb n.version q.version) n.epoch.determined free;
      };
      phase = n.phase;
    }

taken_is : (n : Node) (q : Versioned) → taken_node n q ≡ taken_by n q
taken_is n q =
    let t = takes n q in
    λ i. record {
      setup = t.setup i;
      version = t.version i;
      schedule = t.schedule i;
      demand = t.demand i;
      request = t.request i;
      flags = t.flags i;
      round = t.round i;
      epoch = record {
        counters = t.counters i;
        interactions = t.interactions i;
        place = t.place i;
        updated = t.updated i;
        determined = t.determined i;
      };
      phase = t.phase i;
    }

pub keeps-take : (n : Node) (q : Versioned) → in_range n ≡ true → take_answer n ≡ Done → q.version ≤ top_version
    → schedule_ok q.schedule (ltb 0 q.version) n.setup ≡ true
    → in_range (taken_node n q) ≡ true
keeps-take n q h d v w =
    let r = ranges n h in
    let e = r.epoch in
    let m = taken_by n q in
    ap in_range (taken_is n q)
    ∙ ranged m
    (record {
      setting = r.setting;
      version = v;
      schedule = w;
      demand = r.demand;
      request = request-at-le n q.version r;
      flags = r.flags;
      own = r.own;
      phase = ap (λ (x : Phase). phase_ok x m) p ∙ sym (ap (λ (x : Phase). phase_ok x n) p) ∙ r.phase;
      epoch = record {
        place = e.place;
        counters = e.counters;
        interactions = all_of-lt n.setup.config.nodes;
        determined = drops (eqb n.version q.version) n.epoch.updated e.determined;
        marked = λ u.
            let old = e.marked (and_left n.epoch.updated _ u) in
            let g : n.version ≡ q.version = eqb-true _ _ (and_right n.epoch.updated (eqb n.version q.version) u) in
            omega arith;
      };
    })
  where
    p : n.phase ≡ Distribution false
    p = take-silent n d

    drops : (t u : Bool) → schedule_ok n.epoch.determined u n.setup ≡ true
        → schedule_ok (cond t n.epoch.determined free) (u && t) n.setup ≡ true
    drops true true k = k
    drops true false k = k
    drops false u k = free-ok (u && false) n.setup

-- End

-- another round of the epoch begins: the place is in range, as the round was not the last
not_last : (f : Config) (p : ℕ) → is_last f p ≡ false → p + 1 < f.rounds
not_last f p h = leb-false f.rounds (p + 1) h

-- the closes seen in distribution at one place are those seen in negotiation at the next
closes-next : (p : Phase) (f : ℕ) → negotiates p ≡ false → is_waiting p ≡ false → closes_seen p f ≡ f + 1
closes-next p f = by_tests (λ (x : Phase) (w t s : Bool). t ≡ false → w ≡ false → closes_seen x f ≡ f + 1)
    (λ a b. never b) (λ a b. never a) (λ s a b. refl) p

keeps-next-round : (n : Node) → Ranges n → negotiates n.phase ≡ false → is_waiting n.phase ≡ false
    → is_last n.setup.config n.epoch.place ≡ false → in_range (next_round n) ≡ true
keeps-next-round n r a b l =
    let m = moved n (opened n.setup.node n.version n.flags n.request) (at_next_place n.epoch) Negotiation in
    let e = r.epoch in
    ap in_range (next-round-so n)
    ∙ moved_in n r m.round m.epoch Negotiation (negotiated m
    (opened-ok m r.setting r.version r.request r.flags r.own refl))
    (record {
      place = not_last n.setup.config n.epoch.place l;
      counters = sym (ap (λ (x : ℕ). bounded n.epoch.counters n.setup.config.nodes x)
          (closes-next n.phase n.epoch.place a b))
          ∙ e.counters;
      interactions = e.interactions;
      determined = e.determined;
      marked = e.marked;
    })

keeps-waits-on : (n : Node) → Ranges n → is_waiting n.phase ≡ true → is_last n.setup.config n.epoch.place ≡ false
    → in_range (waits_on n) ≡ true
keeps-waits-on n r b l =
    let m = moved n n.round (at_next_place n.epoch) Waiting in
    let e = r.epoch in
    let w = at-waiting n r b in
    ap in_range (waits-so n)
    ∙ moved_in n r n.round m.epoch Waiting (waited m (record {
      version = w.version;
      request = w.request;
      interactions = w.interactions;
      updated = w.updated;
      round = w.round;
    }))
    (record {
      place = not_last n.setup.config n.epoch.place l;
      counters = counts-waiting n r b;
      interactions = e.interactions;
      determined = e.determined;
      marked = e.marked;
    })

keeps-next-epoch : (n : Node) → Ranges n → in_range (next_epoch n) ≡ true
keeps-next-epoch n r =
    let s = r.setting in
    ap in_range (next-epoch-so n)
    ∙ begun-in n.setup (version_after n) (schedule_after n) n.demand (request_at n (version_after n))
    (members_of n.epoch.counters n.setup.node n.setup.config.min_heard) s
    (by-test (λ (x : ℕ). x ≤ top_version) (expires n) 0 n.version (λ e. omega arith) (λ e. r.version))
    (go (expires n))
    r.demand
    (request-at-le n (version_after n) r)
    (members-below n.epoch.counters n.setup.node n.setup.config.min_heard n.setup.config.nodes s.bounds.nodes-to
    s.node-to s.bounds.heard-from
    (λ i l m. bounded-over n.epoch.counters n.setup.config.nodes (closes_seen n.phase n.epoch.place)
    r.epoch.counters i l))
    (members-own n.epoch.counters n.setup.node n.setup.config.min_heard s.node-from
    (omega (arith, s.node-to, s.bounds.nodes-to)))
  where
    go : (t : Bool) → schedule_ok (cond t free n.schedule) (ltb 0 (cond t 0 n.version)) n.setup ≡ true
    go true = free-ok false n.setup
    go false = r.schedule

pub keeps-end : (n : Node) → in_range n ≡ true → end_answer n ≡ Done → in_range (ended_node n) ≡ true
keeps-end n h d = go (is_waiting n.phase) refl (is_last n.setup.config n.epoch.place) refl
  where
    r : Ranges n
    r = ranges n h

    go : (b : Bool) → is_waiting n.phase ≡ b → (t : Bool) → is_last n.setup.config n.epoch.place ≡ t → in_range (ended_node n) ≡ true
    go true b true l =
        ap in_range (end-rejoined n b l) ∙ begun-in n.setup 0 free n.demand n.demand n.flags r.setting (omega arith)
        (free-ok false n.setup) r.demand r.demand r.flags r.own
    go true b false l = ap in_range (end-waits-on n b l) ∙ keeps-waits-on n r b l
    go false b true l = ap in_range (end-next-epoch n b l) ∙ keeps-next-epoch n r
    go false b false l = ap in_range (end-next-round n b l) ∙ keeps-next-round n r (end-rests n d) b l

-- Start, restart, demand

pub keeps-start : (s : Setup) (v flags demand : ℕ) → start_answer s v flags demand ≡ Done → in_range (starting s v flags demand) ≡ true
keeps-start s v flags demand h =
    let t = start-asks s v flags demand h in
    begun-in s v free demand demand flags (setting s t.config t.node) (omega (arith, t.version)) (free-ok (ltb 0 v) s) t.demand
    t.demand (flags-below s flags t.flags) (flags-own s flags t.flags t.node)

pub keeps-restart : (s : Setup) (flags f demand : ℕ) → restart_answer s flags f ≡ Done → demand ≤ top_request
    → in_range (waiting s flags f demand) ≡ true
keeps-restart s flags f demand h k =
    let t = restart-asks s flags f h in
    let m : Node = record {
      setup = s;
      version = 0;
      schedule = free;
      demand = demand;
      request = 0;
      flags = flags;
      round = lapsed;
      epoch = empty_epoch f;
      phase = Waiting;
    } in
    ap in_range (waiting-so s flags f demand)
    ∙ ranged m
    (record {
      setting = setting s t.config t.node;
      version = omega arith;
      schedule = free-ok false s;
      demand = k;
      request = omega arith;
      flags = flags-below s flags t.flags;
      own = flags-own s flags t.flags t.node;
      phase = waited m (record { version = refl; request = refl; interactions = refl; updated = refl; round = refl });
      epoch = record {
        place = t.place;
        counters = zeros-bounded 32 s.config.nodes 0;
        interactions = pow_pos s.config.nodes;
        determined = free-ok false s;
        marked = λ z. never (sym z);
      };
    })

-- another demand changes the demand alone, which no other range looks at
abbrev wanted_by : Node → ℕ → Node
wanted_by n d = record {
  setup = n.setup;
  version = n.version;
  schedule = n.schedule;
  demand = d;
  request = n.request;
  flags = n.flags;
  round = n.round;
  epoch = n.epoch;
  phase = n.phase;
}

wanted-phase : (p : Phase) (n : Node) (d : ℕ) → phase_ok p (wanted_by n d) ≡ phase_ok p n
unfolding waiting_ok round_ok
wanted-phase Waiting n d = refl
wanted-phase Negotiation n d = refl
wanted-phase (Distribution sends) n d = refl

pub keeps-want : (n : Node) (d : ℕ) → in_range n ≡ true → d ≤ top_request → in_range (wanted_node n d) ≡ true
keeps-want n d h k =
    let r = ranges n h in
    let e = r.epoch in
    ap in_range (wanted-so n d)
    ∙ ranged (wanted_by n d)
    (record {
      setting = r.setting;
      version = r.version;
      schedule = r.schedule;
      demand = k;
      request = r.request;
      flags = r.flags;
      own = r.own;
      phase = wanted-phase n.phase n d ∙ r.phase;
      epoch = record {
        place = e.place;
        counters = e.counters;
        interactions = e.interactions;
        determined = e.determined;
        marked = e.marked;
      };
    })
