-- The steps of a node by its outline: each step makes of the outline what it makes of the node, whatever demands, requests and
-- schedules there are. So does the ground of a close.
-- Assumes nothing.
use mathlib.Core.Path.{◌≡◌, refl, sym, ap, ap₂, ◌∙◌}
use mathlib.Core.Bool.{Bool, true, false, not, cond, ◌&&◌, ◌||◌}
use mathlib.Core.List.{List}
use Prim.Native.Nat.{ℕ, zero, suc, min, max, ◌+◌, ◌-◌, ◌^◌, ◌≤◌, ◌<◌}
use native.Mathlib.Omega.{arith}
use lib.Bits
use lib.Dec.{eqb, ltb}
use lib.ListN.{replicate}
use Rattle.words.specs.Bits.{has_bit, is_in, is_inside, all_of}
use Rattle.words.proofs.Tests.{by-test, read-choice}
use Rattle.allotment.specs.Allotment.{top_request}
use Rattle.allotment.specs.Model.{Schedule}
use Rattle.membership.specs.requests.Requests.{requesters, no_requests, lacks, first_with, lowest_missing}
use Rattle.membership.proofs.requests.Laws.{requesters-has, requesters-only, requesters-union}
use Rattle.membership.specs.counters.Counters.{counted, with_self, members_of}
use Rattle.node.specs.Answers.{is_done}
use Rattle.node.specs.Figures.{top_version, is_last, enough, too_few, successor, is_waiting, request_at}
use Rattle.node.specs.Negotiation.{opened, packet_of, send_answer, merges, noted, joined, interacted, heard_node, in_negotiation}
use Rattle.node.specs.Close.{complete, level, verdict, determining, repeating, due, raised, stayed, counts_by, updated_by, determined_by}
use Rattle.node.specs.Close.{repeats, closed_node, close_answer}
use Rattle.node.specs.Distribution.{taken_epoch, taken_node, sent_by, may_take, take_answer}
use Rattle.node.specs.End.{next_round, waits_on, version_after, next_epoch, rejoined, ended_node, may_end, end_answer}
use Rattle.node.specs.Begin.{begun}
use Rattle.node.specs.Steps.{close_outcome, end_outcome, wanted_node}
use Rattle.node.specs.Grounds.{first_rule, rule_of, ground_of}
use Rattle.node.specs.declared.Setup.{Setup}
use Rattle.node.specs.Model.{Node}
use Rattle.node.specs.declared.Packet.{Packet}
use Rattle.node.specs.declared.Phase.TheVariants.{Waiting, Negotiation, Distribution}
use Rattle.node.specs.declared.Verdict.{Verdict}
use Rattle.node.specs.declared.Verdict.TheVariants.{Determines, Repeats, Silent}
use Rattle.node.specs.declared.Rule.{Rule}
use Rattle.node.specs.declared.Rule.TheVariants.{RequestMissing, NoMajority, OwnLower, Repeating, AtTop, NotDue, NewSent}
use Rattle.node.specs.declared.Ground.{Ground}
use Rattle.node.specs.Outline.{Outline, outline_of}

-- Packets

-- a packet, of whose requests only whose they are is left
pub record PacketOutline : Type 0 where
  pub sender : ℕ
  pub lowest : ℕ
  pub highest : ℕ
  pub flags : ℕ
  pub asked : ℕ

abbrev pub packet_outline : Packet → PacketOutline
packet_outline q =
    record { sender = q.sender; lowest = q.lowest; highest = q.highest; flags = q.flags; asked = requesters q.requests }

-- what is sent
abbrev pub sent_outline : Outline → PacketOutline
sent_outline o = record { sender = o.setup.node; lowest = o.lowest; highest = o.highest; flags = o.merged; asked = o.asked }

pub sends : (n : Node) → packet_outline (packet_of n) ≡ sent_outline (outline_of n)
unfolding packet_of
sends n = refl

-- Hearing

abbrev merges_by : Outline → PacketOutline → Bool
merges_by o q = is_in o.merged q.sender && is_in q.flags o.setup.node

abbrev noted_by : Outline → PacketOutline → Outline
noted_by o q =
    record {
      setup = o.setup;
      version = o.version;
      flags = o.flags;
      phase = o.phase;
      merged = o.merged;
      asked = o.asked;
      lowest = o.lowest;
      highest = o.highest;
      heard = Bits.bit_or o.heard q.asked;
      counters = o.counters;
      interactions = o.interactions;
      place = o.place;
      updated = o.updated;
    }

abbrev joined_with : Outline → PacketOutline → ℕ → Outline
joined_with o q asked =
    record {
      setup = o.setup;
      version = o.version;
      flags = o.flags;
      phase = o.phase;
      merged = Bits.bit_or o.merged q.flags;
      asked = asked;
      lowest = min o.lowest q.lowest;
      highest = max o.highest q.highest;
      heard = Bits.bit_or o.heard q.asked;
      counters = o.counters;
      interactions = Bits.bit_or o.interactions q.asked;
      place = o.place;
      updated = o.updated;
    }

unfoldable pub heard_outline : Outline → PacketOutline → Outline
heard_outline o q = cond (merges_by o q) (joined_with o q (Bits.bit_or o.asked q.asked)) (noted_by o q)

pub hears : (n : Node) (q : Packet) → outline_of (heard_node n q) ≡ heard_outline (outline_of n) (packet_outline q)
unfolding heard_node merges noted joined interacted heard_outline
hears n q =
    read-choice outline_of (merges n q) _ _
    ∙ ap (λ (a : ℕ). cond (merges n q) (joined_with (outline_of n) (packet_outline q) a) (noted_by (outline_of n) (packet_outline q)))
    (requesters-union n.round.known q.requests)

-- Close

abbrev complete_by : Outline → Bool
complete_by o = is_inside o.merged o.asked && enough o.setup.config o.merged

abbrev verdict_by : Outline → Verdict
verdict_by o =
    cond (complete_by o)
    (cond (eqb o.lowest o.highest)
    (cond (ltb o.version top_version) Determines Silent)
    (cond (eqb o.version o.highest) Repeats Silent))
    Silent

abbrev marked_by : Outline → Bool
marked_by o = determining (verdict_by o) || o.updated

abbrev due_by : Outline → Bool
due_by o = is_last o.setup.config o.place && marked_by o

-- in distribution: the round has lapsed
abbrev distributing : Outline → ℕ → Bool → Bool → Outline
distributing o v updated sends =
    record {
      setup = o.setup;
      version = v;
      flags = o.flags;
      phase = Distribution sends;
      merged = 0;
      asked = requesters no_requests;
      lowest = 0;
      highest = 0;
      heard = 0;
      counters = counted o.counters o.heard;
      interactions = o.interactions;
      place = o.place;
      updated = updated;
    }

unfoldable pub closed_outline : Outline → Outline
closed_outline o =
    cond (due_by o) (distributing o (successor o.version) false true)
    (distributing o o.version (marked_by o) (repeating (verdict_by o)))

closes : (n : Node) → outline_of (closed_node n) ≡ closed_outline (outline_of n)
unfolding closed_node due verdict complete level raised stayed closed_outline
closes n =
    read-choice outline_of (due n) (raised n (counts_by n) (determined_by n))
    (stayed n (counts_by n) (updated_by n) (determined_by n) (repeats n))

-- the answers to a send and a taking look at the phase alone
pub send_by : (n : Node) → send_answer n ≡ in_negotiation n.phase
unfolding send_answer
send_by n = refl

pub take_by : (n : Node) → take_answer n ≡ may_take n.phase
unfolding take_answer
take_by n = refl

-- a close that may be refused
abbrev pub close_by : Outline → Outline
close_by o = cond (is_done (in_negotiation o.phase)) (closed_outline o) o

pub close-by : (n : Node) → outline_of (close_outcome n) ≡ close_by (outline_of n)
unfolding close_answer
close-by n =
    read-choice outline_of (is_done (close_answer n)) (closed_node n) n
    ∙ ap (λ (o : Outline). cond (is_done (close_answer n)) o (outline_of n)) (closes n)

-- Distribution

unfoldable pub taken_outline : Outline → ℕ → Outline
taken_outline o v =
    record {
      setup = o.setup;
      version = v;
      flags = o.flags;
      phase = o.phase;
      merged = o.merged;
      asked = o.asked;
      lowest = o.lowest;
      highest = o.highest;
      heard = o.heard;
      counters = o.counters;
      interactions = all_of o.setup.config.nodes;
      place = o.place;
      updated = o.updated && eqb o.version v;
    }

pub takes : (n m : Node) → outline_of (taken_node n (sent_by m)) ≡ taken_outline (outline_of n) (outline_of m).version
unfolding taken_node taken_epoch sent_by taken_outline
takes n m = refl

-- End

-- as an epoch begins: the own request alone is known
abbrev pub begun_outline : Setup → ℕ → ℕ → Outline
begun_outline s v flags =
    record {
      setup = s;
      version = v;
      flags = flags;
      phase = Negotiation;
      merged = flags;
      asked = 2 ^ (s.node - 1);
      lowest = v;
      highest = v;
      heard = 0;
      counters = replicate 32 0;
      interactions = 0;
      place = 0;
      updated = false;
    }

abbrev next_round_by : Outline → ℕ → Outline
next_round_by o asked =
    record {
      setup = o.setup;
      version = o.version;
      flags = o.flags;
      phase = Negotiation;
      merged = o.flags;
      asked = asked;
      lowest = o.version;
      highest = o.version;
      heard = 0;
      counters = o.counters;
      interactions = o.interactions;
      place = o.place + 1;
      updated = o.updated;
    }

abbrev waits_by : Outline → Outline
waits_by o =
    record {
      setup = o.setup;
      version = o.version;
      flags = o.flags;
      phase = Waiting;
      merged = o.merged;
      asked = o.asked;
      lowest = o.lowest;
      highest = o.highest;
      heard = o.heard;
      counters = o.counters;
      interactions = o.interactions;
      place = o.place + 1;
      updated = o.updated;
    }

abbrev version_by : Outline → ℕ
version_by o = cond (too_few o.setup.config (with_self o.interactions o.setup.node)) 0 o.version

unfoldable pub ended_outline : Outline → Outline
ended_outline o =
    cond (is_waiting o.phase)
    (cond (is_last o.setup.config o.place) (begun_outline o.setup 0 o.flags) (waits_by o))
    (cond (is_last o.setup.config o.place)
    (begun_outline o.setup (version_by o) (members_of o.counters o.setup.node o.setup.config.min_heard))
    (next_round_by o (2 ^ (o.setup.node - 1))))

-- a node whose number, demand and request are within their ranges
pub record Fits (n : Node) : Type 0 where
  pub from : 1 ≤ n.setup.node
  pub to : n.setup.node ≤ 32
  pub demand : n.demand ≤ top_request
  pub request : n.request ≤ top_request

pub begins : (s : Setup) (v : ℕ) (schedule : Schedule) (demand request flags : ℕ) → 1 ≤ s.node → s.node ≤ 32 → request ≤ top_request
    → outline_of (begun s v schedule demand request flags) ≡ begun_outline s v flags
unfolding begun opened
begins s v schedule demand request flags a b r =
    ap (λ (x : ℕ). record {
      setup = s;
      version = v;
      flags = flags;
      phase = Negotiation;
      merged = flags;
      asked = x;
      lowest = v;
      highest = v;
      heard = 0;
      counters = replicate 32 0;
      interactions = 0;
      place = 0;
      updated = false;
    }) (requesters-only s.node request a b r)

-- two choices by one test, within a choice by another
choices : (w l : Bool) (a b c d : Node) (x y z u : Outline) → outline_of a ≡ x → outline_of b ≡ y → outline_of c ≡ z → outline_of d ≡ u
    → outline_of (cond w (cond l a b) (cond l c d)) ≡ cond w (cond l x y) (cond l z u)
choices true true a b c d x y z u p q r s = p
choices true false a b c d x y z u p q r s = q
choices false true a b c d x y z u p q r s = r
choices false false a b c d x y z u p q r s = s

next-round : (n : Node) → Fits n → outline_of (next_round n) ≡ next_round_by (outline_of n) (2 ^ (n.setup.node - 1))
unfolding next_round opened
next-round n h = ap (next_round_by (outline_of n)) (requesters-only n.setup.node n.request h.from h.to h.request)

waits-on : (n : Node) → outline_of (waits_on n) ≡ waits_by (outline_of n)
unfolding waits_on
waits-on n = refl

next-epoch : (n : Node) → Fits n
    → outline_of (next_epoch n) ≡ begun_outline n.setup (version_by (outline_of n))
    (members_of n.epoch.counters n.setup.node n.setup.config.min_heard)
unfolding next_epoch
next-epoch n h =
    begins n.setup _ _ n.demand (request_at n (version_after n)) _ h.from h.to
    (by-test (λ (r : ℕ). r ≤ top_request) (eqb n.version (version_after n)) n.request n.demand (λ _. h.request) (λ _. h.demand))

ends : (n : Node) → Fits n → outline_of (ended_node n) ≡ ended_outline (outline_of n)
unfolding ended_node ended_outline
ends n h =
    choices (is_waiting n.phase) (is_last n.setup.config n.epoch.place) (rejoined n) (waits_on n) (next_epoch n)
    (next_round n) _ _ _ _
    (begins n.setup 0 _ n.demand n.demand n.flags h.from h.to h.demand) (waits-on n) (next-epoch n h) (next-round n h)

abbrev pub end_by : Outline → Outline
end_by o = cond (is_done (may_end o.phase)) (ended_outline o) o

pub end_by_lem : (n : Node) → Fits n → outline_of (end_outcome n) ≡ end_by (outline_of n)
unfolding end_answer
end_by_lem n h =
    read-choice outline_of (is_done (end_answer n)) (ended_node n) n
    ∙ ap (λ (o : Outline). cond (is_done (end_answer n)) o (outline_of n)) (ends n h)

-- Want: nothing of the outline changes
pub wants : (n : Node) (d : ℕ) → outline_of (wanted_node n d) ≡ outline_of n
unfolding wanted_node
wants n d = refl

-- The ground of a close

abbrev first_by : Outline → Rule
first_by o =
    cond (is_inside o.merged o.asked)
    (cond (enough o.setup.config o.merged)
    (cond (eqb o.lowest o.highest)
    (cond (ltb o.version top_version) NotDue AtTop)
    (cond (eqb o.version o.highest) Repeating OwnLower))
    NoMajority)
    RequestMissing

unfoldable pub ground_by : Outline → Ground
ground_by o =
    record {
      rule = cond (due_by o) NewSent (cond o.updated NotDue (first_by o));
      missing = first_with 32 0 (λ i. has_bit o.merged i && not (has_bit o.asked i));
    }

first-same : (p t : ℕ → Bool) (k i : ℕ) → ((j : ℕ) → i ≤ j → j < i + k → p j ≡ t j) → first_with k i p ≡ first_with k i t
unfolding first_with
first-same p t zero i h = refl
first-same p t (suc k) i h =
    ap₂ (λ (b : Bool) (x : ℕ). cond b (i + 1) x) (h i (omega arith) (omega arith))
    (first-same p t k (i + 1) (λ j a b. h j (omega arith) (omega arith)))

twice : (t : Bool) → t ≡ not (not t)
twice true = refl
twice false = refl

-- who lacks a request, by who has one
lacking : (w : ℕ) (l : List ℕ) → lowest_missing w l ≡ first_with 32 0 (λ i. has_bit w i && not (has_bit (requesters l) i))
unfolding lowest_missing
lacking w l = first-same (lacks w l) _ 32 0 (λ i a b. ap (λ (t : Bool). has_bit w i && t) (twice _ ∙ sym (ap not (requesters-has l i b))))

pub grounds : (n : Node) → ground_of n ≡ ground_by (outline_of n)
unfolding rule_of first_rule due verdict complete level ground_by
grounds n = λ i. record { rule = rule_of n; missing = lacking n.round.merged n.round.known i }
