-- What each step of a node changes, and what it leaves as it was.
-- Assumes nothing.
use mathlib.Core.Path.{◌≡◌, refl, sym, ap, ◌∙◌, subst}
use mathlib.Core.Bool.{Bool, true, false, not, cond, ◌&&◌, ◌||◌}
use Prim.Native.Nat.{ℕ, min, max, ◌+◌, ◌<◌}
use lib.Bits
use lib.Dec.{eqb}
use lib.ListN.{get_or}
use Rattle.words.specs.Bits.{has_bit, all_of}
use Rattle.words.proofs.Tests.{by-test, read-choice, read_same, and_right, hit, skip}
use Rattle.allotment.specs.Allotment.{free}
use Rattle.allotment.specs.Model.{Schedule}
use Rattle.membership.specs.requests.Requests.{requesters, union}
use Rattle.node.specs.Figures.{is_last, successor, negotiates, is_waiting, request_at}
use Rattle.node.specs.Negotiation.{opened, merges, noted, joined, interacted, moved, within, heard_node}
use Rattle.node.specs.Close.{repeats, updated_by, determined_by, counts_by, lapsed, due, raised, stayed, closed_node, close_answer}
use Rattle.membership.specs.counters.Counters.{plus}
use Rattle.node.specs.Distribution.{taken_epoch, taken_node}
use Rattle.node.specs.Begin.{empty_epoch, begun}
use Rattle.node.specs.End.{next_round, waits_on, version_after, schedule_after, next_epoch, rejoined, ended_node, end_answer, at_next_place}
use Rattle.membership.specs.counters.Counters.{members_of}
use Rattle.node.specs.Steps.{close_outcome, end_outcome, wanted_node}
use Rattle.node.specs.Answers.{is_done}
use Rattle.node.specs.Answers.{Answer}
use Rattle.node.specs.Answers.{Done, WrongPhase}
use Rattle.node.specs.declared.Setup.{Setup}
use Rattle.node.specs.declared.Round.{Round}
use Rattle.node.specs.declared.Phase.{Phase}
use Rattle.node.specs.Model.{Node}
use Rattle.node.specs.declared.Packet.{Packet}
use Rattle.node.specs.Model.{Versioned}
use Rattle.node.specs.declared.Phase.TheVariants.{Waiting, Negotiation, Distribution}
use Rattle.membership.proofs.counters.Laws.{get_d-counted}

-- Hearing

-- m is n after hearing q: the round changes, of the epoch I_e, and nothing else
pub record Heard (n : Node) (q : Packet) (m : Node) : Type 0 where
  pub setup : m.setup ≡ n.setup
  pub version : m.version ≡ n.version
  pub schedule : m.schedule ≡ n.schedule
  pub demand : m.demand ≡ n.demand
  pub request : m.request ≡ n.request
  pub flags : m.flags ≡ n.flags
  pub phase : m.phase ≡ n.phase
  pub counters : m.epoch.counters ≡ n.epoch.counters
  pub place : m.epoch.place ≡ n.epoch.place
  pub updated : m.epoch.updated ≡ n.epoch.updated
  pub determined : m.epoch.determined ≡ n.epoch.determined
  pub heard : m.round.heard ≡ Bits.bit_or n.round.heard (requesters q.requests)
  pub interactions : m.epoch.interactions ≡ cond (merges n q) (Bits.bit_or n.epoch.interactions (requesters q.requests))
      n.epoch.interactions
  pub merged : m.round.merged ≡ cond (merges n q) (Bits.bit_or n.round.merged q.flags) n.round.merged
  pub known : m.round.known ≡ cond (merges n q) (union n.round.known q.requests) n.round.known
  pub lowest : m.round.lowest ≡ cond (merges n q) (min n.round.lowest q.lowest) n.round.lowest
  pub highest : m.round.highest ≡ cond (merges n q) (max n.round.highest q.highest) n.round.highest

pub hears : (n : Node) (q : Packet) → Heard n q (heard_node n q)
unfolding heard_node joined noted interacted
hears n q =
    record {
      setup = same (λ m. m.setup) refl refl;
      version = same (λ m. m.version) refl refl;
      schedule = same (λ m. m.schedule) refl refl;
      demand = same (λ m. m.demand) refl refl;
      request = same (λ m. m.request) refl refl;
      flags = same (λ m. m.flags) refl refl;
      phase = same (λ m. m.phase) refl refl;
      counters = same (λ m. m.epoch.counters) refl refl;
      place = same (λ m. m.epoch.place) refl refl;
      updated = same (λ m. m.epoch.updated) refl refl;
      determined = same (λ m. m.epoch.determined) refl refl;
      heard = read_same (λ m. m.round.heard) (merges n q) a b _ refl refl;
      interactions = read-choice (λ m. m.epoch.interactions) (merges n q) a b;
      merged = read-choice (λ m. m.round.merged) (merges n q) a b;
      known = read-choice (λ m. m.round.known) (merges n q) a b;
      lowest = read-choice (λ m. m.round.lowest) (merges n q) a b;
      highest = read-choice (λ m. m.round.highest) (merges n q) a b;
    }
  where
    a : Node
    a = within n (joined n.round q) (interacted n.epoch q)

    b : Node
    b = within n (noted n.round q) n.epoch

    same : {A : Type 0} (F : Node → A) → F a ≡ F n → F b ≡ F n → F (cond (merges n q) a b) ≡ F n
    same F x y = read_same F (merges n q) a b (F n) x y

-- Close

-- m is n after its close: the round lapses, C_e grows by C_r, and where the new version is due it is taken
pub record Closed (n m : Node) : Type 0 where
  pub setup : m.setup ≡ n.setup
  pub demand : m.demand ≡ n.demand
  pub flags : m.flags ≡ n.flags
  pub round : m.round ≡ lapsed
  pub counters : m.epoch.counters ≡ counts_by n
  pub interactions : m.epoch.interactions ≡ n.epoch.interactions
  pub place : m.epoch.place ≡ n.epoch.place
  pub phase : m.phase ≡ Distribution (due n || repeats n)
  pub version : m.version ≡ cond (due n) (successor n.version) n.version
  pub schedule : m.schedule ≡ cond (due n) (determined_by n) n.schedule
  pub request : m.request ≡ cond (due n) (request_at n (successor n.version)) n.request
  pub updated : m.epoch.updated ≡ cond (due n) false (updated_by n)
  pub determined : m.epoch.determined ≡ cond (due n) free (determined_by n)

pub closes-so : (n : Node) → Closed n (closed_node n)
unfolding closed_node raised stayed
closes-so n =
    record {
      setup = read_same (λ m. m.setup) (due n) a b _ refl refl;
      demand = read_same (λ m. m.demand) (due n) a b _ refl refl;
      flags = read_same (λ m. m.flags) (due n) a b _ refl refl;
      round = read_same (λ m. m.round) (due n) a b _ refl refl;
      counters = read_same (λ m. m.epoch.counters) (due n) a b _ refl refl;
      interactions = read_same (λ m. m.epoch.interactions) (due n) a b _ refl refl;
      place = read_same (λ m. m.epoch.place) (due n) a b _ refl refl;
      phase = by-test (λ m. m.phase ≡ Distribution (due n || repeats n)) (due n) a b (sends true) (sends false);
      version = read-choice (λ m. m.version) (due n) a b;
      schedule = read-choice (λ m. m.schedule) (due n) a b;
      request = read-choice (λ m. m.request) (due n) a b;
      updated = read-choice (λ m. m.epoch.updated) (due n) a b;
      determined = read-choice (λ m. m.epoch.determined) (due n) a b;
    }
  where
    a : Node
    a = raised n (counts_by n) (determined_by n)

    b : Node
    b = stayed n (counts_by n) (updated_by n) (determined_by n) (repeats n)

    sends : (t : Bool) → due n ≡ t → Distribution (t || repeats n) ≡ Distribution (due n || repeats n)
    sends t e = ap (λ (b : Bool). Distribution (b || repeats n)) (sym e)

-- a new version is due only with the mark
pub due-updated : (n : Node) → due n ≡ true → updated_by n ≡ true
unfolding due
due-updated n t = and_right (is_last n.setup.config n.epoch.place) (updated_by n) t

-- a node in negotiation closes
pub close-done : (n : Node) → negotiates n.phase ≡ true → close_answer n ≡ Done
unfolding close_answer
close-done n e = hit (negotiates n.phase) Done WrongPhase e

pub close-is : (n : Node) → negotiates n.phase ≡ true → close_outcome n ≡ closed_node n
close-is n e = ap (λ (a : Answer). cond (is_done a) (closed_node n) n) (close-done n e)

pub count_kept : (n : Node) (i : ℕ) → i < 32 → has_bit n.round.heard i ≡ false → get_or (counts_by n) i 0 ≡ get_or n.epoch.counters i 0
count_kept n i l b = get_d-counted n.epoch.counters n.round.heard i l ∙ ap (plus (get_or n.epoch.counters i 0)) b

-- Distribution

-- m is n after taking q: version and schedule are the sender's, I_e is all N, and a mark of another version falls
pub record Took (n : Node) (q : Versioned) (m : Node) : Type 0 where
  pub setup : m.setup ≡ n.setup
  pub demand : m.demand ≡ n.demand
  pub flags : m.flags ≡ n.flags
  pub round : m.round ≡ n.round
  pub phase : m.phase ≡ n.phase
  pub counters : m.epoch.counters ≡ n.epoch.counters
  pub place : m.epoch.place ≡ n.epoch.place
  pub version : m.version ≡ q.version
  pub schedule : m.schedule ≡ q.schedule
  pub request : m.request ≡ request_at n q.version
  pub interactions : m.epoch.interactions ≡ all_of n.setup.config.nodes
  pub updated : m.epoch.updated ≡ (n.epoch.updated && eqb n.version q.version)
  pub determined : m.epoch.determined ≡ cond (eqb n.version q.version) n.epoch.determined free

pub takes : (n : Node) (q : Versioned) → Took n q (taken_node n q)
unfolding taken_node taken_epoch
takes n q =
    record {
      setup = refl;
      demand = refl;
      flags = refl;
      round = refl;
      phase = refl;
      counters = refl;
      place = refl;
      version = refl;
      schedule = refl;
      request = refl;
      interactions = refl;
      updated = refl;
      determined = refl;
    }

-- End

-- a node outside negotiation ends its round
pub end-done : (n : Node) → negotiates n.phase ≡ false → end_answer n ≡ Done
unfolding end_answer
end-done n e = skip (negotiates n.phase) WrongPhase Done Done e refl

pub end_is : (n : Node) → negotiates n.phase ≡ false → end_outcome n ≡ ended_node n
end_is n e = ap (λ (a : Answer). cond (is_done a) (ended_node n) n) (end-done n e)

-- the four ends: the next round or the next epoch of a live node, a waiting node waits on or rejoins
pub end-next-round : (n : Node) → is_waiting n.phase ≡ false → is_last n.setup.config n.epoch.place ≡ false
    → ended_node n ≡ next_round n
unfolding ended_node
end-next-round n w l = skip (is_waiting n.phase) _ _ _ w (skip (is_last n.setup.config n.epoch.place) _ _ _ l refl)

pub end-next-epoch : (n : Node) → is_waiting n.phase ≡ false → is_last n.setup.config n.epoch.place ≡ true
    → ended_node n ≡ next_epoch n
unfolding ended_node
end-next-epoch n w l = skip (is_waiting n.phase) _ _ _ w (hit (is_last n.setup.config n.epoch.place) _ _ l)

pub end-waits-on : (n : Node) → is_waiting n.phase ≡ true → is_last n.setup.config n.epoch.place ≡ false → ended_node n ≡ waits_on n
unfolding ended_node
end-waits-on n w l = hit (is_waiting n.phase) _ _ w ∙ skip (is_last n.setup.config n.epoch.place) _ _ _ l refl

pub end-rejoined : (n : Node) → is_waiting n.phase ≡ true → is_last n.setup.config n.epoch.place ≡ true → ended_node n ≡ rejoined n
unfolding ended_node
end-rejoined n w l = hit (is_waiting n.phase) _ _ w ∙ hit (is_last n.setup.config n.epoch.place) _ _ l

-- m is n after an end that isn't the epoch's last
pub record Went (n m : Node) : Type 0 where
  pub setup : m.setup ≡ n.setup
  pub version : m.version ≡ n.version
  pub schedule : m.schedule ≡ n.schedule
  pub demand : m.demand ≡ n.demand
  pub request : m.request ≡ n.request
  pub flags : m.flags ≡ n.flags
  pub counters : m.epoch.counters ≡ n.epoch.counters
  pub interactions : m.epoch.interactions ≡ n.epoch.interactions
  pub place : m.epoch.place ≡ n.epoch.place + 1
  pub updated : m.epoch.updated ≡ n.epoch.updated
  pub determined : m.epoch.determined ≡ n.epoch.determined

pub ends : (n : Node) → is_last n.setup.config n.epoch.place ≡ false → Went n (ended_node n)
unfolding next_round waits_on
ends n l = go (is_waiting n.phase) refl
  where
    on : (o : Round) (p : Phase) → Went n (moved n o (at_next_place n.epoch) p)
    on o p = record {
      setup = refl;
      version = refl;
      schedule = refl;
      demand = refl;
      request = refl;
      flags = refl;
      counters = refl;
      interactions = refl;
      place = refl;
      updated = refl;
      determined = refl;
    }

    go : (b : Bool) → is_waiting n.phase ≡ b → Went n (ended_node n)
    go true w = subst (Went n) (sym (end-waits-on n w l)) (on _ _)
    go false w = subst (Went n) (sym (end-next-round n w l)) (on _ _)

-- m has begun: its round is opened, of its epoch nothing has been
pub record Begun (m : Node) : Type 0 where
  pub round : m.round ≡ opened m.setup.node m.version m.flags m.request
  pub epoch : m.epoch ≡ empty_epoch 0
  pub phase : m.phase ≡ Negotiation

pub begins : (s : Setup) (v : ℕ) (schedule : Schedule) (demand request flags : ℕ) → Begun (begun s v schedule demand request flags)
unfolding begun
begins s v schedule demand request flags = record { round = refl; epoch = refl; phase = refl }

-- after the epoch's last end a node has begun, whether it waited or not
pub end-begun : (n : Node) → is_last n.setup.config n.epoch.place ≡ true → Begun (ended_node n)
unfolding next_epoch
end-begun n l = go (is_waiting n.phase) refl
  where
    go : (b : Bool) → is_waiting n.phase ≡ b → Begun (ended_node n)
    go true w = subst Begun (sym (end-rejoined n w l)) (begins n.setup 0 free n.demand n.demand n.flags)
    go false w = subst Begun (sym (end-next-epoch n w l))
        (begins n.setup (version_after n) (schedule_after n) n.demand (request_at n (version_after n))
        (members_of n.epoch.counters n.setup.node n.setup.config.min_heard))

-- the setup stays at every end
pub end-setup : (n : Node) → (ended_node n).setup ≡ n.setup
unfolding ended_node next_round waits_on next_epoch begun
end-setup n = go (is_waiting n.phase) (is_last n.setup.config n.epoch.place)
  where
    go : (w l : Bool) → (cond w (cond l (rejoined n) (waits_on n)) (cond l (next_epoch n) (next_round n))).setup ≡ n.setup
    go true true = refl
    go true false = refl
    go false true = refl
    go false false = refl

-- the phase after an end: a waiting node waits on until the last
pub end-phase : (n : Node) → (ended_node n).phase
    ≡ cond (is_waiting n.phase && not (is_last n.setup.config n.epoch.place)) Waiting Negotiation
unfolding ended_node next_round waits_on next_epoch begun
end-phase n = go (is_waiting n.phase) (is_last n.setup.config n.epoch.place)
  where
    go : (w l : Bool) → (cond w (cond l (rejoined n) (waits_on n)) (cond l (next_epoch n) (next_round n))).phase
        ≡ cond (w && not l) Waiting Negotiation
    go true true = refl
    go true false = refl
    go false true = refl
    go false false = refl

-- Demand

-- m is n with another demand
pub record Wanted (n : Node) (d : ℕ) (m : Node) : Type 0 where
  pub setup : m.setup ≡ n.setup
  pub version : m.version ≡ n.version
  pub schedule : m.schedule ≡ n.schedule
  pub demand : m.demand ≡ d
  pub request : m.request ≡ n.request
  pub flags : m.flags ≡ n.flags
  pub round : m.round ≡ n.round
  pub epoch : m.epoch ≡ n.epoch
  pub phase : m.phase ≡ n.phase

pub wants : (n : Node) (d : ℕ) → Wanted n d (wanted_node n d)
unfolding wanted_node
wants n d = record {
  setup = refl;
  version = refl;
  schedule = refl;
  demand = refl;
  request = refl;
  flags = refl;
  round = refl;
  epoch = refl;
  phase = refl;
}
