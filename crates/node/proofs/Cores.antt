-- A core's steps are the node's, and its moves make the node's schedules.
-- Assumes nothing.
use mathlib.Core.Path.{◌≡◌, refl, ap, ◌∙◌}
use mathlib.Core.Bool.{Bool, true, false, not, cond, ◌&&◌, ◌||◌}
use mathlib.Core.List.{List}
use Prim.Native.Nat.{ℕ, ◌+◌}
use lib.Dec.{eqb, ltb}
use lib.ListN.{replicate}
use denote.Enum.Bare.{sameb}
use borrow.Author.Tests.{eq-eqb}
use Rattle.words.specs.Bits.{is_inside}
use Rattle.words.proofs.Tests.{hit, skip}
use Rattle.membership.specs.requests.Requests.{requesters}
use Rattle.membership.specs.counters.Counters.{members_of}
use Rattle.allotment.specs.Allotment.{free}
use Rattle.node.specs.Figures.{top_version, enough, successor, is_last, is_waiting, request_at}
use Rattle.node.specs.Negotiation.{opened, merges, noted, joined, interacted, within, heard_node}
use Rattle.node.specs.Begin.{begun}
use Rattle.node.specs.Close.{complete, level, verdict, determining, repeating, determines, repeats, updated_by, determined_by, counts_by, due, lapsed, raised}
use Rattle.node.specs.Close.{stayed, closed_node}
use Rattle.node.specs.Distribution.{taken_epoch, taken_node}
use Rattle.node.specs.End.{next_round, waits_on, next_epoch, rejoined, expires, ended_node}
use Rattle.node.specs.Grounds.{first_rule, rule_of}
use Rattle.node.specs.Core.{core_of, node_of, bare, pair, dealt_schedule, moved_by, close_move_by, core_closed, end_move_by, core_round_ended}
use Rattle.node.specs.Core.{core_waited}
use Rattle.node.specs.Core.{core_ended, take_move_by, core_taken}
use Rattle.node.specs.Inner.{core_request, flags_after, verdict_of, counted_rule}
use Rattle.node.specs.Model.{Node}
use Rattle.node.specs.declared.Core.{Core}
use Rattle.node.specs.declared.CoreStep.{CoreStep}
use Rattle.node.specs.declared.Packet.{Packet}
use Rattle.node.specs.declared.Phase.TheVariants.{Negotiation, Distribution}
use Rattle.node.specs.declared.Verdict.{Verdict}
use Rattle.node.specs.contracts.Verdict.{the_type}
use Rattle.node.specs.declared.Verdict.TheVariants.{Determines, Repeats, Silent}
use Rattle.node.specs.declared.Rule.{Rule}
use Rattle.node.specs.declared.Rule.TheVariants.{RequestMissing, NoMajority, OwnLower, Repeating, AtTop, NotDue, NewSent}
use Rattle.node.specs.declared.Move.{Move}
use Rattle.node.specs.Model.{Versioned}

abbrev pub step_of : Core → Move → CoreStep
step_of c m = record { core = c; change = m }

-- the verdict, read off the first rule, whether the count or the requests are tried first
abbrev choose : Bool → Bool → Bool → Bool → Bool → Verdict
choose all most flat below own = cond (all && most) (cond flat (cond below Determines Silent) (cond own Repeats Silent)) Silent

abbrev choice : Bool → Bool → Bool → Bool → Bool → Rule
choice all most flat below own =
    cond most (cond all (cond flat (cond below NotDue AtTop) (cond own Repeating OwnLower)) RequestMissing) NoMajority

abbrev first : Bool → Bool → Bool → Bool → Bool → Rule
first all most flat below own =
    cond all (cond most (cond flat (cond below NotDue AtTop) (cond own Repeating OwnLower)) NoMajority) RequestMissing

chosen : (all most flat below own : Bool) → (verdict_of (choice all most flat below own) ≡ choose all most flat below own)
    × (verdict_of (first all most flat below own) ≡ choose all most flat below own)
chosen true true true true own = (refl, refl)
chosen true true true false own = (refl, refl)
chosen true true false below true = (refl, refl)
chosen true true false below false = (refl, refl)
chosen true false flat below own = (refl, refl)
chosen false true flat below own = (refl, refl)
chosen false false flat below own = (refl, refl)

pub verdict-first : (n : Node) → (verdict_of (counted_rule n) ≡ verdict n) × (verdict_of (first_rule n) ≡ verdict n)
unfolding verdict complete counted_rule first_rule
verdict-first n =
    chosen (is_inside n.round.merged (requesters n.round.known)) (enough n.setup.config n.round.merged) (level n)
    (ltb n.version top_version) (eqb n.version n.round.highest)

-- a verdict compared with one of the three
pub is-determines : (v : Verdict) → sameb the_type v Determines ≡ determining v
is-determines Determines = refl
is-determines Repeats = refl
is-determines Silent = refl

pub is-repeats : (v : Verdict) → sameb the_type v Repeats ≡ repeating v
is-repeats Determines = refl
is-repeats Repeats = refl
is-repeats Silent = refl

-- whether a new schedule is due, read off the first rule
pub due-told : (n : Node) {first : Rule} {v : Verdict} {t d : Bool} → first ≡ first_rule n → v ≡ verdict_of first → t ≡ sameb the_type v Determines
    → d ≡ (is_last n.setup.config n.epoch.place && (t || n.epoch.updated)) → d ≡ due n
unfolding due
due-told n {first} {v} e f g h = h ∙ ap (λ (t : Bool). is_last n.setup.config n.epoch.place && (t || n.epoch.updated))
    (g ∙ is-determines v ∙ ap determining (f ∙ ap verdict_of e ∙ (verdict-first n).1))

-- the rule of a close: a new schedule sent, then the mark of an earlier round, then the first rule
pub rule-new : (n : Node) → due n ≡ true → rule_of n ≡ NewSent
unfolding rule_of
rule-new n d = hit (due n) NewSent _ d

pub rule-marked : (n : Node) → due n ≡ false → n.epoch.updated ≡ true → rule_of n ≡ NotDue
unfolding rule_of
rule-marked n d u = skip (due n) NewSent _ _ d (hit n.epoch.updated NotDue (first_rule n) u)

pub rule-first : (n : Node) → due n ≡ false → n.epoch.updated ≡ false → rule_of n ≡ first_rule n
unfolding rule_of
rule-first n d u = skip (due n) NewSent _ _ d (skip n.epoch.updated NotDue (first_rule n) _ u refl)

-- a close by whether it is due
abbrev pub closed_by : Core → List ℕ → Bool → Bool → Bool → ℕ → Core
closed_by c counters due updated repeats version =
    record {
      setup = c.setup;
      version = version;
      demand = c.demand;
      request = core_request c version;
      flags = c.flags;
      round = lapsed;
      counters = counters;
      interactions = c.interactions;
      place = c.place;
      updated = updated && not due;
      phase = Distribution (due || repeats);
    }

and-true : (t : Bool) → (t && true) ≡ t
and-true true = refl
and-true false = refl

and-false : (t : Bool) → (t && false) ≡ false
and-false true = refl
and-false false = refl

pub closed-as : (c : Core) → closed_by c (counts_by (bare c)) (due (bare c)) (updated_by (bare c)) (repeats (bare c))
    (cond (due (bare c)) (successor c.version) c.version) ≡ core_of (closed_node (bare c))
unfolding closed_node raised stayed
closed-as c = go (due (bare c))
  where
    n : Node
    n = bare c

    go : (t : Bool) → closed_by c (counts_by (bare c)) t (updated_by (bare c)) (repeats (bare c))
        (cond t (successor c.version) c.version)
        ≡ core_of (cond t (raised (bare c) (counts_by (bare c)) (determined_by (bare c)))
        (stayed (bare c) (counts_by (bare c)) (updated_by (bare c)) (determined_by (bare c)) (repeats (bare c))))
    go true = λ i. record {
      setup = c.setup;
      version = successor c.version;
      demand = c.demand;
      request = core_request c (successor c.version);
      flags = c.flags;
      round = lapsed;
      counters = counts_by (bare c);
      interactions =
          c.interactions;
      place = c.place;
      updated = and-false (updated_by (bare c)) i;
      phase = Distribution true;
    }
    go false = λ i. record {
      setup = c.setup;
      version = c.version;
      demand = c.demand;
      request = (hit (eqb c.version c.version) c.request c.demand (eq-eqb c.version c.version refl)) i;
      flags =
          c.flags;
      round = lapsed;
      counters = counts_by (bare c);
      interactions = c.interactions;
      place = c.place;
      updated =
          and-true (updated_by (bare c)) i;
      phase = Distribution (repeats (bare c));
    }

-- the node after a close
pub close-moved : (n : Node) → moved_by n (core_closed (core_of n)).core (core_closed (core_of n)).change ≡ closed_node n
unfolding core_closed closed_node due verdict complete level raised stayed
close-moved n = go (due n) (determines n)
  where
    go : (t d : Bool) → moved_by n (core_of
        (cond t (raised (bare (core_of n)) (counts_by n) (determined_by (bare (core_of n))))
        (stayed (bare (core_of n)) (counts_by n) (updated_by n) (determined_by (bare (core_of n))) (repeats n)))) (close_move_by t d)
        ≡ cond t (raised n (counts_by n) (cond d (dealt_schedule (core_of n) n.schedule) n.epoch.determined))
        (stayed n (counts_by n) (updated_by n) (cond d (dealt_schedule (core_of n) n.schedule) n.epoch.determined) (repeats n))
    go true true = refl
    go true false = refl
    go false true = refl
    go false false = refl

-- an end by whether the epoch ends
abbrev pub round_ended_by : Core → Bool → Bool → Core
round_ended_by c last expired =
    record {
      setup = c.setup;
      version = cond expired 0 c.version;
      demand = c.demand;
      request = core_request c (cond expired 0 c.version);
      flags = flags_after c last;
      round = opened c.setup.node (cond expired 0 c.version) (flags_after c last) (core_request c (cond expired 0 c.version));
      counters = cond last (replicate 32 0) c.counters;
      interactions = cond last 0 c.interactions;
      place = cond last 0 (c.place + 1);
      updated = c.updated && not last;
      phase = Negotiation;
    }

pub turned_as : (c : Core) (t : Bool) → round_ended_by c t (t && expires (bare c)) ≡ core_of (cond t (next_epoch (bare c)) (next_round (bare c)))
unfolding next_epoch next_round begun
turned_as c true = λ i. record {
  setup = c.setup;
  version = cond (expires (bare c)) 0 c.version;
  demand = c.demand;
  request = core_request c (cond (expires (bare c)) 0 c.version);
  flags = flags_after c true;
  round =
      opened c.setup.node (cond (expires (bare c)) 0 c.version) (flags_after c true)
      (core_request c (cond (expires (bare c)) 0 c.version));
  counters = replicate 32 0;
  interactions = 0;
  place = 0;
  updated =
      and-false c.updated i;
  phase = Negotiation;
}
turned_as c false =
    let e = hit (eqb c.version c.version) c.request c.demand (eq-eqb c.version c.version refl) in
    λ i. record {
      setup = c.setup;
      version = c.version;
      demand = c.demand;
      request = e i;
      flags = c.flags;
      round = opened c.setup.node c.version c.flags (e i);
      counters = c.counters;
      interactions = c.interactions;
      place = c.place + 1;
      updated =
          and-true c.updated i;
      phase = Negotiation;
    }

pub turn-move : (t e : Bool) → end_move_by t (t && e) ≡ end_move_by t e
turn-move true e = refl
turn-move false e = refl

-- the node after an end
epoch-moved : (n : Node) (e : Bool)
    → moved_by n (core_of (begun n.setup (cond e 0 n.version) (cond e free free) n.demand (request_at n (cond e 0 n.version))
    (members_of n.epoch.counters n.setup.node n.setup.config.min_heard))) (end_move_by true e)
    ≡ begun n.setup (cond e 0 n.version) (cond e free n.schedule) n.demand (request_at n (cond e 0 n.version))
    (members_of n.epoch.counters n.setup.node n.setup.config.min_heard)
unfolding begun
epoch-moved n true = refl
epoch-moved n false = refl

pub end_moved : (n : Node) → moved_by n (core_ended (core_of n)).core (core_ended (core_of n)).change ≡ ended_node n
unfolding core_round_ended core_waited ended_node next_epoch next_round begun waits_on
end_moved n = go (is_waiting n.phase) (is_last n.setup.config n.epoch.place)
  where
    step : Bool → Bool → CoreStep
    step w t =
        cond w
        (step_of (core_of (cond t (rejoined (bare (core_of n))) (waits_on (bare (core_of n))))) (end_move_by t true))
        (step_of (core_of (cond t (next_epoch (bare (core_of n))) (next_round (bare (core_of n))))) (end_move_by t (expires n)))

    go : (w t : Bool) → moved_by n (step w t).core (step w t).change
        ≡ cond w (cond t (rejoined n) (waits_on n)) (cond t (next_epoch n) (next_round n))
    go true true = refl
    go true false = refl
    go false true = epoch-moved n (expires n)
    go false false = refl

-- a node that holds the schedule that it takes
abbrev pub holding : Node → Versioned → Node
holding n q = record {
  setup = n.setup;
  version = n.version;
  schedule = q.schedule;
  demand = n.demand;
  request = n.request;
  flags = n.flags;
  round = n.round;
  epoch = n.epoch;
  phase = n.phase;
}

pub take-moved : (n : Node) (q : Versioned)
    → moved_by (holding n q) (core_taken (core_of n) q.version).core (core_taken (core_of n) q.version).change ≡ taken_node n q
unfolding core_taken taken_node taken_epoch
take-moved n q = go (eqb n.version q.version)
  where
    go : (t : Bool) → moved_by (holding n q) (core_of (taken_node (bare (core_of n)) (record { version = q.version; schedule = free })))
        (take_move_by t)
        ≡ record {
          setup = n.setup;
          version = q.version;
          schedule = q.schedule;
          demand = n.demand;
          request = request_at n q.version;
          flags = n.flags;
          round = n.round;
          epoch =
              record {
                counters = n.epoch.counters;
                interactions = (taken_epoch n q.version).interactions;
                place = n.epoch.place;
                updated = n.epoch.updated
                    && eqb n.version q.version;
                determined = cond t n.epoch.determined free;
              };
          phase = n.phase;
        }
    go true = refl
    go false = refl

-- a take keeps the determined schedule or drops it
pub take-change : (c : Core) (v : ℕ) → (core_taken c v).change ≡ take_move_by (eqb c.version v)
unfolding core_taken
take-change c v = refl

-- after a hear
pub hear-moved : (n : Node) (q : Packet) → node_of (core_of (heard_node (bare (core_of n)) q)) (pair n.schedule n.epoch.determined)
    ≡ heard_node n q
unfolding heard_node merges interacted
hear-moved n q = go (merges n q)
  where
    go : (t : Bool) → node_of (core_of
        (cond t (within (bare (core_of n)) (joined n.round q) (interacted (bare (core_of n)).epoch q))
        (within (bare (core_of n)) (noted n.round q) (bare (core_of n)).epoch))) (pair n.schedule n.epoch.determined)
        ≡ cond t (within n (joined n.round q) (interacted n.epoch q)) (within n (noted n.round q) n.epoch)
    go true = refl
    go false = refl
