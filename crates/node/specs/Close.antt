-- Algorithm 1, lines 24 to 37, and specification, 3.2 Close.
-- Assumes nothing.
use Rattle.std.specs.Prelude.{Bool, true, false, cond, ◌&&◌, ◌||◌, List, ℕ, eqb, ltb}
use Rattle.words.specs.Bits.{is_inside}
use Rattle.membership.specs.counters.Counters.{counted}
use Rattle.allotment.specs.Allotment.{next, free}
use Rattle.allotment.specs.Model.{Schedule}
use Rattle.membership.specs.requests.Requests.{requesters, no_requests}
use Rattle.node.specs.Figures.{top_version, is_last, enough, successor, request_at}
use Rattle.node.specs.Negotiation.{moved, in_negotiation}
use Rattle.node.specs.declared.Round.{Round}
use Rattle.node.specs.Model.{Node}
use Rattle.node.specs.declared.Phase.TheVariants.{Distribution}
use Rattle.node.specs.declared.Verdict.{Verdict}
use Rattle.node.specs.declared.Verdict.TheVariants.{Determines, Repeats, Silent}
use Rattle.node.specs.Answers.{Answer}

-- line 24: no node of M' lacks a request in R', and, unless the site may split, M' is a majority
unfoldable pub complete : Node → Bool
complete n = is_inside n.round.merged (requesters n.round.known) && enough n.setup.config n.round.merged

-- line 26: the lowest version is the highest. At version 0 too, an own rule (S-6)
unfoldable pub level : Node → Bool
level n = eqb n.round.lowest n.round.highest

-- lines 24 to 29: a complete node determines, repeats, or is silent; at the top version it does nothing (the specification's own rule, 3.2)
unfoldable pub verdict : Node → Verdict
verdict n =
    cond (complete n)
    (cond (level n)
    (cond (ltb n.version top_version) Determines Silent)
    (cond (eqb n.version n.round.highest) Repeats Silent))
    Silent

abbrev pub determining : Verdict → Bool
determining Determines = true
determining Repeats = false
determining Silent = false

abbrev pub repeating : Verdict → Bool
repeating Determines = false
repeating Repeats = true
repeating Silent = false

-- line 27: whether a node determines a schedule at this close
abbrev pub determines : Node → Bool
determines n = determining (verdict n)

-- line 29: whether it will repeat, in this round
abbrev pub repeats : Node → Bool
repeats n = repeating (verdict n)

-- line 27: the schedule that a node determines, by the allotment from the requests of the nodes in M'
abbrev pub new_schedule : Node → Schedule
new_schedule n = next n.schedule n.round.merged n.round.known n.setup.config.nodes n.setup.config.slots

-- line 27: the mark `updated`, and the determined schedule that goes with it
abbrev pub updated_by : Node → Bool
updated_by n = determines n || n.epoch.updated

abbrev pub determined_by : Node → Schedule
determined_by n = cond (determines n) (new_schedule n) n.epoch.determined

-- what the round held has lapsed: one fixed form
abbrev pub lapsed : Round
lapsed = record { merged = 0; known = no_requests; lowest = 0; highest = 0; heard = 0 }

-- line 34: it is the epoch's last round, and the mark is set
unfoldable pub due : Node → Bool
due n = is_last n.setup.config n.epoch.place && updated_by n

-- line 35: the version after v with the determined schedule, which are sent; `updated` falls
unfoldable pub raised : Node → List ℕ → Schedule → Node
raised n counters determined =
    record {
      setup = n.setup;
      version = successor n.version;
      schedule = determined;
      demand = n.demand;
      request = request_at n (successor n.version);
      flags = n.flags;
      round = lapsed;
      epoch = record {
        counters = counters;
        interactions = n.epoch.interactions;
        place = n.epoch.place;
        updated = false;
        determined = free;
      };
      phase = Distribution true;
    }

-- lines 36 and 37: a repeating node sends its version and schedule; any other is silent
unfoldable pub stayed : Node → List ℕ → Bool → Schedule → Bool → Node
stayed n counters updated determined sends =
    moved n lapsed (record {
      counters = counters;
      interactions = n.epoch.interactions;
      place = n.epoch.place;
      updated = updated;
      determined = determined;
    })
    (Distribution sends)

-- C_e after this close
abbrev pub counts_by : Node → List ℕ
counts_by n = counted n.epoch.counters n.round.heard

-- lines 24 to 37
unfoldable pub closed_node : Node → Node
closed_node n = cond (due n) (raised n (counts_by n) (determined_by n)) (stayed n (counts_by n) (updated_by n) (determined_by n) (repeats n))

-- refused as 4 outside negotiation
unfoldable pub close_answer : Node → Answer
close_answer n = in_negotiation n.phase
