-- Algorithm 1, lines 39 to 41, and specification, 3.3 Distribution: a node that doesn't send takes a sender's version and schedule.
-- Assumes nothing.
use Rattle.std.specs.Prelude.{cond, ◌&&◌, ℕ, eqb}
use Rattle.words.specs.Bits.{all_of}
use Rattle.allotment.specs.Allotment.{free}
use Rattle.node.specs.Figures.{distributes, sending, request_at}
use Rattle.node.specs.Model.{Epoch}
use Rattle.node.specs.Model.{Node}
use Rattle.node.specs.declared.Phase.{Phase}
use Rattle.node.specs.Model.{Versioned}
use Rattle.node.specs.Answers.{Answer}
use Rattle.node.specs.Answers.{Done, WrongPhase, WrongSender}

-- what a node sends in distribution: its version and schedule
unfoldable pub sent_by : Node → Versioned
sent_by n = record { version = n.version; schedule = n.schedule }

-- line 41: all N enter I_e. At another version `updated` falls, and with it the determined schedule (the specification's own rule, 3.3)
unfoldable pub taken_epoch : Node → ℕ → Epoch
taken_epoch n v =
    record {
      counters = n.epoch.counters;
      interactions = all_of n.setup.config.nodes;
      place = n.epoch.place;
      updated = n.epoch.updated && eqb n.version v;
      determined = cond (eqb n.version v) n.epoch.determined free;
    }

-- line 39: version and schedule are taken
unfoldable pub taken_node : Node → Versioned → Node
taken_node n q =
    record {
      setup = n.setup;
      version = q.version;
      schedule = q.schedule;
      demand = n.demand;
      request = request_at n q.version;
      flags = n.flags;
      round = n.round;
      epoch = taken_epoch n q.version;
      phase = n.phase;
    }

-- 4 outside distribution, 10 where the taker sends
abbrev pub may_take : Phase → Answer
may_take p = cond (distributes p) (cond (sending p) WrongSender Done) WrongPhase

unfoldable pub take_answer : Node → Answer
take_answer n = may_take n.phase
