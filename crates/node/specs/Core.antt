-- A node but for its two schedules. What a step makes of it is what the node's own definitions make of a node with both
-- schedules free, and what becomes of the schedules is told beside it, as a move. That the next core and the moved
-- schedules are the node's own next step: laws `close-moved`, `end_moved`, `take-moved`, `hear-moved` (proofs/Cores).
-- Assumes nothing.
use Rattle.std.specs.Prelude.{Bool, true, cond, ℕ, eqb}
use Rattle.allotment.specs.Allotment.{next, free}
use Rattle.allotment.specs.Model.{Schedule}
use Rattle.node.specs.Figures.{is_last, is_waiting}
use Rattle.node.specs.Close.{determines, due, closed_node}
use Rattle.node.specs.Distribution.{taken_node}
use Rattle.node.specs.End.{next_round, waits_on, expires, next_epoch, rejoined}
use Rattle.node.specs.Model.{Node}
use Rattle.node.specs.declared.Core.{Core}
use Rattle.node.specs.declared.CoreStep.{CoreStep}
use Rattle.node.specs.Model.{Schedules}
use Rattle.node.specs.declared.Move.{Move}
use Rattle.node.specs.declared.Move.TheVariants.{Keep, Determine, Raise, DetermineAndRaise, Drop, Free}

-- a node but for its two schedules
abbrev pub core_of : Node → Core
core_of n =
    record {
      setup = n.setup;
      version = n.version;
      demand = n.demand;
      request = n.request;
      phase = n.phase;
      flags = n.flags;
      round = n.round;
      counters = n.epoch.counters;
      interactions = n.epoch.interactions;
      place = n.epoch.place;
      updated = n.epoch.updated;
    }

abbrev pub pair : Schedule → Schedule → Schedules
pair held determined = record { held = held; determined = determined }

-- the node of a core and two schedules
abbrev pub node_of : Core → Schedules → Node
node_of c p =
    record {
      setup = c.setup;
      version = c.version;
      schedule = p.held;
      demand = c.demand;
      request = c.request;
      flags = c.flags;
      round = c.round;
      epoch = record {
        counters = c.counters;
        interactions = c.interactions;
        place = c.place;
        updated = c.updated;
        determined = p.determined;
      };
      phase = c.phase;
    }

-- the node of a core with both schedules free
abbrev pub bare : Core → Node
bare c = node_of c (pair free free)

-- line 27: the schedule that a node determines from the held one
abbrev pub dealt_schedule : Core → Schedule → Schedule
dealt_schedule c held = next held c.round.merged c.round.known c.setup.config.nodes c.setup.config.slots

-- what a move makes of the two schedules, by the core before the step
abbrev pub schedules_by : Move → Core → Schedule → Schedule → Schedules
schedules_by Keep c held determined = pair held determined
schedules_by Determine c held determined = pair held (dealt_schedule c held)
schedules_by Raise c held determined = pair determined free
schedules_by DetermineAndRaise c held determined = pair (dealt_schedule c held) free
schedules_by Drop c held determined = pair held free
schedules_by Free c held determined = pair free free

-- a node after a step: the next core, and its schedules moved
abbrev pub moved_by : Node → Core → Move → Node
moved_by n c m = node_of c (schedules_by m (core_of n) n.schedule n.epoch.determined)

-- what a close makes of the schedules: by whether it is due, and whether it determines
abbrev pub close_move_by : Bool → Bool → Move
close_move_by due determines = cond due (cond determines DetermineAndRaise Raise) (cond determines Determine Keep)

abbrev pub close_move : Node → Move
close_move n = close_move_by (due n) (determines n)

-- a close that is not refused
unfoldable pub core_closed : Core → CoreStep
core_closed c = record { core = core_of (closed_node (bare c)); change = close_move (bare c) }

-- what an end makes of the schedules: by whether the epoch ends, and whether the schedule expires
abbrev pub end_move_by : Bool → Bool → Move
end_move_by last expired = cond last (cond expired Free Drop) Keep

-- the end of a node that doesn't wait, and of one that does
unfoldable pub core_round_ended : Core → CoreStep
core_round_ended c =
    record {
      core = core_of (cond (is_last c.setup.config c.place) (next_epoch (bare c)) (next_round (bare c)));
      change = end_move_by (is_last c.setup.config c.place) (expires (bare c));
    }

unfoldable pub core_waited : Core → CoreStep
core_waited c =
    record {
      core = core_of (cond (is_last c.setup.config c.place) (rejoined (bare c)) (waits_on (bare c)));
      change = end_move_by (is_last c.setup.config c.place) true;
    }

abbrev pub core_ended : Core → CoreStep
core_ended c = cond (is_waiting c.phase) (core_waited c) (core_round_ended c)

-- a take of version v: the sender's schedule is held, and then the move
abbrev pub take_move_by : Bool → Move
take_move_by same = cond same Keep Drop

unfoldable pub core_taken : Core → ℕ → CoreStep
core_taken c v = record {
  core = core_of (taken_node (bare c) (record { version = v; schedule = free }));
  change = take_move_by (eqb c.version v);
}
