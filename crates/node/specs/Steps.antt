-- A node's steps that all nodes of a site make at once, and the change of its demand: a refusal changes nothing.
-- Assumes nothing.
use Rattle.std.specs.Prelude.{cond, ℕ, leb}
use Rattle.allotment.specs.Allotment.{top_request}
use Rattle.node.specs.Answers.{is_done}
use Rattle.node.specs.Close.{close_answer, closed_node}
use Rattle.node.specs.End.{end_answer, ended_node}
use Rattle.node.specs.Model.{Node}
use Rattle.node.specs.Answers.{Answer}
use Rattle.node.specs.Answers.{Done, OutOfRange}

-- the next node where the answer is Done, and the node as it was after a refusal
abbrev pub outcome : Answer → Node → Node → Node
outcome a after before = cond (is_done a) after before

abbrev pub close_outcome : Node → Node
close_outcome n = outcome (close_answer n) (closed_node n) n

abbrev pub end_outcome : Node → Node
end_outcome n = outcome (end_answer n) (ended_node n) n

-- another demand; the request stays
unfoldable pub wanted_node : Node → ℕ → Node
wanted_node n d = record {
  setup = n.setup;
  version = n.version;
  schedule = n.schedule;
  demand = d;
  request = n.request;
  flags = n.flags;
  round = n.round;
  epoch = n.epoch;
  phase = n.phase;
}

-- 2 above the greatest demand
unfoldable pub want_answer : ℕ → Answer
want_answer d = cond (leb d top_request) Done OutOfRange
