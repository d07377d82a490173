-- Specification, 3.7 Demands by the hour: the lookup for a box's service. It tests 2 on N, 3 on the node, 16 on the day
-- and the list, and then 2 on the epoch, which is judged by a day that keeps the rules.
-- Assumes nothing.
use Rattle.std.specs.Prelude.{Bool, not, cond, ◌&&◌, List, ℕ, ltb, leb}
use Rattle.node.specs.Answers.{is_done}
use Rattle.node.specs.Figures.{top_nodes}
use Rattle.node.specs.Answers.{Answer}
use Rattle.node.specs.Answers.{Done, OutOfRange, NoSuchNode, BadWindows}
use Rattle.windows.specs.Windows.{list_ok, due_at}
use Rattle.windows.specs.declared.Window.{Window}

-- N is 1 to 32
abbrev pub nodes_ok : ℕ → Bool
nodes_ok N = leb 1 N && leb N top_nodes

-- the answer
unfoldable pub demand_answer : ℕ → ℕ → ℕ → List Window → ℕ → Answer
demand_answer N j D ws e =
    cond (not (nodes_ok N)) OutOfRange
    (cond (not (leb 1 j && leb j N)) NoSuchNode
    (cond (not (list_ok N D ws)) BadWindows
    (cond (ltb e D) Done OutOfRange)))

-- the demand: that of the window of node j that holds in epoch e, 0 outside them, and the one it was where the node has no windows or the
-- call is refused
unfoldable pub demand_after : ℕ → ℕ → ℕ → List Window → ℕ → ℕ → ℕ
demand_after N j D ws e d = cond (is_done (demand_answer N j D ws e)) (due_at ws j e d) d
