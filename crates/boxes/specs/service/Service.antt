-- Specification, 3.7 Demands by the hour: a box gets the demand of its window by calls that it has anyway. Before `hydra_begin` its service
-- asks `hydra_demand` for the demand of epoch 0 and begins with that; right before the last `hydra_end` of an epoch it asks for the next
-- one's and hands it to `hydra_want`. The node area is then the one that a site's load, or its end, with windows makes of the node.
-- Assumes nothing.
use Rattle.std.specs.Prelude.{◌≡◌, true, false, List, ℕ, ◌-◌, length, get_or}
use Rattle.node.specs.Answers.{Done}
use Rattle.area.specs.Area.{node_size, encoded, decoded, valid}
use Rattle.host.specs.Calls.{beginning, after_begin, after_want, after_end}
use Rattle.site.specs.Members.{setup_of, member_at, outside}
use Rattle.site.specs.Load.{no_row}
use Rattle.site.specs.Steps.{end_member}
use Rattle.node.specs.declared.Config.{Config}
use Rattle.site.specs.declared.Row.{Row}
use Rattle.site.specs.declared.Table.{Table}
use Rattle.site.specs.Model.{Member}
use Rattle.windows.specs.declared.Window.{Window}
use Rattle.machine.specs.timed.Timed.{given_member, timed_load_answer, loaded_timed}
use Rattle.host.specs.lookup.Lookup.{demand_answer, demand_after}

-- a node area as the member of a site that is up
abbrev pub box_member : List ℕ → Member
box_member a = record { up = true; node = decoded a }

-- the table's row of box j, and the demand with which it begins: what `hydra_demand` makes of the row's want for epoch 0
abbrev pub row_of : Table → ℕ → Row
row_of t j = get_or t.rows (j - 1) no_row

abbrev pub first_demand : Config → Table → ℕ → List Window → ℕ → ℕ
first_demand f t D ws j = demand_after f.nodes j D ws 0 (row_of t j).want

-- the statement: proved in proofs/service/Proved.antt
pub record Service : Type 0 where
  -- of every node area a, for node j of N, a day of D epochs, and the epoch e that begins with this end
  pub same : (N j D e : ℕ) (ws : List Window) → demand_answer N j D ws e ≡ Done → (a : List ℕ) → valid a ≡ true
      → after_end (after_want a (demand_after N j D ws e (decoded a).demand)) ≡ encoded (end_member (given_member ws e j (box_member a))).node
  -- of every box j of a site whose load with windows is accepted, on memory of 828 bytes that hold anything: the lookup and the beginning
  -- are done, and the area is that node's
  pub begins : (f : Config) (t : Table) (D : ℕ) (ws : List Window) → timed_load_answer f t D ws ≡ Done → (j : ℕ) → outside f j ≡ false
      → (a : List ℕ) → length a ≡ node_size
      → (demand_answer f.nodes j D ws 0 ≡ Done)
      × (beginning a (setup_of f j) (row_of t j).version (row_of t j).flags (first_demand f t D ws j) ≡ Done)
      × (after_begin a (setup_of f j) (row_of t j).version (row_of t j).flags (first_demand f t D ws j)
      ≡ encoded (member_at (loaded_timed f t D ws).site j).node)
