use lib.ListN.{drop, length}
use Rattle.text.specs.Read.{split}
use Rattle.script.specs.load.Opening.{empty_table, table_lines}
use mathlib.Core.Path.{◌≡◌}
use Prim.Native.Nat.{◌≤◌, ◌-◌, ◌+◌}
use Rattle.script.proofs.load.rows.Given as goal

-- The rows still to come, read into the table so far, come to what all the rows come to; each way out of the loop is a law of `table_lines`
-- for the line found.
abbrev pub invariant-loop-i : goal.invariant-loop-i
invariant-loop-i l = (l.at ≤ length l.s) × (table_lines l.config l.config.nodes 0 4 empty_table (split 10 (drop l.fn.from l.s))
    ≡ table_lines l.config (l.config.nodes - l.i) l.i (4 + l.i) (record { rows = l.rows }) (split 10 (drop l.at l.s)))
