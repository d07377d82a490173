-- The hypotheses can be met: a site of one node whose window gives it a demand in epoch 0 and none in epoch 1.
-- Assumes nothing.
use mathlib.Core.Path.{◌≡◌, refl}
use mathlib.Core.Bool.{true}
use mathlib.Core.List.{List, [], ◌∷◌}
use Prim.Native.Nat.{ℕ}
use lib.ListN.{replicate}
use Rattle.lists.specs.All.{iter, all_below, tab}
use Rattle.words.specs.Bits.{is_in}
use Rattle.node.specs.Figures.{config_ok, flags_ok}
use Rattle.node.specs.Begin.{start_answer}
use Rattle.node.specs.Answers.{Done}
use Rattle.site.specs.Load.{no_row, row_ok, table_ok, load_answer}
use Rattle.node.specs.declared.Config.{Config}
use Rattle.site.specs.declared.Table.{Table}
use Rattle.windows.specs.Windows.{list_ok, has_windows, demand_at, due_at}
use Rattle.windows.specs.declared.Window.{Window}
use Rattle.machine.specs.timed.Timed.{timed_load_answer}

config : Config
config = record { nodes = 1; slots = 4; rounds = 1; min_heard = 1; split = 0 }

table : Table
table = record { rows = record { version = 1; flags = 1; want = 2 } ∷ replicate 31 no_row }

windows : List Window
windows = record { node = 1; first = 0; end = 1; demand = 5 } ∷ []

-- accepted, by computation: the one place here that needs the text of a node's tests
loads : timed_load_answer config table 2 windows ≡ Done
unfolding config table windows timed_load_answer load_answer table_ok row_ok start_answer config_ok flags_ok all_below list_ok
loads = refl

given : due_at windows 1 0 2 ≡ 5
unfolding windows due_at has_windows demand_at all_below iter
given = refl

taken : due_at windows 1 1 5 ≡ 0
unfolding windows due_at has_windows demand_at all_below iter
taken = refl
