-- A load that is accepted, by computation: one node that asks for the one slot.
-- Three calls behind it: none that is an event, a close and an end.
-- Assumes nothing.
use mathlib.Core.Path.{◌≡◌, refl}
use mathlib.Core.List.{List, [], ◌∷◌}
use Prim.Native.Nat.{ℕ}
use Rattle.lists.specs.All.{all_below, tab}
use Rattle.node.specs.Figures.{config_ok, flags_ok}
use Rattle.node.specs.Begin.{start_answer}
use Rattle.node.specs.Answers.{Done}
use Rattle.site.specs.Load.{row_ok, table_ok, load_answer}
use Rattle.node.specs.declared.Config.{Config}
use Rattle.windows.specs.Windows.{list_ok}
use Rattle.machine.specs.timed.Timed.{timed_load_answer}
use Rattle.tally.specs.Counting.{first_tally}
use Rattle.sites.specs.one.Calls.{table_from}
use Rattle.calls.specs.ledger.Ledger.{Made}
use Rattle.calls.proofs.ledger.Witness.{Met, met}

abbrev pub one_site : Config
one_site = record { nodes = 1; slots = 1; rounds = 1; min_heard = 1; split = 0 }

abbrev pub rows : List ℕ
rows = 1 ∷ 1 ∷ 1 ∷ []

pub loads : timed_load_answer one_site (table_from rows) 1 [] ≡ Done
unfolding timed_load_answer load_answer table_ok row_ok start_answer config_ok flags_ok all_below list_ok table_from tab
loads = refl

-- three numbers without windows and reports
abbrev call : ℕ → ℕ → ℕ → Made
call e j p = record { event = e; node = j; with = p; windows = []; tally = first_tally; reports = [] }

pub example : (area : List ℕ) → Met one_site rows 1 [] area (call 99 0 0 ∷ call 3 0 0 ∷ call 5 0 0 ∷ [])
example area = met one_site rows 1 [] area (call 99 0 0 ∷ call 3 0 0 ∷ call 5 0 0 ∷ []) refl loads
