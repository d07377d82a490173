-- Only the contracts of private functions cite these: no public contract and no theorem does.
-- Assumes nothing.
use Rattle.std.specs.Prelude.{Bool, true, cond, ◌&&◌, List, ℕ, ◌+◌, leb, set}
use Rattle.allotment.specs.Allotment.{top_request}
use Rattle.site.specs.Events.{is_end}
use Rattle.site.specs.Model.{Site}
use Rattle.site.specs.declared.Row.{Row}
use Rattle.site.specs.declared.Event.{Event}
use Rattle.windows.specs.Windows.{list_ok}
use Rattle.windows.specs.declared.Window.{Window}
use Rattle.machine.specs.Layout.{Store, node_bytes_at, up_in}
use Rattle.machine.specs.Loading.{header_read}
use Rattle.machine.specs.timed.Timed.{next_in_day, in_last_round}
use Rattle.machine.specs.declared.Day.{Day}

-- the day after an accepted end of a site
abbrev pub day_begun : Site → Day → Day
day_begun s d = cond (in_last_round s) (next_in_day d) d

-- a number that is no demand: no node gets it
abbrev pub no_demand : ℕ
no_demand = 16

-- a row with demand d, or with its own where d is none
abbrev pub row_given : Row → ℕ → Row
row_given r d = record { version = r.version; flags = r.flags; want = cond (leb d top_request) d r.want }

-- demand d for the node at index i, if the node is up: one byte
abbrev pub demand_given : List ℕ → ℕ → ℕ → List ℕ
demand_given b i d = cond (leb d top_request && up_in b i) (set b (node_bytes_at i + 1) d) b

-- what an event's list is found to be: only an end looks at it
abbrev pub list_verdict : Store → Day → List Window → Event → Bool
list_verdict s d ws e = cond (is_end e) (list_ok (header_read s).config.nodes d.length ws) true
