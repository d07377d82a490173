-- Specification, 3.7 Demands by the hour: a day has D epochs, and a list of windows says which demand a node has in which of them.
-- Assumes nothing.
use Rattle.std.specs.Prelude.{Bool, Option, Some, None, not, cond, ◌&&◌, List, ℕ, ◌+◌, eqb, ltb, leb, length, get_or}
use Rattle.lists.specs.All.{iter, tab, all_below}
use Rattle.allotment.specs.Allotment.{top_request}
use Rattle.windows.specs.declared.Window.{Window}

-- the most windows of a list, and the most epochs of a day
abbrev pub top_windows : ℕ
top_windows = 64

abbrev pub top_day : ℕ
top_day = 1440

-- what stands behind a list's last window
abbrev pub no_window : Window
no_window = record { node = 0; first = 0; end = 0; demand = 0 }

-- the window at an index
abbrev pub window_at : List Window → ℕ → Window
window_at ws i = get_or ws i no_window

-- a day is 1 to 1,440 epochs
abbrev pub day_ok : ℕ → Bool
day_ok D = leb 1 D && leb D top_day

-- node 1 to N; first below end, and end at most D; demand within its range
abbrev pub window_ok : ℕ → ℕ → Window → Bool
window_ok N D w = (leb 1 w.node && leb w.node N) && (ltb w.first w.end && (leb w.end D && leb w.demand top_request))

-- a window holds from its first epoch on, and before its end
abbrev pub holds_at : Window → ℕ → Bool
holds_at w e = leb w.first e && ltb e w.end

-- two windows of one node that share an epoch
abbrev pub overlap : Window → Window → Bool
overlap v w = eqb v.node w.node && (ltb v.first w.end && ltb w.first v.end)

-- the window at index i keeps the rules, and overlaps none before it
abbrev pub entry_ok : ℕ → ℕ → List Window → ℕ → Bool
entry_ok N D ws i = window_ok N D (window_at ws i) && all_below i (λ k. not (overlap (window_at ws k) (window_at ws i)))

-- a list that keeps the rules for N nodes and a day of D epochs: else it is refused as 16
unfoldable pub list_ok : ℕ → ℕ → List Window → Bool
list_ok N D ws = day_ok D && (leb (length ws) top_windows && all_below (length ws) (entry_ok N D ws))

-- whether node j has windows
unfoldable pub has_windows : List Window → ℕ → Bool
has_windows ws j = not (all_below (length ws) (λ i. not (eqb (window_at ws i).node j)))

-- whether a window is one of node j that holds in epoch e
abbrev pub is_due : ℕ → ℕ → Window → Bool
is_due j e w = eqb w.node j && holds_at w e

-- the demand of the window of node j that holds in epoch e, or 0 outside them
unfoldable pub demand_at : List Window → ℕ → ℕ → ℕ
demand_at ws j e = iter (length ws) (λ i d. cond (is_due j e (window_at ws i)) (window_at ws i).demand d) 0

-- the demand of node j as epoch e begins, where it was d: a node without windows keeps it
unfoldable pub due_at : List Window → ℕ → ℕ → ℕ → ℕ
due_at ws j e d = cond (has_windows ws j) (demand_at ws j e) d

-- those of 32 nodes, where each was d
unfoldable pub due_all : List Window → ℕ → ℕ → List ℕ
due_all ws e d = tab 32 (λ i. due_at ws (i + 1) e d)

-- what a box asks of a list: the demand, where it keeps the rules
abbrev pub looked_of : ℕ → ℕ → List Window → ℕ → ℕ → ℕ → Option ℕ
looked_of N D ws j e d = cond (list_ok N D ws) (Some (due_at ws j e d)) None
