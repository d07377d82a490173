-- What only private contracts cite: windows in order, and where a pass over a list marks what it found.
-- Assumes nothing.
use Rattle.std.specs.Prelude.{Bool, cond, ◌&&◌, ◌||◌, ℕ, zero, suc, eqb, ltb, leb}
use Rattle.windows.specs.Windows.{no_window, window_ok, holds_at}
use Rattle.windows.specs.declared.Window.{Window}

-- w stands behind v: it is of a later node, or of the same one and doesn't begin before v ends
abbrev pub follows : Window → Window → Bool
follows v w = ltb v.node w.node || (eqb v.node w.node && leb v.end w.first)

-- of windows f 0, f 1, .. the one before that at index i
abbrev pub last_of : (ℕ → Window) → ℕ → Window
last_of f zero = no_window
last_of f (suc i) = f i

-- the window at index i keeps the rules by itself, and stands behind the one before it
abbrev pub ordered_at : ℕ → ℕ → (ℕ → Window) → ℕ → Bool
ordered_at N D f i = window_ok N D (f i) && follows (last_of f i) (f i)

-- where a node's number stands in a list of the numbers 0 to 32
abbrev pub demand_entry : ℕ → ℕ
demand_entry j = cond (leb j 32) j 0

-- that of a window's node where the window holds in epoch e, and otherwise 0
abbrev pub entry_due : ℕ → Window → ℕ
entry_due e w = cond (holds_at w e) (demand_entry w.node) 0
