-- What readers may rely on of a list that keeps the rules.
-- Assumes nothing.
use Rattle.std.specs.Prelude.{◌≡◌, true, false, List, ℕ, ◌≤◌, ◌<◌, length}
use Rattle.allotment.specs.Allotment.{top_request}
use Rattle.windows.specs.Windows.{window_at, list_ok, has_windows, is_due, demand_at}
use Rattle.windows.specs.declared.Window.{Window}

-- the laws' statement, of any list that keeps the rules for N nodes and a day of D epochs: proved in proofs/Laws.antt
pub record Rules : Type 0 where
  -- at most one window of a node holds in an epoch
  pub one : (N D : ℕ) (ws : List Window) → list_ok N D ws ≡ true
      → (j e i k : ℕ) → i < length ws → k < length ws → is_due j e (window_at ws i) ≡ true → is_due j e (window_at ws k) ≡ true → i ≡ k
  -- the demand is that of the window which holds
  pub within : (N D : ℕ) (ws : List Window) → list_ok N D ws ≡ true
      → (j e i : ℕ) → i < length ws → is_due j e (window_at ws i) ≡ true → demand_at ws j e ≡ (window_at ws i).demand
  -- and 0 where none does
  pub outside : (ws : List Window) (j e : ℕ) → ((i : ℕ) → i < length ws → is_due j e (window_at ws i) ≡ false) → demand_at ws j e ≡ 0
  -- a node that has windows is one of the N, and its demand is within its range
  pub node : (N D : ℕ) (ws : List Window) → list_ok N D ws ≡ true → (j : ℕ) → has_windows ws j ≡ true → (1 ≤ j) × (j ≤ N)
  pub range : (N D : ℕ) (ws : List Window) → list_ok N D ws ≡ true → (j e : ℕ) → demand_at ws j e ≤ top_request
