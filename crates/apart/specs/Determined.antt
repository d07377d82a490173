-- What boxes with a clock each determine, and in which epoch.
-- Assumes nothing.
use Rattle.std.specs.Prelude.{◌≡◌, true, cond, List, ℕ, zero, suc, ◌+◌, ◌≤◌}
use Rattle.node.specs.Figures.{is_last}
use Rattle.node.specs.Close.{determines, new_schedule}
use Rattle.node.specs.Model.{Node}
use Rattle.area.specs.Area.{decoded}
use Rattle.node.specs.declared.Config.{Config}
use Rattle.site.specs.declared.Table.{Table}
use Rattle.boxes.specs.fleet.Fleet.{Box, live, begun_fleet}
use Rattle.boxes.specs.fleet.Past.{BoxDetermination}
use Rattle.apart.specs.Apart.{Apart, negotiation, last_phase, tick_box}

-- the place f of a phase, and how many epochs have ended before it
unfoldable pub place_of_phase : Config → ℕ → ℕ
place_of_phase f zero = 0
place_of_phase f (suc s) = cond (last_phase s) (cond (is_last f (place_of_phase f s)) 0 (place_of_phase f s + 1)) (place_of_phase f s)

unfoldable pub epoch_of : Config → ℕ → ℕ
epoch_of f zero = 0
epoch_of f (suc s) = cond (last_phase s) (cond (is_last f (place_of_phase f s)) (suc (epoch_of f s)) (epoch_of f s)) (epoch_of f s)

-- box k as it was at its own start of phase s: as it was begun, or as going on from the phase before left it
abbrev pub start_of : Config → Table → (ℕ → List ℕ) → Apart → ℕ → ℕ → Box
start_of f t left A zero k = (begun_fleet f t left).boxes k
start_of f t left A (suc s) k = tick_box s ((A.phases s).boxes k)

-- the node of box j as it last was in phase s
abbrev pub node_in_phase : Apart → ℕ → ℕ → Node
node_in_phase A s j = decoded ((A.phases s).boxes j).area

-- box j has come to the negotiation of phase s, and is live as it last was in it
pub record Negotiates (A : Apart) (s j : ℕ) : Type 0 where
  pub number : 1 ≤ j
  pub phase : negotiation s ≡ true
  pub came : s ≤ A.clock j
  pub lives : live ((A.phases s).boxes j) ≡ true

-- box j determined a version at its close of phase s; or it would, if it closed now
pub record Determines (f : Config) (A : Apart) (s j : ℕ) : Type 0 where
  pub negotiates : Negotiates A s j
  pub number : j ≤ f.nodes
  pub determines : determines (node_in_phase A s j) ≡ true

-- what it determined
abbrev pub determined : Config → Table → (ℕ → List ℕ) → Apart → ℕ → ℕ → BoxDetermination
determined f t left A s j =
    record {
      epoch = epoch_of f s;
      start = start_of f t left A s;
      node = j;
      version = (node_in_phase A s j).version + 1;
      schedule = new_schedule (node_in_phase A s j);
      nodes = (node_in_phase A s j).round.merged;
      requests = (node_in_phase A s j).round.known;
    }
