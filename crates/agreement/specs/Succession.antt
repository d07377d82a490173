-- What the rule for a dark site adds over demand 3's lists (specification, 10.3): version 0 is never sent; and as an epoch begins after one
-- in which a version was determined, nobody holds a schedule that clashes with it. The first is said of every site, the second of one that
-- may not split (S-14).
-- Assumes nothing.
use Rattle.std.specs.Prelude.{◌≡◌, true, ◌⊎◌, ◌≢◌, ℕ, ◌+◌, ◌<◌}
use mathlib.Core.List.{List, Memᴰ}
use Rattle.allotment.specs.Allotment.{free, owner_of}
use Rattle.allotment.specs.Model.{Schedule}
use Rattle.node.specs.Figures.{sending}
use Rattle.node.specs.Model.{Node}
use Rattle.node.specs.Answers.{Done}
use Rattle.site.specs.Load.{load_answer}
use Rattle.node.specs.declared.Config.{Config}
use Rattle.site.specs.declared.Table.{Table}
use Rattle.site.specs.declared.Event.{Event}
use Rattle.site.specs.declared.Event.TheVariants.{Close, End}
use Rattle.histories.specs.Past.{Determination}
use Rattle.histories.specs.Reached.{reached, past_of, Accepted, LiveAfter, node_after, EndsEpoch}

-- two schedules give no slot to different nodes
pub record NoClash (s u : Schedule) : Type 0 where
  pub same : (k : ℕ) → owner_of s k ≢ 0 → owner_of u k ≢ 0 → owner_of s k ≡ owner_of u k

-- beside a determined version: version 0 with all slots free, the version just below with a schedule that does not clash, or that version
-- with that very schedule
pub record Heir (d : Determination) (n : Node) : Type 0 where
  pub is : ((n.version ≡ 0) × (n.schedule ≡ free))
      ⊎ (((n.version + 1 ≡ d.version) × NoClash n.schedule d.schedule) ⊎ ((n.version ≡ d.version) × (n.schedule ≡ d.schedule)))

-- beside version 1: version 0, at which all slots are free, or version 1 with that very schedule
pub record FirstHeir (d : Determination) (n : Node) : Type 0 where
  pub is : ((n.version ≡ 0) × (n.schedule ≡ free)) ⊎ ((n.version ≡ 1) × (n.schedule ≡ d.schedule))

pub record Succession (f : Config) (t : Table) (area : List ℕ) (es : List Event) : Type 0 where
  -- whoever sends after an accepted close sends a version above 0
  pub above : Accepted (reached f t area es) Close → (j : ℕ) → LiveAfter (reached f t area es) Close j
      → sending (node_after (reached f t area es) Close j).phase ≡ true → 0 < (node_after (reached f t area es) Close j).version
  -- a version was determined in the epoch that ends: what each live node holds as the next one begins
  pub heirs : f.split ≡ 0 → EndsEpoch (reached f t area es) → (d : Determination) → Memᴰ d (past_of f t area es).log
      → d.epoch ≡ (past_of f t area es).epoch → (j : ℕ) → LiveAfter (reached f t area es) End j
      → Heir d (node_after (reached f t area es) End j)
  -- the same where that version is 1: the nodes that determined it stood at 0
  pub first : f.split ≡ 0 → EndsEpoch (reached f t area es) → (d : Determination) → Memᴰ d (past_of f t area es).log
      → d.epoch ≡ (past_of f t area es).epoch → d.version ≡ 1
      → (j : ℕ) → LiveAfter (reached f t area es) End j → FirstHeir d (node_after (reached f t area es) End j)

-- the theorem's statement: proved in proofs/Succession.antt
pub record Succeeds : Type 0 where
  pub succession : (f : Config) (t : Table) → load_answer f t ≡ Done → (area : List ℕ) (es : List Event) → Succession f t area es
