-- The whole case (specification, 8 Listing) on three boxes: the theorem of crates/boxes speaks of them, and something is determined there,
-- so its claim is not empty.
-- Assumes nothing.
use Rattle.std.specs.Prelude.{◌≡◌, List, [], ◌∷◌, map, ℕ, take, replicate}
use Rattle.node.specs.Answers.{number}
use Rattle.node.specs.declared.Config.{Config}
use Rattle.site.specs.declared.Row.{Row}
use Rattle.site.specs.declared.Table.{Table}
use Rattle.site.specs.declared.Event.{Event}
use Rattle.site.specs.declared.Event.TheVariants.{Send, Hear, Close, Take, End}
use Rattle.boxes.specs.fleet.Fleet.{Act, fleet_answers, begun_fleet}
use Rattle.boxes.specs.fleet.Past.{BoxDetermination}
use Rattle.boxes.specs.fleet.Claim.{Begins, box_determinations}

-- the script's settings, table and events
abbrev pub settings : Config
settings = record { nodes = 3; slots = 4; rounds = 1; min_heard = 1; split = 0 }

abbrev pub row : Row
row = record { version = 1; flags = 7; want = 2 }

abbrev pub case_table : Table
case_table = record { rows = row ∷ row ∷ row ∷ [] }

abbrev pub act : Event → Act
act e = record { event = e; left = [] }

abbrev pub acts : List Act
acts = map act (Send 2 ∷ Send 3 ∷ Hear 1 1 ∷ Hear 1 2 ∷ Close ∷ Take 3 2 ∷ Take 2 1 ∷ End ∷ [])

-- memory that is full of 255 before `hydra_begin`
abbrev pub full : ℕ → List ℕ
full j = replicate 1000 255

-- who determined what: number, version, nodes, and the requests of the three
abbrev pub shown_determination : BoxDetermination → List ℕ
shown_determination d = d.node ∷ d.version ∷ d.nodes ∷ take 3 d.requests

abbrev pub determined_there : List (List ℕ)
determined_there = map shown_determination (box_determinations settings case_table full acts)

-- the boxes begin; the events are answered as the script's listing has it, the first taking refused as 10; and box 1 alone determines,
-- version 2 from all three requests
pub record WholeCase : Type 0 where
  pub begins : Begins settings case_table full
  pub answers : map number (fleet_answers (begun_fleet settings case_table full) acts) ≡ 0 ∷ 0 ∷ 0 ∷ 0 ∷ 0 ∷ 10 ∷ 0 ∷ 0 ∷ []
  pub determines : determined_there ≡ (1 ∷ 2 ∷ 7 ∷ 2 ∷ 2 ∷ 2 ∷ []) ∷ []
