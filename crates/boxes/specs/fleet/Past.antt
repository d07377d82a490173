-- Specification, 10 Lists of events: what has been, beside a field, as crates/histories has it beside a site. The boxes as they were at the
-- round's start, the number of the epoch, and the versions that boxes determined at accepted closes, by the nodes that the bytes of their
-- areas stand for.
-- Assumes nothing.
use Rattle.std.specs.Prelude.{cond, ◌&&◌, List, [], ◌∷◌, ◌++◌, ℕ, zero, suc, ◌+◌}
use Rattle.allotment.specs.Model.{Schedule}
use Rattle.node.specs.Answers.{is_done}
use Rattle.node.specs.Figures.{is_last}
use Rattle.node.specs.Close.{determines, new_schedule}
use Rattle.node.specs.Model.{Node}
use Rattle.area.specs.Area.{decoded}
use Rattle.site.specs.declared.Event.{Event}
use Rattle.site.specs.declared.Event.TheVariants.{Send, Hear, Close, Take, End, Want, Crash, Restart}
use Rattle.boxes.specs.fleet.Fleet.{Box, Fleet, Act, live, fleet_answer, fleet_after}

-- a version that box `node` determined: in which epoch, with which boxes at the round's start; the version v + 1, its schedule, the nodes
-- of M' that it uses, and R'
pub record BoxDetermination : Type 0 where
  pub epoch : ℕ
  pub start : ℕ → Box
  pub node : ℕ
  pub version : ℕ
  pub schedule : Schedule
  pub nodes : ℕ
  pub requests : List ℕ

-- the boxes at the round's start, the number of the epoch, and the versions determined so far
pub record BoxPast : Type 0 where
  pub start : ℕ → Box
  pub epoch : ℕ
  pub log : List BoxDetermination

-- what box j determines now, n being the node in its area
abbrev pub box_determination : BoxPast → ℕ → Node → BoxDetermination
box_determination y j n =
    record {
      epoch = y.epoch;
      start = y.start;
      node = j;
      version = n.version + 1;
      schedule = new_schedule n;
      nodes = n.round.merged;
      requests = n.round.known;
    }

-- of one box: a live one whose node determines
abbrev pub box_determined_by : BoxPast → ℕ → Box → List BoxDetermination
box_determined_by y j b = cond (live b && determines (decoded b.area)) (box_determination y j (decoded b.area) ∷ []) []

-- of the boxes 1 to n
unfoldable pub boxes_determined : ℕ → BoxPast → (ℕ → Box) → List BoxDetermination
boxes_determined zero y boxes = []
boxes_determined (suc n) y boxes = boxes_determined n y boxes ++ box_determined_by y (suc n) (boxes (suc n))

-- an accepted close adds what is determined there
abbrev pub at_close : BoxPast → Fleet → BoxPast
at_close y x = record { start = y.start; epoch = y.epoch; log = y.log ++ boxes_determined x.config.nodes y x.boxes }

-- an accepted end starts a round with the boxes as they are then, and after the last round of an epoch the next epoch
abbrev pub box_past_at_end : BoxPast → Fleet → Fleet → BoxPast
box_past_at_end y x z = record {
  start = z.boxes;
  epoch = cond (is_last x.config x.place) (suc y.epoch) y.epoch;
  log = y.log;
}

-- what an accepted event adds to the past, with the field before it and after it
abbrev pub box_noted : BoxPast → Fleet → Event → Fleet → BoxPast
box_noted y x (Send j) z = y
box_noted y x (Hear j p) z = y
box_noted y x Close z = at_close y x
box_noted y x (Take j i) z = y
box_noted y x End z = box_past_at_end y x z
box_noted y x (Want j d) z = y
box_noted y x (Crash j) z = y
box_noted y x (Restart j flags) z = y

-- a refused event adds nothing
unfoldable pub box_past_after : BoxPast → Fleet → Act → BoxPast
box_past_after y x a = cond (is_done (fleet_answer x a.event)) (box_noted y x a.event (fleet_after x a)) y

-- the past of a list of events
unfoldable pub box_trace : BoxPast → Fleet → List Act → BoxPast
box_trace y x [] = y
box_trace y x (a ∷ acts) = box_trace (box_past_after y x a) (fleet_after x a) acts

-- the first round starts with the boxes just begun
abbrev pub no_box_past : Fleet → BoxPast
no_box_past x = record { start = x.boxes; epoch = 0; log = [] }
