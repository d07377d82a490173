-- What the calls on an area are made of: an area read, and a step written to it. No contract of a call cites this.
-- Assumes nothing.
use Rattle.std.specs.Prelude.{Bool, Option, Some, None, cond, ◌&&◌, List, ℕ, eqb, ltb, length}
use Rattle.lists.specs.Bytes.{written}
use Rattle.masks.specs.Slots.{masks_of}
use Rattle.masks.specs.Bytes.{masks_bytes, fit_read}
use Rattle.range.specs.Range.{in_range}
use Rattle.node.specs.Core.{core_of, bare}
use Rattle.node.specs.InPlace.{moved_in}
use Rattle.node.specs.declared.Core.{Core}
use Rattle.node.specs.declared.Move.{Move}
use Rattle.area.specs.Area.{node_size, at_schedule, at_determined, front_of, decoded, valid}

-- whether the node but for its schedules is within the ranges, and both schedules are, by their masks
abbrev pub area_fits : List ℕ → Core → Bool
area_fits a c =
    in_range (bare c)
    && (fit_read a at_schedule (cond (ltb 0 c.version) c.setup.config.slots 0) c.setup.config.nodes
    && fit_read a at_determined (cond c.updated c.setup.config.slots 0) c.setup.config.nodes)

-- an area opened: its node but for the schedules, where it is what the library writes
abbrev pub area_read : List ℕ → Option Core
area_read a = cond (valid a) (Some (core_of (decoded a))) None

-- a step: the schedules moved, and the next node's bytes before them
abbrev pub area_stepped : Core → Move → Core → List ℕ → List ℕ
area_stepped next m before a = cond (eqb (length a) node_size) (written (moved_in m before a at_schedule) 0 (front_of (bare next))) a

-- the masks of owners off the air in place of the held ones
abbrev pub area_holding : List ℕ → List ℕ → List ℕ
area_holding owners a = cond (eqb (length a) node_size) (written a at_schedule (masks_bytes (masks_of owners))) a
