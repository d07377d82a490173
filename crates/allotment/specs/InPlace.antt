-- A schedule as masks that stand at a place in bytes, and the allotment (specification, 4) on them.
-- Assumes nothing.
use Rattle.std.specs.Prelude.{cond, ◌&&◌, List, ℕ}
use Rattle.lists.specs.Bytes.{written}
use Rattle.masks.specs.Slots.{owners_in, masks_of}
use Rattle.masks.specs.Bytes.{masks_bytes, masks_in, has_room}
use Rattle.allotment.specs.Allotment.{owners_of, schedule_of, next}
use Rattle.allotment.specs.Model.{Schedule}

-- a schedule is held as masks: its bytes, and the schedule that the bytes at a place stand for, whatever they are
unfoldable pub held_bytes : Schedule → List ℕ
held_bytes s = masks_bytes (masks_of (owners_of s))

unfoldable pub held_in : List ℕ → ℕ → Schedule
held_in l at = schedule_of (owners_in (masks_in l at))

-- the next schedule of the masks at one place, as masks at another; without room for masks at both nothing changes
unfoldable pub next_in : List ℕ → ℕ → ℕ → ℕ → List ℕ → ℕ → ℕ → List ℕ
next_in l at to members requests N K = cond (has_room l at && has_room l to)
    (written l to (held_bytes (next (held_in l at) members requests N K))) l
