-- Specification, 6 Node calls and node area: which slots a node owns, as its area holds them. So a box need not make a call to know its
-- slots.
-- Nodes and slots are counted from 0 here, as in masks.
-- Assumes nothing.
use Rattle.std.specs.Prelude.{◌≡◌, true, List, ℕ, ◌+◌, ◌<◌, eqb}
use Rattle.std.specs.Int.Count.{ones}
use Rattle.masks.specs.Slots.{low_of, high_of, count_of, holds}
use Rattle.masks.specs.Bytes.{masks_in}
use Rattle.allotment.specs.Allotment.{owners_of, owner_of, count}
use Rattle.allotment.specs.Model.{Schedule}
use Rattle.area.specs.Area.{at_schedule, at_determined, decoded, valid}

-- the masks at a place of an area, and the schedule that they hold
pub record InMasks (a : List ℕ) (at : ℕ) (s : Schedule) : Type 0 where
  -- a node holds just the slots that it owns
  pub slots : (i k : ℕ) → i < 32 → k < 80 → holds (masks_in a at) i k ≡ eqb (owner_of s k) (i + 1)
  -- no two nodes hold one slot
  pub apart : (i j k : ℕ) → i < 32 → j < 32 → k < 80 → holds (masks_in a at) i k ≡ true → holds (masks_in a at) j k ≡ true → i ≡ j
  -- the count of a node is that of the ones in its two words
  pub counted : (i : ℕ) → i < 32 → count_of (masks_in a at) i ≡ ones (low_of (masks_in a at) i) + ones (high_of (masks_in a at) i)
  -- and how many slots it owns
  pub owned : (i : ℕ) → i < 32 → count_of (masks_in a at) i ≡ count (i + 1) (owners_of s)

-- the theorem's statement, of both schedules of an area that is a node's: proved in proofs/Masked.antt
pub record SlotsHeld : Type 0 where
  pub schedule : (a : List ℕ) → valid a ≡ true → InMasks a at_schedule (decoded a).schedule
  pub determined : (a : List ℕ) → valid a ≡ true → InMasks a at_determined (decoded a).epoch.determined
