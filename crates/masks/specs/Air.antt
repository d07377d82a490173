-- Owners that lie in bytes beside masks: what is told of masks, and what masks hold of owners off the air.
-- Assumes nothing.
use Rattle.std.specs.Prelude.{cond, ◌&&◌, List, ℕ, min, ◌+◌, leb, length}
use Rattle.lists.specs.All.{tab}
use Rattle.lists.specs.Bytes.{written}
use Rattle.masks.specs.Slots.{first, holds, masks_of}
use Rattle.masks.specs.Slots.{Masks}
use Rattle.masks.specs.Bytes.{masks_bytes, masks_in, has_room}

-- the owners of the 80 slots by the masks of the first n nodes
unfoldable pub owners_to : Masks → ℕ → List ℕ
owners_to m n = tab 80 (λ k. first (min n 32) (λ i. holds m i k))

-- those of the masks at a place of some bytes, at a place of others; without room for either nothing changes
abbrev pub owners_written : List ℕ → ℕ → ℕ → List ℕ → ℕ → List ℕ
owners_written l at n out to = cond (has_room l at && leb (to + 80) (length out)) (written out to (owners_to (masks_in l at) n)) out

-- the masks of owners at a place; without room nothing changes
abbrev pub with_owners : List ℕ → ℕ → List ℕ → List ℕ
with_owners l at owners = cond (has_room l at) (written l at (masks_bytes (masks_of owners))) l
