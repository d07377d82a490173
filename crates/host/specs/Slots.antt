-- What `hydra_slots` and `hydra_read` tell of one area, and the masks in it (specification, 6 Node calls and node area): on every area that
-- the calls accept they agree.
-- Slots are counted from 0 here, and so are the nodes of masks.
-- Assumes nothing.
use Rattle.std.specs.Prelude.{◌≡◌, Bool, List, ℕ, ◌+◌, ◌-◌, ◌<◌, eqb, get_or}
use Rattle.words.specs.Bits.{how_many}
use Rattle.lists.specs.Bytes.{span}
use Rattle.masks.specs.Slots.{low_of, high_of, count_of, has_slot, holds}
use Rattle.masks.specs.Bytes.{masks_in}
use Rattle.node.specs.Answers.{Done}
use Rattle.area.specs.Area.{at_schedule, decoded}
use Rattle.host.specs.Calls.{reading_of, out_read, slots_answer, out_slots}

-- the owner that a report shows for the slot of index k: the 80 owners are behind the 4 bytes of the version
abbrev pub shown_owner : List ℕ → ℕ → ℕ
shown_owner report k = get_or (span report 4 80) k 0

-- and the phase that it shows, 0 in negotiation
abbrev pub shown_phase : List ℕ → ℕ
shown_phase report = get_or report 94 0

-- the numbers that `hydra_slots` wrote: whether they have the slot of index k, and how many they tell
abbrev pub slot_shown : List ℕ → ℕ → Bool
slot_shown shown k = has_slot (get_or shown 0 0) (get_or shown 1 0) k

abbrev pub count_shown : List ℕ → ℕ
count_shown shown = get_or shown 2 0

-- the numbers are what masks hold of the node at index i
pub record RowOf (a : List ℕ) (i : ℕ) (shown : List ℕ) : Type 0 where
  pub low : get_or shown 0 0 ≡ low_of (masks_in a at_schedule) i
  pub high : get_or shown 1 0 ≡ high_of (masks_in a at_schedule) i
  pub count : get_or shown 2 0 ≡ count_of (masks_in a at_schedule) i

-- the statement: proved in proofs/Slots.antt
pub record SlotsShown : Type 0 where
  -- `hydra_read` shows a node as a slot's owner just where the node's mask has the slot
  pub shown : (a out : List ℕ) → reading_of a out ≡ Done → (i k : ℕ) → i < 32 → k < 80
      → holds (masks_in a at_schedule) i k ≡ eqb (shown_owner (out_read a out) k) (i + 1)
  -- `hydra_slots` tells just the slots for which `hydra_read` shows the node's own number, and how many these are
  pub own : (a words out : List ℕ) → slots_answer a words ≡ Done → reading_of a out ≡ Done
      → (k : ℕ) → slot_shown (out_slots a words) k ≡ eqb (shown_owner (out_read a out) k) (decoded a).setup.node
  pub counted : (a words out : List ℕ) → slots_answer a words ≡ Done → reading_of a out ≡ Done
      → count_shown (out_slots a words) ≡ how_many 80 (λ k. eqb (shown_owner (out_read a out) k) (decoded a).setup.node)
  -- it answers 0 in negotiation alone
  pub phase : (a words out : List ℕ) → slots_answer a words ≡ Done → reading_of a out ≡ Done → shown_phase (out_read a out) ≡ 0
  -- its numbers are the node's own of the masks
  pub row : (a words : List ℕ) → slots_answer a words ≡ Done → RowOf a ((decoded a).setup.node - 1) (out_slots a words)
