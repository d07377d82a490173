-- A node's two schedules as masks in bytes: the held one at a place, and the determined one behind it. What a step makes of them there.
-- Assumes nothing.
use Rattle.std.specs.Prelude.{Bool, true, false, cond, List, ℕ, ◌+◌, leb, length}
use Rattle.lists.specs.Bytes.{span, written}
use Rattle.masks.specs.Bytes.{masks_size, no_slots, cleared}
use Rattle.allotment.specs.InPlace.{held_bytes, held_in}
use Rattle.node.specs.Core.{dealt_schedule}
use Rattle.node.specs.declared.Core.{Core}
use Rattle.node.specs.declared.Move.{Move}
use Rattle.node.specs.declared.Move.TheVariants.{Keep, Determine, Raise, DetermineAndRaise, Drop, Free}

-- how many bytes both take, and where the determined one stands
abbrev pub both_size : ℕ
both_size = 704

abbrev pub behind : ℕ → ℕ
behind at = at + masks_size

-- line 27: what a node determines from the schedule that it holds, written to a place
abbrev pub dealt_in : Core → List ℕ → ℕ → ℕ → List ℕ
dealt_in c l at to = written l to (held_bytes (dealt_schedule c (held_in l at)))

-- what a move makes of both, by the core before the step: masks that a move leaves or copies are the same bytes, well formed or not
abbrev pub moved_there : Move → Core → List ℕ → ℕ → List ℕ
moved_there Keep c l at = l
moved_there Determine c l at = dealt_in c l at (behind at)
moved_there Raise c l at = written (written l at (span l (behind at) masks_size)) (behind at) no_slots
moved_there DetermineAndRaise c l at = written (dealt_in c l at at) (behind at) no_slots
moved_there Drop c l at = written l (behind at) no_slots
moved_there Free c l at = written (written l at no_slots) (behind at) no_slots

-- without room for both nothing changes
unfoldable pub moved_in : Move → Core → List ℕ → ℕ → List ℕ
moved_in m c l at = cond (leb (at + both_size) (length l)) (moved_there m c l at) l

-- whether a move leaves both schedules
abbrev pub keeps : Move → Bool
keeps Keep = true
keeps Determine = false
keeps Raise = false
keeps DetermineAndRaise = false
keeps Drop = false
keeps Free = false

-- what a move makes of both where it deals and raises none, as an end's: no core is asked; any other leaves them here
unfoldable pub dropped_in : Move → List ℕ → ℕ → List ℕ
dropped_in Keep l at = l
dropped_in Determine l at = l
dropped_in Raise l at = l
dropped_in DetermineAndRaise l at = l
dropped_in Drop l at = cleared l (behind at)
dropped_in Free l at = cleared (cleared l at) (behind at)
