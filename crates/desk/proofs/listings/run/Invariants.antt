use mathlib.Core.Path.{◌≡◌}
use mathlib.Core.Bool.{true}
use Prim.Native.Nat.{◌≤◌, ◌-◌, ◌+◌}
use lib.ListN.{length, drop}
use Rattle.text.specs.Read.{split}
use Rattle.lists.proofs.Chain.{Left}
use Rattle.windows.specs.Windows.{list_ok}
use Rattle.machine.specs.Layout.{store, site_in}
use Rattle.desk.specs.listings.Output.{events_in, run_by}
use Rattle.desk.specs.listings.Inner.{run_state_in, lines_text}
use Rattle.desk.proofs.listings.run.Given as goal

-- The lines still to come bring the site and area reached to where all the lines bring the first ones, and what is printed of them is left
-- to be written.
abbrev pub invariant-loop-out : goal.invariant-loop-out
invariant-loop-out l =
    (l.at ≤ length l.script) × (l.n ≤ l.first + l.at) × (length l.words ≡ length l.initial.words)
    × (length l.bytes ≡ length l.initial.bytes) × (length l.area ≡ length l.initial.area)
    × (run_by l.w (run_state_in (store l.words l.bytes) l.day l.area) (events_in (split 10 (drop l.at l.script)))
    ≡ run_by l.w (run_state_in (store l.initial.words l.initial.bytes) l.initial.day l.initial.area)
    (events_in (split 10 (drop l.from l.script))))
    × Left l.initial.out l.to (lines_text l.v l.w
    (run_state_in (store l.initial.words l.initial.bytes) l.initial.day l.initial.area) l.first (split 10 (drop l.from l.script)))
    l.out l.pos
    (lines_text l.v l.w (run_state_in (store l.words l.bytes) l.day l.area) l.n (split 10 (drop l.at l.script)))
    × (list_ok (site_in (store l.words l.bytes)).config.nodes l.day.length l.w ≡ true)

abbrev pub decreases-loop-out : goal.decreases-loop-out
decreases-loop-out l = length l.script - l.at
