use mathlib.Core.Path.{◌≡◌}
use Prim.Native.Nat.{◌≤◌, ◌*◌}
use mathlib.Core.List.{map}
use Rattle.lists.specs.All.{tab}
use Rattle.allotment.specs.Allotment.{total}
use Rattle.group.specs.Group.{beyond}
use Rattle.sites.specs.many.Memory.{memory, site_slot_in}
use Rattle.sites.proofs.site_slots.common.Given as goal

abbrev pub invariant-loop-i : goal.invariant-loop-i
invariant-loop-i l = (l.i ≤ 8) × (l.n ≤ 8160 * l.i) × (l.n ≡ total (map beyond (tab l.i (site_slot_in (memory l.words l.bytes l.table)))))
