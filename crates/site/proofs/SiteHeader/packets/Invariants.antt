use mathlib.Core.Path.{◌≡◌}
use Prim.Native.Nat.{◌≤◌, ◌+◌, ◌*◌}
use lib.ListN.{length, drop}
use Rattle.allotment.specs.Allotment.{total}
use Rattle.site.proofs.SiteHeader.packets.Given as goal

abbrev pub invariant-loop-x : goal.invariant-loop-x
invariant-loop-x l =
    (length l.fn.self.sent ≡ 32) × (l.n ≤ 255 * l.x-index) × (l.n + total (drop l.x-index l.fn.self.sent) ≡ total l.fn.self.sent)
