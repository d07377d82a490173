use Prim.Native.Nat.{◌≤◌, ◌-◌}
use mathlib.Core.Path.{◌≡◌}
use lib.ListN.{length}
use Rattle.machine.specs.Layout.{store}
use Rattle.desk.specs.listing.Rows.{page, with_rows}
use Rattle.desk.proofs.listing.put_rows.Given as goal

-- The rows from the i-th on, put behind what is written, are all of them.
abbrev pub invariant-loop-i : goal.invariant-loop-i
invariant-loop-i l =
    (l.i ≤ l.n) × (length l.out ≡ length l.initial.out)
    × (with_rows (l.n - l.i) l.i (store l.words l.bytes) l.k (page l.out l.at)
    ≡ with_rows l.n 0 (store l.words l.bytes) l.k (page l.initial.out l.to))
