use mathlib.Core.Path.{◌≡◌}
use Prim.Native.Nat.{◌≤◌, ◌<◌, ◌^◌}
use Rattle.masks.specs.Bytes.{masks_in}
use Rattle.masks.specs.Inner.{taken}
use Rattle.machine.proofs.read.own_slots.Given as goal

abbrev pub invariant-loop-j : goal.invariant-loop-j
invariant-loop-j l =
    (l.j ≤ l.i) × (l.taken_low ≡ taken (masks_in l.bytes l.at).low l.j) × (l.taken_high ≡ taken (masks_in l.bytes l.at).high l.j) × (l.taken_low < 2 ^ 64)
    × (l.taken_high < 2 ^ 16)
