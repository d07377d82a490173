use mathlib.Core.Path.{◌≡◌}
use Prim.Native.Nat.{◌≤◌, ◌-◌}
use lib.ListN.{length}
use Rattle.lists.specs.Bytes.{written}
use Rattle.text.specs.Write.{decimal}
use Rattle.text.proofs.Decimal.{lowest}
use Rattle.text.proofs.put_digits.Given as goal

-- What is left to be written are the lowest digits of what is left of the number.
abbrev pub invariant-loop-i : goal.invariant-loop-i
invariant-loop-i l = (l.at ≤ l.i) × (l.i ≤ length l.initial.out) × (length l.out ≡ length l.initial.out)
    × (written l.out l.at (lowest (l.i - l.at) l.v) ≡ written l.initial.out l.at (decimal l.x))
