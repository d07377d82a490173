use mathlib.Core.Path.{◌≡◌}
use Prim.Native.Nat.{◌+◌}
use lib.ListN.{drop}
use Rattle.text.specs.Read.{before}
use Rattle.group.specs.Places.{place}
use Rattle.sites.proofs.places.place_of.Given as goal

abbrev pub invariant-loop-i : goal.invariant-loop-i
invariant-loop-i l = place l.x l.places ≡ l.i + before l.x (drop l.i l.places)
