use Prim.Native.Nat.{◌+◌}
use lib.ListN.{length, drop}
use mathlib.Core.Path.{◌≡◌}
use Rattle.lists.proofs.Chain.{Left}
use Rattle.desk.specs.listing.Rows.{more_owners}
use Rattle.desk.proofs.listing.put_owners.Given as goal

-- What is left to be written are the owners from the next one on, each with a comma before it.
abbrev pub invariant-loop-owner : goal.invariant-loop-owner
invariant-loop-owner l =
    Left l.initial.out l.initial.pos (more_owners l.more) l.out l.pos (more_owners (drop l.owner-index l.more))
