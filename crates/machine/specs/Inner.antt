-- Only the contracts of private functions cite these: no public contract and no theorem does.
-- The core of a node of storage.
-- Assumes nothing.
use Rattle.std.specs.Prelude.{Bool, ℕ}
use Rattle.node.specs.Core.{core_of, bare}
use Rattle.node.specs.declared.Core.{Core}
use Rattle.node.specs.Model.{Node}
use Rattle.site.specs.Model.{Member}
use Rattle.machine.specs.Layout.{Store, up_in, node_in}
use Rattle.machine.specs.Written.{written_front}

-- the core of the node at index i
abbrev pub core_in : Store → ℕ → Core
core_in s i = core_of (node_in s i)

abbrev pub member_of : Bool → Node → Member
member_of up n = record { up = up; node = n }

-- the next core of the node at index i, which stays up or down as it was
abbrev pub next_put : Store → ℕ → Core → Store
next_put s i c = written_front s i (member_of (up_in s.bytes i) (bare c))
