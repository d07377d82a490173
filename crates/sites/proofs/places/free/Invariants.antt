use mathlib.Core.Path.{◌≡◌}
use Rattle.lists.proofs.Maps.{map_to}
use Rattle.group.specs.Places.{freed_entry}
use Rattle.sites.proofs.places.free.Given as goal

abbrev pub invariant-loop-x : goal.invariant-loop-x
invariant-loop-x l = l.places ≡ map_to (freed_entry l.a) l.x-index l.initial.places
