use native.Mathlib.Omega.{arith}
use Rattle.lists.proofs.Maps.{map-none, map_more, map-end}
use Rattle.group.specs.Places.{freed_entry, freed}
use Rattle.sites.proofs.places.free.Goals as goal

pub loop-x-init : goal.loop-x-init
loop-x-init c = map-none _ _

pub loop-x-preserved : goal.loop-x-preserved
loop-x-preserved c =
    let l = c.loop-x in
    let a = c.args in
    map_more (freed_entry a.a) l.x-index a.places.now l.places 0 _ (omega arith) l.invariant c.freed_entry.ensures

pub returns : goal.returns
unfolding freed
returns c =
    let l = c.loop-x in
    let a = c.args in
    map-end (freed_entry a.a) l.x-index a.places.now l.places l.invariant (omega arith)
