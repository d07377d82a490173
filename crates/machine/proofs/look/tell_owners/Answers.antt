use mathlib.Core.Path.{refl, sym, ◌∙◌}
use Prim.Native.Nat.{◌+◌, ◌≤◌}
use native.Mathlib.Omega.{arith}
use lib.ListN.{length}
use Rattle.words.proofs.Tests.{hit, skip}
use Rattle.masks.specs.Bytes.{masks_size}
use Rattle.machine.specs.Layout.{store, config_in, schedules_at}
use Rattle.machine.specs.Loading.{node_owners_written}
use Rattle.machine.proofs.Owned.{told-as}
use Rattle.machine.proofs.Seats.{at-node-index}
use Rattle.machine.proofs.Whole.{at_place, schedule-read}
use Rattle.machine.proofs.look.tell_owners.Goals as goal

pub returns-then-no_node : goal.returns-then-no_node
unfolding node_owners_written
returns-then-no_node c = sym (hit _ _ _ (sym c.no_node.ensures ∙ c.if-no_node.true))

pub returns : goal.returns
unfolding node_owners_written
returns c =
    let a = c.args in
    let s = store a.words.now a.bytes.now in
    let p = sym c.no_node.ensures ∙ c.if-no_node.false in
    let h = at_place s a.j p in
    let i = c.node_index.result in
    let room : schedules_at i + masks_size ≤ length a.bytes.now = omega (arith, c.node_index.ensures.within, h.1.0) in
    let e = at-node-index (config_in s) a.j c.node_index.ensures.value h.1.1 in
    c.tell.ensures
    ∙ told-as a.bytes.now (schedules_at i) a.out.now a.to room (schedule-read s a.j h.0 h.1.0 h.1.1 i e)
    ∙ sym (skip _ _ _ _ p refl)
