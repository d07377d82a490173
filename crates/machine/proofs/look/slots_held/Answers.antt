use mathlib.Core.Path.{refl, sym, ◌∙◌}
use native.Mathlib.Omega.{arith}
use Rattle.words.proofs.Tests.{hit, skip}
use Rattle.machine.specs.Layout.{store, config_in}
use Rattle.machine.specs.Loading.{slots_read}
use Rattle.machine.proofs.Owned.{slots-are}
use Rattle.machine.proofs.Seats.{inside, at-node-index}
use Rattle.machine.proofs.Whole.{at_place, live-placed, schedule-read}
use Rattle.machine.proofs.look.slots_held.Goals as goal

pub returns-then-not-is_live : goal.returns-then-not-is_live
unfolding slots_read
returns-then-not-is_live c = sym (skip _ _ _ _ (sym c.is_live.ensures ∙ c.if-not-is_live.true) refl)

pub own_slots-requires : goal.own_slots-requires
own_slots-requires c =
    let a = c.args in
    let s = store a.words.now a.bytes.now in
    let h = at_place s a.j (live-placed s a.j (sym c.is_live.ensures ∙ c.if-not-is_live.false)) in
    let i = c.node_index-i.ensures.within in
    (i, omega (arith, i, h.1.0))

pub returns : goal.returns
unfolding slots_read
returns c =
    let a = c.args in
    let s = store a.words.now a.bytes.now in
    let l = sym c.is_live.ensures ∙ c.if-not-is_live.false in
    let h = at_place s a.j (live-placed s a.j l) in
    let e = at-node-index (config_in s) a.j c.node_index-i.ensures.value h.1.1 in
    let f = (inside (config_in s) a.j h.1.1).from in
    c.own_slots.ensures
    ∙ slots-are a.bytes.now _ c.node_index-i.result a.j (omega (arith, e, f))
    (schedule-read s a.j h.0 h.1.0 h.1.1 _ e)
    ∙ sym (hit _ _ _ l)
