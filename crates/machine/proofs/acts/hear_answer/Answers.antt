use Rattle.node.proofs.Bare.{hear-bare}
use Rattle.machine.proofs.Whole.{at_place}
use Rattle.machine.proofs.Seats.{at-node-index}
use Rattle.machine.specs.Inner.{core_in}
use Rattle.machine.specs.Acts.{hear_read}
use Rattle.machine.specs.Layout.{store, config_in, node_in}
use Rattle.node.specs.declared.Core.{Core}
use Rattle.node.specs.Core.{bare}
use Rattle.node.specs.Negotiation.{hear_answer}
use mathlib.Core.Path.{refl, sym, ap, ◌∙◌}
use Rattle.words.proofs.Tests.{hit, skip}
use Prim.Native.Nat.{◌-◌}
use Rattle.machine.proofs.acts.hear_answer.Goals as goal

pub returns-then-no_node : goal.returns-then-no_node
unfolding hear_read
returns-then-no_node c = sym (hit _ _ _ (sym c.no_node.ensures ∙ c.if-no_node.true))

pub invariant_of-core : goal.invariant_of-core
invariant_of-core c =
    let a = c.args in
    let s = store a.words.now a.bytes.now in
    let h = at_place s a.j (sym c.no_node.ensures ∙ c.if-no_node.false) in
    record { long = (h.0, h.1.0) }

pub returns : goal.returns
unfolding hear_read
returns c =
    let a = c.args in
    let s = store a.words.now a.bytes.now in
    let p = sym c.no_node.ensures ∙ c.if-no_node.false in
    let e = at-node-index (config_in s) a.j c.node_index.ensures.value (at_place s a.j p).1.1 in
    c.hear_answer.ensures ∙ ap (λ (x : Core). hear_answer (bare x) a.q) (c.core-c.ensures ∙ ap (core_in s) e)
    ∙ hear-bare (node_in s (a.j - 1)) a.q ∙ sym (skip _ _ _ _ p refl)
