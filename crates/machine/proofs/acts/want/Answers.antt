use mathlib.Core.Path.{◌≡◌, refl, sym, ap, ◌∙◌}
use Prim.Native.Nat.{ℕ}
use Rattle.words.proofs.Tests.{hit, skip}
use Rattle.machine.specs.Layout.{Store, store, config_in}
use Rattle.machine.specs.Written.{demanded}
use Rattle.machine.specs.Acts.{wanted_put}
use Rattle.machine.proofs.Seats.{at-node-index}
use Rattle.machine.proofs.Whole.{at_place}
use Rattle.machine.proofs.acts.want.Goals as goal

pub returns-then-no_node : goal.returns-then-no_node
unfolding wanted_put
returns-then-no_node c =
    let a = c.args in
    let s = store a.words.now a.bytes.now in
    let e : s ≡ wanted_put s a.j a.d = sym (hit _ _ _ (sym c.no_node.ensures ∙ c.if-no_node.true)) in
    ap (λ (x : Store). x.bytes) e

pub want_at-requires : goal.want_at-requires
want_at-requires c =
    let a = c.args in
    let h = at_place (store a.words.now a.bytes.now) a.j (sym c.no_node.ensures ∙ c.if-no_node.false) in
    (c.node_index.ensures.within, h.0, h.1.0)

pub returns : goal.returns
unfolding wanted_put
returns c =
    let a = c.args in
    let s = store a.words.now a.bytes.now in
    let p = sym c.no_node.ensures ∙ c.if-no_node.false in
    let e = at-node-index (config_in s) a.j c.node_index.ensures.value (at_place s a.j p).1.1 in
    let z : demanded s c.node_index.result a.d ≡ wanted_put s a.j a.d = ap (λ (k : ℕ). demanded s k a.d) e
    ∙ sym (skip _ _ _ _ p refl) in
    c.want_at.ensures ∙ ap (λ (x : Store). x.bytes) z
