-- Both places tell that the storage is long enough.
use mathlib.Core.Path.{◌≡◌, refl, sym, ap, ap₂, ◌∙◌}
use mathlib.Core.Bool.{◌||◌}
use Prim.Native.Nat.{ℕ, ◌-◌}
use Rattle.words.proofs.Tests.{hit, skip, or-neither}
use Rattle.machine.specs.Layout.{Store, store, config_in}
use Rattle.machine.specs.Written.{taken_at}
use Rattle.machine.specs.Acts.{no_node_at, taken_put}
use Rattle.machine.proofs.Seats.{at-node-index}
use Rattle.machine.proofs.Whole.{at_place}
use Rattle.machine.proofs.acts.take.Goals as goal

pub returns-then-no_node : goal.returns-then-no_node
unfolding taken_put
returns-then-no_node c =
    let a = c.args in
    let s = store a.words.now a.bytes.now in
    let e : s ≡ taken_put s a.j a.g =
    sym (hit _ _ _ (ap₂ ◌||◌ (sym c.no_node.ensures) (sym c.no_node-2.ensures)
    ∙ c.if-no_node.true)) in record {
      words_after = ap (λ (x : Store). x.words) e;
      bytes_after = ap (λ (x : Store). x.bytes) e;
    }

pub take_from-requires : goal.take_from-requires
take_from-requires c =
    let a = c.args in
    let s = store a.words.now a.bytes.now in
    let o = or-neither (no_node_at s a.j) (no_node_at s a.g)
    (ap₂ ◌||◌ (sym c.no_node.ensures)
    (sym c.no_node-2.ensures) ∙ c.if-no_node.false) in
    let h = at_place s a.j o.0 in
    (c.node_index.ensures.within, c.node_index-2.ensures.within, h.0, h.1.0)

pub returns : goal.returns
unfolding taken_put
returns c =
    let a = c.args in
    let s = store a.words.now a.bytes.now in
    let o = or-neither (no_node_at s a.j) (no_node_at s a.g)
    (ap₂ ◌||◌ (sym c.no_node.ensures) (sym c.no_node-2.ensures)
    ∙ c.if-no_node.false) in
    let e = at-node-index (config_in s) a.j c.node_index.ensures.value
    (at_place s a.j o.0).1.1 in
    let f = at-node-index (config_in s) a.g c.node_index-2.ensures.value
    (at_place s a.g o.1).1.1 in
    let z : taken_at s (a.j - 1) (a.g - 1) ≡ taken_put s a.j a.g = sym (skip _ _ _ _ (ap₂ ◌||◌ o.0 o.1) refl) in
    let w = c.take_from.ensures in record {
      words_after = w.words_after ∙ ap₂ (λ (i h : ℕ). (taken_at s i h).words) e f ∙ ap (λ (x : Store). x.words) z;
      bytes_after = w.bytes_after ∙ ap₂ (λ (i h : ℕ). (taken_at s i h).bytes) e f
          ∙ ap (λ (x : Store). x.bytes) z;
    }
