use mathlib.Core.Path.{◌≡◌, refl, sym, ap, ◌∙◌}
use Prim.Native.Nat.{ℕ}
use Rattle.words.proofs.Tests.{hit, skip}
use Rattle.node.specs.Core.{core_of, bare}
use Rattle.node.specs.Negotiation.{heard_node}
use Rattle.node.specs.declared.Core.{Core}
use Rattle.site.specs.Members.{with_node}
use Rattle.machine.specs.Inner.{next_put}
use Rattle.machine.specs.Layout.{Store, store, config_in, node_in, stored_in}
use Rattle.machine.specs.Written.{written_front}
use Rattle.machine.specs.Acts.{heard_put}
use Rattle.machine.proofs.Moves.{heard-core, next-put}
use Rattle.machine.proofs.Seats.{at-node-index}
use Rattle.machine.proofs.Whole.{at_place}
use Rattle.machine.proofs.acts.hear.Goals as goal

pub returns-then-no_node : goal.returns-then-no_node
unfolding heard_put
returns-then-no_node c =
    let a = c.args in
    let s = store a.words.now a.bytes.now in
    let e : s ≡ heard_put s a.j a.q = sym (hit _ _ _ (sym c.no_node.ensures ∙ c.if-no_node.true)) in record {
      words_after = ap (λ (x : Store). x.words) e;
      bytes_after = ap (λ (x : Store). x.bytes) e;
    }

pub invariant_of-core : goal.invariant_of-core
invariant_of-core c =
    let a = c.args in
    let h = at_place (store a.words.now a.bytes.now) a.j (sym c.no_node.ensures ∙ c.if-no_node.false) in
    record { long = (h.0, h.1.0) }

pub put_next-requires : goal.put_next-requires
put_next-requires c =
    let a = c.args in
    let h = at_place (store a.words.now a.bytes.now) a.j (sym c.no_node.ensures ∙ c.if-no_node.false) in
    (c.node_index-i.ensures.within, h.0, h.1.0)

pub returns : goal.returns
unfolding heard_put
returns c =
    let a = c.args in
    let s = store a.words.now a.bytes.now in
    let i = c.node_index-i.result in
    let p = sym c.no_node.ensures ∙ c.if-no_node.false in
    let e = at-node-index (config_in s) a.j c.node_index-i.ensures.value (at_place s a.j p).1.1 in
    let next = c.hear.ensures ∙ ap (λ (x : Core). core_of (heard_node (bare x) a.q)) c.core-c.ensures
    ∙ heard-core (node_in s i) a.q in
    let z : next_put s i c.hear.result ≡ heard_put s a.j a.q =
    next-put s i (heard_node (node_in s i) a.q) next
    ∙ ap (λ (k : ℕ). written_front s k (with_node (stored_in s k) (heard_node (node_in s k) a.q))) e
    ∙ sym (skip _ _ _ _ p refl) in record {
      words_after = c.put_next.ensures.words_after ∙ ap (λ (x : Store). x.words) z;
      bytes_after = c.put_next.ensures.bytes_after ∙ ap (λ (x : Store). x.bytes) z;
    }
