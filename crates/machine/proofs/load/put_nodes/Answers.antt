-- After i turns the first i nodes are loaded.
use mathlib.Core.Path.{refl, ap, ◌∙◌}
use native.Mathlib.Omega.{arith}
use Prim.Native.Nat.{min}
use Rattle.lists.proofs.Laws.{iter-none}
use Rattle.site.specs.Model.{Member}
use Rattle.machine.specs.Layout.{store}
use Rattle.machine.specs.Written.{written_free}
use Rattle.machine.specs.Loading.{loaded_at}
use Rattle.machine.proofs.Turns.{turn, turned}
use Rattle.machine.proofs.load.put_nodes.Goals as goal

pub loop-i-init : goal.loop-i-init
loop-i-init c =
    let k = c.places-n.ensures in
    let a = c.args in
    (omega arith, k, refl, refl, iter-none (loaded_at a.f a.t) _)

pub loaded_core-requires : goal.loaded_core-requires
loaded_core-requires c =
    let l = c.loop-i in
    let k = l.invariant.1 in
    (omega arith, omega arith)

pub put_free-requires : goal.put_free-requires
put_free-requires c =
    let l = c.loop-i in
    let d = c.requires in
    let k = l.invariant.1 in
    (omega arith, omega arith, omega arith)

pub overflow_step-i : goal.overflow_step-i
overflow_step-i c = omega arith

pub loop-i-smaller : goal.loop-i-smaller
loop-i-smaller c = omega arith

pub loop-i-preserved : goal.loop-i-preserved
unfolding loaded_at
loop-i-preserved c =
    let l = c.loop-i in
    let a = c.args in
    let o = c.put_free in
    let m = c.loaded_core.ensures in
    let s = store l.words l.bytes in
    let p = o.ensures.words_after ∙ ap (λ (x : Member). (written_free s l.i x).words) m in
    let r = o.ensures.bytes_after ∙ ap (λ (x : Member). (written_free s l.i x).bytes) m in
    (omega arith, l.invariant.1, o.auto.words ∙ l.invariant.2, o.auto.bytes ∙ l.invariant.3, turn (loaded_at a.f a.t) _ l.invariant.4 p r)

pub shape_of-words : goal.shape_of-words
shape_of-words c = c.loop-i.invariant.2

pub shape_of-bytes : goal.shape_of-bytes
shape_of-bytes c = c.loop-i.invariant.3

pub returns : goal.returns
returns c =
    let l = c.loop-i in
    let a = c.args in
    let s = store a.words.now a.bytes.now in
    let k = l.invariant.1 in
    let whole = turned (loaded_at a.f a.t) s l.i (min a.f.nodes 32) l.invariant.4 (omega arith) in record {
      words_after = whole.0;
      bytes_after = whole.1;
    }
