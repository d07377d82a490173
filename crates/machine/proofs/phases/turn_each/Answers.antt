use mathlib.Core.Path.{◌≡◌, refl, ap, ◌∙◌}
use Prim.Native.Nat.{◌≤◌, ◌<◌}
use native.Mathlib.Omega.{arith}
use lib.ListN.{length}
use Rattle.lists.proofs.Laws.{iter-none}
use Rattle.node.specs.declared.Config.{Config}
use Rattle.machine.specs.Layout.{store, config_at, words_size}
use Rattle.machine.specs.Written.{each, nodes_in}
use Rattle.machine.proofs.Turns.{turn, turned, config-kept}
use Rattle.machine.proofs.phases.turn_each.Goals as goal

pub overflow_cast-n : goal.overflow_cast-n
overflow_cast-n g c =
    let k = c.places-n.ensures in
    omega arith

pub loop-i-init : goal.loop-i-init
loop-i-init g c =
    let k = c.places-n.ensures in
    (omega arith, omega arith, refl, refl, c.requires.2, iter-none (each g.T.Turn.turns g.T.Turn.step g.T.Turn.change) _)

pub turn-requires : goal.turn-requires
turn-requires g c =
    let l = c.loop-i in
    let d = c.requires in
    (omega arith, omega arith, omega arith, l.invariant.4)

pub overflow_step-i : goal.overflow_step-i
overflow_step-i g c = omega arith

pub loop-i-smaller : goal.loop-i-smaller
loop-i-smaller g c = omega arith

pub loop-i-preserved : goal.loop-i-preserved
loop-i-preserved g c =
    let l = c.loop-i in
    let q = l.invariant in
    let o = c.turn in
    let small : l.i < 32 = omega (arith, q.1, c.loop-i-test.true) in
    let room : words_size ≤ length l.words = omega (arith, q.2, c.requires.0) in (
      omega arith,
      q.1,
      o.auto.words ∙ q.2,
      o.auto.bytes ∙ q.3,
      config-kept g.T.Turn.turns g.T.Turn.step g.T.Turn.change l.i (store l.words l.bytes) small room q.4 o.ensures.words_after,
      turn (each g.T.Turn.turns g.T.Turn.step g.T.Turn.change) _ q.5 o.ensures.words_after o.ensures.bytes_after,
    )

pub shape_of-words : goal.shape_of-words
shape_of-words g c = c.loop-i.invariant.2

pub shape_of-bytes : goal.shape_of-bytes
shape_of-bytes g c = c.loop-i.invariant.3

pub returns : goal.returns
returns g c =
    let l = c.loop-i in
    let a = c.args in
    let s = store a.words.now a.bytes.now in
    let e : a.f.nodes ≡ (config_at a.words.now).nodes = ap (λ (x : Config). x.nodes) c.requires.2 in
    let whole = turned (each g.T.Turn.turns g.T.Turn.step g.T.Turn.change) s l.i (nodes_in s) l.invariant.5 (omega (arith, c.places-n.ensures, e)) in record {
      words_after = whole.0;
      bytes_after = whole.1;
    }
