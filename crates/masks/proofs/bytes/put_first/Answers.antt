use Rattle.std.proofs.Common.{◌<◌, refl, sym, ap, ◌∙◌, arith}
use lib.ListN.{length-take}
use lib.Seq.{get_or-take}
use Rattle.lists.proofs.Chain.{written_none}
use Rattle.masks.specs.Bytes.{bytes64, rows}
use Rattle.masks.proofs.Moves.{words-turn, words_long, words-end}
use Rattle.masks.proofs.bytes.put_first.Goals as goal

pub loop-i-init : goal.loop-i-init
unfolding rows
loop-i-init c = sym (written_none c.zeros.new.s c.args.at)

pub loop-i-preserved : goal.loop-i-preserved
loop-i-preserved c =
    let i = c.loop-i.i in
    let n = c.args.n in
    let w = c.args.low.now in
    let k : i < n = omega (arith, length-take n w, c.loop-i-test.true) in
    words-turn bytes64 8 (λ x. refl) w c.args.out.now c.args.at c.requires.1 c.zeros.ensures i (omega (arith, c.requires, k))
    c.loop-i.invariant (c.long_bytes-b.ensures ∙ ap bytes64 (get_or-take n w i 0 k)) c.put_bytes.ensures

pub shape_of-out : goal.shape_of-out
shape_of-out c =
    let z = c.zeros in
    words_long bytes64 8 (λ x. refl) c.args.low.now c.args.out.now c.args.at c.requires.1 z.ensures c.loop-i.i
    (omega (arith, c.requires)) c.loop-i.invariant

pub returns : goal.returns
returns c =
    let z = c.zeros in
    words-end bytes64 8 (λ x. refl) c.args.low.now c.args.out.now c.args.at c.requires.1 z.ensures c.loop-i.i
    c.args.n (omega arith) c.requires.0 refl c.loop-i.invariant
