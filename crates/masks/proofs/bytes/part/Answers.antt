use Rattle.std.proofs.Common.{◌≡◌, ℕ, ◌<◌, length, refl, arith}
use Rattle.std.proofs.lemmas.List.{length-replicate}
use lib.ListN.{replicate}
use Rattle.lists.proofs.Laws.{fill_none, fill_more, fill_end}
use Rattle.masks.proofs.bytes.part.Goals as goal

pub loop-i-init : goal.loop-i-init
loop-i-init g c = fill_none _ _

pub loop-i-preserved : goal.loop-i-preserved
loop-i-preserved g c =
    let i = c.loop-i.i in
    let k : i < length (replicate g.row.N 0) = rw (length-replicate {A = ℕ} g.row.N 0) c.loop-i-test.true in
    fill_more _ _ _ _ _ k c.loop-i.invariant refl

pub returns : goal.returns
returns g c =
    let n = g.row.N in
    let e : c.loop-i.i ≡ n = omega arith in
    fill_end _ _ _ _ _ c.loop-i.invariant e (omega (arith, length-replicate {A = ℕ} n 0))
