use Rattle.std.proofs.Common.{◌≡◌, suc, ◌+◌, ◌-◌, arith, drop}
use Rattle.text.specs.Read.{split}
use Rattle.reduce.specs.Reduced.{lines_in}
use Rattle.reduce.proofs.Writing.{first-zero, first-nothing, first-next}
use Rattle.reduce.proofs.lines_end.Goals as goal

pub returns-in-None : goal.returns-in-None
returns-in-None c =
    let l = c.loop-i in
    omega (arith, l.invariant.long, first-nothing _ _ (c.args.n - l.i) c.in-None.ensures)

pub loop-i-preserved : goal.loop-i-preserved
loop-i-preserved c =
    let l = c.loop-i in
    let n = c.args.n in
    let h = c.in-Some.ensures in
    let z : n - l.i ≡ suc (n - (l.i + 1)) = omega (arith, c.loop-i-test.true) in
    record {
      within = h.within;
      long = omega (arith, l.invariant.long, h.onward, first-next _ _ _ (n - l.i) (n - (l.i + 1)) z h);
    }

pub returns : goal.returns
returns c =
    let l = c.loop-i in
    omega (
      arith,
      l.invariant.long,
      first-zero (c.args.n - l.i) (lines_in (split 10 (drop l.at c.args.script.now))) (omega (arith, c.loop-i-test.false)),
    )
