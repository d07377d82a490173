use Rattle.std.proofs.Common.{◌≡◌, true, false, refl, ap, ◌∙◌, length, List, Bool, arith}
use Rattle.reduce.specs.Inner.{given}
use Rattle.reduce.proofs.Passed.{pass-then, pass-hit, pass-spared, still-given}
use Rattle.reduce.proofs.Search.scan_ranges.Goals as goal

pub clear-requires : goal.clear-requires
clear-requires c = (c.run_to.ensures.within, omega (arith, c.loop-lo.invariant.long))

pub returns-then-run_to : goal.returns-then-run_to
returns-then-run_to c =
    let a = c.args.self.now in
    ap (λ (ms : List Bool). given a.number a.script.now ms a.opened) c.clear.ensures
    ∙ pass-hit _ _ _ _ _ c.run_to.new.run.at _ (length a.script.now) c.run_to.ensures.within (omega (arith, c.loop-lo.invariant.long))
    (pass-then _ _ _ _ _ _ _ _ _ _ c.loop-lo.invariant.passed c.if-run_to.ensures true refl)

pub loop-lo-preserved : goal.loop-lo-preserved
loop-lo-preserved c =
    let o = c.attempt_from.ensures in
    let q = pass-then _ _ _ _ _ _ _ _ _ _ c.loop-lo.invariant.passed c.if-run_to.ensures false refl in
    record {
      within = omega (arith, c.min.ensures, c.loop-lo.invariant.within);
      long = c.attempt_from.array_long;
      still = still-given _ _ _ _ _ _ _ _ q o c.loop-lo.invariant.still;
      passed = pass-spared _ _ _ _ _ _ _ _ q o;
    }
