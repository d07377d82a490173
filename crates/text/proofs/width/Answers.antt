use Rattle.std.proofs.Common.{sym, arith}
use Rattle.text.proofs.Decimal.{length-digits-one, digits-power}
use Rattle.text.proofs.width.Goals as goal

pub returns-in-Some : goal.returns-in-Some
returns-in-Some c =
    let h = c.in-Some.ensures in
    digits-power c.in-Some.k c.args.x h.bound h.power_le h.next_power_gt

pub returns-in-None : goal.returns-in-None
returns-in-None c = let z = c.in-None.ensures.none in sym (length-digits-one 10 c.args.x (λ e. absurd (omega (arith, e))) (omega (arith, z)))
