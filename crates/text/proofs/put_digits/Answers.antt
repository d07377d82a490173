use mathlib.Core.Path.{◌≡◌, refl, sym, ap, ◌∙◌}
use mathlib.Core.List.{List}
use Prim.Native.Nat.{ℕ, ◌+◌, ◌-◌}
use native.Mathlib.Omega.{arith}
use lib.ListN.{length, length-set}
use Rattle.lists.specs.Bytes.{written}
use Rattle.lists.proofs.Chain.{written_none}
use Rattle.text.specs.Write.{decimal}
use Rattle.text.proofs.Decimal.{lowest, digits-lowest, digit-back}
use Rattle.text.proofs.put_digits.Goals as goal

pub loop-i-init : goal.loop-i-init
loop-i-init c =
    let a = c.args in
    let z : a.at + a.n - a.at ≡ length (decimal a.x) = omega (arith, c.requires.0) in (
      omega arith,
      c.requires.1,
      refl,
      ap (λ (l : List ℕ). written a.out.now a.at l)
          (ap (λ (m : ℕ). lowest m a.x) z ∙ sym (digits-lowest 10 a.x)),
    )

pub loop-i-preserved : goal.loop-i-preserved
loop-i-preserved c =
    let l = c.loop-i in
    let h = c.loop-i-test.true in (
      omega arith,
      omega arith,
      length-set l.out _ _ ∙ l.invariant.2,
      digit-back l.out c.args.at l.i l.v h
          (omega (arith, l.invariant.1, l.invariant.2)) ∙ l.invariant.3,
    )

pub returns : goal.returns
unfolding lowest
returns c =
    let l = c.loop-i in
    let at = c.args.at in
    let z : 0 ≡ l.i - at = omega arith in
    sym (written_none l.out at) ∙ ap (λ (m : ℕ). written l.out at (lowest m l.v)) z ∙ l.invariant.3
