use mathlib.Core.Path.{ap}
use Prim.Native.Nat.{ℕ, ◌+◌}
use native.Mathlib.Omega.{arith}
use Rattle.lists.proofs.Chain.{tried, not-tried}
use Rattle.text.proofs.put_number.Goals as goal

pub returns-then-out-at : goal.returns-then-out-at
returns-then-out-at c = not-tried _ _ _ (omega arith)

pub overflow_sub-out : goal.overflow_sub-out
overflow_sub-out c = omega arith

pub returns-then-out-at-2 : goal.returns-then-out-at-2
returns-then-out-at-2 c = let w = c.width-n.ensures in not-tried _ _ _ (omega (arith, w))

pub put_digits-requires : goal.put_digits-requires
put_digits-requires c = (c.width-n.ensures, omega arith)

pub overflow_add-result : goal.overflow_add-result
overflow_add-result c = omega arith

pub returns : goal.returns
returns c =
    let w = c.width-n.ensures in
    tried (omega (arith, w)) (record { to = ap (λ (n : ℕ). c.args.at + n) w; is = c.put_digits.ensures })
