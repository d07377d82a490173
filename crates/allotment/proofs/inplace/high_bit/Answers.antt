use mathlib.Core.Path.{◌≡◌, refl, sym, ◌∙◌}
use Prim.Native.Nat.{◌-◌, ◌*◌, ◌%◌, ◌^◌}
use native.Mathlib.Nat.{one-mul}
use native.Mathlib.Omega.{arith}
use borrow.Author.Tests.{lt-ltb, le-ltb}
use lib.Dec.{ltb, lit<}
use lib.Pow.{shl_exact}
use Rattle.words.proofs.Tests.{hit, skip}
use Rattle.allotment.proofs.inplace.high_bit.Goals as goal

pub returns-then-slot-lt64 : goal.returns-then-slot-lt64
returns-then-slot-lt64 c = sym (hit (ltb c.args.slot 64) _ _ (lt-ltb _ _ c.if-slot-lt64.true))

pub returns-then-slot-lt80 : goal.returns-then-slot-lt80
returns-then-slot-lt80 c =
    let k = c.args.slot in
    let s : (1 * 2 ^ (k - 64)) % 2 ^ 16 ≡ 2 ^ (k - 64) = shl_exact {a = 1} 1 (k - 64) 16 (lit< tt) (omega (arith, c.if-slot-lt80.true))
    ∙ one-mul _ in
    s ∙ sym (skip (ltb k 64) _ _ _ (le-ltb _ _ c.if-slot-lt64.false) (hit (ltb k 80) _ _ (lt-ltb _ _ c.if-slot-lt80.true)))

pub returns-else-slot-lt80 : goal.returns-else-slot-lt80
returns-else-slot-lt80 c = sym (skip (ltb c.args.slot 64) _ _ _ (le-ltb _ _ c.if-slot-lt64.false)
    (skip (ltb c.args.slot 80) _ _ _ (le-ltb _ _ c.if-slot-lt80.false) refl))
