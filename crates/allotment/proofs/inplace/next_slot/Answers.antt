use Prim.Native.Nat.{◌-◌}
use native.Mathlib.Omega.{arith}
use Rattle.allotment.proofs.TwoWords.{slot-low, slot-high}
use Rattle.allotment.proofs.inplace.next_slot.Goals as goal

pub returns-then-b-lt64 : goal.returns-then-b-lt64
returns-then-b-lt64 c =
    let a = c.args in
    slot-low a.low a.high a.from _ c.next_bit-b.ensures.1 c.if-b-lt64.true

pub overflow_add-result : goal.overflow_add-result
overflow_add-result c = omega (arith, c.next_bit.ensures.0)

pub returns-then-from-lt64 : goal.returns-then-from-lt64
returns-then-from-lt64 c =
    let a = c.args in
    let f = c.next_bit-b.ensures.1 in
    slot-high a.low a.high a.from 0 _ (omega (arith, c.if-from-lt64.true))
    (λ k l g. f.none k l (omega (arith, g, c.if-b-lt64.false)) g) c.next_bit.ensures.1

pub next_bit-requires-2 : goal.next_bit-requires-2
next_bit-requires-2 c = omega (arith, c.requires)

pub overflow_add-result-2 : goal.overflow_add-result-2
overflow_add-result-2 c = omega (arith, c.next_bit-2.ensures.0)

pub returns : goal.returns
returns c =
    let a = c.args in
    let l = c.if-from-lt64.false in
    slot-high a.low a.high a.from (a.from - 64) _ (λ _. a.from - 64) (λ k g h. absurd (omega (arith, g, h, l)))
    c.next_bit-2.ensures.1
