use mathlib.Core.Path.{refl}
use Prim.Native.Nat.{◌<◌, ◌/◌, ◌^◌}
use native.Mathlib.Omega.{arith}
use lib.Count.{count_trailing_zeros}
use lib.Pow.{shr_le}
use Rattle.masks.proofs.Turns.{Next, next_bit}
use Rattle.allotment.proofs.LowestOnes.{out}
use Rattle.allotment.proofs.inplace.next_bit.Goals as goal
use Rattle.allotment.proofs.inplace.next_bit.Goals.{Else-rest-eq0}

pub returns-then-rest-eq0 : goal.returns-then-rest-eq0
returns-then-rest-eq0 c =
    let a = c.args in (
      omega arith,
      record {
        behind = omega (arith, c.requires);
        passes = λ l. absurd (omega (arith, l));
        none = λ k l g h. out a.w 0 a.from k c.if-rest-eq0.true l;
      },
    )

-- the next bit
next : (c : Else-rest-eq0) → Next c.args.w c.args.from 64 (c.args.w / 2 ^ c.args.from)
    (count_trailing_zeros 64 (c.args.w / 2 ^ c.args.from))
next c =
    let a = c.args in
    let g : a.w < 2 ^ 64 = omega arith in
    let p : 0 < a.w / 2 ^ a.from = omega (arith, c.if-rest-eq0.false) in
    let f : a.w / 2 ^ a.from < 2 ^ 64 = omega (arith, g, shr_le a.w a.from) in
    next_bit a.w a.from 64 (a.w / 2 ^ a.from) refl g f p

pub overflow_cast-result : goal.overflow_cast-result
overflow_cast-result c = omega (arith, (next c).short)

pub overflow_add-result : goal.overflow_add-result
overflow_add-result c = omega (arith, (next c).within)

pub returns : goal.returns
returns c =
    let n = next c in
    (omega (arith, n.within), record { behind = omega arith; passes = λ l. n.bit; none = λ k l g h. n.none k l g })
