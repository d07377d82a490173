-- `lowest` goes from bit to bit: what is left of the word is the word from the place on, and below the place the lowest are kept.
use mathlib.Core.Path.{◌≡◌, sym, ◌∙◌, subst}
use mathlib.Core.Logic.{inl, inr}
use Prim.Native.Nat.{ℕ, ◌<◌, ◌-◌, ◌+◌, ◌*◌, ◌%◌, ◌^◌}
use native.Mathlib.Nat.{div-one, one-mul}
use native.Mathlib.Omega.{arith}
use lib.Bits
use lib.Dec.{lit<}
use lib.Count.{count_trailing_zeros}
use lib.Pow.{shr_le, shl_exact}
use Rattle.masks.proofs.Turns.{Next, next_bit}
use Rattle.allotment.proofs.LowestOnes.{Far, far-start, far-turn, far-end}
use Rattle.allotment.proofs.inplace.lowest.Goals as goal
use Rattle.allotment.proofs.inplace.lowest.Goals.{Else-left-eq0}

pub loop-rest-init : goal.loop-rest-init
loop-rest-init c = (omega arith, sym (div-one c.args.w), far-start c.args.w c.args.most)

pub returns-then-left-eq0 : goal.returns-then-left-eq0
returns-then-left-eq0 c =
    let a = c.args in
    let l = c.loop-rest in
    let e = far-end a.w a.most l.at l.kept l.left l.invariant.0 l.invariant.2 (inr c.if-left-eq0.true) in
    λ i. record { kept = e.0 i; left = e.1 i }

-- the next bit
next : (c : Else-left-eq0) → Next c.args.w c.loop-rest.at 64
    c.loop-rest.rest (count_trailing_zeros 64 c.loop-rest.rest)
next c =
    let w = c.args.w in
    let l = c.loop-rest in
    let p : 0 < l.rest = omega (arith, c.loop-rest-test.true) in
    let f : l.rest < 2 ^ 64 = omega (arith, l.invariant.1, shr_le w l.at) in
    let g : w < 2 ^ 64 = omega arith in
    next_bit w l.at 64 l.rest l.invariant.1 g f p

pub overflow_cast-at : goal.overflow_cast-at
overflow_cast-at c = omega (arith, (next c).short)

pub overflow_add-at : goal.overflow_add-at
overflow_add-at c = omega (arith, (next c).within)

pub overflow_shl-kept : goal.overflow_shl-kept
overflow_shl-kept c = (next c).within

pub overflow_sub-left : goal.overflow_sub-left
overflow_sub-left c = omega (arith, c.if-left-eq0.false)

pub overflow_cast-rest : goal.overflow_cast-rest
overflow_cast-rest c = omega (arith, (next c).short)

pub overflow_shr-rest : goal.overflow_shr-rest
overflow_shr-rest c = (next c).short

pub overflow_add-at-in-loop-rest : goal.overflow_add-at-in-loop-rest
overflow_add-at-in-loop-rest c = omega (arith, (next c).within)

pub loop-rest-smaller : goal.loop-rest-smaller
loop-rest-smaller c = omega (arith, (next c).within)

pub loop-rest-preserved : goal.loop-rest-preserved
loop-rest-preserved c =
    let a = c.args in
    let l = c.loop-rest in
    let t = count_trailing_zeros 64 l.rest in
    let s : (1 * 2 ^ (l.at + t)) % 2 ^ 64 ≡ 2 ^ (l.at + t) = shl_exact {a = 1} 1 (l.at + t) 64 (lit< tt)
    (omega (arith, (next c).within)) ∙ one-mul _ in
    let f = far-turn a.w a.most l.at l.kept l.left l.rest t l.invariant.2 (omega (arith, c.if-left-eq0.false)) (next c) in (
      omega (arith, (next c).within),
      (next c).left,
      subst (λ (x : ℕ). Far a.w a.most (l.at + t + 1) (Bits.bit_or l.kept x) (l.left - 1)) (sym s) f,
    )

pub returns : goal.returns
returns c =
    let a = c.args in
    let l = c.loop-rest in
    let e = far-end a.w a.most l.at l.kept l.left l.invariant.0 l.invariant.2 (inl (sym l.invariant.1 ∙ c.loop-rest-test.false)) in
    λ i. record { kept = e.0 i; left = e.1 i }
