-- The digits read so far make the value; it is refused as soon as it would pass the greatest.
use Rattle.text.proofs.Pieces.{number-none, number-zero, number-leading, number_digits, digits_low, digits-high, digits-large}
use Rattle.text.proofs.Pieces.{digits_more, digits-end}
use Rattle.std.proofs.Common.{◌≡◌, ℕ, ◌+◌, ◌*◌, ◌<◌, get_or, drop, ap, sym, ◌∙◌}
use Rattle.text.specs.Read.{digits_from}
use Prim.Native.Nat.{◌-◌}
use native.Mathlib.Omega.{arith}
use Rattle.text.proofs.number.Goals as goal

pub returns-then-s-eq0 : goal.returns-then-s-eq0
returns-then-s-eq0 c = sym (number-none _ c.if-s-eq0.true)

pub bounds-s-0 : goal.bounds-s-0
bounds-s-0 c = omega arith

pub returns-then-s-eq1 : goal.returns-then-s-eq1
returns-then-s-eq1 c = sym (number-zero _ c.if-s-eq1.true c.if-s-eq48.true)

pub returns-then-s-eq48 : goal.returns-then-s-eq48
returns-then-s-eq48 c = sym (number-leading _ c.if-s-eq0.false c.if-s-eq1.false c.if-s-eq48.true)

pub loop-b-init : goal.loop-b-init
loop-b-init c = (omega arith, number_digits _ c.if-s-eq0.false c.if-s-eq48.false)

pub returns-in_err-d : goal.returns-in_err-d
returns-in_err-d c =
    let l = c.loop-b in
    let k : get_or c.args.s.now l.b-index 0 < 48 = omega (arith, c.in_err-d.ensures) in
    c.from_residual.ensures ∙ sym (l.invariant.1 ∙ digits_low l.v c.args.s.now l.b-index c.loop-b-test.true k)

pub returns-then-d-gt9 : goal.returns-then-d-gt9
returns-then-d-gt9 c =
    let l = c.loop-b in
    let d = c.in_ok-d.ensures in
    sym (l.invariant.1 ∙ digits-high l.v c.args.s.now l.b-index c.loop-b-test.true d.0 (omega (arith, d)))

pub returns-in_err-checked_mul : goal.returns-in_err-checked_mul
returns-in_err-checked_mul c =
    let l = c.loop-b in
    let d = c.in_ok-d.ensures in
    c.from_residual-in_err-checked_mul.ensures
    ∙ sym (l.invariant.1 ∙ digits-large l.v c.args.s.now l.b-index c.loop-b-test.true d.0 (omega (arith, d))
    (omega (arith, c.in_err-checked_mul.ensures)))

pub returns-in_err-v : goal.returns-in_err-v
returns-in_err-v c =
    let l = c.loop-b in
    let d = c.in_ok-d.ensures in
    let m = c.in_ok-checked_mul.ensures in
    c.from_residual-in_err-v.ensures
    ∙ sym (l.invariant.1 ∙ digits-large l.v c.args.s.now l.b-index c.loop-b-test.true d.0 (omega (arith, d))
    (omega (arith, d, m, c.from.ensures, c.in_err-v.ensures)))

pub loop-b-preserved : goal.loop-b-preserved
loop-b-preserved c =
    let l = c.loop-b in
    let s = c.args.s.now in
    let d = c.in_ok-d.ensures in
    let m = c.in_ok-checked_mul.ensures in
    let a = c.in_ok-v.ensures in
    let v : c.in_ok-v.v ≡ l.v * 10 + (get_or s l.b-index 0 - 48) = omega (arith, d, m, a, c.from.ensures) in (
      omega (arith, a),
      l.invariant.1 ∙ digits_more l.v s l.b-index c.loop-b-test.true d.0 (omega (arith, d)) (omega (arith, a, v))
          ∙ ap (λ (n : ℕ). digits_from n (drop (l.b-index + 1) s)) (sym v),
    )

pub returns : goal.returns
returns c = sym (c.loop-b.invariant.1 ∙ digits-end _ _ _ c.loop-b-test.false)
