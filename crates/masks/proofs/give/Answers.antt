-- `masks::give` goes from bit to bit: what is left of the word is the word from the place on, and below the place all is given.
use mathlib.Core.Path.{◌≡◌, refl, sym, ap, ◌∙◌}
use Prim.Native.Nat.{◌/◌, ◌^◌, ℕ, ◌<◌, ◌-◌, ◌+◌}
use native.Mathlib.Nat.{div-one}
use native.Mathlib.Omega.{arith}
use lib.ListN.{length, length-set, get_or}
use lib.Dec.{eqb}
use mathlib.Core.Bool.{cond}
use borrow.Author.Tests.{eq-eqb, ne_eqb}
use Rattle.words.proofs.Tests.{hit, skip}
use lib.Count.{count_trailing_zeros}
use lib.Pow.{shr_le}
use Rattle.masks.proofs.Turns.{Next, next_bit, give-none, give-turn, give-end}
use Rattle.masks.proofs.give.Goals as goal
use Rattle.masks.proofs.give.Goals.{In-loop-rest, Joined-old-eq0, then-old-eq0, else-old-eq0}

pub loop-rest-init : goal.loop-rest-init
loop-rest-init c =
    let a = c.args in
    let z : a.from - a.from ≡ 0 = omega arith in (
      omega arith,
      c.requires.0,
      c.requires.1,
      sym (ap (λ (x : ℕ). a.w / 2 ^ x) z ∙ div-one a.w),
      refl,
      give-none
          a.owners.now a.from a.w a.j,
    )

-- the next bit, and that its slot is one of the owners
next : (c : In-loop-rest) →
    Next c.args.w (c.loop-rest.at - c.args.from)
    (length c.args.owners.now - c.args.from)
    c.loop-rest.rest (count_trailing_zeros 64 c.loop-rest.rest)
next c =
    let l = c.loop-rest in
    let p : 0 < l.rest = omega (arith, c.loop-rest-test.true) in
    let f : l.rest < 2 ^ 64 = omega
    (arith, l.invariant.3, shr_le c.args.w (l.at - c.args.from)) in
    next_bit c.args.w (l.at - c.args.from) _ l.rest l.invariant.3 l.invariant.2 f p

within : (c : In-loop-rest) → c.loop-rest.at + count_trailing_zeros 64 c.loop-rest.rest < length
    c.args.owners.now
within c = omega (arith, (next c).within, c.loop-rest.invariant.0)

pub overflow_cast-at : goal.overflow_cast-at
overflow_cast-at c = omega (arith, (next c).short)

pub overflow_add-at : goal.overflow_add-at
overflow_add-at c = omega (arith, within c)

pub bounds-owners-at : goal.bounds-owners-at
bounds-owners-at c = omega (arith, within c.before.before)

pub bounds-owners-at-in-loop-rest : goal.bounds-owners-at-in-loop-rest
bounds-owners-at-in-loop-rest c = omega (arith, within c.before.before)

pub overflow_cast-rest : goal.overflow_cast-rest
overflow_cast-rest c = omega (arith, (next c.before.before).short)

pub overflow_shr-rest : goal.overflow_shr-rest
overflow_shr-rest c = (next c.before.before).short

pub overflow_add-at-in-loop-rest : goal.overflow_add-at-in-loop-rest
overflow_add-at-in-loop-rest c = omega (arith, within c.before.before)

pub loop-rest-smaller : goal.loop-rest-smaller
loop-rest-smaller c = omega (arith, within c.before.before)

-- what stands at the slot then
kept : (c : Joined-old-eq0) → c.if-old-eq0.new ≡ cond (eqb (get_or c.loop-rest.owners (c.loop-rest.at + count_trailing_zeros 64 c.loop-rest.rest) 0) 0) c.args.j (get_or c.loop-rest.owners (c.loop-rest.at + count_trailing_zeros 64 c.loop-rest.rest) 0)
kept c =
    elim c.if-old-eq0.branch [
      | then-old-eq0 w ↦ w.new-is ∙ sym (hit _ _ _ (eq-eqb _ 0 w.if-old-eq0.true))
      | else-old-eq0 w ↦ w.new-is ∙ sym (skip _ _ _ _ (ne_eqb _ 0 w.if-old-eq0.false) refl)
    ]

pub loop-rest-preserved : goal.loop-rest-preserved
loop-rest-preserved c =
    let a = c.args in
    let l = c.loop-rest in
    let t = count_trailing_zeros 64 l.rest in
    let f : l.at - a.from + t + 1 ≡ l.at + t + 1 - a.from = omega (arith, l.invariant.0) in (
      omega (arith, l.invariant.0),
      omega (arith, within c.before.before),
      l.invariant.2,
      (next c.before.before).left ∙ ap (λ (x : ℕ). a.w / 2 ^ x) f,
      length-set l.owners (l.at + t) _ ∙ l.invariant.4,
      give-turn a.owners.now a.from a.w a.j l.at t _ _ l.owners l.invariant.5 l.invariant.0 (next c.before.before)
          (omega (arith, within c.before.before, l.invariant.4)) _ (kept c),
    )

pub shape_of-owners : goal.shape_of-owners
shape_of-owners c = c.loop-rest.invariant.4

pub returns : goal.returns
returns c =
    let a = c.args in
    let l = c.loop-rest in
    give-end a.owners.now a.from a.w a.j l.at l.owners l.invariant.0 l.invariant.4 l.invariant.5
    (sym l.invariant.3 ∙ c.loop-rest-test.false)
