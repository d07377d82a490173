use Rattle.words.proofs.Tests.{both}
use Rattle.masks.proofs.Fits.{rows-wrong}
use mathlib.Core.Path.{ap₂}
use Rattle.lists.specs.All.{all_below}
use Rattle.lists.proofs.Laws.{all_none}
use Rattle.masks.specs.Slots.{well_formed_at}
use Rattle.masks.specs.Bytes.{masks_in}
use Rattle.masks.specs.Inner.{taken, ends_by}
use Rattle.masks.proofs.Taken.{taken_none, taken-turn, tidy-turn}
use Rattle.masks.proofs.Rows.{low_read, high_read, count-read}
use mathlib.Core.Path.{◌≡◌, sym, ap, ◌∙◌}
use Prim.Native.Nat.{ℕ, ◌<◌}
use native.Mathlib.Omega.{arith}
use Rattle.masks.proofs.inplace.rows_fit.Goals as goal

pub loop-i-init : goal.loop-i-init
loop-i-init c = (omega arith, taken_none _, taken_none _, all_none _)

pub overflow_mul-i : goal.overflow_mul-i
overflow_mul-i c = omega arith

pub overflow_add-from : goal.overflow_add-from
overflow_add-from c = omega arith

pub overflow_add-from-in-loop-i : goal.overflow_add-from-in-loop-i
overflow_add-from-in-loop-i c = omega arith

pub overflow_mul-i-in-loop-i : goal.overflow_mul-i-in-loop-i
overflow_mul-i-in-loop-i c = omega arith

pub overflow_add-from-in-loop-i-2 : goal.overflow_add-from-in-loop-i-2
overflow_add-from-in-loop-i-2 c = omega arith

pub overflow_add-from-in-loop-i-3 : goal.overflow_add-from-in-loop-i-3
overflow_add-from-in-loop-i-3 c = omega arith

pub overflow_add-from-in-loop-i-4 : goal.overflow_add-from-in-loop-i-4
overflow_add-from-in-loop-i-4 c = omega arith

pub bounds-s-from : goal.bounds-s-from
bounds-s-from c = omega arith

pub returns-then-not-apart-counted : goal.returns-then-not-apart-counted
returns-then-not-apart-counted c =
    let l = c.loop-i in
    let s = c.args.s.now in
    let m = masks_in s c.args.from in
    let k : l.i < 32 = omega (arith, c.requires.1) in
    let x = c.long_word-a.ensures ∙ low_read s c.args.from l.i k in
    let y = c.short_word-b.ensures ∙ high_read s c.args.from l.i k in
    let h = c.from-held.ensures ∙ count-read s c.args.from l.i k in
    let t = tidy-turn m l.i _ _ _ _ _ _ _ l.invariant.1 l.invariant.2 x y h c.ones-n.ensures l.invariant.3 in
    sym (rows-wrong m l.i c.args.top _ (omega arith) (sym t ∙ c.if-not-apart-counted.true))

pub overflow_step-i : goal.overflow_step-i
overflow_step-i c = omega arith

pub loop-i-smaller : goal.loop-i-smaller
loop-i-smaller c = omega arith

pub loop-i-preserved : goal.loop-i-preserved
loop-i-preserved c =
    let l = c.loop-i in
    let s = c.args.s.now in
    let m = masks_in s c.args.from in
    let k : l.i < 32 = omega (arith, c.requires.1) in
    let x = c.long_word-a.ensures ∙ low_read s c.args.from l.i k in
    let y = c.short_word-b.ensures ∙ high_read s c.args.from l.i k in
    let h = c.from-held.ensures ∙ count-read s c.args.from l.i k in
    let t = tidy-turn m l.i _ _ _ _ _ _ _ l.invariant.1 l.invariant.2 x y h c.ones-n.ensures l.invariant.3 in
    (omega arith, taken-turn _ _ _ _ l.invariant.1 x, taken-turn _ _ _ _ l.invariant.2 y, sym (c.if-not-apart-counted.false) ∙ t)

pub returns : goal.returns
returns c =
    let l = c.loop-i in
    let m = masks_in c.args.s.now c.args.from in
    let e : l.i ≡ c.args.top = omega arith in
    both (l.invariant.3 ∙ ap (λ (x : ℕ). all_below x (well_formed_at m)) e)
    (c.ends_by.ensures ∙ ap₂ (λ (x y : ℕ). ends_by x y c.args.k) (l.invariant.1 ∙ ap (taken m.low) e)
    (l.invariant.2 ∙ ap (taken m.high) e))
