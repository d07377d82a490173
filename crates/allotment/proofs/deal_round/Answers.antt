use mathlib.Core.Path.{◌≡◌, ap, ◌∙◌}
use mathlib.Core.List.{List}
use mathlib.Core.Bool.{◌&&◌}
use mir.Val.{Fits, bool_byte}
use mir.Syntax.{w8}
use borrow.Author.Rules.{rules}
use lib.ListN.{length, get_or, take, length-take}
use lib.Seq.{get_or-take}
use Prim.Native.Nat.{ℕ, ◌+◌, ◌≤◌, ◌<◌}
use native.Mathlib.Omega.{arith}
use borrow.Author.Tests.{ltb-true}
use lib.Dec.{ltb}
use Rattle.words.proofs.Tests.{and_left, and_right}
use Rattle.lists.proofs.Laws.{iter-none, iter-more, iter_end}
use Rattle.allotment.specs.declared.Deal.{Deal}
use Rattle.allotment.proofs.Turns.{deal-turn, round-end, one-more, one-less, more-fits, less-fits}
use Rattle.allotment.proofs.deal_round.Goals as goal

pub loop-i-init : goal.loop-i-init
loop-i-init c = (c.requires.0, iter-none _ _)

-- what the slice has at an index is what the list has
front : (w : List ℕ) (n i : ℕ) → i < length (take n w) → get_or (take n w) i 0 ≡ get_or w i 0
front w n i h = get_or-take n w i 0 (omega (arith, h, length-take n w))

same-test : (w : List ℕ) (n i : ℕ) → i < length (take n w) → (x y b : ℕ) → b ≡ bool_byte (ltb 0 x && ltb y (get_or (take n w) i 0))
    → b ≡ bool_byte (ltb 0 x && ltb y (get_or w i 0))
same-test w n i h x y b e = e ∙ ap (λ (z : ℕ). bool_byte (ltb 0 x && ltb y z)) (front w n i h)

pub overflow_add-targets : goal.overflow_add-targets
overflow_add-targets c =
    let l = c.loop-i in
    let y = get_or (take c.args.n c.args.wanted) l.i 0 in
    let t = ltb 0 l.left && ltb (get_or l.targets l.i 0) y in
    let a : Fits w8 (get_or l.targets l.i 0) = search rules in
    let b : Fits w8 y = search rules in
    let h : get_or l.targets l.i 0 + c.from.result < 256 =
    more-fits t _ _ y c.from.ensures (λ z. ltb-true _ _ (and_right (ltb 0 l.left) _ z)) a.fits b.fits in
    omega (arith, h)

pub overflow_sub-left : goal.overflow_sub-left
overflow_sub-left c =
    let l = c.loop-i in
    let t = ltb 0 l.left && ltb (get_or l.targets l.i 0) (get_or (take c.args.n c.args.wanted) l.i 0) in
    let h : c.from-left.result ≤ l.left = less-fits t _ _ c.from-left.ensures (λ z. ltb-true _ _ (and_left _ _ z)) in
    omega (arith, h)

pub loop-i-preserved : goal.loop-i-preserved
loop-i-preserved c =
    let w = c.args.wanted in
    let n = c.args.n in
    let l = c.loop-i in
    let d : Deal = record { targets = l.targets; left = l.left } in
    let x = get_or l.targets l.i 0 in
    let t = ltb 0 l.left && ltb x (get_or w l.i 0) in
    let k : l.i < length (take n w) = omega arith in (
      l.invariant.0,
      iter-more _ _ _ _ _ l.invariant.1
          (deal-turn w l.i d _ _ (one-more t x c.from.result (same-test w n l.i k l.left x _ c.from.ensures))
          (one-less t l.left c.from-left.result (same-test w n l.i k l.left x _ c.from-left.ensures))),
    )

pub returns : goal.returns
returns c =
    let h : length c.args.wanted ≡ 32 = search rules in
    iter_end _ _ _ _ _ c.loop-i.invariant.1 (omega (arith, length-take c.args.n c.args.wanted, c.requires.0, h))
    ∙ round-end _ _ _ c.requires
