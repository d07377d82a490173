use mathlib.Core.Path.{sym, ap₂}
use Prim.Native.Nat.{ℕ, ◌*◌}
use native.Mathlib.Omega.{arith}
use lib.Dec.{eqb, leb}
use lib.ListN.{get_or}
use mathlib.Core.Bool.{Bool, ◌&&◌}
use borrow.Author.Rules.{rules}
use mir.Val.{Fits}
use mir.Syntax.{w32}
use Rattle.lists.proofs.Laws.{all_none, all_more, all_end}
use Rattle.tally.specs.Counting.{held_at, tally_ok}
use Rattle.tally.proofs.Sums.{sum-none, sum_more, sum-end}
use Rattle.tally.proofs.Tally.is_valid.Goals as goal

pub loop-i-init : goal.loop-i-init
loop-i-init c = (omega arith, all_none _, sym (sum-none _))

pub overflow_add-sum : goal.overflow_add-sum
overflow_add-sum c =
    let f : Fits w32 (get_or c.args.self.slots c.loop-i.i 0) = search rules in
    omega (arith, f.fits, c.from-sum.ensures, c.loop-i.invariant.0)

pub loop-i-preserved : goal.loop-i-preserved
loop-i-preserved c =
    let l = c.loop-i in
    let t = c.args.self in
    let f : Fits w32 (get_or t.slots l.i 0) = search rules in (
      omega (arith, f.fits, c.from-sum.ensures, l.invariant.0),
      all_more _ _ _ _ l.invariant.1
          (ap₂ (λ (x y : ℕ). leb (held_at t l.i) t.epochs && leb x (80 * y)) c.from.ensures c.from-in-loop-i.ensures),
      sum_more _ _ _ _ l.invariant.2 c.from-sum.ensures,
    )

pub returns : goal.returns
unfolding tally_ok
returns c =
    let l = c.loop-i in
    let t = c.args.self in
    ap₂ (λ (x y : Bool). leb t.epochs 100000 && (x && y)) (all_end _ _ _ _ l.invariant.1 (omega arith))
    (ap₂ eqb c.from-total.ensures (sum-end _ _ _ _ l.invariant.2 (omega arith)))
