use mathlib.Core.Bool.{Bool, true, false, ◌&&◌, and-false}
use mathlib.Core.Path.{◌≡◌, refl, sym, ap, ◌∙◌}
use Prim.Native.Nat.{ℕ, ◌-◌}
use native.Mathlib.Omega.{arith}
use borrow.Author.Tests.{eq-eqb, ne_eqb}
use lib.Dec.{eqb}
use lib.ListN.{get_or}
use Rattle.words.proofs.Tests.{both}
use Rattle.words.specs.Bits.{has_bit}
use Rattle.membership.specs.requests.Requests.{none, lacks, first_with, lowest_missing}
use Rattle.membership.proofs.requests.Laws.{first-here, first-behind, first-none}
use Rattle.membership.proofs.requests.lowest_missing.Goals as goal
use Rattle.membership.proofs.requests.lowest_missing.Goals.{else-contains-via-then-contains+else-x, else-contains-via-else-contains}

pub loop-i-init : goal.loop-i-init
unfolding lowest_missing
loop-i-init c = refl

pub returns-then-x : goal.returns-then-x
returns-then-x c =
    let e : lacks c.args.w c.args.l c.loop-i.i ≡ true =
    both {b = true} {d = true} (sym c.contains.ensures ∙ c.if-contains.true) (eq-eqb _ _ c.if-x.true) in
    sym (c.loop-i.invariant ∙ first-here _ 32 _ (omega arith) e)

pub loop-i-preserved : goal.loop-i-preserved
loop-i-preserved c =
    let i = c.loop-i.i in
    let e : lacks c.args.w c.args.l i ≡ false = elim c.else-contains.branch [
      | else-contains-via-then-contains+else-x w ↦
          ap (λ (t : Bool). has_bit c.args.w i && t) (ne_eqb (get_or c.args.l i 0) none w.if-x.false) ∙ and-false (has_bit c.args.w i)
      | else-contains-via-else-contains w ↦
          ap (λ (t : Bool). t && eqb (get_or c.args.l i 0) none) (sym c.contains.ensures ∙ w.if-contains.false)
    ] in
    c.loop-i.invariant ∙ first-behind _ 32 _ (omega arith) e

pub returns : goal.returns
returns c =
    let z : 32 - c.loop-i.i ≡ 0 = omega arith in
    sym (c.loop-i.invariant ∙ ap (λ (k : ℕ). first_with k c.loop-i.i (lacks c.args.w c.args.l)) z ∙ first-none _ _)
