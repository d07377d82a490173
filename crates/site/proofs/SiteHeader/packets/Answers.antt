-- The packets of all nodes, counted one node a turn: what is counted and the total of what is left make the total.
use mathlib.Core.Path.{◌≡◌, refl, sym, ap, ◌∙◌}
use mathlib.Core.List.{List, [], ◌∷◌}
use Prim.Native.Nat.{ℕ, zero, suc, ◌≤◌, ◌<◌, ◌+◌}
use native.Mathlib.Omega.{arith}
use native.Mathlib.Numerals.{add-one}
use native.Mathlib.Nat.{le_of_suc-le-suc, not-suc-le-zero}
use borrow.Author.Rules.{rules}
use mir.Val.{Fits}
use mir.Syntax.{w8}
use lib.ListN.{length, get_or, drop}
use Rattle.allotment.specs.Allotment.{total}
use Rattle.site.proofs.SiteHeader.packets.Goals as goal

-- what is counted and what is left make the total
total_left : (l : List ℕ) (i : ℕ) → i < length l → total (drop i l) ≡ get_or l i 0 + total (drop (suc i) l)
unfolding total
total_left [] i h = absurd (not-suc-le-zero h)
total_left (x ∷ l) zero h = refl
total_left (x ∷ l) (suc i) h = total_left l i (le_of_suc-le-suc h)

none_left : (l : List ℕ) (i : ℕ) → length l ≤ i → total (drop i l) ≡ 0
unfolding total
none_left [] zero h = refl
none_left [] (suc i) h = refl
none_left (x ∷ l) zero h = absurd (not-suc-le-zero h)
none_left (x ∷ l) (suc i) h = none_left l i (le_of_suc-le-suc h)

pub loop-x-init : goal.loop-x-init
loop-x-init c = (search rules, omega arith, omega arith)

pub overflow_add-n : goal.overflow_add-n
overflow_add-n c =
    let l = c.loop-x in
    let byte : Fits w8 (get_or c.args.self.sent l.x-index 0) = search rules in
    omega (arith, byte.fits, c.from-n.ensures, l.invariant.1, c.loop-x-test.true)

pub loop-x-preserved : goal.loop-x-preserved
loop-x-preserved c =
    let l = c.loop-x in
    let s = c.args.self.sent in
    let h : l.x-index < length s = omega (arith, l.invariant.0, c.loop-x-test.true) in
    let byte : Fits w8 (get_or s l.x-index 0) = search rules in
    let e : total (drop l.x-index s) ≡ get_or s l.x-index 0 + total (drop (l.x-index + 1) s) = total_left s l.x-index h
    ∙ ap (λ (k : ℕ). get_or s l.x-index 0 + total (drop k s)) (sym (add-one l.x-index)) in
    (l.invariant.0, omega (arith, byte.fits, l.invariant.1, c.from-n.ensures), omega (arith, e, l.invariant.2, c.from-n.ensures))

pub returns : goal.returns
returns c =
    let l = c.loop-x in
    omega (arith, none_left c.args.self.sent l.x-index (omega (arith, l.invariant.0)), l.invariant.2)
