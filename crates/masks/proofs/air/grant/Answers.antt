use mathlib.Core.List.{List}
use mathlib.Core.Path.{◌≡◌, refl, sym, ap, ◌∙◌, subst}
use Prim.Native.Nat.{ℕ, ◌≤◌, ◌<◌, ◌+◌}
use native.Mathlib.Omega.{arith}
use lib.ListN.{get_or, set}
use borrow.Author.Tests.{lt-ltb, le-ltb}
use Rattle.words.proofs.Tests.{hit, skip}
use Rattle.masks.specs.Bytes.{at_held}
use Rattle.masks.specs.Inner.{index_of, marking}
use Rattle.masks.proofs.air.grant.Goals as goal

pub returns-then-i-ge32 : goal.returns-then-i-ge32
returns-then-i-ge32 c =
    let j = c.args.j in
    let h : 32 ≤ index_of j = omega (arith, c.node_index-i.ensures, c.if-i-ge32.true) in
    sym (skip _ _ _ _ (le-ltb (index_of j) 32 h) refl)

pub overflow_add-out : goal.overflow_add-out
overflow_add-out c =
    let l = c.args.out.now in
    let r = c.node_index-i.result in
    let e : r ≡ index_of c.args.j = c.node_index-i.ensures in
    let h : index_of c.args.j < 32 = omega (arith, e, c.if-i-ge32.false) in
    let f : get_or l (c.args.at + at_held + r) 0 ≤ c.args.k =
    subst (λ (x : ℕ). get_or l (c.args.at + at_held + x) 0 ≤ c.args.k) (sym e) (c.requires.2 h) in
    omega (arith, f, c.requires.1)

pub returns : goal.returns
returns c =
    let l = c.args.out.now in
    let p = c.args.at in
    let k = c.args.k in
    let r = c.node_index-i.result in
    let e : r ≡ index_of c.args.j = c.node_index-i.ensures in
    let h : index_of c.args.j < 32 = omega (arith, e, c.if-i-ge32.false) in
    ap (λ (m : List ℕ). set m (p + at_held + r) (get_or l (p + at_held + r) 0 + 1)) c.mark.ensures
    ∙ ap (λ (x : ℕ). marking l p x k) e ∙ sym (hit _ _ _ (lt-ltb (index_of c.args.j) 32 h))
