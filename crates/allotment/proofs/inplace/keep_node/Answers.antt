use mathlib.Core.Path.{◌≡◌, ap, ◌∙◌}
use Prim.Native.Nat.{ℕ, ◌<◌, ◌-◌, ◌^◌}
use native.Mathlib.Omega.{arith}
use Rattle.words.specs.Bits.{has_bit, how_many}
use Rattle.allotment.specs.declared.Few.{Few}
use Rattle.allotment.specs.Inner.{lowest_of, node_kept}
use Rattle.allotment.proofs.TwoWords.{low-kept, high-kept, high-short, held_kept}
use Rattle.allotment.proofs.inplace.keep_node.Goals as goal
use Rattle.allotment.proofs.inplace.keep_node.Goals.{After-struct_known-1}

-- what the second word gives
second : (c : After-struct_known-1) → c.lowest-b.result.kept
    ≡ lowest_of 64 c.args.high
    (c.args.most - how_many 64 (has_bit c.args.low))
second c =
    let a = c.args in
    let e : c.lowest-a.result.left ≡ a.most - how_many 64 (has_bit a.low) = ap (λ (x : Few). x.left)
    c.lowest-a.ensures in
    ap (λ (x : Few). x.kept) c.lowest-b.ensures ∙ ap (lowest_of 64 a.high) e

rest : (c : After-struct_known-1) → c.lowest-b.result.left
    ≡ c.args.most - how_many 64 (has_bit c.args.low) - how_many 64
    (has_bit c.args.high)
rest c =
    let a = c.args in
    let e : c.lowest-a.result.left ≡ a.most - how_many 64 (has_bit a.low) = ap (λ (x : Few). x.left)
    c.lowest-a.ensures in
    ap (λ (x : Few). x.left) c.lowest-b.ensures ∙ ap (λ (x : ℕ). x - how_many 64 (has_bit a.high)) e

short : (c : After-struct_known-1) → c.args.high < 2 ^ 16
short c = omega arith

pub overflow_cast-result : goal.overflow_cast-result
overflow_cast-result c =
    let a = c.args in
    let h : lowest_of 64 a.high (a.most - how_many 64 (has_bit a.low)) < 2 ^ 16 = high-short a.low a.high a.most (short c) in
    omega (arith, second c, h)

pub overflow_sub-result : goal.overflow_sub-result
overflow_sub-result c = omega (arith, rest c.before)

pub returns : goal.returns
unfolding node_kept
returns c =
    let a = c.args in
    let l = ap (λ (x : Few). x.kept) c.lowest-a.ensures ∙ low-kept a.low a.high a.most in
    let h = second c.before ∙ high-kept a.low a.high a.most (short c.before) in
    let n = held_kept a.low a.high a.most (short c.before) c.lowest-b.result.left (rest c.before) in
    λ i. record { low = l i; high = h i; held = n i }
