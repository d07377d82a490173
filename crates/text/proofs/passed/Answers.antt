use mathlib.Core.List.{List, []}
use mathlib.Core.Path.{◌≡◌, sym, ap, ◌∙◌}
use Prim.Native.Nat.{ℕ, ◌+◌, ◌*◌, ◌/◌, ◌≤◌}
use lib.ListN.{length, get_or, take, drop}
use Rattle.text.proofs.Blocks.{block_at, before-block}
use native.Mathlib.Omega.{arith}
use Rattle.text.proofs.passed.Goals as goal

pub loop-block-init : goal.loop-block-init
loop-block-init c = (omega arith, omega arith)

pub returns-then-not-lacks-clause-value : goal.returns-then-not-lacks-clause-value
returns-then-not-lacks-clause-value c = c.loop-block.invariant.1

pub returns-then-not-lacks-clause-within : goal.returns-then-not-lacks-clause-within
returns-then-not-lacks-clause-within c = omega (arith, c.loop-block.invariant.0, c.as_chunks.ensures.front_len, c.loop-block-test.true)

pub overflow_add-n : goal.overflow_add-n
overflow_add-n c = omega (arith, c.loop-block.invariant.0, c.as_chunks.ensures.front_len, c.loop-block-test.true)

pub loop-block-preserved : goal.loop-block-preserved
loop-block-preserved c =
    let s = c.args.s.now in
    let i = c.loop-block.block-index in
    let w = ap (λ (bs : List (List ℕ)). get_or bs i []) c.as_chunks.ensures.front
    ∙ block_at (length s / 16) s i (omega (arith, c.as_chunks.ensures.front_len, c.loop-block-test.true)) in
    let n : 16 * i ≡ c.loop-block.n = sym c.loop-block.invariant.0 in
    let within : c.loop-block.n + 16 ≤ length s =
    omega (arith, c.loop-block.invariant.0, c.as_chunks.ensures.front_len, c.loop-block-test.true) in
    let b = before-block c.args.c s _ c.loop-block.n within (w ∙ ap (λ (k : ℕ). take 16 (drop k s)) n)
    (sym c.lacks.ensures ∙ c.if-not-lacks.false) in
    (omega (arith, c.loop-block.invariant.0), omega (arith, c.loop-block.invariant.1, b))

pub returns-clause-value : goal.returns-clause-value
returns-clause-value c = c.loop-block.invariant.1

pub returns-clause-within : goal.returns-clause-within
returns-clause-within c = omega (arith, c.loop-block.invariant.0, c.as_chunks.ensures.front_len, c.loop-block.auto.block-index-end)
