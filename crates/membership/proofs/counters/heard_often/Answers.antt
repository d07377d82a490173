use mathlib.Core.Path.{refl, sym, ap, ◌∙◌}
use Prim.Native.Nat.{◌^◌, ℕ}
use native.Mathlib.Omega.{arith}
use lib.Bits
use borrow.Author.Tests.{lt-ltb}
use lib.Dec.{leb}
use lib.ListN.{get_or}
use Rattle.words.proofs.Tests.{hit}
use Rattle.words.proofs.Laws.{word_more, word_same}
use Rattle.words.specs.Bits.{word_of}
use Rattle.membership.proofs.counters.heard_often.Goals as goal
use Rattle.membership.proofs.counters.heard_often.Goals.{then-is_often, else-is_often}

pub loop-i-init : goal.loop-i-init
unfolding word_of
loop-i-init c = refl

pub loop-i-preserved : goal.loop-i-preserved
loop-i-preserved c =
    let i = c.loop-i.i in
    let e = c.loop-i.invariant in
    let o = sym c.is_often.ensures in
    elim c.if-is_often.branch [
      | then-is_often w ↦ w.w-is ∙ w.with-w.ensures ∙ hit _ _ _ (lt-ltb i 32 (omega arith)) ∙ ap (λ (x : ℕ). Bits.bit_or x (2 ^ i)) e
          ∙ word_more i _ (o ∙ w.if-is_often.true)
      | else-is_often w ↦ w.w-is ∙ e ∙ word_same i _ (o ∙ w.if-is_often.false)
    ]

pub returns : goal.returns
returns c = c.loop-i.invariant ∙ ap (λ (k : ℕ). word_of k (λ j. leb c.args.heard (get_or c.args.counters j 0))) (omega arith)
