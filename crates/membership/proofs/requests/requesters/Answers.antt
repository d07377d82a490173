use mathlib.Core.Bool.{not}
use mathlib.Core.Path.{refl, ap, ◌∙◌}
use Prim.Native.Nat.{◌^◌, ℕ}
use native.Mathlib.Omega.{arith}
use lib.Bits
use borrow.Author.Tests.{eq-eqb, ne_eqb, lt-ltb}
use Rattle.words.proofs.Tests.{hit}
use Rattle.words.proofs.Laws.{word_more, word_same}
use Rattle.words.specs.Bits.{word_of}
use Rattle.membership.specs.requests.Requests.{requesters, has_request}
use Rattle.membership.proofs.requests.requesters.Goals as goal
use Rattle.membership.proofs.requests.requesters.Goals.{then-x, else-x}

pub loop-i-init : goal.loop-i-init
unfolding word_of
loop-i-init c = refl

pub loop-i-preserved : goal.loop-i-preserved
loop-i-preserved c =
    let i = c.loop-i.i in
    let l = c.args.l in
    let e = c.loop-i.invariant in
    elim c.if-x.branch [
      | then-x w ↦ w.w-is ∙ w.with-w.ensures ∙ hit _ _ _ (lt-ltb i 32 (omega arith)) ∙ ap (λ (x : ℕ). Bits.bit_or x (2 ^ i)) e
          ∙ word_more i (has_request l) (ap not (ne_eqb _ _ w.if-x.true))
      | else-x w ↦ w.w-is ∙ e ∙ word_same i (has_request l) (ap not (eq-eqb _ _ w.if-x.false))
    ]

pub returns : goal.returns
unfolding requesters
returns c = c.loop-i.invariant ∙ ap (λ (k : ℕ). word_of k (has_request c.args.l)) (omega arith)
