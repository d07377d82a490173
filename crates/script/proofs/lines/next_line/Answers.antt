use Rattle.text.specs.Read.{before}
use Rattle.text.proofs.Pieces.{behind-is}
use Rattle.script.proofs.lines.Lines.{line-none, line-open, line-ended}
use mathlib.Core.Path.{sym, ap, ◌∙◌}
use native.Mathlib.Omega.{arith}
use Prim.Native.Nat.{ℕ, ◌+◌}
use Rattle.script.proofs.lines.next_line.Goals as goal

pub returns-then-s-at : goal.returns-then-s-at
returns-then-s-at c = sym (line-none _ _ c.if-s-at.true)

pub returns-then-e-s : goal.returns-then-e-s
returns-then-e-s c =
    let f = ap (λ (n : ℕ). c.args.at + n) (c.find.ensures.value ∙ ap (before 10) (behind-is c.args.at c.args.s.now)) in
    sym (line-open _ _ c.if-s-at.false _ f c.if-e-s.true)

pub returns : goal.returns
returns c =
    let f = ap (λ (n : ℕ). c.args.at + n) (c.find.ensures.value ∙ ap (before 10) (behind-is c.args.at c.args.s.now)) in
    sym (line-ended _ _ c.if-s-at.false _ f (omega (arith, c.find.ensures.within)) c.if-e-s.false)
