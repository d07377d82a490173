use Rattle.std.proofs.Common.{refl, sym, ◌∙◌, arith}
use Rattle.reduce.proofs.Marks.{cleared-gives}
use Rattle.reduce.proofs.Search.attempt.Goals as goal

pub returns-then-not-gives : goal.returns-then-not-gives
returns-then-not-gives c =
    let r = c.requires in
    record {
      value = sym (sym (cleared-gives _ _ _ _ _ _ _ r.1 (omega arith)) ∙ sym c.gives.ensures ∙ c.if-not-gives.true);
      marks_after = refl;
    }

pub returns-clause-value : goal.returns-clause-value
returns-clause-value c =
    sym (sym (cleared-gives _ _ _ _ _ _ _ c.requires.1 (omega arith)) ∙ sym c.gives.ensures ∙ c.if-not-gives.false)
