use mathlib.Core.Path.{sym, ◌∙◌}
use Rattle.node.specs.Core.{bare}
use Rattle.node.proofs.Cores.{due-told, rule-new, rule-marked, rule-first}
use Rattle.node.proofs.Core.ground.Goals as goal

pub returns-then-is_due : goal.returns-then-is_due
returns-then-is_due c =
    let n = bare c.args.self in
    let d = due-told n c.first_told-first.ensures c.verdict_of.ensures c.eq.ensures c.is_due.ensures in
    λ i. record { rule = sym (rule-new n (sym d ∙ c.if-is_due.true)) i; missing = c.lowest_missing-missing.ensures i }

pub returns-then-self : goal.returns-then-self
returns-then-self c =
    let n = bare c.args.self in
    let d = due-told n c.first_told-first.ensures c.verdict_of.ensures c.eq.ensures c.is_due.ensures in
    λ i. record { rule = sym (rule-marked n (sym d ∙ c.if-is_due.false) c.if-self.true) i; missing = c.lowest_missing-missing.ensures i }

pub returns-else-self : goal.returns-else-self
returns-else-self c =
    let n = bare c.args.self in
    let d = due-told n c.first_told-first.ensures c.verdict_of.ensures c.eq.ensures c.is_due.ensures in
    λ i. record {
      rule = (c.first_told-first.ensures ∙ sym (rule-first n (sym d ∙ c.if-is_due.false) c.if-self.false)) i;
      missing = c.lowest_missing-missing.ensures i;
    }
