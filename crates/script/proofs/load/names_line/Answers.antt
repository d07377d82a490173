use mathlib.Core.Bool.{true, false}
use Rattle.std.proofs.Common.{rules}
use Rattle.script.specs.load.Opening.{names_line}
use Rattle.node.specs.declared.Refusal.TheVariants.{BadNames}
use Rattle.script.proofs.lines.Lines.{whole}
use Rattle.script.proofs.load.Laws.{names-whole, line-stops}
use Rattle.script.specs.load.Inner.{name_line, Stops}
use mathlib.Core.Path.{refl, sym, ◌∙◌}
use native.Mathlib.Omega.{arith}
use Rattle.script.proofs.load.names_line.Goals as goal

pub returns-in_err-e : goal.returns-in_err-e
unfolding names_line
returns-in_err-e c =
    let h : Stops c.args.config (name_line c.args.line c.args.names.now _) c.in_err-e.field-0.0
    = line-stops c.args.line BadNames _ _ c.in_err-e.ensures.line in
    search rules

-- By the line found: one that is the names, and one that is not.
pub returns-then-equal : goal.returns-then-equal
returns-then-equal c =
    let w = whole _ _ _ c.in_ok-e.ensures.line in
    record { is = names-whole c.args.line c.args.names.now tt true w (sym c.equal.ensures ∙ c.if-equal.true); within = omega (arith, w.within) }

pub returns : goal.returns
returns c =
    let w = whole _ _ _ c.in_ok-e.ensures.line in
    record { is = names-whole c.args.line c.args.names.now tt false w (sym c.equal.ensures ∙ c.if-equal.false); config = refl }
