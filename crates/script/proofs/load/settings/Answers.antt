use Rattle.std.proofs.Common.{rules}
use Rattle.text.specs.Read.{split}
use lib.ListN.{drop}
use Rattle.script.specs.load.Opening.{settings_line}
use Rattle.script.specs.load.Inner.{Stops}
use Rattle.node.specs.Figures.{no_config}
use Rattle.node.specs.declared.Refusal.TheVariants.{OutOfRange}
use Rattle.script.proofs.lines.Lines.{whole}
use Rattle.script.proofs.load.Laws.{settings-bad, settings-good, line-stops}
use mathlib.Core.Path.{refl, sym, ◌∙◌}
use native.Mathlib.Omega.{arith}
use Rattle.script.proofs.load.settings.Goals as goal

pub returns-in_err-e-clause-line : goal.returns-in_err-e-clause-line
unfolding settings_line
returns-in_err-e-clause-line c =
    let h : Stops c.none-none.result (settings_line 2 (split 10 (drop c.args.at c.args.s.now))) c.in_err-e.field-0.0
    = line-stops 2 OutOfRange _ _ c.in_err-e.ensures.line in
    let g : Stops no_config (settings_line 2 (split 10 (drop c.args.at c.args.s.now))) c.in_err-e.field-0.0
    = record { is = h.is; config = h.config ∙ c.none-none.ensures } in
    search rules

pub returns-in_default-clause-line : goal.returns-in_default-clause-line
returns-in_default-clause-line c =
    let w = whole _ _ _ c.in_ok-e.ensures.line in
    record { is = settings-bad 2 w refl (sym c.config_in.ensures ∙ c.in_default.is); config = c.none-none.ensures }

pub returns-clause-line : goal.returns-clause-line
returns-clause-line c =
    let w = whole _ _ _ c.in_ok-e.ensures.line in
    record { is = settings-good 2 w refl _ (sym c.config_in.ensures ∙ c.in-Some.is); within = omega (arith, w.within) }
