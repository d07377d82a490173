use mathlib.Core.Path.{ap, sym, ◌∙◌}
use Rattle.script.specs.load.Inner.{good_config}
use Rattle.script.proofs.lines.Fields.{numbers_long}
use Rattle.script.proofs.load.Laws.{figures, no-figures, some_when}
use Rattle.script.proofs.load.config_in.Goals as goal

pub returns-in_err-nodes : goal.returns-in_err-nodes
returns-in_err-nodes c = c.from_residual.ensures ∙ sym (ap good_config (sym c.numbers.ensures ∙ c.in_err-nodes.was) ∙ no-figures)

pub returns : goal.returns
returns c =
    let x = c.in_ok-nodes.field-0 in
    let n = sym c.numbers.ensures ∙ c.in_ok-nodes.was in
    let f = figures x (numbers_long 5 _ x n) in
    rw (c.then_some.ensures, c.config_ok.ensures, n, f) (some_when _ _)
