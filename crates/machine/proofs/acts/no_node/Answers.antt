use mathlib.Core.Path.{sym, ap₂, refl, ◌∙◌}
use mathlib.Core.Bool.{◌||◌}
use Rattle.words.proofs.Tests.{or-front}
use Rattle.site.specs.Members.{outside}
use Rattle.machine.specs.Layout.{store, too_short, config_in}
use Rattle.machine.proofs.Seats.{outside-as}
use Rattle.machine.proofs.acts.no_node.Goals as goal

pub returns-then-is_short : goal.returns-then-is_short
returns-then-is_short c =
    let a = c.args in
    let s = store a.words.now a.bytes.now in
    sym (or-front (too_short s) (outside (config_in s) a.j) (sym c.is_short.ensures ∙ c.if-is_short.true))

pub returns : goal.returns
returns c =
    let a = c.args in
    let s = store a.words.now a.bytes.now in
    sym (ap₂ ◌||◌ (sym c.is_short.ensures ∙ c.if-is_short.false) (outside-as s a.j c.header-k.ensures c.outside.ensures refl))
