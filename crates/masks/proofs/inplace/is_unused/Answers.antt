use mathlib.Core.Bool.{Bool, ◌&&◌}
use mathlib.Core.Path.{sym, ap, ◌∙◌}
use borrow.Author.Tests.{eq-eqb, ne_eqb}
use Rattle.lists.specs.All.{bounded}
use Rattle.lists.specs.Bytes.{span}
use Rattle.masks.specs.Bytes.{masks_size}
use Rattle.masks.proofs.inplace.is_unused.Goals as goal

pub returns-then-k-eq0 : goal.returns-then-k-eq0
returns-then-k-eq0 c =
    let a = c.args in
    c.is_blank.ensures ∙ sym (ap (λ (t : Bool). t && bounded (span a.s.now a.from masks_size) 0 0)
    (eq-eqb _ _ c.if-k-eq0.true))

pub returns : goal.returns
returns c =
    let a = c.args in
    sym (ap (λ (t : Bool). t && bounded (span a.s.now a.from masks_size) 0 0) (ne_eqb _ _ c.if-k-eq0.false))
