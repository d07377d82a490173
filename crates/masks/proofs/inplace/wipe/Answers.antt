use mathlib.Core.Path.{refl, sym, ◌∙◌}
use Rattle.masks.proofs.Moves.{zeros-again}
use Rattle.masks.proofs.inplace.wipe.Goals as goal

pub shape_of-s-then-is_blank : goal.shape_of-s-then-is_blank
shape_of-s-then-is_blank c = refl

pub returns-then-is_blank : goal.returns-then-is_blank
returns-then-is_blank c = zeros-again c.args.s.now c.args.from 176 c.requires
    (sym c.is_blank.ensures ∙ c.if-is_blank.true)

pub returns : goal.returns
returns c = c.zeros.ensures
