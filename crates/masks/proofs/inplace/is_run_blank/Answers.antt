use mathlib.Core.Path.{◌∙◌}
use native.Mathlib.Omega.{arith}
use Rattle.words.proofs.Tests.{both}
use Rattle.masks.proofs.Moves.{both_ends}
use Rattle.masks.proofs.inplace.is_run_blank.Goals as goal

pub returns : goal.returns
returns c =
    let a = c.args in
    both c.is_blank-2.ensures c.is_blank-3.ensures
    ∙ both_ends a.s.now a.from a.n a.m (omega arith) c.requires.1
