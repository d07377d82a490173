use mathlib.Core.Path.{sym, ◌∙◌}
use native.Mathlib.Omega.{arith}
use Rattle.desk.proofs.listing.Rows.{line-tried, rows_none, rows_next}
use Rattle.desk.proofs.listing.put_rows.Goals as goal

pub loop-i-preserved : goal.loop-i-preserved
loop-i-preserved c =
    let l = c.loop-i in (
      omega arith,
      c.put_row-at.auto.out ∙ l.invariant.1,
      rows_next _ _ _ _ _ c.loop-i-test.true (line-tried c.put_row-at.ensures) ∙ l.invariant.2,
    )

pub returns : goal.returns
returns c = sym (rows_none _ _ _ _ _ (omega arith)) ∙ c.loop-i.invariant.2
