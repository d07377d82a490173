use Rattle.std.proofs.Common.{rules}
use Rattle.text.specs.Read.{split}
use lib.ListN.{drop}
use native.Mathlib.Omega.{arith}
use mathlib.Core.Path.{◌≡◌, refl, sym, ◌∙◌}
use Prim.Native.Nat.{◌+◌}
use Rattle.script.specs.load.Opening.{empty_table, table_lines}
use Rattle.script.specs.load.Inner.{Stops}
use Rattle.script.proofs.lines.Lines.{whole}
use Rattle.script.proofs.load.Laws.{rows-stop, rows-bad, rows-good, rows_none, stops_same}
use Rattle.script.proofs.load.rows.Goals as goal

pub returns-in_err-e : goal.returns-in_err-e
returns-in_err-e c =
    let h : Stops c.args.config (table_lines c.args.config c.args.config.nodes 0 4 empty_table (split 10 (drop c.args.from c.args.s.now)))
    c.in_err-e.field-0.0
    = stops_same c.loop-i.invariant.1 (rows-stop _ _ _ _ _ c.loop-i-test.true c.args.s.now c.loop-i.at c.in_err-e.ensures.line) in
    search rules

pub returns-in_default : goal.returns-in_default
returns-in_default c =
    let w = whole _ _ _ c.in_ok-e.ensures.line in
    record {
      is = c.loop-i.invariant.1
          ∙ rows-bad _ _ _ _ _ c.loop-i-test.true _ _ w refl (sym c.row_in.ensures ∙ c.in_default.is);
      config = refl;
    }

pub loop-i-preserved : goal.loop-i-preserved
loop-i-preserved c =
    let w = whole _ _ _ c.in_ok-e.ensures.line in
    let z : 4 + (c.loop-i.i + 1) ≡ 4 + c.loop-i.i + 1 = omega arith in (
      omega (arith, w.within),
      c.loop-i.invariant.1
          ∙ rows-good _ _ _ _ _ c.loop-i-test.true _ _ w refl _ _ (sym c.row_in.ensures ∙ c.in-Some.is) z,
    )

pub returns : goal.returns
returns c = record { is = c.loop-i.invariant.1 ∙ rows_none _ _ _ _ _ _ (omega arith); within = c.loop-i.invariant.0 }
