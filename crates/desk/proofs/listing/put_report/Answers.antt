-- One test of room, then number, space, number and byte 10, side by side.
use mathlib.Core.Path.{sym, ap, ◌∙◌}
use Rattle.node.specs.Answers.{number, is_done}
use Prim.Native.Nat.{◌+◌, ◌≤◌}
use native.Mathlib.Omega.{arith}
use lib.ListN.{length}
use borrow.Author.Tests.{leb-true, leb-false}
use Rattle.lists.proofs.Chain.{tried, not-tried, retry}
use Rattle.text.proofs.Decimal.{digits-at-most}
use Rattle.desk.specs.listing.Rows.{report_line}
use Rattle.desk.proofs.listing.Laws.{tried-none, report-none, report-some, report-length}
use Rattle.desk.proofs.listing.put_report.Goals as goal

pub returns-in_default : goal.returns-in_default
returns-in_default c = retry (sym (report-none _ _ (ap is_done c.in_default.is))) (tried-none _ _)

pub overflow_add-width : goal.overflow_add-width
overflow_add-width c = omega (
  arith,
  c.width-2.ensures,
  c.width.ensures,
  digits-at-most 10 c.args.line,
  digits-at-most 10 c.from-code.result,
)

pub overflow_add-width-2 : goal.overflow_add-width-2
overflow_add-width-2 c = omega (
  arith,
  c.width-2.ensures,
  c.width.ensures,
  digits-at-most 10 c.args.line,
  digits-at-most 10 c.from-code.result,
)

pub returns-then-not-has_room : goal.returns-then-not-has_room
returns-then-not-has_room c =
    let a = c.args in
    let r = c.has_room in
    let v = c.width in
    let w = c.width-2 in
    let h = leb-false (a.at + (v.result + w.result + 2)) (length a.out.now) (sym r.ensures ∙ c.if-not-has_room.true)
    in
    retry (report-some _ _ _ (ap is_done c.in-Err.is) (c.from-code.ensures ∙ sym (ap number c.in-Err.is)))
    (not-tried a.out.now (report_line a.line c.from-code.result) a.at
    (omega (arith, h, w.ensures, v.ensures, report-length a.line c.from-code.result)))

pub report-requires : goal.report-requires
report-requires c =
    let a = c.args in
    let r = c.has_room in
    let v = c.width in
    let w = c.width-2 in
    let h = leb-true (a.at + (v.result + w.result + 2)) (length a.out.now)
    (sym r.ensures ∙ c.if-not-has_room.false) in
    omega (arith, h, w.ensures, v.ensures, report-length a.line c.from-code.result)

pub returns : goal.returns
returns c =
    let a = c.args in
    let r = c.has_room in
    let v = c.width in
    let w = c.width-2 in
    let h = leb-true (a.at + (v.result + w.result + 2)) (length a.out.now)
    (sym r.ensures ∙ c.if-not-has_room.false) in
    let k : a.at + length (report_line a.line c.from-code.result) ≤ length a.out.now =
    omega (arith, h, w.ensures, v.ensures, report-length a.line c.from-code.result) in
    retry (report-some _ _ _ (ap is_done c.in-Err.is) (c.from-code.ensures ∙ sym (ap number c.in-Err.is)))
    (tried k c.report.ensures)
