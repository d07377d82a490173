use mathlib.Core.Path.{sym, ◌∙◌}
use Prim.Native.Nat.{◌+◌, ◌≤◌}
use native.Mathlib.Omega.{arith}
use lib.ListN.{length}
use borrow.Author.Tests.{leb-true, leb-false}
use Rattle.lists.proofs.Chain.{tried, not-tried}
use Rattle.text.proofs.Decimal.{digits-at-most}
use Rattle.desk.specs.listing.Inner.{field}
use Rattle.desk.proofs.listing.Laws.{field-length, field_put}
use Rattle.desk.proofs.listing.put_field.Goals as goal

pub overflow_add-width : goal.overflow_add-width
overflow_add-width c = omega (arith, c.width.ensures, digits-at-most 10 c.args.x)

pub returns-then-not-has_room : goal.returns-then-not-has_room
returns-then-not-has_room c =
    let a = c.args in
    let r = c.has_room in
    let w = c.width in
    let h = leb-false (a.at + (w.result + 1)) (length a.out.now) (sym r.ensures ∙ c.if-not-has_room.true) in
    not-tried a.out.now (field a.x) a.at (omega (arith, h, w.ensures, field-length a.x))

pub returns : goal.returns
returns c =
    let a = c.args in
    let r = c.has_room in
    let w = c.width in
    let h = leb-true (a.at + (w.result + 1)) (length a.out.now)
    (sym r.ensures ∙ c.if-not-has_room.false) in
    let k : a.at + length (field a.x) ≤ length a.out.now = omega (arith, h, w.ensures, field-length a.x) in
    tried k (field_put a.x k c.put_number-a.ensures c.put_byte.ensures)
