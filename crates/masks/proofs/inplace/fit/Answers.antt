use mathlib.Core.Bool.{Bool, ◌&&◌}
use borrow.Author.Tests.{leb-true}
use lib.Dec.{eqb}
use Rattle.words.proofs.Tests.{both, and_right}
use Rattle.masks.specs.Bytes.{masks_in, fitting, fit_read}
use Rattle.masks.specs.Bytes.{rest_blank}
use Rattle.masks.proofs.Parts.{Bytes}
use Rattle.masks.proofs.Rows.{sized}
use Rattle.masks.proofs.Fits.{first-fit, blank-fits}
use mathlib.Core.Path.{sym, ap, ◌∙◌}
use native.Mathlib.Omega.{arith}
use Rattle.masks.proofs.inplace.fit.Goals as goal

pub returns-then-not-has_room : goal.returns-then-not-has_room
unfolding fit_read
returns-then-not-has_room c = let a = c.args in sym
    (ap (λ (t : Bool). t && fitting (masks_in a.s.now a.at) a.k a.n)
    (sym c.has_room.ensures ∙ c.if-not-has_room.true))

pub is_unused-requires : goal.is_unused-requires
is_unused-requires c = leb-true _ _ (sym c.has_room.ensures ∙ c.if-not-has_room.false)

pub returns-then-is_unused : goal.returns-then-is_unused
unfolding fit_read
returns-then-is_unused c =
    let a = c.args in
    let h = sym c.has_room.ensures ∙ c.if-not-has_room.false in
    sym (both h (blank-fits a.s.now a.at a.k a.n (leb-true _ _ h)
    (and_right (eqb a.k 0) _ (sym c.is_unused.ensures ∙ c.if-is_unused.true))))

pub rows_fit-requires : goal.rows_fit-requires
rows_fit-requires c = (
  leb-true _ _ (sym c.has_room.ensures ∙ c.if-not-has_room.false),
  omega
      (arith, c.min-top.ensures),
)

pub returns-then-not-rows_fit : goal.returns-then-not-rows_fit
unfolding fit_read
returns-then-not-rows_fit c =
    let a = c.args in
    let s = a.s.now in
    let m = masks_in s a.at in
    let h = sym c.has_room.ensures
    ∙ c.if-not-has_room.false in
    let y : Bytes s = λ i g. omega (arith, c.type_inv.s i) in
    let z = sized s y a.at (leb-true _ _ h) in
    let r = sym c.rows_fit.ensures ∙ c.if-not-rows_fit.true in
    sym (both h (sym (first-fit m z a.k a.n c.min-top.result c.min-top.ensures)
    ∙ ap (λ (t : Bool). t && rest_blank m c.min-top.result) r))

pub rest_blank-requires : goal.rest_blank-requires
rest_blank-requires c = (
  leb-true _ _ (sym c.has_room.ensures
      ∙ c.if-not-has_room.false),
  omega (arith, c.min-top.ensures),
)

pub returns : goal.returns
unfolding fit_read
returns c =
    let a = c.args in
    let s = a.s.now in
    let m = masks_in s a.at in
    let h = sym c.has_room.ensures
    ∙ c.if-not-has_room.false in
    let y : Bytes s = λ i g. omega
    (arith, c.type_inv.s i) in
    let z = sized s y a.at (leb-true _ _ h) in
    let r = sym c.rows_fit.ensures ∙ c.if-not-rows_fit.false in
    sym (both h (sym (first-fit m z a.k a.n c.min-top.result
    c.min-top.ensures) ∙ both r (sym c.rest_blank.ensures)))
