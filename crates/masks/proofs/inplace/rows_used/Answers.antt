use mathlib.Core.Bool.{Bool, ◌&&◌, and-false}
use mathlib.Core.Path.{refl, sym, ap, ◌∙◌}
use native.Mathlib.Omega.{arith}
use borrow.Author.Tests.{lt-ltb, le-ltb, leb-true}
use lib.Dec.{ltb}
use Rattle.words.proofs.Tests.{hit, skip, both}
use Rattle.masks.specs.Bytes.{has_room, masks_in, rest_blank, rows_used}
use Rattle.masks.proofs.inplace.rows_used.Goals as goal

pub returns-then-n-ge32 : goal.returns-then-n-ge32
unfolding rows_used
returns-then-n-ge32 c =
    let a = c.args in
    sym (skip _ _ _ _ (ap (λ (t : Bool). t && (has_room a.s.now a.at && rest_blank (masks_in a.s.now a.at) a.n))
    (le-ltb a.n 32 (omega arith))) refl)

pub returns-then-not-has_room : goal.returns-then-not-has_room
unfolding rows_used
returns-then-not-has_room c =
    let a = c.args in
    let e = sym c.has_room.ensures ∙ c.if-not-has_room.true in
    sym (skip _ _ _ _ (ap (λ (t : Bool). ltb a.n 32 && (t && rest_blank (masks_in a.s.now a.at) a.n)) e
    ∙ and-false (ltb a.n 32)) refl)

pub rest_blank-requires : goal.rest_blank-requires
rest_blank-requires c = (leb-true _ _ (sym c.has_room.ensures ∙ c.if-not-has_room.false), omega arith)

pub returns-then-rest_blank : goal.returns-then-rest_blank
unfolding rows_used
returns-then-rest_blank c =
    let a = c.args in
    let h = sym c.has_room.ensures ∙ c.if-not-has_room.false in
    sym (hit _ _ _ (both (lt-ltb a.n 32 (omega arith)) (both h (sym c.rest_blank.ensures ∙ c.if-rest_blank.true))))

pub returns : goal.returns
unfolding rows_used
returns c =
    let a = c.args in
    let h = sym c.has_room.ensures ∙ c.if-not-has_room.false in
    sym (skip _ _ _ _ (both (lt-ltb a.n 32 (omega arith)) (both h (sym c.rest_blank.ensures ∙ c.if-rest_blank.false))) refl)
