use mathlib.Core.Path.{refl, sym, ap, ◌∙◌}
use mathlib.Core.Bool.{Bool, ◌&&◌}
use native.Mathlib.Omega.{arith}
use borrow.Author.Tests.{leb-true}
use lib.Dec.{leb}
use Rattle.words.proofs.Tests.{hit, skip, and_left}
use Rattle.allotment.specs.Allotment.{top_request}
use Rattle.machine.proofs.timed.give_one.Goals as goal

pub returns-then-not-d-up : goal.returns-then-not-d-up
returns-then-not-d-up c =
    let a = c.args in
    sym (skip _ _ _ _ (ap (λ (u : Bool). leb a.d top_request && u) (sym c.is_up-up.ensures) ∙ c.if-not-d-up.true) refl)

pub overflow_cast-d : goal.overflow_cast-d
overflow_cast-d c =
    let a = c.args in
    let k = leb-true a.d top_request (and_left _ _ (c.if-not-d-up.false)) in
    omega (arith, k)

pub returns : goal.returns
returns c =
    let a = c.args in
    c.want_at.ensures
    ∙ sym (hit _ _ _ (ap (λ (u : Bool). leb a.d top_request && u) (sym c.is_up-up.ensures) ∙ c.if-not-d-up.false))
