-- After i turns the first owners are written with their commas, and the text of the others is left.
use Rattle.lists.proofs.Chain.{start, finish, end, leftover, none, recast, retry}
use Rattle.text.specs.Write.{decimal}
use Rattle.desk.proofs.listing.Laws.{more-end, owners-none, owners-left, owners-turn}
use mathlib.Core.Path.{sym, ap}
use native.Mathlib.Omega.{arith}
use Rattle.desk.proofs.listing.put_owners.Goals as goal

pub returns-in_default : goal.returns-in_default
returns-in_default c = recast (sym (owners-none _ c.in_default.ensures.cases)) (none _ _)

pub loop-owner-init : goal.loop-owner-init
loop-owner-init c =
    let q = owners-left _ _ c.in-Some.ensures.cases.0 c.requires (retry (ap decimal c.from.ensures) c.put_number-pos.ensures) in
    start _ _ _ q.room

pub loop-owner-preserved : goal.loop-owner-preserved
loop-owner-preserved c =
    owners-turn _ _ c.loop-owner-test.true c.loop-owner.invariant c.put_byte-pos.ensures
    (retry (ap decimal c.from-in-loop-owner.ensures) c.put_number-pos-in-loop-owner.ensures)

pub returns : goal.returns
returns c =
    let q = owners-left _ _ c.in-Some.ensures.cases.0 c.requires (retry (ap decimal c.from.ensures) c.put_number-pos.ensures) in
    finish _ q (end (leftover (more-end _ _ c.loop-owner-test.false) c.loop-owner.invariant))
