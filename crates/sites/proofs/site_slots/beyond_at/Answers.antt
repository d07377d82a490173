-- A slot that is not taken has nothing; of a taken one the packets of its part are counted.
use mathlib.Core.Path.{refl, sym, ap}
use native.Mathlib.Omega.{arith}
use borrow.Author.Tests.{ne_eqb}
use Rattle.words.proofs.Tests.{skip}
use Rattle.group.specs.Group.{beyond}
use Rattle.sites.specs.many.Memory.{memory, site_slot_in}
use Rattle.sites.proofs.many.Memories.{taken-beyond}
use Rattle.sites.proofs.site_slots.beyond_at.Goals as goal

pub returns-then-table-i-ne1-clause-value : goal.returns-then-table-i-ne1-clause-value
unfolding site_slot_in
returns-then-table-i-ne1-clause-value c = sym (ap beyond (skip _ _ _ _ (ne_eqb _ _ c.if-table-i-ne1.true) refl))

pub returns-clause-value : goal.returns-clause-value
returns-clause-value c =
    let a = c.args in
    let q = taken-beyond (memory a.words.now a.bytes.now a.table.now) a.i c.if-table-i-ne1.false c.packets-n.ensures.value in
    omega (arith, q, c.saturating_sub.ensures)
