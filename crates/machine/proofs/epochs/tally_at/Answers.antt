use mathlib.Core.Path.{refl, sym, ap, ◌∙◌}
use borrow.Author.Tests.{eq-eqb, ne_eqb}
use lib.Dec.{eqb}
use Rattle.words.proofs.Tests.{hit, skip}
use Rattle.site.specs.declared.SiteHeader.{SiteHeader}
use Rattle.machine.specs.Layout.{store, site_in}
use Rattle.tally.specs.Counting.{counted_by}
use Rattle.tally.specs.Ends.{schedules_of, tally_at}
use Rattle.tally.proofs.Valid.{counted-by}
use Rattle.machine.proofs.epochs.tally_at.Goals as goal

pub returns-then-k-eq0 : goal.returns-then-k-eq0
unfolding tally_at
returns-then-k-eq0 c =
    let s = store c.args.m.words.now c.args.m.bytes.now in
    let k = c.header-k.ensures in
    c.counted.ensures ∙ ap (counted_by c.args.t) c.slots_held.ensures
    ∙ counted-by c.args.t (schedules_of (site_in s)) ∙ sym (hit _ _ _ (sym (ap (λ (x : SiteHeader). eqb x.place 0) k)
    ∙ eq-eqb _ _ c.if-k-eq0.true))

pub returns : goal.returns
unfolding tally_at
returns c =
    let s = store c.args.m.words.now c.args.m.bytes.now in
    let k = c.header-k.ensures in
    sym (skip _ _ _ _ (sym (ap (λ (x : SiteHeader). eqb x.place 0) k) ∙ ne_eqb _ _ c.if-k-eq0.false) refl)
