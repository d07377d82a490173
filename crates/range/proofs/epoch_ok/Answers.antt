use mathlib.Core.Bool.{not, ◌||◌}
use mathlib.Core.Path.{◌≡◌, sym, ap, ◌∙◌}
use lib.Dec.{ltb}
use lib.ListN.{length}
use borrow.Author.Rules.{rules}
use borrow.Author.Tests.{le-ltb, lt-ltb}
use Rattle.words.proofs.Tests.{both}
use Rattle.lists.proofs.Laws.{is}
use Rattle.lists.specs.All.{bounded}
use Rattle.node.specs.Figures.{top_version}
use Rattle.range.specs.Range.{epoch_ok}
use Rattle.range.proofs.Keeps.{free-ok}
use Rattle.range.proofs.epoch_ok.Goals as goal

pub returns-then-s-c : goal.returns-then-s-c
unfolding epoch_ok
returns-then-s-c c = sym (both (le-ltb _ _ c.if-s-c.true) (is _))

pub slice_bounds-all_fit-end : goal.slice_bounds-all_fit-end
slice_bounds-all_fit-end c = let long : length c.args.c.counters ≡ 32 = search rules in sym long

pub returns : goal.returns
unfolding epoch_ok
returns c =
    let n = c.args.c in
    let may = not n.updated || ltb n.version top_version in
    both (both (c.all_fit-counted.ensures ∙ ap (bounded n.counters n.setup.config.nodes)
    c.closes_of.ensures) c.below-interactions.ensures)
    (sym (both (free-ok n.updated n.setup) (is may)))
    ∙ sym (both (lt-ltb _ _ c.if-s-c.false) (is _))
