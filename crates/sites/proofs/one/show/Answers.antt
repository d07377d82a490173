use mathlib.Core.Path.{◌∙◌}
use borrow.Author.Tests.{ltb-false}
use lib.Dec.{ltb}
use lib.ListN.{length}
use Rattle.words.proofs.Tests.{or-neither}
use Rattle.machine.specs.Layout.{store, too_short}
use Rattle.machine.proofs.Whole.{long-enough, has-place}
use Rattle.sites.specs.one.Calls.{shown_size}
use Rattle.sites.proofs.one.Laws.{outside-is, no_room, no_node, shows}
use Rattle.sites.proofs.one.show.Goals as goal

pub returns-then-short-out : goal.returns-then-short-out
returns-then-short-out c =
    let a = c.args in
    let whole = no_room (store a.words.now a.bytes.now) a.j a.out.now c.if-short-out.true in record {
      value = whole.0;
      out_after = whole.1;
    }

pub returns-then-outside : goal.returns-then-outside
returns-then-outside c =
    let a = c.args in
    let s = store a.words.now a.bytes.now in
    let few = c.if-short-out.false in
    let h = (or-neither (too_short s) (ltb (length a.out.now) shown_size) few).0 in
    let whole = no_node s a.j a.out.now few
    (outside-is s a.j h c.header-k.ensures c.outside.ensures ∙ c.if-outside.true) in record {
      value = whole.0;
      out_after = whole.1;
    }

pub put_node-requires : goal.put_node-requires
put_node-requires c =
    let a = c.args in
    let s = store a.words.now a.bytes.now in
    let q = or-neither (too_short s) (ltb (length a.out.now) shown_size) c.if-short-out.false in
    let w = long-enough s q.0 in
    let o = outside-is s a.j q.0 c.header-k.ensures c.outside.ensures
    ∙ c.if-outside.false in
    (ltb-false _ _ q.1, has-place s a.j w.0 w.1 o)

pub returns : goal.returns
returns c =
    let a = c.args in
    let s = store a.words.now a.bytes.now in
    let few = c.if-short-out.false in
    let h = (or-neither (too_short s) (ltb (length a.out.now) shown_size) few).0 in
    let o = outside-is s a.j h c.header-k.ensures c.outside.ensures ∙ c.if-outside.false in
    let whole = shows s a.j a.out.now few o c.put_node.ensures.is in record {
      value = whole.0;
      out_after = whole.1;
    }
