use mathlib.Core.Path.{refl, sym, ◌∙◌}
use Rattle.words.proofs.Tests.{hit, skip}
use Rattle.sites.specs.one.Calls.{showing_of, out_node_of}
use Rattle.sites.proofs.one.hydra_site_node.Goals as goal

pub returns-then-lacks : goal.returns-then-lacks
unfolding showing_of out_node_of
returns-then-lacks c =
    let h = sym c.lacks.ensures ∙ c.if-lacks.true in record {
      value = sym (hit _ _ _ h);
      out_after = sym (hit _ _ _ h);
    }

pub returns : goal.returns
unfolding showing_of out_node_of
returns c =
    let h = sym c.lacks.ensures ∙ c.if-lacks.false in
    let o = c.show.ensures in record {
      value = o.value ∙ sym (skip _ _ _ _ h refl);
      out_after = o.out_after ∙ sym (skip _ _ _ _ h refl);
    }
