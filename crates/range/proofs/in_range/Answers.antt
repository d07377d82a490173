use mathlib.Core.Bool.{◌&&◌, and-true}
use mathlib.Core.Path.{sym, ◌∙◌}
use lib.Dec.{leb, ltb}
use Rattle.allotment.specs.Allotment.{top_request}
use Rattle.words.proofs.Tests.{both}
use Rattle.lists.proofs.Laws.{is}
use Rattle.node.specs.Figures.{top_version}
use Rattle.range.specs.Range.{in_range}
use Rattle.range.proofs.Keeps.{free-ok}
use Rattle.range.proofs.in_range.Goals as goal

pub returns : goal.returns
unfolding in_range
returns c =
    let n = c.args.c in
    both (both c.config_ok.ensures
    c.is_node.ensures)
    (both (sym (and-true (leb n.version top_version)) ∙ sym (both (is (leb n.version top_version))
    (free-ok (ltb 0 n.version) n.setup)))
    (both (is (leb n.demand top_request && leb n.request top_request))
    (both (both c.below.ensures c.member.ensures)
    (both c.phase_ok.ensures c.epoch_ok.ensures))))
