use Rattle.std.proofs.Common.{◌≡◌, List, ℕ, length, min, ap, ◌∙◌, arith}
use Rattle.words.proofs.Tests.{both}
use Rattle.lists.specs.All.{at_most, bounded}
use Rattle.lists.proofs.Laws.{cut}
use Rattle.lists.proofs.all_fit.Goals as goal

pub returns : goal.returns
unfolding bounded
returns c =
    let s = c.args.s.now in
    let m = c.args.m in
    let k : c.min.result ≡ min m (length s) = omega arith in
    let e = cut s m c.min.result k in
    both (c.all_at_most.ensures ∙ ap (λ (l : List ℕ). at_most l c.args.top) (c.split_at.ensures.front ∙ e.0))
    (c.all_at_most-2.ensures ∙ ap (λ (l : List ℕ). at_most l 0) (c.split_at.ensures.back ∙ e.1))
