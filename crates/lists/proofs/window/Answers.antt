use Rattle.std.proofs.Common.{take, ap, ◌∙◌}
use Rattle.lists.proofs.Laws.{window-front}
use Rattle.lists.proofs.window.Goals as goal

pub returns-in-Some : goal.returns-in-Some
returns-in-Some g c =
    let n = g.row.N in
    let s = c.args.s.now in
    let at = c.args.at in
    let h = c.in-Some.ensures.cases in
    let r = c.behind-rest.ensures in
    h.same ∙ ap (take n) r ∙ window-front n s at (rw r at h.enough)
