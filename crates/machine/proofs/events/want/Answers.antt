use mathlib.Core.Path.{ap, ◌∙◌}
use Rattle.machine.specs.Layout.{Store, store}
use Rattle.machine.proofs.Whole.{at_place}
use Rattle.machine.proofs.steps.Acts.{wanted-put}
use Rattle.machine.proofs.events.want.Goals as goal

pub returns : goal.returns
returns c =
    let a = c.args in
    let s = store a.words.now a.bytes.now in
    let p = at_place s a.j c.requires.0 in
    let z = wanted-put s p.0 p.1.0 a.j p.1.1 a.d in
    c.want.ensures ∙ ap (λ (x : Store). x.bytes) z
