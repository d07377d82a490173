use mathlib.Core.Path.{ap, ◌∙◌}
use Rattle.machine.specs.Layout.{Store, store}
use Rattle.machine.proofs.Whole.{at_place}
use Rattle.machine.proofs.steps.Acts.{taken-put}
use Rattle.machine.proofs.events.take.Goals as goal

pub returns : goal.returns
returns c =
    let a = c.args in
    let s = store a.words.now a.bytes.now in
    let p = at_place s a.j c.requires.0 in
    let q = at_place s a.g c.requires.1 in
    let z = taken-put s p.0 p.1.0 a.j p.1.1 a.g q.1.1 in record {
      words_after = c.take.ensures.words_after ∙ ap (λ (x : Store). x.words) z;
      bytes_after = c.take.ensures.bytes_after ∙ ap (λ (x : Store). x.bytes) z;
    }
