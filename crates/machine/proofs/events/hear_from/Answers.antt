use mathlib.Core.Path.{ap, ◌∙◌}
use Rattle.wire.specs.Reads.{part_of}
use Rattle.machine.specs.Layout.{Store, store, site_in}
use Rattle.machine.proofs.Seats.{in-config}
use Rattle.machine.proofs.steps.Asked.{heard-out}
use Rattle.machine.proofs.steps.Acts.{heard-put}
use Rattle.machine.proofs.steps.Whole.{part-long}
use Rattle.machine.proofs.events.hear_from.Goals as goal

pub returns : goal.returns
returns c =
    let a = c.args in
    let s = store a.words.now a.bytes.now in
    let part = part_of a.area.now a.at in
    let p = part-long s part a.j a.p c.requires in
    let z = heard-put s p.0 p.1.0 a.j (in-config s a.j (heard-out (site_in s) part a.j a.p p.1.1)) part
    c.packet_of-packet.ensures in record {
      words_after = c.hear.ensures.words_after ∙ ap (λ (x : Store). x.words) z;
      bytes_after = c.hear.ensures.bytes_after ∙ ap (λ (x : Store). x.bytes) z;
    }
