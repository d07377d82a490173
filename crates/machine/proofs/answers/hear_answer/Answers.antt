use mathlib.Core.Path.{ap, ◌∙◌}
use Prim.Native.Nat.{ℕ}
use Rattle.wire.specs.Reads.{part_of}
use Rattle.machine.specs.Layout.{store, site_in}
use Rattle.machine.specs.steps.After.{site_heard}
use Rattle.machine.proofs.steps.Asked.{heard-there}
use Rattle.machine.proofs.answers.hear_answer.Goals as goal

pub returns : goal.returns
returns c =
    let a = c.args in
    let s = site_in (store a.m.words.now a.m.bytes.now) in
    c.heard_answer.ensures ∙ ap (λ (i : ℕ). site_heard s (part_of a.area.now i) a.j a.p) c.part_of.ensures
    ∙ heard-there s a.area.now a.j a.p
