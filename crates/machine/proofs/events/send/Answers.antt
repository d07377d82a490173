use mathlib.Core.Path.{◌∙◌}
use Rattle.site.specs.declared.Event.TheVariants.{Send}
use Rattle.machine.specs.Layout.{store}
use Rattle.machine.proofs.steps.Acts.{area-sent}
use Rattle.machine.proofs.steps.Whole.{told-long}
use Rattle.machine.proofs.events.send.Goals as goal

pub invariant_of-header : goal.invariant_of-header
invariant_of-header c =
    let a = c.args in
    let p = told-long (store a.words.now a.bytes.now) a.area.now (Send a.j) c.requires in
    record { long = (p.0, p.1.0) }

pub returns : goal.returns
returns c =
    let a = c.args in
    let s = store a.words.now a.bytes.now in
    let o = c.send_into.ensures in record {
      bytes_after = o.bytes_after;
      area_after = o.area_after ∙ area-sent s a.j a.area.now c.header-k.ensures
          c.packets.ensures;
    }
