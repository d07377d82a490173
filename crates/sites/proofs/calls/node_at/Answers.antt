use mathlib.Core.Path.{ap, ◌∙◌}
use mathlib.Core.List.{[]}
use Rattle.machine.specs.Layout.{Store}
use Rattle.sites.specs.one.Calls.{showing, out_node}
use Rattle.sites.specs.many.Memory.{memory}
use Rattle.sites.proofs.many.Memories.{cut-store}
use Rattle.sites.proofs.calls.node_at.Goals as goal

pub returns : goal.returns
returns c =
    let a = c.args in
    let m = memory a.words.now a.bytes.now [] in
    let e = cut-store m a.i in
    let o = c.show.ensures in record {
      value = o.value ∙ ap (λ (s : Store). showing s a.j a.out.now) e;
      out_after = o.out_after ∙ ap (λ (s : Store). out_node s a.j a.out.now) e;
    }
