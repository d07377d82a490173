use mathlib.Core.Path.{ap, ◌∙◌}
use Prim.Native.Nat.{ℕ, ◌+◌}
use lib.ListN.{set}
use Rattle.node.specs.Core.{bare}
use Rattle.node.specs.declared.Core.{Core}
use Rattle.node.proofs.Laws.{wants}
use Rattle.machine.specs.Layout.{node_bytes_at}
use Rattle.machine.proofs.acts.want_at.Goals as goal

pub returns : goal.returns
returns c =
    let a = c.args in
    c.put_demand.ensures
    ∙ ap (λ (k : ℕ). set a.bytes.now (node_bytes_at a.i + 1) k)
    (ap (λ (x : Core). x.demand) c.want-next.ensures ∙ (wants (bare c.core-c.result) a.d).demand)
