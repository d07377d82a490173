use mathlib.Core.Path.{ap, ◌∙◌}
use Prim.Native.Nat.{ℕ}
use Rattle.membership.specs.counters.Counters.{with_self, members_of}
use Rattle.membership.proofs.counters.Laws.{self-with}
use Rattle.membership.proofs.counters.members_of.Goals as goal

pub returns : goal.returns
unfolding members_of
returns c =
    let a = c.args in
    c.with_self.ensures ∙ ap (λ (w : ℕ). with_self w a.node) c.heard_often.ensures ∙ self-with _ a.node
