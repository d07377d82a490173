use mathlib.Core.Path.{sym, ◌∙◌, refl}
use borrow.Author.Tests.{lt-ltb, le-ltb}
use Rattle.words.proofs.Tests.{hit, skip}
use Rattle.membership.specs.counters.Counters.{with_self}
use Rattle.membership.proofs.counters.with_self.Goals as goal

pub returns-then-j-gt0 : goal.returns-then-j-gt0
unfolding with_self
returns-then-j-gt0 c = c.with.ensures ∙ sym (hit _ _ _ (lt-ltb _ _ c.if-j-gt0.true))

pub returns-else-j-gt0 : goal.returns-else-j-gt0
unfolding with_self
returns-else-j-gt0 c = sym (skip _ _ _ _ (le-ltb _ _ c.if-j-gt0.false) refl)
